-- Members of lists, with and without one.
use Rattle.std.proofs.Common.{◌≡◌, ℕ, ◌==◌, Bool, true, false, cond, not, List, [], ◌∷◌, Some, refl, sym, ap, ◌∙◌, ◌⊎◌, inl, inr, ⊎_elim, zero, suc}
use Rattle.std.specs.Prelude.{bytes_eq}
use Rattle.std.proofs.lemmas.Bool.{or_left, or_right}
use Rattle.conflict_order.specs.declared.version.Version.{Version}
use Rattle.conflict_order.specs.Contents.{is_among}
use Rattle.cluster_types.specs.Distinct.{without, contains}
use Rattle.cluster_laws.specs.Licences.{IsAmong}
use Rattle.cluster_laws.proofs.At.{digests, number_same, differ, or_cases}

-- what is in the list is in it without another
pub contains_without : (xs : List ℕ) (a b : ℕ) → contains xs b ≡ true → (b ≡ a → ⊥) → contains (without xs a) b ≡ true
contains_without [] a b e apart = differ e refl
contains_without (x ∷ xs) a b e apart = go (x == a) refl (or_cases (x == b) (contains xs b) e) (λ z. contains_without xs a b z apart)
  where
    go : (c : Bool) → (x == a) ≡ c → ((x == b) ≡ true) ⊎ (contains xs b ≡ true) → (contains xs b ≡ true → contains (without xs a) b ≡ true)
        → contains (cond (not c) (x ∷ without xs a) (without xs a)) b ≡ true
    go true i (inl z) rest = absurd (apart (sym (number_same x b z) ∙ number_same x a i))
    go true i (inr z) rest = rest z
    go false i (inl z) rest = or_left (x == b) (contains (without xs a) b) z
    go false i (inr z) rest = or_right (x == b) (contains (without xs a) b) (rest z)

pub not_in_without : (xs : List ℕ) (a b : ℕ) → contains (without xs a) b ≡ false → (b ≡ a → ⊥) → contains xs b ≡ false
not_in_without xs a b e apart = go (contains xs b) refl
  where
    go : (c : Bool) → contains xs b ≡ c → c ≡ false
    go true i = differ (contains_without xs a b i apart) e
    go false i = refl

-- a digest that is among records stands there with a version
pub record Found (records : List (List ℕ × Version)) (d : List ℕ) : Type 0 where
  pub version : Version
  pub among : IsAmong records d version

pub among_found : (records : List (List ℕ × Version)) (d : List ℕ) → is_among records d ≡ true → Found records d
among_found [] d e = differ e refl
among_found (r ∷ rs) d e = ⊎_elim
    (λ z. record { version = r.1; among = record { place = zero; here = ap (λ (c : List ℕ). Some (c, r.1)) (digests.same r.0 d z) } })
    (λ z. let f : Found rs d = among_found rs d z in record { version = f.version; among = record { place = suc f.among.place; here = f.among.here } })
    (or_cases (bytes_eq r.0 d) (is_among rs d) e)

-- what is in a list without one is in the list
pub in_without : (xs : List ℕ) (a b : ℕ) → contains (without xs a) b ≡ true → contains xs b ≡ true
in_without [] a b e = e
in_without (x ∷ xs) a b e = go (x == a) refl (in_without xs a b) e
  where
    go : (c : Bool) → (x == a) ≡ c → (contains (without xs a) b ≡ true → contains xs b ≡ true) → contains (cond (not c) (x ∷ without xs a) (without xs a)) b ≡ true → contains (x ∷ xs) b ≡ true
    go true i rest z = or_right (x == b) (contains xs b) (rest z)
    go false i rest z = ⊎_elim (λ q. or_left (x == b) (contains xs b) q) (λ q. or_right (x == b) (contains xs b) (rest q)) (or_cases (x == b) (contains (without xs a) b) z)

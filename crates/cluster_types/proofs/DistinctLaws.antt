-- Lists of ids in which no id stands twice, and lists that fall.
use Rattle.std.proofs.Common.{◌≡◌, ◌≢◌, ◌==◌, ℕ, ◌+◌, ◌-◌, ◌<◌, ◌≤◌, List, ◌++◌, ◌∷◌, [], length, take, get_or, not, Contains, rules, false, refl, sym, ap, inl, inr, subst, ◌∙◌, arith, length-take, get_or-take}
use Rattle.std.proofs.lemmas.Bool.{cases_lt}
use Rattle.std.proofs.lemmas.List.{take_more, get_or_default}
use Rattle.std.proofs.lemmas.List.Elements.{All-filter, All-contains}
use Rattle.std.proofs.lemmas.List.Filters.{length-filter_both}
use Rattle.std.proofs.lemmas.List.Kept.{AllPairs-filter}
use Rattle.std.proofs.lemmas.List.Quantifiers.{all_pairs_push}
use Rattle.std.specs.Ordering.{nat_cmp, is_ge}
use Rattle.std.specs.Cmp.Rules.{comparing}
use Rattle.cluster_types.specs.Distinct.{AreDistinct, IsDescending, without}

pub none_distinct : AreDistinct []
none_distinct = record { differ = λ i j d below within. absurd (omega arith) }

-- a list of distinct ids gains a new one
pub distinct_push : (ids : List ℕ) (x : ℕ) → AreDistinct ids → ¬ (Contains ids x) → AreDistinct (ids ++ x ∷ [])
distinct_push ids x h fresh = record {
  differ = all_pairs_push (λ a b. a ≢ b) ids x h.differ (λ k d within same. fresh (k, within, get_or_default ids k x d within ∙ same));
}

pub distinct_more : (ids : List ℕ) (i x : ℕ) → i < length ids → x ≡ get_or ids i x → AreDistinct (take i ids) → ¬ (Contains (take i ids) x) → AreDistinct (take (i + 1) ids)
distinct_more ids i x within read h fresh = subst AreDistinct (sym (take_more ids i x within ∙ ap (λ y. take i ids ++ y ∷ []) (sym read))) (distinct_push (take i ids) x h fresh)

-- an id doesn't stand before its place
pub fresh_next : (ids : List ℕ) (i x : ℕ) → i < length ids → x ≡ get_or ids i x → AreDistinct ids → ¬ (Contains (take i ids) x)
fresh_next ids i x within read h (k, below, same) =
    let lower : k < i = omega (arith, length-take i ids) in
    h.differ k i x lower within (sym (get_or-take i ids k x lower) ∙ same ∙ read)

pub distinct_without : (ids : List ℕ) (gone : ℕ) → AreDistinct ids → AreDistinct (without ids gone)
distinct_without ids gone h = record { differ = AllPairs-filter (λ a b. a ≢ b) (λ n. not (n == gone)) ids h.differ }

-- what isn't among the ids isn't among fewer of them
pub fresh_without : (ids : List ℕ) (gone x : ℕ) → ¬ (Contains ids x) → ¬ (Contains (without ids gone) x)
fresh_without ids gone x fresh found =
    All-contains (λ y. y ≢ x) (without ids gone) x
    (All-filter (λ n. not (n == gone)) (λ y. y ≢ x) ids (λ k d within same. fresh (k, within, get_or_default ids k x d within ∙ same)))
    found
    refl

pub length_without : (ids : List ℕ) (gone : ℕ) → length (without ids gone) ≤ length ids
length_without ids gone = omega (arith, length-filter_both (λ n. not (n == gone)) (λ n. not (not (n == gone))) (λ n. refl) ids)

pub one_descending : (ids : List ℕ) → length ids ≤ 1 → IsDescending ids
one_descending ids short = record { falls = λ i j d lower within. absurd (omega arith) }

below_last : (ids : List ℕ) (i x y k d : ℕ) → 0 < i → i < length ids → y ≡ get_or ids (i - 1) y → x < y → IsDescending (take i ids) → k < i → x < get_or (take i ids) k d
below_last ids i x y k d above within before below h lower =
    let last : get_or (take i ids) (i - 1) d ≡ y = get_or-take i ids (i - 1) d (omega arith) ∙ get_or_default ids (i - 1) d y (omega arith) ∙ sym before in
    elim (cases_lt k (i - 1)) [
      | inl h1 ↦ omega (arith, h.falls k (i - 1) d h1 (omega (arith, length-take i ids)), last)
      | inr h2 ↦ omega (arith, last, ap (λ j. get_or (take i ids) j d) (let same : k ≡ i - 1 = omega arith in same))
    ]

pub below_unless_ge : (x y : ℕ) → false ≡ is_ge (nat_cmp x y) → x < y
below_unless_ge x y h = search (rules, comparing)

-- a falling list gains an id below its last one
pub descending_more : (ids : List ℕ) (i x y : ℕ) → 0 < i → i < length ids → x ≡ get_or ids i x → y ≡ get_or ids (i - 1) y → x < y → IsDescending (take i ids) → IsDescending (take (i + 1) ids)
descending_more ids i x y above within read before below h =
    subst IsDescending (sym (take_more ids i x within ∙ ap (λ z. take i ids ++ z ∷ []) (sym read))) (record {
      falls =
          all_pairs_push (λ a b. b < a) (take i ids) x h.falls
          (λ k d lower. below_last ids i x y k d above within before below h (omega (arith, length-take i ids)));
    })

-- a falling list is a list of distinct ids
pub descending_distinct : (ids : List ℕ) → IsDescending ids → AreDistinct ids
descending_distinct ids h = record { differ = λ i j d lower within same. absurd (omega (arith, h.falls i j d lower within, same)) }

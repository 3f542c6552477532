-- What is held of other partitions, and of what is pending, as a record comes and as a copy goes.
use Rattle.std.proofs.Common.{◌≡◌, ◌≢◌, ◌<◌, ℕ, zero, suc, Bool, true, false, not, cond, List, [], ◌∷◌, length, Option, Some, None, is_some, refl, sym, ap, ◌∙◌, arith}
use Rattle.std.specs.FinMap as map
use Rattle.std.specs.List.{list_any}
use Rattle.std.specs.Option.{IsSome}
use Rattle.std.specs.Ordering.{eq_by_cmp, nat_cmp}
use Rattle.std.specs.declared.cmp.Ordering.{Ordering}
use Rattle.std.specs.declared.cmp.Ordering.TheVariants.{Less, Equal, Greater}
use Rattle.std.specs.Cmp.Lexicographic.{slice_cmp}
use Rattle.std.specs.Prelude.{slice_index_or}
use Rattle.std.proofs.lemmas.Bool.{or_parts}
use Rattle.std.proofs.lemmas.Cmp.{nat_list_cmp_total}
use Rattle.conflict_order.specs.declared.policy.Policy.{Policy}
use Rattle.conflict_order.specs.declared.version.Version.{Version}
use Rattle.conflict_order.specs.Join.{kept}
use Rattle.cluster_types.specs.Partitions.{partition_of}
use Rattle.partition_lists.proofs.InOrderLaws.{from_equal}
use Rattle.emigrate.specs.Going.{AreHeld}
use Rattle.node_rules.specs.Batches.{Target, Targets, is_pending}
use Rattle.node_rules.specs.Copies.{Content, holds_of, is_nil, is_of, joined}

tied : (x d : List ℕ) → slice_cmp nat_cmp d x ≡ Equal → x ≡ d
tied x d same = sym (map.slice_cmp-IsAntisymmetric map.nat_cmp-IsAntisymmetric d x same)

equal_from : (a b : List ℕ) → eq_by_cmp (slice_cmp nat_cmp) a b ≡ true → a ≡ b
equal_from a b e = sym (tied b a (told (slice_cmp nat_cmp a b) e))
  where
    told : (o : Ordering) → eq_by_cmp (λ (x y : ℕ). o) 0 0 ≡ true → o ≡ Equal
    told Less e = cc
    told Equal e = refl
    told Greater e = cc

-- the copy of one partition, at each digest
copy_at : (c : Content) (q : ℕ) (d : List ℕ) → map.get (map.retain_keys c (is_of q)) d ≡ cond (is_of q d) (map.get c d) None
copy_at c q d = map.get-retain_keys c (is_of q) d (λ x same. ap (is_of q) (tied x d same))

pub dropped_at : (c : Content) (p : ℕ) (d : List ℕ) → map.get (map.retain_keys c (λ e. not (is_of p e))) d ≡ cond (not (is_of p d)) (map.get c d) None
dropped_at c p d = map.get-retain_keys c (λ e. not (is_of p e)) d (λ x same. ap (λ e. not (is_of p e)) (tied x d same))

pub joined_at : (by : Policy) (c : Content) (d : List ℕ) (v : Version) (e : List ℕ) → map.get (joined by c d v) e ≡ cond (eq_by_cmp (slice_cmp nat_cmp) e d) (Some (kept by (map.get c d) v)) (map.get c e)
joined_at by c d v e = map.get-insert nat_list_cmp_total c d (kept by (map.get c d) v) e

-- contents with the same of a partition have one copy of it
same_copy : (a b : Content) (q : ℕ) → ((d : List ℕ) → is_of q d ≡ true → map.get a d ≡ map.get b d) → map.retain_keys a (is_of q) ≡ map.retain_keys b (is_of q)
same_copy a b q same =
    map.same_map nat_list_cmp_total (map.slice_cmp-IsAntisymmetric map.nat_cmp-IsAntisymmetric) _ _
    (λ d. copy_at a q d ∙ go d (is_of q d) refl ∙ sym (copy_at b q d))
  where
    go : (d : List ℕ) (t : Bool) → is_of q d ≡ t → cond (is_of q d) (map.get a d) None ≡ cond (is_of q d) (map.get b d) None
    go d true e = rw e (same d e)
    go d false e = rw e refl

holds_alike : (a b : Content) (q : ℕ) → ((d : List ℕ) → is_of q d ≡ true → map.get a d ≡ map.get b d) → holds_of a q ≡ holds_of b q
holds_alike a b q same = ap (λ (m : Content). not (is_nil (map.keys m))) (same_copy a b q same)

of_other : (p q : ℕ) (d : List ℕ) → q ≢ p → is_of q d ≡ true → is_of p d ≡ false
of_other p q d other e = go (is_of p d) refl
  where
    go : (t : Bool) → is_of p d ≡ t → t ≡ false
    go true i = absurd (other (sym (from_equal (partition_of d) q e) ∙ from_equal (partition_of d) p i))
    go false i = refl

-- a copy that goes leaves the others
pub holds_dropped : (c : Content) (p q : ℕ) → q ≢ p → holds_of (map.retain_keys c (λ d. not (is_of p d))) q ≡ holds_of c q
holds_dropped c p q other =
    holds_alike (map.retain_keys c (λ d. not (is_of p d))) c q
    (λ d e. dropped_at c p d ∙ ap (λ (t : Bool). cond (not t) (map.get c d) None) (of_other p q d other e))

-- a record that comes leaves the copies of other partitions
pub holds_joined : (by : Policy) (c : Content) (d : List ℕ) (v : Version) (q : ℕ) → q ≢ partition_of d → holds_of (joined by c d v) q ≡ holds_of c q
holds_joined by c d v q other = holds_alike (joined by c d v) c q (λ e i. joined_at by c d v e ∙ go e i (eq_by_cmp (slice_cmp nat_cmp) e d) refl)
  where
    go : (e : List ℕ) → is_of q e ≡ true → (t : Bool) → eq_by_cmp (slice_cmp nat_cmp) e d ≡ t → cond t (Some (kept by (map.get c d) v)) (map.get c e) ≡ map.get c e
    go e i true same = absurd (other (sym (from_equal (partition_of e) q i) ∙ ap partition_of (equal_from e d same)))
    go e i false same = refl

-- ---- what is pending

pub pending_joined : (by : Policy) (c : Content) (d : List ℕ) (v : Version) (ts : Targets) → AreHeld c ts → AreHeld (joined by c d v) ts
pending_joined by c d v ts h = record { held = λ k t within. λ i e inside. stays (slice_index_or (slice_index_or ts k t).pending i e) (h.held k t within i e inside) }
  where
    go : (o : Option Version) (t : Bool) (w : Version) → IsSome o → is_some (cond t (Some w) o) ≡ true
    go o true w held = refl
    go o false w held = held

    stays : (e : List ℕ) → IsSome (map.get c e) → IsSome (map.get (joined by c d v) e)
    stays e held = ap is_some (joined_at by c d v e) ∙ go (map.get c e) (eq_by_cmp (slice_cmp nat_cmp) e d) (kept by (map.get c d) v) held

-- where no item passes the test, this one doesn't
none_at : {X : Type 0} (test : X → Bool) (xs : List X) (k : ℕ) (d : X) → list_any test xs ≡ false → k < length xs → test (slice_index_or xs k d) ≡ false
none_at test [] k d none within = absurd (omega (arith, within))
none_at test (x ∷ xs) zero d none within = (or_parts (test x) (list_any test xs) none).0
none_at test (x ∷ xs) (suc k) d none within = none_at test xs k d (or_parts (test x) (list_any test xs) none).1 (omega (arith, within))

-- a copy that goes leaves what is pending, where nothing of it is
pub pending_dropped : (c : Content) (p : ℕ) (ts : Targets) → is_pending ts p ≡ false → AreHeld c ts → AreHeld (map.retain_keys c (λ d. not (is_of p d))) ts
pending_dropped c p ts none h =
    record {
      held = λ k t within. λ i e inside. stays (slice_index_or (slice_index_or ts k t).pending i e)
          (none_at (is_of p) (slice_index_or ts k t).pending i e (none_at (λ (u : Target). list_any (is_of p) u.pending) ts k t none within) inside) (h.held k t within i e inside);
    }
  where
    stays : (e : List ℕ) → is_of p e ≡ false → IsSome (map.get c e) → IsSome (map.get (map.retain_keys c (λ d. not (is_of p d))) e)
    stays e off held = ap is_some (dropped_at c p e ∙ ap (λ (t : Bool). cond (not t) (map.get c e) None) off) ∙ held

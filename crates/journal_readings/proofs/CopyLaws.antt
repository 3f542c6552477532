-- A node has a record of a partition exactly where it holds something of one, and the state of its copy says so.
use Rattle.std.proofs.Common.{◌≡◌, ℕ, Bool, true, false, cond, ◌&&◌, ◌||◌, ◌==◌, List, [], ◌∷◌, Option, Some, None, not, ◌⊎◌, ◌↔◌, inl, inr, refl, sym, ap, ◌∙◌, eq-eqb, option_map}
use Rattle.std.specs.Prelude.{fold, is_some, bytes_eq}
use Rattle.std.proofs.lemmas.Bool.{eqb-true, and_parts as and_true}
use Rattle.std.specs.Ordering.{nat_cmp, is_eq, eq_by_cmp, ordering_reverse}
use Rattle.std.proofs.lemmas.Cmp.{nat_list_cmp_total}
use Rattle.std.proofs.lemmas.Slice.Eq.{bytes_eq-Decides}
use Rattle.std.specs.declared.cmp.Ordering.{Ordering}
use Rattle.std.specs.declared.cmp.Ordering.TheVariants.{Less, Equal, Greater}
use Rattle.std.specs.Cmp.Lexicographic.{slice_cmp}
use Rattle.std.specs.FinMap.{IsAntisymmetric, nat_cmp-IsAntisymmetric, slice_cmp-IsAntisymmetric}
use Rattle.conflict_order.specs.declared.policy.Policy.{Policy}
use Rattle.conflict_order.specs.declared.version.Version.{Version}
use Rattle.conflict_order.specs.Join.{join}
use Rattle.cluster_types.specs.Partitions.{partition_of}
use Rattle.journal_lines.specs.declared.line.Line.{Line}
use Rattle.journal_lines.specs.declared.line.Line.TheVariants as line
use Rattle.cluster_types.specs.declared.cluster_key.ClusterKey.{ClusterKey}
use Rattle.cluster_types.specs.declared.copy_state.CopyState.TheVariants.{Empty}
use Rattle.cluster_types.proofs.BoolFacts.{or_cases as or_true}
use Rattle.journal_readings.specs.Lines.{lines_before, is_enter}
use Rattle.journal_readings.specs.Contents.{content, content_step, holds_any, copy_step, joined_if}
use Rattle.journal_readings.specs.Stamps.{stamp, entered_empty, is_empty_at_entry}
use Rattle.journal_readings.specs.Rows.{row, copy_state, stamped, is_empty_row}

-- ---- digests

equal_is : (r : Ordering) → is_eq r ≡ true → r ≡ Equal
equal_is Less e = cc
equal_is Equal e = refl
equal_is Greater e = cc

digests_apart : IsAntisymmetric (slice_cmp nat_cmp)
digests_apart = slice_cmp-IsAntisymmetric nat_cmp-IsAntisymmetric

pub ordered_same : (d e : List ℕ) → eq_by_cmp (slice_cmp nat_cmp) d e ≡ true → d ≡ e
ordered_same d e same = digests_apart d e (equal_is _ same)

pub same_digest_is : (d e : List ℕ) → bytes_eq d e ≡ true → d ≡ e
same_digest_is d e same = (bytes_eq-Decides d e).0 same

self_equal : (r : Ordering) → r ≡ ordering_reverse r → is_eq r ≡ true
self_equal Less e = cc
self_equal Equal e = refl
self_equal Greater e = cc

pub ordered_itself : (d : List ℕ) → eq_by_cmp (slice_cmp nat_cmp) d d ≡ true
ordered_itself d = self_equal _ (nat_list_cmp_total.antisymm d d)

pub same_digest_itself : (d : List ℕ) → bytes_eq d d ≡ true
same_digest_itself d = (bytes_eq-Decides d d).1 refl

-- ---- what a version that comes makes of the two

-- the test answers what the contents of the partition's records say
record Tells (p : ℕ) (holds : Bool) (held : List ℕ → Option Version) : Type 0 where
  empty : holds ≡ false → (d : List ℕ) → partition_of d ≡ p → held d ≡ None
  some : holds ≡ true → (d : List ℕ) × (partition_of d ≡ p) × (is_some (held d) ≡ true)

join_with-some : (by : Policy) (a : Option Version) (v : Version) → is_some (join by a (Some v)) ≡ true
unfolding join
join_with-some by None v = refl
join_with-some by (Some a) v = refl

joined-some : (b : Bool) (by : Policy) (a : Option Version) (v : Version) → is_some a ≡ true → is_some (joined_if b by a v) ≡ true
joined-some true by a v e = join_with-some by a v
joined-some false by a v e = e

or_false : (a b : Bool) → (a || b) ≡ false → (a ≡ false) × (b ≡ false)
or_false true b e = (e, cc)
or_false false b e = (refl, e)

-- a version of the record e comes to the node m
came : (by : Policy) (n p m : ℕ) (e : List ℕ) (v : Version) (holds : Bool) (held : List ℕ → Option Version) → Tells p holds held
    → Tells p (holds || ((m == n) && (partition_of e == p))) (λ d. joined_if ((m == n) && bytes_eq e d) by (held d) v)
came by n p m e v holds held h = record { empty = empty; some = λ t. some (or_true holds _ t) }
  where
    misses : (d : List ℕ) → partition_of d ≡ p → ((m == n) && (partition_of e == p)) ≡ false → (b : Bool) → ((m == n) && bytes_eq e d) ≡ b → b ≡ false
    misses d q differs false i = refl
    misses d q differs true i =
        let y : ((m == n) ≡ true) × (bytes_eq e d ≡ true) = and_true _ _ i in
        let z : (partition_of e == p) ≡ true = eq-eqb _ _ (ap partition_of (same_digest_is e d y.1) ∙ q) in
        sym (ap (λ (b : Bool). b && (partition_of e == p)) y.0 ∙ z) ∙ differs

    empty : (holds || ((m == n) && (partition_of e == p))) ≡ false → (d : List ℕ) → partition_of d ≡ p → joined_if ((m == n) && bytes_eq e d) by (held d) v ≡ None
    empty t d q =
        let y : (holds ≡ false) × (((m == n) && (partition_of e == p)) ≡ false) = or_false holds _ t in
        ap (λ (b : Bool). joined_if b by (held d) v) (misses d q y.1 _ refl) ∙ h.empty y.0 d q

    some : (holds ≡ true) ⊎ (((m == n) && (partition_of e == p)) ≡ true) → (d : List ℕ) × (partition_of d ≡ p) × (is_some (joined_if ((m == n) && bytes_eq e d) by (held d) v) ≡ true)
    some (inl t) = let x : (d : List ℕ) × (partition_of d ≡ p) × (is_some (held d) ≡ true) = h.some t in (x.0, x.1, joined-some _ by (held x.0) v x.2)
    some (inr t) =
        let y : ((m == n) ≡ true) × ((partition_of e == p) ≡ true) = and_true _ _ t in
        let z : ((m == n) && bytes_eq e e) ≡ true = ap (λ (b : Bool). b && bytes_eq e e) y.0 ∙ same_digest_itself e in
        (e, eqb-true _ _ y.1, ap (λ (b : Bool). is_some (joined_if b by (held e) v)) z ∙ join_with-some by (held e) v)

-- the node m drops its copy of the partition q
dropped : (n p m q : ℕ) (holds : Bool) (held : List ℕ → Option Version) → Tells p holds held
    → (b : Bool) → ((m == n) && (q == p)) ≡ b
    → Tells p (cond b false holds) (λ d. cond ((m == n) && (q == partition_of d)) None (held d))
dropped n p m q holds held h true i = record {
  empty = λ t d r. ap (λ (b : Bool). cond b None (held d)) (ap (λ (j : ℕ). (m == n) && (q == j)) r ∙ i);
  some = λ t. cc;
}
dropped n p m q holds held h false i = record {
  empty = λ t d r. ap (λ (b : Bool). cond b None (held d)) (ap (λ (j : ℕ). (m == n) && (q == j)) r ∙ i) ∙ h.empty t d r;
  some = λ t. let x : (d : List ℕ) × (partition_of d ≡ p) × (is_some (held d) ≡ true) = h.some t in
      (x.0, x.1, ap (λ (b : Bool). is_some (cond b None (held x.0))) (ap (λ (j : ℕ). (m == n) && (q == j)) x.1 ∙ i) ∙ x.2);
}

step : (by : Policy) (n p : ℕ) (l : Line) (holds : Bool) (held : List ℕ → Option Version) → Tells p holds held
    → Tells p (copy_step n p holds l) (λ d. content_step by n d (held d) l)
step by n p (line.Apply m k t e v) holds held h = came by n p m e v holds held h
step by n p (line.Merge m k e v) holds held h = came by n p m e v holds held h
step by n p (line.Drop m k q) holds held h = dropped n p m q holds held h _ refl
step by n p l holds held h = h

steps : (by : Policy) (n p : ℕ) (ls : List Line) (holds : Bool) (held : List ℕ → Option Version) → Tells p holds held
    → Tells p (fold (copy_step n p) holds ls) (λ d. fold (content_step by n d) (held d) ls)
steps by n p [] holds held h = h
steps by n p (l ∷ ls) holds held h = steps by n p ls (copy_step n p holds l) (λ d. content_step by n d (held d) l) (step by n p l holds held h)

tells : (by : Policy) (n p : ℕ) (ls : List Line) → Tells p (holds_any n p ls) (λ d. content by n d ls)
unfolding holds_any content
tells by n p ls = steps by n p ls false (λ d. None) (record { empty = λ t d q. refl; some = λ t. cc })

none-some : (o : Option Version) → o ≡ None → is_some o ≡ false
none-some None e = refl
none-some (Some v) e = ap is_some e

empty_when : (by : Policy) (n p : ℕ) (ls : List Line) → ((d : List ℕ) → partition_of d ≡ p → content by n d ls ≡ None) → (b : Bool) → holds_any n p ls ≡ b → b ≡ false
empty_when by n p ls all false i = refl
empty_when by n p ls all true i =
    let x : (d : List ℕ) × (partition_of d ≡ p) × (is_some (content by n d ls) ≡ true) = (tells by n p ls).some i in
    sym x.2 ∙ none-some _ (all x.0 x.1)

-- the node has no record of the partition exactly where it holds nothing of each
pub no_record-empty : (by : Policy) (n p : ℕ) (ls : List Line) → (holds_any n p ls ≡ false) ↔ ((d : List ℕ) → partition_of d ≡ p → content by n d ls ≡ None)
no_record-empty by n p ls = ((tells by n p ls).empty, λ all. empty_when by n p ls all _ refl)

-- ---- the state of a copy

state-empty : (factor n p : ℕ) (ls : List Line) (b : Bool) → holds_any n p ls ≡ b → is_empty_row (Some (cond b (stamped n p ls (stamp factor n p ls)) Empty)) ≡ not b
state-empty factor n p ls false i = refl
state-empty factor n p ls true i = go (stamp factor n p ls)
  where
    go : (o : Option ClusterKey) → is_empty_row (Some (stamped n p ls o)) ≡ false
    go None = refl
    go (Some k) = refl

entry_row-empty : (factor n p : ℕ) (o : Option (List Line)) → is_empty_row (option_map (λ before. copy_state factor n p before) o) ≡ entered_empty n p o
unfolding copy_state
entry_row-empty factor n p None = refl
entry_row-empty factor n p (Some before) = state-empty factor n p before _ refl

-- a member's state is empty exactly where it had no record as it entered
pub row-empty : (factor : ℕ) (k : ClusterKey) (n p : ℕ) (ls : List Line) → is_empty_row (row factor k n p ls) ≡ is_empty_at_entry k n p ls
unfolding row is_empty_at_entry
row-empty factor k n p ls = entry_row-empty factor n p (lines_before (is_enter k n) ls)

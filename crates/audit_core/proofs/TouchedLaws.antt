-- Records are tried in a view, one by one.
use Rattle.std.proofs.Common.{◌≡◌, ℕ, zero, suc, ◌+◌, ◌<◌, ◌==◌, Bool, true, false, ◌&&◌, ◌||◌, List, [], ◌∷◌, ◌++◌, length, get_or, Option, Some, None, option_map, inl, refl, sym, ap, subst, ◌∙◌}
use Rattle.std.specs.Prelude.{take, bytes_eq}
use Rattle.std.specs.List.{list_any}
use Rattle.std.proofs.lemmas.Bool.{or_left, or_right}
use Rattle.std.proofs.lemmas.List.{take_more}
use Rattle.std.proofs.lemmas.List.Folds.{list_any-append}
use Rattle.cluster_types.specs.ClusterKeys.{is_view_key}
use Rattle.cluster_types.specs.declared.cluster_key.ClusterKey.{ClusterKey}
use Rattle.cluster_types.specs.Partitions.{partition_of}
use Rattle.journal_readings.specs.Lines.{has_node}
use Rattle.journal_readings.proofs.AlongLaws.{no_some, some_same}
use Rattle.audit_laws.proofs.Tests.{differ, number_here}
use Rattle.audit_core.specs.declared.judge.Judge.{Judge}
use Rattle.audit_core.specs.declared.verdict.Stop.{Stop}
use Rattle.audit_state.specs.declared.records.Records.{Records}
use Rattle.audit_state.specs.Records.{record_digest}
use Rattle.audit_core.specs.Audits.{so_far}
use Rattle.audit_core.specs.Known.{view_at}
use Rattle.audit_core.specs.Stored.{IsRecordOf}
use Rattle.audit_core.specs.Trying.{IsTrying, KeepsKnown, StopsParted, TriesPresent, TriesRecords, StopsRecord, StopsRecords, is_digest, tried_with_present, tried_with_records}
use Rattle.audit_core.proofs.DropLaws.{among_got}
use Rattle.audit_core.proofs.TryLaws.{keeps_itself, keeps_then, lines_kept, record_kept, front_kept, widened}

-- so far these were tried
pub record Touching (present : Option ClusterKey) (ns : List ℕ) (p : ℕ) (old now : Judge) : Type 0 where
  pub tries : TriesRecords present ns p old now
  pub keeps : KeepsKnown old now

either_part : (a b : Bool) → (a || (b && false)) ≡ true → a ≡ true
either_part true b e = refl
either_part false true e = e
either_part false false e = e

pub touching_none : (present : Option ClusterKey) (p : ℕ) (s : Judge) (ns : List ℕ) → ns ≡ [] → Touching present ns p s s
unfolding TriesRecords
touching_none present p s ns e = record {
  tries = λ i tried h of t. widened s i tried (tried_with_records tried s.records present ns) (λ l d m. inl (either_part (tried l d) (is_view_key present l)
      (subst (λ (xs : List ℕ). (tried l d || (is_view_key present l && list_any (λ r. is_digest (record_digest s.records r) d) xs)) ≡ true) e m))) t;
  keeps = keeps_itself s;
}

-- the record that a number has
pub named_of : (rs : Records) (r p : ℕ) → IsRecordOf rs r p → (d : List ℕ) × (record_digest rs r ≡ Some d) × (partition_of d ≡ p)
named_of rs r p h = go (record_digest rs r) refl h
  where
    go : (o : Option (List ℕ)) → record_digest rs r ≡ o → option_map partition_of o ≡ Some p → (d : List ℕ) × (record_digest rs r ≡ Some d) × (partition_of d ≡ p)
    go None e f = absurd (no_some f)
    go (Some d) e f = (d, e, some_same f)

in_front : (ns : List ℕ) (r q : ℕ) → has_node ns q ≡ true → has_node (ns ++ r ∷ []) q ≡ true
in_front ns r q e = list_any-append (λ m. m == q) ns (r ∷ []) ∙ or_left (has_node ns q) (has_node (r ∷ []) q) e

at_end : (ns : List ℕ) (r : ℕ) → has_node (ns ++ r ∷ []) r ≡ true
at_end ns r = list_any-append (λ m. m == r) ns (r ∷ []) ∙ or_right (has_node ns r) (has_node (r ∷ []) r) (or_left (r == r) false (number_here r))

-- the new record is the only one more
one_more : (t k a b : Bool) → (t || (k && (a || (b || false)))) ≡ true → ((t || (k && a)) || (k && b)) ≡ true
one_more true k a b e = refl
one_more false true true b e = refl
one_more false true false true e = refl
one_more false true false false e = e
one_more false false a b e = e

with_more : (tried : ClusterKey → List ℕ → Bool) (rs : Records) (present : Option ClusterKey) (ns : List ℕ) (r : ℕ) (d : List ℕ) → record_digest rs r ≡ Some d → (l : ClusterKey) (e : List ℕ)
    → tried_with_records tried rs present (ns ++ r ∷ []) l e ≡ true → tried_with_present (tried_with_records tried rs present ns) present d l e ≡ true
with_more tried rs present ns r d named l e m = go present (one_more (tried l e) (is_view_key present l) (list_any f ns) (bytes_eq d e)
    (subst (λ (b : Bool). (tried l e || (is_view_key present l && (list_any f ns || (b || false)))) ≡ true) (ap (λ (o : Option (List ℕ)). is_digest o e) named)
    (subst (λ (b : Bool). (tried l e || (is_view_key present l && b)) ≡ true) (list_any-append f ns (r ∷ [])) m)))
  where
    f : ℕ → Bool
    f q = is_digest (record_digest rs q) e

    last : (a : Bool) → (a || false) ≡ true → a ≡ true
    last true h = refl
    last false h = h

    go : (o : Option ClusterKey) → ((tried l e || (is_view_key o l && list_any (λ q. is_digest (record_digest rs q) e) ns)) || (is_view_key o l && bytes_eq d e)) ≡ true → tried_with_present (tried_with_records tried rs o ns) o d l e ≡ true
    go None h = last (tried l e || (false && list_any (λ q. is_digest (record_digest rs q) e) ns)) h
    go (Some k) h = h

present_kept : (old now : Judge) (n : ℕ) → KeepsKnown old now → view_at now n ≡ view_at old n
present_kept old now n keeps = ap (λ (s : Judge). view_at s n) keeps.rest

touching_more : (old now next : Judge) (n r p : ℕ) (ns : List ℕ) → Touching (view_at old n) ns p old now → TriesPresent (view_at now n) None r p now next → KeepsKnown now next → Touching (view_at old n) (ns ++ r ∷ []) p old next
unfolding TriesRecords TriesPresent
touching_more old now next n r p ns g tries keeps = record {
  tries = λ i tried h of t.
      let d : (d : List ℕ) × (record_digest old.records r ≡ Some d) × (partition_of d ≡ p) = named_of old.records r p (of r (at_end ns r)) in
      let before : IsTrying now i (tried_with_records tried old.records (view_at old n) ns) = g.tries i tried h (λ q e. of q (in_front ns r q e)) t in
      let after : IsTrying next i (tried_with_present (tried_with_records tried old.records (view_at old n) ns) (view_at now n) d.0) =
      tries i d.0 (tried_with_records tried old.records (view_at old n) ns) (lines_kept old now i g.keeps h) (record_kept old now r p d.0 g.keeps (record { named = d.1; part = d.2 })) (λ k e. absurd (no_some e)) before in
      widened next i (tried_with_present (tried_with_records tried old.records (view_at old n) ns) (view_at old n) d.0) (tried_with_records tried old.records (view_at old n) (ns ++ r ∷ []))
      (λ l e m. inl (with_more tried old.records (view_at old n) ns r d.0 d.1 l e m))
      (subst (λ (o : Option ClusterKey). IsTrying next i (tried_with_present (tried_with_records tried old.records (view_at old n) ns) o d.0)) (present_kept old now n g.keeps) after);
  keeps = keeps_then old now next g.keeps keeps;
}

pub touching_next : (old now next : Judge) (n p : ℕ) (ids : List ℕ) (a r : ℕ) → a < length ids → r ≡ get_or ids a r → Touching (view_at old n) (take a ids) p old now → TriesPresent (view_at now n) None r p now next → KeepsKnown now next
    → Touching (view_at old n) (take (a + 1) ids) p old next
touching_next old now next n p ids a r within read g tries keeps =
    subst (λ (xs : List ℕ). Touching (view_at old n) xs p old next) (ap (λ (m : ℕ). take a ids ++ m ∷ []) read ∙ sym (take_more ids a r within)) (touching_more old now next n r p (take a ids) g tries keeps)

front_has : (b : ℕ) (xs : List ℕ) (q : ℕ) → has_node (take b xs) q ≡ true → has_node xs q ≡ true
front_has zero xs q e = differ e refl
front_has (suc b) [] q e = differ e refl
front_has (suc b) (x ∷ xs) q e = go (x == q) e (front_has b xs q)
  where
    go : (h : Bool) → (h || has_node (take b xs) q) ≡ true → (has_node (take b xs) q ≡ true → has_node xs q ≡ true) → (h || has_node xs q) ≡ true
    go true f rest = refl
    go false f rest = rest f

-- one of them stops
pub touching_stops : (old now : Judge) (n p : ℕ) (ids : List ℕ) (a r : ℕ) (x y : Stop) → y ≡ x → a < length ids → r ≡ get_or ids a r → Touching (view_at old n) (take a ids) p old now → StopsRecord now r p x → StopsRecords old ids p y
unfolding TriesRecords StopsRecord StopsRecords
touching_stops old now n p ids a r x y same within read g stops i tried h of t =
    let d : (d : List ℕ) × (record_digest old.records r ≡ Some d) × (partition_of d ≡ p) = named_of old.records r p (of r (among_got ids a r within read)) in
    let before : IsTrying now i (tried_with_records tried old.records (view_at old n) (take a ids)) = g.tries i tried h (λ q e. of q (front_has a ids q e)) t in
    subst (λ (z : Stop). StopsParted z (so_far old i)) (sym same) (subst (StopsParted x) (front_kept old now i g.keeps) (stops i d.0 (tried_with_records tried old.records (view_at old n) (take a ids)) (lines_kept old now i g.keeps h) (record_kept old now r p d.0 g.keeps (record { named = d.1; part = d.2 })) before))

-- Partitions are tried in a view, one by one.
use Rattle.std.proofs.Common.{◌≡◌, ℕ, zero, suc, ◌+◌, ◌≤◌, ◌==◌, Bool, true, false, ◌&&◌, ◌||◌, List, [], ◌∷◌, ◌++◌, length, Option, Some, None, inl, refl, sym, ap, subst, ◌∙◌, arith}
use Rattle.std.specs.Prelude.{take, slice_get, option_to_list}
use Rattle.std.proofs.lemmas.List.Folds.{list_any-append}
use Rattle.cluster_types.specs.declared.cluster_key.ClusterKey.{ClusterKey}
use Rattle.cluster_types.specs.Partitions.{partition_of}
use Rattle.journal_readings.specs.Lines.{has_node, same_key}
use Rattle.audit_core.specs.declared.judge.Judge.{Judge}
use Rattle.audit_core.specs.declared.verdict.Stop.{Stop}
use Rattle.audit_state.specs.declared.views.View.{View}
use Rattle.audit_core.specs.Audits.{so_far}
use Rattle.audit_core.specs.Frames.{Both}
use Rattle.audit_core.specs.Known.{kept_view}
use Rattle.audit_core.specs.Trying.{IsTrying, KeepsKnown, SameButStands, StopsParted, TriesPartition, TriesPartitions, StopsTrying, settled_item, settled_list, tried_with_partition, tried_with_partitions}
use Rattle.audit_core.proofs.TryLaws.{keeps_itself, keeps_then, lines_kept, front_kept, widened}

-- so far these were tried
pub record Beginning (i : ℕ) (k : ClusterKey) (ps : List ℕ) (old now : Judge) : Type 0 where
  pub tries : TriesPartitions i k ps old now
  pub keeps : KeepsKnown old now

none_part : (a b : Bool) → (a || (b && false)) ≡ true → a ≡ true
none_part true b e = refl
none_part false true e = e
none_part false false e = e

pub beginning_none : (i : ℕ) (k : ClusterKey) (s : Judge) (ps : List ℕ) → ps ≡ [] → Beginning i k ps s s
unfolding TriesPartitions
beginning_none i k s ps e = record {
  tries = λ tried h t. widened s i tried (tried_with_partitions tried k ps) (λ l d m. inl (none_part (tried l d) (same_key k l)
      (subst (λ (xs : List ℕ). (tried l d || (same_key k l && has_node xs (partition_of d))) ≡ true) e m))) t;
  keeps = keeps_itself s;
}

append_part : (t k a b : Bool) → (t || (k && (a || b))) ≡ true → ((t || (k && a)) || (k && b)) ≡ true
append_part true k a b e = refl
append_part false true true b e = refl
append_part false true false b e = e
append_part false false a b e = e

pub beginning_more : (i : ℕ) (k : ClusterKey) (ps qs : List ℕ) (old now next : Judge) → Beginning i k ps old now → TriesPartitions i k qs now next → KeepsKnown now next → Beginning i k (ps ++ qs) old next
unfolding TriesPartitions
beginning_more i k ps qs old now next g tries keeps = record {
  tries = λ tried h t. widened next i (tried_with_partitions (tried_with_partitions tried k ps) k qs) (tried_with_partitions tried k (ps ++ qs))
      (λ l d m. inl (append_part (tried l d) (same_key k l) (has_node ps (partition_of d)) (has_node qs (partition_of d))
      (subst (λ (b : Bool). (tried l d || (same_key k l && b)) ≡ true) (list_any-append (λ q. q == partition_of d) ps qs) m)))
      (tries (tried_with_partitions tried k ps) (lines_kept old now i g.keeps h)
      (g.tries tried h t));
  keeps = keeps_then old now next g.keeps keeps;
}

-- none, or one
pub begins_none : (i : ℕ) (k : ClusterKey) (o : Option ℕ) (s : Judge) → o ≡ None → TriesPartitions i k (option_to_list o) s s
begins_none i k o s e = (beginning_none i k s (option_to_list o) (ap (λ (q : Option ℕ). option_to_list q) e)).tries

single : (t k a : Bool) → (t || (k && (a || false))) ≡ true → (t || (k && a)) ≡ true
single true k a e = refl
single false true true e = refl
single false true false e = e
single false false a e = e

pub begins_one : (i : ℕ) (k : ClusterKey) (p : ℕ) (o : Option ℕ) (old new : Judge) → o ≡ Some p → TriesPartition i k p old new → TriesPartitions i k (option_to_list o) old new
unfolding TriesPartitions TriesPartition
begins_one i k p o old new e tries tried h t =
    subst (λ (q : Option ℕ). IsTrying new i (tried_with_partitions tried k (option_to_list q)))
    (sym e)
    (widened new i (tried_with_partition tried k p) (tried_with_partitions tried k (p ∷ [])) (λ l d m. inl (single (tried l d) (same_key k l) (p == partition_of d) m)) (tries tried h t))

-- the partitions stay
settled_same : (old now : Judge) (k : ClusterKey) → KeepsKnown old now → settled_list (kept_view now k) ≡ settled_list (kept_view old k)
settled_same old now k keeps = go (kept_view old k) (kept_view now k) (keeps.views k)
  where
    go : (o q : Option View) → Both SameButStands o q → settled_list q ≡ settled_list o
    go None None h = refl
    go (Some a) (Some b) h = ap (λ (x : View). x.settled.items) h.rest
    go None (Some b) h = absurd h
    go (Some a) None h = absurd h

-- ---- item by item

pub take_whole : (xs : List ℕ) (a : ℕ) → length xs ≤ a → take a xs ≡ xs
take_whole [] zero e = refl
take_whole [] (suc a) e = refl
take_whole (x ∷ xs) zero e = absurd (omega (arith, e))
take_whole (x ∷ xs) (suc a) e = ap (λ (ys : List ℕ). x ∷ ys) (take_whole xs a (omega (arith, e)))

-- what is read is the next, if there is one
pub take_item : (xs : List ℕ) (a : ℕ) → take (a + 1) xs ≡ take a xs ++ option_to_list (slice_get xs a)
take_item xs a = let next : suc a ≡ a + 1 = omega arith in subst (λ (b : ℕ). take b xs ≡ take a xs ++ option_to_list (slice_get xs a)) next (go xs a)
  where
    go : (ys : List ℕ) (b : ℕ) → take (suc b) ys ≡ take b ys ++ option_to_list (slice_get ys b)
    go [] zero = refl
    go [] (suc b) = refl
    go (y ∷ ys) zero = refl
    go (y ∷ ys) (suc b) = ap (λ (zs : List ℕ). y ∷ zs) (go ys b)

item_of : (o : Option View) (a : ℕ) → settled_item o a ≡ slice_get (settled_list o) a
item_of None a = refl
item_of (Some x) a = refl

pub beginning_next : (i : ℕ) (k : ClusterKey) (a : ℕ) (r : Option ℕ) (old now next : Judge) → r ≡ settled_item (kept_view now k) a
    → Beginning i k (take a (settled_list (kept_view old k))) old now → TriesPartitions i k (option_to_list r) now next → KeepsKnown now next → Beginning i k (take (a + 1) (settled_list (kept_view old k))) old next
beginning_next i k a r old now next read g tries keeps =
    let got : r ≡ slice_get (settled_list (kept_view old k)) a = read ∙ (item_of (kept_view now k) a ∙ ap (λ (ps : List ℕ). slice_get ps a) (settled_same old now k g.keeps)) in
    subst (λ (ps : List ℕ). Beginning i k ps old next) (ap (λ (o : Option ℕ). take a (settled_list (kept_view old k)) ++ option_to_list o) got ∙ sym (take_item (settled_list (kept_view old k)) a))
    (beginning_more i k (take a (settled_list (kept_view old k))) (option_to_list r) old now next g tries keeps)

-- all were tried
pub beginning_all : (i : ℕ) (k : ClusterKey) (a c : ℕ) (old now : Judge) → c ≡ length (settled_list (kept_view old k)) → c ≤ a → Beginning i k (take a (settled_list (kept_view old k))) old now → Beginning i k (settled_list (kept_view old k)) old now
beginning_all i k a c old now count done g = subst (λ (ps : List ℕ). Beginning i k ps old now) (take_whole (settled_list (kept_view old k)) a (omega (arith, count, done))) g

-- one of them stops
pub beginning_stops : (i : ℕ) (k : ClusterKey) (ps : List ℕ) (old now : Judge) (x y : Stop) → y ≡ x → Beginning i k ps old now → StopsTrying now i x → StopsTrying old i y
unfolding TriesPartitions StopsTrying
beginning_stops i k ps old now x y same g stops tried h t =
    subst (λ (z : Stop). StopsParted z (so_far old i)) (sym same) (subst (StopsParted x) (front_kept old now i g.keeps) (stops (tried_with_partitions tried k ps) (lines_kept old now i g.keeps h) (g.tries tried h t)))

-- A journal at whose end two nodes have come to calm.
use Rattle.std.proofs.Common.{◌≡◌, ℕ, zero, suc, ◌<◌, ◌==◌, Bool, true, false, ◌&&◌, ◌||◌, not, cond, List, [], ◌∷◌, Some, None, map, ◌⊎◌, inl, inr, refl, sym, ap, subst, ◌∙◌, eq-eqb, arith}
use Rattle.std.specs.Prelude.{slice_index_or, take, length, Contains}
use Rattle.std.specs.List.{list_any, list_all}
use Rattle.std.proofs.lemmas.Bool.{eqb-true, or_right as or_true}
use Rattle.conflict_order.specs.declared.policy.Policy.TheVariants.{Time}
use Rattle.cluster_types.specs.Members.{plain_member}
use Rattle.cluster_types.specs.Partitions.{partition_of}
use Rattle.partition_lists.specs.Lists as lists
use Rattle.partition_lists.specs.Ranks.{rank_of, is_smaller}
use Rattle.journal_lines.specs.declared.line.Line.{Line}
use Rattle.journal_lines.specs.declared.line.Line.TheVariants as line
use Rattle.journal_readings.specs.Lines.{has_node, is_settled_line}
use Rattle.journal_readings.specs.Contents.{content, applied, holds_any}
use Rattle.journal_readings.specs.Views.{view, master, first_of, is_replica}
use Rattle.journal_readings.specs.Entries.{fold_of}
use Rattle.journal_readings.specs.Stamps.{is_empty_at_entry, is_empty_everywhere}
use Rattle.journal_readings.specs.Settled.{is_settled, is_settled_by, is_open_write, has_open_write}
use Rattle.journal_readings.specs.CalmEnd.{CalmEnd, IsAtRest, RestsIn, IsSettledThroughout, IsSpread, HasNewest}
use Rattle.journal_readings.specs.Examples.{digest, key, both, settled, calmed}
use Rattle.journal_readings.proofs.AlongLaws.{each}
use Rattle.journal_readings.proofs.Computing.{computing}
use Rattle.journal_readings.proofs.CopyLaws.{no_record-empty}
use Rattle.journal_readings.proofs.Fronts.{AllOf, of_node}
use Rattle.journal_readings.proofs.Unwritten.{IsUnwritten, writes_only, written_or_not, content-none, applied-none, fold_of-none}

differ : true ≡ false → ⊥
differ e = cc

-- an item of a list of one or of two is one of these
contains_one : {A : Type 0} (a x : A) → Contains (a ∷ []) x → a ≡ x
contains_one {A} a x h = go h.0 h.1 h.2
  where
    go : (k : ℕ) → k < length (a ∷ []) → slice_index_or (a ∷ []) k x ≡ x → a ≡ x
    go zero within e = e
    go (suc k) within e = absurd (omega (arith, within))

contains_two : {A : Type 0} (P : A → Type 0) (a b x : A) → P a → P b → Contains (a ∷ b ∷ []) x → P x
contains_two {A} P a b x pa pb h = go h.0 h.1 h.2
  where
    go : (k : ℕ) → k < length (a ∷ b ∷ []) → slice_index_or (a ∷ b ∷ []) k x ≡ x → P x
    go zero within e = subst P e pa
    go (suc zero) within e = subst P e pb
    go (suc (suc k)) within e = absurd (omega (arith, within))

-- ---- the partitions

-- both nodes, the lesser one first where the test holds
abbrev ordered : ℕ → Bool → List ℕ
ordered p b = map (λ r. r.id) (cond b (rank_of both p (plain_member 1) ∷ rank_of both p (plain_member 2) ∷ []) (rank_of both p (plain_member 2) ∷ rank_of both p (plain_member 1) ∷ []))

either_way : (p : ℕ) (b : Bool) → (ordered p b ≡ 1 ∷ 2 ∷ []) ⊎ (ordered p b ≡ 2 ∷ 1 ∷ [])
either_way p true = inl refl
either_way p false = inr refl

-- the list of a partition over both nodes has one of them first
both_ways : (p : ℕ) → (lists.list both p ≡ 1 ∷ 2 ∷ []) ⊎ (lists.list both p ≡ 2 ∷ 1 ∷ [])
unfolding lists.list
both_ways p = either_way p (is_smaller (rank_of both p (plain_member 1)) (rank_of both p (plain_member 2)))

-- what holds of both nodes holds of the list master
of_master : (P : ℕ → Type 0) (p : ℕ) → P 1 → P 2 → P (first_of (lists.list both p))
of_master P p one two = go (both_ways p)
  where
    go : (lists.list both p ≡ 1 ∷ 2 ∷ []) ⊎ (lists.list both p ≡ 2 ∷ 1 ∷ []) → P (first_of (lists.list both p))
    go (inl e) = subst (λ (l : List ℕ). P (first_of l)) (sym e) one
    go (inr e) = subst (λ (l : List ℕ). P (first_of l)) (sym e) two

-- a node holds no record of a partition where all records that were written are of another
holds_none : (n p : ℕ) (ls : List Line) → list_all (writes_only digest) ls ≡ true → (4095 == p) ≡ false → holds_any n p ls ≡ false
holds_none n p ls all apart = (no_record-empty Time n p ls).1 (λ d of. none d of (written_or_not digest ls all d))
  where
    none : (d : List ℕ) → partition_of d ≡ p → (digest ≡ d) ⊎ IsUnwritten d ls → content Time n d ls ≡ None
    none d of (inr unwritten) = content-none Time n d ls unwritten
    none d of (inl same) = absurd (differ (sym (eq-eqb 4095 p (ap partition_of same ∙ of)) ∙ apart))

entered_empty : (p : ℕ) → (4095 == p) ≡ false → is_empty_everywhere (key 4 2) p settled ≡ true
unfolding is_empty_everywhere is_empty_at_entry
entered_empty p apart = two (not (holds_any 2 p _)) (not (holds_any 1 p _)) (ap not (holds_none 2 p _ refl apart)) (ap not (holds_none 1 p _ refl apart))
  where
    two : (a b : Bool) → a ≡ true → b ≡ true → (a && (b && true)) ≡ true
    two true true e f = refl
    two true false e f = f
    two false b e f = e

settled_last : is_settled (key 4 2) 4095 settled ≡ true
unfolding computing
settled_last = refl

settled_elsewhere : (p : ℕ) → (4095 == p) ≡ false → is_settled (key 4 2) p settled ≡ true
unfolding is_settled
settled_elsewhere p e = of_master (λ n. is_settled_by (key 4 2) p n settled ≡ true) p
    (or_true (list_any (is_settled_line (key 4 2) 1 p) settled) _ (entered_empty p e))
    (or_true (list_any (is_settled_line (key 4 2) 2 p) settled) _ (entered_empty p e))

settled_either : (p : ℕ) (b : Bool) → (4095 == p) ≡ b → is_settled (key 4 2) p settled ≡ true
settled_either p true e = subst (λ (q : ℕ). is_settled (key 4 2) q settled ≡ true) (eqb-true 4095 p e) settled_last
settled_either p false e = settled_elsewhere p e

closed : (p : ℕ) → has_open_write (key 4 2) p settled ≡ false
unfolding has_open_write
closed p = of_master (λ n. list_any (is_open_write (key 4 2) p n settled) settled ≡ false) p refl refl

served : (p : ℕ) → view (master (key 4 2) p settled) settled ≡ Some (key 4 2)
unfolding view
served p = of_master (λ n. view n settled ≡ Some (key 4 2)) p refl refl

throughout : IsSettledThroughout (key 4 2) settled
throughout = record { settled = λ p below. settled_either p (4095 == p) refl; closed = λ p below. closed p; served = λ p below. served p }

-- ---- the records

-- what is claimed of a node and a record
record IsRight (d : List ℕ) (n : ℕ) : Type 0 where
  folded : is_replica 1 (key 4 2) (partition_of d) n settled ≡ true → content Time n d settled ≡ fold_of Time (key 4 2) d settled
  newest : is_replica 1 (key 4 2) (partition_of d) n settled ≡ true → content Time n d settled ≡ applied Time d settled
  none : is_replica 1 (key 4 2) (partition_of d) n settled ≡ false → content Time n d settled ≡ None

one_right : IsRight digest 1
unfolding computing
one_right = record { folded = λ e. cc; newest = λ e. cc; none = λ e. refl }

two_right : IsRight digest 2
unfolding computing
two_right = record { folded = λ e. refl; newest = λ e. refl; none = λ e. cc }

unwritten_right : (d : List ℕ) (n : ℕ) → IsUnwritten d settled → IsRight d n
unwritten_right d n h = record {
  folded = λ e. content-none Time n d settled h ∙ sym (fold_of-none Time (key 4 2) d settled h);
  newest = λ e. content-none Time n d settled h ∙ sym (applied-none Time d settled h);
  none = λ e. content-none Time n d settled h;
}

right_if : (d : List ℕ) → (digest ≡ d) ⊎ IsUnwritten d settled → AllOf (IsRight d) (1 ∷ 2 ∷ [])
right_if d (inl same) = subst (λ (e : List ℕ). AllOf (IsRight e) (1 ∷ 2 ∷ [])) same (one_right, (two_right, tt))
right_if d (inr unwritten) = (unwritten_right d 1 unwritten, (unwritten_right d 2 unwritten, tt))

right : (d : List ℕ) → AllOf (IsRight d) (1 ∷ 2 ∷ [])
right d = right_if d (written_or_not digest settled refl d)

right_at : (d : List ℕ) (n : ℕ) → has_node (1 ∷ 2 ∷ []) n ≡ true → IsRight d n
right_at d n e = of_node (IsRight d) (1 ∷ 2 ∷ []) (right d) n e

-- a replica is one of both nodes
of_both : (p n : ℕ) → is_replica 1 (key 4 2) p n settled ≡ true → has_node (1 ∷ 2 ∷ []) n ≡ true
of_both p n e = go (both_ways p)
  where
    first : (b c : Bool) → (b || false) ≡ true → (b || (c || false)) ≡ true
    first true c f = refl
    first false c f = cc

    second : (b c : Bool) → (c || false) ≡ true → (b || (c || false)) ≡ true
    second true c f = refl
    second false c f = f

    go : (lists.list both p ≡ 1 ∷ 2 ∷ []) ⊎ (lists.list both p ≡ 2 ∷ 1 ∷ []) → ((1 == n) || ((2 == n) || false)) ≡ true
    go (inl same) = first (1 == n) (2 == n) (subst (λ (l : List ℕ). list_any (λ m. m == n) (take 1 l) ≡ true) same e)
    go (inr same) = second (1 == n) (2 == n) (subst (λ (l : List ℕ). list_any (λ m. m == n) (take 1 l) ≡ true) same e)

spread : IsSpread Time 1 (key 4 2) settled
spread = record {
  replicas = λ n d e. (right_at d n (of_both (partition_of d) n e)).folded e;
  others = λ n d member e. contains_two (λ m. is_replica 1 (key 4 2) (partition_of d) m settled ≡ false → content Time m d settled ≡ None) 2 1 n (right d).1.0.none (right d).0.none member e;
}

newest : HasNewest Time 1 (key 4 2) settled
newest = record { replicas = λ n d e. (right_at d n (of_both (partition_of d) n e)).newest e }

-- ---- rest

in_view : (n : ℕ) → Contains (1 ∷ 2 ∷ []) n → view n settled ≡ Some (key 4 2)
unfolding view
in_view n h = contains_two (λ m. view m settled ≡ Some (key 4 2)) 1 2 n refl refl h

both_rest : RestsIn Time 1 (1 ∷ 2 ∷ []) (key 4 2) settled
unfolding computing
both_rest = record { viewed = λ n h up. in_view n h; among = refl; settled = throughout; spread = spread; newest = λ undivided. newest }

rests : IsAtRest Time 1 settled
unfolding computing
rests group n h in_group up = (key 4 2, subst (λ (g : List ℕ). RestsIn Time 1 g (key 4 2) settled) (contains_one (1 ∷ 2 ∷ []) group h) both_rest)

-- a line that says that the world is calm stands where it rests
abbrev RestsWhere : List Line → Line → Type 0
RestsWhere before (line.Calm rounds) = IsAtRest Time 1 before
RestsWhere before _ = Unit {0}

pub calm_at_end : CalmEnd calmed
unfolding computing
calm_at_end = record { at_rest = λ i rounds e. each RestsWhere calmed (tt, (tt, (tt, (tt, (tt, (tt, (tt, (tt, (tt, (tt, (tt, (tt, (tt, (tt, (tt, (tt, (tt, (tt, (tt, (tt, (tt, (tt, (tt, (tt, (tt, (tt, (tt, (tt, (tt, (tt, (tt, (rests, tt)))))))))))))))))))))))))))))))) i (line.Calm rounds) e }

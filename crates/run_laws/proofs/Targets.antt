-- A batch is acknowledged.
use Rattle.std.proofs.Common.{◌≡◌, ℕ, ◌==◌, Bool, true, false, cond, not, ◌&&◌, List, [], ◌∷◌, Option, Some, None, refl, sym, ap, ◌∙◌, arith}
use Rattle.std.specs.Prelude.{option_map, bytes_eq, if◌then◌else◌}
use Rattle.std.specs.List.{list_any}
use Rattle.wire_messages.specs.declared.message.Batch.{Batch}
use Rattle.node_rules.specs.Batches as batches
use Rattle.node_rules.specs.Batches.{Target, Targets, target, out_of, out_to, acked_out, is_among}
use Rattle.node_rules.specs.Facts.{Facts}
use Rattle.node_rules.specs.Notes as notes
use Rattle.node_rules.specs.Tables.{changed_if}
use Rattle.cluster_laws.specs.Changes as changes
use Rattle.cluster_laws.specs.Stay.{Stay}
use Rattle.cluster_laws.proofs.At.{number_same, differ, no_some}
use Rattle.cluster_laws.proofs.GroundLaws.{apart}
use Rattle.run_laws.specs.Tied.{Stays, has_pending, batches_of}
use Rattle.run_laws.proofs.Tables.{any_filter}

-- a change of one member's target
pub target_changed : (ts : Targets) (to : ℕ) (c : Target → Target) (r : ℕ) → ((t : Target) → (c t).node ≡ t.node) → target (batches.change_target ts to c) r ≡ cond (to == r) (option_map c (target ts r)) (target ts r)
target_changed [] to c r keeps = nothing (to == r)
  where
    nothing : (b : Bool) → target [] r ≡ cond b None None
    nothing true = refl
    nothing false = refl
target_changed (t ∷ ts) to c r keeps = go (t.node == to) (t.node == r) refl refl (target_changed ts to c r keeps)
  where
    go : (a e : Bool) → (t.node == to) ≡ a → (t.node == r) ≡ e → target (batches.change_target ts to c) r ≡ cond (to == r) (option_map c (target ts r)) (target ts r)
        → (if (changed_if c t a).node == r then Some (changed_if c t a) else target (batches.change_target ts to c) r)
        ≡ cond (to == r) (option_map c (if e then Some t else target ts r)) (if e then Some t else target ts r)
    go true true i j h = ap (λ (q : Bool). if q then Some (c t) else target (batches.change_target ts to c) r) (ap (λ (n : ℕ). n == r) (keeps t) ∙ j)
        ∙ sym (ap (λ (q : Bool). cond q (Some (c t)) (Some t)) (ap (λ (n : ℕ). n == r) (sym (number_same t.node to i)) ∙ j))
    go true false i j h = ap (λ (q : Bool). if q then Some (c t) else target (batches.change_target ts to c) r) (ap (λ (n : ℕ). n == r) (keeps t) ∙ j) ∙ h
    go false true i j h = ap (λ (q : Bool). if q then Some t else target (batches.change_target ts to c) r) j
        ∙ sym (ap (λ (q : Bool). cond q (Some (c t)) (Some t)) (apart to r (λ z. differ (ap (λ (n : ℕ). t.node == n) z ∙ j) i)))
    go false false i j h = ap (λ (q : Bool). if q then Some t else target (batches.change_target ts to c) r) j ∙ h

abbrev acked : ℕ → Target → Target
acked number t = acked_out t number t.out

pub acked_node : (number : ℕ) (t : Target) → (acked number t).node ≡ t.node
acked_node number t = go t.out
  where
    go : (o : Option Batch) → (acked_out t number o).node ≡ t.node
    go None = refl
    go (Some b) = by (b.number == number)
      where
        by : (q : Bool) → (if q then batches.without_batch t b else t).node ≡ t.node
        by true = refl
        by false = refl

-- what is seen of a target: whether a digest is pending, what is out, and how many batches there were
record Alike (o q : Option Target) : Type 0 where
  pending : (d : List ℕ) → has_pending o d ≡ has_pending q d
  out : out_of o ≡ out_of q
  batches : batches_of o ≡ batches_of q

swap : (a b : Bool) → (a && b) ≡ (b && a)
swap a b = grind arith

-- nothing is out under that number
unacked : (number : ℕ) (o : Option Target) → ((b : Batch) → out_of o ≡ Some b → (b.number == number) ≡ false) → option_map (acked number) o ≡ o
unacked number None h = refl
unacked number (Some t) h = ap Some (go t.out refl)
  where
    go : (q : Option Batch) → t.out ≡ q → acked_out t number q ≡ t
    go None e = refl
    go (Some b) e = ap (λ (x : Bool). if x then batches.without_batch t b else t) (h b e)

-- an acknowledgement that doesn't count
pub unacked_tied : (f : Facts) (s : Stay) (from number : ℕ) → ((b : Batch) → out_to f.batches from ≡ Some b → (b.number == number) ≡ false) → Stays f s → Stays (notes.batch_acked f from number true) s
unacked_tied f s from number none h = record {
  entered = h.entered;
  exchanged = h.exchanged;
  rows = h.rows;
  pending = λ r d. h.pending r d ∙ ap (λ (o : Option Target). has_pending o d) (sym (same r));
  out = λ r. h.out r ∙ ap out_of (sym (same r));
  batches = λ r. h.batches r ∙ ap batches_of (sym (same r));
  opened = h.opened;
  running = h.running;
  applies = h.applies;
  numbers = h.numbers;
  handed = h.handed;
  own_handed = h.own_handed;
  settled = h.settled;
  own_settled = h.own_settled;
  told = h.told;
}
  where
    same : (r : ℕ) → target (batches.acking f.batches from number) r ≡ target f.batches r
    same r = target_changed f.batches from (acked number) r (acked_node number) ∙ go (from == r) refl
      where
        go : (b : Bool) → (from == r) ≡ b → cond b (option_map (acked number) (target f.batches r)) (target f.batches r) ≡ target f.batches r
        go true i = unacked number (target f.batches r) (λ b e. none b (ap (out_to f.batches) (number_same from r i) ∙ e))
        go false i = refl

-- one that counts
pub acked_tied : (f : Facts) (s : Stay) (from number : ℕ) (b : Batch) → out_to f.batches from ≡ Some b → (b.number == number) ≡ true → Stays f s → Stays (notes.batch_acked f from number true) (changes.stay_without_batch from b s)
acked_tied f s from number b is num h = record {
  entered = h.entered;
  exchanged = h.exchanged;
  rows = h.rows;
  pending = λ r d. by_pending r d (from == r) refl ∙ ap (λ (o : Option Target). has_pending o d) (sym (new r));
  out = λ r. by_out r (from == r) refl ∙ ap out_of (sym (new r));
  batches = λ r. h.batches r ∙ by_count r (from == r) refl ∙ ap batches_of (sym (new r));
  opened = h.opened;
  running = h.running;
  applies = h.applies;
  numbers = h.numbers;
  handed = h.handed;
  own_handed = h.own_handed;
  settled = h.settled;
  own_settled = h.own_settled;
  told = h.told;
}
  where
    new : (r : ℕ) → target (batches.acking f.batches from number) r ≡ cond (from == r) (option_map (acked number) (target f.batches r)) (target f.batches r)
    new r = target_changed f.batches from (acked number) r (acked_node number)

    out_is : (r : ℕ) → (from == r) ≡ true → out_of (target f.batches r) ≡ Some b
    out_is r i = ap (out_to f.batches) (sym (number_same from r i)) ∙ is

    taken : (t : Target) → t.out ≡ Some b → acked number t ≡ batches.without_batch t b
    taken t e = ap (acked_out t number) e ∙ ap (λ (x : Bool). if x then batches.without_batch t b else t) num

    gone : (o : Option Target) → out_of o ≡ Some b → (d : List ℕ) → (has_pending o d && not (is_among b.records d)) ≡ has_pending (option_map (acked number) o) d
    gone None e d = no_some e
    gone (Some t) e d = swap (list_any (λ x. bytes_eq x d) t.pending) (not (is_among b.records d))
        ∙ sym (any_filter (λ x. not (is_among b.records x)) t.pending d)
        ∙ ap (λ (x : Target). list_any (λ y. bytes_eq y d) x.pending) (sym (taken t e))

    by_pending : (r : ℕ) (d : List ℕ) (c : Bool) → (from == r) ≡ c → (cond c (λ e. s.pending from e && not (is_among b.records e)) (s.pending r)) d ≡ has_pending (cond c (option_map (acked number) (target f.batches r)) (target f.batches r)) d
    by_pending r d true i = ap (λ (x : Bool). x && not (is_among b.records d)) (ap (λ (n : ℕ). s.pending n d) (number_same from r i) ∙ h.pending r d) ∙ gone (target f.batches r) (out_is r i) d
    by_pending r d false i = h.pending r d

    none_out : (o : Option Target) → out_of o ≡ Some b → None ≡ out_of (option_map (acked number) o)
    none_out None e = refl
    none_out (Some t) e = ap (λ (x : Target). x.out) (sym (taken t e))

    by_out : (r : ℕ) (c : Bool) → (from == r) ≡ c → cond c None (s.out r) ≡ out_of (cond c (option_map (acked number) (target f.batches r)) (target f.batches r))
    by_out r true i = none_out (target f.batches r) (out_is r i)
    by_out r false i = h.out r

    same_count : (o : Option Target) → out_of o ≡ Some b → batches_of o ≡ batches_of (option_map (acked number) o)
    same_count None e = refl
    same_count (Some t) e = ap (λ (x : Target). x.batches) (sym (taken t e))

    by_count : (r : ℕ) (c : Bool) → (from == r) ≡ c → batches_of (target f.batches r) ≡ batches_of (cond c (option_map (acked number) (target f.batches r)) (target f.batches r))
    by_count r true i = same_count (target f.batches r) (out_is r i)
    by_count r false i = refl

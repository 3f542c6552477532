-- Targets by their members, and how much is pending to all of them.
use Rattle.std.proofs.Common.{◌≡◌, ◌==◌, ◌≢◌, ℕ, zero, suc, ◌+◌, ◌<◌, Bool, true, false, cond, not, ◌||◌, List, [], ◌∷◌, ◌++◌, ◌≤◌, map, take, All, AllPairs, length, get_or, set, count_by, sum_by, Some, None, is_some, unwrap_or, inl, inr, true≢false, lt-ltb, refl, sym, ap, subst, ◌∙◌, arith}
use Rattle.std.specs.List.{list_any, position, position_or_len}
use Rattle.std.proofs.lemmas.Bool.Decides.{nat_tests}
use Rattle.std.proofs.lemmas.List.Elements.{All-tail, filter-append}
use Rattle.std.proofs.lemmas.Grind.{get_or-set_at}
use Rattle.std.proofs.lemmas.List.{append-nil, get_or-map, get_or-set_other, get_or_default, length-map, length-set, map-append, take_more}
use Rattle.std.proofs.lemmas.List.Kept.{AllPairs-filter}
use Rattle.std.proofs.lemmas.List.Sums.{fails_before_first, get_or-le-sum_by, sum_by-append, sum_by-cons, sum_by-set}
use Rattle.std.proofs.lemmas.List.Quantifiers.{position-Some}
use Rattle.std.proofs.Math.Bool.{not-not}
use Rattle.std.specs.Prelude.{Option, slice_index}
use Rattle.std.proofs.lemmas.Option.{none-some}
use Rattle.std.proofs.lemmas.Bool.{cases_lt}
use Rattle.wire_messages.specs.declared.message.Batch.{Batch}
use Rattle.cluster_types.specs.declared.member.Member.{Member}
use Rattle.cluster_types.specs.Distinct.{IsDescending, without}
use Rattle.cluster_types.specs.Members.{AreMembers, ids_of}
use Rattle.cluster_types.specs.Partitions.{partition_count}
use Rattle.node_rules.specs.Agreement.{others_among}
use Rattle.node_rules.specs.Batches.{Target, Targets, change_target, is_pending, acked_out, has_number, out_of, out_to, target, target_of, targets_of, without_batch}
use Rattle.node_rules.specs.Copies.{Content, is_of}
use Rattle.node_rules.specs.Tables.{changed_if}
use Rattle.emigrate.specs.Going.{AreApart, AreCounts, pending_count}
pub use Rattle.cluster_types.proofs.BoolFacts.{not_true as is_true}

-- ---- the target of a member

same_node : (a b : ℕ) → a ≡ b → (a == b) ≡ true
same_node a b e = grind (arith, nat_tests)

other_node : (a b : ℕ) → (a ≡ b → ⊥) → (a == b) ≡ false
other_node a b e = grind (arith, nat_tests)

-- where no target is the member's, none changes
pub changing_none : (ts : Targets) (n : ℕ) (change : Target → Target) → All (λ t. t.node ≡ n → ⊥) ts → change_target ts n change ≡ ts
changing_none [] n change h = refl
changing_none (t ∷ ts) n change h =
    ap (λ b. changed_if change t b ∷ change_target ts n change) (other_node t.node n (h 0 t (omega arith)))
    ∙ ap (λ (us : Targets). t ∷ us) (changing_none ts n change (All-tail (λ (u : Target). u.node ≡ n → ⊥) t ts h))

pub target_none : (ts : Targets) (n : ℕ) → All (λ t. t.node ≡ n → ⊥) ts → target ts n ≡ None
target_none [] n h = refl
target_none (t ∷ ts) n h =
    ap (λ b. cond b (Some t) (target ts n)) (other_node t.node n (h 0 t (omega arith)))
    ∙ target_none ts n (All-tail (λ (u : Target). u.node ≡ n → ⊥) t ts h)

-- the target at the place where the member's stands is the only one that changes
pub changing_at : (ts : Targets) (i n : ℕ) (d : Target) (change : Target → Target) → i < length ts → (get_or ts i d).node ≡ n → AllPairs (λ (t u : Target). t.node ≢ u.node) ts
    → set ts i (change (get_or ts i d)) ≡ change_target ts n change
changing_at [] i n d change within is apart = absurd (omega (arith, within))
changing_at (t ∷ ts) zero n d change within is apart =
    ap (λ (us : Targets). change t ∷ us) (sym (changing_none ts n change (λ k z inside e. apart 0 (suc k) z (omega arith) (omega (arith, inside)) (is ∙ sym e))))
    ∙ ap (λ b. changed_if change t b ∷ change_target ts n change) (sym (same_node t.node n is))
changing_at (t ∷ ts) (suc i) n d change within is apart =
    ap (λ (us : Targets). t ∷ us) (changing_at ts i n d change (omega (arith, within)) is (λ j k z lower inside. apart (suc j) (suc k) z (omega (arith, lower)) (omega (arith, inside))))
    ∙ ap (λ b. changed_if change t b ∷ change_target ts n change) (sym (other_node t.node n (λ e. apart 0 (suc i) d (omega arith) within (e ∙ sym is))))

pub target_at : (ts : Targets) (i n : ℕ) (d : Target) → i < length ts → (get_or ts i d).node ≡ n → AllPairs (λ (t u : Target). t.node ≢ u.node) ts → target ts n ≡ Some (get_or ts i d)
target_at [] i n d within is apart = absurd (omega (arith, within))
target_at (t ∷ ts) zero n d within is apart = ap (λ b. cond b (Some t) (target ts n)) (same_node t.node n is)
target_at (t ∷ ts) (suc i) n d within is apart =
    ap (λ b. cond b (Some t) (target ts n)) (other_node t.node n (λ e. apart 0 (suc i) d (omega arith) within (e ∙ sym is)))
    ∙ target_at ts i n d (omega (arith, within)) is (λ j k z lower inside. apart (suc j) (suc k) z (omega (arith, lower)) (omega (arith, inside)))

-- ---- how much is pending

some_step : (n m : ℕ) (b : Bool) → not (m == 0) ≡ b → not ((n + m) == 0) ≡ (not (n == 0) || b)
some_step n m b e = grind (arith, nat_tests)

no_more : (n : ℕ) → 0 + n ≡ n
no_more n = omega arith

one_step : (n : ℕ) (b c : Bool) → not (n == 0) ≡ c → not ((cond b 1 0 + n) == 0) ≡ (b || c)
one_step n true c e = grind (arith, nat_tests)
one_step n false c e = ap (λ m. not (m == 0)) (no_more n) ∙ e

some_count : (p : ℕ) (ds : List (List ℕ)) → not (count_by (is_of p) ds == 0) ≡ list_any (is_of p) ds
some_count p [] = refl
some_count p (d ∷ ds) =
    ap (λ n. not (n == 0)) (sum_by-cons (λ (x : List ℕ). cond (is_of p x) 1 0) d ds)
    ∙ one_step (count_by (is_of p) ds) (is_of p d) (list_any (is_of p) ds) (some_count p ds)

-- something of the partition is pending where its count isn't 0
pub pending_is : (ts : Targets) (p : ℕ) → not (pending_count ts p == 0) ≡ is_pending ts p
pending_is [] p = refl
pending_is (t ∷ ts) p =
    ap (λ n. not (n == 0)) (sum_by-cons (λ (u : Target). count_by (is_of p) u.pending) t ts)
    ∙ some_step (count_by (is_of p) t.pending) (pending_count ts p) (is_pending ts p) (pending_is ts p)
    ∙ ap (λ b. b || is_pending ts p) (some_count p t.pending)

-- nothing of the partition is pending where its number is 0
pub done_is : (ts : Targets) (numbers : List ℕ) (p : ℕ) → AreCounts ts numbers → p < partition_count → (slice_index numbers p == 0) ≡ not (is_pending ts p)
done_is ts numbers p h within =
    ap (λ n. n == 0) (h.at p within) ∙ sym (not-not (pending_count ts p == 0)) ∙ ap not (pending_is ts p)

-- ---- one more target

pub no_counts : (now : List ℕ) → ((p : ℕ) → slice_index now p ≡ 0) → AreCounts [] now
no_counts now none = record { at = λ p within. none p }

pub counts_snoc : (ts : Targets) (t : Target) (now next : List ℕ) → AreCounts ts now
    → ((p : ℕ) → p < partition_count → slice_index next p ≡ slice_index now p + count_by (is_of p) t.pending) → AreCounts (ts ++ t ∷ []) next
counts_snoc ts t now next h more = record {
  at = λ p within.
      let whole : pending_count (ts ++ t ∷ []) p ≡ pending_count ts p + pending_count (t ∷ []) p = sum_by-append (λ (u : Target). count_by (is_of p) u.pending) ts (t ∷ []) in
      let one : pending_count (t ∷ []) p ≡ count_by (is_of p) t.pending + pending_count [] p = sum_by-cons (λ (u : Target). count_by (is_of p) u.pending) t [] in
      let none : pending_count [] p ≡ 0 = refl in
      omega (arith, whole, one, none, h.at p within, more p within);
}

-- members have a target each
pub targets_apart : (is_for : ℕ → List ℕ → Bool) (content : Content) (ms : List Member) (me : ℕ) → AreMembers ms → AreApart (targets_of is_for content (others_among me ms))
targets_apart is_for content ms me h = record {
  apart = λ i j d lower within same.
      let ns = others_among me ms in
      let falls = AllPairs-filter (λ a b. b < a) (λ n. not (n == me)) (ids_of ms) h.descending.falls in
      let size : length (map (target_of is_for content) ns) ≡ length ns = length-map ns (target_of is_for content) in
      let inside : j < length ns = omega (arith, within, size) in
      let first : i < length ns = omega (arith, lower, inside) in
      let nodes : get_or ns i 0 ≡ get_or ns j 0 =
      ap (λ (t : Target). t.node) (sym (get_or-map (target_of is_for content) ns i 0 d first)) ∙ same ∙ ap (λ (t : Target). t.node) (get_or-map (target_of is_for content) ns j 0 d inside) in
      absurd (omega (arith, nodes, falls i j 0 lower inside));
}

take_others : (ms : List Member) (i : ℕ) (m : Member) (me : ℕ) → i < length ms → m ≡ get_or ms i m → others_among me (take (i + 1) ms) ≡ others_among me (take i ms) ++ without (m.id ∷ []) me
take_others ms i m me within read =
    ap (λ (xs : List Member). others_among me xs) (take_more ms i m within ∙ ap (λ (x : Member). take i ms ++ x ∷ []) (sym read))
    ∙ ap (λ ids. without ids me) (map-append (λ (x : Member). x.id) (take i ms) (m ∷ []))
    ∙ filter-append (λ n. not (n == me)) (ids_of (take i ms)) (m.id ∷ [])

-- the node itself is left out
pub targets_skip : (is_for : ℕ → List ℕ → Bool) (content : Content) (ms : List Member) (i : ℕ) (m : Member) (me : ℕ) → i < length ms → m ≡ get_or ms i m → (m.id == me) ≡ true
    → targets_of is_for content (others_among me (take (i + 1) ms)) ≡ targets_of is_for content (others_among me (take i ms))
targets_skip is_for content ms i m me within read is = ap (targets_of is_for content) (take_others ms i m me within read ∙ rw is (append-nil (others_among me (take i ms))))

-- another member's target stands behind those before it
pub targets_push : (is_for : ℕ → List ℕ → Bool) (content : Content) (ms : List Member) (i : ℕ) (m : Member) (me : ℕ) → i < length ms → m ≡ get_or ms i m → (m.id == me) ≡ false
    → targets_of is_for content (others_among me (take (i + 1) ms)) ≡ targets_of is_for content (others_among me (take i ms)) ++ target_of is_for content m.id ∷ []
targets_push is_for content ms i m me within read is =
    ap (targets_of is_for content) (take_others ms i m me within read ∙ rw is refl) ∙ map-append (target_of is_for content) (others_among me (take i ms)) (m.id ∷ [])

take_nil : (i : ℕ) → take {A = Member} i [] ≡ []
take_nil zero = refl
take_nil (suc i) = refl

pub all_members : (ms : List Member) (i : ℕ) → length ms ≤ i → take i ms ≡ ms
all_members [] i h = take_nil i
all_members (m ∷ ms) zero h = absurd (omega (arith, h))
all_members (m ∷ ms) (suc i) h = ap (λ (xs : List Member). m ∷ xs) (all_members ms i (omega (arith, h)))

pub is_false : (b : Bool) → not b ≡ false → b ≡ true
is_false true e = refl
is_false false e = sym e

-- ---- one target changes

number_is : (a b : ℕ) → (a == b) ≡ true → a ≡ b
number_is a b e = grind (arith, nat_tests)

number_not : (a b : ℕ) → (a == b) ≡ false → a ≢ b
number_not a b e = grind (arith, nat_tests)

pub counts_set : (ts : Targets) (i : ℕ) (d new : Target) (now next : List ℕ) → AreCounts ts now → i < length ts
    → ((p : ℕ) → p < partition_count → slice_index next p + count_by (is_of p) (get_or ts i d).pending ≡ slice_index now p + count_by (is_of p) new.pending)
    → AreCounts (set ts i new) next
counts_set ts i d new now next h inside moved = record {
  at = λ p within.
      let sum : pending_count (set ts i new) p + count_by (is_of p) (get_or ts i d).pending ≡ pending_count ts p + count_by (is_of p) new.pending =
      sum_by-set (λ (t : Target). count_by (is_of p) t.pending) ts i new d inside in
      omega (arith, sum, h.at p within, moved p within);
}

node_after : (ts : Targets) (i : ℕ) (d new : Target) → i < length ts → new.node ≡ (get_or ts i d).node → (k : ℕ) (e : Target) → k < length ts → (get_or (set ts i new) k e).node ≡ (get_or ts k e).node
node_after ts i d new inside same k e within = go (k == i) refl
  where
    go : (b : Bool) → (k == i) ≡ b → (get_or (set ts i new) k e).node ≡ (get_or ts k e).node
    go true is =
        let at : k ≡ i = number_is k i is in
        ap (λ (t : Target). t.node) (get_or-set_at ts i k new e at inside) ∙ same ∙ ap (λ (t : Target). t.node) (get_or_default ts i d e inside) ∙ ap (λ (n : ℕ). (get_or ts n e).node) (sym at)
    go false is = ap (λ (t : Target). t.node) (get_or-set_other ts i k new e (number_not k i is))

pub apart_set : (ts : Targets) (i : ℕ) (d new : Target) → AreApart ts → i < length ts → new.node ≡ (get_or ts i d).node → AreApart (set ts i new)
apart_set ts i d new h inside same = record {
  apart = λ j k e lower within equal.
      let last : k < length ts = omega (arith, within, length-set ts i new) in
      let first : j < length ts = omega (arith, lower, last) in
      h.apart j k e lower last (sym (node_after ts i d new inside same j e first) ∙ equal ∙ node_after ts i d new inside same k e last);
}

-- a member's target stands at the place that was found
pub placed : (ts : Targets) (n i : ℕ) (d : Target) → position (λ t. t.node == n) ts ≡ Some i → (i < length ts) × ((get_or ts i d).node ≡ n)
placed ts n i d found =
    let at = position-Some (λ (t : Target). t.node == n) ts i d found in
    (at.0, number_is (get_or ts i d).node n at.1)

some_none : {X : Type 0} (x : X) → Some x ≡ None → ⊥
some_none x e = true≢false (ap is_some e)

none_passes : (p : Target → Bool) (xs : List Target) (d : Target) → position p xs ≡ None → (k : ℕ) → k < length xs → p (get_or xs k d) ≡ false
none_passes p xs d none k within = elim (cases_lt (position_or_len p xs) (length xs)) [
  | inl inside ↦ absurd (some_none (position_or_len p xs) (rw (lt-ltb (position_or_len p xs) (length xs) inside) at none))
  | inr past ↦ fails_before_first p xs k d (omega arith)
]

pub no_place : (ts : Targets) (n : ℕ) → position (λ t. t.node == n) ts ≡ None → All (λ t. t.node ≡ n → ⊥) ts
no_place ts n none = λ k d within e. true≢false (sym (same_node (get_or ts k d).node n e) ∙ none_passes (λ (t : Target). t.node == n) ts d none k within)

pub none_out : (ts : Targets) (n number : ℕ) → position (λ t. t.node == n) ts ≡ None → has_number (out_to ts n) number ≡ false
none_out ts n number none = ap (λ (o : Option Target). has_number (out_of o) number) (target_none ts n (no_place ts n none))

pub target_found : (ts : Targets) (n i : ℕ) (d : Target) → position (λ t. t.node == n) ts ≡ Some i → AreApart ts → d ≡ get_or ts i d → target ts n ≡ Some d
target_found ts n i d found apart is =
    let at = placed ts n i d found in
    target_at ts i n d at.0 at.1 apart.apart ∙ ap (λ (t : Target). Some t) (sym is)

pub out_found : (ts : Targets) (n i : ℕ) (d : Target) → position (λ t. t.node == n) ts ≡ Some i → AreApart ts → d ≡ get_or ts i d → out_to ts n ≡ d.out
out_found ts n i d found apart is = ap out_of (target_found ts n i d found apart is)

-- what holds of all targets holds of a member's
pub holds_of_found : (P : Target → Type 0) (ts : Targets) (n : ℕ) (t : Target) → target ts n ≡ Some t → All P ts → P t
holds_of_found P [] n t e h = absurd (none-some t e)
holds_of_found P (u ∷ ts) n t e h = go (u.node == n) refl e (λ f. holds_of_found P ts n t f (All-tail P u ts h))
  where
    go : (b : Bool) → (u.node == n) ≡ b → cond (u.node == n) (Some u) (target ts n) ≡ Some t → (target ts n ≡ Some t → P t) → P t
    go true is f rest = subst P (ap (λ o. unwrap_or o u) (ap (λ b. cond b (Some u) (target ts n)) (sym is) ∙ f)) (h 0 u (omega arith))
    go false is f rest = rest (ap (λ b. cond b (Some u) (target ts n)) (sym is) ∙ f)

-- an acknowledgement keeps whose target it is
pub acked_node : (t : Target) (number : ℕ) (o : Option Batch) → (acked_out t number o).node ≡ t.node
acked_node t number None = refl
acked_node t number (Some b) = go (b.number == number)
  where
    go : (c : Bool) → (cond c (without_batch t b) t).node ≡ t.node
    go true = refl
    go false = refl

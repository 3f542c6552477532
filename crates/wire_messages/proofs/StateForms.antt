-- Rows of copy states are forms.
use Rattle.std.proofs.Common.{◌≡◌, ◌≢◌, ℕ, ◌+◌, ◌<◌, ◌≤◌, ◌^◌, true, ◌&&◌, List, [], ◌∷◌, ◌++◌, length, take, Option, Some, None, Ok, Err, refl, subst, arith, inl, inr, lit<}
use Rattle.std.specs.Prelude.{nat_lt, ◌==◌}
use Rattle.std.specs.List.{AllByRecursion}
use Rattle.std.specs.Int.{w16, w32}
use Rattle.std.proofs.lemmas.Bool.{ltb-true, lt-ltb, eqb-true, eqb-false, and_parts, and_from}
use Rattle.std.proofs.lemmas.List.Elements.{All-from_recursion, recursion_from_All}
use Rattle.cluster_types.specs.declared.cluster_key.ClusterKey.{ClusterKey}
use Rattle.cluster_types.specs.declared.copy_state.CopyState.{CopyState}
use Rattle.cluster_types.specs.declared.copy_state.CopyState.TheVariants.{Empty, Part, Whole}
use Rattle.cluster_types.specs.Partitions.{partition_count}
use Rattle.wire_messages.specs.declared.fault.FieldFault.TheVariants.{Short}
use Rattle.wire_messages.specs.Fields.{◌>>=◌}
use Rattle.wire_messages.specs.Numbers.{every, between, number_field, number_at, byte_field}
use Rattle.wire_messages.specs.Keys.{key_field, key_at}
use Rattle.wire_messages.specs.Rows.{state_field, whole_if, state_at, is_above, entry_field, entry_at, with_entry, state_row_field, state_row_at, FitsState, IsStateRowField}
use Rattle.wire_messages.proofs.Forms.{IsBytes, Small, IsForm, again_step, cut_step, small_step, took, ok_is, joined, chosen}
use Rattle.wire_messages.proofs.NumberForms.{form_as, Allowed, number_form, is_byte, wide16, wide32, every_form, key_form, between_from, between_is, no_less}
use Rattle.wire_messages.proofs.ChoiceForms.{IsChoice, Tagged, choice_form, plain_taken, made, one_again, one_cut, pair_form}
use Rattle.wire_messages.proofs.ItemForms.{AreItems, counted_items_form, Follows, Next, last_key, each_pair, each_item, items_from_none, weaker}

-- ---- states

pub record IsState (s : CopyState) : Type 0 where
  pub some : s ≢ Empty
  pub fits : FitsState s

abbrev state_tag : CopyState → ℕ
state_tag Empty = 0
state_tag Part = 1
state_tag (Whole key writes) = 2

abbrev state_text : CopyState → List ℕ
state_text Empty = []
state_text Part = []
state_text (Whole key writes) = key_field key ++ number_field w32 writes

part_some : Part ≢ Empty
part_some e = absurd cc

whole_some : (key : ClusterKey) (writes : ℕ) → Whole key writes ≢ Empty
whole_some key writes e = absurd cc

whole_taken : (tag : ℕ) → tag ≡ 2 → (bytes : List ℕ) → IsBytes bytes → (x : CopyState) (rest : List ℕ)
    → (key_at bytes >>= λ key. number_at w32 every key.1 >>= made (λ n. Whole key.0 n)) ≡ Ok (x, rest) → Tagged IsState state_tag state_text tag bytes x rest
whole_taken tag is bytes fits x rest e =
    let k = took key_form bytes fits (λ key. number_at w32 every key.1 >>= made (λ n. Whole key.0 n)) (x, rest) e in
    let n = took (every_form w32 (2 ^ 32) wide32) k.rest k.takes.rest_fits (made (λ n. Whole k.value n)) (x, rest) k.next in
    subst (λ (y : CopyState × List ℕ). Tagged IsState state_tag state_text tag bytes y.0 y.1) (ok_is (Whole k.value n.value, n.rest) (x, rest) n.next)
    (record {
      same = is;
      parts = joined bytes (key_field k.value) k.rest (number_field w32 n.value) n.rest k.takes.parts n.takes.parts;
      rest_fits = n.takes.rest_fits;
      allowed = record { some = whole_some k.value n.value; fits = (k.takes.allowed, n.takes.allowed) };
    })

state_choice : IsChoice IsState (between 1 2) state_tag state_text whole_if
state_choice = record {
  tag = λ x. elim x as (λ x. IsState x → Allowed (between 1 2) 256 (state_tag x)) [ Empty ↦ λ q. absurd (q.some refl) | Part ↦ λ q. is_byte (between 1 2) 1 refl (lit< tt) | Whole key writes ↦ λ q. is_byte (between 1 2) 2 refl (lit< tt) ];
  again = λ x rest. elim x as (λ x. IsState x → whole_if (state_tag x) (state_text x ++ rest) ≡ Ok (x, rest)) [
    | Empty ↦ λ q. absurd (q.some refl)
    | Part ↦ λ q. refl
    | Whole key writes ↦ λ q.
        again_step key_form key q.fits.0 _ (number_field w32 writes) rest _
        (one_again (every_form w32 (2 ^ 32) wide32) (λ n. Whole key n) writes q.fits.1 rest)
  ];
  takes = λ tag bytes x rest ok fits e.
      elim (chosen (tag == 1) _ _ _ e) [
        | inl one ↦ plain_taken IsState state_tag state_text Part tag (eqb-true _ _ one.0) refl (record { some = part_some; fits = tt }) bytes fits x rest one.1
        | inr two ↦
            let ne = eqb-false tag 1 two.0 in
            let range = between_is 1 2 tag ok in
            let least = range.0 in
            let most = range.1 in
            let is : tag ≡ 2 = omega arith in
            whole_taken tag is bytes fits x rest two.1
      ];
  cut = λ x k. elim x as (λ x. IsState x → k < length (state_text x) → whole_if (state_tag x) (take k (state_text x)) ≡ Err Short) [
    | Empty ↦ λ q lt. no_less k lt
    | Part ↦ λ q lt. no_less k lt
    | Whole key writes ↦ λ q lt.
        cut_step key_form key q.fits.0 _ (number_field w32 writes)
        (λ j less. one_cut (every_form w32 (2 ^ 32) wide32) (λ n. Whole key n) writes q.fits.1 j less) k lt
  ];
  small = λ x. elim x as (λ x. IsState x → Small (state_text x)) [
    | Empty ↦ λ q. tt
    | Part ↦ λ q. tt
    | Whole key writes ↦ λ q. small_step key_form key q.fits.0 (number_field w32 writes) ((every_form w32 (2 ^ 32) wide32).small writes q.fits.1)
  ];
}

pub state_form : IsForm IsState state_field state_at
unfolding state_field state_at byte_field
state_form = choice_form IsState state_field (between 1 2) state_tag state_text whole_if state_choice
    (λ x. elim x as (λ x. byte_field (state_tag x) ++ state_text x ≡ state_field x) [ Empty ↦ refl | Part ↦ refl | Whole key writes ↦ refl ])

-- ---- entries

-- the order of entries
abbrev Rising : ℕ → ℕ → Type 0
Rising a b = a < b

rising_trans : (a b c : ℕ) → Rising a b → Rising b c → Rising a c
rising_trans a b c p q = omega (arith, p, q)

abbrev itself : ℕ → ℕ
itself n = n

abbrev InRange : ℕ → Type 0
InRange p = p < partition_count

above_is : (before : Option ℕ) (n : ℕ) → is_above before n ≡ true → Follows Rising before n
above_is None n e = tt
above_is (Some b) n e = ltb-true _ _ e

above_from : (before : Option ℕ) (n : ℕ) → Follows Rising before n → is_above before n ≡ true
above_from None n h = refl
above_from (Some b) n h = lt-ltb _ _ h

partition_above_form : (before : Option ℕ) (after : ℕ) → IsForm (Next Rising itself InRange before after) (number_field w16) (number_at w16 (λ p. nat_lt p partition_count && is_above before p))
partition_above_form before after = form_as (Next Rising itself InRange before after) (number_form w16 (2 ^ 16) (λ p. nat_lt p partition_count && is_above before p) wide16)
    (λ p q. record { test = and_from _ _ (lt-ltb _ _ q.each) (above_from before p q.follows); fits = omega (arith, q.each) })
    (λ p t.
    let both = and_parts (nat_lt p partition_count) (is_above before p) t.test in
    record { follows = above_is before p both.1; each = ltb-true _ _ both.0 })

abbrev partition_of : ℕ × CopyState → ℕ
partition_of e = e.0

record IsEntry (e : ℕ × CopyState) : Type 0 where
  partition : e.0 < partition_count
  state : IsState e.1

entry_form : (before : Option ℕ) (after : ℕ) → IsForm (Next Rising partition_of IsEntry before after) entry_field (entry_at before after)
unfolding entry_field entry_at
entry_form before after =
    pair_form (Next Rising itself InRange before after) (number_field w16) (number_at w16 (λ p. nat_lt p partition_count && is_above before p)) (partition_above_form before after)
    (λ p s. IsState s) state_field (λ p. state_at) (λ p. state_form)
    (Next Rising partition_of IsEntry before after) (λ e. e.0) (λ e. e.1) (λ p s. (p, s))
    (record {
      whole = λ e. refl;
      first_is = λ p s. refl;
      second_is = λ p s. refl;
      from = λ p s h k. record { follows = h.follows; each = record { partition = h.each; state = k } };
      to_first = λ e q. record { follows = q.follows; each = q.each.partition };
      to_second = λ e q. q.each.state;
    })

-- ---- rows

-- rising partitions are no more than there are
few_after : (b : ℕ) (row : List (ℕ × CopyState)) → b < partition_count → AreItems (Next Rising partition_of IsEntry) (last_key partition_of) (Some b) row → length row + b < partition_count
few_after b [] lt h = omega (arith, lt)
few_after b (e ∷ row) lt h =
    let more = few_after e.0 row h.0.each.partition h.1 in
    let above = h.0.follows in
    omega (arith, more, above)

few : (row : List (ℕ × CopyState)) → AreItems (Next Rising partition_of IsEntry) (last_key partition_of) None row → length row ≤ partition_count
few [] h = omega arith
few (e ∷ row) h =
    let more = few_after e.0 row h.0.each.partition h.1 in
    omega (arith, more)

entries : (row : List (ℕ × CopyState)) → AllByRecursion (λ e. e.0 < partition_count) row → AllByRecursion (λ e. e.1 ≢ Empty) row → AllByRecursion (λ e. FitsState e.1) row → AllByRecursion IsEntry row
entries [] p s f = tt
entries (e ∷ row) p s f = (record { partition = p.0; state = record { some = s.0; fits = f.0 } }, entries row p.1 s.1 f.1)

row_items : (row : List (ℕ × CopyState)) → IsStateRowField row → AreItems (Next Rising partition_of IsEntry) (last_key partition_of) None row
row_items row q =
    items_from_none Rising partition_of IsEntry row q.states.rising
    (entries row (recursion_from_All (λ e. e.0 < partition_count) row q.states.partitions)
    (recursion_from_All (λ e. e.1 ≢ Empty) row q.states.none_empty)
    (recursion_from_All (λ e. FitsState e.1) row q.fit))

pub row_limit : (row : List (ℕ × CopyState)) → IsStateRowField row → length row ≤ partition_count
row_limit row q = few row (row_items row q)

pub state_row_form : IsForm IsStateRowField state_row_field state_row_at
unfolding state_row_field state_row_at
state_row_form = form_as IsStateRowField
    (counted_items_form (Allowed (between 0 4096) (2 ^ 16)) (number_field w16) (number_at w16 (between 0 4096)) (number_form w16 (2 ^ 16) (between 0 4096) wide16)
    (Next Rising partition_of IsEntry) entry_field entry_at with_entry entry_form None)
    (λ row q.
    let items = row_items row q in
    let most = few row items in
    record { count = record { test = between_from 0 4096 (length row) (omega arith) most; fits = omega (arith, most) }; each = items })
    (λ row p.
    let each = each_item Rising partition_of IsEntry None row p.each in
    record {
      states = record {
        rising = each_pair Rising partition_of IsEntry rising_trans None row p.each;
        partitions = All-from_recursion (λ e. e.0 < partition_count) row (weaker IsEntry (λ e. e.0 < partition_count) (λ e h. h.partition) row each);
        none_empty = All-from_recursion (λ e. e.1 ≢ Empty) row (weaker IsEntry (λ e. e.1 ≢ Empty) (λ e h. h.state.some) row each);
      };
      fit = All-from_recursion (λ e. FitsState e.1) row (weaker IsEntry (λ e. FitsState e.1) (λ e h. h.state.fits) row each);
    })

use Rattle.std.proofs.Common.{◌≡◌, ◌≤◌, [], ◌∷◌, ◌++◌, length, length-append, append_assoc, Ok, true, sym, ap, subst, ◌∙◌, refl, arith, inl, inr, ◌⊎◌, Contains}
use Rattle.std.specs.List.{concat}
use Rattle.script_lang.specs.Values.{is_one_of}
use Rattle.script_lang.proofs.Groups.{Continues, at_start, after_bar, after_id, not_read}
use Rattle.script_lang.proofs.Grouped.{is_some, is_some_by, contains_behind, bad_bar, bad_end, bad_count, bad_id, room_for, bar_seen, bar_filled, good_end, are_groups}
use Rattle.script_lang.proofs.forms.groups.grouped.Goals as goal
use Rattle.script_lang.proofs.forms.groups.grouped.Goals.{then-len-via-then-len, then-len-via-else-len+then-contains, then-is_empty-2-via-then-is_empty-2, then-is_empty-2-via-else-is_empty-2+then-ids-len}

pub returns-then-is_empty : goal.returns-then-is_empty
returns-then-is_empty c = λ lists e.
    bad_bar c.args.before.now.nodes c.args.before.now lists c.loop-field.groups c.loop-field.group c.in-Some.field c.take_first.new.self
    (sym c.is_bar.ensures ∙ c.if-is_bar.true) (c.if-is_empty.ensures.0 refl)
    (subst (λ fs. Continues c.args.before.now lists c.loop-field.groups c.loop-field.group fs) c.in-Some.ensures.some (c.loop-field.invariant.continues lists e))

pub loop-field-preserved-then-is_bar : goal.loop-field-preserved-then-is_bar
loop-field-preserved-then-is_bar c =
    let some : is_some c.loop-field.group ≡ true = is_some_by c.loop-field.group c.is_empty.result c.if-is_empty.false c.is_empty.ensures.1 in
    rw (c.push.ensures, c.new-group-then-is_bar.ensures) (record {
      continues = λ all e. after_bar c.args.before.now all c.loop-field.groups c.loop-field.group c.in-Some.field c.take_first.new.self
          (sym c.is_bar.ensures ∙ c.if-is_bar.true)
          (subst (λ fs. Continues c.args.before.now all c.loop-field.groups c.loop-field.group fs) c.in-Some.ensures.some (c.loop-field.invariant.continues all e));
      seen = bar_seen c.loop-field.groups c.loop-field.group c.loop-field.seen c.loop-field.invariant.seen;
      filled = bar_filled c.loop-field.groups c.loop-field.group c.loop-field.invariant.filled some;
      limit = c.loop-field.invariant.limit;
    })

pub returns-in_err-id : goal.returns-in_err-id
returns-in_err-id c = λ lists e.
    absurd (not_read c.args.before.now lists c.loop-field.groups c.loop-field.group c.in-Some.field c.take_first.new.self c.in_err-id.field-0.0
    (sym c.is_bar.ensures ∙ c.if-is_bar.false) (sym c.in_err-id.was ∙ c.declared_node.ensures)
    (subst (λ fs. Continues c.args.before.now lists c.loop-field.groups c.loop-field.group fs) c.in-Some.ensures.some (c.loop-field.invariant.continues lists e)))

pub loop-field-preserved : goal.loop-field-preserved
loop-field-preserved c =
    rw (c.push-else-is_bar.ensures, c.push-else-is_bar-2.ensures) (record {
      continues = λ all e. after_id c.args.before.now all c.loop-field.groups c.loop-field.group c.in-Some.field c.take_first.new.self c.in_ok-id.id
          (sym c.is_bar.ensures ∙ c.if-is_bar.false) (sym c.in_ok-id.was ∙ c.declared_node.ensures)
          (subst (λ fs. Continues c.args.before.now all c.loop-field.groups c.loop-field.group fs) c.in-Some.ensures.some (c.loop-field.invariant.continues all e));
      seen = ap (λ x. x ++ c.in_ok-id.id ∷ []) c.loop-field.invariant.seen ∙ append_assoc (concat c.loop-field.groups) c.loop-field.group (c.in_ok-id.id ∷ []);
      filled = c.loop-field.invariant.filled;
      limit = omega (arith, length-append c.loop-field.seen (c.in_ok-id.id ∷ []), c.if-len.false, c.len.ensures.value, c.len-else-is_bar.ensures.limit);
    })

pub from_lists-requires : goal.from_lists-requires
from_lists-requires c =
    let some : is_some c.loop-field.group ≡ true = is_some_by c.loop-field.group c.is_empty-2.result c.if-is_empty-2.false c.is_empty-2.ensures.1 in
    rw (c.as_slice.ensures, c.push-2.ensures)
    (are_groups c.loop-field.groups c.loop-field.group c.loop-field.seen c.loop-field.invariant.seen
    c.as_slice-ids.ensures.valid.distinct c.as_slice-ids.ensures.valid.limit c.loop-field.invariant.filled some)

pub returns : goal.returns
returns c = λ lists e.
    let some : is_some c.loop-field.group ≡ true = is_some_by c.loop-field.group c.is_empty-2.result c.if-is_empty-2.false c.is_empty-2.ensures.1 in
    good_end c.args.before.now.nodes c.args.before.now lists c.loop-field.groups c.loop-field.group c.loop-field.seen c.loop-field.invariant.seen
    (sym (ap length c.as_slice-ids.ensures.same) ∙ c.if-ids-len.false ∙ c.len-else-is_empty-2.ensures.value)
    c.as_slice-ids.ensures.valid.distinct c.loop-field.invariant.filled some
    (subst (λ fs. Continues c.args.before.now lists c.loop-field.groups c.loop-field.group fs) c.in_default.ensures.none.0 (c.loop-field.invariant.continues lists e))
    ∙ ap Ok (sym (c.from_lists.ensures ∙ c.as_slice.ensures ∙ c.push-2.ensures))

pub returns-then-len : goal.returns-then-len
returns-then-len c = λ lists e.
    let go : (is_one_of c.in_ok-id.id c.loop-field.seen ≡ true) ⊎ (length c.args.before.now.nodes ≤ length c.loop-field.seen) =
    elim c.then-len.branch [
      | then-len-via-then-len w ↦ let x = w.if-len.true in inr (omega arith)
      | then-len-via-else-len+then-contains w ↦ inl (sym w.contains.ensures.value ∙ w.if-contains.true)
    ] in
    bad_id c.args.before.now.nodes c.args.before.now lists c.loop-field.groups c.loop-field.group c.in-Some.field c.loop-field.seen c.take_first.new.self c.in_ok-id.id
    (sym c.is_bar.ensures ∙ c.if-is_bar.false) (sym c.in_ok-id.was ∙ c.declared_node.ensures) c.loop-field.invariant.seen go
    (subst (λ fs. Continues c.args.before.now lists c.loop-field.groups c.loop-field.group fs) c.in-Some.ensures.some (c.loop-field.invariant.continues lists e))

pub push-requires-else-is_bar-2-clause-new : goal.push-requires-else-is_bar-2-clause-new
push-requires-else-is_bar-2-clause-new c = λ found.
    let stood : Contains c.loop-field.seen c.in_ok-id.id =
    subst (λ ids. Contains ids c.in_ok-id.id) (sym c.loop-field.invariant.seen) (contains_behind (concat c.loop-field.groups) c.loop-field.group c.in_ok-id.id found) in
    let told = c.contains.ensures.found.1 stood in
    let none = c.if-contains.false in
    cc

pub returns-then-is_empty-2 : goal.returns-then-is_empty-2
returns-then-is_empty-2 c = λ lists e.
    let left = subst (λ fs. Continues c.args.before.now lists c.loop-field.groups c.loop-field.group fs) c.in_default.ensures.none.0 (c.loop-field.invariant.continues lists e) in
    elim c.then-is_empty-2.branch [
      | then-is_empty-2-via-then-is_empty-2 w ↦
          bad_end c.args.before.now.nodes c.args.before.now lists c.loop-field.groups c.loop-field.group (w.if-is_empty-2.ensures.0 refl) left
      | then-is_empty-2-via-else-is_empty-2+then-ids-len w ↦
          bad_count c.args.before.now.nodes c.args.before.now lists c.loop-field.groups c.loop-field.group c.loop-field.seen c.loop-field.invariant.seen
          (λ same. w.if-ids-len.true (ap length c.as_slice-ids.ensures.same ∙ same ∙ sym w.len-else-is_empty-2.ensures.value)) left
    ]

pub loop-field-init : goal.loop-field-init
loop-field-init c =
    rw (c.new-groups.ensures, c.new-group.ensures, c.new-seen.ensures) (record {
      continues = λ all e. at_start c.args.before.now c.args.fields all e;
      seen = refl;
      filled = refl;
      limit = omega arith;
    })

pub push-requires : goal.push-requires
push-requires c =
    let some : is_some c.loop-field.group ≡ true = is_some_by c.loop-field.group c.is_empty.result c.if-is_empty.false c.is_empty.ensures.1 in
    room_for c.loop-field.groups c.loop-field.group c.loop-field.seen c.loop-field.invariant.seen c.loop-field.invariant.limit c.loop-field.invariant.filled some

pub push-requires-2 : goal.push-requires-2
push-requires-2 c =
    let some : is_some c.loop-field.group ≡ true = is_some_by c.loop-field.group c.is_empty-2.result c.if-is_empty-2.false c.is_empty-2.ensures.1 in
    room_for c.loop-field.groups c.loop-field.group c.loop-field.seen c.loop-field.invariant.seen c.loop-field.invariant.limit c.loop-field.invariant.filled some

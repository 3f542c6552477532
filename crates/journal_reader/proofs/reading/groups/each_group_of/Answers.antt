use Rattle.std.proofs.Common.{refl, sym, ◌∙◌, ap, ◌∷◌, [], ◌++◌, Some}
use Rattle.std.specs.List.{slice_split}
use Rattle.std.specs.Str.{bytes_eq}
use Rattle.journal_reader.specs.Fields.{are_distinct_ids, is_bar}
use Rattle.journal_reader.proofs.Loops.{groups_left, groups_init, group_ends, group_ends_badly, id_good, id_bad, last_good, last_bad}
use Rattle.journal_reader.proofs.PairLaws.{test_of_distinct, distinct_if}
use Rattle.journal_reader.proofs.reading.groups.each_group_of.Goals as goal

pub loop-field-init : goal.loop-field-init
loop-field-init c =
    (λ i. groups_left (c.new-groups.ensures.items i) (c.new-ids.ensures.items i) (slice_split is_bar c.args.fields)) ∙ groups_init c.args.fields

pub returns-in_default-from_slice : goal.returns-in_default-from_slice
returns-in_default-from_slice c =
    group_ends_badly c.loop-field.groups.items c.loop-field.ids.items c.in-Some.field.now c.loop-field.fields c.take_first.new.self _
    c.in-Some.ensures.some
    (ap (bytes_eq c.in-Some.field.now) (sym c.as_slice.ensures) ∙ sym c.if-eq.ensures)
    (ap are_distinct_ids (sym c.as_slice-then-eq.ensures.value) ∙ distinct_if _ c.in_default-from_slice.ensures.valid.1)
    c.loop-field.invariant

pub loop-field-preserved-then-eq : goal.loop-field-preserved-then-eq
loop-field-preserved-then-eq c =
    (λ i. groups_left ((c.in_ok-push.ensures.items ∙ ap (λ g. c.loop-field.groups.items ++ g ∷ []) (c.in-Ok.ensures.ok ∙ c.as_slice-then-eq.ensures.value)) i) (c.clear.ensures.items i) (slice_split is_bar c.take_first.new.self))
    ∙ group_ends c.loop-field.groups.items c.loop-field.ids.items c.in-Some.field.now c.loop-field.fields c.take_first.new.self _
    c.in-Some.ensures.some
    (ap (bytes_eq c.in-Some.field.now) (sym c.as_slice.ensures) ∙ sym c.if-eq.ensures)
    (ap are_distinct_ids (sym c.as_slice-then-eq.ensures.value) ∙ test_of_distinct _ (c.in-Ok.ensures.valid.0 refl))
    c.loop-field.invariant

pub returns-in_default-node_of : goal.returns-in_default-node_of
returns-in_default-node_of c =
    id_bad c.loop-field.groups.items c.loop-field.ids.items c.in-Some.field.now c.loop-field.fields c.take_first.new.self _
    c.in-Some.ensures.some
    (ap (bytes_eq c.in-Some.field.now) (sym c.as_slice.ensures) ∙ sym c.if-eq.ensures)
    (sym c.in_default-node_of.is ∙ c.node_of.ensures)
    c.loop-field.invariant

pub loop-field-preserved : goal.loop-field-preserved
loop-field-preserved c =
    ap (λ ids. groups_left c.loop-field.groups.items ids (slice_split is_bar c.take_first.new.self)) c.in_ok-push-2.ensures.items
    ∙ id_good c.loop-field.groups.items c.loop-field.ids.items _ c.in-Some.field.now c.loop-field.fields c.take_first.new.self _
    c.in-Some.ensures.some
    (ap (bytes_eq c.in-Some.field.now) (sym c.as_slice.ensures) ∙ sym c.if-eq.ensures)
    (sym c.in-Some-node_of.is ∙ c.node_of.ensures)
    c.loop-field.invariant

pub returns-in_default-from_slice-2 : goal.returns-in_default-from_slice-2
returns-in_default-from_slice-2 c =
    last_bad c.loop-field.groups.items c.loop-field.ids.items c.loop-field.fields _ c.in_default.ensures.none.0
    (ap are_distinct_ids (sym c.as_slice-2.ensures.value) ∙ distinct_if _ c.in_default-from_slice-2.ensures.valid.1)
    c.loop-field.invariant

pub returns : goal.returns
returns c =
    ap Some (c.in_ok-push-3.ensures.items ∙ ap (λ g. c.loop-field.groups.items ++ g ∷ []) (c.in-Ok-from_slice.ensures.ok ∙ c.as_slice-2.ensures.value))
    ∙ last_good c.loop-field.groups.items c.loop-field.ids.items c.loop-field.fields _ c.in_default.ensures.none.0
    (ap are_distinct_ids (sym c.as_slice-2.ensures.value) ∙ test_of_distinct _ (c.in-Ok-from_slice.ensures.valid.0 refl))
    c.loop-field.invariant

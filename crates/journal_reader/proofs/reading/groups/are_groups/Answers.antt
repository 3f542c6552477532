use Rattle.std.proofs.Common.{arith, sym, ◌∙◌}
use Rattle.journal_reader.proofs.GroupFields.{tested}
use Rattle.journal_reader.proofs.reading.groups.are_groups.Goals as goal

pub returns : goal.returns
returns c =
    tested c.args.groups.now _ _ (sym c.is_empty.ensures ∙ c.if-is_empty.false) (omega arith) (sym c.have_ids.ensures ∙ c.if-not-have_ids.false)
    (c.as_slice.ensures.value ∙ c.in_ok-ids.ensures) c.are_distinct.ensures

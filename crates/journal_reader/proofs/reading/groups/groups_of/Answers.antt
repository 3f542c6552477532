use Rattle.std.proofs.Common.{ap, sym, ◌∙◌}
use Rattle.journal_reader.specs.Fields.{are_groups}
use Rattle.journal_reader.proofs.GroupFields.{groups_from_test}
use Rattle.journal_reader.proofs.reading.groups.groups_of.Goals as goal

pub from_lists-groups-requires : goal.from_lists-groups-requires
from_lists-groups-requires c =
    groups_from_test _ (ap are_groups (c.as_slice-2.ensures.value ∙ sym c.as_slice.ensures.value) ∙ sym c.in_ok-are_groups.ensures ∙ c.if-not-branch.false)

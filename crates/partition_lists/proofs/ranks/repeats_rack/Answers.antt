use Rattle.std.proofs.Common.{◌∙◌}
use Rattle.partition_lists.proofs.ListLaws.{active_repeats}
use Rattle.partition_lists.proofs.ranks.repeats_rack.Goals as goal

pub returns : goal.returns
returns c = c.is_any_ahead.ensures ∙ active_repeats c.args.candidates.now c.args.c.now c.if-role.false c.if-role-eq-NO_RACK.false

use Rattle.std.proofs.Common.{All, arith, subst, ◌∙◌}
use Rattle.std.proofs.lemmas.List.{take_all}
use Rattle.wire_messages.specs.Nodes.{FitsMember}
use Rattle.partition_lists.proofs.ItemLaws.{one_more_fits}
use Rattle.node_steps.proofs.fields.members_fit.Goals as goal

pub loop-member-preserved : goal.loop-member-preserved
loop-member-preserved c =
    one_more_fits FitsMember c.as_slice-member-items.result.now c.loop-member.member-index c.member-item.result c.loop-member-test.true c.member-item.is c.loop-member.invariant c.member_fits.ensures

pub returns : goal.returns
returns c = record {
  view = c.as_slice-member-items.ensures.valid;
  fit = subst (All FitsMember) (take_all c.loop-member.member-index c.as_slice-member-items.result.now (omega (arith, c.loop-member-test.false)) ∙ c.as_slice-member-items.ensures.same) c.loop-member.invariant;
}

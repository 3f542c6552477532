use Rattle.cluster_types.proofs.DistinctLaws.{descending_distinct}
use Rattle.cluster_types.proofs.MemberLaws.{fresh_member}
use Rattle.cluster_types.proofs.members.Members.ids.Goals as goal

pub push-requires-clause-new : goal.push-requires-clause-new
push-requires-clause-new c =
    rw c.loop-member.invariant
    (fresh_member _ _ c.member-item.result c.loop-member-test.true c.member-item.is
    (descending_distinct _ (rw c.as_slice-member-items.ensures.same c.as_slice-member-items.ensures.valid.descending)))

use Rattle.std.proofs.Common.{refl, sym, subst, length}
use Rattle.std.proofs.lemmas.List.{take_at}
use Rattle.cluster_types.specs.Members.{AreDistinctMembers, plain_member}
use Rattle.cluster_types.proofs.FilledLaws.{IsFilled_front}
use Rattle.cluster_types.proofs.member_list.MemberList.of.Goals as goal

pub invariant_of-result : goal.invariant_of-result
invariant_of-result c = rw c.copy_from_slice.ensures.after (
  IsFilled_front c.args.list.now (plain_member 1) c.requires.limit,
  subst AreDistinctMembers (sym (take_at c.args.list.now _ (length c.args.list.now) refl)) c.requires,
)

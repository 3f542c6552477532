use Rattle.std.proofs.Common.{refl, sym, subst, length, []}
use Rattle.std.proofs.lemmas.List.{take_at}
use Rattle.cluster_types.specs.Groups.{AreGroups}
use Rattle.cluster_types.proofs.FilledLaws.{IsFilled_front}
use Rattle.cluster_types.proofs.groups.Groups.from_lists.Goals as goal

pub invariant_of-result : goal.invariant_of-result
invariant_of-result c = rw (c.copy_from_slice.ensures.after, c.new-places.ensures) (
  IsFilled_front c.args.lists.now [] c.requires.limit,
  subst AreGroups (sym (take_at c.args.lists.now _ (length c.args.lists.now) refl)) c.requires,
)

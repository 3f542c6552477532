use Rattle.cluster_types.proofs.MemberLaws.{plain_too_many, plain_first_rise}
use Rattle.cluster_types.proofs.members.Members.from_slice.Goals as goal

pub returns-clause-too_many : goal.returns-clause-too_many
returns-clause-too_many c = λ n. plain_too_many c.args.ids.now _ n _ c.plain_places-places.ensures (c.with_roles.ensures.too_many n)

pub returns-clause-out_of_order : goal.returns-clause-out_of_order
returns-clause-out_of_order c = λ place. plain_first_rise c.args.ids.now _ place _ c.plain_places-places.ensures (c.with_roles.ensures.out_of_order place)

use Rattle.cluster_types.proofs.MemberLaws.{role_found}
use Rattle.cluster_types.proofs.members.Members.role.Goals as goal

pub returns-clause-member : goal.returns-clause-member
returns-clause-member c = rw (c.role_in.ensures.value, c.as_slice.ensures.same) (role_found c.args.self.now c.args.n)

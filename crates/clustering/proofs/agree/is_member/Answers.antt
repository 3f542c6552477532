use Rattle.clustering.proofs.StageLaws.{is_member_by}
use Rattle.clustering.proofs.agree.is_member.Goals as goal

pub returns : goal.returns
returns c = is_member_by c.args.members.now c.args.n c.contains.result c.contains.ensures

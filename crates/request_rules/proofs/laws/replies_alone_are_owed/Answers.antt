use Rattle.request_rules.proofs.DressingLaws.{replies}
use Rattle.request_rules.proofs.laws.replies_alone_are_owed.Goals as goal

pub returns : goal.returns
returns c = replies

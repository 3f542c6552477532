use Rattle.node_steps.proofs.RowMessageLaws.{either_is}
use Rattle.node_steps.proofs.messages.progress_messages.either.Goals as goal

pub returns : goal.returns
returns c = either_is c.args.a.now c.args.b.now c.or.new.self c.requires.first c.requires.second c.or.ensures.size c.or.ensures.each

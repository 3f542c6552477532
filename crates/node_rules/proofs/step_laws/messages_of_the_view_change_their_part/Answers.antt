use Rattle.node_rules.proofs.PartLaws.{state_is, batch_is, batch_ack_is, progress_is, repl_is, repl_ack_is, ask_is, answer_is, map_ask_is}
use Rattle.node_rules.proofs.step_laws.messages_of_the_view_change_their_part.Goals as goal

pub returns : goal.returns
returns c = record {
  state = state_is;
  batch = batch_is;
  batch_ack = batch_ack_is;
  progress = progress_is;
  repl = repl_is;
  repl_ack = repl_ack_is;
  ask = ask_is;
  answer = answer_is;
  map_ask = map_ask_is;
}

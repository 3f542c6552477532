use Rattle.std.proofs.Common.{refl}
use Rattle.node_rules.proofs.Agreeing.{propose_agrees, accept_agrees, refuse_agrees, commit_agrees, stop_agrees}
use Rattle.node_rules.proofs.Ticking.{tick_agrees, proposal_goes_out}
use Rattle.node_rules.proofs.laws.agreement_goes_by_its_own_rules.Goals as goal

pub returns : goal.returns
returns c = record {
  tick = tick_agrees;
  proposal = proposal_goes_out;
  heartbeat = λ f clock from view promised hears role. refl;
  propose = propose_agrees;
  accept = accept_agrees;
  refuse = refuse_agrees;
  commit = commit_agrees;
  stop = stop_agrees;
}

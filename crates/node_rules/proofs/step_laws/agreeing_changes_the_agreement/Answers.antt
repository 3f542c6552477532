use Rattle.std.proofs.Common.{refl}
use Rattle.node_rules.proofs.PartLaws.{propose_is, accept_is, last_accept_is, refuse_is, commit_is}
use Rattle.node_rules.proofs.step_laws.agreeing_changes_the_agreement.Goals as goal

pub returns : goal.returns
returns c = record {
  heartbeat = λ f clock from view promised hears role. refl;
  propose = propose_is;
  accept = accept_is;
  last_accept = last_accept_is;
  refuse = refuse_is;
  commit = commit_is;
}

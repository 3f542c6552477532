use Rattle.std.proofs.Common.{rules, subst}
use Rattle.net_script.specs.Network.{IsSameNetwork}
use Rattle.world.specs.declared.taking.EndStep.{EndStep}
use Rattle.world.specs.Sent.{all_posted_in, landing_from}
use Rattle.world.proofs.SendingLaws.{same_all_posted, same_landing, same_then}
use Rattle.world.proofs.taking.EndStep.take_of.Goals as goal

pub returns-clause-net : goal.returns-clause-net
returns-clause-net c =
    let step = c.in_ok-step.step in
    subst (λ (s : EndStep). IsSameNetwork (all_posted_in (landing_from c.args.net.now s.landing) s.from s.effects.sends) c.finish.new.net) c.in_ok-step.ensures.ok
    (same_then _ _ _ (same_all_posted _ _ step.from step.effects.sends (same_landing _ _ step.landing c.prepare.ensures.net)) c.finish.ensures.net)

pub returns-clause-node : goal.returns-clause-node
returns-clause-node c = search rules

use Rattle.cluster_rules.proofs.RunLaws.{commands_follow}
use Rattle.cluster_rules.proofs.world_laws.commands_take_due_steps.Goals as goal

pub returns-clause-due : goal.returns-clause-due
returns-clause-due c = λ n w cs x h. (commands_follow n cs w x h).due

pub returns-clause-leads : goal.returns-clause-leads
returns-clause-leads c = λ n w cs x h. (commands_follow n cs w x h).leads

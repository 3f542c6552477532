use Rattle.cluster_rules.proofs.BegunLaws.{front_of_run, begun_due}
use Rattle.cluster_rules.proofs.BegunExamples.{put_next, tick_next, calm_next}
use Rattle.cluster_rules.proofs.world_laws.fronts_of_runs_are_begun.Goals as goal

pub returns-clause-fronts : goal.returns-clause-fronts
returns-clause-fronts c = λ n s j r taken next f. front_of_run n s j r taken next f

pub returns-clause-due : goal.returns-clause-due
returns-clause-due c = λ n w cs taken next h. begun_due n cs w taken next h

pub returns-clause-put : goal.returns-clause-put
returns-clause-put c = put_next

pub returns-clause-calm : goal.returns-clause-calm
returns-clause-calm c = tick_next

pub returns-clause-calmed : goal.returns-clause-calmed
returns-clause-calmed c = calm_next

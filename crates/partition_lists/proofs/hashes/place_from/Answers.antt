use Rattle.std.proofs.Common.{ap, ◌∙◌}
use Rattle.partition_lists.specs.Hashes.{jenkins_end, jenkins_state}
use Rattle.partition_lists.proofs.hashes.place_from.Goals as goal

pub returns : goal.returns
returns c = λ p rest. c.jenkins_end.ensures ∙ ap jenkins_end (c.jenkins_state.ensures ∙ ap (jenkins_state c.args.state) rest)

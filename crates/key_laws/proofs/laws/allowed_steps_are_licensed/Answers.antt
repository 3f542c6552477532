use Rattle.key_laws.proofs.AllowedRuns.{reached_by}
use Rattle.key_laws.proofs.laws.allowed_steps_are_licensed.Goals as goal

pub returns : goal.returns
returns c = λ n h ss proper allowed. (reached_by n h ss proper allowed).licensed

-- Steps have a code.
use Rattle.std.specs.Prelude.{List}
use Rattle.std.specs.Coded.{Coded}
use Rattle.cluster_rules.specs.Codes.{step_codes}
use Rattle.cluster_rules.specs.Steps.{Step}

steps_are_coded : Coded (List Step)
steps_are_coded = hlevel step_codes

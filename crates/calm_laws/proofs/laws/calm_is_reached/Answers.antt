use Rattle.calm_laws.proofs.Runs.{begun_in_time, comes, whole_in_time}
use Rattle.calm_laws.proofs.ScriptRuns.{scripts_calm_in_time}
use Rattle.calm_laws.proofs.laws.calm_is_reached.Goals as goal

pub returns-clause-comes : goal.returns-clause-comes
returns-clause-comes c = comes

pub returns-clause-begun : goal.returns-clause-begun
returns-clause-begun c = begun_in_time

pub returns-clause-whole : goal.returns-clause-whole
returns-clause-whole c = whole_in_time

pub returns-clause-scripts : goal.returns-clause-scripts
returns-clause-scripts c = scripts_calm_in_time

use Rattle.std.proofs.Common.{sym}
use Rattle.script_lang.proofs.Runs.{unfound}
use Rattle.script_lang.proofs.fields.end_of_field.Goals as goal

pub returns-in-None-clause-value : goal.returns-in-None-clause-value
returns-in-None-clause-value c = unfound _ _ (sym c.in-None.ensures)

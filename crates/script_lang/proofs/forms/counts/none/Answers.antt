use Rattle.std.proofs.Common.{rules}
use Rattle.script_lang.proofs.forms.counts.none.Goals as goal

pub returns-in-Some : goal.returns-in-Some
returns-in-Some c = search rules

use Rattle.std.proofs.Common.{rules}
use Rattle.script_lang.proofs.forms.header.script.Goals as goal

pub returns-then-version-before : goal.returns-then-version-before
returns-then-version-before c = search rules

pub returns : goal.returns
returns c = search rules

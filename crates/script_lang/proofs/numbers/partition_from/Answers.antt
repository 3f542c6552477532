use Rattle.std.proofs.Common.{rules}
use Rattle.script_lang.proofs.numbers.partition_from.Goals as goal

pub returns-then-number : goal.returns-then-number
returns-then-number c = search rules

pub returns : goal.returns
returns c = search rules

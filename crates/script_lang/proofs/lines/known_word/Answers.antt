use Rattle.std.proofs.Common.{rules}
use Rattle.script_lang.proofs.lines.known_word.Goals as goal

pub returns : goal.returns
returns c = search rules

use Rattle.std.proofs.Common.{rules}
use Rattle.script_lang.proofs.lines.is_comment.Goals as goal

pub returns : goal.returns
returns c = search rules

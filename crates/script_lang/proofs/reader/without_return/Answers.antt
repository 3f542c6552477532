use Rattle.std.proofs.Common.{rules}
use Rattle.script_lang.proofs.reader.without_return.Goals as goal

pub returns : goal.returns
returns c = search rules

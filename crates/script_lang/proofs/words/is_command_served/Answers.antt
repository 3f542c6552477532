use Rattle.std.proofs.Common.{rules}
use Rattle.script_lang.proofs.words.is_command_served.Goals as goal

pub returns-in_default : goal.returns-in_default
returns-in_default c = search rules

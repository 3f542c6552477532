use Rattle.script_lang.proofs.Spelled.{read_back}
use Rattle.script_lang.proofs.laws.spelling_is_read_back.Goals as goal

pub returns : goal.returns
returns c = read_back

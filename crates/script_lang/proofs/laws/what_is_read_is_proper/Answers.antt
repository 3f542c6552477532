use Rattle.script_lang.proofs.Kept.{read_is_kept}
use Rattle.script_lang.proofs.laws.what_is_read_is_proper.Goals as goal

pub returns : goal.returns
returns c = λ bytes script all e. let k = read_is_kept bytes script all e in (k.proper, k.served)

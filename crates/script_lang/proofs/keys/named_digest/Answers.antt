use Rattle.script_lang.proofs.Named.{with_set, without_set}
use Rattle.script_lang.proofs.keys.named_digest.Goals as goal

pub returns-in-None : goal.returns-in-None
returns-in-None c = without_set _ _ c.in-None.ensures.none c.digest_of.ensures

pub returns-in-Some : goal.returns-in-Some
returns-in-Some c = with_set _ _ _ _ c.in-Some.ensures.some c.digest_of-in-Some.ensures

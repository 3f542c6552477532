use Rattle.std.proofs.Common.{refl}
use Rattle.script_lang.proofs.HeaderLaws.{no_line}
use Rattle.script_lang.proofs.script.Header.new.Goals as goal

pub invariant_of-result : goal.invariant_of-result
invariant_of-result c = no_line _ c.new.ensures.items

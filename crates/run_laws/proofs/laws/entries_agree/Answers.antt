use Rattle.run_laws.proofs.Shapes as lemmas
use Rattle.run_laws.proofs.laws.entries_agree.Goals as goal

pub returns : goal.returns
returns c = lemmas.entries_agree

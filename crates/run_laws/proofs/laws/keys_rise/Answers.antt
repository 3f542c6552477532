use Rattle.run_laws.proofs.EveryJournal as lemmas
use Rattle.run_laws.proofs.laws.keys_rise.Goals as goal

pub returns : goal.returns
returns c = lemmas.keys_rise

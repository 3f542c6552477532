use Rattle.cluster_laws.proofs.LoneJournal.{lone_journal}
use Rattle.cluster_laws.proofs.claims.a_lone_run_is_a_journal.Goals as goal

pub returns : goal.returns
returns c = lone_journal

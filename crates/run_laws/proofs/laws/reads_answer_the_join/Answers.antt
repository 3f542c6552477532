use Rattle.journal_readings.specs.Claims.{ReadJoin}
use Rattle.cluster_laws.proofs.ReadingClaims.{read_join}
use Rattle.run_laws.proofs.EveryJournal.{by_licences}
use Rattle.run_laws.proofs.laws.reads_answer_the_join.Goals as goal

pub returns : goal.returns
returns c = by_licences ReadJoin read_join

use Rattle.journal_readings.specs.Claims.{SettledJoin}
use Rattle.cluster_laws.proofs.ReadingClaims.{settled_join}
use Rattle.run_laws.proofs.EveryJournal.{by_licences}
use Rattle.run_laws.proofs.laws.settled_replicas_hold_the_join.Goals as goal

pub returns : goal.returns
returns c = by_licences SettledJoin settled_join

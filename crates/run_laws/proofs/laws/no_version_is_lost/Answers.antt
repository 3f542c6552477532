use Rattle.journal_readings.specs.Claims.{NoLoss}
use Rattle.cluster_laws.proofs.ReadingClaims.{no_loss}
use Rattle.run_laws.proofs.EveryJournal.{by_licences}
use Rattle.run_laws.proofs.laws.no_version_is_lost.Goals as goal

pub returns : goal.returns
returns c = by_licences NoLoss no_loss

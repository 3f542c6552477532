use Rattle.journal_readings.proofs.ScansKept.{scans_whole}
use Rattle.journal_readings.proofs.ScanRefusals.{mixed_refused, lacking_refused, miscounted_refused, disordered_refused, foreign_refused, unsought_refused, unfinished_refused}
use Rattle.journal_readings.proofs.laws.scans_are_whole.Goals as goal

pub returns : goal.returns
returns c = record {
  anew = scans_whole;
  mixed = mixed_refused;
  lacking = lacking_refused;
  miscounted = miscounted_refused;
  disordered = disordered_refused;
  foreign = foreign_refused;
  unsought = unsought_refused;
  unfinished = unfinished_refused;
}

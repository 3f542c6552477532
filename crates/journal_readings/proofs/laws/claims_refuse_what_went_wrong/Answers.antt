use Rattle.journal_readings.proofs.Refusals.{misread_refused, unmerged_refused, lost_refused, uneasy_refused, misled_refused, garbled_refused, reused_refused, unpromised_refused, two_lists_refused, outdated_refused, unsettled_refused}
use Rattle.journal_readings.proofs.laws.claims_refuse_what_went_wrong.Goals as goal

pub returns : goal.returns
returns c = record {
  misread = misread_refused;
  unmerged = unmerged_refused;
  lost = lost_refused;
  uneasy = uneasy_refused;
  misled = misled_refused;
  garbled = garbled_refused;
  reused = reused_refused;
  unpromised = unpromised_refused;
  two_lists = two_lists_refused;
  outdated = outdated_refused;
  unsettled = unsettled_refused;
}

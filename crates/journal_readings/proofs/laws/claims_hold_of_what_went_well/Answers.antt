use Rattle.journal_readings.proofs.EqualCopies.{settled_joins, classes_equal}
use Rattle.journal_readings.proofs.Resting.{calm_at_end}
use Rattle.journal_readings.proofs.WellKept.{nothing_lost, keys_rise_all}
use Rattle.journal_readings.proofs.Worked.{read_joins, maps_agree, has_shape}
use Rattle.journal_readings.proofs.laws.claims_hold_of_what_went_well.Goals as goal

pub returns : goal.returns
returns c = record {
  map = maps_agree;
  lossless = nothing_lost;
  joined = settled_joins;
  read = read_joins;
  equal = classes_equal;
  rises = keys_rise_all;
  calm = calm_at_end;
  shape = has_shape;
}

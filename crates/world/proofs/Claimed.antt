-- The claims hold of the journal of a run whose steps are taken.
use Rattle.std.proofs.Common.{◌≡◌, List, sym, subst}
use Rattle.journal_lines.specs.declared.line.Line.{Line}
use Rattle.journal_readings.specs.Claims.{OneMap, NoLoss, SettledJoin, ReadJoin, EqualClasses}
use Rattle.cluster_laws.proofs.ReadingClaims.{no_loss, read_join, settled_join}
use Rattle.cluster_laws.proofs.ReadingClasses.{equal_classes}
use Rattle.cluster_laws.proofs.ReadingMaps.{one_map_of}
use Rattle.run_laws.specs.Taken.{Taken}
use Rattle.run_laws.proofs.CalmLines.{calm_ends}
use Rattle.run_laws.proofs.EveryJournal.{by_licences, keys_rise}
use Rattle.world.specs.Claims.{HasClaims}
use Rattle.world.specs.Steps.{RunSoFar, run_lines}

pub has_claims : (r : RunSoFar) (lines : List Line) → Taken r.header r.steps → lines ≡ run_lines r → HasClaims lines
unfolding run_lines
has_claims r lines taken is = subst HasClaims (sym is) (record {
  one_map = (by_licences OneMap one_map_of).steps r.header r.steps taken;
  no_loss = (by_licences NoLoss no_loss).steps r.header r.steps taken;
  settled_join = (by_licences SettledJoin settled_join).steps r.header r.steps taken;
  read_join = (by_licences ReadJoin read_join).steps r.header r.steps taken;
  equal_classes = (by_licences EqualClasses equal_classes).steps r.header r.steps taken;
  keys_rise = keys_rise.steps r.header r.steps taken;
  calm_end = calm_ends.steps r.header r.steps taken;
})

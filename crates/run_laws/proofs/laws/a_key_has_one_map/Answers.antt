use Rattle.journal_readings.specs.Claims.{OneMap}
use Rattle.cluster_laws.proofs.ReadingMaps.{one_map_of}
use Rattle.run_laws.proofs.EveryJournal.{by_licences}
use Rattle.run_laws.proofs.laws.a_key_has_one_map.Goals as goal

pub returns : goal.returns
returns c = by_licences OneMap one_map_of

use Rattle.cluster_laws.proofs.ReadingMaps.{one_map_of}
use Rattle.cluster_laws.proofs.claims.one_map.Goals as goal

pub returns : goal.returns
returns c = one_map_of

use Rattle.std.proofs.Common.{refl}
use Rattle.node_rules.proofs.Shown.{shows}
use Rattle.node_rules.proofs.laws.node_shows_its_map.Goals as goal

pub returns : goal.returns
returns c = record { shown = shows; roles = refl; down = refl; no_view = refl; exchanging = refl }

use Rattle.std.proofs.Common.{[], ◌∷◌, ap, ◌∙◌, take, arith}
use Rattle.std.proofs.lemmas.List.{take-map}
use Rattle.partition_lists.specs.Hashes.{place_after}
use Rattle.partition_lists.proofs.LaneLaws.{first_hashed}
use Rattle.partition_lists.proofs.ranks.places_of.Goals as goal

pub returns-then-count-le-LANES : goal.returns-then-count-le-LANES
returns-then-count-le-LANES c =
    rw c.hash_places.ensures
    (first_hashed (place_after c.args.p) c.args.count 8 c.args.states.now (0 ∷ 0 ∷ 0 ∷ 0 ∷ 0 ∷ 0 ∷ 0 ∷ 0 ∷ []) c.if-count-le-LANES.true (omega (arith, c.told-states)))

pub returns-else-count-le-LANES : goal.returns-else-count-le-LANES
returns-else-count-le-LANES c =
    ap (take c.args.count) c.hash_places-else-count-le-LANES.ensures
    ∙ take-map (place_after c.args.p) c.args.count c.args.states.now

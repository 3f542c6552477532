-- What a node's targets and rows of bits have in every world.
use Rattle.std.specs.Prelude.{◌≡◌, ◌⊎◌, Bool, true, List, [], ◌∷◌, map, length}
use Rattle.cluster_types.specs.Partitions.{partition_count}
use Rattle.node_rules.specs.Batches.{Target}
use Rattle.node_rules.specs.Facts.{Facts}
use Rattle.node_rules.specs.Standing.{others}

-- the second row has each bit of the first
abbrev pub Within : List Bool → List Bool → Type 0
Within [] ys = Unit {0}
Within (x ∷ xs) [] = ⊥
Within (x ∷ xs) (y ∷ ys) = (x ≡ true → y ≡ true) × Within xs ys

-- there is a target for each other member, in their order, or none yet; the row of what was learnt has a place for each
-- partition; and what the node handed over itself it knows handed over
pub record Shaped (f : Facts) : Type 0 where
  pub targets : (map (λ (t : Target). t.node) f.batches ≡ others f) ⊎ (f.batches ≡ [])
  pub learnt : length f.bits.learnt ≡ partition_count
  pub own : Within f.bits.own_handed f.bits.handed

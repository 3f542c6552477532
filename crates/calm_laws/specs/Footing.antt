-- What is premised of the rounds in which partitions are handed over and settled.
use Rattle.std.specs.Prelude.{◌≡◌, ◌<◌, ◌≤◌, ℕ, Bool, true, List}
use Rattle.cluster_types.specs.declared.member.Member.{Member}
use Rattle.cluster_types.specs.Rows.{bit}
use Rattle.partition_lists.specs.Lists.{list}
use Rattle.node_rules.specs.Map.{acting_by_rows, list_master}
use Rattle.node_rules.specs.Standing.{is_all_empty}
use Rattle.journal_readings.specs.Lines.{has_node}
use Rattle.cluster_rules.specs.World.{World}
use Rattle.calm_laws.specs.Calming.{Reaches}
use Rattle.calm_laws.specs.Flows.{world_at}

-- from the end of one round to that of another: all rows name the same acting master of each partition, and say alike
-- whether all copies of it were empty; whose settling some node knows, that the list master settled; rows of bits have
-- a place for each partition, and what a node handed over itself it knows handed over
pub record Footing (n : ℕ) (gs : List ℕ) (set : List Member) (w : World) (from upto : ℕ)
    : Type 0 where
  pub actor : ℕ → ℕ
  pub empty : ℕ → Bool
  pub acting_is : (i : ℕ) → from ≤ i → i ≤ upto → (m : ℕ) → has_node gs m ≡ true → (p : ℕ) → p < n
      → acting_by_rows (list set p) ((world_at n w i).facts m).exchange.rows p ≡ actor p
  pub empty_is : (i : ℕ) → from ≤ i → i ≤ upto → (m : ℕ) → has_node gs m ≡ true → (p : ℕ) → p < n
      → is_all_empty ((world_at n w i).facts m) p ≡ empty p
  pub settled : (i : ℕ) → from ≤ i → i ≤ upto → (m : ℕ) → has_node gs m ≡ true → (p : ℕ) → p < n
      → bit ((world_at n w i).facts m).bits.settled p ≡ true
      → bit ((world_at n w i).facts (list_master (list set p))).bits.settled p ≡ true
  pub places : (i : ℕ) → from ≤ i → i ≤ upto → (m : ℕ) → has_node gs m ≡ true → (p : ℕ) → p < n
      → Reaches ((world_at n w i).facts m).bits.handed p
      × Reaches ((world_at n w i).facts m).bits.settled p
      × Reaches ((world_at n w i).facts m).bits.learnt p
  pub own : (i : ℕ) → from ≤ i → i ≤ upto → (m : ℕ) → has_node gs m ≡ true → (p : ℕ)
      → bit ((world_at n w i).facts m).bits.own_handed p ≡ true
      → bit ((world_at n w i).facts m).bits.handed p ≡ true

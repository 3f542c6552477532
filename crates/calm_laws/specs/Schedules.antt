-- A whole schedule of calm: the groups of the network in rounds in which no message lacks a place. All that is premised
-- of such a schedule stands here and in the records that are named here.
use Rattle.std.specs.Prelude.{◌≡◌, ◌+◌, ◌≤◌, ◌⊎◌, ℕ, true, false, List, []}
use Rattle.cluster_types.specs.Partitions.{partition_count}
use Rattle.cluster_rules.specs.Calm.{as_members, up_in}
use Rattle.journal_readings.specs.Lines.{has_node}
use Rattle.cluster_rules.specs.World.{World, is_up}
use Rattle.run_laws.specs.Tied.{Among}
use Rattle.calm_laws.specs.Flows.{Plain, world_at}
use Rattle.calm_laws.specs.Footing.{Footing}
use Rattle.calm_laws.specs.Ground.{Agreed, Basis, Provisions}
use Rattle.calm_laws.specs.Handing.{AtMostPending}

-- the up nodes of a group of the network: what agreement stands on, and in whatever view they agree what the phases
-- behind it stand on; at most so many digests are pending to one node at the end of the seventeenth round; and what the
-- three rounds stand on after the last of them was handed on
pub record Party (ns group : List ℕ) (w : World) (most q : ℕ) : Type 0 where
  pub lead : ℕ
  pub ground : Basis partition_count ns (up_in w group) lead (as_members w (up_in w group)) w most
  pub provisions :
      (a : Agreed partition_count (up_in w group) lead (as_members w (up_in w group)) w most)
      → Provisions partition_count (up_in w group) w most a.key
  pub pending : AtMostPending q (up_in w group) (world_at partition_count w 17)
  pub footing : Footing partition_count (up_in w group) (as_members w (up_in w group)) w (17 + q)
      (20 + q)

-- the node is up in a group of the network
pub record Home (w : World) (a : ℕ) : Type 0 where
  pub group : List ℕ
  pub among : Among w.network.groups group
  pub here : has_node (up_in w group) a ≡ true

-- each group of the network has no up node or is such a party, if the timetable is played whole; each up node is in one
-- of the groups, and nobody else is up
pub record Schedule (ns : List ℕ) (w : World) (most q : ℕ) : Type 0 where
  pub plain : Plain partition_count ns w most
  pub parties : 21 + q ≤ most → (group : List ℕ) → Among w.network.groups group
      → (up_in w group ≡ []) ⊎ Party ns group w most q
  pub homes : (a : ℕ) → has_node ns a ≡ true → Home w a
  pub others : (a : ℕ) → has_node ns a ≡ false → is_up w a ≡ false

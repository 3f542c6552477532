-- What rounds of calm stand on: what is premised of the world in which they begin, and of the rounds.
use Rattle.std.specs.Prelude.{◌≡◌, ◌<◌, ◌≤◌, ℕ, suc, true, List, None}
use Rattle.cluster_types.specs.declared.cluster_key.ClusterKey.{ClusterKey}
use Rattle.cluster_types.specs.declared.member.Member.{Member}
use Rattle.node_rules.specs.Agreement.{has_round}
use Rattle.node_rules.specs.Notes.{after_ages}
use Rattle.journal_readings.specs.Lines.{has_node}
use Rattle.cluster_rules.specs.World.{World}
use Rattle.calm_laws.specs.Exchanges.{Rows}
use Rattle.calm_laws.specs.Flows.{Plain, look, world_at}
use Rattle.calm_laws.specs.Group.{Group}
use Rattle.calm_laws.specs.Handing.{Handing, LegibleRound, PendingHeld}
use Rattle.calm_laws.specs.Laws.{AreIds, HasLaws, ReadsWith}
use Rattle.calm_laws.specs.Transacting.{Waiting}
use Rattle.calm_laws.specs.Turns.{Lacking, Roll, Roster, Steady}

-- so many rounds without a line that tells of a lost message, of a group with that list, led by that node
pub record Basis (n : ℕ) (ns gs : List ℕ) (g : ℕ) (set : List Member) (w : World) (most : ℕ)
    : Type 0 where
  pub plain : Plain n ns w most
  pub group : Group ns gs w
  pub roll : Roll gs g set
  pub roster : Roster gs set w
  pub ids : AreIds ns
  -- of the world in which they begin: the laws of keys, and that who proposes lacks an answer
  pub lawful : HasLaws w
  pub lacking : (m : ℕ) → has_node gs m ≡ true → Lacking m (w.facts m).agreement.proposal
  -- of each round: what a node proposes can be read; there is a round for a new key; and nobody hears itself
  pub asks : (k : ℕ) → k < most → (m : ℕ) → has_node gs m ≡ true
      → ReadsWith (after_ages ((world_at n w k).facts m))
      (after_ages ((world_at n w k).facts m)).agreement.proposal
  pub roomy : (k : ℕ) → k < most → has_round ((world_at n w k).facts g).agreement ≡ true
  pub own : (k : ℕ) → k ≤ most → (m : ℕ) → has_node gs m ≡ true
      → look ((world_at n w k).facts m).hearing.heard m ≡ None

-- what the phases behind agreement stand on, in the view of that key: the rows of its members, whom open transactions
-- await, what is handed on, and that what is sent can be read
pub record Provisions (n : ℕ) (gs : List ℕ) (w : World) (most : ℕ) (k : ClusterKey) : Type 0 where
  pub rows : Rows gs k (world_at n w 15)
  pub waiting : Waiting gs (world_at n w 15)
  pub handing : Handing gs k (world_at n w 16)
  pub held : (i : ℕ) → 16 ≤ i → i ≤ most → PendingHeld gs (world_at n w i)
  pub rounds : (i : ℕ) → 15 ≤ i → suc i ≤ most
      → LegibleRound n gs (world_at n w i) (world_at n w (suc i))

-- all of the group are in one view of just it at the end of the fifteenth round and of each later one
pub record Agreed (n : ℕ) (gs : List ℕ) (g : ℕ) (set : List Member) (w : World) (most : ℕ)
    : Type 0 where
  pub key : ClusterKey
  pub steady : (k : ℕ) → 15 ≤ k → k ≤ most → Steady gs g set key (world_at n w k)

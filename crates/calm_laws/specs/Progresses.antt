-- What a node knows of how far partitions have come only grows in a view.
use Rattle.std.specs.Prelude.{◌≡◌, ◌<◌, ℕ, Bool, true, List, [], Some}
use Rattle.cluster_types.specs.Rows.{bit}
use Rattle.wire_messages.specs.declared.message.Message.{Message}
use Rattle.wire_messages.specs.declared.message.Message.TheVariants as message
use Rattle.node_rules.specs.Batches.{Target, Targets}
use Rattle.node_rules.specs.Bits.{Bits}
use Rattle.node_rules.specs.Tables.{at}
use Rattle.journal_readings.specs.Lines.{has_node}
use Rattle.cluster_rules.specs.World.{World}
use Rattle.run_laws.specs.Tied.{Among}
use Rattle.calm_laws.specs.Acts.{Gets}
use Rattle.calm_laws.specs.Flows.{inbox}

-- each bit that the first have the second have
pub record BitsGrow (b c : Bits) : Type 0 where
  pub handed : (p : ℕ) → bit b.handed p ≡ true → bit c.handed p ≡ true
  pub settled : (p : ℕ) → bit b.settled p ≡ true → bit c.settled p ≡ true
  pub learnt : (p : ℕ) → bit b.learnt p ≡ true → bit c.learnt p ≡ true

-- each of so many partitions is done in the row
abbrev pub Full : ℕ → List Bool → Type 0
Full n row = (p : ℕ) → p < n → bit row p ≡ true

-- the message, if it tells of progress, tells that each partition is done
abbrev pub FullProgress : ℕ → Message → Type 0
FullProgress n (message.Progress key wants done handed settled) = Full n done
FullProgress n _ = Unit {0}

-- nothing is pending to any target
abbrev pub Emptied : Targets → Type 0
Emptied ts = (t : Target) → Among ts t → t.pending ≡ []

-- what tells of progress and comes to the group tells that each partition is done
abbrev pub FullInbox : ℕ → List ℕ → World → Type 0
FullInbox n gs w =
    (m : ℕ) → has_node gs m ≡ true → (from : ℕ) (x : Message) → Among (inbox w m) (Gets from x)
    → FullProgress n x

-- the node knows of that one that each partition is done
pub record KnowsDone (n : ℕ) (x : ℕ) (b : Bits) : Type 0 where
  pub row : List Bool
  pub told : at b.done x ≡ Some row
  pub full : Full n row

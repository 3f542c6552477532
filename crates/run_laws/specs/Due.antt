-- What a node's facts say of a line that is due, at its very place.
use Rattle.std.specs.Prelude.{◌≡◌, ◌<◌, ℕ, Bool, true, List, [], ◌∷◌, Some, None}
use Rattle.std.specs.FinMap as finite
use Rattle.cluster_types.specs.declared.cluster_key.ClusterKey.{ClusterKey}
use Rattle.cluster_types.specs.Partitions.{partition_count, partition_of}
use Rattle.journal_lines.specs.declared.line.Line.{Line}
use Rattle.journal_lines.specs.declared.line.Line.TheVariants as line
use Rattle.node_rules.specs.Batches.{is_pending}
use Rattle.node_rules.specs.Facts.{Facts, list_at}
use Rattle.node_rules.specs.Notes.{note}
use Rattle.node_rules.specs.Settling.{may_hand, may_settle}
use Rattle.node_rules.specs.Standing.{is_to_learn, is_to_drop}
use Rattle.run_laws.specs.Tied.{key_in}

-- the node is the one, in the view of that key, whose exchange is over, and passes the test at the partition
pub record Passes (f : Facts) (n : ℕ) (k : ClusterKey) (p : ℕ) (test : Bool) : Type 0 where
  pub me : n ≡ f.me
  pub view : key_in f.exchange.view ≡ Some k
  pub exchanged : f.exchange.exchanged ≡ true
  pub part : p < partition_count
  pub passed : test ≡ true

-- a line of settling is due of the facts as they are
abbrev pub SettleOk : Facts → Line → Type 0
SettleOk f (line.Handed n k p) = Passes f n k p (may_hand f (list_at f p) p)
SettleOk f (line.Settled n k p) = Passes f n k p (may_settle f (list_at f p) p)
SettleOk f (line.Learn n k p) = Passes f n k p (is_to_learn f (list_at f p) p)
SettleOk f (line.Drop n k p) = Passes f n k p (is_to_drop f (list_at f p) p)
SettleOk f _ = ⊥

-- each line with the facts behind those before it
abbrev pub Along : (Facts → Line → Type 0) → Facts → List Line → Type 0
Along P f [] = Unit {0}
Along P f (l ∷ ls) = P f l × Along P (note None f l) ls

-- what settling leaves: all but bits, stamps and copies of which nothing is pending
pub record SettledOnly (f g : Facts) : Type 0 where
  pub me : g.me ≡ f.me
  pub factor : g.factor ≡ f.factor
  pub agreement : g.agreement ≡ f.agreement
  pub exchange : g.exchange ≡ f.exchange
  pub transactions : g.transactions ≡ f.transactions
  pub writes : g.writes ≡ f.writes
  pub batches : g.batches ≡ f.batches
  pub by : g.store.by ≡ f.store.by
  pub content : (d : List ℕ) → is_pending f.batches (partition_of d) ≡ true
      → finite.get g.store.content d ≡ finite.get f.store.content d

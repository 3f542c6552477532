-- What handing over, settling, learning and dropping a partition make of a node's facts.
use Rattle.std.specs.Prelude.{ℕ, List}
use Rattle.cluster_types.specs.declared.cluster_key.ClusterKey.{ClusterKey}
use Rattle.node_rules.specs.Bits as bits
use Rattle.node_rules.specs.Copies.{dropping}
use Rattle.node_rules.specs.Facts.{Facts}
use Rattle.node_rules.specs.Stamps.{store_learnt}
use Rattle.node_rules.specs.ViewNotes.{count_in}

-- the node handed the partition over
abbrev pub handed : Facts → ℕ → Facts
handed f p = record f { bits = bits.handing f.bits p }

-- the node wrote the partition's settling
abbrev pub settled : Facts → ℕ → Facts
settled f p = record f { bits = bits.settling f.bits p }

-- the copy is whole under that key
abbrev pub learnt : Facts → ClusterKey → List ℕ → ℕ → Facts
learnt f key l p = record f {
  store = store_learnt f.store key p (count_in f l p);
  bits = bits.learning f.bits p;
}

-- the partition's copy and its stamp are gone
abbrev pub dropped : Facts → ℕ → Facts
dropped f p = record f { store = dropping f.store p }

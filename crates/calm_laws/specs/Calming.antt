-- What the last rounds of a schedule of calm stand on, and what they give.
use Rattle.std.specs.Prelude.{◌≡◌, ◌<◌, ℕ, Bool, true, false, List, [], None, filter}
use Rattle.cluster_types.specs.Rows.{bit}
use Rattle.node_rules.specs.Batches.{Target}
use Rattle.node_rules.specs.Bits.{with_bit}
use Rattle.node_rules.specs.Facts.{Facts}
use Rattle.node_rules.specs.Map.{lacks}
use Rattle.node_rules.specs.Notes.{after_ages}
use Rattle.node_rules.specs.Standing.{knows_all_settled, others}
use Rattle.journal_readings.specs.Lines.{has_node}
use Rattle.cluster_rules.specs.World.{World}
use Rattle.run_laws.specs.Tied.{Among}
use Rattle.calm_laws.specs.Laws.{is_to_propose}

-- the node has nothing to send at its tick but beats: it proposes nothing, lacks no row, has no open transaction, hands
-- nothing on, and knows each partition settled
pub record Idle (n : ℕ) (f : Facts) : Type 0 where
  pub up : f.up ≡ true
  pub none : (after_ages f).agreement.proposal ≡ None
  pub asks : is_to_propose (after_ages f) ≡ false
  pub rows : filter (lacks f.exchange.rows) (others f) ≡ []
  pub closed : f.transactions.running ≡ []
  pub targets : (t : Target) → Among f.batches t → (t.pending ≡ []) × (t.out ≡ None)
  pub settled : knows_all_settled f n 0 ≡ true

-- what a beat leaves as it is
pub record LeavesAsIs (f g : Facts) : Type 0 where
  pub me : g.me ≡ f.me
  pub factor : g.factor ≡ f.factor
  pub exchange : g.exchange ≡ f.exchange
  pub store : g.store ≡ f.store
  pub batches : g.batches ≡ f.batches
  pub bits : g.bits ≡ f.bits

-- the row has a place for the partition's bit
abbrev pub Reaches : List Bool → ℕ → Type 0
Reaches row p = bit (with_bit row p) p ≡ true

-- each of the group knows each partition settled
abbrev pub Settling : ℕ → List ℕ → World → Type 0
Settling n gs w = (m : ℕ) → has_node gs m ≡ true → knows_all_settled (w.facts m) n 0 ≡ true

-- the row of what each of the group learnt has a place for each partition
abbrev pub Learning : ℕ → List ℕ → World → Type 0
Learning n gs w =
    (m : ℕ) → has_node gs m ≡ true → (p : ℕ) → p < n → Reaches (w.facts m).bits.learnt p

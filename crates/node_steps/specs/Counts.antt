-- Counts that a step raises by one, which have room for that.
use Rattle.std.specs.Prelude.{ℕ, ◌<◌, All}
use Rattle.node_rules.specs.Facts.{Facts}
use Rattle.node_rules.specs.Stamps.{applies_at}
use Rattle.node_view.specs.Counts.{greatest_count}

-- fewer transactions were opened in the view, and fewer batches sent to each member, and fewer writes applied on
-- each partition, than there are numbers
pub record HaveNumbers (f : Facts) : Type 0 where
  pub transactions : f.transactions.opened < greatest_count
  pub batches : All (λ t. t.batches < greatest_count) f.batches
  pub applies : (p : ℕ) → applies_at f.writes p < greatest_count

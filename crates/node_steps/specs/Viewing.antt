-- What a node says of the view that it is in, beside what is kept for the view.
use Rattle.std.specs.Prelude.{◌≡◌, ℕ, ◌<◌, Bool, not, if◌then◌else◌, ◌&&◌, is_none, is_some}
use Rattle.cluster_types.specs.declared.cluster_key.ClusterKey.{ClusterKey}
use Rattle.journal_lines.specs.declared.line.Line.{Line}
use Rattle.journal_lines.specs.declared.line.Line.TheVariants as line
use Rattle.dup_resolve.specs.declared.txn.Txn.{Txn}
use Rattle.node_rules.specs.Copies.{Row}
use Rattle.node_rules.specs.Exchange as exchange
use Rattle.node_rules.specs.Stamps.{applies_at}
use Rattle.node_rules.specs.Transactions as rules
use Rattle.node_view.specs.declared.view_step.ViewStep.{ViewStep}
use Rattle.node_view.specs.declared.view_step.ViewStep.TheVariants as step
use Rattle.node_view.specs.Counts.{greatest_count}
use Rattle.node_view.specs.Views.{Viewed}

-- a step that needs no room
abbrev pub NeedsNoRoom : ViewStep → Type 0
NeedsNoRoom (step.Replicated r) = ⊥
NeedsNoRoom (step.Resolved from number answer o) = ⊥
NeedsNoRoom (step.Opened digest w best asked o) = ⊥
NeedsNoRoom (step.Merged m) = ⊥
NeedsNoRoom _ = Unit {0}

-- the open transaction is the one that dup_resolve keeps so
pub record IsAsKept (x : Txn) (t : rules.Transaction) : Type 0 where
  pub number : t.number ≡ x.id
  pub digest : t.digest ≡ x.digest
  pub want : t.want ≡ x.want
  pub best : t.best ≡ x.best
  pub awaiting : t.awaiting ≡ x.awaiting
  pub applied : is_some t.applied ≡ x.applied

-- the line of a transaction that ends: in doubt where its write was applied
abbrev pub ending_of : ℕ → ClusterKey → Txn → Line
ending_of me key t = if t.applied then line.Doubt me key t.id else line.Aborted me key t.id

-- fewer transactions were opened in the view, and fewer writes applied on each partition, than there are numbers
pub record HasNumbers (v : Viewed) : Type 0 where
  pub transactions : v.transactions.opened < greatest_count
  pub applies : (p : ℕ) → applies_at v.writes p < greatest_count

-- whether the exchange is over with that row and wasn't before
abbrev pub finishes_with : Viewed → ℕ → Row → Bool
finishes_with v from row =
    is_none (exchange.first_missing (exchange.with_row v.exchange.rows from row)
    (exchange.members_of v.exchange.view))
    && not v.exchange.exchanged

-- Whom a node waits for between steps.
use Rattle.std.specs.Prelude.{◌≡◌, false, List, Option, Some, None}
use Rattle.node_rules.specs.Agreement.{Proposal}
use Rattle.node_rules.specs.Copies.{is_nil}
use Rattle.node_rules.specs.Facts.{Facts}
use Rattle.node_rules.specs.Transactions.{Transaction}
use Rattle.run_laws.specs.Tied.{Among}

-- some other member hasn't accepted the proposal, if there is one
abbrev pub LacksSome : Option Proposal → Type 0
LacksSome None = Unit {0}
LacksSome (Some p) = is_nil p.missing ≡ false

-- each of the open transactions awaits somebody
abbrev pub AwaitSome : List Transaction → Type 0
AwaitSome ts = (t : Transaction) → Among ts t → is_nil t.awaiting ≡ false

-- a proposal lacks some member's answer, and an open transaction awaits somebody
pub record Waits (f : Facts) : Type 0 where
  pub lacks : LacksSome f.agreement.proposal
  pub awaits : AwaitSome f.transactions.running

-- What a row makes of a node's exchange.
use Rattle.std.specs.Prelude.{◌≡◌, ◌&&◌, ℕ, Bool, true, false, not, List, Some, is_none}
use Rattle.cluster_types.specs.declared.cluster_key.ClusterKey.{ClusterKey}
use Rattle.cluster_types.specs.declared.member.Member.{Member}
use Rattle.wire_messages.specs.declared.message.Message.{Message}
use Rattle.wire_messages.specs.declared.message.Message.TheVariants as message
use Rattle.node_rules.specs.Copies.{Row}
use Rattle.node_rules.specs.Exchange.{Exchange, first_missing, is_view, members_of, with_row}
use Rattle.node_rules.specs.Map.{lacks, row_of_member}
use Rattle.journal_readings.specs.Lines.{has_node}
use Rattle.cluster_rules.specs.World.{World}
use Rattle.calm_laws.specs.Laws.{CanBeRead}

-- the exchange is over where the test holds
abbrev pub finished_if : Exchange → Bool → Exchange
finished_if e true = record e { exchanged = true }
finished_if e false = e

-- whether the exchange ends as the rows are these
abbrev pub ends_with : Exchange → Exchange → Bool
ends_with before now =
    is_none (first_missing now.rows (members_of now.view)) && not before.exchanged

-- a row of the view came
abbrev pub row_taken : Exchange → Exchange → Exchange
row_taken before now = finished_if now (ends_with before now)

abbrev pub taken_if : Exchange → ℕ → Row → Bool → Exchange
taken_if e from row true = row_taken e (record e { rows = with_row e.rows from row })
taken_if e from row false = e

-- what a message makes of the exchange that brings into no view
abbrev pub took : Exchange → ℕ → Message → Exchange
took e from (message.State key wants row) = taken_if e from row (is_view e.view key)
took e from _ = e

-- where an exchange isn't over, some member's row is lacking
abbrev pub LacksRow : Exchange → Type 0
LacksRow e = e.exchanged ≡ false → is_none (first_missing e.rows (members_of e.view)) ≡ false

-- the node is in that view and has its own row
pub record Shares (k : ClusterKey) (set : List Member) (m : ℕ) (row : Row) (e : Exchange)
    : Type 0 where
  pub view : e.view ≡ Some (record { key = k; members = set })
  pub own : row_of_member e.rows m ≡ Some row

-- the rows of a group in a view: each node has its own, which can be sent, and lacks one as long as its exchange isn't
-- over
pub record Rows (gs : List ℕ) (k : ClusterKey) (w : World) : Type 0 where
  pub row : ℕ → Row
  pub own : (m : ℕ) → has_node gs m ≡ true
      → row_of_member (w.facts m).exchange.rows m ≡ Some (row m)
  pub reads : (m : ℕ) → has_node gs m ≡ true → (b : Bool) → CanBeRead (message.State k b (row m))
  pub lacking : (m : ℕ) → has_node gs m ≡ true → LacksRow (w.facts m).exchange

-- all of the group have finished the exchange
abbrev pub Exchanged : List ℕ → World → Type 0
Exchanged gs w = (m : ℕ) → has_node gs m ≡ true → (w.facts m).exchange.exchanged ≡ true

-- each of the group has the row of each
abbrev pub RowsThere : List ℕ → World → Type 0
RowsThere gs w =
    (m a : ℕ) → has_node gs m ≡ true → has_node gs a ≡ true
    → lacks (w.facts m).exchange.rows a ≡ false

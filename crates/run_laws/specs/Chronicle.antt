-- A world with its history of lists, entries and rows.
use Rattle.std.specs.Prelude.{◌≡◌, ℕ, Bool, true, false, List, Some, IsTrue, slice_get}
use Rattle.cluster_types.specs.declared.cluster_key.ClusterKey.{ClusterKey}
use Rattle.cluster_types.specs.declared.member.Member.{Member}
use Rattle.cluster_types.specs.StateRows.{state_of}
use Rattle.journal_lines.specs.declared.line.Line.TheVariants as line
use Rattle.wire_messages.specs.declared.message.Message.TheVariants as message
use Rattle.wire_messages.specs.Decoding.{message_of}
use Rattle.node_rules.specs.Copies.{Row}
use Rattle.node_rules.specs.Exchange.{View, is_member}
use Rattle.node_rules.specs.Notes.{own_row}
use Rattle.node_rules.specs.declared.member_row.MemberRow.{MemberRow}
use Rattle.cluster_rules.specs.Marks.{Mark, Writes}
use Rattle.journal_readings.specs.Messages.{Posting}
use Rattle.cluster_laws.specs.Changed.{at_stay}
use Rattle.cluster_laws.specs.Ground.{Ground}
use Rattle.key_laws.specs.Traced.{Traced, facts_of}
use Rattle.key_laws.specs.Traced as traced
use Rattle.run_laws.specs.Tied.{Each}

pub record Chronicle : Type 0 where
  pub traced : Traced
  -- the row with which each node entered each view
  pub rows : ℕ → ClusterKey → Row

abbrev pub rows_after : Chronicle → Mark → ℕ → ClusterKey → Row
rows_after c (Writes (line.Enter n k ms)) = at_stay c.rows n k (own_row (facts_of c.traced n))
rows_after c _ = c.rows

abbrev pub chronicle_after : Chronicle → Mark → Chronicle
chronicle_after c m = record { traced = traced.traced_after c.traced m; rows = rows_after c m }

-- the row is that with which the node entered the view of the key, of whose list it is
pub record IsRowOf (c : Chronicle) (a : ℕ) (k : ClusterKey) (row : Row) : Type 0 where
  pub entered : c.traced.entered a k ≡ true
  pub members : List Member
  pub list : c.traced.lists k ≡ Some members
  pub among : IsTrue (is_member members a)
  pub same : row ≡ c.rows a k

-- each row that is kept in a view, and each that was sent, is its sender's
pub record Rowed (c : Chronicle) : Type 0 where
  pub kept : (n : ℕ) (v : View) → (facts_of c.traced n).exchange.view ≡ Some v
      → Each (λ (r : MemberRow). IsRowOf c r.node v.key r.row) (facts_of c.traced n).exchange.rows
  pub sent : (i : ℕ) (p : Posting) (k : ClusterKey) (wants : Bool) (row : Row)
      → slice_get c.traced.world.network.sent i ≡ Some p
      → message_of p.bytes ≡ Some (message.State k wants row) → IsRowOf c p.from k row

-- what stands behind an entry, and behind a message that carries a row
pub record MayEnterFirst (c : Chronicle) (n : ℕ) (k : ClusterKey) (ms : List Member) : Type 0 where
  pub first : c.traced.entered n k ≡ false
  pub list : c.traced.lists k ≡ Some ms
  pub among : IsTrue (is_member ms n)

abbrev pub RowOk : Chronicle → Mark → Type 0
RowOk c (Writes (line.Enter n k ms)) = MayEnterFirst c n k ms
RowOk c (Writes (line.Sent i a b bytes)) =
    (k : ClusterKey) (wants : Bool) (row : Row)
    → message_of bytes ≡ Some (message.State k wants row) → IsRowOf c a k row
RowOk c _ = Unit {0}

-- the ground is the chronicle's
pub record Grounds (G : Ground) (c : Chronicle) : Type 0 where
  pub members : (k : ClusterKey) (ms : List Member) → c.traced.lists k ≡ Some ms → G.members k ≡ ms
  pub row : (n : ℕ) (k : ClusterKey) → c.traced.entered n k ≡ true → (p : ℕ)
      → G.row k n p ≡ state_of (c.rows n k) p

-- what can't become false
pub record Longer (c d : Chronicle) : Type 0 where
  pub entered : (n : ℕ) (k : ClusterKey) → c.traced.entered n k ≡ true → d.traced.entered n k ≡ true
  pub lists : (k : ClusterKey) (ms : List Member) → c.traced.lists k ≡ Some ms
      → d.traced.lists k ≡ Some ms
  pub rows : (n : ℕ) (k : ClusterKey) → c.traced.entered n k ≡ true → d.rows n k ≡ c.rows n k

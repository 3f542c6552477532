-- The open transactions of a group, number by number.
use Rattle.std.specs.Prelude.{◌≡◌, ◌⊎◌, ℕ, Bool, true, false, List, [], Option, Some, None, is_some}
use Rattle.cluster_types.specs.declared.cluster_key.ClusterKey.{ClusterKey}
use Rattle.cluster_types.specs.declared.member.Member.{Member}
use Rattle.cluster_types.specs.Distinct.{without}
use Rattle.cluster_types.specs.Members.{ids_of}
use Rattle.wire_messages.specs.declared.message.Message.{Message}
use Rattle.wire_messages.specs.declared.message.Message.TheVariants as message
use Rattle.node_rules.specs.Copies.{is_nil}
use Rattle.node_rules.specs.Exchange.{members_of}
use Rattle.node_rules.specs.Facts.{Facts}
use Rattle.node_rules.specs.Tables.{contains}
use Rattle.node_rules.specs.Transactions.{Transaction, transaction}
use Rattle.journal_readings.specs.Lines.{has_node}
use Rattle.cluster_rules.specs.World.{World}
use Rattle.run_laws.specs.Tied.{Among}

-- the open transaction of that number
abbrev pub open_at : Facts → ℕ → Option Transaction
open_at f number = transaction f.transactions number

-- such is the transaction, if it is open
abbrev pub Such : (Transaction → Type 0) → Option Transaction → Type 0
Such P None = Unit {0}
Such P (Some t) = P t

-- an open transaction: whether its write is applied, and whom it awaits, who are some and all of these
pub record Awaits (written : Bool) (S : ℕ → Type 0) (t : Transaction) : Type 0 where
  pub applied : is_some t.applied ≡ written
  pub some : is_nil t.awaiting ≡ false
  pub within : (x : ℕ) → contains t.awaiting x ≡ true → S x

-- the message writes for a transaction of the view
abbrev pub WritesFor : ClusterKey → ℕ → Message → Type 0
WritesFor k number (message.Repl key t nth digest v) = (key ≡ k) × (t ≡ number)
WritesFor k number _ = ⊥

-- the node awaits one less, and still somebody
pub record Shrinks (from : ℕ) (o : Option Transaction) (z : Option Transaction) : Type 0 where
  pub was : Transaction
  pub now : Transaction
  pub before : o ≡ Some was
  pub after : z ≡ Some now
  pub applied : now.applied ≡ was.applied
  pub awaiting : now.awaiting ≡ without was.awaiting from
  pub some : is_nil now.awaiting ≡ false

-- the write was applied now, and was sent to all that are to acknowledge it, who are other members
pub record Resolved (k : ClusterKey) (number : ℕ) (f : Facts) (sent : List (ℕ × Message))
    (o : Option Transaction) (z : Option Transaction) : Type 0 where
  pub was : Transaction
  pub now : Transaction
  pub before : o ≡ Some was
  pub after : z ≡ Some now
  pub waiting : is_some was.applied ≡ false
  pub applied : is_some now.applied ≡ true
  pub some : is_nil now.awaiting ≡ false
  pub members : (x : ℕ) → contains now.awaiting x ≡ true
      → (contains (ids_of (members_of f.exchange.view)) x ≡ true) × (x ≡ f.me → ⊥)
  pub write : Message
  pub writes : WritesFor k number write
  pub goes : (x : ℕ) → contains now.awaiting x ≡ true → Among sent (x, write)

-- it is closed, awaits one less, or is resolved
abbrev pub MovesOn : ClusterKey → ℕ → Facts → ℕ → List (ℕ × Message) → Option Transaction
    → Option Transaction → Type 0
MovesOn k number f from sent o z = (z ≡ None) ⊎ (Shrinks from o z ⊎ Resolved k number f sent o z)

-- what one act may make of it
abbrev pub Turns : ClusterKey → ℕ → Facts → ℕ → List (ℕ × Message) → Option Transaction
    → Option Transaction → Type 0
Turns k number f from sent o z = (z ≡ o) ⊎ MovesOn k number f from sent o z

-- as long as its write isn't applied it doesn't await that node
abbrev pub HeardFrom : ℕ → Transaction → Type 0
HeardFrom x t = is_some t.applied ≡ false → contains t.awaiting x ≡ false

-- it doesn't await that node
abbrev pub Lost : ℕ → Transaction → Type 0
Lost x t = contains t.awaiting x ≡ false

-- a node in a view
pub record In (k : ClusterKey) (set : List Member) (m : ℕ) (f : Facts) : Type 0 where
  pub me : f.me ≡ m
  pub view : f.exchange.view ≡ Some (record { key = k; members = set })

-- each open transaction of the group awaits somebody, and other nodes of the group alone
abbrev pub Waiting : List ℕ → World → Type 0
Waiting gs w =
    (m : ℕ) → has_node gs m ≡ true → (t : Transaction) → Among (w.facts m).transactions.running t
    → (is_nil t.awaiting ≡ false)
    × ((x : ℕ) → contains t.awaiting x ≡ true → (has_node gs x ≡ true) × (x ≡ m → ⊥))

-- no transaction is open
abbrev pub NoneOpen : List ℕ → World → Type 0
NoneOpen gs w = (m : ℕ) → has_node gs m ≡ true → (w.facts m).transactions.running ≡ []

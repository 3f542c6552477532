-- Between whom messages of a view go: other members of it.
use Rattle.std.specs.Prelude.{◌≡◌, ℕ, List, Option, Some, None, IsTrue, true}
use Rattle.cluster_types.specs.declared.cluster_key.ClusterKey.{ClusterKey}
use Rattle.cluster_types.specs.declared.member.Member.{Member}
use Rattle.wire_messages.specs.declared.message.Message.{Message}
use Rattle.node_rules.specs.Exchange.{is_member}
use Rattle.node_rules.specs.Facts.{Facts, members_of_view}
use Rattle.node_rules.specs.Notes.{in_view}
use Rattle.node_rules.specs.Senders.{view_key_of}
use Rattle.key_laws.specs.Traced.{Traced}

-- ---- by the list of a key

-- sender and receiver are two members of the list of that key
pub record Addressed (t : Traced) (from to : ℕ) (k : ClusterKey) : Type 0 where
  pub list : List Member
  pub listed : t.lists k ≡ Some list
  pub sender : IsTrue (is_member list from)
  pub receiver : IsTrue (is_member list to)
  pub differ : from ≡ to → ⊥

-- so it is by the list of the key, if there is one
abbrev pub AddressedIf : Traced → ℕ → ℕ → Option ClusterKey → Type 0
AddressedIf t from to None = Unit {0}
AddressedIf t from to (Some k) = Addressed t from to k

-- a message of a view goes between two members of the list of its key
abbrev pub GoesBetween : Traced → ℕ → ℕ → Message → Type 0
GoesBetween t from to m = AddressedIf t from to (view_key_of m)

-- ---- by the view of a receiver

-- the sender is another member of the node's view
pub record IsOther (f : Facts) (from : ℕ) : Type 0 where
  pub member : IsTrue (is_member (members_of_view f) from)
  pub other : from ≡ f.me → ⊥

-- so it is where the node is in the view of the key, if there is one
abbrev pub IsOtherIf : Facts → ℕ → Option ClusterKey → Type 0
IsOtherIf f from None = Unit {0}
IsOtherIf f from (Some k) = in_view f k ≡ true → IsOther f from

-- a message of the node's view comes from another member of it
abbrev pub ComesFromOther : Facts → ℕ → Message → Type 0
ComesFromOther f from m = IsOtherIf f from (view_key_of m)

-- All that the laws look at, as a fold over lines makes it.
use Rattle.std.specs.Prelude.{ℕ, Bool, false, List, Option, None}
use Rattle.conflict_order.specs.declared.version.Version.{Version}
use Rattle.cluster_types.specs.declared.cluster_key.ClusterKey.{ClusterKey}
use Rattle.cluster_types.specs.ClusterKeys as keys
use Rattle.wire_messages.specs.declared.message.Message.{Message}
use Rattle.cluster_laws.specs.Stay.{Versions, Stay, blank}

-- what a node keeps from view to view
pub record Seen : Type 0 where
  -- the key of its view, and the key that it entered last
  pub view : Option ClusterKey
  pub last : ClusterKey
  pub content : Versions
  -- for a copy that was whole, the key under which it was and how many writes of that key's list master it has had
  pub stamp : ℕ → Option (ClusterKey × ℕ)
  -- where its clock stands
  pub clock : ℕ

-- a message that was sent. Bytes that spell none are none
pub record Packet : Type 0 where
  pub from : ℕ
  pub to : ℕ
  pub size : ℕ
  pub message : Option Message

-- a merge that a write just delivered has made due
pub record Owed : Type 0 where
  pub node : ℕ
  pub key : ClusterKey
  pub digest : List ℕ
  pub version : Version

pub record Picture : Type 0 where
  pub node : ℕ → Seen
  -- what each node knows and has done in each view
  pub stay : ℕ → ClusterKey → Stay
  -- the messages by their numbers
  pub packet : ℕ → Option Packet
  -- whether a partition was handed over, and whether its settling was written
  pub handed : ClusterKey → ℕ → Bool
  pub settled : ClusterKey → ℕ → Bool
  -- the join of what members held on entry and of what was applied since; and that join without the list master's writes
  pub fold : ClusterKey → Versions
  pub base : ClusterKey → Versions
  -- the join of all that was applied
  pub applied : Versions
  pub owed : Option Owed

-- a node to which nothing has happened
abbrev pub fresh_node : Seen
fresh_node = record {
  view = None;
  last = keys.none;
  content = λ _. None;
  stamp = λ _. None;
  clock = 0;
}

-- before the first line
abbrev pub start : Picture
start = record {
  node = λ _. fresh_node;
  stay = λ _ _. blank;
  packet = λ _. None;
  handed = λ _ _. false;
  settled = λ _ _. false;
  fold = λ _ _. None;
  base = λ _ _. None;
  applied = λ _. None;
  owed = None;
}

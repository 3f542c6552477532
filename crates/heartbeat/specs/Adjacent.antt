-- What a caller sees of whom a node hears.
use Rattle.std.specs.Prelude.{ℕ, ◌<◌, ◌⊎◌, List, Option, length, Contains}
use Rattle.cluster_types.specs.declared.member.Member.{Member}
use Rattle.cluster_types.specs.declared.member.Role.{Role}
use Rattle.node_rules.specs.Hearing.{Hearing, Heard, heard_ids}
use Rattle.node_rules.specs.Tables.{Table}

-- a node with its role, and whom it hears
pub record Adjacent : Type 0 where
  pub me : ℕ
  pub role : Role
  pub hearing : Hearing

abbrev pub adjacent : ℕ → Role → Table Heard → Option (List Member) → ℕ → Adjacent
adjacent me role heard set quiet = record {
  me = me;
  role = role;
  hearing = record { heard = heard; set = set; quiet = quiet };
}

-- of how many other nodes heartbeats are kept
abbrev pub heard_limit : ℕ
heard_limit = 15

-- the node is heard already, or there is room for one more
abbrev pub HasRoomFor : ℕ → Hearing → Type 0
HasRoomFor n h = Contains (heard_ids h.heard) n ⊎ (length (heard_ids h.heard) < heard_limit)

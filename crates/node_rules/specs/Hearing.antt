-- Whom a node hears, and who its neighbours are.
use Rattle.std.specs.Prelude.{ℕ, ◌+◌, [], min, nat_lt, nat_le, Bool, true, false, List, Option, Some, None, map, reverse, filter}
use Rattle.std.specs.List.{list_all}
use Rattle.cluster_types.specs.declared.cluster_key.ClusterKey.{ClusterKey}
use Rattle.cluster_types.specs.declared.member.Role.{Role}
use Rattle.cluster_types.specs.declared.member.Member.{Member}
use Rattle.cluster_types.specs.MembersEqual.{same_members}
use Rattle.node_rules.specs.declared.beat.Beat.{Beat}
use Rattle.node_rules.specs.Keys.{same_key}
use Rattle.node_rules.specs.Tables.{Table, table_with, contains}

-- the last heartbeat of another node since the start, and how many ticks came after it
pub record Heard : Type 0 where
  pub age : ℕ
  pub beat : Beat

-- whom the node hears, and for how long nothing has changed
pub record Hearing : Type 0 where
  -- the other nodes that are heard
  pub heard : Table Heard
  -- the neighbours at the last tick since the start
  pub set : Option (List Member)
  -- for how many ticks in succession the neighbours have been the same, at most `quiet_ticks`
  pub quiet : ℕ

-- after a start nobody is heard
abbrev pub deaf : Hearing
deaf = record { heard = []; set = None; quiet = 0 }

-- the age at which a heartbeat is forgotten
abbrev pub timeout : ℕ
timeout = 10

-- for how many ticks the neighbours must have been the same before a node proposes
abbrev pub quiet_ticks : ℕ
quiet_ticks = 2

-- a heartbeat is its sender's entry from now on
abbrev pub beat_heard : Hearing → ℕ → Beat → Hearing
beat_heard h from beat = record h {
  heard = table_with h.heard from (record { age = 0; beat = beat });
}

-- an entry one tick later
abbrev pub older : ℕ × Heard → ℕ × Heard
older e = (e.0, record { age = e.1.age + 1; beat = e.1.beat })

-- the entries one tick later, without those that are forgotten
abbrev pub aged : Table Heard → Table Heard
aged heard = filter (λ e. nat_lt e.1.age timeout) (map older heard)

-- the ids of the nodes that are heard, in descending order
abbrev pub heard_ids : Table Heard → List ℕ
heard_ids heard = reverse (map (λ e. e.0) heard)

-- whether the entry's heartbeat says that its sender hears the node
abbrev pub names : ℕ → ℕ × Heard → Bool
names me e = contains e.1.beat.hears me

-- the node with its role
abbrev pub member_of : ℕ × Role → Member
member_of e = record { id = e.0; role = e.1 }

-- the neighbours: the node itself, and each node that it hears and that hears it, with the role of
-- its heartbeat; in descending order
abbrev pub neighbours_of : ℕ → Role → Table Heard → List Member
neighbours_of me role heard =
    reverse (map member_of
    (table_with (map (λ e. (e.0, e.1.beat.role)) (filter (names me) heard)) me role))

-- whether the neighbours are those of the tick before, if there was one
abbrev pub is_unchanged : Option (List Member) → List Member → Bool
is_unchanged None set = false
is_unchanged (Some before) set = same_members before set

-- one tick more, or none
abbrev pub quieter : ℕ → Bool → ℕ
quieter quiet true = min (quiet + 1) quiet_ticks
quieter quiet false = 0

-- a tick at which the neighbours are these
abbrev pub with_set : Hearing → List Member → Hearing
with_set h set = record h { set = Some set; quiet = quieter h.quiet (is_unchanged h.set set) }

-- a tick
abbrev pub ticked : ℕ → Role → Hearing → Hearing
ticked me role h =
    with_set (record h { heard = aged h.heard }) (neighbours_of me role (aged h.heard))

-- a view was entered
abbrev pub without_quiet : Hearing → Hearing
without_quiet h = record h { quiet = 0 }

-- whether every other neighbour's entry shows this key as its view
abbrev pub all_show : ℕ → Table Heard → ClusterKey → Bool
all_show me heard key = list_all (λ e. same_key e.1.beat.view key) (filter (names me) heard)

-- whether no neighbour has a greater id
abbrev pub is_greatest : ℕ → List Member → Bool
is_greatest me set = list_all (λ m. nat_le m.id me) set

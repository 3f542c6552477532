-- The keys of views.
use Rattle.std.specs.Prelude.{◌≡◌, ◌==◌, ◌||◌, ◌&&◌, ℕ, Bool, false, Option, Some, None, nat_lt, ◌<◌, ◌≤◌, ◌+◌, ◌^◌}
use Rattle.cluster_types.specs.declared.cluster_key.ClusterKey.{ClusterKey}

-- the key of some view: a round from 1 to 2^48 - 1, and a node that led it
pub record IsKey (k : ClusterKey) : Type 0 where
  pub above_none : 0 < k.round
  pub below_limit : k.round < 2 ^ 48
  pub led : 0 < k.principal

-- no key
abbrev pub none : ClusterKey
none = record { round = 0; principal = 0 }

-- the key one round higher, led by that node
abbrev pub next_round_key : ClusterKey → ℕ → ClusterKey
next_round_key k by = record { round = k.round + 1; principal = by }

-- whether the keys have one round and one principal
abbrev pub same_key : ClusterKey → ClusterKey → Bool
same_key a b = (a.round == b.round) && (a.principal == b.principal)

-- whether that is the key of the view that there is, if there is one
abbrev pub is_view_key : Option ClusterKey → ClusterKey → Bool
is_view_key None k = false
is_view_key (Some j) k = same_key j k

-- whether the first key is below the second: by round, and by principal in the same round. This is what `<` answers
abbrev pub key_lt : ClusterKey → ClusterKey → Bool
key_lt a b = nat_lt a.round b.round || ((a.round == b.round) && nat_lt a.principal b.principal)

-- the order that key_lt tests
pub record IsBelow (a b : ClusterKey) : Type 0 where
  pub rounds : a.round ≤ b.round
  pub principals : a.round ≡ b.round → a.principal < b.principal

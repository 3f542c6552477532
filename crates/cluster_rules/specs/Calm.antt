-- When a world is calm. The number of partitions is an argument.
use Rattle.std.specs.Prelude.{ℕ, ◌&&◌, nat_lt, Bool, true, List, [], ◌∷◌, filter}
use Rattle.std.specs.List.{list_all}
use Rattle.cluster_types.specs.declared.member.Member.{Member}
use Rattle.cluster_types.specs.Partitions.{partition_count}
use Rattle.partition_lists.specs.Lists.{in_order}
use Rattle.node_rules.specs.Copies.{is_nil}
use Rattle.node_rules.specs.Facts.{view_key, has_exchanged_in}
use Rattle.node_rules.specs.Standing.{is_at_rest_of}
use Rattle.cluster_rules.specs.World.{World, is_up, members_now}

-- the up nodes of a group
abbrev pub up_in : World → List ℕ → List ℕ
up_in w group = filter (is_up w) group

-- these nodes with the roles that they now have, in descending order
abbrev pub as_members : World → List ℕ → List Member
as_members w ns = in_order (λ a b. nat_lt b.id a.id) (members_now w ns)

-- whether these nodes have all finished the exchange of one view, the first one's, whose members are just they
abbrev pub share_view : World → List ℕ → Bool
share_view w [] = true
share_view w (n ∷ ns) =
    list_all (λ m. has_exchanged_in (view_key (w.facts n)) (as_members w (n ∷ ns)) (w.facts m))
    (n ∷ ns)

-- whether the group's up nodes share a view of just them, and each of them knows every partition settled, has
-- nothing to learn or drop and no open transaction
abbrev pub is_group_at_rest : ℕ → World → List ℕ → Bool
is_group_at_rest n w group =
    share_view w (up_in w group) && list_all (λ m. is_at_rest_of n (w.facts m)) (up_in w group)

-- whether the world of so many partitions is calm: each group is at rest, and nothing is in flight
abbrev pub is_calm_of : ℕ → World → Bool
is_calm_of n w = list_all (is_group_at_rest n w) w.network.groups && is_nil w.network.flying

-- whether the world is calm
abbrev pub is_calm : World → Bool
is_calm w = is_calm_of partition_count w

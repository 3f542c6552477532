-- The rank of a member among the members, in a partition.
use Rattle.std.specs.Prelude.{ℕ, Bool, ◌&&◌, ◌==◌, not, List}
use Rattle.std.specs.List.{list_any}
use Rattle.std.specs.declared.cmp.Ordering.{Ordering}
use Rattle.std.specs.Ordering.{nat_cmp, bool_cmp, is_lt, on, then_cmp}
use Rattle.cluster_types.specs.declared.member.Member.{Member}
use Rattle.partition_lists.specs.declared.ranks.Rank.{Rank}
use Rattle.partition_lists.specs.Hashes.{place}

-- by place, and at one place by id
abbrev pub standing_cmp : ℕ → Member → Member → Ordering
standing_cmp p = then_cmp (on (λ m. place m.id p) nat_cmp) (on (λ m. m.id) nat_cmp)

-- the first isn't quiesced, is of the second's rack, and stands before it by place and id
abbrev pub is_ahead_in_rack : ℕ → Member → Member → Bool
is_ahead_in_rack p first m =
    not first.role.quiesced && ((first.role.rack == m.role.rack) && is_lt (standing_cmp p first m))

-- the member isn't quiesced and has a rack, but isn't the first of it
abbrev pub is_repeat : List Member → ℕ → Member → Bool
is_repeat members p m =
    not m.role.quiesced
    && (not (m.role.rack == 0) && list_any (λ first. is_ahead_in_rack p first m) members)

abbrev pub rank_of : List Member → ℕ → Member → Rank
rank_of members p m = record {
  quiesced = m.role.quiesced;
  repeats_rack = is_repeat members p m;
  place = place m.id p;
  id = m.id;
}

-- first those that aren't quiesced, among them first those that are the first of their rack or have none, and then by place and id
abbrev pub rank_cmp : Rank → Rank → Ordering
rank_cmp =
    then_cmp (on (λ r. r.quiesced) bool_cmp)
    (then_cmp (on (λ r. r.repeats_rack) bool_cmp)
    (then_cmp (on (λ r. r.place) nat_cmp) (on (λ r. r.id) nat_cmp)))

abbrev pub is_smaller : Rank → Rank → Bool
is_smaller a b = is_lt (rank_cmp a b)

-- Members beside the places of their nodes in one partition.
use Rattle.std.specs.Prelude.{ℕ, Bool, ◌&&◌, ◌==◌, not, List, map}
use Rattle.std.specs.List.{list_any}
use Rattle.std.specs.Ordering.{nat_cmp, is_lt, ordering_then}
use Rattle.cluster_types.specs.declared.member.Member.{Member}
use Rattle.partition_lists.specs.declared.ranks.Candidate.{Candidate}
use Rattle.partition_lists.specs.declared.ranks.Rank.{Rank}
use Rattle.partition_lists.specs.Hashes.{place}

abbrev pub candidates_of : List Member → ℕ → List Candidate
candidates_of members p = map (λ m. record { member = m; place = place m.id p }) members

-- `is_ahead_in_rack` of two members, whose places are at hand
unfoldable pub is_ahead : Candidate → Candidate → Bool
is_ahead first c =
    not first.member.role.quiesced
    && ((first.member.role.rack == c.member.role.rack)
    && is_lt (ordering_then (nat_cmp first.place c.place) (nat_cmp first.member.id c.member.id)))

-- `is_repeat` of a member, where all places are at hand
abbrev pub repeats : List Candidate → Candidate → Bool
repeats candidates c =
    not c.member.role.quiesced
    && (not (c.member.role.rack == 0) && list_any (λ first. is_ahead first c) candidates)

abbrev pub rank_in : List Candidate → Candidate → Rank
rank_in candidates c = record {
  quiesced = c.member.role.quiesced;
  repeats_rack = repeats candidates c;
  place = c.place;
  id = c.member.id;
}

-- The other nodes in rising order.
use Rattle.std.proofs.Common.{◌≡◌, ◌≢◌, ℕ, List, refl, sym, subst, arith}
use Rattle.std.specs.Prelude.{IsPermutation, nat_lt}
use Rattle.std.specs.Ordering.{is_lt, nat_cmp}
use Rattle.std.specs.List.Sorted.{IsSortedBy}
use Rattle.std.proofs.lemmas.List.{map-id}
use Rattle.std.proofs.lemmas.List.Elements.{All-contains, All-from_get_or}
use Rattle.std.proofs.lemmas.List.Sorted.{All-permutation, length_permutation}
use Rattle.cluster_types.specs.Distinct.{AreDistinct}
use Rattle.cluster_types.specs.NodeLists.{IsNodeList}
use Rattle.partition_lists.specs.Lists.{in_order}
use Rattle.partition_lists.proofs.InOrderLaws.{differ_distinct, differ_permuted, distinct_differ, permutation_in_order}
use Rattle.partition_lists.proofs.NumberLaws.{sorted_numbers}
use Rattle.node_core.specs.Peers.{ArePeers}

-- distinct ids that are sorted are those in rising order
pub sorted_ids : (ids sorted : List ℕ) → AreDistinct ids → IsPermutation ids sorted → IsSortedBy (λ a b. is_lt (nat_cmp a b)) sorted → sorted ≡ in_order nat_lt ids
sorted_ids ids sorted distinct moved rise =
    sorted_numbers (λ (n : ℕ). n) ids sorted (distinct_differ (λ (n : ℕ). n) ids (subst AreDistinct (sym (map-id ids)) distinct)) moved rise

-- and they are a list of nodes
pub sorted_list : (ids sorted : List ℕ) → IsNodeList ids → IsPermutation ids sorted → IsNodeList sorted
sorted_list ids sorted h moved = record {
  limit = omega (arith, h.limit, length_permutation ids sorted moved);
  distinct = subst AreDistinct (map-id sorted) (differ_distinct (λ (n : ℕ). n) sorted (differ_permuted (λ (n : ℕ). n) ids sorted moved (distinct_differ (λ (n : ℕ). n) ids (subst AreDistinct (sym (map-id ids)) h.distinct))));
}

-- the other nodes are so in whatever order
pub peers_in_order : (me : ℕ) (peers : List ℕ) → ArePeers me peers → ArePeers me (in_order nat_lt peers)
peers_in_order me peers h =
    let moved : IsPermutation peers (in_order nat_lt peers) = permutation_in_order nat_lt peers in record {
      limit = omega (arith, h.limit, length_permutation peers (in_order nat_lt peers) moved);
      others = λ found. All-contains (λ (n : ℕ). n ≢ me) (in_order nat_lt peers) me (All-permutation (λ (n : ℕ). n ≢ me) peers (in_order nat_lt peers) moved (All-from_get_or (λ (n : ℕ). n ≢ me) peers me (λ i within is. h.others (i, within, is)))) found refl;
    }

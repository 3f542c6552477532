-- Whether all copies of a partition were empty doesn't go by the order of the members.
use Rattle.std.proofs.Common.{◌≡◌, ℕ, Bool, true, List, [], ◌∷◌, inl, inr, refl, sym, ap, ◌∙◌}
use Rattle.std.specs.Cmp.{both_ways}
use Rattle.std.specs.List.{list_all}
use Rattle.std.specs.Prelude.{IsPermutation}
use Rattle.std.proofs.lemmas.Bool.{and_parts}
use Rattle.std.proofs.lemmas.List.Sorted.{IsPermutation-sym}
use Rattle.cluster_types.specs.declared.member.Member.{Member}
use Rattle.cluster_types.specs.Members.{ids_of}
use Rattle.partition_lists.specs.Lists.{list}
use Rattle.partition_lists.proofs.InOrderLaws.{Has, has_permuted}
use Rattle.partition_lists.proofs.ListLaws.{list_permutation}
use Rattle.node_rules.specs.declared.member_row.MemberRow.{MemberRow}
use Rattle.node_rules.specs.Map.{all_empty}

of_all : (test : ℕ → Bool) (l : List ℕ) (n : ℕ) → list_all test l ≡ true → Has l n → test n ≡ true
of_all test [] n h found = absurd found
of_all test (m ∷ l) n h (inl same) = ap test (sym same) ∙ (and_parts (test m) (list_all test l) h).0
of_all test (m ∷ l) n h (inr later) = of_all test l n (and_parts (test m) (list_all test l) h).1 later

all_from_each : (test : ℕ → Bool) (l : List ℕ) → ((n : ℕ) → Has l n → test n ≡ true) → list_all test l ≡ true
all_from_each test [] h = refl
all_from_each test (m ∷ l) h = rw (h m (inl refl), all_from_each test l (λ n found. h n (inr found))) refl

all_permuted : (test : ℕ → Bool) (xs ys : List ℕ) → IsPermutation xs ys → list_all test xs ≡ list_all test ys
all_permuted test xs ys moved =
    both_ways (list_all test xs) (list_all test ys)
    (λ h. all_from_each test ys (λ n found. of_all test xs n h (has_permuted ys xs n (IsPermutation-sym xs ys moved) found)))
    (λ h. all_from_each test xs (λ n found. of_all test ys n h (has_permuted xs ys n moved found)))

-- the list of a partition has the members in another order
pub empty_in_list : (ms : List Member) (rows : List MemberRow) (p : ℕ) → all_empty (list ms p) rows p ≡ all_empty (ids_of ms) rows p
empty_in_list ms rows p = sym (all_permuted _ (ids_of ms) (list ms p) (list_permutation ms p))

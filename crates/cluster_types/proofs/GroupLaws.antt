-- Nodes in different groups.
use Rattle.std.proofs.Common.{◌≡◌, ◌<◌, ◌≤◌, ℕ, List, [], ◌∷◌, All, length, Option, Some, None, false, refl, arith, length-append}
use Rattle.std.specs.List.{concat}
use Rattle.std.proofs.lemmas.List.Elements.{All-head, All-tail}
use Rattle.std.proofs.lemmas.Bool.Decides.{nat_tests}
use Rattle.cluster_types.specs.Groups.{group_of, differ, apart}

differ_self : (i : Option ℕ) → differ i i ≡ false
differ_self None = refl
differ_self (Some i) = grind (arith, nat_tests)

differ_swapped : (i j : Option ℕ) → differ i j ≡ differ j i
differ_swapped None None = refl
differ_swapped None (Some j) = refl
differ_swapped (Some i) None = refl
differ_swapped (Some i) (Some j) = grind (arith, nat_tests)

-- no node is apart from itself
pub apart_self : (groups : List (List ℕ)) (a : ℕ) → apart groups a a ≡ false
apart_self groups a = differ_self (group_of groups a)

-- the order of the two nodes plays no part
pub apart_swapped : (groups : List (List ℕ)) (a b : ℕ) → apart groups a b ≡ apart groups b a
apart_swapped groups a b = differ_swapped (group_of groups a) (group_of groups b)

-- there are no more groups than ids, as no group is empty
pub length_groups : (groups : List (List ℕ)) → All (λ ids. 0 < length ids) groups → length groups ≤ length (concat groups)
length_groups [] h = omega arith
length_groups (ids ∷ groups) h =
    omega (arith, length-append ids (concat groups), All-head (λ ids. 0 < length ids) ids groups h, length_groups groups (All-tail (λ ids. 0 < length ids) ids groups h))

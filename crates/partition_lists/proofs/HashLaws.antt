-- The place of a node is hashed in two parts.
use Rattle.std.proofs.Common.{◌≡◌, ℕ, List, ◌++◌, sym, ap}
use Rattle.std.proofs.lemmas.List.Sums.{fold-append}
use Rattle.partition_lists.specs.Hashes.{jenkins_step, jenkins_state, jenkins_end, node_bytes, partition_bytes, place, place_after}

jenkins_state-append : (state : ℕ) (xs ys : List ℕ) → jenkins_state state (xs ++ ys) ≡ jenkins_state (jenkins_state state xs) ys
unfolding jenkins_state
jenkins_state-append state xs ys = fold-append jenkins_step state xs ys

pub place_continued : (n p : ℕ) → place_after p (jenkins_state 0 (node_bytes n)) ≡ place n p
unfolding place
place_continued n p = ap jenkins_end (sym (jenkins_state-append 0 (node_bytes n) (partition_bytes p)))

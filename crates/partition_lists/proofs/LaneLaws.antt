-- The places of nodes that are hashed side by side.
use Rattle.std.proofs.Common.{◌≡◌, ℕ, ◌+◌, ◌<◌, ◌≤◌, List, [], ◌∷◌, ◌++◌, length, map, take, get_or, sym, ap, ◌∙◌, arith}
use Rattle.std.specs.Prelude.{slice_index_or, slice_set}
use Rattle.std.proofs.lemmas.List.{get_or-map, get_or-take, length-map, length-take-le, map_more, take-append-le, take-map, take_more_set, take-take}
use Rattle.cluster_types.specs.declared.member.Member.{Member}
use Rattle.partition_lists.specs.Candidates.{candidates_of}
use Rattle.partition_lists.specs.declared.ranks.Candidate.{Candidate}
use Rattle.partition_lists.specs.Hashes.{jenkins_state, node_bytes, place, place_after}
use Rattle.partition_lists.specs.NodeStates.{node_states}
use Rattle.partition_lists.proofs.HashLaws.{place_continued}

-- those of the first n states, where k are hashed and others stand behind
pub first_hashed : (f : ℕ → ℕ) (n k : ℕ) (states rest : List ℕ) → n ≤ k → k ≤ length states → take n (map f (take k states) ++ rest) ≡ map f (take n states)
first_hashed f n k states rest few within =
    take-append-le n (map f (take k states)) rest (omega (arith, few, within, length-map (take k states) f, length-take-le k states within))
    ∙ take-map f n (take k states)
    ∙ ap (map f) (take-take n k states few)

-- the place beside a member is its node's
pub place_beside : (members : List Member) (p i : ℕ) (states places : List ℕ) (m : Member) → i < length members → m ≡ get_or members i m
    → take (length members) states ≡ node_states members
    → take (length members) places ≡ map (place_after p) (take (length members) states)
    → slice_index_or places i 0 ≡ place m.id p
place_beside members p i states places m within here hashed after =
    sym (get_or-take (length members) places i 0 within)
    ∙ ap (λ ps. get_or ps i 0) (after ∙ ap (map (place_after p)) hashed)
    ∙ get_or-map (place_after p) (node_states members) i 0 0 (omega (arith, within, length-map members (λ (x : Member). jenkins_state 0 (node_bytes x.id))))
    ∙ ap (place_after p) (get_or-map (λ (x : Member). jenkins_state 0 (node_bytes x.id)) members i m 0 within ∙ ap (λ (x : Member). jenkins_state 0 (node_bytes x.id)) (sym here))
    ∙ place_continued m.id p

-- one member more stands beside its place
pub one_beside : (members : List Member) (p i : ℕ) (candidates : List Candidate) (m : Member) → i < length members → i < length candidates → m ≡ get_or members i m
    → take i candidates ≡ candidates_of (take i members) p
    → take (i + 1) (slice_set candidates i (record { member = m; place = place m.id p })) ≡ candidates_of (take (i + 1) members) p
one_beside members p i candidates m within room here before =
    let beside : Member → Candidate = λ x. record { member = x; place = place x.id p } in
    take_more_set candidates i (beside m) room
    ∙ ap (λ cs. cs ++ beside m ∷ []) before
    ∙ ap (λ (x : Member). map beside (take i members) ++ beside x ∷ []) here
    ∙ sym (map_more beside members i m within)

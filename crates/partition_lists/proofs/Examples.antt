-- The definitions at known values.
use Rattle.std.proofs.Common.{◌≡◌, Bool, List, [], ◌∷◌, refl, true, false}
use Rattle.cluster_types.specs.declared.member.Member.{Member}
use Rattle.partition_lists.specs.Hashes.{fnv1a, one_at_a_time, jenkins_state, jenkins_end, node_bytes, partition_bytes, place}
use Rattle.partition_lists.specs.Lists.{list}

fnv1a-a : fnv1a (97 ∷ []) ≡ 0xaf63dc4c8601ec8c
unfolding fnv1a
fnv1a-a = refl

one_at_a_time-a : one_at_a_time (97 ∷ []) ≡ 0xca2e9442
unfolding jenkins_state jenkins_end
one_at_a_time-a = refl

-- two nodes of rack 1, one of which is quiesced or not, one of rack 2 and one without a rack
abbrev four : Bool → List Member
four quiesced =
    record { id = 4; role = record { rack = 0; quiesced = false } }
    ∷ record { id = 3; role = record { rack = 2; quiesced = false } }
    ∷ record { id = 2; role = record { rack = 1; quiesced = quiesced } }
    ∷ record { id = 1; role = record { rack = 1; quiesced = false } }
    ∷ []

list-racks : list (four false) 2 ≡ 2 ∷ 3 ∷ 4 ∷ 1 ∷ []
unfolding fnv1a jenkins_state jenkins_end node_bytes partition_bytes place list
list-racks = refl

list-quiesced : list (four true) 1 ≡ 3 ∷ 1 ∷ 4 ∷ 2 ∷ []
unfolding fnv1a jenkins_state jenkins_end node_bytes partition_bytes place list
list-quiesced = refl

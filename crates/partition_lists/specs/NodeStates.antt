-- What is kept of each member between the partitions.
use Rattle.std.specs.Prelude.{ℕ, List, map}
use Rattle.cluster_types.specs.declared.member.Member.{Member}
use Rattle.partition_lists.specs.Hashes.{jenkins_state, node_bytes}

-- the state of one-at-a-time after each node's part of the input of `place`
abbrev pub node_states : List Member → List ℕ
node_states members = map (λ m. jenkins_state 0 (node_bytes m.id)) members

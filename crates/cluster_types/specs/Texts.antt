-- How ids, keys and digests are written.
use Rattle.std.specs.Prelude.{ℕ, List, ◌++◌, codes, decimal}
use Rattle.cluster_types.specs.declared.cluster_key.ClusterKey.{ClusterKey}
use Rattle.hex.specs.Hex.{encode_lower}

-- a node's number in decimal
abbrev pub node_text : ℕ → List ℕ
node_text n = decimal n

-- a partition's number in decimal
abbrev pub partition_text : ℕ → List ℕ
partition_text p = decimal p

-- the round and the principal in decimal, with a dot between them
abbrev pub key_text : ClusterKey → List ℕ
key_text k = decimal k.round ++ codes "." ++ decimal k.principal

-- two hex digits for each byte, in lower case
abbrev pub digest_text : List ℕ → List ℕ
digest_text bytes = encode_lower bytes

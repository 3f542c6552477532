-- What maps are keyed by.
use Rattle.std.specs.Prelude.{ℕ, ◌&&◌, Bool, nat_eq}
use Rattle.cluster_types.specs.declared.cluster_key.ClusterKey.{ClusterKey}

-- a key as a pair of numbers
abbrev pub key_pair : ClusterKey → ℕ × ℕ
key_pair k = (k.round, k.principal)

abbrev pub pair_eq : ℕ × ℕ → ℕ × ℕ → Bool
pair_eq a b = nat_eq a.0 b.0 && nat_eq a.1 b.1

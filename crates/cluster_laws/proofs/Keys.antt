-- The order of keys.
use Rattle.std.proofs.Common.{◌≡◌, true, false, arith}
use Rattle.std.proofs.lemmas.Bool.Decides.{nat_tests}
use Rattle.cluster_types.specs.declared.cluster_key.ClusterKey.{ClusterKey}
use Rattle.cluster_types.specs.ClusterKeys.{key_lt, none}

pub lt_irrefl : (k : ClusterKey) → key_lt k k ≡ false
lt_irrefl k = grind (arith, nat_tests)

-- a key not above one that is below the third isn't above the third
pub lt_past : (k last j : ClusterKey) → key_lt last k ≡ false → key_lt last j ≡ true → key_lt j k ≡ false
lt_past k last j p q = grind (arith, nat_tests)

pub lt_trans : (a b c : ClusterKey) → key_lt a b ≡ true → key_lt b c ≡ true → key_lt a c ≡ true
lt_trans a b c p q = grind (arith, nat_tests)

pub lt_none : (k : ClusterKey) → key_lt k none ≡ false
lt_none k = grind (arith, nat_tests)

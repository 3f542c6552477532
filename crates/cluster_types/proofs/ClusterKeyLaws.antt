-- The order of keys, and the next key.
use Rattle.std.proofs.Common.{ℕ, ◌+◌, ◌<◌, ◌^◌, arith}
use Rattle.std.proofs.lemmas.Bool.Decides.{nat_tests}
use Rattle.std.specs.Bool.{Decides}
use Rattle.cluster_types.specs.declared.cluster_key.ClusterKey.{ClusterKey}
use Rattle.cluster_types.specs.ClusterKeys.{IsKey, IsBelow, key_lt, next_round_key}

pub key_lt_decides : (a b : ClusterKey) → Decides (key_lt a b) (IsBelow a b)
key_lt_decides a b = (
  λ below. record { rounds = grind (arith, nat_tests); principals = λ same. grind (arith, nat_tests) },
  λ below. let rounds = below.rounds in let principals = below.principals in grind (arith, nat_tests),
)

-- a key is below the next one, whoever leads it
pub next_is_above : (k : ClusterKey) (by : ℕ) → IsBelow k (next_round_key k by)
next_is_above k by = record { rounds = omega arith; principals = λ same. absurd (omega (arith, same)) }

-- the next key is a key up to the last round
pub next_is_key : (k : ClusterKey) (by : ℕ) → k.round + 1 < 2 ^ 48 → 0 < by → IsKey (next_round_key k by)
next_is_key k by below led = record { above_none = omega arith; below_limit = below; led = led }

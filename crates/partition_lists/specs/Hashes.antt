-- The two hashes, and the place of a node in a partition.
use Rattle.std.specs.Prelude.{ℕ, ◌+◌, ◌*◌, ◌/◌, ◌%◌, ◌^◌, List, ◌++◌, fold, bit_xor}
use Rattle.std.specs.Int.{w16, w64, to_le_bytes}

-- FNV-1a of 64 bits before its first byte
abbrev pub fnv_basis : ℕ
fnv_basis = 0xcbf29ce484222325

abbrev pub fnv_prime : ℕ
fnv_prime = 0x100000001b3

-- FNV-1a takes a byte: by exclusive or, and then a product
abbrev pub fnv_step : ℕ → ℕ → ℕ
fnv_step hash byte = bit_xor hash byte * fnv_prime % 2 ^ 64

-- FNV-1a of 64 bits
unfoldable pub fnv1a : List ℕ → ℕ
fnv1a bytes = fold fnv_step fnv_basis bytes

-- h plus h shifted to the left by k bits, in 32 bits
abbrev pub plus_left : ℕ → ℕ → ℕ
plus_left k h = (h + h * 2 ^ k % 2 ^ 32) % 2 ^ 32

-- the exclusive or of h and h shifted to the right by k bits
abbrev pub xor_right : ℕ → ℕ → ℕ
xor_right k h = bit_xor h (h / 2 ^ k)

-- one-at-a-time takes a byte
abbrev pub jenkins_step : ℕ → ℕ → ℕ
jenkins_step hash byte = xor_right 6 (plus_left 10 ((hash + byte) % 2 ^ 32))

-- one-at-a-time has taken the bytes, from this state on
unfoldable pub jenkins_state : ℕ → List ℕ → ℕ
jenkins_state hash bytes = fold jenkins_step hash bytes

-- what ends one-at-a-time
unfoldable pub jenkins_end : ℕ → ℕ
jenkins_end hash = plus_left 15 (xor_right 11 (plus_left 3 hash))

-- Jenkins's one-at-a-time of 32 bits
abbrev pub one_at_a_time : List ℕ → ℕ
one_at_a_time bytes = jenkins_end (jenkins_state 0 bytes)

-- the part of the input of `place` that is the node's
unfoldable pub node_bytes : ℕ → List ℕ
node_bytes n = to_le_bytes w64 (fnv1a (to_le_bytes w64 n))

-- the part that is the partition's
unfoldable pub partition_bytes : ℕ → List ℕ
partition_bytes p = to_le_bytes w64 (fnv1a (to_le_bytes w16 p))

-- the number by which a node stands in the list of a partition
unfoldable pub place : ℕ → ℕ → ℕ
place n p = one_at_a_time (node_bytes n ++ partition_bytes p)

-- that number, where the node's part of the input led to this state
abbrev pub place_after : ℕ → ℕ → ℕ
place_after p state = jenkins_end (jenkins_state state (partition_bytes p))

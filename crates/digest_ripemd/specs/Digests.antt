-- RIPEMD-160 of a message, which is a list of bytes.
use Rattle.std.specs.Prelude.{ℕ, ◌-◌, ◌*◌, ◌/◌, ◌%◌, List, [], ◌∷◌, ◌++◌, length, replicate}
use Rattle.std.specs.List.{flat_map}
use Rattle.byteorder.specs.Endian.{little_bytes}
use Rattle.digest_ripemd.specs.declared.rounds.Words.{Words}
use Rattle.digest_ripemd.specs.Blocks.{Chained, after_blocks, chained}

-- the chaining words before the first block
abbrev pub initial : Words
initial = record { a = 0x67452301; b = 0xEFCDAB89; c = 0x98BADCFE; d = 0x10325476; e = 0xC3D2E1F0 }

-- the byte 0x80, as many zeros as bring a message of n bytes to 56 modulo 64, and the length in bits
-- as 64 bits, the lowest byte first
abbrev pub padding : ℕ → List ℕ
padding n = 0x80 ∷ replicate ((119 - n % 64) % 64) 0 ++ little_bytes 8 (8 * n)

abbrev pub padded_message : List ℕ → List ℕ
padded_message message = message ++ padding (length message)

-- the five words, each with its lowest byte first
abbrev pub digest_bytes : Words → List ℕ
digest_bytes h = flat_map (little_bytes 4) (h.a ∷ h.b ∷ h.c ∷ h.d ∷ h.e ∷ [])

-- the digest: the chaining words after all blocks of the padded message
unfoldable pub ripemd160 : List ℕ → List ℕ
ripemd160 message = digest_bytes
    (after_blocks initial (padded_message message) (length (padded_message message) / 64))

-- a digest that is being made, as a caller sees it: how many bytes were fed, and what they left
pub record Hashing : Type 0 where
  pub count : ℕ
  pub chain : Chained

-- one that was fed this message, in whatever pieces
unfoldable pub fed : List ℕ → Hashing
fed message = record { count = length message; chain = chained initial message }

-- what a record's digest is made of: the name of its set, the byte 3 and its key
abbrev pub digest_of : List ℕ → List ℕ → List ℕ
digest_of set_name key = ripemd160 (set_name ++ 3 ∷ key)

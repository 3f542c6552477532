-- What the padding and a digest look like.
use Rattle.std.proofs.Common.{◌≡◌, ℕ, ◌+◌, ◌-◌, ◌*◌, ◌/◌, ◌%◌, ◌<◌, List, ◌∷◌, length, replicate, refl, arith, length-append}
use Rattle.std.proofs.lemmas.List.{length-replicate}
use Rattle.std.proofs.lemmas.List.Elements.{All-from_recursion}
use Rattle.std.specs.Prelude.{All}
use Rattle.byteorder.specs.Endian.{little_bytes}
use Rattle.digest_ripemd.specs.declared.rounds.Words.{Words}
use Rattle.digest_ripemd.specs.Digests.{digest_bytes, padded_message, padding, ripemd160}

-- the zeros bring a message and the byte behind it to 56 modulo 64, and fewer than 64 do
pub zeros_fit : (n : ℕ) → ((n + 1 + (119 - n % 64) % 64) % 64 ≡ 56) × ((119 - n % 64) % 64 < 64)
zeros_fit n = (omega arith, omega arith)

-- a padded message is whole blocks: as many as the message, a byte and the length need
pub length-padded : (message : List ℕ)
    → length (padded_message message) ≡ 64 * ((length message + 72) / 64)
length-padded message =
    let n : ℕ = length message in
    let zeros : ℕ = (119 - n % 64) % 64 in
    let tail : length (padding n) ≡ 1 + zeros + 8 =
    omega (arith, length-append (0x80 ∷ replicate zeros 0) (little_bytes 8 (8 * n)), length-replicate {A = ℕ} zeros 0) in
    omega (arith, tail, length-append message (padding n))

-- a digest has twenty bytes
pub length-ripemd160 : (message : List ℕ) → length (ripemd160 message) ≡ 20
unfolding ripemd160
length-ripemd160 message = refl

remainder_fits : (n : ℕ) → n % 256 < 256
remainder_fits n = omega arith

bytes_of_fit : (h : Words) → All (λ byte. byte < 256) (digest_bytes h)
bytes_of_fit h = All-from_recursion (λ byte. byte < 256) (digest_bytes h) (search remainder_fits)

-- each of them is below 256
pub bytes-ripemd160 : (message : List ℕ) → All (λ byte. byte < 256) (ripemd160 message)
unfolding ripemd160
bytes-ripemd160 message = bytes_of_fit _

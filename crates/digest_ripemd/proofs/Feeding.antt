-- A digest in the making, from its first piece to its last.
use Rattle.std.proofs.Common.{◌≡◌, ℕ, ◌+◌, ◌-◌, ◌*◌, ◌%◌, ◌≤◌, List, ◌∷◌, ◌++◌, length, take, replicate, refl, ap, ◌∙◌, add-one, length-append}
use Rattle.std.proofs.lemmas.List.{append_assoc, take-replicate}
use Rattle.byteorder.specs.Endian.{little_bytes}
use Rattle.digest_ripemd.specs.Blocks.{Chained, chained}
use Rattle.digest_ripemd.specs.Digests.{Hashing, fed, initial, padded_message, digest_bytes, ripemd160}
use Rattle.digest_ripemd.proofs.Chaining.{chained-append, chained-words}

-- the first bytes of the longest padding
pub take-padding : (bit zeros : ℕ) → zeros ≤ 63 → take {A = ℕ} (zeros + 1) (bit ∷ replicate 63 0) ≡ bit ∷ replicate zeros 0
take-padding bit zeros few =
    let front : take {A = ℕ} zeros (replicate 63 0) ≡ replicate zeros 0 = take-replicate zeros 63 0 few in
    rw (add-one, front) refl

pub count-fed : (hashing : Hashing) (message : List ℕ) → hashing ≡ fed message → hashing.count ≡ length message
unfolding fed
count-fed hashing message is = ap (λ (h : Hashing). h.count) is

chain-fed : (hashing : Hashing) (message : List ℕ) → hashing ≡ fed message → hashing.chain ≡ chained initial message
unfolding fed
chain-fed hashing message is = ap (λ (h : Hashing). h.chain) is

-- what a piece more leaves
grown : (old new : Chained) (message piece : List ℕ) → old ≡ chained initial message
    → new ≡ chained old.words (old.rest ++ piece) → new ≡ chained initial (message ++ piece)
grown old new message piece is new_is = new_is ∙ rw is (chained-append initial message piece)

pub fed-append : (old : Hashing) (new : Chained) (message piece : List ℕ) → old ≡ fed message
    → new ≡ chained old.chain.words (old.chain.rest ++ piece)
    → fed (message ++ piece) ≡ record { count = old.count + length piece; chain = new }
unfolding fed
fed-append old new message piece is new_is =
    let size : old.count + length piece ≡ length (message ++ piece) =
    rw (count-fed old message is, length-append message piece) refl in
    rw (size, grown old.chain new message piece (chain-fed old message is) new_is) refl

-- the words after the padding and the length are those of the digest
pub finished : (hashing : Hashing) (padded_chain whole : Chained) (message zeros bits : List ℕ) → hashing ≡ fed message
    → zeros ≡ 0x80 ∷ replicate ((119 - hashing.count % 64) % 64) 0
    → bits ≡ little_bytes 8 (8 * hashing.count)
    → padded_chain ≡ chained hashing.chain.words (hashing.chain.rest ++ zeros)
    → whole ≡ chained padded_chain.words (padded_chain.rest ++ bits)
    → digest_bytes whole.words ≡ ripemd160 message
unfolding ripemd160
finished hashing padded_chain whole message zeros bits is zeros_are bits_are first_is second_is =
    let count : hashing.count ≡ length message = count-fed hashing message is in
    let first : padded_chain ≡ chained initial (message ++ zeros) =
    grown hashing.chain padded_chain message zeros (chain-fed hashing message is) first_is in
    let second : whole ≡ chained initial ((message ++ zeros) ++ bits) =
    grown padded_chain whole (message ++ zeros) bits first second_is in
    let joined : (message ++ zeros) ++ bits ≡ padded_message message = rw (append_assoc, zeros_are, bits_are, count) refl in
    rw (second, joined, chained-words initial (padded_message message)) refl

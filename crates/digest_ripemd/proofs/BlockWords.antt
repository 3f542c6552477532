-- The words of a list of bytes, one by one.
use Rattle.std.proofs.Common.{◌≡◌, ℕ, zero, suc, ◌+◌, ◌*◌, ◌<◌, List, length, drop, get_or, slice_index, refl, sym, ap, ◌∙◌, arith}
use Rattle.std.proofs.lemmas.List.{drop-drop}
use Rattle.std.proofs.lemmas.Grind.{same_number_lists}
use Rattle.byteorder.specs.Endian.{little_number}
use Rattle.digest_ripemd.specs.Blocks.{words_of}

length-words_of : (n : ℕ) (bytes : List ℕ) → length (words_of n bytes) ≡ n
unfolding words_of
length-words_of zero bytes = refl
length-words_of (suc n) bytes = ap suc (length-words_of n (drop 4 bytes))

get-words_of : (n : ℕ) (bytes : List ℕ) (k : ℕ) → k < n → get_or (words_of n bytes) k 0 ≡ little_number 4 (drop (4 * k) bytes)
unfolding words_of
get-words_of zero bytes k less = absurd (omega arith)
get-words_of (suc n) bytes zero less = refl
get-words_of (suc n) bytes (suc k) less =
    let next : 4 * suc k ≡ 4 + 4 * k = omega arith in
    get-words_of n (drop 4 bytes) k (omega arith) ∙ rw (drop-drop (4 * k) 4 bytes, next) refl

-- a list of n words that read as the bytes do
pub words_are : (n : ℕ) (words bytes : List ℕ) → length words ≡ n
    → ((k : ℕ) → k < length words → slice_index words k ≡ little_number 4 (drop (4 * k) bytes)) → words ≡ words_of n bytes
words_are n words bytes size read =
    same_number_lists words (words_of n bytes) (size ∙ sym (length-words_of n bytes))
    (λ k less. read k less ∙ sym (get-words_of n bytes k (omega arith)))

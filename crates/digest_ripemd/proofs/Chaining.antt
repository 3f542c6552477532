-- The chaining words over the blocks of a message that comes in pieces.
use Rattle.std.proofs.Common.{◌≡◌, ℕ, zero, suc, ◌+◌, ◌-◌, ◌*◌, ◌/◌, ◌<◌, ◌≤◌, List, [], ◌++◌, length, take, drop, refl, sym, ap, ◌∙◌, arith, length-append, length-drop, add-one}
use Rattle.std.proofs.lemmas.List.{append-nil, append_assoc, drop-drop, drop-append-le, drop_all, length-take-le, take-append-le, take-append-drop, take_at, take_rest}
use Rattle.std.proofs.lemmas.Slice.{take-put_mid}
use borrow.Rule.Slice.PartMut.{put_mid, post_of}
use Rattle.digest_ripemd.specs.declared.rounds.Words.{Words}
use Rattle.digest_ripemd.specs.Lines.{after_words}
use Rattle.digest_ripemd.specs.Blocks.{words_of, after_blocks, chained}

-- one block more
pub after_blocks-next : (h : Words) (bytes : List ℕ) (n : ℕ)
    → after_blocks h bytes (n + 1) ≡ after_words (words_of 16 (take 64 (drop (64 * n) bytes))) (after_blocks h bytes n)
unfolding after_blocks
after_blocks-next h bytes n = rw add-one refl

pub after_blocks-none : (h : Words) (bytes : List ℕ) → after_blocks h bytes 0 ≡ h
unfolding after_blocks
after_blocks-none h bytes = refl

-- the bytes behind the blocks don't count
pub after_blocks-append : (h : Words) (bytes more : List ℕ) (n : ℕ) → 64 * n ≤ length bytes
    → after_blocks h (bytes ++ more) n ≡ after_blocks h bytes n
unfolding after_blocks
after_blocks-append h bytes more zero fits = refl
after_blocks-append h bytes more (suc n) fits =
    let room : 64 ≤ length (drop (64 * n) bytes) = omega (arith, length-drop (64 * n) bytes) in
    let block : take 64 (drop (64 * n) (bytes ++ more)) ≡ take 64 (drop (64 * n) bytes) =
    rw (drop-append-le (64 * n) bytes more (omega arith)) (take-append-le 64 (drop (64 * n) bytes) more room) in
    rw (block, after_blocks-append h bytes more n (omega arith)) refl

-- m blocks, and then n of those behind them
after_blocks-add : (h : Words) (bytes : List ℕ) (m n : ℕ)
    → after_blocks h bytes (m + n) ≡ after_blocks (after_blocks h bytes m) (drop (64 * m) bytes) n
unfolding after_blocks
after_blocks-add h bytes m zero = ap (after_blocks h bytes) (omega arith)
after_blocks-add h bytes m (suc n) =
    let more : m + suc n ≡ suc (m + n) = omega arith in
    let at : 64 * m + 64 * n ≡ 64 * (m + n) = omega arith in
    rw (more, drop-drop (64 * n) (64 * m) bytes, at, after_blocks-add h bytes m n) refl

-- a piece more
pub chained-append : (h : Words) (message piece : List ℕ)
    → chained (chained h message).words ((chained h message).rest ++ piece) ≡ chained h (message ++ piece)
unfolding chained
chained-append h message piece =
    let done : ℕ = length message / 64 in
    let rest : List ℕ = drop (64 * done) message in
    let size : length rest ≡ length message - 64 * done = length-drop (64 * done) message in
    let behind : drop (64 * done) (message ++ piece) ≡ rest ++ piece = drop-append-le (64 * done) message piece (omega arith) in
    let count : length (message ++ piece) / 64 ≡ done + length (rest ++ piece) / 64 =
    omega (arith, size, length-append message piece, length-append rest piece) in
    let words : after_blocks h (message ++ piece) (length (message ++ piece) / 64) ≡ after_blocks (after_blocks h message done) (rest ++ piece) (length (rest ++ piece) / 64) =
    rw (count, after_blocks-add h (message ++ piece) done (length (rest ++ piece) / 64), behind, after_blocks-append h message piece done (omega arith)) refl in
    let at : 64 * (length (message ++ piece) / 64) ≡ 64 * done + 64 * (length (rest ++ piece) / 64) = omega arith in
    let left : drop (64 * (length (message ++ piece) / 64)) (message ++ piece) ≡ drop (64 * (length (rest ++ piece) / 64)) (rest ++ piece) =
    rw (at, ← drop-drop (64 * (length (rest ++ piece) / 64)) (64 * done) (message ++ piece), behind) refl in
    rw (words, left) refl

-- bytes short of a block
chained-short : (h : Words) (bytes : List ℕ) → length bytes < 64 → chained h bytes ≡ record { words = h; rest = bytes }
unfolding chained after_blocks
chained-short h bytes short =
    let none : length bytes / 64 ≡ 0 = omega arith in
    rw none refl

-- whole blocks leave nothing behind
chained-whole : (h : Words) (bytes : List ℕ) → length bytes ≡ 64 → (chained h bytes).rest ≡ []
unfolding chained
chained-whole h bytes whole = drop_all (64 * (length bytes / 64)) bytes (omega arith)

pub chained-words : (h : Words) (bytes : List ℕ) → (chained h bytes).words ≡ after_blocks h bytes (length bytes / 64)
unfolding chained
chained-words h bytes = refl

chained_is : (h : Words) (bytes : List ℕ)
    → chained h bytes ≡ record { words = after_blocks h bytes (length bytes / 64); rest = drop (64 * (length bytes / 64)) bytes }
unfolding chained
chained_is h bytes = refl

-- a piece that doesn't fill the block
pub absorbed_short : (h : Words) (block piece new : List ℕ) (used k : ℕ)
    → length block ≡ 64 → used + length piece < 64 → new ≡ piece
    → chained h (take used block ++ piece) ≡ record { words = h; rest = take (used + length piece) (put_mid used k block new) }
absorbed_short h block piece new used k size short same =
    let held : length (take used block) ≡ used = length-take-le used block (omega arith) in
    let grown : length (take used block ++ piece) < 64 = omega (arith, length-append (take used block) piece) in
    rw (chained-short h (take used block ++ piece) grown, same, take-put_mid used k block piece (used + length piece) refl (omega arith)) refl

-- a piece that fills the block: its first bytes do, and then come whole blocks and the bytes behind
pub absorbed_full : (h filled all : Words) (block piece first rest behind last post : List ℕ) (used room : ℕ)
    → length block ≡ 64 → used < 64 → room ≡ 64 - used → room ≤ length piece
    → first ≡ take room piece
    → rest ≡ take (length piece - room) (drop room piece)
    → filled ≡ after_blocks h (put_mid used room block first) (length (put_mid used room block first) / 64)
    → all ≡ after_blocks filled rest (length rest / 64)
    → behind ≡ take (length rest - 64 * (length rest / 64)) (drop (64 * (length rest / 64)) rest)
    → last ≡ behind
    → chained h (take used block ++ piece) ≡ record { words = all; rest = take (length behind) (last ++ post) }
absorbed_full h filled all block piece first rest behind last post used room size low room_is fits first_is rest_is filled_is all_is behind_is last_is =
    let full : List ℕ = put_mid used room block first in
    let front : List ℕ = take used block ++ take room piece in
    let nothing : post_of used room block ≡ [] = drop_all room (drop used block) (omega (arith, length-drop used block)) in
    let full_is : full ≡ front = rw (nothing, append-nil, first_is) refl in
    let whole : length front ≡ 64 =
    omega (arith, length-append (take used block) (take room piece), length-take-le used block (omega arith), length-take-le room piece fits) in
    let left : rest ≡ drop room piece = rest_is ∙ take_rest piece room in
    let joined : front ++ rest ≡ take used block ++ piece = rw (left, append_assoc, take-append-drop) refl in
    let words : (chained h front).words ≡ filled = rw (chained-words h front, ← full_is) (sym filled_is) in
    let start : chained filled rest ≡ chained h (front ++ rest) =
    rw (chained-whole h front whole, words) at (chained-append h front rest) in
    let end : behind ≡ drop (64 * (length rest / 64)) rest = behind_is ∙ take_rest rest (64 * (length rest / 64)) in
    let shown : take (length behind) (last ++ post) ≡ drop (64 * (length rest / 64)) rest =
    rw last_is (take_at behind post (length behind) refl) ∙ end in
    rw (← joined, ← start, chained_is filled rest, shown, all_is) refl

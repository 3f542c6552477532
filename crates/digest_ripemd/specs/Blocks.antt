-- A message as blocks of 64 bytes.
use Rattle.std.specs.Prelude.{ℕ, zero, suc, ◌*◌, ◌/◌, List, [], ◌∷◌, length, take, drop}
use Rattle.byteorder.specs.Endian.{little_number}
use Rattle.digest_ripemd.specs.declared.rounds.Words.{Words}
use Rattle.digest_ripemd.specs.Lines.{after_words}

-- the first n words of a list of bytes: four bytes each, the lowest first
unfoldable pub words_of : ℕ → List ℕ → List ℕ
words_of zero bytes = []
words_of (suc n) bytes = little_number 4 bytes ∷ words_of n (drop 4 bytes)

-- the chaining words after the first n blocks of a list of bytes
unfoldable pub after_blocks : Words → List ℕ → ℕ → Words
after_blocks h bytes zero = h
after_blocks h bytes (suc n) =
    after_words (words_of 16 (take 64 (drop (64 * n) bytes))) (after_blocks h bytes n)

-- the chaining words after the whole blocks of a list of bytes, and the bytes behind them
pub record Chained : Type 0 where
  pub words : Words
  pub rest : List ℕ

unfoldable pub chained : Words → List ℕ → Chained
chained h bytes = record {
  words = after_blocks h bytes (length bytes / 64);
  rest = drop (64 * (length bytes / 64)) bytes;
}

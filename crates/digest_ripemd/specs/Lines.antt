-- The two lines that run over a block. A word is a number below 2 ^ 32, and sums are taken modulo
-- 2 ^ 32.
use Rattle.std.specs.Prelude.{ℕ, ◌+◌, ◌%◌, ◌^◌, List, [], ◌∷◌, bit_and, bit_or, bit_xor, slice_index}
use Rattle.std.specs.Int.{w32, bit_not, rotate_left}
use Rattle.digest_ripemd.specs.declared.rounds.Function.{Function}
use Rattle.digest_ripemd.specs.declared.rounds.Function.TheVariants.{F1, F2, F3, F4, F5}
use Rattle.digest_ripemd.specs.declared.rounds.Round.{Round}
use Rattle.digest_ripemd.specs.declared.rounds.Words.{Words}
use Rattle.digest_ripemd.specs.Tables.{left_line, right_line}

-- the function of a round at three words, bit by bit
abbrev pub value_of : Function → ℕ → ℕ → ℕ → ℕ
value_of F1 b c d = bit_xor (bit_xor b c) d
value_of F2 b c d = bit_or (bit_and b c) (bit_and (bit_not w32 b) d)
value_of F3 b c d = bit_xor (bit_or b (bit_not w32 c)) d
value_of F4 b c d = bit_or (bit_and b d) (bit_and c (bit_not w32 d))
value_of F5 b c d = bit_xor b (bit_or c (bit_not w32 d))

-- a step of a round with this function and constant, which reads the word x and rotates by s
unfoldable pub round_step : Function → ℕ → ℕ → ℕ → Words → Words
round_step f k x s v = record {
  a = v.e;
  b = (rotate_left w32 ((v.a + value_of f v.b v.c v.d + x + k) % 2 ^ 32) s + v.e) % 2 ^ 32;
  c = v.b;
  d = rotate_left w32 v.c 10;
  e = v.d;
}

-- a step for each place in the order and each rotation
unfoldable pub after_steps : Function → ℕ → List ℕ → List ℕ → List ℕ → Words → Words
after_steps f k words (place ∷ order) (s ∷ rotations) v =
    after_steps f k words order rotations (round_step f k (slice_index words place) s v)
after_steps f k words order rotations v = v

-- the steps of a round over the words of a block
abbrev pub after_round : List ℕ → Round → Words → Words
after_round words round v =
    after_steps round.function round.constant words round.order round.rotations v

-- the rounds of a line, one after the other
abbrev pub line_rounds : List ℕ → List Round → Words → Words
line_rounds words [] v = v
line_rounds words (round ∷ rounds) v = line_rounds words rounds (after_round words round v)

-- the chaining words, joined with what the left and the right line made of them
abbrev pub combined : Words → Words → Words → Words
combined h left right = record {
  a = (h.b + left.c + right.d) % 2 ^ 32;
  b = (h.c + left.d + right.e) % 2 ^ 32;
  c = (h.d + left.e + right.a) % 2 ^ 32;
  d = (h.e + left.a + right.b) % 2 ^ 32;
  e = (h.a + left.b + right.c) % 2 ^ 32;
}

-- the chaining words after a block of these words
unfoldable pub after_words : List ℕ → Words → Words
after_words words h = combined h (line_rounds words left_line h) (line_rounds words right_line h)

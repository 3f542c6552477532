-- Where memory is refused for a line that is to be written, the sink took nothing of it.
use Rattle.std.proofs.Common.{◌≡◌, ◌≢◌, ℕ, List, [], ◌∷◌, ◌++◌, length, Option, Some, None, refl, sym, ap, arith, append-nil, length-append}
use Rattle.replay_core.specs.Streams.{WroteFront}

some_line : (words : List ℕ) → words ++ 10 ∷ [] ≢ []
some_line words e =
    let none : length (words ++ 10 ∷ []) ≡ length {A = ℕ} [] = ap length e in
    omega (arith, none, length-append words (10 ∷ []))

pub no_line_written : (old : Option (List ℕ)) (words : List ℕ) → WroteFront old old (words ++ 10 ∷ [])
no_line_written None words = tt
no_line_written (Some t) words = record {
  front = [];
  rest = words ++ 10 ∷ [];
  whole = refl;
  short = some_line words;
  now = ap Some (sym (append-nil t));
}

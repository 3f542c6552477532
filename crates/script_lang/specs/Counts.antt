-- How many fields follow a word. Fewer than the form has are missing, and more are too many, whatever they say.
use Rattle.std.specs.Prelude.{ℕ, List, [], ◌∷◌, Option, Some, None, Result, Ok, Err}
use Rattle.script_lang.specs.declared.fault.Cause.{Cause}
use Rattle.script_lang.specs.declared.fault.Cause.TheVariants.{MissingField, ExtraField}

abbrev pub no_fields : List (List ℕ) → Result (Unit {0}) Cause
no_fields [] = Ok tt
no_fields (a ∷ more) = Err ExtraField

abbrev pub one : List (List ℕ) → Result (List ℕ) Cause
one [] = Err MissingField
one (a ∷ []) = Ok a
one (a ∷ b ∷ more) = Err ExtraField

abbrev pub one_or_two : List (List ℕ) → Result (List ℕ × Option (List ℕ)) Cause
one_or_two [] = Err MissingField
one_or_two (a ∷ []) = Ok (a, None)
one_or_two (a ∷ b ∷ []) = Ok (a, Some b)
one_or_two (a ∷ b ∷ c ∷ more) = Err ExtraField

abbrev pub two : List (List ℕ) → Result (List ℕ × List ℕ) Cause
two [] = Err MissingField
two (a ∷ []) = Err MissingField
two (a ∷ b ∷ []) = Ok (a, b)
two (a ∷ b ∷ c ∷ more) = Err ExtraField

abbrev pub three : List (List ℕ) → Result (List ℕ × List ℕ × List ℕ) Cause
three [] = Err MissingField
three (a ∷ []) = Err MissingField
three (a ∷ b ∷ []) = Err MissingField
three (a ∷ b ∷ c ∷ []) = Ok (a, b, c)
three (a ∷ b ∷ c ∷ d ∷ more) = Err ExtraField

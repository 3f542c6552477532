-- What a call that reads fields answers.
use Rattle.std.specs.Prelude.{◌≡◌, List, ℕ, [], Option, Some, None, Result, Ok, Err, ⊤}
use Rattle.journal_reader.specs.declared.reading.unread.Unread.{Unread}
use Rattle.journal_reader.specs.declared.reading.unread.Unread.TheVariants.{NoLine, NoMemory}

-- the answer is what the fields say, unless memory ran out
abbrev pub ReadsFields : {A : Type 0} → Result A Unread → Option A → Type 0
ReadsFields (Ok x) read = read ≡ Some x
ReadsFields (Err NoLine) read = read ≡ None
ReadsFields (Err NoMemory) read = ⊤

-- the same of a call that leaves the fields behind what it reads
abbrev pub Takes : {A : Type 0} → Result A Unread → Option (A × List (List ℕ)) → List (List ℕ)
    → Type 0
Takes (Ok x) read fields = read ≡ Some (x, fields)
Takes (Err NoLine) read fields = read ≡ None
Takes (Err NoMemory) read fields = ⊤

-- no field is left
abbrev pub ReadsEnd : Result (Unit {0}) Unread → List (List ℕ) → Type 0
ReadsEnd (Ok u) fields = fields ≡ []
ReadsEnd (Err NoLine) fields = (fields ≡ []) → ⊥
ReadsEnd (Err NoMemory) fields = ⊤

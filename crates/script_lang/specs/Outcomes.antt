-- What is read of a part of a line: a value, or the cause for which the line is bad.
use Rattle.std.specs.Prelude.{Bool, if◌then◌else◌, Result, Ok, Err}
use Rattle.script_lang.specs.declared.fault.Cause.{Cause}

-- what is made of the value
abbrev pub map_ok : {A B : Type 0} → (A → B) → Result A Cause → Result B Cause
map_ok make (Ok value) = Ok (make value)
map_ok make (Err cause) = Err cause

-- what is read next, once there is a value
abbrev pub and_then : {A B : Type 0} → Result A Cause → (A → Result B Cause) → Result B Cause
and_then (Ok value) next = next value
and_then (Err cause) next = Err cause

-- the value where the test holds, and else the cause
abbrev pub ok_if : {A : Type 0} → Bool → A → Cause → Result A Cause
ok_if test value cause = if test then Ok value else Err cause

-- the value, with the cause for whatever fault there was
abbrev pub or_cause : {A E : Type 0} → Cause → Result A E → Result A Cause
or_cause cause (Ok value) = Ok value
or_cause cause (Err fault) = Err cause

-- What a refusal of bytes prints.
use Rattle.std.specs.Prelude.{ℕ, List, ◌++◌, codes, decimal}
use Rattle.conflict_order.specs.declared.value.ValueFault.{ValueFault}
use Rattle.conflict_order.specs.declared.value.ValueFault.TheVariants.{TooLong, NoMemory}

abbrev pub fault_text : ValueFault → List ℕ
fault_text (TooLong length) = codes "a value of " ++ decimal length ++ codes " bytes is too long"
fault_text NoMemory = codes "out of memory"

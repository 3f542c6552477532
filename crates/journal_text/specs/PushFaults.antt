-- What is said of a line that wasn't added.
use Rattle.std.specs.Prelude.{ℕ, List, codes}
use Rattle.journal_text.specs.declared.journal.PushFault.{PushFault}
use Rattle.journal_text.specs.declared.journal.PushFault.TheVariants as fault

abbrev pub fault_text : PushFault → List ℕ
fault_text fault.Full = codes "the journal is full"
fault_text fault.NoMemory = codes "out of memory"

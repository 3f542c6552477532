use Rattle.std.proofs.Common.{◌≡◌, ◌^◌, ◌-◌, length, take}
use Rattle.std.specs.Prelude.{min}
use Rattle.journal_text.specs.Values.{ids_text}
use Rattle.journal_text.proofs.lengths.ids.Given as goal

abbrev pub invariant-loop-id : goal.invariant-loop-id
invariant-loop-id l = l.bytes ≡ min (length (ids_text (take l.id-index l.ids))) (2 ^ 64 - 1)

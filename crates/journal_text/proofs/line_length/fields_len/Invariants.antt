use Rattle.std.proofs.Common.{◌≡◌, ◌^◌, ◌-◌, length, take}
use Rattle.std.specs.Prelude.{min}
use Rattle.std.specs.List.{flat_map}
use Rattle.journal_text.specs.FieldTexts.{spaced_text}
use Rattle.journal_text.proofs.line_length.fields_len.Given as goal

abbrev pub invariant-loop-field : goal.invariant-loop-field
invariant-loop-field l = l.bytes ≡ min (length (flat_map spaced_text (take l.field-index l.fields))) (2 ^ 64 - 1)

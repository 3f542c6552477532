-- Where a line has the bytes of its message. No public clause cites this module.
use Rattle.std.specs.Prelude.{ℕ, ◌≤◌, List, take}
use Rattle.journal_lines.specs.declared.message_bytes.Storage.{Storage}
use Rattle.journal_lines.specs.declared.message_bytes.Storage.TheVariants.{Inline, Heap}

abbrev pub bytes_of : Storage → List ℕ
bytes_of (Inline len places) = take len places
bytes_of (Heap bytes) = bytes.items

-- no more bytes stand in the line than it has places for
abbrev pub FitsInline : Storage → Type 0
FitsInline (Inline len places) = len ≤ 30
FitsInline (Heap bytes) = Unit {0}

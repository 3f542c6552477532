-- What lines and messages add, one part of them after another.
use Rattle.std.proofs.Common.{◌≡◌, ℕ, List, [], ◌∷◌, ◌++◌, Option, refl}
use Rattle.conflict_order.specs.declared.want.Want.{Want}
use Rattle.journal_lines.specs.declared.line.Line.{Line}
use Rattle.wire_messages.specs.declared.message.Message.{Message}
use Rattle.node_rules.specs.Facts.{Facts}
use Rattle.node_rules.specs.Notes.{note, noted, sent, all_sent}

pub noted-append : (q : Option Want) (f : Facts) (ls more : List Line) → noted q f (ls ++ more) ≡ noted q (noted q f ls) more
noted-append q f [] more = refl
noted-append q f (l ∷ ls) more = noted-append q (note q f l) ls more

pub all_sent-append : (f : Facts) (ms more : List (ℕ × Message)) → all_sent f (ms ++ more) ≡ all_sent (all_sent f ms) more
all_sent-append f [] more = refl
all_sent-append f (m ∷ ms) more = all_sent-append (sent f m.0 m.1) ms more

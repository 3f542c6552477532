-- The open transactions of a view: what dup_resolve keeps of each, with whom it asked and the write that it applied.
use Rattle.std.specs.Prelude.{◌≡◌, ◌==◌, ℕ, ◌+◌, not, List, [], ◌∷◌, Option, Some, None, is_some, option_map, map, filter, find}
use Rattle.dup_resolve.specs.declared.txn.Txn.{Txn}
use Rattle.dup_resolve.specs.Open.{Open}
use Rattle.node_rules.specs.Tables.{Table, changed_if}
use Rattle.node_rules.specs.Transactions as rules
use Rattle.node_view.specs.declared.notes.TxnNote.{TxnNote}
use Rattle.node_view.specs.declared.notes.Write.{Write}

-- what is kept of the open transactions of a view besides
pub record Noted : Type 0 where
  -- how many transactions the view has had
  pub opened : ℕ
  -- what is kept of each open one, by its number
  pub kept : Table TxnNote
  -- how many can open without memory
  pub spare : ℕ

-- what is in slots, of which the first has the number after that one
abbrev pub notes_after : ℕ → List (Option TxnNote) → Table TxnNote
notes_after b [] = []
notes_after b (None ∷ slots) = notes_after (b + 1) slots
notes_after b (Some n ∷ slots) = (b + 1, n) ∷ notes_after (b + 1) slots

-- what is kept of the open transaction of that number
abbrev pub note_of : Table TxnNote → ℕ → Option TxnNote
note_of notes number = option_map (λ e. e.1) (find (λ e. e.0 == number) notes)

-- what is kept with a change of what is kept of one
abbrev pub with_note : Table TxnNote → ℕ → (TxnNote → TxnNote) → Table TxnNote
with_note notes number change = map (λ e. (e.0, changed_if change e.1 (e.0 == number))) notes

-- what is kept once the transaction is closed
abbrev pub without_note : Table TxnNote → ℕ → Table TxnNote
without_note notes number = filter (λ e. not (e.0 == number)) notes

-- the transaction applied the write
abbrev pub note_with_write : Write → TxnNote → TxnNote
note_with_write w n = record n { write = Some w }

-- the write that was applied
abbrev pub write_of : Write → rules.Write
write_of w = record { version = w.version; nth = w.nth }

-- an open transaction
abbrev pub transaction_with : Txn → TxnNote → rules.Transaction
transaction_with t n = record {
  number = t.id;
  digest = t.digest;
  want = t.want;
  asked = n.asked;
  best = t.best;
  awaiting = t.awaiting;
  applied = option_map write_of n.write;
}

-- an open transaction as dup_resolve keeps it
abbrev pub kept_of : rules.Transaction → Txn
kept_of t = record {
  id = t.number;
  want = t.want;
  digest = t.digest;
  awaiting = t.awaiting;
  best = t.best;
  applied = is_some t.applied;
}

-- the open transactions, each with its note
abbrev pub running_with : List Txn → Table TxnNote → List rules.Transaction
running_with [] notes = []
running_with (t ∷ ts) [] = []
running_with (t ∷ ts) (n ∷ notes) = transaction_with t n.1 ∷ running_with ts notes

-- the transactions of a view
abbrev pub transactions_of : Open → Noted → rules.Transactions
transactions_of o n = record { opened = o.opened; running = running_with o.running n.kept }

-- the note has the transaction's number, and a write where the transaction says that it is applied
pub record IsNoteOf (t : Txn) (n : ℕ × TxnNote) : Type 0 where
  pub number : n.0 ≡ t.id
  pub applied : is_some n.1.write ≡ t.applied

-- the notes are those of the transactions, in their order
abbrev pub AreNotesOf : List Txn → Table TxnNote → Type 0
AreNotesOf [] [] = Unit {0}
AreNotesOf [] (n ∷ notes) = ⊥
AreNotesOf (t ∷ ts) [] = ⊥
AreNotesOf (t ∷ ts) (n ∷ notes) = IsNoteOf t n × AreNotesOf ts notes

-- each open transaction has its note
pub record AreNoted (o : Open) (n : Noted) : Type 0 where
  pub opened : n.opened ≡ o.opened
  pub notes : AreNotesOf o.running n.kept

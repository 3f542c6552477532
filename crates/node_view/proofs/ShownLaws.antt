-- What a view shows of its open transactions.
use Rattle.std.proofs.Common.{◌≡◌, ◌==◌, ◌⊎◌, inl, inr, ℕ, true, false, List, Option, Some, None, map, option_map, refl, sym, ap, subst, ◌∙◌}
use Rattle.std.specs.Prelude.{IsSome, option_and_then}
use Rattle.dup_resolve.specs.declared.txn.Txn.{Txn}
use Rattle.dup_resolve.specs.Open.{Open}
use Rattle.dup_resolve.specs.Open as table
use Rattle.node_rules.specs.Transactions as rules
use Rattle.node_rules.specs.Transactions.{Transaction}
use Rattle.node_view.specs.declared.notes.TxnNote.{TxnNote}
use Rattle.node_view.specs.declared.notes.Write.{Write}
use Rattle.node_view.specs.Transactions.{AreNoted, Noted, kept_of, note_of, running_with, transactions_of, write_of}
use Rattle.node_view.specs.declared.view.View.TheInside.{Inside}
use Rattle.node_view.specs.Views.{Viewed, view_of}
use Rattle.node_view.proofs.TxnLaws.{found_kept, kept_running, noted_at}

pub running_kept : (o : Open) (n : Noted) → AreNoted o n → o.running ≡ map kept_of (transactions_of o n).running
running_kept o n noted = kept_running o.running n.kept noted.notes

pub transaction_kept : (o : Open) (n : Noted) (number : ℕ) → AreNoted o n → table.txn_at o.running number ≡ option_map kept_of (rules.transaction (transactions_of o n) number)
transaction_kept o n number noted =
    ap (λ (ts : List Txn). table.txn_at ts number) (kept_running o.running n.kept noted.notes)
    ∙ found_kept (λ t. t.id == number) (λ t. t.number == number) (λ x. refl) (running_with o.running n.kept)

-- the write that is noted, if there is a note
abbrev pub write_in : Option TxnNote → Option Write
write_in n = option_and_then (λ (x : TxnNote). x.write) n

noted_write : (found : Option Transaction) (kept : Option TxnNote) → IsSome found
    → (found ≡ None) ⊎ (option_map (λ (x : Transaction). x.applied) found ≡ option_map (λ (n : TxnNote). option_map write_of n.write) kept)
    → option_map write_of (write_in kept) ≡ option_and_then (λ (x : Transaction). x.applied) found
noted_write None kept some h = absurd (let wrong : false ≡ true = some in cc)
noted_write (Some x) kept some (inl e) = absurd (let wrong : Some x ≡ None = e in cc)
noted_write (Some x) None some (inr e) = absurd (let wrong : Some x.applied ≡ None = e in cc)
noted_write (Some x) (Some n) some (inr e) = let same : x.applied ≡ option_map write_of n.write = cc in sym same

pub written_kept : (o : Open) (n : Noted) (number : ℕ) (w : Option Write) → AreNoted o n → IsSome (rules.transaction (transactions_of o n) number) → w ≡ write_in (note_of n.kept number)
    → option_map write_of w ≡ option_and_then (λ (x : Transaction). x.applied) (rules.transaction (transactions_of o n) number)
written_kept o n number w noted some is =
    ap (option_map write_of) is
    ∙ noted_write (rules.transaction (transactions_of o n) number) (note_of n.kept number) some (noted_at number o.running n.kept noted.notes)

-- the same of the view with these fields
pub written_shown : (i : Inside) (v : Viewed) (number : ℕ) (w : Option Write) → view_of i ≡ v → AreNoted i.txns i.notes → IsSome (rules.transaction v.transactions number) → w ≡ write_in (note_of i.notes.kept number)
    → option_map write_of w ≡ option_and_then (λ (x : Transaction). x.applied) (rules.transaction v.transactions number)
written_shown i v number w shows noted some is =
    written_kept i.txns i.notes number w noted (subst (λ (u : Viewed). IsSome (rules.transaction u.transactions number)) (sym shows) some) is
    ∙ ap (λ (u : Viewed). option_and_then (λ (x : Transaction). x.applied) (rules.transaction u.transactions number)) shows

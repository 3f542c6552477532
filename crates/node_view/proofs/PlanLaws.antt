-- What is planned of a view.
use Rattle.std.proofs.Common.{◌≡◌, ℕ, Bool, true, List, Option, Some, None, option_map, refl, sym, ap, subst, ◌∙◌}
use Rattle.cluster_types.specs.Partitions.{partition_of}
use Rattle.journal_lines.specs.declared.refusal.Refusal.TheVariants as refusal
use Rattle.dup_resolve.specs.Open.{Open}
use Rattle.dup_resolve.specs.Open as table
use Rattle.node_rules.specs.Facts.{Facts, list_at}
use Rattle.node_rules.specs.Requests.{acting_refusal, busy_refusal}
use Rattle.node_rules.specs.Standing.{acts}
use Rattle.node_rules.specs.Transactions as rules
use Rattle.node_rules.specs.Transactions.{Transaction, Transactions}
use Rattle.node_view.specs.declared.view.View.TheInside.{Inside}
use Rattle.node_view.specs.declared.view_step.Counted.{Counted}
use Rattle.node_view.specs.Rooms.{HasRoomToCount}
use Rattle.node_view.specs.Transactions.{AreNoted, transactions_of}
use Rattle.node_view.specs.Views.{IsInView, ViewRoom, Viewed, view_of}
use Rattle.node_view.proofs.ResolveLaws.{number_on_is}
use Rattle.node_view.proofs.SightLaws.{sees}

-- ---- requests

refused : (t : Option Transaction) → option_map refusal.Busy (option_map (λ (x : Transaction). x.number) t) ≡ busy_refusal t
refused None = refl
refused (Some t) = refl

-- a node that acts refuses a request where a transaction is open on its digest
pub refused_busy : (f : Facts) (i : Inside) (v : Viewed) (digest : List ℕ) (p : ℕ) (acting : Bool) (on : Option ℕ) → AreNoted i.txns i.notes → view_of i ≡ v → IsInView f v
    → p ≡ partition_of digest → acting ≡ acts f (list_at f p) p → acting ≡ true → on ≡ table.number_on i.txns.running digest
    → option_map refusal.Busy on ≡ acting_refusal f (list_at f (partition_of digest)) digest (acts f (list_at f (partition_of digest)) (partition_of digest))
refused_busy f i v digest p acting on noted is h here told so found =
    let does : acts f (list_at f (partition_of digest)) (partition_of digest) ≡ true = sym (ap (λ (q : ℕ). acts f (list_at f q) q) here) ∙ sym told ∙ so in
    ap (option_map refusal.Busy) (found ∙ number_on_is i.txns i.notes digest noted)
    ∙ refused (rules.transaction_on (transactions_of i.txns i.notes) digest)
    ∙ ap (λ (ts : Transactions). busy_refusal (rules.transaction_on ts digest)) (ap (λ (w : Viewed). w.transactions) is ∙ sym (sees f v h).transactions)
    ∙ ap (acting_refusal f (list_at f (partition_of digest)) digest) (sym does)

-- ---- room

pub counted_room : (room : ViewRoom) (p : ℕ) (a x : Counted) → Some a ≡ Some x → HasRoomToCount room p a → HasRoomToCount room p x
counted_room room p a x e h = let same : a ≡ x = cc in subst (λ (y : Counted). HasRoomToCount room p y) same h

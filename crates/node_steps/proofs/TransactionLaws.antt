-- What an open transaction sends again.
use Rattle.std.proofs.Common.{◌≡◌, ℕ, Option, Some, None, refl, sym, ap, ◌∙◌}
use Rattle.std.specs.Prelude.{IsSome, option_and_then}
use Rattle.std.specs.Option.{ForSome}
use Rattle.cluster_types.specs.declared.cluster_key.ClusterKey.{ClusterKey}
use Rattle.dup_resolve.specs.declared.txn.Txn.{Txn}
use Rattle.wire_messages.specs.declared.message.Message.TheVariants as message
use Rattle.wire_messages.specs.Keys.{IsKeyField}
use Rattle.wire_messages.specs.Proper.{IsProper}
use Rattle.node_rules.specs.Effects.{to_each}
use Rattle.node_rules.specs.Exchange.{Exchange}
use Rattle.node_rules.specs.Exchange as exchange
use Rattle.node_rules.specs.Facts.{Facts}
use Rattle.node_rules.specs.Tick.{sends_again}
use Rattle.node_rules.specs.Transactions as rules
use Rattle.node_rules.specs.Transactions.{Transaction}
use Rattle.node_view.specs.declared.notes.Write.{Write}
use Rattle.node_view.specs.Transactions.{write_of}
use Rattle.node_steps.specs.Viewing.{IsAsKept}
use Rattle.node_view.specs.Views.{IsInView, Viewed, viewed_key}
use Rattle.node_steps.specs.Ranges.{HasSpelling}
use Rattle.node_steps.proofs.ViewLaws.{exchange_is, transactions_are}

-- ---- it has a spelling

ask_of : (t : Transaction) (x : Txn) (key : ClusterKey) → HasSpelling t → IsAsKept x t → IsKeyField key → IsProper (message.Ask key x.id x.digest)
ask_of t x key h kept field = rw (sym kept.number, sym kept.digest) (field, h.number, h.digest)

pub proper_ask : (o : Option Transaction) (x : Txn) (key : ClusterKey) → IsSome o → ForSome o HasSpelling → ForSome o (IsAsKept x) → IsKeyField key → IsProper (message.Ask key x.id x.digest)
proper_ask None x key some h kept field = cc
proper_ask (Some t) x key some h kept field = ask_of t x key (h t refl) (kept t refl) field

repl_of : (t : Transaction) (x : Txn) (w : Write) (key : ClusterKey) → Some (write_of w) ≡ t.applied → HasSpelling t → IsAsKept x t → IsKeyField key → IsProper (message.Repl key x.id w.nth x.digest w.version)
repl_of t x w key wrote h kept field =
    let written = h.applied (write_of w) (sym wrote) in
    rw (sym kept.number, sym kept.digest) (field, h.number, written.nth, h.digest, written.version)

pub proper_repl : (o : Option Transaction) (x : Txn) (w : Write) (key : ClusterKey) → Some (write_of w) ≡ option_and_then (λ t. t.applied) o → ForSome o HasSpelling → ForSome o (IsAsKept x) → IsKeyField key
    → IsProper (message.Repl key x.id w.nth x.digest w.version)
proper_repl None x w key wrote h kept field = cc
proper_repl (Some t) x w key wrote h kept field = repl_of t x w key wrote (h t refl) (kept t refl) field

-- ---- it is what is due

-- the transaction of the facts is that of the view
pub found_in_view : (f : Facts) (v : Viewed) (number : ℕ) (t : Transaction) → IsInView f v → rules.transaction f.transactions number ≡ Some t → rules.transaction v.transactions number ≡ Some t
found_in_view f v number t h found = ap (λ (ts : rules.Transactions). rules.transaction ts number) (transactions_are f v h) ∙ found

pub asks_again : (f : Facts) (v : Viewed) (t : Transaction) (x : Txn) → IsInView f v → IsAsKept x t → None ≡ t.applied
    → to_each x.awaiting (message.Ask (viewed_key v) x.id x.digest) ≡ sends_again f t t.applied
asks_again f v t x h kept none =
    rw (sym kept.number, sym kept.digest, sym kept.awaiting)
    (ap (λ (e : Exchange). to_each t.awaiting (message.Ask (exchange.exchange_key e.view) t.number t.digest)) (exchange_is f v h)
    ∙ ap (λ (o : Option rules.Write). sends_again f t o) none)

pub writes_again : (f : Facts) (v : Viewed) (t : Transaction) (x : Txn) (w : Write) → IsInView f v → IsAsKept x t → Some (write_of w) ≡ t.applied
    → to_each x.awaiting (message.Repl (viewed_key v) x.id w.nth x.digest w.version) ≡ sends_again f t t.applied
writes_again f v t x w h kept wrote =
    rw (sym kept.number, sym kept.digest, sym kept.awaiting)
    (ap (λ (e : Exchange). to_each t.awaiting (message.Repl (exchange.exchange_key e.view) t.number w.nth t.digest w.version)) (exchange_is f v h)
    ∙ ap (λ (o : Option rules.Write). sends_again f t o) wrote)

use Rattle.std.proofs.Common.{◌≡◌, ℕ, List, Option, Some, map, ap, ap₂, sym, subst, ◌∙◌}
use Rattle.std.specs.Prelude.{option_and_then}
use Rattle.wire_messages.specs.declared.message.Message.{Message}
use Rattle.wire_messages.specs.Proper.{IsProper}
use Rattle.wire_messages.specs.Spelling.{spelling}
use Rattle.node_rules.specs.Effects.{sends_only, to_each}
use Rattle.node_rules.specs.Tick.{sends_again}
use Rattle.node_rules.specs.Transactions as rules
use Rattle.node_view.specs.Views.{viewed_key}
use Rattle.node_steps.specs.Spelled.{then_effects, with_sends}
use Rattle.node_steps.proofs.SpelledLaws.{on_ok_then, told_each}
use Rattle.node_steps.proofs.TransactionLaws.{asks_again, found_in_view, proper_ask, proper_repl, writes_again}
use Rattle.node_steps.proofs.tick.transactions.send_again.Goals.{in-None, in-Some+in_ok-message-in-Some}
use Rattle.node_steps.proofs.tick.transactions.send_again.Goals as goal

pub send_to_each-requires : goal.send_to_each-requires
send_to_each-requires c =
    let v = c.args.view.now in
    let x = c.args.txn.now in
    let o : Option rules.Transaction = rules.transaction v.transactions x.id in
    elim c.match-written.branch [
      | in-None w ↦ subst IsProper (sym (w.message-is ∙ w.ask-message.ensures)) (proper_ask o x (viewed_key v) c.requires.open_one c.requires.spelled c.requires.same c.requires.key)
      | in-Some+in_ok-message-in-Some w ↦
          subst IsProper (sym (w.message-is ∙ w.in_ok-message-in-Some.ensures)) (proper_repl o x w.in-Some.write.now (viewed_key v) w.in-Some.ensures c.requires.spelled c.requires.same c.requires.key)
    ]

pub returns : goal.returns
returns c = λ f h t found.
    let v = c.args.view.now in
    let x = c.args.txn.now in
    let out = c.args.out.now in
    let to = c.as_slice.result.now in
    let m = c.match-written.message in
    let here : rules.transaction v.transactions x.id ≡ Some t = found_in_view f v x.id t h found in
    let kept = c.requires.same t here in
    let due : to_each to m ≡ sends_again f t t.applied = elim c.match-written.branch [
      | in-None w ↦
          ap₂ (λ (ns : List ℕ) (y : Message). to_each ns y) c.as_slice.ensures.same (w.message-is ∙ w.ask-message.ensures)
          ∙ asks_again f v t x h kept (w.in-None.ensures ∙ ap (λ (o : Option rules.Transaction). option_and_then (λ (u : rules.Transaction). u.applied) o) here)
      | in-Some+in_ok-message-in-Some w ↦
          ap₂ (λ (ns : List ℕ) (y : Message). to_each ns y) c.as_slice.ensures.same (w.message-is ∙ w.in_ok-message-in-Some.ensures)
          ∙ writes_again f v t x w.in-Some.write.now h kept (w.in-Some.ensures ∙ ap (λ (o : Option rules.Transaction). option_and_then (λ (u : rules.Transaction). u.applied) o) here)
    ] in
    on_ok_then c.send_to_each.result
    (c.send_to_each.new.self ≡ with_sends out (map (λ n. (n, spelling m)) to))
    (c.send_to_each.new.self ≡ then_effects out (sends_only (sends_again f t t.applied)))
    c.send_to_each.ensures
    (λ e. e ∙ told_each out to m ∙ ap (λ (ms : List (ℕ × Message)). then_effects out (sends_only ms)) due)

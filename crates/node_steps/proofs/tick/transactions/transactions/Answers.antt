use Rattle.std.proofs.Common.{◌≡◌, ◌<◌, ◌==◌, ◌∷◌, ℕ, List, All, AllPairs, map, refl, sym, ap, subst, ◌∙◌}
use Rattle.std.specs.Prelude.{IsSome}
use Rattle.std.specs.Option.{ForSome}
use Rattle.std.proofs.lemmas.List.Elements.{All-head, All-tail}
use Rattle.dup_resolve.specs.declared.txn.Txn.{Txn}
use Rattle.wire_messages.specs.declared.message.Message.{Message}
use Rattle.wire_messages.specs.Keys.{IsKeyField}
use Rattle.node_rules.specs.Effects.{sends_only}
use Rattle.node_rules.specs.Exchange as exchange
use Rattle.node_rules.specs.Exchange.{Exchange}
use Rattle.node_rules.specs.Facts.{Facts}
use Rattle.node_rules.specs.Transactions as rules
use Rattle.node_view.specs.Transactions.{kept_of}
use Rattle.node_view.specs.Views.{IsViewOf}
use Rattle.node_steps.specs.Ranges.{HasRanges, HasSpelling}
use Rattle.node_steps.specs.Spelled.{then_effects}
use Rattle.node_steps.specs.Viewing.{IsAsKept}
use Rattle.node_steps.proofs.AgainLaws.{IsFound, all_found, first_told, found_has, key_in_view, sends_for, sent_again}
use Rattle.node_steps.proofs.SpelledLaws.{told_nothing}
use Rattle.node_steps.proofs.ViewLaws.{exchange_is, transactions_are}
use Rattle.node_steps.proofs.tick.transactions.transactions.Goals as goal

pub loop-txn-init : goal.loop-txn-init
loop-txn-init c =
    let f : Facts = c.args.f.now in
    let v = c.in-Some.view.now in
    let own : IsViewOf f v = subst (λ (g : Facts). IsViewOf g v) c.f.view_is (c.f.invariant.view c.in-Some.view c.in-Some.is) in
    let kept : c.txns-txns.result.now.running ≡ map kept_of f.transactions.running = c.txns-txns.ensures.running ∙ ap (λ (ts : rules.Transactions). map kept_of ts.running) (transactions_are f v own.viewed) in
    let rise : AllPairs (λ x y. x.id < y.id) (map kept_of f.transactions.running) = subst (λ (xs : List Txn). AllPairs (λ x y. x.id < y.id) xs) kept c.opened.ensures.numbers.rising in
    let left : c.into_iter-txn-iterator.result ≡ map kept_of f.transactions.running = c.into_iter-txn-iterator.ensures.into_iter_gives ∙ c.iter-txn-items.ensures ∙ kept in
    (refl, subst (λ (xs : List Txn). All (IsFound f) xs) (sym left) (all_found f rise))

pub send_again-requires-clause-key : goal.send_again-requires-clause-key
send_again-requires-clause-key c =
    let f : Facts = c.args.f.now in
    let v = c.in-Some.view.now in
    let own : IsViewOf f v = subst (λ (g : Facts). IsViewOf g v) c.f.view_is (c.f.invariant.view c.in-Some.view c.in-Some.is) in
    let ranges : HasRanges f = subst HasRanges c.f.view_is c.f.invariant.ranges in
    let same : v.exchange ≡ f.exchange = exchange_is f v own.viewed in
    subst (λ (x : Exchange). IsKeyField (exchange.exchange_key x.view)) (sym same)
    (key_in_view f.exchange.view (subst (λ (x : Exchange). IsSome x.view) same (c.f.invariant.in_one c.in-Some.view c.in-Some.is)) ranges.view)

pub send_again-requires-clause-open_one : goal.send_again-requires-clause-open_one
send_again-requires-clause-open_one c =
    let f : Facts = c.args.f.now in
    let v = c.in-Some.view.now in
    let x : Txn = c.in-Some-txn.txn.now in
    let own : IsViewOf f v = subst (λ (g : Facts). IsViewOf g v) c.f.view_is (c.f.invariant.view c.in-Some.view c.in-Some.is) in
    let found : IsFound f x = All-head (IsFound f) x c.next.new.self (subst (λ (xs : List Txn). All (IsFound f) xs) c.in-Some-txn.ensures.steps c.loop-txn.invariant.1) in
    subst (λ (ts : rules.Transactions). IsSome (rules.transaction ts x.id)) (sym (transactions_are f v own.viewed)) found.open_one

pub send_again-requires-clause-spelled : goal.send_again-requires-clause-spelled
send_again-requires-clause-spelled c =
    let f : Facts = c.args.f.now in
    let v = c.in-Some.view.now in
    let x : Txn = c.in-Some-txn.txn.now in
    let own : IsViewOf f v = subst (λ (g : Facts). IsViewOf g v) c.f.view_is (c.f.invariant.view c.in-Some.view c.in-Some.is) in
    let ranges : HasRanges f = subst HasRanges c.f.view_is c.f.invariant.ranges in
    subst (λ (ts : rules.Transactions). ForSome (rules.transaction ts x.id) HasSpelling) (sym (transactions_are f v own.viewed))
    (found_has HasSpelling (λ t. t.number == x.id) f.transactions.running ranges.transactions)

pub send_again-requires-clause-same : goal.send_again-requires-clause-same
send_again-requires-clause-same c =
    let f : Facts = c.args.f.now in
    let v = c.in-Some.view.now in
    let x : Txn = c.in-Some-txn.txn.now in
    let own : IsViewOf f v = subst (λ (g : Facts). IsViewOf g v) c.f.view_is (c.f.invariant.view c.in-Some.view c.in-Some.is) in
    let found : IsFound f x = All-head (IsFound f) x c.next.new.self (subst (λ (xs : List Txn). All (IsFound f) xs) c.in-Some-txn.ensures.steps c.loop-txn.invariant.1) in
    subst (λ (ts : rules.Transactions). ForSome (rules.transaction ts x.id) (IsAsKept x)) (sym (transactions_are f v own.viewed)) found.same

pub loop-txn-preserved : goal.loop-txn-preserved
loop-txn-preserved c =
    let f : Facts = c.args.f.now in
    let v = c.in-Some.view.now in
    let x : Txn = c.in-Some-txn.txn.now in
    let steps : c.loop-txn.txn-iterator ≡ x ∷ c.next.new.self = c.in-Some-txn.ensures.steps in
    let own : IsViewOf f v = subst (λ (g : Facts). IsViewOf g v) c.f.view_is (c.f.invariant.view c.in-Some.view c.in-Some.is) in
    let before : All (IsFound f) (x ∷ c.next.new.self) = subst (λ (xs : List Txn). All (IsFound f) xs) steps c.loop-txn.invariant.1 in
    let found : IsFound f x = All-head (IsFound f) x c.next.new.self before in (
      first_told f c.loop-txn.out c.send_again.new.out x c.next.new.self found.open_one (c.in_ok-send_again.ensures f own.viewed)
          ∙ ap (λ (xs : List Txn). then_effects c.loop-txn.out (sends_only (sends_for f xs))) (sym steps) ∙ c.loop-txn.invariant.0,
      All-tail (IsFound f) x c.next.new.self before,
    )

pub returns : goal.returns
returns c =
    let f : Facts = c.args.f.now in
    let v = c.in-Some.view.now in
    let own : IsViewOf f v = subst (λ (g : Facts). IsViewOf g v) c.f.view_is (c.f.invariant.view c.in-Some.view c.in-Some.is) in
    let kept : c.txns-txns.result.now.running ≡ map kept_of f.transactions.running = c.txns-txns.ensures.running ∙ ap (λ (ts : rules.Transactions). map kept_of ts.running) (transactions_are f v own.viewed) in
    let rise : AllPairs (λ x y. x.id < y.id) (map kept_of f.transactions.running) = subst (λ (xs : List Txn). AllPairs (λ x y. x.id < y.id) xs) kept c.opened.ensures.numbers.rising in
    let left : c.into_iter-txn-iterator.result ≡ map kept_of f.transactions.running = c.into_iter-txn-iterator.ensures.into_iter_gives ∙ c.iter-txn-items.ensures ∙ kept in
    sym (told_nothing c.loop-txn.out)
    ∙ ap (λ (xs : List Txn). then_effects c.loop-txn.out (sends_only (sends_for f xs))) (sym c.in-None.ensures.steps.0)
    ∙ c.loop-txn.invariant.0
    ∙ ap (λ (xs : List Txn). then_effects c.args.out.now (sends_only (sends_for f xs))) left
    ∙ ap (λ (ms : List (ℕ × Message)). then_effects c.args.out.now (sends_only ms)) (sent_again f rise)

use Rattle.std.proofs.Common.{◌≡◌, ℕ, true, false, List, [], ap, ap₂, sym, subst, filter, map, ◌∙◌}
use Rattle.wire_messages.specs.declared.message.Message.{Message}
use Rattle.wire_messages.specs.Proper.{IsProper}
use Rattle.wire_messages.specs.Spelling.{spelling}
use Rattle.node_rules.specs.Effects.{sends_only, to_each}
use Rattle.node_rules.specs.Facts.{Facts}
use Rattle.node_rules.specs.Map.{lacks}
use Rattle.node_rules.specs.Standing.{others}
use Rattle.node_rules.specs.Tick as tick
use Rattle.node_view.specs.Views.{IsViewOf}
use Rattle.node_steps.specs.Ranges.{HasRanges}
use Rattle.node_steps.specs.Spelled.{then_effects, with_sends}
use Rattle.node_steps.proofs.SpelledLaws.{on_ok_then, told_each, told_nothing}
use Rattle.node_steps.proofs.ViewLaws.{key_field_of, lacking_same, own_row_field, state_same}
use Rattle.node_steps.proofs.tick.rows.rows.Goals as goal

pub returns-then-is_empty : goal.returns-then-is_empty
returns-then-is_empty c =
    let f : Facts = c.args.f.now in
    let own : IsViewOf f c.in-Some.view.now = subst (λ (g : Facts). IsViewOf g c.in-Some.view.now) c.f.view_is (c.f.invariant.view c.in-Some.view c.in-Some.is) in
    let none : filter (lacks f.exchange.rows) (others f) ≡ [] =
    sym (lacking_same f c.in-Some.view.now own.viewed) ∙ sym c.lacking-lacking.ensures ∙ c.is_empty.ensures.0 c.if-is_empty.true in
    sym (told_nothing c.args.out.now) ∙ ap (λ (ns : List ℕ). then_effects c.args.out.now (sends_only (to_each ns (tick.state f true)))) (sym none)

pub send_to_each-requires : goal.send_to_each-requires
send_to_each-requires c =
    let f : Facts = c.args.f.now in
    let own : IsViewOf f c.in-Some.view.now = subst (λ (g : Facts). IsViewOf g c.in-Some.view.now) c.f.view_is (c.f.invariant.view c.in-Some.view c.in-Some.is) in
    let ranges : HasRanges f = subst HasRanges c.f.view_is c.f.invariant.ranges in
    let same : c.lacking-lacking.result ≡ filter (lacks f.exchange.rows) (others f) = c.lacking-lacking.ensures ∙ lacking_same f c.in-Some.view.now own.viewed in
    let key = key_field_of f.exchange.view f.me f.exchange.rows (λ none. let wrong : false ≡ true = sym c.if-is_empty.false ∙ c.is_empty.ensures.1 (same ∙ none) in cc) ranges.view in
    subst IsProper (sym (c.in_ok-state.ensures ∙ state_same f c.in-Some.view.now own.viewed)) (key, own_row_field f.exchange.rows f.me ranges.rows)

pub returns : goal.returns
returns c =
    let f : Facts = c.args.f.now in
    let own : IsViewOf f c.in-Some.view.now = subst (λ (g : Facts). IsViewOf g c.in-Some.view.now) c.f.view_is (c.f.invariant.view c.in-Some.view c.in-Some.is) in
    let to = c.as_slice.result.now in
    let m = c.in_ok-state.state in
    let same : to ≡ filter (lacks f.exchange.rows) (others f) = c.as_slice.ensures.same ∙ c.lacking-lacking.ensures ∙ lacking_same f c.in-Some.view.now own.viewed in
    on_ok_then c.send_to_each.result
    (c.send_to_each.new.self ≡ with_sends c.args.out.now (map (λ n. (n, spelling m)) to))
    (c.send_to_each.new.self ≡ then_effects c.args.out.now (tick.rows f))
    c.send_to_each.ensures
    (λ e.
    e ∙ told_each c.args.out.now to m
    ∙ ap₂ (λ (ns : List ℕ) (x : Message). then_effects c.args.out.now (sends_only (to_each ns x))) same (c.in_ok-state.ensures ∙ state_same f c.in-Some.view.now own.viewed))

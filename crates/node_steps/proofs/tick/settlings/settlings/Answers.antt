use Rattle.std.proofs.Common.{ℕ, List, ap, ap₂, sym, subst, take, ◌∙◌}
use Rattle.std.proofs.lemmas.List.{take_all}
use Rattle.journal_lines.specs.declared.line.Line.{Line}
use Rattle.node_rules.specs.Effects.{lines_only}
use Rattle.node_rules.specs.Exchange as exchange
use Rattle.node_rules.specs.Exchange.{Exchange}
use Rattle.node_rules.specs.Facts.{Facts}
use Rattle.node_rules.specs.Here.{HasRows}
use Rattle.node_view.specs.declared.here.Settling.{Settling}
use Rattle.node_view.specs.Settlings.{lines_of_settling, settling_lines}
use Rattle.node_view.specs.Views.{viewed_key}
use Rattle.node_steps.specs.declared.effects.Effects.{Effects}
use Rattle.node_steps.specs.Spelled.{then_effects}
use Rattle.node_steps.proofs.SettledLaws.{lines_more}
use Rattle.node_steps.proofs.SpelledLaws.{told_twice}
use Rattle.node_steps.proofs.ViewLaws.{exchange_is}
use Rattle.node_steps.proofs.tick.settlings.settlings.Goals as goal

pub loop-settling-preserved : goal.loop-settling-preserved
loop-settling-preserved c =
    let v = c.in-Some.view.now in
    let ss = c.deref-settling-items.result.now in
    let s = c.settling-item.result in
    let out : Effects = c.args.out.now in
    let i : ℕ = c.loop-settling.settling-index in
    c.in_ok-write_lines.ensures
    ∙ ap (λ (told : Effects). then_effects told (lines_only (lines_of_settling v.me (viewed_key v) s))) c.loop-settling.invariant
    ∙ told_twice out (lines_only (settling_lines v.me (viewed_key v) (take i ss))) (lines_only (lines_of_settling v.me (viewed_key v) s))
    ∙ ap (λ (ls : List Line). then_effects out (lines_only ls)) (sym (lines_more v.me (viewed_key v) ss i s c.loop-settling-test.true c.settling-item.is))

pub returns-clause-lines : goal.returns-clause-lines
returns-clause-lines c =
    let f : Facts = c.args.f.now in
    let v = c.in-Some.view.now in
    let ss : List Settling = c.in_ok-settlings.settlings.items in
    let rows : HasRows f = subst HasRows c.f.view_is c.f.invariant.ranges.bits in
    let whole = take_all c.loop-settling.settling-index c.deref-settling-items.result.now c.loop-settling-test.false in
    c.loop-settling.invariant
    ∙ ap (λ (ls : List Line). then_effects c.args.out.now (lines_only ls))
    (ap (settling_lines v.me (viewed_key v)) (whole ∙ c.deref-settling-items.ensures.value)
    ∙ ap₂ (λ (me : ℕ) (x : Exchange). settling_lines me (exchange.exchange_key x.view) ss) (sym c.in-Some.ensures.view.viewed.me) (exchange_is f v c.in-Some.ensures.view.viewed)
    ∙ c.in_ok-settlings.ensures.lines f rows c.in-Some.ensures.view (ap (λ (g : Facts). g.store.content) (sym c.f.view_is)))

pub returns-clause-due : goal.returns-clause-due
returns-clause-due c = c.in_ok-settlings.ensures.due c.args.f.now c.in-Some.ensures.view (ap (λ (g : Facts). g.store.content) (sym c.f.view_is))

pub returns-clause-settled : goal.returns-clause-settled
returns-clause-settled c =
    let rows : HasRows c.args.f.now = subst HasRows c.f.view_is c.f.invariant.ranges.bits in
    c.in_ok-settlings.ensures.settled c.args.f.now rows c.in-Some.ensures.view (ap (λ (g : Facts). g.store.content) (sym c.f.view_is))

pub returns-clause-told : goal.returns-clause-told
returns-clause-told c =
    let rows : HasRows c.args.f.now = subst HasRows c.f.view_is c.f.invariant.ranges.bits in
    c.in_ok-settlings.ensures.lines c.args.f.now rows c.in-Some.ensures.view (ap (λ (g : Facts). g.store.content) (sym c.f.view_is))

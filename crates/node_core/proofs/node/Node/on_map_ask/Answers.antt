use Rattle.std.proofs.Common.{sym, subst, ◌∙◌}
use Rattle.std.specs.Option.{ForSome}
use Rattle.wire_messages.specs.Keys.{IsKeyField}
use Rattle.node_rules.specs.Exchange as exchange
use Rattle.node_rules.specs.Steps.{Planning}
use Rattle.node_view.specs.Views.{IsInView, Viewed, viewed_key}
use Rattle.node_steps.specs.Ranges.{HasRanges}
use Rattle.node_core.proofs.NodeLaws.{in_view}
use Rattle.node_steps.proofs.TableLaws.{key_in_view}
use Rattle.node_steps.proofs.ViewLaws.{exchange_is}
use Rattle.node_core.proofs.node.Node.on_map_ask.Goals as goal

pub tell_table-requires : goal.tell_table-requires
tell_table-requires c =
    let own = in_view c.self.inside c.in-Some.view c.self.invariant.0 c.in-Some.is in
    let same = exchange_is _ c.in-Some.view.value own.viewed in
    let some = c.self.invariant.0.in_one c.in-Some.view c.in-Some.is in
    let key : IsKeyField (viewed_key c.in-Some.view.value) =
    key_in_view c.in-Some.view.value.exchange.view some
    (subst (λ (x : exchange.Exchange). ForSome x.view (λ v. IsKeyField v.key)) (sym same) c.self.invariant.0.ranges.view) in
    subst (λ (v : Viewed). IsKeyField (viewed_key v)) (sym c.deref.ensures) key

pub plan-requires-clause-ranges : goal.plan-requires-clause-ranges
plan-requires-clause-ranges c = subst (λ (p : Planning). HasRanges p.now) c.self.view_is c.self.invariant.0.ranges

pub returns-clause-effects : goal.returns-clause-effects
returns-clause-effects c =
    let own = in_view c.self.inside c.in-Some.view c.self.invariant.0 c.in-Some.is in
    let viewed : IsInView c.args.self.now.now c.deref.result.now =
    subst (λ (v : Viewed). IsInView c.args.self.now.now v) (sym c.deref.ensures) (subst (λ (p : Planning). IsInView p.now c.in-Some.view.value) c.self.view_is own.viewed) in
    c.plan-2.ensures.same ∙ c.in_ok-out.ensures c.args.self.now.now viewed

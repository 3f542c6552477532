use Rattle.std.proofs.Common.{rules, ◌<◌, subst, sym, ◌∙◌}
use Rattle.cluster_types.specs.Partitions.{partition_count}
use Rattle.node_view.specs.Views.{facts_seen}
use Rattle.node_view.proofs.SettleLaws.{may_settle_is, seen_inside}
use Rattle.node_view.proofs.view.View.settle.Goals as goal

pub settle-requires : goal.settle-requires
settle-requires c =
    let i = c.self.inside in
    let v = c.args.self.now in
    let p = c.args.p in
    let within : p < partition_count = subst (λ n. n < partition_count) c.number.ensures.same c.number.ensures.range in
    may_settle_is (facts_seen v) i c.in-Some.moving.now.map p c.map-entry.result c.busy_on-busy.result c.self.invariant (seen_inside i v c.self.view_is)
    (sym c.in-Some.ensures.moving.exchange) within c.map-entry.ensures c.busy_on-busy.ensures
    ∙ c.requires.due c.if-not-is_due.false

pub returns-in-Some-clause-view : goal.returns-in-Some-clause-view
returns-in-Some-clause-view c = search rules

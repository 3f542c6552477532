use Rattle.std.proofs.Common.{◌≡◌, ◌<◌, ◌&&◌, ℕ, Bool, List, not, ap, refl, sym, ◌∙◌, arith}
use Rattle.cluster_types.specs.Partitions.{partition_count}
use Rattle.cluster_types.specs.Rows.{bit}
use Rattle.node_view.proofs.SeenLaws.{all_seen_count, all_seen_live, alike_until, new_bit, none_seen, old_bit, seen_more, some_left}
use Rattle.node_view.proofs.view.View.see_settled.Goals as goal

pub loop-p-init : goal.loop-p-init
loop-p-init c = record { seen = none_seen c.args.self.now c.args.before.now c.args.store.now.versions c.requires.counted; low = omega arith }

pub see_settled_at-requires : goal.see_settled_at-requires
see_settled_at-requires c full =
    let v = c.args.self.now in
    let here = c.loop-p.self in
    let before = c.args.before.now in
    let versions = c.args.store.now.versions in
    let p = c.in-Some.p in
    let next = c.in-Some.ensures in
    let i = c.loop-p.invariant in
    let within : p < partition_count = omega (arith, c.number-from.ensures.same, c.number-from.ensures.range) in
    let is : (q : ℕ) → bit c.difference-fresh.result q ≡ (bit v.bits.settled q && not (bit before q)) = λ q. c.difference-fresh.ensures.each q ∙ ap (λ (row : List Bool). bit row q && not (bit before q)) c.settled_row.ensures in
    let seen = alike_until v here before versions c.loop-p.from p i.seen next.above (omega (arith, within))
    (λ q over under. old_bit (bit c.difference-fresh.result q) (bit v.bits.settled q) (bit before q) (is q) (next.none_between q over under) (c.requires.kept q (omega (arith, under, within)))) in
    let new = new_bit (bit c.difference-fresh.result p) (bit v.bits.settled p) (bit before p) (is p) next.set in
    some_left v here before versions p p seen refl within new.1 full

pub loop-p-preserved : goal.loop-p-preserved
loop-p-preserved c =
    let v = c.args.self.now in
    let here = c.loop-p.self in
    let before = c.args.before.now in
    let versions = c.args.store.now.versions in
    let p = c.in-Some.p in
    let next = c.in-Some.ensures in
    let i = c.loop-p.invariant in
    let within : p < partition_count = omega (arith, c.number-from.ensures.same, c.number-from.ensures.range) in
    let is : (q : ℕ) → bit c.difference-fresh.result q ≡ (bit v.bits.settled q && not (bit before q)) = λ q. c.difference-fresh.ensures.each q ∙ ap (λ (row : List Bool). bit row q && not (bit before q)) c.settled_row.ensures in
    let k = c.number-from.result in
    let same : k ≡ p = c.number-from.ensures.same in
    let seen = alike_until v here before versions c.loop-p.from k i.seen (omega (arith, next.above, same)) (omega (arith, within, same))
    (λ q over under. old_bit (bit c.difference-fresh.result q) (bit v.bits.settled q) (bit before q) (is q) (next.none_between q over (omega (arith, under, same))) (c.requires.kept q (omega (arith, under, within, same)))) in
    let new = new_bit (bit c.difference-fresh.result p) (bit v.bits.settled p) (bit before p) (is p) next.set in
    record {
      seen = seen_more v here c.see_settled_at.new.self before versions k p seen (sym same) (omega (arith, within, same)) new.0 new.1 c.see_settled_at.ensures.same c.see_settled_at.ensures.live;
      low = omega (arith, within, same);
    }

pub returns-clause-same : goal.returns-clause-same
returns-clause-same c = c.loop-p.invariant.seen.same

pub returns-clause-count : goal.returns-clause-count
returns-clause-count c =
    let v = c.args.self.now in
    let here = c.loop-p.self in
    let before = c.args.before.now in
    let versions = c.args.store.now.versions in
    let i = c.loop-p.invariant in
    let is : (q : ℕ) → bit c.difference-fresh.result q ≡ (bit v.bits.settled q && not (bit before q)) = λ q. c.difference-fresh.ensures.each q ∙ ap (λ (row : List Bool). bit row q && not (bit before q)) c.settled_row.ensures in
    let seen = alike_until v here before versions c.loop-p.from partition_count i.seen i.low (omega arith)
    (λ q over under. old_bit (bit c.difference-fresh.result q) (bit v.bits.settled q) (bit before q) (is q) (c.in_default.ensures.clear q over) (c.requires.kept q under)) in
    all_seen_count v here before versions partition_count refl seen

pub returns-clause-live : goal.returns-clause-live
returns-clause-live c f h content quiet =
    let v = c.args.self.now in
    let here = c.loop-p.self in
    let before = c.args.before.now in
    let versions = c.args.store.now.versions in
    let i = c.loop-p.invariant in
    let is : (q : ℕ) → bit c.difference-fresh.result q ≡ (bit v.bits.settled q && not (bit before q)) = λ q. c.difference-fresh.ensures.each q ∙ ap (λ (row : List Bool). bit row q && not (bit before q)) c.settled_row.ensures in
    let seen = alike_until v here before versions c.loop-p.from partition_count i.seen i.low (omega arith)
    (λ q over under. old_bit (bit c.difference-fresh.result q) (bit v.bits.settled q) (bit before q) (is q) (c.in_default.ensures.clear q over) (c.requires.kept q under)) in
    all_seen_live v here before versions partition_count f refl seen h content quiet

use Rattle.std.proofs.Common.{◌≡◌, ◌<◌, ℕ, List, Bool, false, refl, sym, ap, ◌∙◌, arith}
use Rattle.cluster_types.specs.Partitions.{partition_count}
use Rattle.cluster_types.specs.Rows.{bit}
use Rattle.node_view.specs.Settlings.{here_of}
use Rattle.node_view.proofs.ByNumberLaws.{below_next, below_until}
use Rattle.node_view.proofs.SettledLaws.{Rests, all_rest, here_moves, here_rests, none_live_rest, one_moves, rests_off}
use Rattle.node_view.proofs.WakeLaws.{finished_in}
use Rattle.node_view.proofs.view.View.is_to_learn_or_drop.Goals as goal

pub returns-then-is_empty : goal.returns-then-is_empty
returns-then-is_empty c f h held =
    let v = c.args.self.now in
    let none : (p : ℕ) → bit v.watch.live p ≡ false = λ p. ap (λ (row : List Bool). bit row p) (sym c.in-Some.ensures.moving.live) ∙ c.is_empty.ensures.0 c.if-is_empty.true p in
    none_live_rest f v.watch.live h.watch.live (finished_in f v h.viewed c.requires) none

pub loop-p-init : goal.loop-p-init
loop-p-init c f h held q within = absurd (omega (arith, within))

pub returns-then-is_to_learn_or_drop : goal.returns-then-is_to_learn_or_drop
returns-then-is_to_learn_or_drop c f h held =
    let p = c.in-Some-next.p in
    let within : p < partition_count = omega (arith, c.number-from.ensures.same, c.number-from.ensures.range) in
    one_moves f p within (here_moves f p (here_of c.here.result) (c.here.ensures f h.viewed held) (sym c.is_to_learn_or_drop.ensures ∙ c.if-is_to_learn_or_drop.true))

pub loop-p-preserved : goal.loop-p-preserved
loop-p-preserved c f h held =
    let v = c.args.self.now in
    let p = c.in-Some-next.p in
    let next = c.in-Some-next.ensures in
    let within : p < partition_count = omega (arith, c.number-from.ensures.same, c.number-from.ensures.range) in
    let finished = finished_in f v h.viewed c.requires in
    let here : Rests f p = here_rests f p (here_of c.here.result) (c.here.ensures f h.viewed held) (sym c.is_to_learn_or_drop.ensures ∙ c.if-is_to_learn_or_drop.false) in
    below_next (Rests f) c.loop-p.from c.number-from.result p c.number-from.ensures.same here (c.loop-p.invariant f h held)
    (λ q over under. rests_off f v.watch.live q h.watch.live (omega (arith, under, within)) finished (ap (λ (row : List Bool). bit row q) (sym c.in-Some.ensures.moving.live) ∙ next.none_between q over under))

pub returns : goal.returns
returns c f h held =
    let v = c.args.self.now in
    let none = c.in_default-next.ensures in
    let finished = finished_in f v h.viewed c.requires in
    all_rest f partition_count refl
    (below_until (Rests f) c.loop-p.from partition_count (c.loop-p.invariant f h held)
    (λ q over under. rests_off f v.watch.live q h.watch.live under finished (ap (λ (row : List Bool). bit row q) (sym c.in-Some.ensures.moving.live) ∙ none.clear q over)))

use Rattle.std.proofs.Common.{◌≡◌, ◌+◌, ℕ, true, false, sym, ◌∙◌, arith}
use Rattle.cluster_types.specs.Rows.{bit}
use Rattle.node_view.specs.Views.{is_known_empty}
use Rattle.node_view.proofs.ByNumberLaws.{below_next, below_until}
use Rattle.node_view.proofs.view.View.are_all_empty.Goals as goal

pub loop-p-init : goal.loop-p-init
loop-p-init c q within = absurd (omega (arith, within))

pub returns-then-not-is_all_empty-clause-one : goal.returns-then-not-is_all_empty-clause-one
returns-then-not-is_all_empty-clause-one c off =
    (c.in-Some.p, omega (arith, c.number-from.ensures.same, c.number-from.ensures.range), c.in-Some.ensures.set, sym c.is_all_empty.ensures ∙ c.if-not-is_all_empty.true)

pub loop-p-preserved : goal.loop-p-preserved
loop-p-preserved c =
    let v = c.args.self.now in
    let row = c.args.partitions.now in
    let p = c.in-Some.p in
    let next = c.in-Some.ensures in
    below_next (λ (q : ℕ). bit row q ≡ true → is_known_empty v q ≡ true) c.loop-p.from c.number-from.result p c.number-from.ensures.same (λ set. sym c.is_all_empty.ensures ∙ c.if-not-is_all_empty.false)
    c.loop-p.invariant (λ q over under set. let wrong : true ≡ false = sym set ∙ next.none_between q over under in absurd (let w : true ≡ false = wrong in cc))

pub returns-clause-all : goal.returns-clause-all
returns-clause-all c yes_all q set =
    let v = c.args.self.now in
    let row = c.args.partitions.now in
    below_until (λ (k : ℕ). bit row k ≡ true → is_known_empty v k ≡ true) c.loop-p.from (q + 1) c.loop-p.invariant
    (λ k over under is. let wrong : true ≡ false = sym is ∙ c.in_default.ensures.clear k over in absurd (let w : true ≡ false = wrong in cc)) q (omega arith) set

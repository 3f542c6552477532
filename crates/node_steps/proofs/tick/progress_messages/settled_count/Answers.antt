use Rattle.std.proofs.Common.{◌≡◌, ◌<◌, ◌+◌, ℕ, All, get_or, take, sym, ap, subst, ◌∙◌, arith}
use Rattle.std.proofs.lemmas.List.Elements.{All-more}
use Rattle.std.proofs.lemmas.List.Sums.{count_by_more_no, count_by_more_yes}
use Rattle.cluster_types.specs.Partitions.{partition_count}
use Rattle.node_view.specs.declared.here.Settling.{Settling}
use Rattle.node_steps.proofs.tick.progress_messages.settled_count.Goals.{then-settling, else-settling}
use Rattle.node_steps.proofs.tick.progress_messages.settled_count.Goals as goal

pub loop-settling-preserved : goal.loop-settling-preserved
loop-settling-preserved c =
    let ss = c.args.settlings.now in
    let i = c.loop-settling.settling-index in
    let s = c.settling-item.result in
    let inside = c.loop-settling-test.true in
    let before = c.loop-settling.invariant in
    let is : get_or ss i s ≡ s = sym c.settling-item.is in
    let within : All (λ t. t.partition < partition_count) (take (i + 1) ss) =
    All-more (λ (t : Settling). t.partition < partition_count) ss i s inside before.2 (subst (λ (t : Settling). t.partition < partition_count) c.settling-item.is (rw (← c.number.ensures.same) c.number.ensures.range)) in
    elim c.if-settling.branch [
      | then-settling w ↦ (w.count-is ∙ ap (λ (k : ℕ). k + 1) before.0 ∙ sym (count_by_more_yes (λ (t : Settling). t.settles) ss i s inside (ap (λ (t : Settling). t.settles) is ∙ w.if-settling.true)), omega (arith, before.1, w.count-is), within)
      | else-settling w ↦ (w.count-is ∙ before.0 ∙ sym (count_by_more_no (λ (t : Settling). t.settles) ss i s inside (ap (λ (t : Settling). t.settles) is ∙ w.if-settling.false)), omega (arith, before.1, w.count-is), within)
    ]

use Rattle.std.proofs.Common.{◌≡◌, ℕ, sym, subst, ◌∙◌, arith}
use Rattle.cluster_types.specs.Partitions.{partition_count}
use Rattle.node_view.specs.Views.{IsSeenTo}
use Rattle.node_view.proofs.ByNumberLaws.{all_live, in_view_live, live_again, seen_below}
use Rattle.node_view.proofs.WakeLaws.{unfinished}
use Rattle.node_view.proofs.view.View.wake_all.Goals as goal

pub returns-then-not-has_exchanged-clause-live : goal.returns-then-not-has_exchanged-clause-live
returns-then-not-has_exchanged-clause-live c f h held =
    record { quiet = λ p within finished off. absurd (unfinished f c.args.self.now h finished (sym c.if-not-has_exchanged.true ∙ c.has_exchanged.ensures)) }

pub loop-number-preserved : goal.loop-number-preserved
loop-number-preserved c =
    let i = c.loop-number.invariant in
    let before = c.args.self.now in
    let here = c.loop-number.self in
    let after = c.refresh.new.self in
    record {
      same = live_again before here after here.watch.live i.same c.refresh.ensures.same;
      live = λ f h held.
          let seen = c.refresh.ensures.live f (in_view_live f before here here.watch.live i.same h) held in
          seen_below f c.loop-number.number here.watch.live after.watch.live
          (subst (λ (n : ℕ). IsSeenTo n f here.watch.live after.watch.live) c.partition_at.ensures seen)
          (i.live f h held);
    }

pub returns-clause-live : goal.returns-clause-live
returns-clause-live c f h held =
    let whole : c.loop-number.number ≡ partition_count = omega (arith, c.loop-number-test.false, c.loop-number.auto.number-end) in
    all_live f c.loop-number.number c.loop-number.self.watch.live whole (c.loop-number.invariant.live f h held)

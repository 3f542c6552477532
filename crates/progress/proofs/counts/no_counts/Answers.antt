use Rattle.std.proofs.Common.{◌≡◌, ℕ, replicate, ap, ◌∙◌, arith}
use Rattle.cluster_types.specs.Partitions.{partition_count}
use Rattle.progress.proofs.counts.no_counts.Goals as goal

pub returns : goal.returns
returns c =
    let all : c.loop.counter ≡ partition_count = omega (arith, c.loop-test.false, c.loop.auto.counter-end) in
    c.loop.invariant ∙ ap (λ (n : ℕ). replicate {A = ℕ} n 0) all

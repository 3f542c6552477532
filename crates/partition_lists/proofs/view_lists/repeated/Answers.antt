use Rattle.std.proofs.Common.{rules, ◌≡◌, replicate, ap, ◌∙◌, arith}
use Rattle.cluster_types.specs.Partitions.{partition_count}
use Rattle.partition_lists.proofs.view_lists.repeated.Goals as goal

pub returns : goal.returns
returns c = c.loop.invariant ∙ ap (λ k. replicate k c.args.only) (let all : c.loop.counter ≡ partition_count = omega arith in all)

pub loop-init : goal.loop-init
loop-init c = search rules

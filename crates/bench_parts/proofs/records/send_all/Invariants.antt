use Rattle.std.proofs.Common.{◌<◌, ◌^◌, ◌-◌}
use Rattle.std.specs.Prelude.{IfSome}
use Rattle.node_rules.specs.Batches.{target}
use Rattle.emigrate.specs.Going.{AreHeld}
use Rattle.bench_parts.proofs.records.send_all.Given as goal

abbrev pub invariant-loop-batch : goal.invariant-loop-batch
invariant-loop-batch l = record {
  held : AreHeld l.store.versions l.going.targets;
  limit : IfSome (target l.going.targets l.to) (λ t. t.batches < 2 ^ 32 - 1);
}

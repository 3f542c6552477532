use Rattle.std.proofs.Common.{refl}
use Rattle.node_rules.proofs.Two.{reads, writes, merges}
use Rattle.node_rules.proofs.laws.request_waits_for_other_classes.Goals as goal

pub returns : goal.returns
returns c = record { asks = refl; reads = reads; writes = writes; merges = merges }

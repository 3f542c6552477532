use Rattle.node_rules.proofs.Forms.{settled_by, rest_by, done_by, moved_by, stamps_by}
use Rattle.node_rules.proofs.laws.many_partitions_are_tested_one_by_one.Goals as goal

pub returns : goal.returns
returns c = record { settled = settled_by; rest = rest_by; done = done_by; moved = moved_by; stamps = stamps_by }

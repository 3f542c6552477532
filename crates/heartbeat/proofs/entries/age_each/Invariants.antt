use Rattle.std.proofs.Common.{◌≡◌}
use Rattle.heartbeat.proofs.EntryLaws.{older_till}
use Rattle.heartbeat.proofs.entries.age_each.Given as goal

abbrev pub invariant-loop-i : goal.invariant-loop-i
invariant-loop-i l = l.entries ≡ older_till l.i l.initial.entries

use Rattle.std.proofs.Common.{◌≡◌, ◌+◌, ◌-◌, ◌≤◌, ◌++◌, length, drop}
use Rattle.world.specs.Sent.{posted_lines}
use Rattle.world.proofs.sending.add_sent_lines.Given as goal

abbrev pub invariant-loop-to : goal.invariant-loop-to
invariant-loop-to l = record {
  all : l.lines ++ posted_lines l.fn.from l.message l.in_flight (drop l.count l.sends) ≡ l.fn.lines ++ posted_lines l.fn.from l.fn.before.sent l.fn.before.in_flight l.sends;
  counted : l.message ≡ l.fn.before.sent + l.count;
  within : l.count ≤ length l.sends;
}

abbrev pub decreases-loop-to : goal.decreases-loop-to
decreases-loop-to l = length l.sends - l.count

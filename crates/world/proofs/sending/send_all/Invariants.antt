use Rattle.std.proofs.Common.{◌+◌, ◌<◌, ◌≤◌, ◌^◌, length}
use Rattle.net_script.specs.Network.{IsSameNetwork}
use Rattle.world.specs.Sent.{all_posted_in}
use Rattle.world.proofs.sending.send_all.Given as goal

abbrev pub invariant-loop-to : goal.invariant-loop-to
invariant-loop-to l = record {
  all : IsSameNetwork (all_posted_in l.fn.net l.fn.from l.fn.sends) (all_posted_in l.net l.fn.from l.left);
  sent : l.net.sent + length l.left < 2 ^ 64;
  room : length l.left ≤ l.net.spare;
}

abbrev pub decreases-loop-to : goal.decreases-loop-to
decreases-loop-to l = length l.left

use Rattle.std.proofs.Common.{◌≡◌, length}
use Rattle.proxy_path.specs.Room.{HasRoomFor}
use Rattle.node_requests.specs.Changes.{CanMakeAll, all_changed, kept}
use Rattle.node_requests.proofs.change.make_all.Given as goal

abbrev pub invariant-loop-change : goal.invariant-loop-change
invariant-loop-change l = record {
  can : CanMakeAll (kept l.proxies) l.changes;
  room : HasRoomFor (length l.changes) l.proxies;
  made : all_changed (kept l.proxies) l.changes ≡ all_changed (kept l.initial.proxies) l.initial.changes;
}

abbrev pub decreases-loop-change : goal.decreases-loop-change
decreases-loop-change l = length l.changes

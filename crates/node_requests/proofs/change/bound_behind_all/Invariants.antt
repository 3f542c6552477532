use Rattle.std.proofs.Common.{◌≡◌}
use Rattle.std.specs.VecDeque.Iter.{deque_iter_rest}
use Rattle.request_rules.specs.TakenUp.{bound_to}
use Rattle.node_requests.specs.Changes.{bound_behind_all}
use Rattle.node_requests.proofs.change.bound_behind_all.Given as goal

abbrev pub invariant-loop-change : goal.invariant-loop-change
invariant-loop-change l =
    bound_behind_all l.transaction l.bound (deque_iter_rest l.change-iterator)
    ≡ bound_behind_all l.transaction (bound_to l.proxies.taken l.transaction) l.changes

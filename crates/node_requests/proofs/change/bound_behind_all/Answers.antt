use Rattle.std.proofs.Common.{◌≡◌, length, ap, sym, ◌∙◌, arith}
use Rattle.std.specs.VecDeque.Iter.{deque_iter_rest}
use Rattle.node_requests.specs.Changes.{bound_behind_all, kept}
use Rattle.node_requests.proofs.ChangeLaws.{bound_is}
use Rattle.node_requests.proofs.ListLaws.{none_left}
use Rattle.node_requests.proofs.change.bound_behind_all.Goals as goal

pub returns : goal.returns
returns c =
    let empty : length (deque_iter_rest c.loop-change.change-iterator) ≡ 0 = grind (arith, c.in-None.ensures.steps, c.in-None.ensures.goes, c.in-None.is) in
    sym (ap (bound_behind_all c.args.transaction c.loop-change.bound) (none_left (deque_iter_rest c.loop-change.change-iterator) empty))
    ∙ c.loop-change.invariant
    ∙ bound_is c.args.transaction (kept c.args.proxies.now) c.args.changes.now

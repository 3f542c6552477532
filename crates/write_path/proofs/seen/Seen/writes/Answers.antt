use Rattle.std.proofs.Common.{sym, ◌∙◌, arith}
use Rattle.std.specs.VecDeque.{deque_len}
use Rattle.write_path.proofs.NumberLaws.{counts_all, counts_none, first_equal, some_left}
use Rattle.write_path.proofs.seen.Seen.writes.Goals as goal

pub returns-then-is_empty : goal.returns-then-is_empty
returns-then-is_empty c =
    let seen = c.self.inside in
    let none = first_equal (deque_len seen.above) 0 (sym c.is_empty.ensures ∙ c.if-is_empty.true) in
    rw (← c.self.view_is) (sym (counts_all seen.upto seen.above.items (omega (arith, none, seen.above.ok))))

pub returns : goal.returns
returns c =
    let seen = c.self.inside in
    let some = some_left (deque_len seen.above) _ (sym c.is_empty.ensures ∙ c.if-is_empty.false) (omega (arith, seen.above.ok)) in
    rw (← c.self.view_is) (sym (counts_none seen.upto seen.above.items some c.self.invariant))

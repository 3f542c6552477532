use Rattle.std.proofs.Common.{sym, ◌∙◌, arith}
use Rattle.write_path.proofs.NumberLaws.{closing_step, gap_stands, past_rest, rise_rest}
use Rattle.write_path.proofs.seen.close_gap.Goals as goal

pub loop-upto-preserved : goal.loop-upto-preserved
loop-upto-preserved c =
    let at = c.loop-upto in
    let left = c.pop_front.new.self.items in
    let rest = c.pop_front.ensures.rest in
    let first = sym c.has_next.ensures.first ∙ c.loop-upto-test.true in
    record {
      numbers = closing_step at.upto at.above.items left first rest ∙ at.invariant.numbers;
      rising = rise_rest at.above.items left rest at.invariant.rising;
      past = past_rest at.upto at.above.items left first rest at.invariant.rising;
      room = c.pop_front.ensures.capacity ∙ at.invariant.room;
      len = omega (arith, c.pop_front.ensures.len, at.invariant.len);
    }

pub returns-clause-gap : goal.returns-clause-gap
returns-clause-gap c =
    let at = c.loop-upto in
    gap_stands at.upto at.above.items (sym c.has_next.ensures.first ∙ c.loop-upto-test.false) at.invariant.rising at.invariant.past

use Rattle.std.proofs.Common.{sym, ◌∙◌, arith, drop}
use Rattle.digest_ripemd.proofs.Steps.{after_steps-drop, after_steps_done}
use Rattle.digest_ripemd.proofs.rounds.Words.round.Goals as goal

pub loop-i-preserved : goal.loop-i-preserved
loop-i-preserved c =
    let round = c.args.round.now in
    let next = after_steps-drop round.function round.constant c.args.words.now round.order round.rotations c.loop-i.line c.loop-i.i (omega arith) (omega arith) in
    rw c.step-line.ensures (sym next ∙ c.loop-i.invariant)

pub returns : goal.returns
returns c =
    let round = c.args.round.now in
    let done = after_steps_done round.function round.constant c.args.words.now round.order (drop c.loop-i.i round.rotations) c.loop-i.line c.loop-i.i (omega arith) in
    sym done ∙ c.loop-i.invariant

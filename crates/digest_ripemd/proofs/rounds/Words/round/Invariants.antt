use Rattle.std.proofs.Common.{◌≡◌, drop}
use Rattle.digest_ripemd.specs.Lines.{after_steps, after_round}
use Rattle.digest_ripemd.proofs.rounds.Words.round.Given as goal

abbrev pub invariant-loop-i : goal.invariant-loop-i
invariant-loop-i l =
    after_steps l.round.function l.round.constant l.words (drop l.i l.round.order) (drop l.i l.round.rotations) l.line
    ≡ after_round l.words l.round l.fn.self

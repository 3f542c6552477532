use Rattle.std.proofs.Common.{refl}
use Rattle.digest_ripemd.specs.Lines.{round_step}
use Rattle.digest_ripemd.proofs.Steps.{sum_reordered}
use Rattle.digest_ripemd.proofs.rounds.Words.step.Goals as goal

pub returns : goal.returns
unfolding round_step
returns c = rw (
  c.rotate_left.ensures,
  c.rotate_left-2.ensures,
  sum_reordered c.args.self.a c.value-value.result c.args.word c.args.constant,
  c.value-value.ensures,
) refl

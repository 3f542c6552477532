use Rattle.std.proofs.Common.{arith, ◌∙◌}
use Rattle.replay_core.proofs.StreamLaws.{wrote_more, wrote_front}
use Rattle.replay_core.proofs.writing.write_all.Goals as goal

pub loop-at-preserved : goal.loop-at-preserved
loop-at-preserved g c = record {
  in_range = omega (arith, c.in-Took.ensures.fits);
  written = wrote_more _ _ _ _ _ _ _ c.loop-at.invariant.written c.in-Took.ensures.bytes (omega (arith, c.in-Took.ensures.fits));
  told = c.in-Took.ensures.told (λ e. cc) ∙ c.loop-at.invariant.told;
}

pub returns-in-Failed-clause-front : goal.returns-in-Failed-clause-front
returns-in-Failed-clause-front g c = wrote_front _ _ _ _ _ _ (omega (arith, c.loop-at-test.true)) c.loop-at.invariant.written c.in-Failed.ensures.bytes

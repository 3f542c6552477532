use Rattle.std.proofs.Common.{rules, arith}
use Rattle.std.proofs.lemmas.Grind.{put_two}
use Rattle.hex.specs.Hex.{encode_with}
use Rattle.journal_text.proofs.DigitLaws.{encode_on}
use Rattle.journal_text.proofs.digits.DigitsDisplay.fmt.Goals as goal

pub loop-at-init : goal.loop-at-init
unfolding encode_with
loop-at-init g c = search rules

pub loop-at-preserved : goal.loop-at-preserved
loop-at-preserved g c = record {
  in_range = omega (arith, c.min-end.ensures);
  written = λ plain. put_two _ _ _ _ _ _ _ (c.loop-at.invariant.written plain) (search rules) (encode_on _ _ _ (omega (arith, c.min-end.ensures, c.loop-at-test.true)));
}

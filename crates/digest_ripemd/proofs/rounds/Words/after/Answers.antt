use Rattle.std.proofs.Common.{refl}
use Rattle.digest_ripemd.specs.Lines.{after_words}
use Rattle.digest_ripemd.proofs.rounds.Words.after.Goals as goal

pub returns : goal.returns
unfolding after_words
returns c = rw (c.combine.ensures, c.left_line.ensures, c.right_line.ensures) refl

use Rattle.digest_ripemd.proofs.Steps.{sum_of_three}
use Rattle.digest_ripemd.proofs.rounds.Words.combine.Goals as goal

pub returns : goal.returns
returns c = simp sum_of_three

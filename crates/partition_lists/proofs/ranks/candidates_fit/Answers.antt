use Rattle.std.proofs.Common.{All, arith, subst}
use Rattle.std.proofs.lemmas.List.{take_all}
use Rattle.partition_lists.specs.RankKeys.{CandidateFits}
use Rattle.partition_lists.proofs.ItemLaws.{one_more_fits}
use Rattle.partition_lists.proofs.ranks.candidates_fit.Goals as goal

pub loop-candidate-preserved : goal.loop-candidate-preserved
loop-candidate-preserved c =
    one_more_fits CandidateFits c.args.candidates.now c.loop-candidate.candidate-index c.candidate-item.result c.loop-candidate-test.true c.candidate-item.is c.loop-candidate.invariant
    c.candidate_fits.ensures

pub returns : goal.returns
returns c =
    subst (All CandidateFits) (take_all c.loop-candidate.candidate-index c.args.candidates.now (omega (arith, c.loop-candidate-test.false))) c.loop-candidate.invariant

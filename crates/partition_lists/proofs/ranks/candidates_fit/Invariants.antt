use Rattle.std.proofs.Common.{All, take}
use Rattle.partition_lists.specs.RankKeys.{CandidateFits}
use Rattle.partition_lists.proofs.ranks.candidates_fit.Given as goal

-- the candidates so far fit
abbrev pub invariant-loop-candidate : goal.invariant-loop-candidate
invariant-loop-candidate l = All CandidateFits (take l.candidate-index l.candidates)

use Rattle.std.proofs.Common.{◌∙◌, sym}
use Rattle.clustering.proofs.StageLaws.{answer_anew, ticking_anew}
use Rattle.clustering.proofs.agree.propose_if.Goals as goal

pub returns-in-Some-clause-agree : goal.returns-in-Some-clause-agree
returns-in-Some-clause-agree c =
    c.propose.ensures.agree
    ∙ rw (c.promising.ensures, c.in-Some.ensures.round.1, c.if-candidate.true) (sym (ticking_anew c.args.keys.now c.args.set.now c.in-Some.ensures.round.0))

pub returns-in-Some-clause-answer : goal.returns-in-Some-clause-answer
returns-in-Some-clause-answer c =
    c.propose.ensures.answer
    ∙ rw (c.promising.ensures, c.in-Some.ensures.round.1, c.if-candidate.true) (sym (answer_anew c.args.keys.now c.args.set.now c.in-Some.ensures.round.0))

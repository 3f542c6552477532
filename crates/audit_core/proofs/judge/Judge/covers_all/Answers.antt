use Rattle.std.proofs.Common.{sym, ◌∙◌}
use Rattle.audit_core.proofs.CoverageLaws.{touched_told}
use Rattle.audit_core.proofs.judge.Judge.covers_all.Goals as goal

pub returns-in-None : goal.returns-in-None
returns-in-None c = λ h covers within. touched_told c.args.self.now c.args.now c.args.node c.args.member c.args.of c.args.p c.covers_touched.result h c.covers_touched.ensures

pub returns-in-Some : goal.returns-in-Some
returns-in-Some c = λ h covers within. c.covers_since.ensures h (covers c.args.node c.args.member c.args.p c.in-Some.cover c.cover.ensures.ranges (sym c.cover.ensures.cover ∙ c.in-Some.is)) within

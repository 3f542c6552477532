use Rattle.std.proofs.Common.{◌≡◌, true, false, arith}
use Rattle.audit_core.proofs.CoverageLaws.{covers_learn, covers_not}
use Rattle.audit_core.proofs.judge.Judge.covers.Goals as goal

pub returns-then-not-covers_all-clause-covers : goal.returns-then-not-covers_all-clause-covers
returns-then-not-covers_all-clause-covers c =
    let off : c.covers_all.result ≡ false = grind (arith, c.if-not-covers_all.true) in
    covers_not c.args.self.now c.args.now c.args.node c.args.member c.args.of c.args.p c.covers_all.result c.covers_all.ensures off

pub returns-clause-covers : goal.returns-clause-covers
returns-clause-covers c =
    let on : c.covers_all.result ≡ true = grind (arith, c.if-not-covers_all.false) in
    covers_learn c.args.self.now c.note_cover.new.self c.args.now c.args.node c.args.member c.args.of c.args.p c.covers_all.result c.note_cover.ensures.ranges c.in_ok-note_cover.ensures.keeps c.in_ok-note_cover.ensures.notes c.covers_all.ensures on

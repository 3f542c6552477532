use Rattle.std.proofs.Common.{◌≡◌, true, false, sym, ◌∙◌, arith}
use Rattle.std.specs.Prelude.{take}
use Rattle.journal_readings.specs.Shape.{is_header}
use Rattle.audit_laws.specs.Fits.{FitsShape}
use Rattle.audit_core.proofs.EventLaws.{fits_so, breaks_shape, begun_sees}
use Rattle.audit_core.proofs.HeaderLaws.{header_more, header_fits}
use Rattle.audit_core.proofs.PassLaws.{comes_here}
use Rattle.audit_core.proofs.judge.Judge.judge.Goals as goal

pub returns-then-not-keeps_shape-clause-breaks : goal.returns-then-not-keeps_shape-clause-breaks
returns-then-not-keeps_shape-clause-breaks c =
    let unkept : c.keeps_shape.result ≡ false = grind (arith, c.if-not-keeps_shape.true) in
    breaks_shape c.args.self.now c.args.line c.args.self.now.lines.now c.args.l.now c.requires.sees (sym c.keeps_shape.ensures.value ∙ unkept)

pub returns-then-is_header-clause-fits : goal.returns-then-is_header-clause-fits
returns-then-is_header-clause-fits c =
    let kept : c.keeps_shape.result ≡ true = grind (arith, c.if-not-keeps_shape.false) in
    let header : is_header c.args.l.now ≡ true = sym c.is_header.ensures ∙ c.if-is_header.true in
    header_fits (take c.args.line c.args.self.now.lines.now) c.args.l.now header
    (fits_so c.args.self.now c.args.line c.args.self.now.lines.now c.args.l.now c.requires.sees (λ e. c.keeps_shape.ensures.falling kept) (sym c.keeps_shape.ensures.value ∙ kept))

pub returns-then-is_header-clause-sees : goal.returns-then-is_header-clause-sees
returns-then-is_header-clause-sees c =
    let kept : c.keeps_shape.result ≡ true = grind (arith, c.if-not-keeps_shape.false) in
    let header : is_header c.args.l.now ≡ true = sym c.is_header.ensures ∙ c.if-is_header.true in
    let fits : FitsShape (take c.args.line c.args.self.now.lines.now) c.args.l.now =
    fits_so c.args.self.now c.args.line c.args.self.now.lines.now c.args.l.now c.requires.sees (λ e. c.keeps_shape.ensures.falling kept) (sym c.keeps_shape.ensures.value ∙ kept) in
    header_more c.args.self.now c.read_header.new.self c.args.line c.args.self.now.lines.now c.args.l.now c.requires.stands header fits.header c.in_ok-read_header.ensures c.requires.sees

pub judge_event-requires-clause-comes : goal.judge_event-requires-clause-comes
judge_event-requires-clause-comes c =
    let kept : c.keeps_shape.result ≡ true = grind (arith, c.if-not-keeps_shape.false) in
    let fits : FitsShape (take c.args.line c.args.self.now.lines.now) c.args.l.now =
    fits_so c.args.self.now c.args.line c.args.self.now.lines.now c.args.l.now c.requires.sees (λ e. c.keeps_shape.ensures.falling kept) (sym c.keeps_shape.ensures.value ∙ kept) in
    comes_here c.args.self.now c.args.line c.args.l.now c.requires.sees c.requires.lawful c.requires.stands fits (sym c.is_header.ensures ∙ c.if-is_header.false)

pub returns-clause-lines : goal.returns-clause-lines
returns-clause-lines c = c.in_ok-judge_event.ensures.ok.lines

pub returns-clause-fits : goal.returns-clause-fits
returns-clause-fits c = c.in_ok-judge_event.ensures.ok.fits

pub returns-clause-sees : goal.returns-clause-sees
returns-clause-sees c =
    let other : is_header c.args.l.now ≡ false = sym c.is_header.ensures ∙ c.if-is_header.false in
    begun_sees c.judge_event.new.self c.args.line c.args.self.now.lines.now c.args.l.now c.requires.stands other c.in_ok-judge_event.ensures.ok.sees

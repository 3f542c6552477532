use Rattle.std.proofs.Common.{◌≡◌, ℕ, length, arith, rules}
use Rattle.std.specs.Prelude.{IsErrOf}
use Rattle.audit_core.specs.declared.lines.TextFault.TheVariants as fault
use Rattle.audit_core.specs.Transcripts.{IsTranscript, IsFirstFault}
use Rattle.audit_core.proofs.Pieces.{taken, ends, goes_on, one_transcript, GoesOn}
use Rattle.audit_core.proofs.lines.lines_of.Goals as goal

pub returns-in_err-rest-clause-taken : goal.returns-in_err-rest-clause-taken
returns-in_err-rest-clause-taken c =
    let at : (n : ℕ) → IsErrOf c.from_residual.result (fault.At n) → IsFirstFault c.args.bytes.now n = search rules in
    taken c.args.bytes.now c.from_residual.result at

pub loop-rest-preserved : goal.loop-rest-preserved
loop-rest-preserved c =
    let on : GoesOn c.args.bytes.now c.read_next.new.journal.lines c.in_ok-rest.rest.now = goes_on _ _ _ _ _ c.in_ok-rest.ensures.ok c.loop-rest.invariant.split c.loop-rest.invariant.proper in
    record { split = on.split; proper = on.proper; within = on.within }

pub returns-clause-only : goal.returns-clause-only
returns-clause-only c =
    let none_left : length c.loop-rest.rest.now ≡ 0 = grind (arith, c.is_empty.ensures, c.loop-rest-test.false) in
    let found : IsTranscript c.args.bytes.now c.loop-rest.journal.lines = record {
      text = ends _ _ _ c.loop-rest.invariant.split none_left;
      proper = c.loop-rest.invariant.proper;
      within = c.loop-rest.invariant.within;
    } in
    λ lines t. one_transcript c.args.bytes.now c.loop-rest.journal.lines lines found t

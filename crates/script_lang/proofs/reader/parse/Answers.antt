use Rattle.std.proofs.Common.{rules, Ok, Err, arith, sym, ap, ◌∙◌}
use Rattle.std.proofs.lemmas.Result.{err_from_is_err_and}
use Rattle.script_lang.specs.Layout.{lines_of}
use Rattle.script_lang.proofs.Kept.{bytes_from_fits, read_is_kept}
use Rattle.script_lang.proofs.Spoken.{begins_on, refused_memory, last_refused_memory}
use Rattle.script_lang.proofs.Whole.{refused, last_refused, one_more, last_read, nothing_left, shorter}
use Rattle.script_lang.proofs.reader.parse.Goals as goal
use Rattle.script_lang.proofs.reader.parse.Goals.{then-not-is_empty+in_ok-read-2, else-not-is_empty}

pub returns-in_err-read-clause-err : goal.returns-in_err-read-clause-err
returns-in_err-read-clause-err c =
    let p = err_from_is_err_and c.from_residual.result c.from_residual.ensures.1 in
    rw (p.1, p.2) (refused c.loop-text.line c.loop-text.reader c.loop-text.rest.now c.in-Some.text.now c.in-Some.behind.now c.without_return.result.now c.in_err-read.field-0.0 _
    c.in-Some.ensures.some c.without_return.ensures c.loop-text.invariant.so_far c.in_err-read.ensures.err)

pub returns-in_err-read-clause-memory : goal.returns-in_err-read-clause-memory
returns-in_err-read-clause-memory c =
    let p = err_from_is_err_and c.from_residual.result c.from_residual.ensures.1 in
    refused_memory c.loop-text.line c.loop-text.reader c.loop-text.rest.now c.in-Some.text.now c.in-Some.behind.now c.without_return.result.now
    (lines_of c.args.bytes.now) c.in_err-read.field-0.0 c.from_residual.result c.in-Some.ensures.some c.without_return.ensures c.loop-text.invariant.begins c.in_err-read.ensures.err
    (p.1 ∙ ap Err p.2)

pub loop-text-preserved : goal.loop-text-preserved
loop-text-preserved c = record {
  so_far = one_more c.loop-text.line c.loop-text.reader c.read.new.self c.loop-text.rest.now c.in-Some.text.now c.in-Some.behind.now c.without_return.result.now _
      c.in-Some.ensures.some c.without_return.ensures c.loop-text.invariant.so_far c.in_ok-read.ensures.ok;
  begins = begins_on c.loop-text.reader c.read.new.self c.loop-text.rest.now c.in-Some.text.now c.in-Some.behind.now c.without_return.result.now (lines_of c.args.bytes.now)
      c.in-Some.ensures.some c.without_return.ensures c.loop-text.invariant.begins c.in_ok-read.ensures.ok;
  short = omega (arith, shorter c.loop-text.rest.now c.in-Some.text.now c.in-Some.behind.now c.in-Some.ensures.some, c.in_ok-read.ensures.short, c.loop-text.invariant.short);
  counted = omega (arith, shorter c.loop-text.rest.now c.in-Some.text.now c.in-Some.behind.now c.in-Some.ensures.some, c.loop-text.invariant.counted);
}

pub returns-in_err-read-2-clause-err : goal.returns-in_err-read-2-clause-err
returns-in_err-read-2-clause-err c =
    let p = err_from_is_err_and c.from_residual-in_err-read-2.result c.from_residual-in_err-read-2.ensures.1 in
    rw (p.1, p.2) (last_refused c.loop-text.line c.loop-text.reader c.loop-text.rest.now c.in_err-read-2.field-0.0 _
    c.in_default.ensures.none c.loop-text.invariant.so_far c.in_err-read-2.ensures.err)

pub returns-in_err-read-2-clause-memory : goal.returns-in_err-read-2-clause-memory
returns-in_err-read-2-clause-memory c =
    let p = err_from_is_err_and c.from_residual-in_err-read-2.result c.from_residual-in_err-read-2.ensures.1 in
    last_refused_memory c.loop-text.line c.loop-text.reader c.loop-text.rest.now (lines_of c.args.bytes.now) c.in_err-read-2.field-0.0
    c.from_residual-in_err-read-2.result c.in_default.ensures.none c.loop-text.invariant.begins c.in_err-read-2.ensures.err (p.1 ∙ ap Err p.2)

pub returns-clause-ok : goal.returns-clause-ok
returns-clause-ok c =
    elim c.if-not-is_empty.branch [
      | then-not-is_empty+in_ok-read-2 w ↦
          last_read c.loop-text.line c.loop-text.reader _ c.loop-text.rest.now _ c.in_default.ensures.none c.loop-text.invariant.so_far w.in_ok-read-2.ensures.ok
          ∙ ap Ok (sym (c.finish.ensures ∙ w.reader-is))
      | else-not-is_empty w ↦
          last_read c.loop-text.line c.loop-text.reader c.loop-text.reader c.loop-text.rest.now _ c.in_default.ensures.none c.loop-text.invariant.so_far
          (nothing_left c.loop-text.reader c.loop-text.rest.now (sym c.is_empty.ensures ∙ w.if-not-is_empty.false))
          ∙ ap Ok (sym (c.finish.ensures ∙ w.reader-is))
    ]

pub returns-clause-proper : goal.returns-clause-proper
returns-clause-proper c = (read_is_kept c.args.bytes.now c.finish.result (bytes_from_fits c.args.bytes.now c.type_inv.bytes) (returns-clause-ok c)).proper

pub returns-clause-served : goal.returns-clause-served
returns-clause-served c = (read_is_kept c.args.bytes.now c.finish.result (bytes_from_fits c.args.bytes.now c.type_inv.bytes) (returns-clause-ok c)).served

pub loop-text-init : goal.loop-text-init
loop-text-init c = search rules

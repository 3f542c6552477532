use Rattle.std.proofs.Common.{sym, ◌∙◌}
use Rattle.std.proofs.lemmas.Result.{err_from_is_err_and}
use Rattle.script_lang.proofs.Texts.{BeginsWith, bad_text, no_word, a_word}
use Rattle.script_lang.proofs.lines.line_of.Goals as goal

pub returns-in_default-from_utf8 : goal.returns-in_default-from_utf8
returns-in_default-from_utf8 c =
    let b : BeginsWith c.args.text.now c.in-Some.first c.take_first.new.self =
    record { fields = sym c.of-fields.ensures ∙ c.in-Some.ensures.some; spoken = sym c.is_comment.ensures ∙ c.if-is_comment.false } in
    bad_text c.args.before.now c.args.text.now c.in-Some.first c.take_first.new.self b c.in_default-from_utf8.ensures.cases.0

pub returns-in_err-word : goal.returns-in_err-word
returns-in_err-word c =
    let b : BeginsWith c.args.text.now c.in-Some.first c.take_first.new.self =
    record { fields = sym c.of-fields.ensures ∙ c.in-Some.ensures.some; spoken = sym c.is_comment.ensures ∙ c.if-is_comment.false } in
    let p = err_from_is_err_and c.from_residual.result c.from_residual.ensures.1 in
    rw (p.1, p.2) (no_word c.args.before.now c.args.text.now c.in-Some.first c.take_first.new.self c.in_err-word.field-0.0 b c.in-Ok.ensures.cases.1
    (sym c.in_err-word.was ∙ c.known_word.ensures))

pub returns : goal.returns
returns c =
    let b : BeginsWith c.args.text.now c.in-Some.first c.take_first.new.self =
    record { fields = sym c.of-fields.ensures ∙ c.in-Some.ensures.some; spoken = sym c.is_comment.ensures ∙ c.if-is_comment.false } in
    a_word c.args.before.now c.args.text.now c.in-Some.first c.take_first.new.self c.in_ok-word.word c.line_of_word.result b c.in-Ok.ensures.cases.1
    (sym c.in_ok-word.was ∙ c.known_word.ensures) c.line_of_word.ensures

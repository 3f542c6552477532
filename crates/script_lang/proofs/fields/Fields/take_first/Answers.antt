use Rattle.std.proofs.Common.{sym, ◌∙◌}
use Rattle.script_lang.proofs.Runs.{no_fields, field_taken}
use Rattle.script_lang.proofs.fields.Fields.take_first.Goals as goal

pub returns-in_err-start-clause-none : goal.returns-in_err-start-clause-none
returns-in_err-start-clause-none c =
    let none = sym c.self.view_is ∙ no_fields c.self.inside.rest.now (sym c.start_of_field.ensures ∙ c.in_err-start.was) in
    rw c.from_residual.ensures (none, none)

pub returns-clause-some : goal.returns-clause-some
returns-clause-some c =
    sym c.self.view_is
    ∙ field_taken c.self.inside.rest.now _ _ _ _ _ (sym c.start_of_field.ensures ∙ c.in_ok-start.was)
    c.split_at.ensures.back c.end_of_field.ensures.value c.split_at-2.ensures.front c.split_at-2.ensures.back

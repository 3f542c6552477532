use Rattle.std.proofs.Common.{sym, ap, ◌∙◌, Ok}
use Rattle.std.proofs.lemmas.Result.{err_from_is_err_and}
use Rattle.script_lang.specs.declared.script.Command.TheVariants.{Groups}
use Rattle.script_lang.proofs.Groups.{can_read}
use Rattle.script_lang.proofs.Grouped.{groups_refused, groups_made}
use Rattle.script_lang.proofs.forms.groups.groups.Goals as goal

pub returns-in_err-groups : goal.returns-in_err-groups
returns-in_err-groups c =
    let p = err_from_is_err_and c.from_residual-in_err-groups.result c.from_residual-in_err-groups.ensures.1 in
    rw (p.1, p.2) (groups_refused c.args.before.now _ _ c.args.fields c.in_err-groups.field-0.0 c.in_ok-check_ids.field-0 (sym c.again.ensures ∙ c.in-Some.ensures.some)
    (sym c.in_ok-check_ids.was ∙ c.check_ids.ensures ∙ ap (can_read c.args.before.now) c.again-2.ensures) c.in_err-groups.ensures)

pub returns : goal.returns
returns c =
    groups_made c.args.before.now _ _ c.args.fields c.in_ok-groups.groups c.in_ok-check_ids.field-0 (sym c.again.ensures ∙ c.in-Some.ensures.some)
    (sym c.in_ok-check_ids.was ∙ c.check_ids.ensures ∙ ap (can_read c.args.before.now) c.again-2.ensures) c.in_ok-groups.ensures
    ∙ ap (λ g. Ok (Groups g)) (sym c.in_ok-groups-2.ensures)

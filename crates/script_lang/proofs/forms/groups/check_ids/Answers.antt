use Rattle.std.proofs.Common.{sym, ap, ◌∙◌}
use Rattle.script_lang.proofs.Groups.{can_read, check_id}
use Rattle.script_lang.proofs.forms.groups.check_ids.Goals as goal

pub loop-field-preserved-in_ok-declared_node : goal.loop-field-preserved-in_ok-declared_node
loop-field-preserved-in_ok-declared_node c =
    check_id c.args.before.now (can_read c.args.before.now c.args.fields) c.in-Some.field c.take_first.new.self c.in_ok-declared_node.field-0
    (sym c.is_bar.ensures ∙ c.if-not-is_bar.true) (sym c.in_ok-declared_node.was ∙ c.declared_node.ensures)
    (ap (can_read c.args.before.now) (sym c.in-Some.ensures.some) ∙ c.loop-field.invariant)

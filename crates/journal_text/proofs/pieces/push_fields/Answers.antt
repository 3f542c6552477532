use Rattle.journal_text.proofs.PieceLaws.{front_kept, on_each_fault}
use Rattle.journal_text.proofs.pieces.push_fields.Goals as goal

pub returns-in_err-push_field-clause-refused : goal.returns-in_err-push_field-clause-refused
returns-in_err-push_field-clause-refused c =
    on_each_fault c.from_residual.result
    (front_kept c.args.text.now.items _ c.loop-field.text.items c.push_field.new.text.items c.loop-field.invariant c.in_err-push_field.ensures.refused)

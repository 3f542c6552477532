use Rattle.std.proofs.Common.{◌∙◌, List, [], ◌∷◌, ◌++◌, ap, sym, subst}
use Rattle.std.proofs.lemmas.Result.{on_ok_weaker}
use Rattle.audit_state.specs.declared.copies.RecordChange.{RecordChange}
use Rattle.audit_state.specs.Copies.{StandUpTo}
use Rattle.audit_state.proofs.StoreLaws.{notes, copies_back}
use Rattle.audit_state.proofs.stores.Stores.note.Goals as goal

pub change-requires : goal.change-requires
change-requires c = subst (StandUpTo c.args.line) (sym c.take_copy-copy.ensures.changes) c.requires

pub returns-clause-copies : goal.returns-clause-copies
returns-clause-copies c = on_ok_weaker c.put_copy.result
    (λ back. notes c.args.self.now c.put_copy.new.self c.args.node c.args.p c.change.new.self (copies_back c.args.self.now c.take_copy-copy.new.self c.put_copy.new.self c.args.node c.args.p c.change.new.self c.take_copy-copy.ensures.others back)
    c.args.line c.args.number
    (c.in_ok-change.ensures.held ∙ c.take_copy-copy.ensures.held)
    (c.in_ok-change.ensures.touched ∙ c.take_copy-copy.ensures.touched)
    (c.in_ok-change.ensures.holding ∙ c.take_copy-copy.ensures.holding)
    (c.in_ok-change.ensures.changes ∙ ap (λ (xs : List RecordChange). xs ++ record { line = c.args.line; number = c.args.number } ∷ []) c.take_copy-copy.ensures.changes))
    c.put_copy.ensures.copy

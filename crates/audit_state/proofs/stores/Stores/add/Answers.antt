use Rattle.std.proofs.Common.{◌∙◌, List, [], ◌∷◌, ◌++◌, ap, sym, subst}
use Rattle.std.proofs.lemmas.Result.{on_ok_weaker}
use Rattle.audit_state.specs.declared.copies.RecordChange.{RecordChange}
use Rattle.audit_state.specs.Copies.{StandUpTo, held_since, holding_since}
use Rattle.audit_state.specs.Histories.{AreUpTo}
use Rattle.audit_state.proofs.StoreLaws.{adds, copies_back}
use Rattle.audit_state.proofs.stores.Stores.add.Goals as goal

pub add-requires-clause-holding : goal.add-requires-clause-holding
add-requires-clause-holding c = subst (AreUpTo c.args.line) (sym c.take_copy-copy.ensures.holding) c.requires.holding

pub add-requires-clause-changes : goal.add-requires-clause-changes
add-requires-clause-changes c = subst (StandUpTo c.args.line) (sym c.take_copy-copy.ensures.changes) c.requires.changes

pub returns-clause-copies : goal.returns-clause-copies
returns-clause-copies c = on_ok_weaker c.put_copy.result
    (λ back. adds c.args.self.now c.put_copy.new.self c.args.node c.args.p c.add.new.self (copies_back c.args.self.now c.take_copy-copy.new.self c.put_copy.new.self c.args.node c.args.p c.add.new.self c.take_copy-copy.ensures.others back)
    c.args.line c.args.number c.args.known.now c.args.known.ever
    (c.in_ok-add.ensures.held ∙ ap (held_since c.args.known.now c.args.number) c.take_copy-copy.ensures.held)
    (c.in_ok-add.ensures.touched ∙ ap (held_since c.args.known.ever c.args.number) c.take_copy-copy.ensures.touched)
    (c.in_ok-add.ensures.holding ∙ ap (holding_since c.args.line) c.take_copy-copy.ensures.holding)
    (c.in_ok-add.ensures.changes ∙ ap (λ (xs : List RecordChange). xs ++ record { line = c.args.line; number = c.args.number } ∷ []) c.take_copy-copy.ensures.changes))
    c.put_copy.ensures.copy

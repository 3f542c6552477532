use Rattle.std.proofs.Common.{◌∙◌, List, [], ◌∷◌, ◌++◌, None, ap, sym, subst}
use Rattle.audit_state.specs.declared.history.Change.{Change}
use Rattle.audit_state.specs.Histories.{AreUpTo}
use Rattle.audit_state.proofs.StoreLaws.{clears, copies_back}
use Rattle.audit_state.proofs.stores.Stores.take_held.Goals as goal

pub clear-requires : goal.clear-requires
clear-requires c = subst (AreUpTo c.args.line) (sym c.take_copy-copy.ensures.holding) c.requires

pub returns-clause-copies : goal.returns-clause-copies
returns-clause-copies c =
    clears c.args.self.now c.put_copy.new.self c.args.node c.args.p c.clear.new.self (copies_back c.args.self.now c.take_copy-copy.new.self c.put_copy.new.self c.args.node c.args.p c.clear.new.self c.take_copy-copy.ensures.others c.in_ok-put_copy.ensures.copy)
    c.args.line
    c.in_ok-dropped.ensures.held
    (c.in_ok-dropped.ensures.touched ∙ c.take_copy-copy.ensures.touched)
    (c.in_ok-dropped.ensures.holding ∙ ap (λ (xs : List Change). xs ++ record { line = c.args.line; value = None } ∷ []) c.take_copy-copy.ensures.holding)
    (c.in_ok-dropped.ensures.changes ∙ c.take_copy-copy.ensures.changes)

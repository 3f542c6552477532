use Rattle.std.proofs.Common.{◌≡◌, ℕ, List, ◌∙◌, sym, ap, subst, take}
use Rattle.journal_readings.specs.Settings.{nodes}
use Rattle.audit_state.specs.declared.stores.Stores.{Stores}
use Rattle.audit_core.specs.Holders.{AreHoldersCounted}
use Rattle.audit_core.specs.Dropping.{RemovesAll}
use Rattle.audit_core.proofs.DroppedLaws.{drop_seen}
use Rattle.audit_core.proofs.judge.Judge.drop_held.Goals as goal

pub remove_all-requires-clause-counted : goal.remove_all-requires-clause-counted
remove_all-requires-clause-counted c =
    let same : record c.args.self.now.stores { contents = c.take_held.new.self.contents } ≡ c.args.self.now.stores = ap (λ (m : _). record c.args.self.now.stores { contents = m }) c.in_ok-dropped.ensures.contents in
    subst (λ (st : Stores). AreHoldersCounted (record c.args.self.now { stores = st }) (nodes (take c.args.line c.args.self.now.lines.now))) (sym same) c.requires.knows.stores.records.holders

pub returns-clause-stores : goal.returns-clause-stores
returns-clause-stores c =
    drop_seen c.args.self.now c.remove_all.new.self c.take_held.new.self c.args.line c.args.node c.args.p c.requires.drops.0 c.requires.knows c.requires.drops.1 c.in_ok-dropped.ensures.contents c.in_ok-dropped.ensures.copies
    (subst (λ (rs : List ℕ). RemovesAll c.args.line c.args.node c.args.p rs (record c.args.self.now { stores = c.take_held.new.self }) c.remove_all.new.self) (c.deref.ensures.value ∙ c.in_ok-dropped.ensures.dropped) c.in_ok-remove_all.ensures.removes)
    c.in_ok-remove_all.ensures.counted

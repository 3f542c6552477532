use Rattle.std.proofs.Common.{ℕ, List, ap, subst, ◌∙◌, take}
use Rattle.journal_readings.specs.Lines.{has_node}
use Rattle.journal_readings.specs.Settings.{nodes}
use Rattle.audit_core.specs.declared.judge.Judge.{Judge}
use Rattle.audit_core.specs.Known.{view_at}
use Rattle.audit_core.specs.Steps.{ChangesNode, HaveChanged}
use Rattle.audit_core.specs.Trying.{TriesRecords, StopsRecords}
use Rattle.audit_core.proofs.CopyDropLaws.{marked_knows, drop_declared, drop_loses, drop_takes, drop_stops}
use Rattle.audit_core.proofs.PassLaws.{if_err_then, known_stores}
use Rattle.audit_core.proofs.TouchLaws.{err_then}
use Rattle.audit_core.proofs.WriteLaws.{three}
use Rattle.audit_core.proofs.judge.Judge.drop_marked.Goals as goal

pub returns-in_err-demand-clause-err : goal.returns-in_err-demand-clause-err
returns-in_err-demand-clause-err c = err_then c.from_residual.result _ _
    (λ e is. drop_loses c.args.self.now c.args.line c.args.node c.args.p c.is_held_elsewhere.result e (is ∙ c.in_err-demand.ensures.err.0) c.in_err-demand.ensures.err.1 c.is_held_elsewhere.ensures.fits)
    c.from_residual.ensures.1

pub drop_held-requires-clause-knows : goal.drop_held-requires-clause-knows
drop_held-requires-clause-knows c = marked_knows c.args.self.now c.mark.new.self c.args.line c.args.node c.args.p c.in_ok-mark.ensures (known_stores c.args.self.now c.args.line c.requires.comes.1.audits)

pub drop_held-requires-clause-declared : goal.drop_held-requires-clause-declared
drop_held-requires-clause-declared c = ap (λ (s : Judge). has_node (nodes (take c.args.line s.lines.now)) c.args.node) c.in_ok-mark.ensures.rest ∙ drop_declared c.args.self.now c.args.line c.args.node c.args.p c.requires.comes.0 c.requires.comes.1

pub returns-clause-ok : goal.returns-clause-ok
returns-clause-ok c = three c.touch_all.result
    (λ tries keeps again. λ k comes. drop_takes c.args.self.now c.mark.new.self c.drop_held.new.self c.note_changes.new.self c.args.line c.args.node c.args.p k c.in_ok-dropped.dropped.items comes
    (record {
      marks = c.in_ok-mark.ensures;
      taken = c.in_ok-dropped.ensures.dropped;
      stores = c.in_ok-dropped.ensures.stores;
      keeps = c.in_ok-dropped.ensures.keeps;
      notes = subst (λ (rs : List ℕ). ChangesNode (HaveChanged rs) c.args.node c.drop_held.new.self c.note_changes.new.self) c.deref.ensures.value c.in_ok-note_changes.ensures;
    })
    c.touch_all.new.self
    ((c.is_held_elsewhere.ensures.fits c.args.line k (known_stores c.args.self.now c.args.line comes.audits) (drop_declared c.args.self.now c.args.line c.args.node c.args.p k comes)).0 c.in_ok-demand.ensures.ok)
    (subst (λ (rs : List ℕ). TriesRecords (view_at c.note_changes.new.self c.args.node) rs c.args.p c.note_changes.new.self c.touch_all.new.self) c.deref-2.ensures.value tries)
    keeps)
    c.touch_all.ensures.ok c.touch_all.ensures.keeps c.touch_all.ensures.keeps

pub returns-clause-err : goal.returns-clause-err
returns-clause-err c = if_err_then c.touch_all.result _ _
    (λ e h. λ k comes. drop_stops c.args.self.now c.mark.new.self c.drop_held.new.self c.note_changes.new.self c.args.line c.args.node c.args.p k c.in_ok-dropped.dropped.items comes
    (record {
      marks = c.in_ok-mark.ensures;
      taken = c.in_ok-dropped.ensures.dropped;
      stores = c.in_ok-dropped.ensures.stores;
      keeps = c.in_ok-dropped.ensures.keeps;
      notes = subst (λ (rs : List ℕ). ChangesNode (HaveChanged rs) c.args.node c.drop_held.new.self c.note_changes.new.self) c.deref.ensures.value c.in_ok-note_changes.ensures;
    })
    e
    ((c.is_held_elsewhere.ensures.fits c.args.line k (known_stores c.args.self.now c.args.line comes.audits) (drop_declared c.args.self.now c.args.line c.args.node c.args.p k comes)).0 c.in_ok-demand.ensures.ok)
    (subst (λ (rs : List ℕ). StopsRecords c.note_changes.new.self rs c.args.p e) c.deref-2.ensures.value h))
    c.touch_all.ensures.err

use Rattle.audit_core.proofs.MergeLaws.{merge_takes, merge_stops, merge_declared, merge_keeps}
use Rattle.audit_core.proofs.PassLaws.{if_err_then, known_stores}
use Rattle.audit_core.proofs.WriteLaws.{three}
use Rattle.audit_core.proofs.judge.Judge.merge.Goals as goal

pub hold_merge-requires-clause-declared : goal.hold_merge-requires-clause-declared
hold_merge-requires-clause-declared c = merge_declared c.args.self.now c.open_record.new.self c.args.line c.args.node c.requires.comes.0 c.args.digest.now c.requires.comes.1 c.in_ok-number.ensures.rest c.requires.comes.2

pub returns-clause-ok : goal.returns-clause-ok
returns-clause-ok c = three c.touch_at.result
    (λ tries keeps again. λ k v comes. merge_takes c.args.self.now c.open_record.new.self c.hold_merge.new.self c.note_change.new.self c.args.line c.args.node c.in_ok-number.number k c.args.digest.now v comes
    (record { opens = c.in_ok-number.ensures.opens; rest = c.in_ok-number.ensures.rest; knows = c.in_ok-number.ensures.knows c.args.line (known_stores c.args.self.now c.args.line comes.audits); stores = c.in_ok-hold_merge.ensures.stores; keeps = c.in_ok-hold_merge.ensures.keeps; notes = c.in_ok-note_change.ensures })
    c.touch_at.new.self c.partition_of.result c.partition_of.ensures
    ((merge_keeps c.args.self.now c.open_record.new.self c.args.line c.args.node c.in_ok-number.number k c.args.digest.now v c.was_applied.result c.in_ok-number.ensures.opens c.in_ok-number.ensures.rest
    (c.in_ok-number.ensures.knows c.args.line (known_stores c.args.self.now c.args.line comes.audits)) comes c.was_applied.ensures.fits).0 c.in_ok-demand.ensures.ok)
    tries keeps)
    c.touch_at.ensures.ok c.touch_at.ensures.keeps c.touch_at.ensures.keeps

pub returns-clause-err : goal.returns-clause-err
returns-clause-err c = if_err_then c.touch_at.result _ _
    (λ x h. λ k v comes. merge_stops c.args.self.now c.open_record.new.self c.hold_merge.new.self c.note_change.new.self c.args.line c.args.node c.in_ok-number.number k c.args.digest.now v comes
    (record { opens = c.in_ok-number.ensures.opens; rest = c.in_ok-number.ensures.rest; knows = c.in_ok-number.ensures.knows c.args.line (known_stores c.args.self.now c.args.line comes.audits); stores = c.in_ok-hold_merge.ensures.stores; keeps = c.in_ok-hold_merge.ensures.keeps; notes = c.in_ok-note_change.ensures })
    c.partition_of.result x c.partition_of.ensures
    ((merge_keeps c.args.self.now c.open_record.new.self c.args.line c.args.node c.in_ok-number.number k c.args.digest.now v c.was_applied.result c.in_ok-number.ensures.opens c.in_ok-number.ensures.rest
    (c.in_ok-number.ensures.knows c.args.line (known_stores c.args.self.now c.args.line comes.audits)) comes c.was_applied.ensures.fits).0 c.in_ok-demand.ensures.ok)
    h)
    c.touch_at.ensures.err

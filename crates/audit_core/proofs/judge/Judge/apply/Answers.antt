use Rattle.std.proofs.lemmas.Result.{on_ok_weaker}
use Rattle.audit_laws.proofs.Tests.{differ}
use Rattle.audit_core.proofs.ApplyLaws.{apply_takes, apply_breaks, apply_stops, apply_stops_at}
use Rattle.audit_core.proofs.ApplyLaws.{apply_declared, apply_writes, apply_follows, apply_room}
use Rattle.audit_core.proofs.ApplyLaws.{touch_stops}
use Rattle.audit_core.proofs.PassLaws.{if_err_then, known_stores}
use Rattle.audit_core.proofs.TouchLaws.{err_then}
use Rattle.audit_core.proofs.judge.Judge.apply.Goals as goal

pub hold_write-requires-clause-declared : goal.hold_write-requires-clause-declared
hold_write-requires-clause-declared c =
    apply_declared c.args.self.now c.open_record.new.self c.args.line c.args.node c.args.transaction
    c.args.view c.args.digest.now c.requires.comes.0 c.in_ok-number.ensures.rest
    c.requires.comes.1

pub hold_write-requires-clause-writes : goal.hold_write-requires-clause-writes
hold_write-requires-clause-writes c = (
  c.args.transaction,
  c.requires.comes.0,
  apply_writes c.args.self.now c.open_record.new.self c.args.line c.args.node c.in_ok-number.number
      c.args.transaction c.args.view c.args.digest.now c.requires.comes.0
      c.in_ok-number.ensures.opens c.in_ok-number.ensures.rest
      (c.in_ok-number.ensures.knows c.args.line
      (known_stores c.args.self.now c.args.line c.requires.comes.1.audits)) c.requires.comes.1,
)

pub open_write-requires : goal.open_write-requires
open_write-requires c = record {
  room = apply_room c.args.self.now c.open_record.new.self c.hold_write.new.self
      c.note_change.new.self c.args.line c.args.node c.in_ok-number.number c.args.transaction
      c.partition_of-p.result c.args.view c.args.digest.now c.requires.comes.0
      c.requires.comes.1
      c.in_ok-number.ensures.rest c.in_ok-hold_write.ensures.keeps c.in_ok-note_change.ensures
      c.requires.room;
}

pub returns-in_err-touch-clause-err : goal.returns-in_err-touch-clause-err
returns-in_err-touch-clause-err c = err_then c.from_residual-in_err-touch.result _ _
    (λ e is. λ v comes. apply_stops c.args.self.now c.open_record.new.self c.hold_write.new.self
    c.note_change.new.self c.open_write.new.self c.args.line c.args.node c.in_ok-number.number
    c.args.transaction c.partition_of-p.result c.args.view c.args.digest.now v comes
    c.partition_of-p.ensures
    (record {
      opens = c.in_ok-number.ensures.opens;
      rest = c.in_ok-number.ensures.rest;
      knows = c.in_ok-number.ensures.knows c.args.line (known_stores _ c.args.line comes.audits);
      stores = c.in_ok-hold_write.ensures.stores;
      keeps = c.in_ok-hold_write.ensures.keeps;
      notes = c.in_ok-note_change.ensures;
      takes = c.in_ok-open_write.ensures;
    })
    e (touch_stops c.open_write.new.self c.in_ok-number.number c.partition_of-p.result e
    c.in_err-touch.field-0.0 is c.in_err-touch.ensures.err))
    c.from_residual-in_err-touch.ensures.1

pub returns-in_err-touch_at-clause-err : goal.returns-in_err-touch_at-clause-err
returns-in_err-touch_at-clause-err c = err_then c.from_residual-in_err-touch_at.result _ _
    (λ e is. λ v comes. apply_stops_at c.args.self.now c.open_record.new.self c.hold_write.new.self
    c.note_change.new.self c.open_write.new.self c.args.line c.args.node c.in_ok-number.number
    c.args.transaction c.partition_of-p.result c.args.view c.args.digest.now v comes
    c.partition_of-p.ensures
    (record {
      opens = c.in_ok-number.ensures.opens;
      rest = c.in_ok-number.ensures.rest;
      knows = c.in_ok-number.ensures.knows c.args.line (known_stores _ c.args.line comes.audits);
      stores = c.in_ok-hold_write.ensures.stores;
      keeps = c.in_ok-hold_write.ensures.keeps;
      notes = c.in_ok-note_change.ensures;
      takes = c.in_ok-open_write.ensures;
    })
    c.touch.new.self c.in_ok-touch.ensures.ok c.in_ok-touch.ensures.keeps
    e (touch_stops c.touch.new.self c.in_ok-number.number c.partition_of-p.result e
    c.in_err-touch_at.field-0.0 is c.in_err-touch_at.ensures.err))
    c.from_residual-in_err-touch_at.ensures.1

pub returns-clause-ok : goal.returns-clause-ok
returns-clause-ok c = on_ok_weaker c.demand.result
    (λ follows. λ v comes. apply_takes c.args.self.now c.open_record.new.self c.hold_write.new.self
    c.note_change.new.self c.open_write.new.self c.args.line c.args.node c.in_ok-number.number
    c.args.transaction c.partition_of-p.result c.args.view c.args.digest.now v comes
    c.partition_of-p.ensures
    (record {
      opens = c.in_ok-number.ensures.opens;
      rest = c.in_ok-number.ensures.rest;
      knows = c.in_ok-number.ensures.knows c.args.line (known_stores _ c.args.line comes.audits);
      stores = c.in_ok-hold_write.ensures.stores;
      keeps = c.in_ok-hold_write.ensures.keeps;
      notes = c.in_ok-note_change.ensures;
      takes = c.in_ok-open_write.ensures;
    })
    c.touch.new.self c.in_ok-touch.ensures.ok c.in_ok-touch.ensures.keeps c.touch_at.new.self
    c.in_ok-touch_at.ensures.ok c.in_ok-touch_at.ensures.keeps
    ((apply_follows c.args.self.now c.open_record.new.self c.args.line c.args.node
    c.in_ok-number.number c.args.transaction c.args.view c.args.digest.now v
    c.follows_fold-follows.result c.in_ok-number.ensures.opens c.in_ok-number.ensures.rest
    (c.in_ok-number.ensures.knows c.args.line
    (known_stores c.args.self.now c.args.line comes.audits)) comes c.follows_fold-follows.ensures).0
    follows))
    c.demand.ensures.ok

pub returns-clause-err : goal.returns-clause-err
returns-clause-err c = if_err_then c.demand.result _ _
    (λ e h. λ v comes. apply_breaks c.args.self.now c.open_record.new.self c.hold_write.new.self
    c.note_change.new.self c.open_write.new.self c.args.line c.args.node c.in_ok-number.number
    c.args.transaction c.partition_of-p.result c.args.view c.args.digest.now v comes
    c.partition_of-p.ensures
    (record {
      opens = c.in_ok-number.ensures.opens;
      rest = c.in_ok-number.ensures.rest;
      knows = c.in_ok-number.ensures.knows c.args.line (known_stores _ c.args.line comes.audits);
      stores = c.in_ok-hold_write.ensures.stores;
      keeps = c.in_ok-hold_write.ensures.keeps;
      notes = c.in_ok-note_change.ensures;
      takes = c.in_ok-open_write.ensures;
    })
    c.touch.new.self c.in_ok-touch.ensures.ok c.in_ok-touch.ensures.keeps c.touch_at.new.self
    c.in_ok-touch_at.ensures.ok c.in_ok-touch_at.ensures.keeps
    e h.0 (λ joins. differ ((apply_follows c.args.self.now c.open_record.new.self c.args.line
    c.args.node c.in_ok-number.number c.args.transaction c.args.view c.args.digest.now v
    c.follows_fold-follows.result c.in_ok-number.ensures.opens c.in_ok-number.ensures.rest
    (c.in_ok-number.ensures.knows c.args.line
    (known_stores c.args.self.now c.args.line comes.audits)) comes c.follows_fold-follows.ensures).1
    joins) h.1))
    c.demand.ensures.err

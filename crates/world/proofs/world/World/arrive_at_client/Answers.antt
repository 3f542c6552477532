use Rattle.std.proofs.Common.{refl}
use Rattle.world.specs.Steps.{standing}
use Rattle.world.proofs.ArrivalLaws.{over_due, over_lands, over_proper}
use Rattle.world.proofs.KeepLaws.{stands_of, step_done, step_failed}
use Rattle.world.proofs.ReceivingLaws.{keeps_table, stale_passes, table_due}
use Rattle.world.proofs.StepLaws.{takes_none}
use Rattle.world.proofs.world.World.arrive_at_client.Goals as goal

pub returns-in_err-lines : goal.returns-in_err-lines
returns-in_err-lines c = takes_none c.args.self.now c.args.arriving.event.value c.from_residual.result c.from_residual.ensures

pub pass_over-requires : goal.pass_over-requires
pass_over-requires c =
    let x = c.requires.arrives in
    let over = stale_passes c.args.self.now c.args.arriving c.in_ok-lines.lines x c.requires.end c.in_default.ensures.none c.in_ok-lines.ensures in
    record {
      comes = c.requires.comes;
      proper = over_proper c.args.arriving.event.value x.number x.how x.event;
      due = over_due c.args.self.now c.args.arriving.event.value x.number x.how c.in_ok-lines.lines x.event over;
      lands = over_lands c.args.self.now c.args.arriving.event.value x.number x.how c.args.arriving.landing c.in_ok-lines.lines x.event x.landing over;
    }

pub returns-in_err-lines-2 : goal.returns-in_err-lines-2
returns-in_err-lines-2 c = takes_none c.args.self.now c.args.arriving.event.value c.from_residual-in_err-lines-2.result c.from_residual-in_err-lines-2.ensures

pub returns-in_err-tell_all : goal.returns-in_err-tell_all
returns-in_err-tell_all c =
    step_failed c.self.inside _ c.tell_all.new.self c.args.arriving.event.value c.in_ok-lines-2.lines c.tell_all.result c.from_residual-in_err-tell_all.result _ c.self.view_is c.self.invariant
    (table_due c.args.self.now c.args.arriving c.in-Some.table c.in_ok-lines-2.lines c.requires.arrives c.requires.end c.in-Some.ensures.some c.in_ok-lines-2.ensures)
    c.in_err-tell_all.was c.from_residual-in_err-tell_all.ensures c.tell_all.ensures.ok c.tell_all.ensures.within c.tell_all.ensures.too_long c.tell_all.ensures.err

pub invariant_of-self-2 : goal.invariant_of-self-2
invariant_of-self-2 c =
    keeps_table c.self.inside _ c.args.self.now c.args.arriving c.in-Some.table c.in_ok-lines-2.lines
    (record { seen = c.self.view_is; keeps = c.self.invariant; comes = c.requires.comes; wrote = c.in_ok-tell_all.ensures.ok; within = c.in_ok-tell_all.ensures.within; header = refl; ids = refl })
    c.requires.arrives c.requires.end c.in-Some.ensures.some c.in_ok-lines-2.ensures refl refl c.land.ensures.same
    (c.refresh.ensures (standing c.args.self.now).tables (stands_of c.self.inside _ c.self.view_is c.self.invariant).tables)

pub returns : goal.returns
returns c =
    step_done c.self.inside _ c.tell_all.new.self c.args.arriving.event.value c.in_ok-lines-2.lines c.self.view_is c.self.invariant
    (table_due c.args.self.now c.args.arriving c.in-Some.table c.in_ok-lines-2.lines c.requires.arrives c.requires.end c.in-Some.ensures.some c.in_ok-lines-2.ensures)
    c.in_ok-tell_all.ensures.ok c.in_ok-tell_all.ensures.within

use Rattle.node_view.specs.declared.view_step.Counted.{Counted}
use Rattle.node_view.specs.Views.{ViewRoom}
use Rattle.node_view.proofs.PlanLaws.{counted_room}
use Rattle.node_view.proofs.view.View.plan_count.Goals as goal
use Rattle.std.proofs.Common.{rules}

pub returns-clause-room : goal.returns-clause-room
returns-clause-room c x e =
    let room : ViewRoom = record { transactions = 0; applies = 0; numbers = c.reserve_number.new.self.numbers; further = c.reserve_number.new.self.further } in
    let a : Counted = record { nth = c.args.nth; first = c.in_ok-first.first } in
    counted_room room c.args.p a x e c.in_ok-first.ensures.room

pub returns-clause-counted : goal.returns-clause-counted
returns-clause-counted c = search rules

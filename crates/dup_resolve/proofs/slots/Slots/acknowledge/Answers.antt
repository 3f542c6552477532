use Rattle.std.proofs.Common.{◌-◌, sym, ap, ◌∙◌, subst, arith}
use Rattle.std.specs.VecDeque.{deque_len}
use Rattle.dup_resolve.specs.Open.{acked_step, acknowledged_if, change_txn, txn_at}
use Rattle.dup_resolve.specs.Places.{AreNumbered, Slotted, running_of}
use Rattle.dup_resolve.proofs.SlotLaws.{change_at, changing_missing, in_no_slot, acknowledged_id}
use Rattle.dup_resolve.proofs.slots.Slots.acknowledge.Goals as goal

pub invariant_of-self : goal.invariant_of-self
invariant_of-self c =
    let slots = c.self.inside.slots in
    let made = change_at (acknowledged_if c.args.from) (acknowledged_id c.args.from) (c.self.inside.opened - deque_len slots) slots.items c.in-Some.place c.args.t c.index_mut.result.now c.acknowledge_in.new.slot c.self.invariant.1 c.self.invariant.2 (omega (arith, c.in-Some.ensures, c.len.ensures, slots.ok)) (omega (arith, c.in-Some.ensures, c.len.ensures)) c.index_mut.ensures.value c.acknowledge_in.ensures.txn in
    (c.self.invariant.0, made.numbers, made.first)

pub returns-in-Some-clause-running : goal.returns-in-Some-clause-running
returns-in-Some-clause-running c =
    let slots = c.self.inside.slots in
    let made = change_at (acknowledged_if c.args.from) (acknowledged_id c.args.from) (c.self.inside.opened - deque_len slots) slots.items c.in-Some.place c.args.t c.index_mut.result.now c.acknowledge_in.new.slot c.self.invariant.1 c.self.invariant.2 (omega (arith, c.in-Some.ensures, c.len.ensures, slots.ok)) (omega (arith, c.in-Some.ensures, c.len.ensures)) c.index_mut.ensures.value c.acknowledge_in.ensures.txn in
    made.running ∙ ap (λ (s : Slotted). change_txn s.running c.args.t (acknowledged_if c.args.from)) c.self.view_is

pub returns-in-None-clause-running : goal.returns-in-None-clause-running
returns-in-None-clause-running c =
    let slots = c.self.inside.slots in
    let at : AreNumbered (c.self.inside.opened - c.len.result) slots.items = subst (λ n. AreNumbered (c.self.inside.opened - n) slots.items) (sym c.len.ensures) c.self.invariant.1 in
    let none = in_no_slot c.self.inside.opened c.len.result slots.items c.args.t at (omega (arith, c.len.ensures, slots.ok)) (omega (arith, c.len.ensures, c.self.invariant.0)) c.in-None.ensures in
    sym (rw (← c.self.view_is) (changing_missing (running_of slots.items) c.args.t (acknowledged_if c.args.from) none))

pub returns-in-Some-clause-step : goal.returns-in-Some-clause-step
returns-in-Some-clause-step c =
    let slots = c.self.inside.slots in
    let made = change_at (acknowledged_if c.args.from) (acknowledged_id c.args.from) (c.self.inside.opened - deque_len slots) slots.items c.in-Some.place c.args.t c.index_mut.result.now c.acknowledge_in.new.slot c.self.invariant.1 c.self.invariant.2 (omega (arith, c.in-Some.ensures, c.len.ensures, slots.ok)) (omega (arith, c.in-Some.ensures, c.len.ensures)) c.index_mut.ensures.value c.acknowledge_in.ensures.txn in
    c.acknowledge_in.ensures.step
    ∙ ap (λ o. acked_step o c.args.from) (sym made.found)
    ∙ ap (λ (s : Slotted). acked_step (txn_at s.running c.args.t) c.args.from) c.self.view_is

pub returns-in-None-clause-step : goal.returns-in-None-clause-step
returns-in-None-clause-step c =
    let slots = c.self.inside.slots in
    let at : AreNumbered (c.self.inside.opened - c.len.result) slots.items = subst (λ n. AreNumbered (c.self.inside.opened - n) slots.items) (sym c.len.ensures) c.self.invariant.1 in
    let none = in_no_slot c.self.inside.opened c.len.result slots.items c.args.t at (omega (arith, c.len.ensures, slots.ok)) (omega (arith, c.len.ensures, c.self.invariant.0)) c.in-None.ensures in
    sym (ap (λ (s : Slotted). acked_step (txn_at s.running c.args.t) c.args.from) (sym c.self.view_is) ∙ ap (λ o. acked_step o c.args.from) none)

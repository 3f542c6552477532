use Rattle.std.proofs.Common.{◌∷◌, ◌++◌, [], ap, ◌∙◌, arith}
use Rattle.dup_resolve.specs.Places.{Slotted, running_of}
use Rattle.dup_resolve.proofs.SlotLaws.{length_running, running_push}
use Rattle.dup_resolve.proofs.slots.Slots.push.Goals as goal

pub returns-clause-running : goal.returns-clause-running
returns-clause-running c =
    ap running_of c.push_back_reserved.ensures.items
    ∙ running_push c.self.inside.slots.items c.args.txn
    ∙ ap (λ (s : Slotted). s.running ++ c.args.txn ∷ []) c.self.view_is

pub returns-clause-bound : goal.returns-clause-bound
returns-clause-bound c =
    rw (← c.self.view_is) (omega (arith, length_running c.self.inside.slots.items, c.self.inside.slots.ok, c.self.invariant.0))

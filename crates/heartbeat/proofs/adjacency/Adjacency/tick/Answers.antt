use Rattle.std.proofs.Common.{rules, sym, ◌∙◌, refl}
use Rattle.heartbeat.proofs.EntryLaws.{heard_aged, ticked_view}
use Rattle.heartbeat.proofs.adjacency.Adjacency.tick.Goals as goal

pub invariant_of-self : goal.invariant_of-self
invariant_of-self c = rw c.age.ensures (heard_aged c.self.inside.me c.self.inside.heard c.self.invariant)

pub invariant_of-self-2 : goal.invariant_of-self-2
invariant_of-self-2 c = rw c.age.ensures (heard_aged c.self.inside.me c.self.inside.heard c.self.invariant)

pub returns-clause-ticked : goal.returns-clause-ticked
returns-clause-ticked c =
    rw (sym c.self.view_is, c.age.ensures, c.quieter-self-inside.ensures, c.is_unchanged.ensures)
    (ticked_view c.self.inside.me c.self.inside.role c.self.inside.set c.self.inside.quiet c.self.inside.heard c.neighbours-set.result (c.neighbours-set.ensures ∙ rw c.age.ensures refl))

pub returns-clause-set : goal.returns-clause-set
returns-clause-set c = search rules

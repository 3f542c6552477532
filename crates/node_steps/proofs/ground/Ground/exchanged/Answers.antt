use Rattle.node_steps.proofs.ground.Ground.exchanged.Goals as goal

pub returns-then-has_exchanged-clause-view : goal.returns-then-has_exchanged-clause-view
returns-then-has_exchanged-clause-view c = rw (← c.self.view_is) (c.self.invariant.view c.in_ok-view.view c.in_ok-view.was)

use Rattle.std.proofs.Common.{◌∙◌}
use Rattle.node_core.proofs.CommitLaws.{Becomes, agreed_after, agreeing, entering, with_parts}
use Rattle.node_core.proofs.node.Node.take_agreed.Goals.{in-Some-1, in-None-1}
use Rattle.node_core.proofs.node.Node.take_agreed.Goals as goal

pub invariant_of-self : goal.invariant_of-self
invariant_of-self c =
    (entering c.self.inside c.args.self.now c.entered.new.self c.args.agree c.args.entered c.in-Some.view c.deref.result.now c.stamp_empty_copies.new.store
    c.self.invariant.0 c.self.view_is c.requires.unplanned c.requires.fits c.requires.ranges c.in-Some.is c.deref.ensures c.entered.ensures c.stamp_empty_copies.ensures).node

pub invariant_of-self-in-Some-2 : goal.invariant_of-self-in-Some-2
invariant_of-self-in-Some-2 c =
    (entering c.self.inside c.args.self.now c.entered.new.self c.args.agree c.args.entered c.in-Some.view c.deref.result.now c.stamp_empty_copies.new.store
    c.self.invariant.0 c.self.view_is c.requires.unplanned c.requires.fits c.requires.ranges c.in-Some.is c.deref.ensures c.entered.ensures c.stamp_empty_copies.ensures).node

pub invariant_of-self-in_default : goal.invariant_of-self-in_default
invariant_of-self-in_default c =
    (agreeing c.self.inside c.args.self.now c.args.agree c.args.entered c.self.invariant.0 c.self.view_is c.requires.unplanned c.requires.fits c.requires.ranges c.in_default.is).node

pub returns-in-Some : goal.returns-in-Some
returns-in-Some c =
    let b : Becomes (with_parts c.self.inside c.entered.new.self c.args.agree c.in-Some.view c.stamp_empty_copies.new.store) (agreed_after c.args.self.now.now c.args.agree c.args.entered) =
    entering c.self.inside c.args.self.now c.entered.new.self c.args.agree c.args.entered c.in-Some.view c.deref.result.now c.stamp_empty_copies.new.store
    c.self.invariant.0 c.self.view_is c.requires.unplanned c.requires.fits c.requires.ranges c.in-Some.is c.deref.ensures c.entered.ensures c.stamp_empty_copies.ensures in
    elim c.match-self.branch [
      | in-Some-1 w ↦ w.self-is ∙ b.seen
      | in-None-1 w ↦ w.self-is ∙ b.seen
    ]

pub returns-in_default : goal.returns-in_default
returns-in_default c =
    (agreeing c.self.inside c.args.self.now c.args.agree c.args.entered c.self.invariant.0 c.self.view_is c.requires.unplanned c.requires.fits c.requires.ranges c.in_default.is).seen

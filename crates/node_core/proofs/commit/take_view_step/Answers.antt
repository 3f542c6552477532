use Rattle.std.specs.Box.{with_value}
use Rattle.node_core.proofs.CommitLaws.{has_stepped}
use Rattle.node_core.proofs.commit.take_view_step.Goals as goal

pub take_step-requires : goal.take_step-requires
take_step-requires c = rw c.deref_mut.ensures.value (c.requires.ready c.in-Some.view c.in-Some.is)

pub returns : goal.returns
returns c =
    has_stepped c.args.view.now c.args.store.now c.args.step c.in-Some.view (with_value c.in-Some.view c.take_step.new.self) c.deref_mut.result.now c.take_step.new.store c.in-Some.is
    c.deref_mut.ensures.value c.take_step.ensures

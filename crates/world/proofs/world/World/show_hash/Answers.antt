use Rattle.world.proofs.EventLaws.{hash_tells}
use Rattle.world.proofs.KeepLaws.{keeps_tells, step_tells}
use Rattle.world.proofs.world.World.show_hash.Goals as goal

pub returns : goal.returns
returns c =
    step_tells c.self.inside _ c.tell.new.self c.args.event.value _ c.tell.result c.self.view_is c.self.invariant
    (hash_tells _ c.args.event.value c.args.digest c.partition_of-partition.result c.requires.is c.partition_of-partition.ensures)
    c.tell.ensures.ok c.tell.ensures.within c.tell.ensures.too_long c.tell.ensures.err

pub invariant_of-self : goal.invariant_of-self
invariant_of-self c =
    keeps_tells c.self.inside _ c.tell.new.self c.args.event.value _ c.tell.result c.self.view_is c.self.invariant
    (hash_tells _ c.args.event.value c.args.digest c.partition_of-partition.result c.requires.is c.partition_of-partition.ensures) c.requires.comes
    c.tell.ensures.ok c.tell.ensures.within c.tell.ensures.err

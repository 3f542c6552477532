-- A node has room for the step that it planned.
use Rattle.std.specs.Option.{ForSome}
use Rattle.node_core.specs.declared.node.Node.TheInside.{Inside}
use Rattle.node_steps.specs.Rooms.{HasRoomForStep}

-- a node that is in a view has room there for what it planned
abbrev pub HasRoomForPlan : Inside → Type 0
HasRoomForPlan n = ForSome n.planned
    (λ p. ForSome n.view (λ v. HasRoomForStep v.value n.store.spare p))

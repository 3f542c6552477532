-- The room that planned steps need, which their commit uses up.
use Rattle.std.specs.Prelude.{List, ℕ}
use Rattle.node_view.specs.Rooms as view
use Rattle.node_view.specs.Views.{Viewed}
use Rattle.node_steps.specs.declared.planned.Planned.{Planned}
use Rattle.node_steps.specs.declared.planned.Planned.TheVariants as planned
use Rattle.node_steps.specs.Viewing as viewing

-- there is room for the planned step in that view, where the store has that room
abbrev pub HasRoomForStep : Viewed → List ℕ → Planned → Type 0
HasRoomForStep v spare (planned.View s) = view.HasRoomIn v spare s.value
HasRoomForStep v spare _ = Unit {0}

-- a step that needs no room
abbrev pub NeedsNoRoom : Planned → Type 0
NeedsNoRoom (planned.View s) = viewing.NeedsNoRoom s.value
NeedsNoRoom _ = Unit {0}

use Rattle.std.proofs.Common.{◌==◌, ◌∙◌, ap}
use Rattle.std.specs.List.{position}
use Rattle.world.proofs.KeepLaws.{ids_of_world, not_up}
use Rattle.world.proofs.KnownLaws.{found_at, not_found}
use Rattle.world.proofs.world.World.find.Goals as goal

pub returns-clause-found : goal.returns-clause-found
returns-clause-found c =
    found_at c.args.self.now c.self.inside.ids c.args.number c.place_in.result
    (ids_of_world c.self.inside c.args.self.now c.self.view_is c.self.invariant)
    (c.place_in.ensures ∙ ap (position (λ m. m == c.args.number)) c.as_slice.ensures.same)

pub returns-clause-none : goal.returns-clause-none
returns-clause-none c =
    not_found c.args.self.now c.self.inside.ids c.args.number c.place_in.result
    (ids_of_world c.self.inside c.args.self.now c.self.view_is c.self.invariant)
    (c.place_in.ensures ∙ ap (position (λ m. m == c.args.number)) c.as_slice.ensures.same)

pub returns-clause-down : goal.returns-clause-down
returns-clause-down c = λ none.
    not_up c.self.inside c.args.self.now c.args.number c.self.view_is c.self.invariant
    (not_found c.args.self.now c.self.inside.ids c.args.number c.place_in.result
    (ids_of_world c.self.inside c.args.self.now c.self.view_is c.self.invariant)
    (c.place_in.ensures ∙ ap (position (λ m. m == c.args.number)) c.as_slice.ensures.same) none)

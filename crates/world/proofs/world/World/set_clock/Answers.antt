use Rattle.std.proofs.Common.{refl, arith}
use Rattle.cluster_rules.specs.declared.event.Event.TheVariants as event
use Rattle.world.proofs.EventLaws.{clock_due}
use Rattle.world.proofs.KeepLaws.{clock_within, keeps_same, named_declared, step_done, step_failed, still}
use Rattle.world.proofs.SettingLaws.{keeps_clock}
use Rattle.world.proofs.world.World.set_clock.Goals as goal

pub place_of-place-requires : goal.place_of-place-requires
place_of-place-requires c = named_declared _ c.args.event.value (event.Clock c.args.node c.args.time) c.args.node c.requires.is refl c.requires.comes

pub index_mut-requires : goal.index_mut-requires
index_mut-requires c = omega (arith, clock_within c.self.inside _ c.place_of-place.result c.args.node c.self.view_is c.self.invariant c.place_of-place.ensures, c.self.inside.clocks.ok)

pub returns-in_err-tell : goal.returns-in_err-tell
returns-in_err-tell c =
    step_failed c.self.inside _ c.tell.new.self c.args.event.value _ c.tell.result c.from_residual.result _ c.self.view_is c.self.invariant (clock_due _ c.args.event.value c.args.node c.args.time c.requires.is)
    c.in_err-tell.was c.from_residual.ensures c.tell.ensures.ok c.tell.ensures.within c.tell.ensures.too_long c.tell.ensures.err

pub invariant_of-self : goal.invariant_of-self
invariant_of-self c = keeps_same c.self.inside _ c.self.invariant refl refl refl refl (still _) refl c.in_err-tell.ensures.err

pub returns : goal.returns
returns c =
    step_done c.self.inside _ c.tell.new.self c.args.event.value _ c.self.view_is c.self.invariant (clock_due _ c.args.event.value c.args.node c.args.time c.requires.is) c.in_ok-tell.ensures.ok c.in_ok-tell.ensures.within

pub invariant_of-self-2 : goal.invariant_of-self-2
invariant_of-self-2 c =
    keeps_clock c.self.inside _ _ c.args.event.value c.args.node c.args.time c.place_of-place.result
    (record { seen = c.self.view_is; keeps = c.self.invariant; comes = c.requires.comes; wrote = c.in_ok-tell.ensures.ok; within = c.in_ok-tell.ensures.within; header = refl; ids = refl })
    c.place_of-place.ensures c.requires.is (omega (arith, c.ranges.time)) refl refl refl refl

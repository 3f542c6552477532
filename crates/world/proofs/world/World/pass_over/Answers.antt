use Rattle.std.proofs.Common.{refl}
use Rattle.world.proofs.KeepLaws.{keeps_same, step_done, step_failed, still}
use Rattle.world.proofs.SettingLaws.{keeps_over}
use Rattle.world.proofs.world.World.pass_over.Goals as goal

pub returns-in_err-tell_all : goal.returns-in_err-tell_all
returns-in_err-tell_all c =
    step_failed c.self.inside _ c.tell_all.new.self c.args.event.value c.args.lines c.tell_all.result c.from_residual.result _ c.self.view_is c.self.invariant c.requires.due
    c.in_err-tell_all.was c.from_residual.ensures c.tell_all.ensures.ok c.tell_all.ensures.within c.tell_all.ensures.too_long c.tell_all.ensures.err

pub invariant_of-self : goal.invariant_of-self
invariant_of-self c = keeps_same c.self.inside _ c.self.invariant refl refl refl refl (still _) refl c.in_err-tell_all.ensures.err

pub returns : goal.returns
returns c =
    step_done c.self.inside _ c.tell_all.new.self c.args.event.value c.args.lines c.self.view_is c.self.invariant c.requires.due c.in_ok-tell_all.ensures.ok c.in_ok-tell_all.ensures.within

pub invariant_of-self-2 : goal.invariant_of-self-2
invariant_of-self-2 c =
    keeps_over c.self.inside _ _ c.args.event.value c.args.landing c.args.lines
    (record { seen = c.self.view_is; keeps = c.self.invariant; comes = c.requires.comes; wrote = c.in_ok-tell_all.ensures.ok; within = c.in_ok-tell_all.ensures.within; header = refl; ids = refl })
    c.requires.proper c.requires.due c.requires.lands refl refl c.land.ensures.same refl

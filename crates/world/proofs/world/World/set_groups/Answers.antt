use Rattle.std.proofs.Common.{ℕ, List, Some, refl, sym, ap, subst, ◌∙◌}
use Rattle.cluster_types.specs.Groups.{AreGroups}
use Rattle.cluster_rules.specs.declared.event.Event.TheVariants as event
use Rattle.world.proofs.EventLaws.{groups_due}
use Rattle.world.proofs.KeepLaws.{step_done, step_failed}
use Rattle.world.proofs.SettingLaws.{keeps_groups}
use Rattle.world.proofs.world.World.set_groups.Goals as goal

pub invariant_of-self-2 : goal.invariant_of-self-2
invariant_of-self-2 c =
    keeps_groups c.self.inside _ _ c.args.event.value c.in_ok-groups.groups
    (record { seen = c.self.view_is; keeps = c.self.invariant; comes = c.requires.comes; wrote = c.in_ok-tell.ensures.ok; within = c.in_ok-tell.ensures.within; header = refl; ids = refl })
    (c.requires.is ∙ ap (λ (g : List (List ℕ)). event.Groups g) (sym (c.in_ok-groups.ensures ∙ c.get.ensures)))
    (subst AreGroups (sym c.in_ok-groups.ensures) c.as_slice.ensures.valid)
    refl refl c.set_groups.ensures.flying c.set_groups.ensures.sent (c.set_groups.ensures.groups ∙ ap Some (sym c.in_ok-groups.ensures)) refl

pub returns-in_err-tell : goal.returns-in_err-tell
returns-in_err-tell c =
    step_failed c.self.inside _ c.tell.new.self c.args.event.value _ c.tell.result c.from_residual-in_err-tell.result _ c.self.view_is c.self.invariant
    (groups_due _ c.args.event.value c.in_ok-groups.groups (c.requires.is ∙ ap (λ (g : List (List ℕ)). event.Groups g) (sym (c.in_ok-groups.ensures ∙ c.get.ensures))))
    c.in_err-tell.was c.from_residual-in_err-tell.ensures c.tell.ensures.ok c.tell.ensures.within c.tell.ensures.too_long c.tell.ensures.err

pub returns : goal.returns
returns c =
    step_done c.self.inside _ c.tell.new.self c.args.event.value _ c.self.view_is c.self.invariant
    (groups_due _ c.args.event.value c.in_ok-groups.groups (c.requires.is ∙ ap (λ (g : List (List ℕ)). event.Groups g) (sym (c.in_ok-groups.ensures ∙ c.get.ensures))))
    c.in_ok-tell.ensures.ok c.in_ok-tell.ensures.within

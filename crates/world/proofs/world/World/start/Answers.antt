use Rattle.std.proofs.Common.{refl, sym, ap, ◌∙◌, arith}
use Rattle.node_rules.specs.Facts.{Facts}
use Rattle.node_rules.specs.Steps.{Planning, after_start}
use Rattle.cluster_rules.specs.declared.event.Event.TheVariants as event
use Rattle.world.proofs.EventLaws.{start_tells}
use Rattle.world.proofs.KeepLaws.{its_own, keeps_tells, named_declared, node_at, node_within, step_done, step_failed, step_tells}
use Rattle.world.proofs.SettingLaws.{keeps_start, start_due}
use Rattle.world.proofs.world.World.start.Goals as goal

pub place_of-place-requires : goal.place_of-place-requires
place_of-place-requires c = named_declared _ c.args.event.value (event.Start c.args.node) c.args.node c.requires.is refl c.requires.comes

pub index-requires : goal.index-requires
index-requires c = omega (arith, node_within c.self.inside _ c.place_of-place.result c.args.node c.self.view_is c.self.invariant c.place_of-place.ensures, c.self.inside.nodes.ok)

pub index_mut-requires : goal.index_mut-requires
index_mut-requires c = omega (arith, node_within c.self.inside _ c.place_of-place.result c.args.node c.self.view_is c.self.invariant c.place_of-place.ensures, c.self.inside.nodes.ok)

pub returns-then-is_up : goal.returns-then-is_up
returns-then-is_up c =
    step_tells c.self.inside _ c.tell.new.self c.args.event.value _ c.tell.result c.self.view_is c.self.invariant
    (start_tells _ c.args.event.value c.args.node c.requires.is (its_own c.self.inside _ c.args.node c.self.view_is c.self.invariant)
    (sym (ap (λ (f : Facts). f.up) (node_at c.self.inside _ c.place_of-place.result c.args.node c.index.result.now c.self.view_is c.self.invariant c.place_of-place.ensures c.index.ensures)) ∙ sym c.is_up.ensures ∙ c.if-is_up.true))
    c.tell.ensures.ok c.tell.ensures.within c.tell.ensures.too_long c.tell.ensures.err

pub returns : goal.returns
returns c =
    let here = node_at c.self.inside c.args.self.now c.place_of-place.result c.args.node c.index.result.now c.self.view_is c.self.invariant c.place_of-place.ensures c.index.ensures in
    step_done c.self.inside _ c.tell-2.new.self c.args.event.value _ c.self.view_is c.self.invariant
    (start_due c.self.inside _ c.args.event.value c.args.node c.self.view_is c.self.invariant c.requires.is (sym (ap (λ (f : Facts). f.up) here) ∙ sym c.is_up.ensures ∙ c.if-is_up.false))
    c.in_ok-tell.ensures.ok c.in_ok-tell.ensures.within

pub invariant_of-self : goal.invariant_of-self
invariant_of-self c =
    keeps_tells c.self.inside _ c.tell.new.self c.args.event.value _ c.tell.result c.self.view_is c.self.invariant
    (start_tells _ c.args.event.value c.args.node c.requires.is (its_own c.self.inside _ c.args.node c.self.view_is c.self.invariant)
    (sym (ap (λ (f : Facts). f.up) (node_at c.self.inside _ c.place_of-place.result c.args.node c.index.result.now c.self.view_is c.self.invariant c.place_of-place.ensures c.index.ensures)) ∙ sym c.is_up.ensures ∙ c.if-is_up.true)) c.requires.comes
    c.tell.ensures.ok c.tell.ensures.within c.tell.ensures.err

pub start-requires : goal.start-requires
start-requires c =
    let first = node_at c.self.inside c.args.self.now c.place_of-place.result c.args.node c.index.result.now c.self.view_is c.self.invariant c.place_of-place.ensures c.index.ensures in
    let here = node_at c.self.inside c.args.self.now c.place_of-place.result c.args.node c.index_mut.result.now c.self.view_is c.self.invariant c.place_of-place.ensures c.index_mut.ensures.value in
    ap (λ (f : Facts). f.up) (here ∙ sym first) ∙ sym c.is_up.ensures ∙ c.if-is_up.false

pub invariant_of-self-2 : goal.invariant_of-self-2
invariant_of-self-2 c =
    let first = node_at c.self.inside c.args.self.now c.place_of-place.result c.args.node c.index.result.now c.self.view_is c.self.invariant c.place_of-place.ensures c.index.ensures in
    let here = node_at c.self.inside c.args.self.now c.place_of-place.result c.args.node c.index_mut.result.now c.self.view_is c.self.invariant c.place_of-place.ensures c.index_mut.ensures.value in
    keeps_start c.self.inside _ _ c.args.event.value c.args.node c.place_of-place.result c.start.new.self
    (record { seen = c.self.view_is; keeps = c.self.invariant; comes = c.requires.comes; wrote = c.in_ok-tell.ensures.ok; within = c.in_ok-tell.ensures.within; header = refl; ids = refl })
    c.place_of-place.ensures c.requires.is (sym (ap (λ (f : Facts). f.up) first) ∙ sym c.is_up.ensures ∙ c.if-is_up.false) refl
    (ap (λ (p : Planning). p.now) c.start.ensures ∙ ap after_start here)
    refl refl refl

pub returns-in_err-tell : goal.returns-in_err-tell
returns-in_err-tell c =
    let here = node_at c.self.inside c.args.self.now c.place_of-place.result c.args.node c.index.result.now c.self.view_is c.self.invariant c.place_of-place.ensures c.index.ensures in
    step_failed c.self.inside _ c.tell-2.new.self c.args.event.value _ c.tell-2.result c.from_residual.result _ c.self.view_is c.self.invariant
    (start_due c.self.inside _ c.args.event.value c.args.node c.self.view_is c.self.invariant c.requires.is (sym (ap (λ (f : Facts). f.up) here) ∙ sym c.is_up.ensures ∙ c.if-is_up.false))
    c.in_err-tell.was c.from_residual.ensures c.tell-2.ensures.ok c.tell-2.ensures.within c.tell-2.ensures.too_long c.tell-2.ensures.err

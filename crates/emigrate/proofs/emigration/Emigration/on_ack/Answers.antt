use Rattle.std.proofs.Common.{◌≡◌, ◌==◌, ◌+◌, ℕ, Bool, cond, List, Option, Some, None, get_or, count_by, set, slice_index, slice_set, sym, ap, subst, ◌∙◌}
use Rattle.std.specs.List.{position}
use Rattle.std.specs.Prelude.{IfSome}
use Rattle.node_rules.specs.Batches.{Target, Targets, acked_out, acking, has_number, out_to}
use Rattle.node_rules.specs.Copies.{is_of}
use Rattle.emigrate.specs.Going.{Going, IsNext}
use Rattle.emigrate.proofs.TargetLaws.{acked_node, apart_set, changing_at, changing_none, counts_set, no_place, none_out, out_found, placed}
use Rattle.emigrate.specs.declared.emigration.AckStep.{AckStep}
use Rattle.emigrate.specs.declared.emigration.AckStep.TheVariants.{Taken, Spent}
use Rattle.emigrate.proofs.emigration.Emigration.on_ack.Goals as goal

pub returns-in_default-clause-step : goal.returns-in_default-clause-step
returns-in_default-clause-step c =
    let ts = c.self.inside.targets.items in
    let none : position (λ (t : Target). t.node == c.args.from) ts ≡ None =
    ap (λ (k : Going). position (λ (t : Target). t.node == c.args.from) k.targets) c.self.view_is ∙ sym c.in_default.ensures in
    ap (λ b. cond {A = AckStep} b Taken Spent) (sym (none_out ts c.args.from c.args.number none))
    ∙ ap (λ (k : Going). cond {A = AckStep} (has_number (out_to k.targets c.args.from) c.args.number) Taken Spent) c.self.view_is

pub returns-in_default-clause-after : goal.returns-in_default-clause-after
returns-in_default-clause-after c =
    let ts = c.self.inside.targets.items in
    let none : position (λ (t : Target). t.node == c.args.from) ts ≡ None =
    ap (λ (k : Going). position (λ (t : Target). t.node == c.args.from) k.targets) c.self.view_is ∙ sym c.in_default.ensures in
    let going : Targets → Going = λ us. record { key = c.self.inside.key; targets = us } in
    let change : Target → Target = λ t. acked_out t c.args.number t.out in
    subst (λ (k : Going). k ≡ record k { targets = acking k.targets c.args.from c.args.number }) c.self.view_is
    (ap going (sym (changing_none ts c.args.from change (no_place ts c.args.from none))))

pub invariant_of-self : goal.invariant_of-self
invariant_of-self c =
    let ts = c.self.inside.targets.items in
    let found : position (λ (t : Target). t.node == c.args.from) ts ≡ Some c.in-Some.place =
    ap (λ (k : Going). position (λ (t : Target). t.node == c.args.from) k.targets) c.self.view_is ∙ sym c.in-Some.ensures in
    let place = c.in-Some.place in
    let d = c.index_mut.result.now in
    let is : d ≡ get_or ts place d = c.index_mut.ensures.value in
    let inside = (placed ts c.args.from place d found).0 in (
      apart_set ts place d c.acked.new.self c.self.invariant.0 inside
          (ap (λ (t : Target). t.node) c.acked.ensures.target ∙ acked_node d c.args.number d.out ∙ ap (λ (t : Target). t.node) is),
      counts_set ts place d c.acked.new.self c.self.inside.pending c.acked.new.counts c.self.invariant.1 inside
          (λ p within. ap (λ (t : Target). slice_index c.acked.new.counts p + count_by (is_of p) t.pending) (sym is) ∙ c.acked.ensures.counts p within),
    )

pub returns-clause-step : goal.returns-clause-step
returns-clause-step c =
    let ts = c.self.inside.targets.items in
    let found : position (λ (t : Target). t.node == c.args.from) ts ≡ Some c.in-Some.place =
    ap (λ (k : Going). position (λ (t : Target). t.node == c.args.from) k.targets) c.self.view_is ∙ sym c.in-Some.ensures in
    let place = c.in-Some.place in
    let d = c.index_mut.result.now in
    let is : d ≡ get_or ts place d = c.index_mut.ensures.value in
    c.acked.ensures.step
    ∙ ap (λ o. cond {A = AckStep} (has_number o c.args.number) Taken Spent) (sym (out_found ts c.args.from place d found c.self.invariant.0 is))
    ∙ ap (λ (k : Going). cond {A = AckStep} (has_number (out_to k.targets c.args.from) c.args.number) Taken Spent) c.self.view_is

pub returns-clause-after : goal.returns-clause-after
returns-clause-after c =
    let ts = c.self.inside.targets.items in
    let found : position (λ (t : Target). t.node == c.args.from) ts ≡ Some c.in-Some.place =
    ap (λ (k : Going). position (λ (t : Target). t.node == c.args.from) k.targets) c.self.view_is ∙ sym c.in-Some.ensures in
    let place = c.in-Some.place in
    let d = c.index_mut.result.now in
    let is : d ≡ get_or ts place d = c.index_mut.ensures.value in
    let at = placed ts c.args.from place d found in
    let going : Targets → Going = λ us. record { key = c.self.inside.key; targets = us } in
    let change : Target → Target = λ t. acked_out t c.args.number t.out in
    ap (λ (t : Target). going (slice_set ts place t)) (c.acked.ensures.target ∙ ap change is)
    ∙ ap going (changing_at ts place c.args.from d change at.0 at.1 c.self.invariant.0.apart)
    ∙ ap (λ (k : Going). record k { targets = acking k.targets c.args.from c.args.number }) c.self.view_is

use Rattle.std.proofs.Common.{◌≡◌, ◌==◌, ◌+◌, ℕ, Bool, cond, List, Option, Some, None, get_or, count_by, set, slice_index, slice_set, sym, ap, subst, ◌∙◌}
use Rattle.std.specs.List.{position}
use Rattle.std.specs.Prelude.{IfSome}
use Rattle.node_rules.specs.Batches.{Target, Targets, sending, target}
use Rattle.node_rules.specs.Copies.{is_of}
use Rattle.emigrate.specs.Going.{Going, IsNext}
use Rattle.emigrate.proofs.TargetLaws.{apart_set, changing_at, changing_none, counts_set, no_place, placed, target_found}
use Rattle.emigrate.proofs.emigration.Emigration.sent.Goals as goal

pub returns-in_default : goal.returns-in_default
returns-in_default c =
    let ts = c.self.inside.targets.items in
    let none : position (λ (t : Target). t.node == c.args.to) ts ≡ None =
    ap (λ (k : Going). position (λ (t : Target). t.node == c.args.to) k.targets) c.self.view_is ∙ sym c.in_default.ensures in
    let going : Targets → Going = λ us. record { key = c.self.inside.key; targets = us } in
    let change : Target → Target = λ t. record t { out = Some c.args.batch; batches = c.args.batch.number } in
    subst (λ (k : Going). k ≡ record k { targets = sending k.targets c.args.to c.args.batch }) c.self.view_is
    (ap going (sym (changing_none ts c.args.to change (no_place ts c.args.to none))))

pub sent-requires-clause-out : goal.sent-requires-clause-out
sent-requires-clause-out c =
    let ts = c.self.inside.targets.items in
    let found : position (λ (t : Target). t.node == c.args.to) ts ≡ Some c.in-Some.place =
    ap (λ (k : Going). position (λ (t : Target). t.node == c.args.to) k.targets) c.self.view_is ∙ sym c.in-Some.ensures in
    let place = c.in-Some.place in
    let d = c.index_mut.result.now in
    let is : d ≡ get_or ts place d = c.index_mut.ensures.value in
    let found_target : target c.args.self.now.targets c.args.to ≡ Some d =
    sym (ap (λ (k : Going). target k.targets c.args.to) c.self.view_is) ∙ target_found ts c.args.to place d found c.self.invariant.0 is in
    let next : IsNext c.args.self.now.key d c.args.batch =
    subst (λ (o : Option Target). IfSome o (λ t. IsNext c.args.self.now.key t c.args.batch)) found_target c.requires.next in
    next.out

pub sent-requires-clause-some : goal.sent-requires-clause-some
sent-requires-clause-some c =
    let ts = c.self.inside.targets.items in
    let found : position (λ (t : Target). t.node == c.args.to) ts ≡ Some c.in-Some.place =
    ap (λ (k : Going). position (λ (t : Target). t.node == c.args.to) k.targets) c.self.view_is ∙ sym c.in-Some.ensures in
    let place = c.in-Some.place in
    let d = c.index_mut.result.now in
    let is : d ≡ get_or ts place d = c.index_mut.ensures.value in
    let found_target : target c.args.self.now.targets c.args.to ≡ Some d =
    sym (ap (λ (k : Going). target k.targets c.args.to) c.self.view_is) ∙ target_found ts c.args.to place d found c.self.invariant.0 is in
    let next : IsNext c.args.self.now.key d c.args.batch =
    subst (λ (o : Option Target). IfSome o (λ t. IsNext c.args.self.now.key t c.args.batch)) found_target c.requires.next in
    next.some

pub sent-requires-clause-digests : goal.sent-requires-clause-digests
sent-requires-clause-digests c =
    let ts = c.self.inside.targets.items in
    let found : position (λ (t : Target). t.node == c.args.to) ts ≡ Some c.in-Some.place =
    ap (λ (k : Going). position (λ (t : Target). t.node == c.args.to) k.targets) c.self.view_is ∙ sym c.in-Some.ensures in
    let place = c.in-Some.place in
    let d = c.index_mut.result.now in
    let is : d ≡ get_or ts place d = c.index_mut.ensures.value in
    let found_target : target c.args.self.now.targets c.args.to ≡ Some d =
    sym (ap (λ (k : Going). target k.targets c.args.to) c.self.view_is) ∙ target_found ts c.args.to place d found c.self.invariant.0 is in
    let next : IsNext c.args.self.now.key d c.args.batch =
    subst (λ (o : Option Target). IfSome o (λ t. IsNext c.args.self.now.key t c.args.batch)) found_target c.requires.next in
    next.digests

pub invariant_of-self : goal.invariant_of-self
invariant_of-self c =
    let ts = c.self.inside.targets.items in
    let found : position (λ (t : Target). t.node == c.args.to) ts ≡ Some c.in-Some.place =
    ap (λ (k : Going). position (λ (t : Target). t.node == c.args.to) k.targets) c.self.view_is ∙ sym c.in-Some.ensures in
    let place = c.in-Some.place in
    let d = c.index_mut.result.now in
    let is : d ≡ get_or ts place d = c.index_mut.ensures.value in
    let inside = (placed ts c.args.to place d found).0 in (
      apart_set ts place d c.sent.new.self c.self.invariant.0 inside (ap (λ (t : Target). t.node) c.sent.ensures ∙ ap (λ (t : Target). t.node) is),
      counts_set ts place d c.sent.new.self c.self.inside.pending c.self.inside.pending c.self.invariant.1 inside
          (λ p within. ap (λ (t : Target). slice_index c.self.inside.pending p + count_by (is_of p) t.pending) (sym is) ∙ ap (λ (t : Target). slice_index c.self.inside.pending p + count_by (is_of p) t.pending) (sym c.sent.ensures)),
    )

pub returns : goal.returns
returns c =
    let ts = c.self.inside.targets.items in
    let found : position (λ (t : Target). t.node == c.args.to) ts ≡ Some c.in-Some.place =
    ap (λ (k : Going). position (λ (t : Target). t.node == c.args.to) k.targets) c.self.view_is ∙ sym c.in-Some.ensures in
    let place = c.in-Some.place in
    let d = c.index_mut.result.now in
    let is : d ≡ get_or ts place d = c.index_mut.ensures.value in
    let at = placed ts c.args.to place d found in
    let going : Targets → Going = λ us. record { key = c.self.inside.key; targets = us } in
    let change : Target → Target = λ t. record t { out = Some c.args.batch; batches = c.args.batch.number } in
    ap (λ (t : Target). going (slice_set ts place t)) (c.sent.ensures ∙ ap change is)
    ∙ ap going (changing_at ts place c.args.to d change at.0 at.1 c.self.invariant.0.apart)
    ∙ ap (λ (k : Going). record k { targets = sending k.targets c.args.to c.args.batch }) c.self.view_is

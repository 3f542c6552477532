use Rattle.std.proofs.Common.{◌-◌, ◌∙◌, sym, ap, refl, length, slice_get, arith}
use Rattle.std.specs.List.{insert}
use Rattle.std.proofs.lemmas.List.{length-set}
use Rattle.std.proofs.lemmas.List.Edits.{length-insert}
use Rattle.std.specs.declared.option.Option.TheVariants.{Some}
use Rattle.sorted_chain.specs.Nodes.{pays, pay}
use Rattle.sorted_chain.proofs.LinkLaws.{linked_none, linked_some, behind_is, map-insert, map-set_same}
use Rattle.sorted_chain.proofs.linked_list.LinkedList.link.Goals as goal

pub invariant_of-self-clause-linked : goal.invariant_of-self-clause-linked
invariant_of-self-clause-linked g c =
    let s = c.args.self.now in let b = s.boxes in
    linked_none s.head b.places _ b.items _ c.args.gap.index _ c.of.result.value s.linked b.paired c.requires.within (ap (λ n. n.next) c.of.ensures.value ∙ c.requires.next) c.insert.ensures.places c.insert.ensures.items (sym c.requires.before ∙ c.in-None.is)

pub get_mut-last-requires : goal.get_mut-last-requires
get_mut-last-requires g c =
    let b = c.args.self.now.boxes in
    ap (λ ps. slice_get ps (c.args.gap.index - 1)) c.insert.ensures.places ∙ behind_is b.places c.args.gap.index c.in-Some.at _ (omega (arith, c.requires.within, b.paired)) (sym c.requires.before ∙ c.in-Some.is)

pub invariant_of-self-in-Some-clause-linked : goal.invariant_of-self-in-Some-clause-linked
invariant_of-self-in-Some-clause-linked g c =
    let s = c.args.self.now in let b = s.boxes in
    linked_some s.head b.places _ b.items _ c.args.gap.index _ c.of.result.value s.linked b.paired c.requires.within (ap (λ n. n.next) c.of.ensures.value ∙ c.requires.next) c.insert.ensures.places c.insert.ensures.items c.in-Some.at c.get_mut-last.result.now (sym c.requires.before ∙ c.in-Some.is)

pub returns-in-None-clause-items : goal.returns-in-None-clause-items
returns-in-None-clause-items g c =
    let b = c.args.self.now.boxes in
    ap pays c.insert.ensures.items ∙ map-insert pay b.items c.args.gap.index c.of.result.value c.requires.within ∙ ap (insert (pays b.items) c.args.gap.index) (ap pay c.of.ensures.value ∙ ap pay c.deref_mut.ensures.value)

pub returns-in-Some-clause-items : goal.returns-in-Some-clause-items
returns-in-Some-clause-items g c =
    let b = c.args.self.now.boxes in
    map-set_same pay c.insert.new.self.items (c.args.gap.index - 1) c.get_mut-last.result.now _ c.get_mut-last.ensures.value refl
    ∙ ap pays c.insert.ensures.items ∙ map-insert pay b.items c.args.gap.index c.of.result.value c.requires.within ∙ ap (insert (pays b.items) c.args.gap.index) (ap pay c.of.ensures.value ∙ ap pay c.deref_mut.ensures.value)

pub invariant_of-self-in-Some-clause-counted : goal.invariant_of-self-in-Some-clause-counted
invariant_of-self-in-Some-clause-counted g c =
    let b = c.args.self.now.boxes in
    omega (arith, c.args.self.now.counted, ap length c.insert.ensures.items, length-insert b.items c.args.gap.index c.of.result.value c.requires.within, length-set c.insert.new.self.items (c.args.gap.index - 1) (record { key = c.get_mut-last.result.now.key; value = c.get_mut-last.result.now.value; next = Some c.insert.result.0 }))

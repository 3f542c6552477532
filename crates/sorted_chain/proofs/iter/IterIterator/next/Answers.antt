use Rattle.std.proofs.Common.{rules, ◌+◌, ◌<◌, length, drop, sym, ap, ◌∙◌, arith}
use Rattle.std.proofs.lemmas.Option.{slice_get_within}
use Rattle.sorted_chain.specs.Nodes.{pays, entries}
use Rattle.sorted_chain.proofs.LinkLaws.{both_none}
use Rattle.sorted_chain.proofs.NodeLaws.{no_blank, rest_at, rest_past}
use Rattle.sorted_chain.proofs.iter.IterIterator.next.Goals as goal

pub returns-in_default-clause-steps : goal.returns-in_default-clause-steps
returns-in_default-clause-steps g c =
    let b = c.self.inside.records.now.boxes in
    let i = c.self.inside.index in
    let past = both_none b.places b.items i b.paired (sym c.self.invariant.1 ∙ c.in_default.is) in
    let none = sym c.self.view_is ∙ rest_past b.items c.self.invariant.0 i past in (none, none)

pub returns-in_default-value-clause-steps : goal.returns-in_default-value-clause-steps
returns-in_default-value-clause-steps g c =
    let b = c.self.inside.records.now.boxes in
    absurd (no_blank b.items c.self.invariant.0 c.self.inside.index c.node-node.result.now c.node-node.ensures.node c.in_default-value.is)

pub overflow_add-self : goal.overflow_add-self
overflow_add-self g c =
    let list = c.self.inside.records.now in
    let within : c.self.inside.index < length list.boxes.items = slice_get_within list.boxes.items c.self.inside.index c.node-node.result.now c.node-node.ensures.node in
    omega (arith, within, list.counted, list.small)

pub returns-clause-steps : goal.returns-clause-steps
returns-clause-steps g c =
    let b = c.self.inside.records.now.boxes in
    let n = c.node-node.result.now in
    sym c.self.view_is ∙ rest_at b.items c.self.invariant.0 c.self.inside.index n c.node-node.ensures.node c.in-Some-value.value c.in-Some-value.is

pub returns-clause-goes : goal.returns-clause-goes
returns-clause-goes g c =
    let b = c.self.inside.records.now.boxes in
    let i = c.self.inside.index in
    let n = c.node-node.result.now in
    let rest = sym c.self.view_is ∙ rest_at b.items c.self.invariant.0 i n c.node-node.ensures.node c.in-Some-value.value c.in-Some-value.is in
    let less : length (drop (i + 1) (entries (pays b.items))) < length c.args.self.now = omega (arith, ap length rest) in
    record {
      on = λ _. (tt, tt, less);
      keeps = tt;
      rests = λ _. tt;
    }

pub invariant_of-self : goal.invariant_of-self
invariant_of-self g c = search rules

use Rattle.std.proofs.Common.{◌∙◌, ap}
use Rattle.sorted_chain.specs.Nodes.{pays}
use Rattle.sorted_chain.proofs.LinkLaws.{linked_popped, none_linked}
use Rattle.sorted_chain.proofs.linked_list.LinkedList.pop.Goals as goal

pub invariant_of-self-clause-linked : goal.invariant_of-self-clause-linked
invariant_of-self-clause-linked g c =
    let s = c.args.self.now in let b = s.boxes in
    linked_popped s.head b.places _ b.items _ s.linked b.paired c.remove.result.value c.deref.result.now c.remove.ensures.value (c.deref.ensures ∙ c.into_box-node.ensures.value) c.remove.ensures.places c.remove.ensures.items

pub returns-in-None-clause-items : goal.returns-in-None-clause-items
returns-in-None-clause-items g c =
    let s = c.args.self.now in let b = s.boxes in
    let e = ap pays (none_linked s.head b.places b.places b.items b.items s.linked b.paired c.in-None.is) in (e, e)

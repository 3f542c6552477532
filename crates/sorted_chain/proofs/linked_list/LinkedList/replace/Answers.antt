use Rattle.std.proofs.Common.{◌∙◌, ap, slice_set}
use Rattle.sorted_chain.specs.Nodes.{pays, pay}
use Rattle.sorted_chain.proofs.LinkLaws.{map-get, set-image}
use Rattle.sorted_chain.proofs.linked_list.LinkedList.replace.Goals as goal

pub returns-clause-items : goal.returns-clause-items
returns-clause-items g c =
    let b = c.args.self.now.boxes in let n = c.get_mut-node.result.now in
    rw (map-get pay b.items c.args.i n c.get_mut-node.ensures.value) (c.replace.ensures.value, set-image pay b.items c.args.i _ ∙ ap (λ v. slice_set (pays b.items) c.args.i (n.key, v)) c.replace.ensures.after)

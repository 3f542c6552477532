use Rattle.std.proofs.Common.{sym, ap, ◌∙◌}
use Rattle.std.specs.FinMap.{find}
use Rattle.sorted_chain.specs.Chain.{key_cmp}
use Rattle.sorted_chain.proofs.NodeLaws.{found_at}
use Rattle.sorted_chain.proofs.PlaceLaws.{find_gap}
use Rattle.sorted_chain.proofs.chain.SortedChain.find.Goals as goal

pub returns-in-Ok : goal.returns-in-Ok
returns-in-Ok g c =
    let b = c.self.inside.records.boxes in
    let k = c.args.k.now in
    let found = found_at b.items c.self.invariant.0 c.in-Ok.here.index c.node.result.now c.node.ensures.node k c.self.invariant.1 c.in-Ok.ensures.here in
    c.as_ref.ensures.value ∙ found ∙ ap (λ seen. find key_cmp k seen.items) c.self.view_is

pub returns-in-Err : goal.returns-in-Err
returns-in-Err g c =
    let k = c.args.k.now in
    sym (find_gap k _ _ c.in-Err.ensures.gap) ∙ ap (λ seen. find key_cmp k seen.items) c.self.view_is

use Rattle.std.proofs.Common.{◌<◌, ℕ, List, length, subst, sym}
use Rattle.partition_lists.specs.Lists.{list}
use Rattle.partition_lists.proofs.ViewListLaws.{list_some}
use Rattle.exchange.proofs.ServedLaws.{empty_served}
use Rattle.exchange.proofs.served.who_serves.Goals as goal

pub returns-then-all_empty : goal.returns-then-all_empty
returns-then-all_empty c =
    empty_served (list c.args.lists.now c.args.p) c.args.states.now c.as_slice.result.now c.master.result c.are_empty-all_empty.result
    c.as_slice.ensures.same c.master.ensures c.if-all_empty.true c.are_empty-all_empty.ensures

pub acting-requires : goal.acting-requires
acting-requires c = subst (λ (l : List ℕ). 0 < length l) (sym c.list.ensures) (list_some c.args.lists.now c.args.p c.requires)

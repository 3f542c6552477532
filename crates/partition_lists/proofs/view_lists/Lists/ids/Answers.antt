use Rattle.std.proofs.Common.{◌∙◌, ◌<◌, length, arith, rules, subst, sym, ℕ, List}
use Rattle.cluster_types.specs.Members.{AreMembers}
use Rattle.cluster_types.specs.NodeLists.{IsNodeList}
use Rattle.partition_lists.proofs.ViewListLaws.{list_some, list_valid, part_fits, part_is}
use Rattle.partition_lists.proofs.view_lists.Lists.ids.Goals as goal

pub slice_bounds-result-end : goal.slice_bounds-result-end
slice_bounds-result-end c =
    let fits = part_fits c.self.inside.members c.from.result c.len-size.result c.deref.result.now (omega arith) c.len-size.ensures.range.0 c.len-size.ensures.value (c.deref.ensures.value ∙ c.self.invariant.1) in
    search rules

pub returns-clause-same : goal.returns-clause-same
returns-clause-same c =
    part_is c.self.inside.members c.args.self.now c.from.result c.args.p c.len-size.result c.deref.result.now
    (c.from.ensures ∙ c.number.ensures.same) (omega arith) c.len-size.ensures.value c.self.view_is (c.deref.ensures.value ∙ c.self.invariant.1)

pub returns-clause-valid : goal.returns-clause-valid
returns-clause-valid c = subst IsNodeList (sym (returns-clause-same c)) (list_valid c.args.self.now c.args.p (subst AreMembers c.self.view_is c.self.invariant.0))

pub returns-clause-some : goal.returns-clause-some
returns-clause-some c = subst (λ (l : List ℕ). 0 < length l) (sym (returns-clause-same c)) (list_some c.args.self.now c.args.p (subst AreMembers c.self.view_is c.self.invariant.0))

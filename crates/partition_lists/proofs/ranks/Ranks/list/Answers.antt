use Rattle.std.proofs.Common.{List, sym, ap, subst, ◌∙◌, map}
use Rattle.cluster_types.specs.declared.member.Member.{Member}
use Rattle.cluster_types.proofs.DistinctLaws.{descending_distinct}
use Rattle.partition_lists.specs.declared.ranks.Rank.{Rank}
use Rattle.partition_lists.specs.declared.ranks.Candidate.{Candidate}
use Rattle.partition_lists.specs.Candidates.{rank_in}
use Rattle.partition_lists.specs.Lists.{in_order, list, IsListOf}
use Rattle.partition_lists.specs.Ranks.{is_smaller}
use Rattle.partition_lists.proofs.ListLaws.{candidates_distinct, list-candidates, list_IsListOf}
use Rattle.partition_lists.proofs.ranks.Ranks.list.Goals as goal

pub ids_by_rank-requires-clause-distinct : goal.ids_by_rank-requires-clause-distinct
ids_by_rank-requires-clause-distinct c =
    rw (c.place_members.ensures, c.as_slice-members.ensures.same)
    (candidates_distinct c.self.inside.members c.args.p (descending_distinct _ c.as_slice-members.ensures.valid.descending))

pub returns-clause-value : goal.returns-clause-value
returns-clause-value c =
    c.ids_by_rank.ensures
    ∙ ap (λ (candidates : List Candidate). map (λ (r : Rank). r.id) (in_order is_smaller (map (rank_in candidates) candidates))) c.place_members.ensures
    ∙ sym (list-candidates c.as_slice-members.result.now c.args.p)
    ∙ ap (λ (members : List Member). list members c.args.p) (c.as_slice-members.ensures.same ∙ c.self.view_is)

pub returns-clause-placed : goal.returns-clause-placed
returns-clause-placed c = subst (IsListOf c.args.self.now c.args.p) (sym (returns-clause-value c)) (list_IsListOf c.args.self.now c.args.p (rw (← c.self.view_is) (descending_distinct _ c.as_slice-members.ensures.valid.descending)))

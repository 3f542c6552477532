use Rattle.std.proofs.Common.{ℕ, map, subst, sym, ap, ◌∙◌}
use Rattle.std.specs.Prelude.{All, nat_lt, ◌<◌}
use Rattle.cluster_types.specs.Distinct.{AreDistinct}
use Rattle.partition_lists.specs.Candidates.{rank_in}
use Rattle.partition_lists.specs.Lists.{in_order}
use Rattle.partition_lists.specs.RankKeys.{RankFits, id_in}
use Rattle.partition_lists.specs.Ranks.{is_smaller}
use Rattle.partition_lists.proofs.InOrderLaws.{each_in_order}
use Rattle.partition_lists.proofs.KeyLaws.{ids_of_keys, keys_in_order, keys_name_nodes, ranks_fit}
use Rattle.partition_lists.proofs.ListLaws.{ranked_distinct}
use Rattle.partition_lists.proofs.ranks.ids_by_rank.Goals as goal

pub sort-requires : goal.sort-requires
sort-requires c =
    let ranks = map (rank_in c.args.candidates.now) c.args.candidates.now in
    rw c.rank_candidates.ensures
    (subst AreDistinct (sym (ids_of_keys ranks (ranks_fit c.args.candidates.now c.args.candidates.now c.candidates_fit.ensures))) (ranked_distinct c.args.candidates.now c.requires.distinct))

pub ids_of-requires-clause-nodes : goal.ids_of-requires-clause-nodes
ids_of-requires-clause-nodes c =
    let ranks = map (rank_in c.args.candidates.now) c.args.candidates.now in
    let fit = ranks_fit c.args.candidates.now c.args.candidates.now c.candidates_fit.ensures in
    let sorted = c.sort.ensures.order ∙ ap (in_order nat_lt) c.rank_candidates.ensures ∙ keys_in_order ranks fit in
    subst (All (λ (key : ℕ). 0 < id_in key)) (sym sorted) (keys_name_nodes (in_order is_smaller ranks) (each_in_order is_smaller RankFits ranks fit))

pub returns : goal.returns
returns c =
    let ranks = map (rank_in c.args.candidates.now) c.args.candidates.now in
    let fit = ranks_fit c.args.candidates.now c.args.candidates.now c.candidates_fit.ensures in
    let sorted = c.sort.ensures.order ∙ ap (in_order nat_lt) c.rank_candidates.ensures ∙ keys_in_order ranks fit in
    c.ids_of.ensures ∙ ap (map id_in) sorted ∙ ids_of_keys (in_order is_smaller ranks) (each_in_order is_smaller RankFits ranks fit)

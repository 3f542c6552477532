use Rattle.std.proofs.Common.{ℕ, List, Bool, ap, subst, ◌∙◌}
use Rattle.std.specs.Prelude.{MatchOption}
use Rattle.cluster_types.specs.RowBytes.{bits_of}
use Rattle.cluster_types.specs.Rows.{IsClearFrom, IsNextSet}
use Rattle.cluster_types.proofs.RowPlaces.{next_from}
use Rattle.cluster_types.proofs.row.Row4096.next_set.Goals as goal

pub returns : goal.returns
returns c =
    subst (λ (row : List Bool). MatchOption c.new.result (IsClearFrom row c.args.from) (λ (p : ℕ). IsNextSet row c.args.from p))
    (ap bits_of c.as_slice.ensures ∙ c.self.view_is)
    (next_from c.as_slice.result.now c.args.from c.next_place.result c.new.result c.new.ensures c.next_place.ensures.none_before c.next_place.ensures.set)

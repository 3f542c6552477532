use Rattle.std.proofs.Common.{◌≤◌, ◌∙◌, List, length, refl, subst, sym}
use Rattle.node_rules.specs.declared.member_row.MemberRow.{MemberRow}
use Rattle.exchange.proofs.PlaceLaws.{first_places}
use Rattle.exchange.proofs.RowsLaws.{rows_limit}
use Rattle.exchange.proofs.ServedLaws.{filled}
use Rattle.exchange.proofs.served.fill.Goals as goal

pub slice_bounds-places-end : goal.slice_bounds-places-end
slice_bounds-places-end c = subst (λ (rs : List MemberRow). length rs ≤ 16) (sym c.as_slice-rows.ensures.value) (rows_limit _ _ _ _ c.requires.rows)

pub slice_bounds-fill_from-end : goal.slice_bounds-fill_from-end
slice_bounds-fill_from-end c =
    sym (first_places c.as_slice-rows.result.now (length c.as_slice-rows.result.now) refl (subst (λ (rs : List MemberRow). length rs ≤ 16) (sym c.as_slice-rows.ensures.value) (rows_limit _ _ _ _ c.requires.rows))).size

pub fill_from-requires-clause-limit : goal.fill_from-requires-clause-limit
fill_from-requires-clause-limit c = subst (λ (rs : List MemberRow). length rs ≤ 16) (sym c.as_slice-rows.ensures.value) (rows_limit _ _ _ _ c.requires.rows)

pub fill_from-requires-clause-places : goal.fill_from-requires-clause-places
fill_from-requires-clause-places c =
    first_places c.as_slice-rows.result.now (length c.as_slice-rows.result.now) refl (subst (λ (rs : List MemberRow). length rs ≤ 16) (sym c.as_slice-rows.ensures.value) (rows_limit _ _ _ _ c.requires.rows))

pub returns : goal.returns
returns c =
    filled c.args.view.now.me c.args.view.now.lists c.args.view.now.rows.items c.as_slice-rows.result.now c.fill_from.new.room _
    c.requires.rows c.as_slice-rows.ensures.value (c.fill_from.auto.room ∙ c.requires.size) c.fill_from.ensures

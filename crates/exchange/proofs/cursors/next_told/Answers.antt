use Rattle.std.proofs.Common.{◌≡◌, ◌≤◌, length, ap, arith, subst, sym, ◌∙◌}
use Rattle.cluster_types.specs.StateRows.{IsStateRow}
use Rattle.node_rules.specs.declared.member_row.MemberRow.{MemberRow}
use Rattle.exchange.proofs.PlaceLaws.{next_more, rising_more}
use Rattle.exchange.proofs.cursors.next_told.Goals as goal

pub loop-i-preserved : goal.loop-i-preserved
loop-i-preserved c =
    let rows = c.args.rows.now in
    let i = c.loop-i.i in
    let r = c.index-rows-i.result in
    let before = c.loop-i.invariant in
    let rising : IsStateRow r.row = subst (λ (x : MemberRow). IsStateRow x.row) (sym c.index-rows-i.is) c.entries.ensures.valid in
    let same : c.entries.result.now ≡ r.row = c.entries.ensures.same ∙ ap (λ (x : MemberRow). x.row) (sym c.index-rows-i.is) in
    let low : c.min-next.result ≤ c.loop-i.next = omega (arith, c.min-next.ensures) in
    let lower : c.min-next.result ≤ c.next_in.result = omega (arith, c.min-next.ensures) in
    record {
      rising = rising_more rows i r c.loop-i-test.true c.index-rows-i.is rising before.rising;
      next_in = next_more rows c.args.places.now i c.loop-i.next c.next_in.result c.min-next.result r c.entries.result.now c.loop-i-test.true c.index-rows-i.is same low lower c.next_in.ensures before.next_in;
    }

pub returns : goal.returns
returns c =
    let whole : length c.args.rows.now ≤ c.loop-i.i = omega (arith, c.loop-i-test.false) in
    record {
      rising = λ k d within. c.loop-i.invariant.rising k d (omega (arith, within, whole)) within;
      next_in = λ k d within. c.loop-i.invariant.next_in k d (omega (arith, within, whole)) within;
    }

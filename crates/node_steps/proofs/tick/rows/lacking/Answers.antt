use Rattle.std.proofs.Common.{◌≡◌, ◌<◌, ◌≤◌, Bool, ℕ, length, ap, sym, ◌∙◌, arith}
use Rattle.cluster_types.specs.NodeLists.{IsNodeList}
use Rattle.node_rules.specs.Agreement.{others_among}
use Rattle.node_rules.specs.Exchange.{members_of}
use Rattle.node_rules.specs.Map.{lacks}
use Rattle.node_steps.proofs.MemberLaws.{filter_fresh, filter_kept, filter_left, filter_short_so_far, not_false, not_true, other_is_member, other_is_other}
use Rattle.node_steps.proofs.tick.rows.lacking.Goals.{then-not-has_row, else-not-has_row}
use Rattle.node_steps.proofs.tick.rows.lacking.Goals as goal

pub has_row-requires : goal.has_row-requires
has_row-requires c =
    let v = c.args.view.now in
    let ms = members_of v.exchange.view in
    let same : c.as_slice-n-items.result.now ≡ others_among v.me ms = c.as_slice-n-items.ensures.same ∙ c.others.ensures in
    let within : c.loop-n.n-index < length (others_among v.me ms) = rw
    (← same) c.loop-n-test.true in
    let is = rw same at c.n-item.is in
    record {
      member = other_is_member v.me ms c.loop-n.n-index c.n-item.result within is;
      other = other_is_other v.me ms c.loop-n.n-index c.n-item.result within is;
    }

pub push-requires-clause-room : goal.push-requires-clause-room
push-requires-clause-room c =
    let xs = c.as_slice-n-items.result.now in
    let p : ℕ → Bool = lacks c.args.view.now.exchange.rows in
    let limit : length xs ≤ 16 = rw c.as_slice-n-items.ensures.same c.as_slice-n-items.ensures.valid.limit in
    omega (arith, ap length c.loop-n.invariant, filter_short_so_far p xs c.loop-n.n-index c.loop-n-test.true, limit)

pub push-requires-clause-new : goal.push-requires-clause-new
push-requires-clause-new c =
    let xs = c.as_slice-n-items.result.now in
    let valid : IsNodeList xs = rw c.as_slice-n-items.ensures.same c.as_slice-n-items.ensures.valid in
    rw c.loop-n.invariant (filter_fresh (lacks c.args.view.now.exchange.rows) xs c.loop-n.n-index c.n-item.result c.loop-n-test.true c.n-item.is valid.distinct)

pub loop-n-preserved : goal.loop-n-preserved
loop-n-preserved c =
    let xs = c.as_slice-n-items.result.now in
    let p : ℕ → Bool = lacks c.args.view.now.exchange.rows in
    elim c.if-not-has_row.branch [
      | then-not-has_row w ↦
          filter_kept p xs c.loop-n.n-index c.n-item.result c.loop-n.lacking c.if-not-has_row.lacking c.loop-n-test.true c.n-item.is c.loop-n.invariant
          (not_false (p c.n-item.result) (sym w.if-not-has_row.true ∙ c.has_row.ensures)) (w.lacking-is ∙ w.push.ensures)
      | else-not-has_row w ↦
          filter_left p xs c.loop-n.n-index c.n-item.result c.loop-n.lacking c.if-not-has_row.lacking c.loop-n-test.true c.n-item.is c.loop-n.invariant
          (not_true (p c.n-item.result) (sym w.if-not-has_row.false ∙ c.has_row.ensures)) w.lacking-is
    ]

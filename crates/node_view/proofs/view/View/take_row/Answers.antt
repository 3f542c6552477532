use Rattle.std.proofs.Common.{◌≡◌, true, false, sym, ap, subst}
use Rattle.std.specs.Prelude.{is_none}
use Rattle.node_rules.specs.Exchange.{Exchange, first_missing, is_member, members_of, with_row}
use Rattle.node_view.specs.Views.{Viewed, exchange_at}
use Rattle.node_view.proofs.MissingLaws.{listed}
use Rattle.node_view.proofs.WaitingLaws.{more_waits}
use Rattle.node_view.proofs.view.View.take_row.Goals as goal

pub take_waiting-waiting-requires : goal.take_waiting-waiting-requires
take_waiting-waiting-requires c =
    let v = c.self.inside in
    let from = c.args.from in
    let member = subst (λ (w : Viewed). is_member (members_of w.exchange.view) from ≡ true) (sym c.self.view_is) c.requires.member.member in
    let more = subst (λ (w : Viewed). is_none (first_missing (with_row w.exchange.rows from c.args.row) (members_of w.exchange.view)) ≡ false) (sym c.self.view_is) c.requires.waiting in
    more_waits v.me v.factor v.key v.stage from c.args.row c.self.invariant.stage_of member more

pub on_state-requires : goal.on_state-requires
on_state-requires c =
    let from = c.args.from in
    let member = subst (λ (w : Viewed). is_member (members_of w.exchange.view) from ≡ true) (sym c.self.view_is) c.requires.member.member in
    let here = ap exchange_at (c.take_waiting-waiting.ensures) in
    listed (members_of c.take_waiting-waiting.result.exchange.view) from (subst (λ (x : Exchange). is_member (members_of x.view) from ≡ true) here member)

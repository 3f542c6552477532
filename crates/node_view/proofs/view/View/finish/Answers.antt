use Rattle.std.proofs.Common.{◌≡◌, true, sym, ap, subst, ◌∙◌}
use Rattle.std.specs.Prelude.{is_none}
use Rattle.exchange.specs.Served.{AreServed}
use Rattle.node_rules.specs.Exchange.{Exchange, first_missing, is_member, members_of, with_row}
use Rattle.node_rules.specs.Map.{lacks}
use Rattle.node_view.specs.Views.{Viewed, exchange_at}
use Rattle.node_view.proofs.MissingLaws.{listed}
use Rattle.node_view.proofs.WaitingLaws.{lacking_waits, none_is}
use Rattle.node_view.proofs.view.View.finish.Goals as goal

pub take_waiting-waiting-requires : goal.take_waiting-waiting-requires
take_waiting-waiting-requires c =
    let v = c.self.inside in
    let from = c.args.last.from in
    let member = subst (λ (w : Viewed). is_member (members_of w.exchange.view) from ≡ true) (sym c.self.view_is) c.requires.member.member in
    let absent = subst (λ (w : Viewed). lacks w.exchange.rows from ≡ true) (sym c.self.view_is) c.requires.lacking in
    lacking_waits v.me v.factor v.key v.stage from c.self.invariant.stage_of member absent

pub finish-requires-clause-member : goal.finish-requires-clause-member
finish-requires-clause-member c =
    let seen : c.args.self.now.exchange ≡ c.take_waiting-waiting.result.exchange = ap (λ (w : Viewed). w.exchange) (sym c.self.view_is) ∙ ap exchange_at (c.take_waiting-waiting.ensures) in
    listed (members_of c.take_waiting-waiting.result.exchange.view) c.args.last.from (subst (λ (x : Exchange). is_member (members_of x.view) c.args.last.from ≡ true) seen c.requires.member.member)

pub finish-requires-clause-lacking : goal.finish-requires-clause-lacking
finish-requires-clause-lacking c =
    let seen : c.args.self.now.exchange ≡ c.take_waiting-waiting.result.exchange = ap (λ (w : Viewed). w.exchange) (sym c.self.view_is) ∙ ap exchange_at (c.take_waiting-waiting.ensures) in
    subst (λ (x : Exchange). lacks x.rows c.args.last.from ≡ true) seen c.requires.lacking

pub finish-requires-clause-whole : goal.finish-requires-clause-whole
finish-requires-clause-whole c =
    let l = c.args.last in
    let seen : c.args.self.now.exchange ≡ c.take_waiting-waiting.result.exchange = ap (λ (w : Viewed). w.exchange) (sym c.self.view_is) ∙ ap exchange_at (c.take_waiting-waiting.ensures) in
    none_is _ (subst (λ (x : Exchange). is_none (first_missing (with_row x.rows l.from l.row) (members_of x.view)) ≡ true) seen c.requires.last)

pub finish-requires-clause-served : goal.finish-requires-clause-served
finish-requires-clause-served c =
    let l = c.args.last in
    let seen : c.args.self.now.exchange ≡ c.take_waiting-waiting.result.exchange = ap (λ (w : Viewed). w.exchange) (sym c.self.view_is) ∙ ap exchange_at (c.take_waiting-waiting.ensures) in
    subst (λ (x : Exchange). AreServed (members_of x.view) (with_row x.rows l.from l.row) l.served) seen c.requires.served

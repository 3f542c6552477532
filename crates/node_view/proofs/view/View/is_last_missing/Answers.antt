use Rattle.std.proofs.Common.{◌≡◌, ◌==◌, ◌&&◌, Bool, true, false, List, [], sym, ap, subst, ◌∙◌}
use Rattle.std.specs.Prelude.{is_none}
use Rattle.std.specs.Bool.{beq}
use Rattle.std.specs.List.{list_all}
use Rattle.std.proofs.lemmas.Bool.{not-false}
use Rattle.cluster_types.specs.declared.member.Member.{Member}
use Rattle.node_rules.specs.Agreement.{others_among}
use Rattle.node_rules.specs.Exchange.{Exchange, first_missing, is_member, members_of, with_row}
use Rattle.node_rules.specs.Map.{lacks}
use Rattle.node_view.specs.Views.{Viewed}
use Rattle.node_view.proofs.MissingLaws.{last_missing}
use Rattle.node_view.proofs.WaitingLaws.{exchanged_has}
use Rattle.node_view.proofs.view.View.is_last_missing.Goals as goal

pub returns-in-None : goal.returns-in-None
returns-in-None c =
    let v = c.self.inside in
    let x = c.args.self.now.exchange in
    let from = c.args.from in
    let finished = not-false x.exchanged (sym c.in-None.ensures.some) in
    let done = subst (λ (w : Viewed). w.exchange.exchanged ≡ true) (sym c.self.view_is) finished in
    let member = subst (λ (w : Viewed). is_member (members_of w.exchange.view) from ≡ true) (sym c.self.view_is) c.requires.member in
    let there = subst (λ (w : Viewed). lacks w.exchange.rows from ≡ false) c.self.view_is (exchanged_has v.me v.factor v.key v.stage from c.self.invariant.stage_of done member) in
    sym (ap (λ (b : Bool). b && is_none (first_missing (with_row x.rows from []) (members_of x.view))) there)

pub returns-in-Some : goal.returns-in-Some
returns-in-Some c =
    let v = c.self.inside in
    let x = c.args.self.now.exchange in
    let from = c.args.from in
    let own = ap (λ (w : Viewed). w.me) c.self.view_is in
    let all = c.self.invariant.viewed ∙ ap (λ (w : Viewed). members_of w.exchange.view) c.self.view_is in
    let there = ap (lacks x.rows) own ∙ ap is_none (sym c.own_row.ensures) in
    c.lacks_alone.ensures
    ∙ ap (λ (y : Exchange). list_all (λ n. beq (n == from) (lacks y.rows n)) v.others) c.in-Some.ensures.exchange
    ∙ ap (list_all (λ n. beq (n == from) (lacks x.rows n))) c.self.invariant.others
    ∙ ap (λ (ms : List Member). list_all (λ n. beq (n == from) (lacks x.rows n)) (others_among v.me ms)) all
    ∙ last_missing v.me from x.rows [] (members_of x.view) c.requires.member (λ i. c.requires.other (i ∙ own)) there

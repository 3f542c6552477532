use Rattle.std.proofs.Common.{◌≡◌, Contains, true, refl, sym, ap, subst, ◌∙◌}
use Rattle.cluster_types.specs.Members.{ids_of}
use Rattle.exchange.specs.Met.{Met, met_members}
use Rattle.exchange.specs.Served.{AreServed}
use Rattle.node_rules.specs.Exchange.{Exchange, is_member, members_of, with_row}
use Rattle.node_rules.specs.Map.{lacks}
use Rattle.node_view.specs.declared.view.Stage.{Stage}
use Rattle.node_view.specs.Views.{FieldsAgree, IsStageOf, Viewed, exchange_at, view_of}
use Rattle.node_view.proofs.HandingLaws.{hands_on, is_before, row_back, stage_back}
use Rattle.node_view.proofs.MissingLaws.{listed}
use Rattle.node_view.proofs.WaitingLaws.{lacking_waits}
use Rattle.node_view.proofs.view.View.plan_last_row.Goals as goal

pub take_waiting-waiting-requires : goal.take_waiting-waiting-requires
take_waiting-waiting-requires c =
    let v = c.self.inside in
    let from = c.args.from in
    let member = subst (λ (w : Viewed). is_member (members_of w.exchange.view) from ≡ true) (sym c.self.view_is) c.requires.member.member in
    let absent = subst (λ (w : Viewed). lacks w.exchange.rows from ≡ true) (sym c.self.view_is) c.requires.lacking in
    lacking_waits v.me v.factor v.key v.stage from c.self.invariant.stage_of member absent

pub on_state-requires : goal.on_state-requires
on_state-requires c =
    let from = c.args.from in
    let member = subst (λ (w : Viewed). is_member (members_of w.exchange.view) from ≡ true) (sym c.self.view_is) c.requires.member.member in
    let here = ap exchange_at (c.take_waiting-waiting.ensures) in
    listed (members_of c.take_waiting-waiting.result.exchange.view) from (subst (λ (x : Exchange). is_member (members_of x.view) from ≡ true) here member)

pub without_last-waiting-requires-clause-member : goal.without_last-waiting-requires-clause-member
without_last-waiting-requires-clause-member c =
    let from = c.args.from in
    let x = c.take_waiting-waiting.result in
    let at = c.take_waiting-waiting.ensures in
    let before = is_before c.self.inside c.args.self.now x c.in-Complete.map from c.args.row c.self.view_is c.self.invariant at c.requires.lacking c.in-Complete.ensures in
    let member = subst (λ (w : Viewed). is_member (members_of w.exchange.view) from ≡ true) (sym c.self.view_is) c.requires.member.member in
    let here = subst (λ (y : Exchange). is_member (members_of y.view) from ≡ true) (ap exchange_at at) member in
    subst (λ (m : Met). Contains (ids_of (met_members m)) from) (sym before.whole) (listed (members_of x.exchange.view) from here)

pub invariant_of-self : goal.invariant_of-self
invariant_of-self c =
    let v = c.self.inside in
    let x = c.take_waiting-waiting.result in
    let at = c.take_waiting-waiting.ensures in
    let before = is_before v c.args.self.now x c.in-Complete.map c.args.from c.args.row c.self.view_is c.self.invariant at c.requires.lacking c.in-Complete.ensures in
    let back = stage_back v.stage x c.in-Complete.map c.without_last-waiting.result.0 c.args.from c.args.row at before c.without_last-waiting.ensures.exchanging in
    subst (λ (s : Stage). FieldsAgree (record v { stage = s })) (sym (c.put.ensures ∙ back)) c.self.invariant

pub returns-in_err-served-clause-same : goal.returns-in_err-served-clause-same
returns-in_err-served-clause-same c =
    let v = c.self.inside in
    let x = c.take_waiting-waiting.result in
    let at = c.take_waiting-waiting.ensures in
    let before = is_before v c.args.self.now x c.in-Complete.map c.args.from c.args.row c.self.view_is c.self.invariant at c.requires.lacking c.in-Complete.ensures in
    let back = stage_back v.stage x c.in-Complete.map c.without_last-waiting.result.0 c.args.from c.args.row at before c.without_last-waiting.ensures.exchanging in
    ap (λ (s : Stage). view_of (record v { stage = s })) (c.put.ensures ∙ back) ∙ c.self.view_is

pub invariant_of-self-in_err-begun : goal.invariant_of-self-in_err-begun
invariant_of-self-in_err-begun c =
    let v = c.self.inside in
    let x = c.take_waiting-waiting.result in
    let at = c.take_waiting-waiting.ensures in
    let before = is_before v c.args.self.now x c.in-Complete.map c.args.from c.args.row c.self.view_is c.self.invariant at c.requires.lacking c.in-Complete.ensures in
    let back = stage_back v.stage x c.in-Complete.map c.without_last-waiting.result.0 c.args.from c.args.row at before c.without_last-waiting.ensures.exchanging in
    subst (λ (s : Stage). FieldsAgree (record v { stage = s })) (sym (c.put.ensures ∙ back)) c.self.invariant

pub returns-in_err-begun-clause-same : goal.returns-in_err-begun-clause-same
returns-in_err-begun-clause-same c =
    let v = c.self.inside in
    let x = c.take_waiting-waiting.result in
    let at = c.take_waiting-waiting.ensures in
    let before = is_before v c.args.self.now x c.in-Complete.map c.args.from c.args.row c.self.view_is c.self.invariant at c.requires.lacking c.in-Complete.ensures in
    let back = stage_back v.stage x c.in-Complete.map c.without_last-waiting.result.0 c.args.from c.args.row at before c.without_last-waiting.ensures.exchanging in
    ap (λ (s : Stage). view_of (record v { stage = s })) (c.put.ensures ∙ back) ∙ c.self.view_is

pub invariant_of-self-2 : goal.invariant_of-self-2
invariant_of-self-2 c =
    let v = c.self.inside in
    let x = c.take_waiting-waiting.result in
    let at = c.take_waiting-waiting.ensures in
    let before = is_before v c.args.self.now x c.in-Complete.map c.args.from c.args.row c.self.view_is c.self.invariant at c.requires.lacking c.in-Complete.ensures in
    let back = stage_back v.stage x c.in-Complete.map c.without_last-waiting.result.0 c.args.from c.args.row at before c.without_last-waiting.ensures.exchanging in
    subst (λ (s : Stage). FieldsAgree (record v { stage = s })) (sym (c.put.ensures ∙ back)) c.self.invariant

pub returns-clause-row : goal.returns-clause-row
returns-clause-row c =
    let v = c.self.inside in
    let x = c.take_waiting-waiting.result in
    let at = c.take_waiting-waiting.ensures in
    let before = is_before v c.args.self.now x c.in-Complete.map c.args.from c.args.row c.self.view_is c.self.invariant at c.requires.lacking c.in-Complete.ensures in
    (refl, row_back x c.in-Complete.map c.args.from c.args.row c.without_last-waiting.result.1 before c.without_last-waiting.ensures.row)

pub returns-clause-served : goal.returns-clause-served
returns-clause-served c =
    let v = c.self.inside in
    let x = c.take_waiting-waiting.result in
    let at = c.take_waiting-waiting.ensures in
    let before = is_before v c.args.self.now x c.in-Complete.map c.args.from c.args.row c.self.view_is c.self.invariant at c.requires.lacking c.in-Complete.ensures in
    let seen = sym (ap exchange_at at) ∙ ap (λ (w : Viewed). w.exchange) c.self.view_is in
    subst (λ (y : Exchange). AreServed (members_of y.view) (with_row y.rows c.args.from c.args.row) c.in_ok-served.field-0) seen
    (subst (λ (m : Met). AreServed (met_members m) m.exchange.rows c.in_ok-served.field-0) before.whole c.in_ok-served.ensures)

pub returns-clause-targets : goal.returns-clause-targets
returns-clause-targets c =
    let v = c.self.inside in
    let x = c.take_waiting-waiting.result in
    let at = c.take_waiting-waiting.ensures in
    let before = is_before v c.args.self.now x c.in-Complete.map c.args.from c.args.row c.self.view_is c.self.invariant at c.requires.lacking c.in-Complete.ensures in
    let waits = subst (IsStageOf v.me v.factor v.key) at c.self.invariant.stage_of in
    let seen = sym (ap exchange_at at) ∙ ap (λ (w : Viewed). w.exchange) c.self.view_is in
    hands_on c.args.self.now c.args.store.now c.in-Complete.map v.members v.me c.args.from c.args.row _ (record {
      own = ap (λ (w : Viewed). w.me) c.self.view_is;
      factor = ap (λ (m : Met). m.factor) before.whole ∙ waits.met.factor ∙ ap (λ (w : Viewed). w.factor) c.self.view_is;
      rows = ap (λ (m : Met). m.exchange.rows) before.whole ∙ ap (λ (y : Exchange). with_row y.rows c.args.from c.args.row) seen;
      view = ap (λ (m : Met). m.exchange.view) before.whole ∙ ap (λ (y : Exchange). y.view) seen;
      all = c.self.invariant.viewed ∙ ap (λ (w : Viewed). members_of w.exchange.view) c.self.view_is;
    }) c.in_ok-begun.ensures.targets

pub returns-clause-same : goal.returns-clause-same
returns-clause-same c =
    let v = c.self.inside in
    let x = c.take_waiting-waiting.result in
    let at = c.take_waiting-waiting.ensures in
    let before = is_before v c.args.self.now x c.in-Complete.map c.args.from c.args.row c.self.view_is c.self.invariant at c.requires.lacking c.in-Complete.ensures in
    let back = stage_back v.stage x c.in-Complete.map c.without_last-waiting.result.0 c.args.from c.args.row at before c.without_last-waiting.ensures.exchanging in
    ap (λ (s : Stage). view_of (record v { stage = s })) (c.put.ensures ∙ back) ∙ c.self.view_is

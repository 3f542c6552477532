use Rattle.std.proofs.Common.{List, IfOk, ap, subst, ◌∙◌}
use Rattle.cluster_types.specs.declared.member.Member.{Member}
use Rattle.exchange.specs.declared.exchanging.ExchangeStep.{ExchangeStep}
use Rattle.exchange.specs.Steps.{step_of}
use Rattle.node_rules.specs.Copies.{Row}
use Rattle.node_rules.specs.Exchange.{begun}
use Rattle.node_view.specs.Views.{IsFirstStage}
use Rattle.node_view.proofs.MissingLaws.{listed}
use Rattle.node_view.proofs.view.stage_at_entry.Goals as goal

pub begin_with-requires : goal.begin_with-requires
begin_with-requires c = listed c.args.lists c.args.entrant.now.me c.requires

pub returns : goal.returns
returns c =
    let me = c.args.entrant.now.me in
    let factor = c.args.entrant.now.factor in
    let key = c.args.key in
    let step = c.in_ok-step.ensures ∙ ap (λ (r : Row). step_of (record { me = me; factor = factor; exchange = begun me key c.args.lists r })) c.in_ok-row.ensures in
    subst (λ (s : ExchangeStep). IfOk c.first_stage.result (IsFirstStage s c.args.store.now.versions c.args.lists key me)) step
    (subst (λ (l : List Member). IfOk c.first_stage.result (IsFirstStage c.in_ok-step.step c.args.store.now.versions l key me)) c.members.ensures.same c.first_stage.ensures)

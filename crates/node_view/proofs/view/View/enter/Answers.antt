use Rattle.std.proofs.Common.{List, length, refl, sym, ap, subst, ◌∙◌}
use Rattle.cluster_types.specs.declared.member.Member.{Member}
use Rattle.cluster_types.specs.Rows.{IsClear}
use Rattle.exchange.specs.Steps.{step_of}
use Rattle.progress.specs.Known.{Known}
use Rattle.node_rules.specs.Exchange as exchange
use Rattle.node_rules.specs.Exchange.{Exchange, begun, is_member, is_single}
use Rattle.node_view.specs.declared.view.View.TheInside.{Inside}
use Rattle.node_view.specs.Views.{IsFirstStage, own_done, store_row, view_of}
use Rattle.node_view.proofs.FirstLaws.{begins, entered, none_noted, none_open, none_set}
use Rattle.node_view.proofs.view.View.enter.Goals as goal

pub stage_at_entry-requires : goal.stage_at_entry-requires
stage_at_entry-requires c = c.requires.member

pub invariant_of-view : goal.invariant_of-view
invariant_of-view c =
    let me = c.args.entrant.me in
    let factor = c.args.entrant.factor in
    let key = c.args.key in
    let ms = c.members.result.now in
    let row = store_row c.args.store.now in
    let same = c.members.ensures.same in
    let member = ap (λ (l : List Member). is_member l me) same ∙ c.requires.member in
    let step = ap (λ (l : List Member). step_of (record { me = me; factor = factor; exchange = begun me key l row })) (sym same) in
    let is = subst (λ (l : List Member). IsFirstStage (step_of (record { me = me; factor = factor; exchange = begun me key c.args.lists row })) c.args.store.now.versions l key me c.in_ok-stage.stage) (sym same) c.in_ok-stage.ensures in
    let first = begins me factor key ms row c.args.store.now.versions (step_of (record { me = me; factor = factor; exchange = begun me key c.args.lists row })) c.in_ok-stage.stage c.members.ensures.valid member step is in
    let told = c.note_done.ensures in
    let new = c.in_ok-progress.ensures in
    record {
      stage_of = first.stage_of;
      viewed = sym (ap (λ (x : Exchange). exchange.members_of x.view) first.exchange);
      key = sym (ap (λ (x : Exchange). exchange.exchange_key x.view) first.exchange);
      member = member;
      others = c.others_of.ensures.others;
      told = ap (λ (k : Known). k.me) told ∙ ap (λ (k : Known). k.me) new;
      heard = ap (λ (k : Known). k.others) told ∙ (ap (λ (k : Known). k.others) new ∙ sym c.others_of.ensures.others);
      done = ap (λ (k : Known). k.own) told ∙ (ap (λ (k : Known). own_done k.own c.in_ok-stage.stage) new ∙ first.done);
      noted = none_noted c.with_policy.result c.new-4.result c.with_policy.ensures.opened c.with_policy.ensures.running c.new-4.ensures.opened c.new-4.ensures.none;
    }

pub returns : goal.returns
returns c =
    let me = c.args.entrant.me in
    let factor = c.args.entrant.factor in
    let key = c.args.key in
    let lists = c.args.lists in
    let ms = c.members.result.now in
    let row = store_row c.args.store.now in
    let same = c.members.ensures.same in
    let member = ap (λ (l : List Member). is_member l me) same ∙ c.requires.member in
    let step = ap (λ (l : List Member). step_of (record { me = me; factor = factor; exchange = begun me key l row })) (sym same) in
    let is = subst (λ (l : List Member). IsFirstStage (step_of (record { me = me; factor = factor; exchange = begun me key c.args.lists row })) c.args.store.now.versions l key me c.in_ok-stage.stage) (sym same) c.in_ok-stage.ensures in
    let first = begins me factor key ms row c.args.store.now.versions (step_of (record { me = me; factor = factor; exchange = begun me key c.args.lists row })) c.in_ok-stage.stage c.members.ensures.valid member step is in
    let inside : Inside = record {
      me = me;
      factor = factor;
      key = key;
      members = ms;
      others = c.others_of.result;
      stage = c.in_ok-stage.stage;
      progress = c.note_done.new.progress;
      learnt = c.in_ok-learnt.learnt;
      unsettled = 4096;
      txns = c.with_policy.result;
      notes = c.new-4.result;
      writes = c.new-5.result;
    } in
    λ f. entered c.args.store.now (view_of inside) c.count_unsettled.new.self c.wake_all.new.self f key lists me factor
    (record {
      counted = c.count_unsettled.ensures.same;
      woken = c.wake_all.ensures.same;
      count = c.count_unsettled.ensures.count;
      live = c.wake_all.ensures.live;
    })
    (record {
      me = refl;
      factor = refl;
      by = c.with_policy.ensures.policy ∙ sym c.requires.policy;
      exchange =
          first.exchange
          ∙ ap (λ (l : List Member). record (begun me key l row) { exchanged = is_single l }) same;
      writes = c.new-5.ensures;
      transactions = none_open c.with_policy.result c.new-4.result c.with_policy.ensures.opened c.with_policy.ensures.running;
      batches = first.targets;
      bits =
          none_set c.note_done.new.progress.bits c.in_ok-learnt.learnt.value (ap (λ (k : Known). k.bits) c.note_done.ensures ∙ ap (λ (k : Known). k.bits) c.in_ok-progress.ensures)
          (ap length c.in_ok-learnt.ensures.ok ∙ c.new.ensures.size) (subst IsClear (sym c.in_ok-learnt.ensures.ok) c.new.ensures.clear);
    })

use Rattle.std.proofs.Common.{◌≡◌, Option, ap, sym, subst, ◌∙◌}
use Rattle.conflict_order.specs.declared.version.Body.{Body}
use Rattle.conflict_order.specs.declared.version.Version.{Version}
use Rattle.conflict_order.specs.declared.want.Want.{Want}
use Rattle.conflict_order.specs.Next.{next}
use Rattle.cluster_types.specs.Partitions.{partition_of}
use Rattle.wire_messages.specs.Requests.{IsWant}
use Rattle.wire_messages.specs.Versions.{IsBody, IsVersion}
use Rattle.node_rules.specs.Facts.{list_at}
use Rattle.node_rules.specs.Resolving.{resolving_want}
use Rattle.node_steps.specs.Resolvings.{due_outcome, due_write, transaction_of}
use Rattle.node_steps.specs.Spelled.{then_effects}
use Rattle.node_steps.proofs.WritingLaws.{next_fits, told_value}
use Rattle.node_steps.proofs.resolving.plan_outcome.Goals.{in-Put, in-Del}
use Rattle.node_steps.proofs.resolving.plan_outcome.Goals as goal

pub returns-in-Get-clause-effects : goal.returns-in-Get-clause-effects
returns-in-Get-clause-effects c = λ f h.
    rw (c.in_ok-push-in-Get.ensures.ok, c.me.ensures, c.key.ensures, c.in_ok-new-in-Get.ensures)
    (told_value c.args.out.now f c.args.view.now c.args.resolving h.view.viewed c.in-Get.is)

pub plan_write-requires-clause-version : goal.plan_write-requires-clause-version
plan_write-requires-clause-version c =
    let v = c.next_version-version.result in
    let r = c.args.resolving in
    let is : v ≡ next r.best r.clock c.match-want.body = c.next_version-version.ensures ∙ ap (λ (o : Option Version). next o r.clock c.match-want.body) c.as_ref.ensures.value in
    let body : IsBody c.match-want.body = elim c.match-want.branch [
      | in-Put w ↦ subst IsBody (sym w.body-is) (subst IsWant w.in-Put.is c.requires.fields.want)
      | in-Del w ↦ subst IsBody (sym w.body-is) tt
    ] in
    subst IsVersion (sym is) (next_fits r.best r.clock c.match-want.body c.requires.fields.clock c.requires.fields.best body)

pub returns-clause-effects : goal.returns-clause-effects
returns-clause-effects c = λ f h.
    let out = c.args.out.now in
    let r = c.args.resolving in
    let due : due_write f r.transaction r.digest (next r.best r.clock c.match-want.body) ≡ due_outcome f r = elim c.match-want.branch [
      | in-Put w ↦ ap (λ (b : Body). due_write f r.transaction r.digest (next r.best r.clock b)) w.body-is
          ∙ ap (λ (w : Want). resolving_want f r.clock (list_at f (partition_of r.digest)) (transaction_of r) w) (sym w.in-Put.is)
      | in-Del w ↦ ap (λ (b : Body). due_write f r.transaction r.digest (next r.best r.clock b)) w.body-is
          ∙ ap (λ (w : Want). resolving_want f r.clock (list_at f (partition_of r.digest)) (transaction_of r) w) (sym w.in-Del.is)
    ] in
    c.in_ok-writing.ensures.effects f h.view.viewed
    ∙ ap (λ (v : Version). then_effects out (due_write f r.transaction r.digest v)) c.next_version-version.ensures
    ∙ ap (λ (o : Option Version). then_effects out (due_write f r.transaction r.digest (next o r.clock c.match-want.body))) c.as_ref.ensures.value
    ∙ ap (then_effects out) due

use Rattle.std.proofs.Common.{◌≡◌, ℕ, ap, refl, ◌∙◌}
use Rattle.cluster_types.specs.Partitions.{partition_of}
use Rattle.node_rules.specs.Facts.{list_at}
use Rattle.node_rules.specs.Standing.{other_replicas}
use Rattle.node_view.specs.Views.{facts_seen}
use Rattle.node_steps.proofs.WritingLaws.{seen_in_view, told_write}
use Rattle.node_steps.proofs.resolving.plan_write.Goals as goal

pub returns-clause-effects : goal.returns-clause-effects
returns-clause-effects c = λ f h.
    let same = c.in_ok-reserve_apply.ensures.same.alike in
    let to : c.other_replicas-to.result ≡ other_replicas f (list_at f (partition_of c.args.digest.now)) =
    c.other_replicas-to.ensures f h ∙ ap (λ (p : ℕ). other_replicas f (list_at f p)) c.partition_of-p.ensures in
    rw (c.in_ok-sent.ensures, c.in_ok-write_lines.ensures, c.as_slice.ensures.same, c.key-key.ensures, c.applies_at-nth.ensures, c.partition_of-p.ensures, same.me, same.exchange)
    (told_write c.args.out.now f c.args.view.now c.args.transaction c.args.digest.now c.args.version c.other_replicas-to.result c.is_empty.result h to c.is_empty.ensures)

pub returns-clause-writing : goal.returns-clause-writing
returns-clause-writing c =
    let v = c.args.view.now in
    let version : c.version_in-version.result ≡ c.args.version = cc in
    let to = c.other_replicas-to.ensures (facts_seen v) (seen_in_view v) ∙ ap (λ (p : ℕ). other_replicas (facts_seen v) (list_at (facts_seen v) p)) c.partition_of-p.ensures in
    rw (version, c.in_ok-kept.ensures, to) refl

pub returns-clause-other_room : goal.returns-clause-other_room
returns-clause-other_room c = c.reserve_apply.ensures.other_room

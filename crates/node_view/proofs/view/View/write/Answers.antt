use Rattle.std.proofs.Common.{sym, subst}
use Rattle.node_rules.specs.Facts.{Facts, list_at, view_key}
use Rattle.node_rules.specs.Notes.{write_applied}
use Rattle.cluster_types.specs.Partitions.{partition_of}
use Rattle.node_view.specs.Views.{IsNodeInView, digest_in}
use Rattle.node_view.proofs.OutcomeLaws.{closes}
use Rattle.node_view.proofs.ReadyLaws.{not_empty, wrote_last, wrote_on}
use Rattle.node_view.proofs.view.View.write.Goals as goal

pub returns-then-is_empty : goal.returns-then-is_empty
returns-then-is_empty c f h =
    let digest = digest_in c.args.self.now c.args.transaction in
    let g = write_applied f (view_key f) (list_at f (partition_of digest)) c.args.transaction digest c.args.writing.version in
    subst (λ (x : Facts). IsNodeInView x c.close.new.self c.apply.new.store) (sym (wrote_last f c.args.transaction digest c.args.writing (c.is_empty.ensures.0 c.if-is_empty.true)))
    (closes g c.apply.new.self c.close.new.self c.apply.new.store c.args.transaction c.close.ensures (c.apply.ensures.node f h))

pub returns-else-is_empty : goal.returns-else-is_empty
returns-else-is_empty c f h =
    let digest = digest_in c.args.self.now c.args.transaction in
    subst (λ (x : Facts). IsNodeInView x c.apply.new.self c.apply.new.store) (sym (wrote_on f c.args.transaction digest c.args.writing (not_empty c.args.writing.to c.is_empty.result c.is_empty.ensures c.if-is_empty.false)))
    (c.apply.ensures.node f h)

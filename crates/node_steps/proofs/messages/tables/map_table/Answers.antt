use Rattle.std.proofs.Common.{◌≡◌, ℕ, Bool, List, ap, ap₂, arith, subst, ◌∙◌}
use Rattle.cluster_types.specs.declared.cluster_key.ClusterKey.{ClusterKey}
use Rattle.cluster_types.specs.Partitions.{partition_count}
use Rattle.wire_messages.specs.declared.message.MapTable.{MapTable}
use Rattle.node_rules.specs.Facts.{view_key}
use Rattle.node_steps.proofs.TableLaws.{AreTold, all_told}
use Rattle.node_steps.proofs.messages.tables.map_table.Goals as goal

pub returns : goal.returns
returns c = λ f own.
    let v = c.args.view.now in
    let ids = c.loop-number.ids in
    let moved = c.loop-number.moved in
    let end : c.loop-number.number ≡ partition_count = omega (arith, c.loop-number-test.false, c.loop-number.auto.number-end) in
    let told = all_told v f ids moved (subst (λ (n : ℕ). AreTold v n ids moved) end c.loop-number.invariant) own in
    let key : c.key.result ≡ view_key f = c.key.ensures ∙ ap view_key own.view in
    ap (λ (k : ClusterKey). let t : MapTable = record { key = k; ids = c.in_ok-new.field-0; moved = c.in_ok-new-2.field-0 } in t) key
    ∙ ap₂ (λ (ns : List ℕ) (bs : List Bool). let t : MapTable = record { key = view_key f; ids = ns; moved = bs } in t) (c.in_ok-new.ensures ∙ told.0) (c.in_ok-new-2.ensures ∙ told.1)

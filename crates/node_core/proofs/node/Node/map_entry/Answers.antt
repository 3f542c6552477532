use Rattle.std.proofs.Common.{Option, ap, ◌∙◌}
use Rattle.std.specs.Prelude.{Ok}
use Rattle.cluster_types.specs.declared.map_view.MapEntry.{MapEntry}
use Rattle.journal_lines.specs.declared.refusal.Refusal.{Refusal}
use Rattle.partition_lists.specs.Lists.{list}
use Rattle.node_rules.specs.Exchange.{Exchange, members_of}
use Rattle.node_rules.specs.Facts.{Facts}
use Rattle.node_rules.specs.Map.{entry_of}
use Rattle.node_rules.specs.Requests.{entry_if}
use Rattle.node_steps.proofs.ViewLaws.{exchange_is}
use Rattle.node_core.proofs.node.Node.map_entry.Goals as goal

pub returns : goal.returns
returns c =
    let f : Facts = c.args.self.now.now in
    let v = c.in_ok-mapped.field-0.now in
    let p = c.args.p in
    ap (λ (e : MapEntry). Ok e) (c.map_entry.ensures ∙ ap (λ (x : Exchange). entry_of (list (members_of x.view) p) x.rows p) (exchange_is f v c.in_ok-mapped.ensures.view.viewed))
    ∙ ap (λ (o : Option Refusal). entry_if f p o) c.in_ok-mapped.ensures.refused

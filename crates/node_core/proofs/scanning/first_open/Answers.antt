use Rattle.std.proofs.Common.{option_map, sym, ap, ◌∙◌}
use Rattle.dup_resolve.specs.declared.txn.Txn.{Txn}
use Rattle.cluster_types.specs.Copies.{is_of}
use Rattle.node_core.proofs.ScanLaws.{none_found}
use Rattle.node_core.proofs.scanning.first_open.Goals as goal

pub returns-then-not-busy_on : goal.returns-then-not-busy_on
returns-then-not-busy_on c =
    sym (ap (option_map (λ (t : Txn). t.id)) (none_found (λ (t : Txn). is_of c.args.p t.digest) c.args.txns.now.running (sym c.busy_on.ensures ∙ c.if-not-busy_on.true)))

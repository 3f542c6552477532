use Rattle.std.proofs.Common.{◌≡◌, drop}
use Rattle.std.specs.Prelude.{find}
use Rattle.cluster_types.specs.Members.{ids_of}
use Rattle.node_rules.specs.Map.{lacks}
use Rattle.exchange.proofs.view_rows.first_missing.Given as goal

abbrev pub invariant-loop-member : goal.invariant-loop-member
invariant-loop-member l = find (lacks l.rows) (ids_of l.member-items) ≡ find (lacks l.rows) (ids_of (drop l.member-index l.member-items))

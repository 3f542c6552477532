use Rattle.std.proofs.Common.{rules}
use Rattle.std.specs.Prelude.{nat_lt}
use Rattle.std.proofs.lemmas.List.Sorted.{IsPartitionPoint-from_clause, IsPartitionedBy-ltb}
use Rattle.audit_state.proofs.history.changes_before.Goals as goal

pub returns-clause-point : goal.returns-clause-point
returns-clause-point c = IsPartitionPoint-from_clause (λ x. nat_lt x.line c.args.lines) _ _ c.partition_point.ensures.partitioned (IsPartitionedBy-ltb (λ x. x.line) _ c.args.lines c.requires) (λ a r q k. search rules)

use Rattle.std.proofs.Common.{◌≤◌, List, length, subst, sym}
use Rattle.node_rules.specs.declared.member_row.MemberRow.{MemberRow}
use Rattle.exchange.proofs.RowsLaws.{rows_limit}
use Rattle.exchange.proofs.exchanged.Exchanged.states.Goals as goal

pub of-requires : goal.of-requires
of-requires c = subst (λ (rs : List MemberRow). length rs ≤ 16) (sym c.deref.ensures.value) (rows_limit _ _ _ _ c.self.invariant.0)

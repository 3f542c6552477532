use Rattle.std.proofs.Common.{Some, None, ◌∙◌, sym, eq-eqb}
use Rattle.audit_laws.proofs.Tests.{number_same}
use Rattle.audit_core.proofs.NextLaws.{next_then, next_else, unequal}
use Rattle.audit_core.proofs.contents.is_next.Goals as goal

pub returns-then-version-clock : goal.returns-then-version-clock
returns-then-version-clock c = rw c.in-None.is (next_then None c.args.version.now c.args.clock _ c.if-version-clock.true (λ e. number_same _ _ e) (λ e. eq-eqb _ _ e))

pub returns-else-version-clock : goal.returns-else-version-clock
returns-else-version-clock c = rw c.in-None.is (next_else None c.args.version.now c.args.clock _ c.if-version-clock.false (unequal _ _ c.if-version-clock.false))

pub returns-then-version-max : goal.returns-then-version-max
returns-then-version-max c = rw c.in-Some.is (next_then (Some c.in-Some.best.now) c.args.version.now c.args.clock _ (c.if-version-max.true ∙ c.max.ensures) (λ e. number_same _ _ e ∙ c.saturating_add.ensures) (λ e. eq-eqb _ _ (e ∙ sym c.saturating_add.ensures)))

pub returns-else-version-max : goal.returns-else-version-max
returns-else-version-max c = rw c.in-Some.is (next_else (Some c.in-Some.best.now) c.args.version.now c.args.clock _ (λ e. c.if-version-max.false (e ∙ sym c.max.ensures)) (unequal _ _ c.if-version-max.false))

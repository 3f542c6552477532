use Rattle.std.proofs.Common.{◌≡◌, ap, ◌∙◌}
use Rattle.audit_state.specs.declared.views.View.{View}
use Rattle.audit_state.proofs.views.View.write.Goals as goal

kept : (old mid new : View) → record mid { written = old.written; partitions = old.partitions } ≡ old → record new { applied = mid.applied } ≡ mid
    → record new { applied = old.applied; written = old.written; partitions = old.partitions } ≡ old
kept old mid new e f =
    ap (λ (x : View). record x { applied = old.applied; written = old.written; partitions = old.partitions }) f ∙ ap (λ (x : View). record x { applied = old.applied }) e

pub returns-in_ok-list_written-in-None-clause-rest : goal.returns-in_ok-list_written-in-None-clause-rest
returns-in_ok-list_written-in-None-clause-rest c = kept c.args.self.now c.list_written.new.self c.raise_applied.new.self c.list_written.ensures.rest c.raise_applied.ensures.rest

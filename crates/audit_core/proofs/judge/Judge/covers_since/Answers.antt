use Rattle.std.proofs.Common.{◌≡◌, true, false, subst, arith}
use Rattle.audit_core.specs.Replicas.{TellsChanges}
use Rattle.audit_state.specs.Stores.{changes_of}
use Rattle.std.specs.Prelude.{min, max}
use Rattle.audit_core.proofs.CoverageLaws.{changed_less, since_covers, least_first, either_first}
use Rattle.audit_core.proofs.judge.Judge.covers_since.Goals as goal

pub returns-then-not-covers_changes : goal.returns-then-not-covers_changes
returns-then-not-covers_changes c = λ h known within.
    let off : c.covers_changes.result ≡ false = grind (arith, c.if-not-covers_changes.true) in
    changed_less c.args.self.now c.args.now c.args.node c.args.node c.args.member _ _ c.args.of c.args.p c.covers_changes.result h c.covers_changes.ensures off

pub returns : goal.returns
returns c = λ h known within.
    let on : c.covers_changes.result ≡ true = grind (arith, c.if-not-covers_changes.false) in
    since_covers c.args.self.now c.args.now c.args.node c.args.member c.args.of c.args.p (min c.args.cover.of c.args.of) (max c.args.cover.of c.args.of) c.args.cover c.covers_changes.result c.covers_changes-2.result h known
    (least_first c.args.cover.of c.args.of) (either_first c.args.cover.of c.args.of) c.covers_changes.ensures on
    (subst (λ a. TellsChanges c.args.self.now c.args.node c.args.member c.args.of a (max c.args.cover.of c.args.of) (changes_of c.args.self.now.stores c.args.member c.args.p) c.covers_changes-2.result) c.min-first.ensures
    (subst (λ b. TellsChanges c.args.self.now c.args.node c.args.member c.args.of c.min-first.result b (changes_of c.args.self.now.stores c.args.member c.args.p) c.covers_changes-2.result) c.max-last.ensures c.covers_changes-2.ensures))

-- What views are behind a write of one of them.
use Rattle.std.proofs.Common.{◌≡◌, Bool, false, List, Option, Some, None, refl, sym, ap, subst, ◌∙◌}
use Rattle.std.specs.Prelude.{is_some}
use Rattle.std.specs.HashMap as hash
use Rattle.cluster_types.specs.declared.cluster_key.ClusterKey.{ClusterKey}
use Rattle.cluster_types.specs.declared.member.Member.{Member}
use Rattle.journal_readings.proofs.AlongLaws.{no_some, some_same}
use Rattle.audit_laws.proofs.Tests.{differ}
use Rattle.audit_core.specs.declared.judge.Judge.{Judge}
use Rattle.audit_state.specs.declared.views.View.{View}
use Rattle.audit_core.specs.Frames.{Both}
use Rattle.audit_state.specs.Keys.{key_pair, pair_eq}
use Rattle.audit_core.specs.Known.{kept_view}
use Rattle.audit_state.specs.Views.{IsFreshView}
use Rattle.audit_core.specs.Steps.{OpensView, ChangesView}

pub missing : {A : Type 0} (o : Option A) (b : Bool) → b ≡ is_some o → b ≡ false → o ≡ None
missing None b e f = refl
missing (Some x) b e f = differ e f

pub opened : (k : ClusterKey) (ms : List Member) (old new : Judge) (x : View) → record new { views = old.views } ≡ old → kept_view old k ≡ None → IsFreshView k ms x
    → hash.Updates pair_eq old.views new.views (key_pair k) (Some x) → OpensView k ms old new
opened k ms old new x rest none fresh u = record {
  rest = rest;
  known = λ y e. absurd (no_some (sym none ∙ e));
  fresh = λ y e f. subst (IsFreshView k ms) (some_same (sym u.1 ∙ f)) fresh;
  there = ap is_some u.1;
  others = λ l q. u.2 (key_pair l) q;
}

pub changed : (R : View → View → Type 0) (k : ClusterKey) (old new : Judge) (x y : View) → record new { views = old.views } ≡ old → kept_view old k ≡ Some x
    → hash.Updates pair_eq old.views new.views (key_pair k) (Some y) → R x y → ChangesView R k old new
changed R k old new x y rest e u r = record {
  rest = rest;
  here = subst (λ (o : Option View). Both R o (kept_view new k)) (sym e) (subst (Both R (Some x)) (sym u.1) r);
  others = λ l q. u.2 (key_pair l) q;
}

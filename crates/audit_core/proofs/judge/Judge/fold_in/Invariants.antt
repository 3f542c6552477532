use Rattle.std.proofs.Common.{◌≡◌, take}
use Rattle.std.specs.Prelude.{fold, nat_eq}
use Rattle.std.specs.HashMap as hash
use Rattle.conflict_order.specs.Join.{join}
use Rattle.audit_core.specs.Folds.{entry_place}
use Rattle.audit_state.specs.Places.{placed}
use Rattle.audit_core.proofs.judge.Judge.fold_in.Given as goal

abbrev pub invariant-loop-m : goal.invariant-loop-m
invariant-loop-m l = placed l.self.lines.now l.fold ≡ fold (λ v m. join l.self.by v (placed l.self.lines.now (entry_place l.self l.view l.number m.id))) (placed l.self.lines.now (hash.get nat_eq l.view.applied l.number)) (take l.m-index l.m-items)

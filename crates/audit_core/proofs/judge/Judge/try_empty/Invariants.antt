use Rattle.std.proofs.Common.{take, ◌++◌}
use Rattle.std.specs.List.{flat_map}
use Rattle.audit_core.specs.Emptied.{written_list, stay_in}
use Rattle.audit_core.specs.Known.{kept_view}
use Rattle.audit_core.proofs.EmptyLaws.{Emptying}
use Rattle.audit_core.proofs.judge.Judge.try_empty.Given as goal

abbrev pub invariant-loop-m : goal.invariant-loop-m
invariant-loop-m l = Emptying l.master l.view (written_list (kept_view l.fn.self l.view) ++ flat_map (λ y. stay_in l.fn.self l.view y.id) (take l.m-index l.m-items)) l.fn.self l.self

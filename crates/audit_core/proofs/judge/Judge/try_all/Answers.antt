use Rattle.std.proofs.Common.{◌≡◌, ◌+◌, ℕ, List, sym, ap₂, subst, ◌∙◌, take}
use Rattle.std.proofs.lemmas.Result.{on_ok_weaker}
use Rattle.partition_lists.specs.Lists.{list}
use Rattle.audit_core.specs.Replicas.{JoinsEachReplica, StopsReplicas}
use Rattle.audit_core.proofs.PassLaws.{if_err_then}
use Rattle.audit_core.proofs.TrialLaws.{partition_none, partition_joins, partition_stops}
use Rattle.audit_core.proofs.judge.Judge.try_all.Goals as goal

pub returns-in_default-clause-ok : goal.returns-in_default-clause-ok
returns-in_default-clause-ok c = partition_none _ c.args.view c.args.p c.args.self.now (sym c.in_default.ensures)

pub returns-clause-ok : goal.returns-clause-ok
returns-clause-ok c =
    let same : c.first_of-replicas.result.now ≡ take c.args.self.now.factor (list c.in-Some.known.now.ranks c.args.p) =
    c.first_of-replicas.ensures ∙ ap₂ (λ (a : ℕ) (ns : List ℕ). take a ns) c.from.ensures (c.as_slice.ensures.same ∙ c.list-list.ensures) in
    on_ok_weaker c.try_replicas.result
    (λ joins. partition_joins (c.args.line + 1) c.args.view c.args.p c.in-Some.known.now c.args.self.now c.try_replicas.new.self (sym c.in-Some.ensures)
    (subst (λ (ns : List ℕ). JoinsEachReplica (c.args.line + 1) c.args.view ns c.args.p c.args.self.now c.try_replicas.new.self) same joins))
    c.try_replicas.ensures.ok

pub returns-clause-err : goal.returns-clause-err
returns-clause-err c =
    let same : c.first_of-replicas.result.now ≡ take c.args.self.now.factor (list c.in-Some.known.now.ranks c.args.p) =
    c.first_of-replicas.ensures ∙ ap₂ (λ (a : ℕ) (ns : List ℕ). take a ns) c.from.ensures (c.as_slice.ensures.same ∙ c.list-list.ensures) in
    if_err_then c.try_replicas.result _ _
    (λ x stops. partition_stops (c.args.line + 1) c.args.view c.args.p c.in-Some.known.now c.args.self.now x (sym c.in-Some.ensures)
    (subst (λ (ns : List ℕ). StopsReplicas (c.args.line + 1) c.args.view ns c.args.p c.args.self.now x) same stops))
    c.try_replicas.ensures.err

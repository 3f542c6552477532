use Rattle.std.proofs.Common.{rules, ℕ, List, map, take, ap, sym, ◌∷◌, [], ◌∙◌, ◌-◌, ◌+◌, ◌++◌}
use Rattle.conflict_order.specs.declared.version.Version.{Version}
use Rattle.record_store.specs.Copies.{Entries}
use Rattle.record_store.proofs.RowLaws.{taken_more}
use Rattle.record_store.proofs.store.first_digests.Goals as goal

pub loop-preserved : goal.loop-preserved
loop-preserved c =
    let max = c.args.max in
    let n = c.loop.counter in
    let done = c.loop.digests in
    let rest = map (λ (e : List ℕ × Version). e.0) c.next.new.self in
    record {
      taken =
          ap (λ ds. ds ++ take (max - (n + 1)) rest) (c.in_ok-push.ensures.ok ∙ ap (λ d. done ++ d ∷ []) c.new.ensures)
          ∙ sym (taken_more max n done rest c.in-Some.key.now c.loop-test.true)
          ∙ sym (ap (λ (es : Entries). done ++ take (max - n) (map (λ e. e.0) es)) c.in-Some.ensures.steps)
          ∙ c.loop.invariant.taken;
    }

pub loop-init : goal.loop-init
loop-init c = search rules

use Rattle.std.proofs.Common.{◌≡◌, ◌+◌, ◌++◌, ◌∷◌, [], List, ℕ, take, sym, ap, ap₂, ◌∙◌, append-nil, arith}
use Rattle.conflict_order.specs.Contents.{Record}
use Rattle.conflict_order.specs.declared.version.Version.{Version}
use Rattle.node_rules.specs.Batches.{records_of}
use Rattle.emigrate.proofs.FirstLaws.{records_more}
use Rattle.node_core.proofs.ScanLaws.{none_held, one_held}
use Rattle.node_core.proofs.scanning.records_of.Goals.{in-Some+in_ok-copy+in_ok-push, in_default}
use Rattle.node_core.proofs.scanning.records_of.Goals as goal

pub loop-digest-preserved : goal.loop-digest-preserved
loop-digest-preserved c =
    let versions = c.args.store.now.versions in
    let ds = c.args.digests.now in
    let i = c.loop-digest.digest-index in
    let d : List ℕ = c.digest-item.result in
    let before : List Record = records_of versions (take i ds) in
    let more : records_of versions (take (i + 1) ds) ≡ before ++ records_of versions (d ∷ []) = records_more versions ds i d (omega (arith, c.loop-digest-test.true)) c.digest-item.is in
    elim c.match-get.branch [
      | in-Some+in_ok-copy+in_ok-push w ↦
          w.records-is ∙ w.in_ok-push.ensures.ok
          ∙ ap₂ (λ (rs : List Record) (v : Version). rs ++ (d, v) ∷ []) c.loop-digest.invariant w.in_ok-copy.ensures
          ∙ ap (λ (rs : List Record). before ++ rs) (sym (one_held versions d w.in-Some.version.now (sym w.in-Some.ensures)))
          ∙ sym more
      | in_default w ↦
          w.records-is ∙ c.loop-digest.invariant
          ∙ sym (append-nil before)
          ∙ ap (λ (rs : List Record). before ++ rs) (sym (none_held versions d (sym w.in_default.ensures)))
          ∙ sym more
    ]

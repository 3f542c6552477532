use Rattle.std.proofs.Common.{◌∷◌, ◌++◌, List, [], map, take, append_assoc, ap, ◌∙◌, arith}
use Rattle.immigrate.proofs.BatchLaws.{within_is_some}
use Rattle.journal_lines.specs.declared.line.Line.{Line}
use Rattle.journal_lines.specs.declared.line.Line.TheVariants as line
use Rattle.conflict_order.specs.declared.version.Version.{Version}
use Rattle.node_rules.specs.Messages.{merge_line}
use Rattle.node_steps.proofs.BatchMessageLaws.{line_more}
use Rattle.node_steps.proofs.messages.batches.write_merges.Goals.{in-Some+in_ok-copy+in_ok-new+in_ok-push, in_default}
use Rattle.node_steps.proofs.messages.batches.write_merges.Goals as goal

pub loop-i-preserved : goal.loop-i-preserved
loop-i-preserved c =
    let rs = c.args.records.now in
    let told : List Line = map (merge_line c.args.node c.args.key) (take c.loop-i.i rs) in
    elim c.match-get.branch [
      | in-Some+in_ok-copy+in_ok-new+in_ok-push w ↦
          let r = w.in-Some.field-0.now in
          w.lines-is
          ∙ w.in_ok-push.ensures.ok
          ∙ ap (λ (v : Version). c.loop-i.lines ++ line.Merge c.args.node c.args.key r.0 v ∷ []) (w.in_ok-new.ensures ∙ w.in_ok-copy.ensures)
          ∙ ap (λ (ls : List Line). ls ++ merge_line c.args.node c.args.key r ∷ []) c.loop-i.invariant
          ∙ append_assoc c.args.lines.now told (merge_line c.args.node c.args.key r ∷ [])
          ∙ ap (λ (ls : List Line). c.args.lines.now ++ ls) (line_more (merge_line c.args.node c.args.key) rs c.loop-i.i r w.in-Some.ensures)
      | in_default w ↦
          absurd (within_is_some rs c.loop-i.i (rw w.in_default.is at c.get.ensures) (omega (arith, c.len-i-end.ensures, c.loop-i-test.true)))
    ]

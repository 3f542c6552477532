use Rattle.std.proofs.Common.{sym, inl, inr, ◌∙◌}
use Rattle.partition_state.proofs.WholestLaws.{greatest_more}
use Rattle.partition_state.proofs.copies.greatest_key.Goals.{then-is_below, else-is_below}
use Rattle.partition_state.proofs.copies.greatest_key.Goals as goal

pub loop-copy-preserved : goal.loop-copy-preserved
loop-copy-preserved c =
    greatest_more c.args.copies.now c.loop-copy.copy-index c.copy-item.result c.loop-copy.greatest c.if-is_below.greatest c.whole_key-key.result c.loop-copy-test.true c.copy-item.is c.whole_key-key.ensures c.loop-copy.invariant
    (elim c.if-is_below.branch [
      | then-is_below w ↦ inl (sym c.is_below.ensures ∙ w.if-is_below.true, w.greatest-is)
      | else-is_below w ↦ inr (sym c.is_below.ensures ∙ w.if-is_below.false, w.greatest-is)
    ])

use Rattle.std.proofs.Common.{◌≡◌, ◌+◌, ℕ, List, cond, count_by, slice_index, true≢false, sym, ap, ◌∙◌, arith}
use Rattle.std.proofs.lemmas.List.Sums.{sum_by-append}
use Rattle.wire_messages.specs.declared.message.Batch.{Batch}
use Rattle.node_rules.specs.Copies.{is_of}
use Rattle.emigrate.specs.Going.{batch_digests}
use Rattle.emigrate.specs.Stages.{pending_after, pending_in}
use Rattle.emigrate.proofs.outgoing.acked.Goals.{then-batch-number, else-batch-number}
use Rattle.emigrate.proofs.outgoing.acked.Goals as goal

pub returns-in-Ok-clause-counts : goal.returns-in-Ok-clause-counts
returns-in-Ok-clause-counts c = λ p within.
    let ds = batch_digests c.args.sent.batch in
    let left = pending_after c.in-Ok.after in
    let whole : count_by (is_of p) c.args.sent.pending ≡ count_by (is_of p) ds + count_by (is_of p) left =
    ap (count_by (is_of p)) c.in-Ok.ensures.first ∙ sum_by-append (λ x. cond (is_of p x) 1 0) ds left in
    let now : count_by (is_of p) (pending_in c.from.result) ≡ count_by (is_of p) left = ap (count_by (is_of p)) c.from.ensures.0 in
    elim c.if-batch-number.branch [
      | then-batch-number w ↦
          let moved : slice_index c.if-batch-number.counts p + count_by (is_of p) ds ≡ slice_index c.args.counts.now p =
          ap (λ (ns : List ℕ). slice_index ns p + count_by (is_of p) ds) w.counts-is
          ∙ ap (λ (b : Batch). slice_index w.remove_all.new.self p + count_by (is_of p) (batch_digests b)) (sym w.batch-then-batch-number.ensures.same)
          ∙ w.remove_all.ensures p within in
          omega (arith, whole, now, moved)
      | else-batch-number w ↦ absurd (true≢false (sym (c.in-Ok.ensures.refused.1 (λ e. w.if-batch-number.false (ap (λ (b : Batch). b.number) c.batch.ensures.same ∙ e)))))
    ]

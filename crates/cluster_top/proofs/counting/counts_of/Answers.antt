use Rattle.std.proofs.Common.{◌∙◌, ap, refl, length}
use Rattle.std.specs.Slice.Iter.{iter_rest}
use Rattle.cluster_top.specs.Transcripts as transcripts
use Rattle.cluster_top.proofs.CountLaws.{counted}
use Rattle.cluster_top.proofs.counting.counts_of.Goals as goal

pub returns : goal.returns
returns c = λ i. record {
  applied = counted _ transcripts.counts_as_apply c.args.lines.now c.filter.result c.count.result (ap iter_rest c.filter.ensures.source ∙ c.iter.ensures.rest) c.filter.ensures.closure (λ x b q k. (refl, search k)) c.count.ensures.ran i;
  drops = counted _ transcripts.counts_as_drop c.args.lines.now c.filter-2.result c.count-2.result (ap iter_rest c.filter-2.ensures.source ∙ c.iter-2.ensures.rest) c.filter-2.ensures.closure (λ x b q k. (refl, search k)) c.count-2.ensures.ran i;
  lines = length c.args.lines.now;
  merges = counted _ transcripts.counts_as_merge c.args.lines.now c.filter-3.result c.count-3.result (ap iter_rest c.filter-3.ensures.source ∙ c.iter-3.ensures.rest) c.filter-3.ensures.closure (λ x b q k. (refl, search k)) c.count-3.ensures.ran i;
  nodes = counted _ transcripts.counts_as_node c.args.lines.now c.filter-4.result c.count-4.result (ap iter_rest c.filter-4.ensures.source ∙ c.iter-4.ensures.rest) c.filter-4.ensures.closure (λ x b q k. (refl, search k)) c.count-4.ensures.ran i;
  sent = counted _ transcripts.counts_as_sent c.args.lines.now c.filter-5.result c.count-5.result (ap iter_rest c.filter-5.ensures.source ∙ c.iter-5.ensures.rest) c.filter-5.ensures.closure (λ x b q k. (refl, search k)) c.count-5.ensures.ran i;
  settled = counted _ transcripts.counts_as_settled c.args.lines.now c.filter-6.result c.count-6.result (ap iter_rest c.filter-6.ensures.source ∙ c.iter-6.ensures.rest) c.filter-6.ensures.closure (λ x b q k. (refl, search k)) c.count-6.ensures.ran i;
}

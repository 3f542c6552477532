use Rattle.std.proofs.Common.{List, ℕ, [], ◌∷◌, length, length-append, slice_index, ap, ◌∙◌, arith}
use Rattle.dup_resolve.proofs.CountLaws.{zero_pushed}
use Rattle.dup_resolve.proofs.counts.add_zeros.Goals as goal

pub loop-numbers-preserved : goal.loop-numbers-preserved
loop-numbers-preserved c =
    let old = c.loop-numbers.numbers.items in
    record {
      same = λ p. ap (λ (ns : List ℕ). slice_index ns p) c.in_ok-push.ensures.items ∙ zero_pushed old p ∙ c.loop-numbers.invariant.same p;
      kept = omega (arith, c.loop-numbers.invariant.kept, ap length c.in_ok-push.ensures.items, length-append old (0 ∷ []));
    }

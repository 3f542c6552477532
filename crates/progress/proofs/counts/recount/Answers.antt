use Rattle.std.proofs.Common.{◌+◌, ℕ, slice_index, ◌*◌, ap, ap₂, ◌∙◌, List, arith}
use Rattle.std.specs.Int.{bit_at}
use Rattle.progress.proofs.CountLaws.{one_of_bit, count_of_eight, put_below, put_here, put_above, IsByteCounted, byte_recounted}
use Rattle.progress.proofs.counts.recount.Goals as goal
use Rattle.progress.proofs.counts.recount.Goals.{then-was-i, else-was-i}

pub recount_byte-requires-clause-counted : goal.recount_byte-requires-clause-counted
recount_byte-requires-clause-counted c = λ b lt.
    let place = count_of_eight c.loop-i.known c.loop-i.i b lt in
    let rest = c.loop-i.invariant.rest (8 * c.loop-i.i + b) (omega arith) in
    let bit = one_of_bit c.as_bytes-was.result.now c.args.before.now c.loop-i.i b c.as_bytes-was.ensures.row c.loop-i-test.true lt in
    let counted = c.requires.counted (8 * c.loop-i.i + b) (omega (arith, lt, c.loop-i-test.true)) in
    omega (arith, place, rest, bit, counted)

pub loop-i-preserved : goal.loop-i-preserved
loop-i-preserved c =
    let recounted : IsByteCounted c.loop-i.known c.if-was-i.known (slice_index c.as_bytes-was.result.now c.loop-i.i) (slice_index c.as_bytes-is.result.now c.loop-i.i) c.loop-i.i = elim c.if-was-i.branch [
      | then-was-i w ↦
          let eight = w.recount_byte.ensures.size in
          let size = c.loop-i.auto.known ∙ c.requires.size in
          record {
            below = λ p lt. ap (λ l. slice_index l p) w.known-is ∙ put_below c.loop-i.known w.recount_byte.new.counts c.loop-i.i p c.loop-i-test.true size lt;
            above = λ p le. ap (λ l. slice_index l p) w.known-is ∙ put_above c.loop-i.known w.recount_byte.new.counts c.loop-i.i p c.loop-i-test.true size eight le;
            here = λ b lt.
                let new = ap (λ l. slice_index l (8 * c.loop-i.i + b)) w.known-is ∙ put_here c.loop-i.known w.recount_byte.new.counts c.loop-i.i b c.loop-i-test.true size eight lt in
                let place = count_of_eight c.loop-i.known c.loop-i.i b lt in
                let counts = w.recount_byte.ensures.counts b lt in
                omega (arith, new, place, counts);
          }
      | else-was-i w ↦ record {
        below = λ p lt. ap (λ l. slice_index l p) w.known-is;
        above = λ p le. ap (λ l. slice_index l p) w.known-is;
        here = λ b lt. ap₂ (λ (l : List ℕ) (n : ℕ). slice_index l (8 * c.loop-i.i + b) + bit_at n b) w.known-is w.if-was-i.false;
      }
    ] in
    let all = byte_recounted c.args.known.now c.loop-i.known c.if-was-i.known c.as_bytes-was.result.now c.as_bytes-is.result.now c.args.before.now c.args.after.now c.loop-i.i
    c.as_bytes-was.ensures.row c.as_bytes-is.ensures.row c.loop-i-test.true (record { done = c.loop-i.invariant.done; rest = c.loop-i.invariant.rest }) recounted in
    record { done = all.done; rest = all.rest }

use Rattle.std.proofs.Common.{◌≡◌, ◌+◌, ◌-◌, ◌≤◌, ◌<◌, ◌^◌, ◌∷◌, ℕ, List, length, drop, arith, ap, ◌∙◌}
use Rattle.std.specs.Fmt.{decimal}
use Rattle.std.proofs.lemmas.Fmt.{length-decimal-le}
use Rattle.std.proofs.lemmas.List.{drop-set}
use Rattle.journal_text.proofs.pieces.write_behind.Goals as goal

-- a number of 64 bits has twenty digits at most
at_most : (n : ℕ) → n < 2 ^ 64 → length (decimal n) ≤ 20
at_most n small = length-decimal-le 20 n (omega arith) (omega (arith, small)) small

pub write_digits-at-requires : goal.write_digits-at-requires
write_digits-at-requires c = (omega (arith, at_most c.args.n c.ranges.n.fits, c.requires.room), c.requires.end)

pub overflow_sub-at : goal.overflow_sub-at
overflow_sub-at c = omega (arith, at_most c.args.n c.ranges.n.fits, c.requires.room, c.write_digits-at.ensures.start)

pub returns-clause-begin : goal.returns-clause-begin
returns-clause-begin c = omega (arith, at_most c.args.n c.ranges.n.fits, c.requires.room, c.write_digits-at.ensures.start)

pub returns-clause-bound : goal.returns-clause-bound
returns-clause-bound c = omega (arith, at_most c.args.n c.ranges.n.fits, c.requires.room, c.write_digits-at.ensures.start)

pub returns-clause-written : goal.returns-clause-written
returns-clause-written c =
    let new : List ℕ = c.write_digits-at.new.buf in
    let from : ℕ = c.write_digits-at.result in
    let next : from - 1 + 1 ≡ from = omega (arith, at_most c.args.n c.ranges.n.fits, c.requires.room, c.write_digits-at.ensures.start) in
    let within : from - 1 < length new = omega (arith, at_most c.args.n c.ranges.n.fits, c.requires.room, c.requires.end, c.write_digits-at.ensures.start, c.write_digits-at.auto.buf) in
    drop-set new (from - 1) c.args.before within ∙ ap (λ (i : ℕ). c.args.before ∷ drop i new) next ∙ ap (λ (xs : List ℕ). c.args.before ∷ xs) c.write_digits-at.ensures.written

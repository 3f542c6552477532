use Rattle.std.proofs.Common.{arith, ℕ, length-take}
use Rattle.replay_core.proofs.StreamLaws.{few_with_piece, too_much_with_piece}
use Rattle.replay_core.proofs.reading.read_all.Goals as goal

pub returns-in-Got-clause-too_long : goal.returns-in-Got-clause-too_long
returns-in-Got-clause-too_long g c = λ _.
    too_much_with_piece _ _ _ _ c.pieces.bytes.items _ c.in-Got.count c.pieces.invariant.given c.in-Got.ensures.bytes
    (omega (arith, c.if-count-limit.true, c.in-Got.ensures.fits.most, c.min-room.ensures, c.deref_mut.ensures.len, c.pieces.invariant.room, c.pieces.invariant.in_range, c.pieces.bytes.ok, length-take {A = ℕ}))
    (omega (arith, c.in-Got.ensures.fits.most, c.pull.auto.into))

pub returns-in_err-extend_from_slice-in-Got-2-clause-no_more : goal.returns-in_err-extend_from_slice-in-Got-2-clause-no_more
returns-in_err-extend_from_slice-in-Got-2-clause-no_more g c = λ _.
    few_with_piece _ _ _ _ c.pieces.bytes.items _ c.in-Got.count c.pieces.invariant.given c.in-Got.ensures.bytes
    (omega (arith, c.if-count-limit.false, c.pieces.invariant.in_range, c.pieces.bytes.ok))

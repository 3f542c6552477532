use Rattle.std.proofs.Common.{sym, refl, arith}
use Rattle.digest_ripemd.proofs.Chaining.{absorbed_short, absorbed_full}
use Rattle.digest_ripemd.proofs.blocks.Chain.absorb.Goals as goal

pub returns-then-piece-room : goal.returns-then-piece-room
returns-then-piece-room c =
    let s = c.self.inside in
    rw (← c.self.view_is) (sym (absorbed_short s.words s.block c.args.piece.now _ s.used _ c.self.told (omega arith) c.copy_from_slice.ensures.after))

pub returns : goal.returns
returns c =
    let s = c.self.inside in
    rw (← c.self.view_is)
    (sym
    (absorbed_full s.words _ _ s.block c.args.piece.now _ _ _ _ _ s.used _ c.self.told c.self.invariant refl (omega arith)
    c.copy_from_slice-2.ensures.after refl c.after_blocks.ensures c.after_blocks-self-inside.ensures refl c.copy_from_slice-3.ensures.after))

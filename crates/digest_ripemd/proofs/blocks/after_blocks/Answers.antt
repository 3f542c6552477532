use Rattle.std.proofs.Common.{◌≡◌, ◌+◌, ◌-◌, ◌*◌, sym, arith}
use Rattle.digest_ripemd.proofs.Chaining.{after_blocks-next, after_blocks-none}
use Rattle.digest_ripemd.proofs.blocks.after_blocks.Goals as goal

pub loop-i-init : goal.loop-i-init
loop-i-init c = sym (after_blocks-none _ _)

pub loop-i-preserved : goal.loop-i-preserved
loop-i-preserved c =
    let i = c.loop-i.i in
    let width : 64 * i + 64 - 64 * i ≡ 64 = omega arith in
    rw (c.after-words.ensures, c.words_of.ensures, width, c.loop-i.invariant) (sym (after_blocks-next c.args.words c.args.bytes.now i))

use Rattle.std.proofs.Common.{◌≡◌, ◌<◌, ℕ, List, [], length, get_or, slice_index, sym, ◌∙◌, arith}
use Rattle.std.proofs.lemmas.List.{get_or_default}
use Rattle.emigrate.proofs.CountLaws.{one_more}
use Rattle.emigrate.proofs.counts.Counts.add_all.Goals as goal

pub loop-i-preserved : goal.loop-i-preserved
loop-i-preserved c =
    let ds = c.args.digests.now.items in
    let within : c.loop-i.i < length ds = omega (arith, c.loop-i-test.true, c.len-i-end.ensures, c.args.digests.now.ok) in
    let read : get_or ds c.loop-i.i [] ≡ c.index.result.now = get_or_default ds c.loop-i.i [] c.index.result.now within ∙ sym c.index.ensures in
    one_more (slice_index c.args.self.now) c.loop-i.self c.add.new.self ds c.loop-i.i c.index.result.now within read c.in_ok-add.ensures.size c.in_ok-add.ensures.ok c.loop-i.invariant

use Rattle.std.proofs.Common.{◌≡◌, ◌+◌, ◌<◌, ap, arith, length, suc, ◌∙◌}
use Rattle.heartbeat.proofs.EntryLaws.{older_more, older_till, young}
use Rattle.heartbeat.proofs.entries.age_each.Goals as goal

pub overflow_add-entries : goal.overflow_add-entries
overflow_add-entries c =
    let within : c.loop-i.i < length c.args.entries.now = omega (arith, c.loop-i-test.true, c.loop-i.auto.i-end) in
    rw c.loop-i.invariant (omega (arith, young c.args.entries.now c.loop-i.i c.index-entries-i.result within c.requires))

pub loop-i-preserved : goal.loop-i-preserved
loop-i-preserved c =
    let within : c.loop-i.i < length c.args.entries.now = omega (arith, c.loop-i-test.true, c.loop-i.auto.i-end) in
    let next : suc c.loop-i.i ≡ c.loop-i.i + 1 = omega arith in
    rw c.loop-i.invariant (older_more c.args.entries.now c.loop-i.i c.index-entries-i-in-loop-i.result c.index-entries-i.result within ∙ ap (λ k. older_till k c.args.entries.now) next)

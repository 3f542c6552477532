use Rattle.std.proofs.Common.{◌≡◌, ◌+◌, length, arith, sym, ap, ◌∙◌}
use Rattle.world.proofs.SendingLaws.{first_of, on_ok, posted_more}
use Rattle.world.proofs.sending.send_all.Goals as goal

pub loop-to-preserved : goal.loop-to-preserved
loop-to-preserved c =
    let l = c.loop-to in
    let rest = c.take_first.new.self in
    let split = first_of l.left rest (c.in-Some.to, c.in-Some.bytes) (sym c.in-Some.ensures.first) c.take_first.ensures.rest in
    let count : length l.left ≡ length rest + 1 = ap length split ∙ omega arith in
    let ok = c.send.ensures.reserved (omega (arith, l.invariant.room, count)) in
    let sent = on_ok c.send.result c.send.ensures.sent ok in
    record {
      all =
          posted_more _ l.net c.send.new.self c.args.from l.left rest (c.in-Some.to, c.in-Some.bytes) split
          (record { flying = on_ok c.send.result c.send.ensures.flying ok; sent = sent; groups = c.send.ensures.groups }) l.invariant.all;
      sent = omega (arith, l.invariant.sent, count, sent);
      room = omega (arith, l.invariant.room, count, c.send.ensures.spare);
    }

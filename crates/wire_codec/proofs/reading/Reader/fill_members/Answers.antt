use Rattle.std.proofs.Common.{◌≡◌, ◌<◌, suc, ◌+◌, ◌-◌, length, take, arith}
use Rattle.std.proofs.lemmas.List.{take_more_set}
use Rattle.std.proofs.lemmas.Result.{err_from_is_err_and}
use Rattle.wire_messages.specs.Fields.{items_at}
use Rattle.wire_messages.specs.Nodes.{member_at, with_member, nobody_before}
use Rattle.wire_codec.specs.declared.reading.ReadFault.TheVariants.{Field}
use Rattle.wire_codec.proofs.Loops.{items_more, items_fail, items_filled}
use Rattle.wire_codec.proofs.reading.Reader.fill_members.Goals as goal

pub returns-in_err-member : goal.returns-in_err-member
returns-in_err-member c =
    let p = err_from_is_err_and c.from_residual.result c.from_residual.ensures.1 in
    let n = length c.args.places.now in
    let k = length c.loop-i.places - c.loop-i.i - 1 in
    rw (p.1, p.2) (items_fail member_at with_member (take c.loop-i.i c.loop-i.places) (Field c.in_err-member.field-0.0) (n - c.loop-i.i) k c.loop-i.before c.loop-i.self.rest.now (items_at member_at with_member n nobody_before c.args.self.now.rest.now) (omega (arith, c.loop-i-test.true, c.loop-i.auto.places)) c.in_err-member.ensures c.loop-i.invariant)

pub loop-i-preserved : goal.loop-i-preserved
loop-i-preserved c =
    let n = length c.args.places.now in
    let k = n - (c.loop-i.i + 1) in
    let m = c.in_ok-member.member in
    let within : c.loop-i.i < length c.loop-i.places = omega (arith, c.loop-i-test.true, c.loop-i.auto.places) in
    let left : length c.loop-i.places - c.loop-i.i - 1 ≡ k = omega (arith, c.loop-i.auto.places) in
    let is : n - c.loop-i.i ≡ suc k = omega (arith, c.loop-i-test.true) in
    rw (take_more_set c.loop-i.places c.loop-i.i m within, c.with_member-before.ensures)
    (items_more member_at with_member (take c.loop-i.i c.loop-i.places) m (n - c.loop-i.i) k c.loop-i.before c.loop-i.self.rest.now c.member.new.self.rest.now (items_at member_at with_member n nobody_before c.args.self.now.rest.now) is (rw (← left) c.in_ok-member.ensures) c.loop-i.invariant)

pub returns : goal.returns
returns c =
    let n = length c.args.places.now in
    items_filled member_at with_member c.loop-i.places c.loop-i.i (n - c.loop-i.i) c.loop-i.before c.loop-i.self.rest.now (items_at member_at with_member n nobody_before c.args.self.now.rest.now) (omega (arith, c.loop-i-test.false)) (omega (arith, c.loop-i-test.false, c.loop-i.auto.places)) c.loop-i.invariant

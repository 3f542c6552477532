use Rattle.std.proofs.Common.{◌≡◌, length, true, arith}
use Rattle.std.proofs.lemmas.Bool.Decides.{nat_tests}
use Rattle.audit_core.specs.Wholes.{listed_member}
use Rattle.audit_core.proofs.ShownLaws.{listed_next}
use Rattle.audit_core.proofs.maps.are_listed.Goals as goal

pub loop-i-preserved : goal.loop-i-preserved
loop-i-preserved c =
    let same : length c.args.ids.now ≡ length c.args.shown.now = grind (arith, nat_tests, c.if-ids-shown.false) in
    let listed : c.is_listed.result ≡ true = grind (arith, c.if-not-is_listed.false) in
    listed_next (listed_member c.args.members.now) c.args.ids.now c.args.shown.now c.loop-i.i c.index-ids-i.result c.index-shown-i.result
    (omega (arith, c.loop-i-test.true)) (omega (arith, same, c.loop-i-test.true)) c.index-shown-i.is c.index-ids-i.is (c.is_listed.ensures.0 listed) c.loop-i.invariant

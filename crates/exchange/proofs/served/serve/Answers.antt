use Rattle.std.proofs.Common.{◌<◌, arith}
use Rattle.exchange.proofs.PlaceLaws.{places_stay}
use Rattle.exchange.proofs.ServedLaws.{untold_served}
use Rattle.exchange.proofs.served.serve.Goals as goal

pub returns-then-number-next-clause-served : goal.returns-then-number-next-clause-served
returns-then-number-next-clause-served c =
    let below : c.args.p < c.args.next.now = omega (arith, c.if-number-next.true, c.number.ensures.same) in
    untold_served c.args.lists.now c.args.rows.now c.args.places.now c.args.p c.args.next.now c.master.result below c.requires.places c.requires.next c.master.ensures

pub returns-then-number-next-clause-places : goal.returns-then-number-next-clause-places
returns-then-number-next-clause-places c =
    let below : c.args.p < c.args.next.now = omega (arith, c.if-number-next.true, c.number.ensures.same) in
    places_stay c.args.rows.now c.args.places.now c.args.p c.args.next.now below c.requires.places c.requires.next

use Rattle.std.proofs.Common.{sym, arith}
use Rattle.heartbeat.proofs.EntryLaws.{heard_with, heard_view, room_of}
use Rattle.heartbeat.proofs.adjacency.Adjacency.heard.Goals as goal

pub put-requires-clause-room : goal.put-requires-clause-room
put-requires-clause-room c =
    omega (arith, room_of c.self.inside.me c.self.inside.heard c.args.from c.self.invariant (rw (sym c.self.view_is) at c.requires.room))

pub invariant_of-self : goal.invariant_of-self
invariant_of-self c =
    rw c.put.ensures
    (heard_with c.self.inside.me c.self.inside.heard (record { node = c.args.from; age = 0; beat = c.args.beat.now }) c.self.invariant
    (rw (sym c.self.view_is) at c.requires.other)
    (room_of c.self.inside.me c.self.inside.heard c.args.from c.self.invariant (rw (sym c.self.view_is) at c.requires.room)))

pub returns : goal.returns
returns c =
    rw (sym c.self.view_is, c.put.ensures)
    (heard_view c.self.inside.me c.self.inside.role c.self.inside.set c.self.inside.quiet c.self.inside.heard c.args.from c.args.beat.now c.self.invariant.falls)

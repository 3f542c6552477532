use Rattle.std.proofs.Common.{subst, sym}
use Rattle.node_view.specs.Writes.{HasRoomToHear, Written}
use Rattle.node_view.proofs.writes.Writes.hear.Goals as goal

pub hear_at-requires-clause-room : goal.hear_at-requires-clause-room
hear_at-requires-clause-room c =
    subst (λ (w : Written). HasRoomToHear w.further w.numbers c.args.p c.args.first) (sym c.self.view_is) c.requires.room

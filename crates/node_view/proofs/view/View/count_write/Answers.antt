use Rattle.std.proofs.Common.{◌≡◌, sym, ap, subst, ◌∙◌}
use Rattle.node_rules.specs.Stamps.{Writes, hearing_write}
use Rattle.node_view.specs.Rooms.{HasRoomToCount}
use Rattle.node_view.specs.Views.{Viewed, viewed_key, view_of}
use Rattle.node_view.proofs.OutcomeLaws.{counts}
use Rattle.node_view.proofs.ResolveLaws.{agrees}
use Rattle.node_view.proofs.view.View.count_write.Goals as goal

pub hear-requires-clause-room : goal.hear-requires-clause-room
hear-requires-clause-room c = subst (λ (v : Viewed). HasRoomToCount v.room c.args.p c.args.counted) (sym c.self.view_is) c.requires.room

pub invariant_of-self : goal.invariant_of-self
invariant_of-self c = let i = c.self.inside in agrees i i.txns i.notes c.hear.new.self c.self.invariant c.self.invariant.noted

pub returns-clause-node : goal.returns-clause-node
returns-clause-node c f h =
    let i = c.self.inside in
    let p = c.args.p in
    let nth = c.args.counted.nth in
    let after = view_of (record i { writes = c.hear.new.self }) in
    let view : after ≡ record c.args.self.now { writes = hearing_write c.args.self.now.writes p nth; room = after.room }
    = ap (λ (ws : Writes). record (view_of i) { writes = ws; room = after.room }) c.hear.ensures
    ∙ ap (λ (v : Viewed). record v { writes = hearing_write v.writes p nth; room = after.room }) c.self.view_is in
    counts f c.args.self.now after c.args.store.now c.recount.new.store p nth c.count_at.result i.key view c.count_at.ensures (c.self.invariant.key ∙ ap viewed_key c.self.view_is)
    c.recount.ensures.stamps c.recount.ensures.versions c.recount.ensures.policy h

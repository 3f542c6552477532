use Rattle.std.proofs.Common.{[], ◌∷◌, sym, ◌∙◌}
use Rattle.journal_lines.specs.declared.line.Line.TheVariants as line
use Rattle.world.proofs.ArrivalLaws.{absent_over, over_due, over_lands}
use Rattle.world.proofs.ReceivingLaws.{arrives_so, blocked_passes, short_passes, unread_passes}
use Rattle.world.proofs.world.World.deliver.Goals as goal

pub pass_over-requires-clause-due : goal.pass_over-requires-clause-due
pass_over-requires-clause-due c =
    c.in_ok-lines.ensures ∙ over_due c.args.self.now c.args.event.value c.args.message c.args.delivery (line.NoMessage c.args.message ∷ []) c.requires.is (absent_over c.args.self.now c.args.message c.args.delivery (sym c.in_default.ensures.value))

pub pass_over-requires-then-is_blocked-clause-due : goal.pass_over-requires-then-is_blocked-clause-due
pass_over-requires-then-is_blocked-clause-due c =
    c.in_ok-lines-2.ensures ∙ over_due c.args.self.now c.args.event.value c.args.message c.args.delivery (line.Blocked c.args.message ∷ []) c.requires.is (blocked_passes c.args.self.now c.args.message c.args.delivery c.in-Some.flying.now c.in-Some.ensures.value (sym c.is_blocked.ensures ∙ c.if-is_blocked.true))

pub pass_over-requires-in-Unread-clause-due : goal.pass_over-requires-in-Unread-clause-due
pass_over-requires-in-Unread-clause-due c = over_due c.args.self.now c.args.event.value c.args.message c.args.delivery c.in_ok-lines-in-Unread.lines c.requires.is (unread_passes c.args.self.now c.args.message c.args.delivery c.in-Some.flying.now c.line-line.result c.in_ok-lines-in-Unread.lines c.in-Some.ensures.value (sym c.is_blocked.ensures ∙ c.if-is_blocked.false) (sym c.in-Unread.is ∙ c.in_ok-arrival.ensures) c.line-line.ensures c.in_ok-lines-in-Unread.ensures)

pub pass_over-requires-in-Unread-clause-lands : goal.pass_over-requires-in-Unread-clause-lands
pass_over-requires-in-Unread-clause-lands c = over_lands c.args.self.now c.args.event.value c.args.message c.args.delivery c.landing-landing.result c.in_ok-lines-in-Unread.lines c.requires.is c.landing-landing.ensures (unread_passes c.args.self.now c.args.message c.args.delivery c.in-Some.flying.now c.line-line.result c.in_ok-lines-in-Unread.lines c.in-Some.ensures.value (sym c.is_blocked.ensures ∙ c.if-is_blocked.false) (sym c.in-Unread.is ∙ c.in_ok-arrival.ensures) c.line-line.ensures c.in_ok-lines-in-Unread.ensures)

pub pass_over-requires-in-Short-clause-due : goal.pass_over-requires-in-Short-clause-due
pass_over-requires-in-Short-clause-due c = over_due c.args.self.now c.args.event.value c.args.message c.args.delivery c.in_ok-lines-in-Short.lines c.requires.is (short_passes c.args.self.now c.args.message c.args.delivery c.in-Some.flying.now c.line-line.result c.in_ok-lines-in-Short.lines c.in-Some.ensures.value (sym c.is_blocked.ensures ∙ c.if-is_blocked.false) (sym c.in-Short.is ∙ c.in_ok-arrival.ensures) c.line-line.ensures c.in_ok-lines-in-Short.ensures)

pub pass_over-requires-in-Short-clause-lands : goal.pass_over-requires-in-Short-clause-lands
pass_over-requires-in-Short-clause-lands c = over_lands c.args.self.now c.args.event.value c.args.message c.args.delivery c.landing-landing.result c.in_ok-lines-in-Short.lines c.requires.is c.landing-landing.ensures (short_passes c.args.self.now c.args.message c.args.delivery c.in-Some.flying.now c.line-line.result c.in_ok-lines-in-Short.lines c.in-Some.ensures.value (sym c.is_blocked.ensures ∙ c.if-is_blocked.false) (sym c.in-Short.is ∙ c.in_ok-arrival.ensures) c.line-line.ensures c.in_ok-lines-in-Short.ensures)

pub arrive_at_client-requires-clause-arrives : goal.arrive_at_client-requires-clause-arrives
arrive_at_client-requires-clause-arrives c =
    arrives_so c.args.self.now c.args.event.value c.args.message c.args.delivery c.in-Some.flying.now c.line-line.result c.landing-landing.result c.in-Message.message c.requires.is c.in-Some.ensures.value (sym c.is_blocked.ensures ∙ c.if-is_blocked.false)
    (sym c.in-Message.is ∙ c.in_ok-arrival.ensures) c.line-line.ensures c.landing-landing.ensures

pub arrive_at_node-requires-clause-arrives : goal.arrive_at_node-requires-clause-arrives
arrive_at_node-requires-clause-arrives c =
    arrives_so c.args.self.now c.args.event.value c.args.message c.args.delivery c.in-Some.flying.now c.line-line.result c.landing-landing.result c.in-Message.message c.requires.is c.in-Some.ensures.value (sym c.is_blocked.ensures ∙ c.if-is_blocked.false)
    (sym c.in-Message.is ∙ c.in_ok-arrival.ensures) c.line-line.ensures c.landing-landing.ensures

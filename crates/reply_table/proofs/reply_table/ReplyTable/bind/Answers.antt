use Rattle.std.proofs.Common.{◌≡◌, nat_eq, None, length, sym, ap, ◌∙◌, arith}
use Rattle.std.specs.HashMap.{get}
use Rattle.request_rules.specs.declared.taken.Outcome.TheVariants as outcome
use Rattle.request_rules.specs.TakenUp.{bound_to, outcome_for, same_asker}
use Rattle.reply_table.specs.Kept.{TakenWithRoom}
use Rattle.reply_table.proofs.TableLaws.{number_is, on_ok, pushed_is, room_in_each}
use Rattle.reply_table.proofs.reply_table.ReplyTable.bind.Goals as goal

pub invariant_of-self : goal.invariant_of-self
invariant_of-self c =
    let old = c.self.inside in
    let room = room_in_each _ _ _ _ (ap (λ (o : TakenWithRoom). o.spare) c.self.view_is) c.requires.room in
    let new : outcome_for old.taken.items c.args.asker ≡ None = ap (λ (o : TakenWithRoom). outcome_for o.taken c.args.asker) c.self.view_is ∙ c.requires.new in
    let free : bound_to old.taken.items c.args.transaction ≡ None = ap (λ (o : TakenWithRoom). bound_to o.taken c.args.transaction) c.self.view_is ∙ c.requires.free in
    let place : c.len-place.result ≡ length old.taken.items = omega (arith, c.len-place.ensures, old.taken.ok) in
    pushed_is old.taken.items _ (λ a. get same_asker old.by_asker a) _ (λ n. get nat_eq old.by_transaction n) _
    (record { asker = c.args.asker; outcome = outcome.Open c.args.transaction })
    c.len-place.result
    c.push_reserved.ensures.items
    place
    c.self.invariant
    new
    (λ n e. ap (bound_to old.taken.items) (sym (number_is c.args.transaction n e)) ∙ free)
    (λ q. (on_ok _ _ c.insert.ensures.updates (c.insert.ensures.succeeds room.1)).0 q)
    (λ n. (on_ok _ _ c.insert-2.ensures.updates (c.insert-2.ensures.succeeds room.2)).0 n)

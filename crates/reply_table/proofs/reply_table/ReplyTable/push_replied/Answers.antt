use Rattle.std.proofs.Common.{◌≡◌, nat_eq, true, false, None, length, refl, ap, ◌∙◌, arith}
use Rattle.std.specs.HashMap.{get}
use Rattle.request_rules.specs.declared.taken.Outcome.TheVariants as outcome
use Rattle.request_rules.specs.TakenUp.{outcome_for, same_asker}
use Rattle.reply_table.specs.Kept.{TakenWithRoom}
use Rattle.reply_table.proofs.TableLaws.{on_ok, pushed_is, room_in_each}
use Rattle.reply_table.proofs.reply_table.ReplyTable.push_replied.Goals as goal

pub invariant_of-self : goal.invariant_of-self
invariant_of-self c =
    let old = c.self.inside in
    let room = room_in_each _ _ _ _ (ap (λ (o : TakenWithRoom). o.spare) c.self.view_is) c.requires.room in
    let new : outcome_for old.taken.items c.args.asker ≡ None = ap (λ (o : TakenWithRoom). outcome_for o.taken c.args.asker) c.self.view_is ∙ c.requires.new in
    let place : c.len-place.result ≡ length old.taken.items = omega (arith, c.len-place.ensures, old.taken.ok) in
    pushed_is old.taken.items _ (λ a. get same_asker old.by_asker a) _ (λ n. get nat_eq old.by_transaction n) _
    (record { asker = c.args.asker; outcome = outcome.Kept c.args.reply })
    c.len-place.result
    c.push_reserved.ensures.items
    place
    c.self.invariant
    new
    (λ n e. absurd (let wrong : false ≡ true = e in cc))
    (λ q. (on_ok _ _ c.insert.ensures.updates (c.insert.ensures.succeeds room.1)).0 q)
    (λ n. refl)

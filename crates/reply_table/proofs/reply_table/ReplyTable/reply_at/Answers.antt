use Rattle.std.proofs.Common.{◌≡◌, ◌<◌, nat_eq, Some, length, set, slice_get, sym, ap, ap₂, ◌∙◌}
use Rattle.std.specs.HashMap.{get}
use Rattle.std.proofs.lemmas.Option.{slice_get-get_or}
use Rattle.request_rules.specs.declared.taken.Outcome.{Outcome}
use Rattle.request_rules.specs.declared.taken.Taken.{Taken}
use Rattle.request_rules.specs.TakenUp.{keeping, same_asker}
use Rattle.reply_table.specs.Kept.{TakenWithRoom}
use Rattle.reply_table.proofs.TableLaws.{replied_is, reply_placed, some_is}
use Rattle.reply_table.proofs.reply_table.ReplyTable.reply_at.Goals as goal

pub invariant_of-self : goal.invariant_of-self
invariant_of-self c =
    let old = c.self.inside in
    let within : c.args.place < length old.taken.items = rw (ap (λ (o : TakenWithRoom). length o.taken) c.self.view_is) c.requires in
    let at : slice_get old.taken.items c.args.place ≡ Some c.index_mut.result.now =
    slice_get-get_or old.taken.items c.args.place c.index_mut.result.now within ∙ ap (λ (x : Taken). Some x) (sym c.index_mut.ensures.value) in
    replied_is old.taken.items (λ a. get same_asker old.by_asker a) (λ n. get nat_eq old.by_transaction n) _ c.args.place c.index_mut.result.now c.args.reply
    c.close-transaction.new.state
    c.close-transaction.result
    c.close-transaction.ensures.kept
    c.close-transaction.ensures.transaction
    c.self.invariant
    at
    c.forget.ensures.places

pub returns-clause-taken : goal.returns-clause-taken
returns-clause-taken c = λ x t at e.
    let old = c.self.inside in
    let within : c.args.place < length old.taken.items = rw (ap (λ (o : TakenWithRoom). length o.taken) c.self.view_is) c.requires in
    let stands : slice_get old.taken.items c.args.place ≡ Some x = ap (λ (o : TakenWithRoom). slice_get o.taken c.args.place) c.self.view_is ∙ at in
    let lent : slice_get old.taken.items c.args.place ≡ Some c.index_mut.result.now =
    slice_get-get_or old.taken.items c.args.place c.index_mut.result.now within ∙ ap (λ (y : Taken). Some y) (sym c.index_mut.ensures.value) in
    ap₂ (λ (u : Taken) (o : Outcome). set old.taken.items c.args.place (record { asker = u.asker; outcome = o }))
    (some_is c.index_mut.result.now x (sym lent ∙ stands)) c.close-transaction.ensures.kept
    ∙ sym (reply_placed old.taken.items (λ a. get same_asker old.by_asker a) (λ n. get nat_eq old.by_transaction n) c.self.invariant c.args.place x t c.args.reply stands e)
    ∙ ap (λ (o : TakenWithRoom). keeping o.taken t c.args.reply) c.self.view_is

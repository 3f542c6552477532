use Rattle.std.proofs.Common.{◌≡◌, nat_eq, Some, None, slice_get, sym, ap, ◌∙◌, arith}
use Rattle.std.specs.HashMap.{get}
use Rattle.std.specs.Option.{option_copied}
use Rattle.std.proofs.lemmas.Option.{slice_get-get_or}
use Rattle.request_rules.specs.declared.taken.Taken.{Taken}
use Rattle.request_rules.specs.TakenUp.{bound_to, same_asker}
use Rattle.reply_table.specs.Kept.{TakenWithRoom}
use Rattle.reply_table.proofs.TableLaws.{bound_none, bound_place}
use Rattle.reply_table.proofs.reply_table.ReplyTable.bound.Goals as goal

pub returns-in_err-place : goal.returns-in_err-place
returns-in_err-place c =
    let old = c.self.inside in
    let none : get nat_eq old.by_transaction c.args.transaction ≡ None = sym c.get.ensures.value ∙ ap option_copied c.in_err-place.was in
    c.from_residual.ensures
    ∙ sym (bound_none old.taken.items (λ a. get same_asker old.by_asker a) (λ n. get nat_eq old.by_transaction n) c.self.invariant c.args.transaction none)
    ∙ ap (λ (o : TakenWithRoom). bound_to o.taken c.args.transaction) c.self.view_is

pub index-requires : goal.index-requires
index-requires c =
    let old = c.self.inside in
    let here : get nat_eq old.by_transaction c.args.transaction ≡ Some c.in_ok-place.place.now = sym c.get.ensures.value ∙ ap option_copied c.in_ok-place.was in
    let within = (bound_place old.taken.items (λ a. get same_asker old.by_asker a) (λ n. get nat_eq old.by_transaction n) c.self.invariant c.args.transaction c.in_ok-place.place.now here).0 in
    omega (arith, within, old.taken.ok)

pub returns : goal.returns
returns c =
    let old = c.self.inside in
    let here : get nat_eq old.by_transaction c.args.transaction ≡ Some c.in_ok-place.place.now = sym c.get.ensures.value ∙ ap option_copied c.in_ok-place.was in
    let place = bound_place old.taken.items (λ a. get same_asker old.by_asker a) (λ n. get nat_eq old.by_transaction n) c.self.invariant c.args.transaction c.in_ok-place.place.now here in
    let at : slice_get old.taken.items c.in_ok-place.place.now ≡ Some c.index.result.now =
    slice_get-get_or old.taken.items c.in_ok-place.place.now c.index.result.now place.0 ∙ ap (λ (x : Taken). Some x) (sym c.index.ensures) in
    sym (place.1 c.index.result.now at) ∙ ap (λ (o : TakenWithRoom). bound_to o.taken c.args.transaction) c.self.view_is

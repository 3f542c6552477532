use Rattle.std.proofs.Common.{◌≡◌, List, refl, sym, ap, subst, ◌∙◌}
use Rattle.record_store.specs.Store.{HasRoom}
use Rattle.record_store.proofs.RoomLaws.{room_for_first, room_for_rest}
use Rattle.node_rules.specs.Merging.{Record, store_merged_all}
use Rattle.immigrate.specs.Digests.{record_digests}
use Rattle.immigrate.proofs.BatchLaws.{first_taken}
use Rattle.node_view.specs.Views.{facts_in, viewed_key, store_of}
use Rattle.node_view.proofs.MergeLaws.{all_merged, fewer, held_already, holding, merged_more, none_left, rest_merged}
use Rattle.node_view.proofs.view.View.merge.Goals as goal

pub loop-digest-init : goal.loop-digest-init
loop-digest-init c = record {
  room = c.requires.room;
  node = λ f h. held_already f c.args.self.now c.args.store.now h;
  rest = refl;
  key = refl;
}

pub merge_one-requires : goal.merge_one-requires
merge_one-requires c =
    let list = first_taken c.loop-digest.newer c.take_first.new.self _ c.in-Some.ensures.first c.take_first.ensures.rest in
    room_for_first _ _ _ (subst (λ (xs : List Record). HasRoom (record_digests xs) c.loop-digest.store.spare) list c.loop-digest.invariant.room)

pub loop-digest-preserved : goal.loop-digest-preserved
loop-digest-preserved c =
    let i = c.loop-digest.invariant in
    let rs = c.take_first.new.self in
    let v = c.loop-digest.self in
    let w = c.merge_one.new.self in
    let s = c.loop-digest.store in
    let u = c.merge_one.new.store in
    let first = c.args.self.now in
    let start = c.args.store.now in
    let list = first_taken c.loop-digest.newer rs _ c.in-Some.ensures.first c.take_first.ensures.rest in
    let key : viewed_key w ≡ viewed_key v = ap viewed_key c.merge_one.ensures.same in
    let known = facts_in first start in
    let before = i.node known c.requires.node in
    record {
      room = room_for_rest _ _ _ _ (subst (λ (xs : List Record). HasRoom (record_digests xs) s.spare) list i.room) c.merge_one.ensures.room;
      node = λ f h. merged_more f v w s u _ _ (c.merge_one.ensures.node (holding f s) (i.node f h));
      rest =
          rest_merged known v w s u _ _ rs (viewed_key first) i.key before (c.merge_one.ensures.node (holding known s) before)
          ∙ (ap (store_merged_all (store_of s) (viewed_key first)) (sym list) ∙ i.rest);
      key = key ∙ i.key;
    }

pub loop-digest-smaller : goal.loop-digest-smaller
loop-digest-smaller c =
    let list = first_taken c.loop-digest.newer c.take_first.new.self _ c.in-Some.ensures.first c.take_first.ensures.rest in
    fewer c.loop-digest.newer c.take_first.new.self _ list

pub returns : goal.returns
returns c f h =
    let i = c.loop-digest.invariant in
    let v = c.args.self.now in
    let s = c.args.store.now in
    let u = c.loop-digest.store in
    let none = none_left c.loop-digest.newer c.in_default.ensures.first in
    all_merged f v c.loop-digest.self s u c.args.merged.newer (ap (store_merged_all (store_of u) (viewed_key v)) (sym none) ∙ i.rest) h (i.node f h)

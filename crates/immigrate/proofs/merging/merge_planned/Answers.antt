use Rattle.std.proofs.Common.{List, sym, ap, subst, ◌∙◌}
use Rattle.conflict_order.specs.declared.policy.Policy.{Policy}
use Rattle.record_store.specs.Store.{HasRoom}
use Rattle.record_store.proofs.RoomLaws.{room_for_first, room_for_rest}
use Rattle.node_rules.specs.Copies.{Content}
use Rattle.node_rules.specs.Merging.{Record, joined_all}
use Rattle.immigrate.specs.Digests.{record_digests}
use Rattle.immigrate.proofs.BatchLaws.{first_taken, on_ok}
use Rattle.immigrate.proofs.merging.merge_planned.Goals as goal

pub loop-digest-preserved : goal.loop-digest-preserved
loop-digest-preserved c =
    let s = c.loop-digest.store in
    let rs = c.take_first.new.self in
    let list = first_taken c.loop-digest.newer rs _ c.in-Some.ensures.first c.take_first.ensures.rest in
    let room = subst (λ (xs : List Record). HasRoom (record_digests xs) s.spare) list c.loop-digest.invariant.room in
    let joined = on_ok _ _ c.join_in.ensures.joined (c.join_in.ensures.reserved (room_for_first _ _ _ room)) in
    record {
      room = room_for_rest _ _ _ _ room c.join_in.ensures.room;
      versions =
          ap (λ (by : Policy). joined_all by c.join_in.new.self.versions rs) c.join_in.ensures.policy
          ∙ ap (λ (m : Content). joined_all s.by m rs) joined
          ∙ sym (ap (joined_all s.by s.versions) list)
          ∙ c.loop-digest.invariant.versions;
      stamps = c.join_in.ensures.stamps ∙ c.loop-digest.invariant.stamps;
      policy = c.join_in.ensures.policy ∙ c.loop-digest.invariant.policy;
    }

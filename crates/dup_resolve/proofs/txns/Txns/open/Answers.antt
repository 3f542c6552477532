use Rattle.std.proofs.Common.{List, ℕ, Some, bytes_eq, cond, ap, sym, subst, ◌<◌, ◌∙◌, arith}
use Rattle.std.specs.HashMap.{get}
use Rattle.cluster_types.specs.Partitions.{partition_count}
use Rattle.dup_resolve.specs.Open.{Open, number_on}
use Rattle.dup_resolve.proofs.ClosingLaws.{counts_opened, index_opened, on_ok, room_in_each}
use Rattle.dup_resolve.proofs.CountLaws.{count_bound, partition_within}
use Rattle.dup_resolve.proofs.txns.Txns.open.Goals as goal

pub push-requires-clause-room : goal.push-requires-clause-room
push-requires-clause-room c = (room_in_each _ _ _ _ (ap (λ (o : Open). o.spare) c.self.view_is) c.requires.room).0

pub add-requires-clause-room : goal.add-requires-clause-room
add-requires-clause-room c = (room_in_each _ _ _ _ (ap (λ (o : Open). o.spare) c.self.view_is) c.requires.room).2

pub add-requires-clause-limit : goal.add-requires-clause-limit
add-requires-clause-limit c =
    let old = c.self.inside in
    let within : c.partition_of.result < partition_count = subst (λ (p : ℕ). p < partition_count) (sym c.partition_of.ensures) (partition_within c.args.txn.digest) in
    omega (arith, c.push.ensures.bound, c.requires.limit, ap (λ (o : Open). o.opened) c.self.view_is, count_bound old.slots.running old.by_partition c.partition_of.result within c.self.invariant.1)

pub invariant_of-self : goal.invariant_of-self
invariant_of-self c =
    let old = c.self.inside in
    let room = room_in_each _ _ _ _ (ap (λ (o : Open). o.spare) c.self.view_is) c.requires.room in
    let free = sym (c.requires.free) ∙ sym (ap (λ (o : Open). number_on o.running c.args.txn.digest) c.self.view_is) in (
      index_opened old.slots.running _ c.args.txn (λ q. get bytes_eq old.by_digest q) _ free c.push.ensures.running (λ q. (on_ok _ _ c.insert.ensures.updates (c.insert.ensures.succeeds room.1)).0 q ∙ ap (λ (k : List ℕ). cond (bytes_eq k q) (Some c.args.txn.id) (get bytes_eq old.by_digest q)) c.bytes.ensures.same) c.self.invariant.0,
      counts_opened old.slots.running _ c.args.txn old.by_partition _ c.partition_of.result room.2 c.push.ensures.running c.partition_of.ensures c.add.ensures c.self.invariant.1,
    )

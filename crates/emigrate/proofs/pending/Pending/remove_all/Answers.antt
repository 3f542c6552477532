use Rattle.std.proofs.Common.{◌≡◌, ◌<◌, ◌+◌, ℕ, List, length, take, count_by, slice_index, sym, ap, subst, ◌∙◌, arith}
use Rattle.std.specs.Option.{option_copied}
use Rattle.cluster_types.specs.Partitions.{partition_count}
use Rattle.node_rules.specs.Copies.{is_of}
use Rattle.emigrate.specs.Going.{batch_digests}
use Rattle.emigrate.proofs.CountLaws.{digest_at, digest_within, no_item, one_less, some_left}
use Rattle.emigrate.proofs.pending.Pending.remove_all.Goals.{in-Some, in_default}
use Rattle.emigrate.proofs.pending.Pending.remove_all.Goals as goal

pub remove-requires : goal.remove-requires
remove-requires c =
    let rs = c.args.batch.now.records in
    let r = c.in-Some.field-0.now in
    some_left (slice_index c.args.self.now) c.loop-i.self (batch_digests c.args.batch.now) c.loop-i.i r.0 (digest_within rs c.loop-i.i r (sym c.in-Some.ensures)) (digest_at rs c.loop-i.i r (sym c.in-Some.ensures))
    c.requires c.loop-i.invariant

pub loop-i-preserved : goal.loop-i-preserved
loop-i-preserved c =
    let rs = c.args.batch.now.records in
    let ds = batch_digests c.args.batch.now in
    let within : c.loop-i.i < length rs = omega (arith, c.loop-i-test.true, c.len-i-end.ensures) in
    elim c.match-get.branch [
      | in-Some w ↦
          let r = w.in-Some.field-0.now in
          let inside = digest_within rs c.loop-i.i r (sym w.in-Some.ensures) in
          let at = digest_at rs c.loop-i.i r (sym w.in-Some.ensures) in
          let some = some_left (slice_index c.args.self.now) c.loop-i.self ds c.loop-i.i r.0 inside at c.requires c.loop-i.invariant in
          one_less (slice_index c.args.self.now) c.loop-i.self c.match-get.self ds c.loop-i.i r.0 inside at w.remove.ensures.size (w.self-is ∙ w.remove.ensures.less) some c.loop-i.invariant
      | in_default w ↦ absurd (no_item rs c.loop-i.i within (sym c.get.ensures ∙ ap option_copied w.in_default.is))
    ]

use Rattle.std.proofs.Common.{◌≡◌, ◌≤◌, ◌<◌, ◌+◌, ℕ, List, take, set, get_or, count_by, refl, subst, sym, ◌∙◌, arith, length-set}
use Rattle.cluster_types.specs.Partitions.{partition_count}
use Rattle.cluster_types.specs.Copies.{is_of}
use Rattle.record_store.specs.Store.{room_at}
use Rattle.record_store.specs.Copies.{rooms_of}
use Rattle.record_store.proofs.RoomLaws.{keeps_refl, keeps_trans, counts_more, room_more}
use Rattle.record_store.proofs.store.reserve_each.Goals as goal

pub loop-d-init : goal.loop-d-init
loop-d-init c = record {
  same = refl;
  kept = keeps_refl _;
  room = record { room = λ p within. omega arith };
  size = c.no_counts-wanted.ensures.size;
  counts = λ p within. c.no_counts-wanted.ensures.none p;
}

pub loop-d-preserved : goal.loop-d-preserved
loop-d-preserved c =
    let ds = c.args.ds.now in
    let i = c.loop-d.d-index in
    let d = c.d-item.result in
    let old = c.loop-d.wanted in
    let place = c.place_of-place.result in
    let of = c.place_of-place.ensures.same ∙ c.partition_of.ensures in
    let within = c.loop-d-test.true in
    let before = c.loop-d.invariant in
    let made = c.in_ok-reserve_at.ensures in
    let wanted : List ℕ = set old place (get_or old place 0 + 1) in
    let counts : (p : ℕ) → p < partition_count → get_or wanted p 0 ≡ count_by (is_of p) (take (i + 1) ds)
    = subst (λ q. (p : ℕ) → p < partition_count → get_or (set old q (get_or old q 0 + 1)) p 0 ≡ count_by (is_of p) (take (i + 1) ds)) (sym of) (counts_more ds i d within c.d-item.is old before.size before.counts) in
    let n = get_or wanted place 0 in
    record {
      same = made.same ∙ before.same;
      kept = keeps_trans _ _ _ before.kept made.kept;
      room = room_more ds i d within c.d-item.is _ _ n before.room made.kept
          (subst (λ q. n ≡ count_by (is_of q) (take (i + 1) ds)) of (counts place c.place_of-place.ensures.within))
          (subst (λ q. n ≤ room_at (rooms_of c.reserve_at.new.copies) q) of made.enough);
      size = length-set _ _ _ ∙ before.size;
      counts = counts;
    }

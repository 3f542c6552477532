use Rattle.record_store.proofs.StampLaws.{stamps_new}
use Rattle.record_store.proofs.StoreLaws.{new_copies}
use Rattle.std.proofs.Common.{refl}
use Rattle.record_store.proofs.store.RecordStore.with_policy.Goals as goal

pub invariant_of-result : goal.invariant_of-result
invariant_of-result c = ((new_copies _ c.in_ok-empty_copies.ensures.count c.in_ok-empty_copies.ensures.empty).copies, c.in_ok-no_stamps.ensures.count)

pub returns : goal.returns
returns c = record {
  versions = (new_copies _ c.in_ok-empty_copies.ensures.count c.in_ok-empty_copies.ensures.empty).versions;
  stamps = stamps_new _ c.in_ok-no_stamps.ensures.none;
  policy = refl;
}

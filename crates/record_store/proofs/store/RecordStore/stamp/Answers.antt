use Rattle.std.proofs.Common.{ℕ, ap, ◌∙◌, arith}
use Rattle.std.specs.FinMap.{insert}
use Rattle.cluster_types.specs.declared.cluster_key.ClusterKey.{ClusterKey}
use Rattle.cluster_types.specs.Copies.{Stamps}
use Rattle.record_store.specs.Store.{StoreWithRoom}
use Rattle.record_store.specs.Copies.{copies_of, rooms_of, versions_of}
use Rattle.record_store.specs.StampList.{stamps_of}
use Rattle.record_store.proofs.StampLaws.{stamps_set}
use Rattle.record_store.proofs.store.RecordStore.stamp.Goals as goal

pub returns : goal.returns
returns c =
    let cs = c.self.inside.copies.items in
    let ss = c.self.inside.stamps.items in
    let place = c.place_of.result in
    let stamp : ClusterKey × ℕ = (c.args.key, c.args.writes) in
    let made = stamps_set ss place (record { key = c.args.key; writes = c.args.writes }) (omega (arith, c.place_of.ensures.within, c.self.invariant.1)) in
    let store : Stamps → StoreWithRoom = λ stamps. record { versions = versions_of (copies_of cs); stamps = stamps; by = c.self.inside.by; spare = rooms_of cs } in
    ap store (made ∙ ap (λ p. insert (stamps_of ss) p stamp) c.place_of.ensures.same)
    ∙ ap (λ (seen : StoreWithRoom). record seen { stamps = insert seen.stamps c.args.p stamp }) c.self.view_is

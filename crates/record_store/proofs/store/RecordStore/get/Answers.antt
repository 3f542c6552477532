use Rattle.std.proofs.Common.{ap, ◌∙◌}
use Rattle.std.specs.FinMap.{find, get}
use Rattle.record_store.proofs.CopyLaws.{digest_cmp}
use Rattle.record_store.proofs.StoreLaws.{held}
use Rattle.record_store.proofs.store.RecordStore.get.Goals as goal

pub returns : goal.returns
returns c =
    let d = c.args.d.now in
    let x = c.index.result.now in
    let of = c.place_of.ensures.same ∙ c.partition_of.ensures in
    c.find.ensures
    ∙ ap (λ k. find digest_cmp k x.items) c.bytes.ensures.same
    ∙ held c.self.inside.copies.items c.self.invariant.0 c.place_of.result c.place_of.ensures.within x c.index.ensures d of
    ∙ ap (λ s. get s.versions d) c.self.view_is

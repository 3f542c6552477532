use Rattle.std.proofs.Common.{◌≡◌, ◌+◌, List, ℕ, min, take, sym, ap, ap₂, ◌∙◌}
use Rattle.std.specs.Option.{option_copied}
use Rattle.conflict_order.specs.Contents.{Content}
use Rattle.cluster_types.specs.Copies.{digests_of}
use Rattle.node_rules.specs.Batches.{records_of}
use Rattle.node_rules.specs.Facts.{Facts}
use Rattle.node_rules.specs.Steps.{Planning}
use Rattle.record_store.specs.Store.{digests_above}
use Rattle.request_rules.specs.Pages.{digests_left}
use Rattle.node_core.proofs.ScanLaws.{above_is, page_shown}
use Rattle.node_core.proofs.node.Node.page.Goals as goal

pub returns : goal.returns
returns c =
    let f : Facts = c.args.self.now.now in
    let p = c.args.p in
    let limit = c.from-most.result in
    let shown = c.min-shown.result in
    let after = option_copied c.args.after in
    let stored : f.store.content ≡ c.self.inside.store.versions = ap (λ (n : Planning). n.now.store.content) (sym c.self.view_is) in
    let looked : c.in_ok-digests.digests ≡ take (limit + 1) (digests_left f p after) =
    c.in_ok-digests.ensures
    ∙ ap (λ (held : Content). take (limit + 1) (digests_above after (digests_of held p))) (sym stored)
    ∙ ap (take (limit + 1)) (above_is after (digests_of f.store.content p)) in
    let are : c.in_ok-records_of.field-0 ≡ records_of f.store.content (take shown c.in_ok-digests.digests) =
    c.in_ok-records_of.ensures ∙ ap₂ (λ (held : Content) (ds : List (List ℕ)). records_of held (take shown ds)) (sym stored) c.as_slice.ensures in
    page_shown f (digests_left f p after) c.in_ok-digests.digests c.args.most limit c.len-2.result shown c.in_ok-records_of.field-0 c.from-most.ensures c.len-2.ensures looked (c.min-shown.ensures ∙ ap (λ n. min n limit) (c.len.ensures ∙ sym c.len-2.ensures)) are

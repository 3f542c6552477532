use Rattle.std.proofs.Common.{ap, ◌∙◌}
use Rattle.partition_lists.specs.Hashes.{place_after}
use Rattle.partition_lists.proofs.HashLaws.{place_continued}
use Rattle.partition_lists.proofs.hashes.place.Goals as goal

pub returns : goal.returns
returns c =
    c.place_from.ensures c.args.p c.partition_bytes.ensures
    ∙ ap (place_after c.args.p) c.node_state.ensures
    ∙ place_continued c.args.n c.args.p

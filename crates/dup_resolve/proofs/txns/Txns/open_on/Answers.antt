use Rattle.std.proofs.Common.{bytes_eq, ap, ◌∙◌}
use Rattle.std.specs.HashMap.{get}
use Rattle.dup_resolve.specs.Open.{Open, number_on}
use Rattle.dup_resolve.proofs.IndexLaws.{number_is}
use Rattle.dup_resolve.proofs.txns.Txns.open_on.Goals as goal

pub returns : goal.returns
returns c =
    let d = c.args.d.now in
    c.copied.ensures
    ∙ c.get.ensures.value
    ∙ ap (get bytes_eq c.self.inside.by_digest) c.bytes.ensures.same
    ∙ c.self.invariant.0.agrees d
    ∙ number_is c.self.inside.slots.running d
    ∙ ap (λ (o : Open). number_on o.running d) c.self.view_is

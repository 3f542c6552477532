use Rattle.std.proofs.Common.{sym, ◌∙◌}
use Rattle.partition_state.proofs.WholestLaws.{first_is_wholest}
use Rattle.partition_state.proofs.copies.first_wholest.Goals as goal

pub returns-in-Some : goal.returns-in-Some
returns-in-Some c =
    sym (first_is_wholest c.greatest_key.result c.args.copies.now c.args.nodes.now c.in-Some.n c.greatest_key.ensures (sym c.first_under.ensures ∙ c.in-Some.is))

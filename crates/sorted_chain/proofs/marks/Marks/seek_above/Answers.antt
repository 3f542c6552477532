use Rattle.std.proofs.Common.{Option, List, ℕ, Bor, sym, ap, ◌∙◌}
use Rattle.std.specs.Option.{option_copied}
use Rattle.sorted_chain.specs.Chain.{above}
use Rattle.sorted_chain.specs.Nodes.{pays, entries}
use Rattle.sorted_chain.proofs.PlaceLaws.{above_here, above_gap}
use Rattle.sorted_chain.proofs.marks.Marks.seek_above.Goals as goal

pub returns-in-Ok-clause-rest : goal.returns-in-Ok-clause-rest
returns-in-Ok-clause-rest g c =
    let es = entries (pays c.args.nodes.now.boxes.items) in
    sym (above_here _ es _ c.requires.ascending c.in-Ok.ensures.here) ∙ ap (λ (k : Option (Bor (List ℕ))). above (option_copied k) es) (sym c.in-Some.is)

pub returns-in-Err-clause-rest : goal.returns-in-Err-clause-rest
returns-in-Err-clause-rest g c =
    let es = entries (pays c.args.nodes.now.boxes.items) in
    sym (above_gap _ es _ c.in-Err.ensures.gap) ∙ ap (λ (k : Option (Bor (List ℕ))). above (option_copied k) es) (sym c.in-Some.is)

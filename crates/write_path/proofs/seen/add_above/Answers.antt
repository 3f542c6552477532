use Rattle.std.proofs.Common.{◌≡◌, Ok, Err, insert, ◌∙◌}
use Rattle.std.proofs.lemmas.List.Sorted.{searched}
use Rattle.node_rules.specs.Stamps.{with_number}
use Rattle.write_path.proofs.NumberLaws.{found, placed, rises_weakly}
use Rattle.write_path.proofs.seen.add_above.Goals as goal

pub returns-in-Ok-clause-ok : goal.returns-in-Ok-clause-ok
returns-in-Ok-clause-ok c =
    let ms = c.args.above.now.items in
    let at = searched ms c.args.nth (Ok c.in-Ok.field-0) c.in-Ok.ensures.position (rises_weakly ms c.requires) in
    found ms c.in-Ok.field-0 c.args.nth at.0 at.1 c.requires

pub returns-in_ok-insert-in-Err-clause-ok : goal.returns-in_ok-insert-in-Err-clause-ok
returns-in_ok-insert-in-Err-clause-ok c =
    let ms = c.args.above.now.items in
    let at = searched ms c.args.nth (Err c.in-Err.place) c.in-Err.ensures.position (rises_weakly ms c.requires) in
    let more : insert ms c.in-Err.place c.args.nth ≡ with_number ms c.args.nth = placed ms c.in-Err.place c.args.nth at.0 at.1 at.2 in
    c.in_ok-insert-in-Err.ensures.items ∙ more

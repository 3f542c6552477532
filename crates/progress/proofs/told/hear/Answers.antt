use Rattle.std.proofs.Common.{ℕ, sym, ap, ◌∙◌}
use Rattle.node_rules.specs.Tables.{table_with}
use Rattle.progress.specs.Told.{told_table}
use Rattle.progress.proofs.ToldLaws.{no_place, placed}
use Rattle.progress.proofs.told.hear.Goals as goal

pub unreachable-requires : goal.unreachable-requires
unreachable-requires c = no_place c.args.heard.now c.args.from c.requires.listed (sym c.in-None.ensures)

pub returns-clause-table : goal.returns-clause-table
returns-clause-table c =
    c.hear_at.ensures.table
    ∙ ap (λ (n : ℕ). table_with (told_table c.args.heard.now) n c.args.done.now) (placed c.args.heard.now c.args.from c.in-Some.place (sym c.in-Some.ensures)).1

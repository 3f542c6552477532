use Rattle.std.proofs.Common.{sym, ◌∙◌}
use Rattle.node_view.proofs.TakeLaws.{no_row_missing}
use Rattle.node_view.proofs.view.View.add_row.Goals as goal

pub unreachable-requires : goal.unreachable-requires
unreachable-requires c = no_row_missing c.args.self.now c.moving.result (λ m. m.now) c.args.from (sym c.is_some.ensures ∙ c.if-is_some.true) c.moving.ensures.moving c.requires.member c.requires.lacking

use Rattle.std.proofs.Common.{◌≡◌, ◌∙◌, true, Contains, arith, subst, sym}
use Rattle.cluster_types.specs.Members.{ids_of}
use Rattle.node_rules.specs.Map.{lacks}
use Rattle.exchange.specs.Met.{Met, met_members}
use Rattle.exchange.proofs.RowsLaws.{room_for, rows_more}
use Rattle.exchange.proofs.exchanging.Exchanging.on_state.Goals as goal

pub add_row-requires : goal.add_row-requires
add_row-requires c =
    omega (
      arith,
      c.self.inside.view.rows.ok,
      room_for c.self.inside.view.me c.self.inside.view.lists c.self.inside.view.rows.items _ c.args.from c.self.invariant.0
          (subst (λ (x : Met). Contains (ids_of (met_members x)) c.args.from) (sym c.self.view_is) c.requires)
          (subst (λ (x : Met). lacks x.exchange.rows c.args.from ≡ true) (sym c.self.view_is) (sym c.lacks.ensures ∙ c.if-not-lacks.false)),
    )

pub step-requires-clause-rows : goal.step-requires-clause-rows
step-requires-clause-rows c =
    rows_more c.self.inside.view.me c.self.inside.view.lists c.self.inside.view.rows.items c.add_row.new.rows.items _ _ c.args.from c.args.row
    c.self.invariant.0 c.add_row.ensures.room
    (subst (λ (x : Met). Contains (ids_of (met_members x)) c.args.from)
    (sym c.self.view_is) c.requires)
    (subst (λ (x : Met). lacks x.exchange.rows c.args.from ≡ true) (sym c.self.view_is) (sym c.lacks.ensures ∙ c.if-not-lacks.false))
    c.add_row.ensures.rows

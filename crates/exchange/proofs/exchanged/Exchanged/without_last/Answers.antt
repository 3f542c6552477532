use Rattle.std.proofs.Common.{◌≢◌, Contains, subst, sym}
use Rattle.cluster_types.specs.Members.{ids_of}
use Rattle.exchange.specs.Met.{Met, met_members}
use Rattle.exchange.proofs.RowsLaws.{full_is_there, less_is_missing, rows_less}
use Rattle.exchange.proofs.exchanged.Exchanged.without_last.Goals as goal

pub take_row-row-requires-clause-listed : goal.take_row-row-requires-clause-listed
take_row-row-requires-clause-listed c =
    full_is_there c.self.inside.view.lists c.self.inside.view.rows.items c.args.from c.self.invariant.1.0
    (subst (λ (x : Met). Contains (ids_of (met_members x)) c.args.from) (sym c.self.view_is) c.requires.member)

pub of-requires-clause-rows : goal.of-requires-clause-rows
of-requires-clause-rows c =
    rows_less c.self.inside.view.me c.self.inside.view.lists c.self.inside.view.rows.items c.take_row-row.new.rows.items _ _ c.args.from
    c.self.invariant.0 c.take_row-row.ensures.room (subst (λ (x : Met). c.args.from ≢ x.me) (sym c.self.view_is) c.requires.other) c.take_row-row.ensures.rows

pub of-requires-clause-missing : goal.of-requires-clause-missing
of-requires-clause-missing c =
    less_is_missing c.self.inside.view.lists c.self.inside.view.rows.items c.take_row-row.new.rows.items c.args.from
    (subst (λ (x : Met). Contains (ids_of (met_members x)) c.args.from) (sym c.self.view_is) c.requires.member) c.take_row-row.ensures.rows

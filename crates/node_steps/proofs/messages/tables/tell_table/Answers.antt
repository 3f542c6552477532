use Rattle.std.proofs.Common.{[], ◌∷◌, All, refl, sym, ap, subst, ◌∙◌}
use Rattle.wire_messages.specs.Nodes.{IsId}
use Rattle.wire_messages.specs.Spelling.{spelling}
use Rattle.wire_messages.specs.declared.message.Message.TheVariants as message
use Rattle.node_rules.specs.Facts.{Facts}
use Rattle.node_view.specs.Views.{facts_seen}
use Rattle.node_steps.specs.declared.effects.Effects.{Effects}
use Rattle.node_steps.specs.Spelled.{with_sends}
use Rattle.node_steps.proofs.TableLaws.{table_proper, told_no_table, told_table}
use Rattle.node_steps.proofs.messages.tables.tell_table.Goals as goal

pub send-requires : goal.send-requires
send-requires c =
    let f : Facts = facts_seen c.args.view.now in
    let is = c.in_ok-table.ensures f (record { me = refl; factor = refl; view = refl }) in
    table_proper f c.in_ok-table.table is c.requires c.as_slice.ensures.size (subst (All IsId) c.as_slice.ensures.same c.ids_fit.ensures)

pub returns-then-not-has_exchanged : goal.returns-then-not-has_exchanged
returns-then-not-has_exchanged c = λ f own.
    c.new-out.ensures ∙ told_no_table f (ap (λ (g : Facts). g.exchange.exchanged) (sym own.view) ∙ sym c.if-not-has_exchanged.ensures)

pub returns : goal.returns
returns c = λ f own.
    c.in_ok-send.ensures
    ∙ ap (λ (e : Effects). with_sends e ((0, spelling (message.MapTable c.in_ok-table.table)) ∷ [])) c.new-out.ensures
    ∙ told_table f c.in_ok-table.table (c.in_ok-table.ensures f own) (ap (λ (g : Facts). g.exchange.exchanged) (sym own.view) ∙ sym c.if-not-has_exchanged.ensures)

use Rattle.std.proofs.Common.{refl, sym, ap, subst, ◌∙◌}
use Rattle.std.specs.Prelude.{IsSome}
use Rattle.node_rules.specs.Transactions as rules
use Rattle.node_view.specs.Views.{Viewed, view_of}
use Rattle.node_view.proofs.ResolveLaws.{agrees, closed_noted, closed_shown, is_open, shows}
use Rattle.node_view.proofs.view.View.close.Goals as goal

pub finish-requires : goal.finish-requires
finish-requires c =
    is_open c.self.inside.txns c.self.inside.notes c.args.transaction c.self.invariant.noted
    (subst (λ (v : Viewed). IsSome (rules.transaction v.transactions c.args.transaction)) (sym c.self.view_is) c.requires)

pub invariant_of-self : goal.invariant_of-self
invariant_of-self c =
    let i = c.self.inside in
    agrees i c.finish.new.self c.close.new.self i.writes c.self.invariant
    (closed_noted i.txns c.finish.new.self i.notes c.close.new.self c.args.transaction c.finish.ensures.opened c.finish.ensures.running c.close.ensures.opened c.close.ensures.notes c.self.invariant.noted)

pub returns : goal.returns
returns c =
    let i = c.self.inside in
    let o = c.finish.new.self in
    let n = c.close.new.self in
    let room = (view_of (record i { txns = o; notes = n })).room in
    shows i o n _ room c.finish.ensures.policy (closed_shown i.txns o i.notes n c.args.transaction c.finish.ensures.opened c.finish.ensures.running c.close.ensures.notes c.self.invariant.noted) refl
    ∙ ap (λ (v : Viewed). record v { transactions = rules.without_transaction v.transactions c.args.transaction; room = room }) c.self.view_is

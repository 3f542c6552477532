use Rattle.std.proofs.Common.{◌≡◌, ◌<◌, ◌+◌, ℕ, Some, None, min, refl, sym, ap, ap₂, subst, ◌∙◌, arith}
use Rattle.node_rules.specs.Transactions as rules
use Rattle.node_view.specs.Counts.{greatest_count}
use Rattle.node_view.specs.Transactions.{note_of}
use Rattle.node_view.specs.Views.{Viewed, view_of}
use Rattle.node_view.proofs.ResolveLaws.{agrees, found_opened, never_refused, none_on, opened_noted, opened_shown, shows}
use Rattle.node_view.proofs.view.View.begin.Goals as goal

pub open-requires-clause-room : goal.open-requires-clause-room
open-requires-clause-room c =
    let i = c.self.inside in
    let room : 0 < min i.txns.spare i.notes.spare = subst (λ (v : Viewed). 0 < v.room.transactions) (sym c.self.view_is) c.requires.room in
    omega (arith, room)

pub open-requires-clause-count : goal.open-requires-clause-count
open-requires-clause-count c =
    let i = c.self.inside in
    let count : i.txns.opened < greatest_count = subst (λ (v : Viewed). v.transactions.opened < greatest_count) (sym c.self.view_is) c.requires.count in
    subst (λ (k : ℕ). k < greatest_count) (sym c.self.invariant.noted.opened) count

pub begin-requires : goal.begin-requires
begin-requires c = subst (λ (v : Viewed). v.transactions.opened < greatest_count) (sym c.self.view_is) c.requires.count

pub unreachable-requires : goal.unreachable-requires
unreachable-requires c =
    let i = c.self.inside in
    let room : 0 < min i.txns.spare i.notes.spare = subst (λ (v : Viewed). 0 < v.room.transactions) (sym c.self.view_is) c.requires.room in
    let free = none_on i.txns i.notes c.args.digest c.self.invariant.noted (ap (λ (v : Viewed). rules.transaction_on v.transactions c.args.digest) c.self.view_is ∙ c.requires.free) in
    never_refused c.begin.result _ _ c.in-Err.is free c.begin.ensures.busy (c.begin.ensures.reserved (omega (arith, room)))

pub invariant_of-self : goal.invariant_of-self
invariant_of-self c =
    let i = c.self.inside in
    agrees i c.begin.new.self c.open.new.self i.writes c.self.invariant
    (opened_noted i.txns c.begin.new.self i.notes c.open.new.self c.args.digest c.args.want c.args.best c.args.asked c.in-Ok.ensures.opened c.in-Ok.ensures.running c.open.ensures.opened c.open.ensures.notes c.self.invariant.noted)

pub returns-clause-view : goal.returns-clause-view
returns-clause-view c =
    let i = c.self.inside in
    let o = c.begin.new.self in
    let n = c.open.new.self in
    let room = min o.spare n.spare in
    shows i o n _ (record (view_of i).room { transactions = room }) c.begin.ensures.policy
    (opened_shown i.txns o i.notes n c.args.digest c.args.want c.args.best c.args.asked c.in-Ok.ensures.opened c.in-Ok.ensures.running c.open.ensures.notes c.self.invariant.noted) refl
    ∙ ap (λ (v : Viewed). record v { transactions = rules.opening v.transactions (rules.new_transaction (v.transactions.opened + 1) c.args.digest c.args.want c.args.best c.args.asked); room = record v.room { transactions = room } }) c.self.view_is

pub returns-clause-found : goal.returns-clause-found
returns-clause-found c =
    let i = c.self.inside in
    let o = c.begin.new.self in
    let n = c.open.new.self in
    let shown = opened_shown i.txns o i.notes n c.args.digest c.args.want c.args.best c.args.asked c.in-Ok.ensures.opened c.in-Ok.ensures.running c.open.ensures.notes c.self.invariant.noted in
    let fresh : note_of i.notes.kept (i.txns.opened + 1) ≡ None = subst (λ (k : ℕ). note_of i.notes.kept (k + 1) ≡ None) c.self.invariant.noted.opened c.open.ensures.fresh in
    ap₂ (λ (ts : rules.Transactions) (k : ℕ). rules.transaction ts k) shown c.in-Ok.ensures.id
    ∙ found_opened i.txns i.notes (rules.new_transaction (i.txns.opened + 1) c.args.digest c.args.want c.args.best c.args.asked) c.self.invariant.noted fresh
    ∙ ap (λ (v : Viewed). Some (rules.new_transaction (v.transactions.opened + 1) c.args.digest c.args.want c.args.best c.args.asked)) c.self.view_is

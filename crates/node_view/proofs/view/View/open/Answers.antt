use Rattle.std.proofs.Common.{◌≡◌, ◌+◌, ℕ, List, Option, sym, ap, subst, ◌∙◌}
use Rattle.node_rules.specs.Transactions.{Transactions}
use Rattle.node_view.specs.declared.view_step.Outcome.{Outcome}
use Rattle.node_view.specs.declared.view_step.ViewStep.TheVariants as step
use Rattle.node_view.specs.Fits.{IsReady}
use Rattle.node_view.specs.Plans.{with_opened, with_outcome, with_outcome_if}
use Rattle.node_view.specs.Views.{IsNodeInView}
use Rattle.node_view.proofs.OutcomeLaws.{opens}
use Rattle.node_view.proofs.ReadyLaws.{digest_opened, ready_with_opened}
use Rattle.node_view.proofs.SightLaws.{sees}
use Rattle.node_view.proofs.view.View.open.Goals as goal

pub resolve-requires : goal.resolve-requires
resolve-requires c =
    ready_with_opened c.args.self.now c.begin-transaction.new.self c.args.store.now c.begin-transaction.result c.args.digest c.args.want c.args.best c.args.asked c.in-Some.outcome _
    c.begin-transaction.ensures.view c.begin-transaction.ensures.found
    (subst (λ (o : Option Outcome). IsReady c.args.self.now c.args.store.now (step.Opened c.args.digest c.args.want c.args.best c.args.asked o)) c.in-Some.is c.requires)

pub returns-in-Some : goal.returns-in-Some
returns-in-Some c f h =
    let v = c.args.self.now in
    let u = c.begin-transaction.new.self in
    let g = with_opened f c.args.digest c.args.want c.args.best c.args.asked in
    let digest = digest_opened u c.begin-transaction.result _ c.begin-transaction.ensures.found in
    let number : c.begin-transaction.result ≡ f.transactions.opened + 1 = c.begin-transaction.ensures.number ∙ ap (λ (ts : Transactions). ts.opened + 1) (sym (sees f v h.view.viewed).transactions) in
    subst (λ (o : Option Outcome). IsNodeInView (with_outcome_if g (f.transactions.opened + 1) c.args.digest o) c.resolve.new.self c.resolve.new.store) (sym c.in-Some.is)
    (subst (λ (n : ℕ). IsNodeInView (with_outcome g n c.args.digest c.in-Some.outcome) c.resolve.new.self c.resolve.new.store) number
    (subst (λ (d : List ℕ). IsNodeInView (with_outcome g c.begin-transaction.result d c.in-Some.outcome) c.resolve.new.self c.resolve.new.store) digest
    (c.resolve.ensures g (opens f v u c.args.store.now c.args.digest c.args.want c.args.best c.args.asked _ c.begin-transaction.ensures.view h))))

pub returns-in-None : goal.returns-in-None
returns-in-None c f h =
    let g = with_opened f c.args.digest c.args.want c.args.best c.args.asked in
    subst (λ (o : Option Outcome). IsNodeInView (with_outcome_if g (f.transactions.opened + 1) c.args.digest o) c.begin-transaction.new.self c.args.store.now) (sym c.in-None.is)
    (opens f c.args.self.now c.begin-transaction.new.self c.args.store.now c.args.digest c.args.want c.args.best c.args.asked _ c.begin-transaction.ensures.view h)

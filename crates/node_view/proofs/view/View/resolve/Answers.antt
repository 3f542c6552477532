use Rattle.std.proofs.Common.{sym, subst}
use Rattle.node_view.specs.declared.view_step.Outcome.{Outcome}
use Rattle.node_view.specs.Fits.{IsReadyToResolve}
use Rattle.node_view.specs.Plans.{with_outcome}
use Rattle.node_view.specs.Views.{IsNodeInView, digest_in}
use Rattle.node_view.proofs.OutcomeLaws.{closes}
use Rattle.node_view.proofs.view.View.resolve.Goals as goal

pub close-requires : goal.close-requires
close-requires c = c.requires.fits.open_one

pub returns-in-Read : goal.returns-in-Read
returns-in-Read c f h =
    subst (λ (o : Outcome). IsNodeInView (with_outcome f c.args.transaction (digest_in c.args.self.now c.args.transaction) o) c.close.new.self c.args.store.now) (sym c.in-Read.is)
    (closes f c.args.self.now c.close.new.self c.args.store.now c.args.transaction c.close.ensures h)

pub write-requires : goal.write-requires
write-requires c = subst (λ (o : Outcome). IsReadyToResolve c.args.self.now c.args.store.now c.args.transaction o) c.in-Write.is c.requires

pub returns-in-Write : goal.returns-in-Write
returns-in-Write c f h =
    subst (λ (o : Outcome). IsNodeInView (with_outcome f c.args.transaction (digest_in c.args.self.now c.args.transaction) o) c.write.new.self c.write.new.store) (sym c.in-Write.is)
    (c.write.ensures f h)

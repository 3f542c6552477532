use Rattle.std.proofs.Common.{◌≡◌, true, ap, refl, subst, sym, ◌∙◌}
use Rattle.node_rules.specs.Bits.{progressing}
use Rattle.node_view.specs.Views.{AreLive, IsInView, IsNodeInView, Viewed, facts_seen, unsettled_count, with_bits, with_live, with_settled_row, with_unsettled, with_watch}
use Rattle.cluster_types.specs.Rows.{bit}
use Rattle.node_view.proofs.ByNumberLaws.{unsettled_seen}
use Rattle.node_view.proofs.HeardLaws.{bits_kept, bits_seen, counted_before, heard_anew, in_view_uncounted, other_member, quiet_before}
use Rattle.node_view.proofs.view.View.take_progress.Goals as goal

pub hear_progress-requires : goal.hear_progress-requires
hear_progress-requires c = other_member c.args.self.now c.args.store.now c.args.progressed.now.from c.requires.fits

pub see_settled-requires-clause-kept : goal.see_settled-requires-clause-kept
see_settled-requires-clause-kept c q within set =
    let v = c.args.self.now in
    subst (λ (w : Viewed). bit w.bits.settled q ≡ true) (sym c.hear_progress.ensures)
    (bits_kept v.bits.settled c.args.progressed.now.settled q (ap (λ row. bit row q) (sym c.settled_row.ensures) ∙ set))

pub see_settled-requires-clause-counted : goal.see_settled-requires-clause-counted
see_settled-requires-clause-counted c =
    let v = c.args.self.now in
    let p = c.args.progressed.now in
    let before = c.settled_row.result.now in
    subst (λ (w : Viewed). w.watch.unsettled ≡ unsettled_count (with_settled_row (facts_seen w) before)) (sym c.hear_progress.ensures)
    (counted_before v c.args.store.now (progressing v.bits p.from p.done p.handed p.settled) before c.requires.node c.settled_row.ensures)

pub returns : goal.returns
returns c f h =
    let v = c.args.self.now in
    let s = c.args.store.now in
    let p = c.args.progressed.now in
    let before = c.settled_row.result.now in
    let bs = progressing v.bits p.from p.done p.handed p.settled in
    let new = c.see_settled.new.self in
    let count = new.watch.unsettled in
    let live = new.watch.live in
    let heard : c.hear_progress.new.self ≡ with_bits v bs = c.hear_progress.ensures in
    let seen : new ≡ with_live (with_unsettled (with_bits v bs) count) live = c.see_settled.ensures.same ∙ ap (λ (w : Viewed). with_watch w new.watch) heard in
    let after = heard_anew f v s bs count live h
    (λ g i. c.see_settled.ensures.count ∙ unsettled_seen g c.hear_progress.new.self (subst (λ (w : Viewed). IsInView g w) (sym heard) i))
    (λ g i held.
    let j = in_view_uncounted g (with_bits v bs) count i in
    c.see_settled.ensures.live g (subst (λ (w : Viewed). IsInView g w) (sym heard) j) held
    (subst (λ (w : Viewed). AreLive (with_settled_row g before) w.watch.live) (sym heard) (quiet_before f g v s bs before h j held c.settled_row.ensures refl refl))) in
    bits_seen f v new s p.from p.done p.handed p.settled h (subst (λ (w : Viewed). IsNodeInView (record f { bits = bs }) w s) (sym seen) after)

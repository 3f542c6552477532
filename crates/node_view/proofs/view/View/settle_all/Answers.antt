use Rattle.std.proofs.Common.{◌≡◌, ◌∷◌, ◌+◌, List, drop, take, refl, sym, ap, subst, ◌∙◌}
use Rattle.std.proofs.lemmas.List.{take_all}
use Rattle.std.proofs.lemmas.List.Sums.{fold_more}
use Rattle.node_rules.specs.Facts.{Facts}
use Rattle.node_view.specs.declared.here.Settling.{Settling}
use Rattle.node_view.specs.Fits.{AreSettlings}
use Rattle.node_view.specs.Plans.{settled_at, settled_by}
use Rattle.node_view.specs.Views.{IsNodeInView, facts_in}
use Rattle.node_view.proofs.NodeLaws.{node_in}
use Rattle.node_view.proofs.SettleLaws.{first_settling, next_of, rest_in_view}
use Rattle.node_view.proofs.view.View.settle_all.Goals as goal

pub settle_at-requires : goal.settle_at-requires
settle_at-requires c =
    let i = c.loop-settling.invariant in
    let ts = c.args.settlings.now in
    let k = c.loop-settling.settling-index in
    let t = c.settling-item.result in
    let list : drop k ts ≡ t ∷ drop (k + 1) ts = next_of ts k t c.loop-settling-test.true c.settling-item.is in
    let f = facts_in c.loop-settling.self c.loop-settling.store in
    record {
      node = i.ready.node;
      settlings = first_settling f t (drop (k + 1) ts) (subst (λ (xs : List Settling). AreSettlings f xs) list i.ready.settlings);
    }

pub loop-settling-preserved : goal.loop-settling-preserved
loop-settling-preserved c =
    let i = c.loop-settling.invariant in
    let ts = c.args.settlings.now in
    let k = c.loop-settling.settling-index in
    let t = c.settling-item.result in
    let v = c.settle_at.new.self in
    let s = c.settle_at.new.store in
    let list : drop k ts ≡ t ∷ drop (k + 1) ts = next_of ts k t c.loop-settling-test.true c.settling-item.is in
    let f = facts_in c.loop-settling.self c.loop-settling.store in
    let after : IsNodeInView (settled_at f t) v s = c.settle_at.ensures f i.ready.node in
    record {
      node = λ g h. subst (λ (x : Facts). IsNodeInView x v s)
          (ap (settled_at (settled_by g (take k ts))) c.settling-item.is ∙ sym (fold_more settled_at g ts k t c.loop-settling-test.true))
          (c.settle_at.ensures (settled_by g (take k ts)) (i.node g h));
      ready = record {
        node = node_in (settled_at f t) v s after;
        settlings = rest_in_view f (settled_at f t) v s t (drop (k + 1) ts) (subst (λ (xs : List Settling). AreSettlings f xs) list i.ready.settlings) refl after;
      };
    }

pub returns : goal.returns
returns c f h =
    subst (λ (xs : List Settling). IsNodeInView (settled_by f xs) c.loop-settling.self c.loop-settling.store)
    (take_all c.loop-settling.settling-index c.args.settlings.now c.loop-settling-test.false) (c.loop-settling.invariant.node f h)

use Rattle.std.proofs.Common.{◌+◌, ◌∙◌, ℕ, sym, ap, arith}
use Rattle.record_store.specs.Store as held
use Rattle.node_rules.specs.Copies.{Stamps}
use Rattle.node_rules.specs.Stamps.{stamped_with}
use Rattle.node_view.specs.Views.{count_seen, is_stamped, viewed_key}
use Rattle.node_view.proofs.StampLaws.{all_come_to, no_more, one_stamped, stamped_node, stamps_of, unstamped}
use Rattle.node_view.proofs.view.View.stamp_empty_copies.Goals as goal

pub returns-then-not-has_exchanged : goal.returns-then-not-has_exchanged
returns-then-not-has_exchanged c f h =
    unstamped f c.args.self.now c.args.store.now (sym c.has_exchanged.ensures ∙ c.if-not-has_exchanged.true) h

pub loop-number-preserved : goal.loop-number-preserved
loop-number-preserved c =
    let v = c.args.self.now in
    let s = c.loop-number.store in
    let p = c.loop-number.number in
    let after = c.stamp_empty_copy.ensures in
    let i = c.loop-number.invariant in
    record {
      stamps = λ n e.
          ap (λ (m : Stamps). stamps_of v m n (p + 1))
          (ap (λ (u : held.StoreWithRoom). u.stamps) after ∙ ap (λ (q : ℕ). stamped_with (viewed_key v) (count_seen v q) q s.stamps (is_stamped v q)) c.partition_at.ensures)
          ∙ (sym (one_stamped v s.stamps n p) ∙ i.stamps (n + 1) (omega (arith, e)));
      versions = ap (λ (u : held.StoreWithRoom). u.versions) after ∙ i.versions;
      policy = ap (λ (u : held.StoreWithRoom). u.by) after ∙ i.policy;
    }

pub returns : goal.returns
returns c f h =
    let v = c.args.self.now in
    let s = c.args.store.now in
    let u = c.loop-number.store in
    let i = c.loop-number.invariant in
    let whole = all_come_to c.loop-number.number c.loop-number.auto.number-end c.loop-number-test.false in
    stamped_node f v s u i.versions i.policy (sym (no_more v u.stamps c.loop-number.number) ∙ i.stamps 0 whole) h

use Rattle.std.proofs.Common.{◌≡◌, ◌<◌, ◌≤◌, List, false, is_some, All, AllPairs, Some, refl, sym, ap, subst, ◌∙◌, arith}
use Rattle.cluster_types.specs.Partitions.{partition_count}
use Rattle.node_rules.specs.Exchange.{Exchange}
use Rattle.node_rules.specs.Facts.{list_at, view_key}
use Rattle.node_rules.specs.Here.{here, part_lines}
use Rattle.node_view.specs.declared.here.Settling.{Settling}
use Rattle.node_view.specs.Settlings.{settling_lines, settling_of}
use Rattle.node_view.proofs.DueSettlingLaws.{AreDue, all_due, all_more, below_more, each_of, below_wider, lines_more, lines_to, no_lines, none_due, none_live, rise_more}
use Rattle.node_view.proofs.SightLaws.{sees}
use Rattle.node_view.proofs.view.View.settlings.Goals as goal

pub returns-in_default-clause-due : goal.returns-in_default-clause-due
returns-in_default-clause-due c f h held =
    let off : f.exchange.exchanged ≡ false = ap (λ (x : Exchange). x.exchanged) (sees f c.args.self.now h.viewed).exchange ∙ sym c.moving.ensures.some ∙ ap is_some c.in_default.is in
    let due : AreDue f c.new-due.result.items = none_due f c.new-due.result.items c.new-due.ensures.items off in
    due.settlings

pub returns-in_default-clause-lines : goal.returns-in_default-clause-lines
returns-in_default-clause-lines c f rows h held =
    let off : f.exchange.exchanged ≡ false = ap (λ (x : Exchange). x.exchanged) (sees f c.args.self.now h.viewed).exchange ∙ sym c.moving.ensures.some ∙ ap is_some c.in_default.is in
    let due : AreDue f c.new-due.result.items = none_due f c.new-due.result.items c.new-due.ensures.items off in
    due.lines rows

pub returns-in_default-clause-settled : goal.returns-in_default-clause-settled
returns-in_default-clause-settled c f rows h held =
    let off : f.exchange.exchanged ≡ false = ap (λ (x : Exchange). x.exchanged) (sees f c.args.self.now h.viewed).exchange ∙ sym c.moving.ensures.some ∙ ap is_some c.in_default.is in
    let due : AreDue f c.new-due.result.items = none_due f c.new-due.result.items c.new-due.ensures.items off in
    due.settled rows

pub returns-then-is_empty-clause-due : goal.returns-then-is_empty-clause-due
returns-then-is_empty-clause-due c f h held =
    let due : AreDue f c.new-due.result.items = none_live f c.args.self.now c.in-Some.moving.now c.new-due.result.items c.new-due.ensures.items c.in-Some.ensures.moving h (c.is_empty.ensures.0 c.if-is_empty.true) in
    due.settlings

pub returns-then-is_empty-clause-lines : goal.returns-then-is_empty-clause-lines
returns-then-is_empty-clause-lines c f rows h held =
    let due : AreDue f c.new-due.result.items = none_live f c.args.self.now c.in-Some.moving.now c.new-due.result.items c.new-due.ensures.items c.in-Some.ensures.moving h (c.is_empty.ensures.0 c.if-is_empty.true) in
    due.lines rows

pub returns-then-is_empty-clause-settled : goal.returns-then-is_empty-clause-settled
returns-then-is_empty-clause-settled c f rows h held =
    let due : AreDue f c.new-due.result.items = none_live f c.args.self.now c.in-Some.moving.now c.new-due.result.items c.new-due.ensures.items c.in-Some.ensures.moving h (c.is_empty.ensures.0 c.if-is_empty.true) in
    due.settled rows

pub loop-p-init : goal.loop-p-init
loop-p-init c =
    let none = sym c.new-due.ensures.items in
    record {
      each = λ f h held. subst (λ (ss : List Settling). All (λ (s : Settling). s ≡ settling_of s.partition (here f (list_at f s.partition) s.partition)) ss) none (λ k d within. absurd (omega (arith, within)));
      below = subst (λ (ss : List Settling). All (λ (s : Settling). s.partition < 0) ss) none (λ k d within. absurd (omega (arith, within)));
      rise = subst (λ (ss : List Settling). AllPairs (λ (a b : Settling). a.partition < b.partition) ss) none (λ i j d before within. absurd (omega (arith, within)));
      lines = λ f h held. ap (settling_lines f.me (view_key f)) c.new-due.ensures.items ∙ sym (no_lines f);
      low = omega arith;
    }

pub loop-p-preserved : goal.loop-p-preserved
loop-p-preserved c =
    let v = c.args.self.now in
    let m = c.in-Some.moving.now in
    let i = c.loop-p.invariant in
    let n = c.loop-p.from in
    let p = c.in-Some-next.p in
    let next = c.in-Some-next.ensures in
    let k = c.number-from.result in
    let same : k ≡ p = c.number-from.ensures.same in
    let within : k < partition_count = c.number-from.ensures.range in
    let above : n ≤ k = omega (arith, next.above, same) in
    let old = c.loop-p.due.items in
    let new = c.push_settling.new.due.items in
    let r = c.settling_at.result in
    let below = below_wider old n k above i.below in
    let at : (s : Settling) → r ≡ Some s → s.partition ≡ k = λ s e. c.settling_at.ensures.partition s e ∙ sym same in
    record {
      each = λ f h held. all_more (λ (s : Settling). s ≡ settling_of s.partition (here f (list_at f s.partition) s.partition)) old new r c.in_ok-push_settling.ensures (i.each f h held)
          (λ s e. each_of f p s (c.settling_at.ensures.partition s e) (c.settling_at.ensures.settling f h held s e));
      below = below_more old new r k c.in_ok-push_settling.ensures below at;
      rise = rise_more old new r k c.in_ok-push_settling.ensures below i.rise at;
      lines = λ f h held. lines_more f old new r k c.in_ok-push_settling.ensures
          (i.lines f h held ∙ lines_to f v m n k c.in-Some.ensures.moving h above (omega (arith, within)) (λ q over under. next.none_between q over (omega (arith, under, same))))
          (c.settling_at.ensures.lines f h held ∙ ap (part_lines f) (sym same));
      low = omega (arith, within);
    }

pub returns-clause-due : goal.returns-clause-due
returns-clause-due c f h held =
    let v = c.args.self.now in
    let m = c.in-Some.moving.now in
    let i = c.loop-p.invariant in
    let none = c.in_default-next.ensures in
    let lines = i.lines f h held ∙ lines_to f v m c.loop-p.from partition_count c.in-Some.ensures.moving h i.low (omega arith) (λ q over under. none.clear q over) in
    let due : AreDue f c.loop-p.due.items = all_due f v m c.loop-p.due.items partition_count refl c.in-Some.ensures.moving h (i.each f h held) i.rise lines in
    due.settlings

pub returns-clause-lines : goal.returns-clause-lines
returns-clause-lines c f rows h held =
    let v = c.args.self.now in
    let m = c.in-Some.moving.now in
    let i = c.loop-p.invariant in
    let none = c.in_default-next.ensures in
    let lines = i.lines f h held ∙ lines_to f v m c.loop-p.from partition_count c.in-Some.ensures.moving h i.low (omega arith) (λ q over under. none.clear q over) in
    let due : AreDue f c.loop-p.due.items = all_due f v m c.loop-p.due.items partition_count refl c.in-Some.ensures.moving h (i.each f h held) i.rise lines in
    due.lines rows

pub returns-clause-settled : goal.returns-clause-settled
returns-clause-settled c f rows h held =
    let v = c.args.self.now in
    let m = c.in-Some.moving.now in
    let i = c.loop-p.invariant in
    let none = c.in_default-next.ensures in
    let lines = i.lines f h held ∙ lines_to f v m c.loop-p.from partition_count c.in-Some.ensures.moving h i.low (omega arith) (λ q over under. none.clear q over) in
    let due : AreDue f c.loop-p.due.items = all_due f v m c.loop-p.due.items partition_count refl c.in-Some.ensures.moving h (i.each f h held) i.rise lines in
    due.settled rows

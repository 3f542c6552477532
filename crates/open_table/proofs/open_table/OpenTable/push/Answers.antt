use Rattle.std.proofs.Common.{◌≡◌, ◌-◌, ◌+◌, ◌∷◌, ◌++◌, [], List, length, Option, ap, ap₂, sym, subst, IsTrue, ◌∙◌, arith}
use Rattle.std.specs.VecDeque.{deque_len}
use Rattle.open_table.specs.Open.{OpenNumbers}
use Rattle.open_table.specs.Slots.{items_from, starts_with_item}
use Rattle.open_table.proofs.SlotLaws.{at_most, length_pushed, pushed, starts_pushed}
use Rattle.open_table.proofs.open_table.OpenTable.push.Goals as goal

pub overflow_add-self-2 : goal.overflow_add-self-2
overflow_add-self-2 g c =
    let old = c.self.inside in
    omega (arith, at_most (old.given - deque_len old.slots) old.slots.items, old.slots.ok, c.self.invariant.0, c.self.invariant.2, c.requires.limit, ap (λ (o : OpenNumbers g.row.T.Denot). o.given) c.self.view_is)

pub invariant_of-self : goal.invariant_of-self
invariant_of-self g c =
    let old = c.self.inside in
    let p = c.push_back_reserved.ensures in
    let b = old.given - deque_len old.slots in
    let same : old.given + 1 - deque_len c.push_back_reserved.new.self ≡ b = omega (arith, p.len, c.self.invariant.0) in (
      omega (arith, p.len, c.self.invariant.0),
      subst (λ (s : List (Option g.row.T.Denot)). IsTrue (starts_with_item s)) (sym p.items) (starts_pushed old.slots.items c.args.item c.self.invariant.1),
      ap (λ n. n + 1) c.self.invariant.2
          ∙ sym (length_pushed b old.slots.items c.args.item)
          ∙ sym (ap₂ (λ n (s : List (Option g.row.T.Denot)). length (items_from n s)) same p.items),
    )

pub returns-clause-items : goal.returns-clause-items
returns-clause-items g c =
    let old = c.self.inside in
    let p = c.push_back_reserved.ensures in
    let b = old.given - deque_len old.slots in
    let same : old.given + 1 - deque_len c.push_back_reserved.new.self ≡ b = omega (arith, p.len, c.self.invariant.0) in
    let next : b + length old.slots.items + 1 ≡ old.given + 1 = omega (arith, old.slots.ok, c.self.invariant.0) in
    ap₂ (λ n (s : List (Option g.row.T.Denot)). items_from n s) same p.items
    ∙ pushed b old.slots.items c.args.item
    ∙ ap (λ n. items_from b old.slots.items ++ (n, c.args.item) ∷ []) next
    ∙ ap (λ (o : OpenNumbers g.row.T.Denot). o.items ++ (o.given + 1, c.args.item) ∷ []) c.self.view_is

use Rattle.std.proofs.Common.{◌≡◌, ◌≤◌, ◌<◌, ◌∙◌, ◌-◌, length, Some, refl, sym, ap, subst, arith, is_some, true, false, if◌then◌else◌}
use Rattle.std.specs.List.{insert}
use Rattle.std.specs.FinMap.{find, put as put_entry}
use Rattle.sorted_chain.specs.Chain.{key_cmp, has_key, IsAscending}
use Rattle.sorted_chain.specs.Marks.{key_front}
use Rattle.sorted_chain.specs.Nodes.{pays, pay, entries}
use Rattle.sorted_chain.specs.declared.marks.Mark.{Mark}
use Rattle.sorted_chain.proofs.LinkLaws.{len_pays}
use Rattle.sorted_chain.proofs.MarkLaws.{marks_count, marks_kept, marks_linked}
use Rattle.sorted_chain.proofs.NodeLaws.{count, full_of, is_full_of, replaced, found, linked_in}
use Rattle.sorted_chain.proofs.PlaceLaws.{find_gap, put_ascends}
use Rattle.sorted_chain.proofs.chain.SortedChain.put.Goals as goal

pub invariant_of-self : goal.invariant_of-self
invariant_of-self g c =
    let b = c.self.inside.records.boxes in
    let k = c.args.k in
    let v = c.args.v in
    let i = c.self.invariant in
    let made = (replaced k (pays b.items) i.0 c.in-Ok.here.index v c.replace.result (pays c.replace.new.self.boxes.items) i.1 c.in-Ok.ensures.here c.replace.ensures.items).1 in
    let within : c.in-Ok.here.index < length (pays b.items) = omega (arith, c.in-Ok.ensures.here.within, count b.items i.0, len_pays b.items) in
    let marks = marks_kept b.places (pays b.items) c.self.inside.marks.in_order.items i.5 c.in-Ok.here.index v c.replace.result c.replace.new.self.boxes.places (pays c.replace.new.self.boxes.items) within c.replace.ensures.places c.replace.ensures.items in
    (is_full_of _ _ made, subst IsAscending (sym (full_of _ _ made)) (put_ascends k v (entries (pays b.items)) i.1), c.replace.ensures.alloc ∙ i.2, i.3, omega (arith, c.replace.ensures.len, i.4), marks, omega (arith, c.replace.ensures.len, i.6))

pub invariant_of-self-in-Some : goal.invariant_of-self-in-Some
invariant_of-self-in-Some g c =
    let b = c.self.inside.records.boxes in
    let k = c.args.k in
    let v = c.args.v in
    let i = c.self.invariant in
    let gap = c.in-Err.gap in
    let items = c.link-here.ensures.items ∙ ap (λ n. insert (pays b.items) gap.index (pay n)) c.replace-in-Some.ensures.after in
    let made = linked_in k (pays b.items) i.0 gap.index v (pays c.link-here.new.self.boxes.items) c.in-Err.ensures.gap items in
    let ms = c.self.inside.marks.in_order.items in
    let m : Mark = record { front = key_front k; at = c.link-here.result.at } in
    let counted : length ms ≡ length b.items = marks_count b.places b.items ms i.5 in
    let within : gap.index ≤ length b.items = omega (arith, c.in-Err.ensures.gap.within, count b.items i.0) in
    let inserted = c.insert.ensures.marks ∙ ap (λ os. insert os c.link-here.result.index m) c.take_node.ensures.marks ∙ ap (λ j. insert ms j m) c.link-here.ensures.index in
    let marks = marks_linked b.places (pays b.items) ms i.5 gap.index m (k, Some v) c.link-here.new.self.boxes.places (pays c.link-here.new.self.boxes.items) c.insert.new.self.in_order.items (omega (arith, within, counted)) (omega (arith, within, len_pays b.items)) c.insert.ensures.key refl c.link-here.ensures.places items inserted in
    (is_full_of _ _ made, subst IsAscending (sym (full_of _ _ made)) (put_ascends k v (entries (pays b.items)) i.1), c.link-here.ensures.alloc ∙ i.2, c.take_node.ensures.alloc ∙ i.3, omega (arith, counted, c.link-here.ensures.len, c.in-Some.ensures.some), marks, omega (arith, counted, c.link-here.ensures.len, c.in-Some.ensures.some, c.insert.ensures.room))

pub returns-in-Ok-clause-items : goal.returns-in-Ok-clause-items
returns-in-Ok-clause-items g c =
    let b = c.self.inside.records.boxes in
    let k = c.args.k in
    let v = c.args.v in
    let i = c.self.invariant in
    full_of _ _ (replaced k (pays b.items) i.0 c.in-Ok.here.index v c.replace.result (pays c.replace.new.self.boxes.items) i.1 c.in-Ok.ensures.here c.replace.ensures.items).1
    ∙ ap (λ seen. put_entry key_cmp k v seen.items) c.self.view_is

pub returns-in-Ok-clause-replaced : goal.returns-in-Ok-clause-replaced
returns-in-Ok-clause-replaced g c =
    let b = c.self.inside.records.boxes in
    let k = c.args.k in
    let i = c.self.invariant in
    (replaced k (pays b.items) i.0 c.in-Ok.here.index c.args.v c.replace.result (pays c.replace.new.self.boxes.items) i.1 c.in-Ok.ensures.here c.replace.ensures.items).0
    ∙ ap (λ seen. find key_cmp k seen.items) c.self.view_is

pub returns-in-Ok-clause-spare : goal.returns-in-Ok-clause-spare
returns-in-Ok-clause-spare g c =
    let b = c.self.inside.records.boxes in
    let k = c.args.k in
    let s = c.args.self.now.spare in
    let has : has_key k c.args.self.now.items ≡ true = ap (λ seen. has_key k seen.items) (sym c.self.view_is) ∙ found k (entries (pays b.items)) c.in-Ok.here.index c.self.invariant.1 c.in-Ok.ensures.here in
    ap (λ seen. seen.spare) c.self.view_is ∙ sym (ap (λ b. if b then s else (s - 1)) has)

pub returns-in-None-clause-present : goal.returns-in-None-clause-present
returns-in-None-clause-present g c =
    let k = c.args.k in
    let has : has_key k c.args.self.now.items ≡ false = ap (λ seen. has_key k seen.items) (sym c.self.view_is) ∙ ap is_some (find_gap k _ _ c.in-Err.ensures.gap) in
    λ there. sym has ∙ there

pub returns-in-Some-clause-items : goal.returns-in-Some-clause-items
returns-in-Some-clause-items g c =
    let b = c.self.inside.records.boxes in
    let k = c.args.k in
    let v = c.args.v in
    let gap = c.in-Err.gap in
    full_of _ _ (linked_in k (pays b.items) c.self.invariant.0 gap.index v (pays c.link-here.new.self.boxes.items) c.in-Err.ensures.gap (c.link-here.ensures.items ∙ ap (λ n. insert (pays b.items) gap.index (pay n)) c.replace-in-Some.ensures.after))
    ∙ ap (λ seen. put_entry key_cmp k v seen.items) c.self.view_is

pub returns-in-Some-clause-replaced : goal.returns-in-Some-clause-replaced
returns-in-Some-clause-replaced g c =
    let k = c.args.k in
    sym (find_gap k _ _ c.in-Err.ensures.gap) ∙ ap (λ seen. find key_cmp k seen.items) c.self.view_is

pub returns-in-Some-clause-spare : goal.returns-in-Some-clause-spare
returns-in-Some-clause-spare g c =
    let k = c.args.k in
    let s = c.args.self.now.spare in
    let has : has_key k c.args.self.now.items ≡ false = ap (λ seen. has_key k seen.items) (sym c.self.view_is) ∙ ap is_some (find_gap k _ _ c.in-Err.ensures.gap) in
    c.take_node.ensures.spare ∙ ap (λ seen. seen.spare - 1) c.self.view_is ∙ sym (ap (λ b. if b then s else (s - 1)) has)

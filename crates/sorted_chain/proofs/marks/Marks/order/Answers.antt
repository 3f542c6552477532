use Rattle.std.proofs.Common.{rules, ◌≡◌, IfSome, sym, subst, arith}
use Rattle.sorted_chain.specs.Chain.{key_cmp}
use Rattle.sorted_chain.proofs.FrontLaws.{unequal_fronts}
use Rattle.sorted_chain.proofs.LinkLaws.{item_at}
use Rattle.sorted_chain.proofs.MarkLaws.{marks_count, front_at, key_at}
use Rattle.sorted_chain.proofs.marks.Marks.order.Goals as goal

pub returns-in_default : goal.returns-in_default
returns-in_default g c =
    let b = c.args.nodes.now.boxes in
    let ms = c.args.self.now.in_order.items in
    let h = c.requires.marks in
    let n = item_at b.items c.args.i (omega (arith, c.requires.within, marks_count b.places b.items ms h)) in
    let m = c.mark-mark.result in
    subst (λ o. IfSome o (λ n. c.cmp.result ≡ key_cmp c.args.k.now n.key)) (sym n.1)
    (unequal_fronts c.args.k.now n.0.key c.args.front m.front c.cmp.result c.requires.key (key_at b.places b.items ms h c.args.i n.0 m n.1 c.mark-mark.ensures) c.requires.front (front_at b.places b.items ms h c.args.i n.0 m n.1 c.mark-mark.ensures) c.cmp.ensures c.in_default.not-Equal)

pub returns-in-Equal : goal.returns-in-Equal
returns-in-Equal g c = search rules

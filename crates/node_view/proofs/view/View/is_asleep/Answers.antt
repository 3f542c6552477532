use Rattle.std.proofs.Common.{◌≡◌, true, false, ap, sym, ◌∙◌}
use Rattle.cluster_types.specs.Rows.{bit}
use Rattle.node_rules.specs.Facts.{list_at}
use Rattle.node_rules.specs.Here as rules
use Rattle.node_view.proofs.HereLaws.{acting_is, empty_is, master_is, sees_inside}
use Rattle.node_view.proofs.SightLaws.{sees}
use Rattle.node_view.proofs.WakeLaws.{handed_asleep, master_asleep, other_asleep}
use Rattle.node_view.proofs.view.View.is_asleep.Goals as goal

pub returns-then-is_master : goal.returns-then-is_master
returns-then-is_master c asleep f h =
    let v = c.args.self.now in
    let m = c.args.moving.now in
    let p = c.args.p in
    let here = rules.here f (list_at f p) p in
    let s = sees f v h in
    let unset : here.settled ≡ false = ap (λ b. bit b.settled p) s.bits ∙ sym c.has_settled_bit.ensures ∙ c.if-has_settled_bit.false in
    let master : here.master ≡ true = sym (c.is_master.ensures ∙ master_is f v p s) ∙ c.if-is_master.true in
    let empty : here.empty ≡ true = sym (empty_is f m.map p c.is_all_empty.result (s.exchange ∙ sym c.requires.exchange) c.is_all_empty.ensures) ∙ asleep in
    master_asleep here unset master empty

pub returns-then-not-is_acting : goal.returns-then-not-is_acting
returns-then-not-is_acting c asleep f h =
    let v = c.args.self.now in
    let i = c.self.inside in
    let m = c.args.moving.now in
    let p = c.args.p in
    let here = rules.here f (list_at f p) p in
    let s = sees f v h in
    let t = sees_inside i v f c.self.view_is h in
    let unset : here.settled ≡ false = ap (λ b. bit b.settled p) s.bits ∙ sym c.has_settled_bit.ensures ∙ c.if-has_settled_bit.false in
    let master : here.master ≡ false = sym (c.is_master.ensures ∙ master_is f v p s) ∙ c.if-is_master.false in
    let acting : c.eq-is_acting.result ≡ here.acting = c.eq-is_acting.ensures ∙ acting_is f m.map p i.me c.acting.result (s.exchange ∙ sym c.requires.exchange) t.me c.acting.ensures in
    other_asleep here unset master (sym acting ∙ c.if-not-is_acting.true)

pub returns : goal.returns
returns c asleep f h =
    let v = c.args.self.now in
    let i = c.self.inside in
    let p = c.args.p in
    let here = rules.here f (list_at f p) p in
    let s = sees f v h in
    let t = sees_inside i v f c.self.view_is h in
    let unset : here.settled ≡ false = ap (λ b. bit b.settled p) s.bits ∙ sym c.has_settled_bit.ensures ∙ c.if-has_settled_bit.false in
    let master : here.master ≡ false = sym (c.is_master.ensures ∙ master_is f v p s) ∙ c.if-is_master.false in
    let handed : c.is_own_handed.result ≡ here.own_handed = c.is_own_handed.ensures ∙ ap (λ b. bit b.own_handed p) (sym t.bits) in
    handed_asleep here unset master (sym handed ∙ asleep)

-- Versions are compared by their places.
use Rattle.std.proofs.Common.{◌≡◌, Bool, true, false, not, ◌&&◌, Option, Some, None, ◌↔◌, refl, sym, ap, ◌∙◌}
use Rattle.std.specs.Prelude.{IsTrue}
use Rattle.std.specs.Ordering.{is_gt}
use Rattle.std.specs.Option.{option_cmp}
use Rattle.conflict_order.specs.declared.policy.Policy.{Policy}
use Rattle.conflict_order.specs.declared.version.Version.{Version}
use Rattle.conflict_order.specs.Order.{version_cmp, is_newer}
use Rattle.conflict_order.specs.Join.{join, AtMost}
use Rattle.conflict_order.proofs.OrderLaws.{AtMost_refl, AtMost_antisymm, above_AtMost}
use Rattle.conflict_order.proofs.JoinLaws.{join_of_AtMost, join_comm}
use Rattle.cluster_types.proofs.BoolFacts.{and_left, and_right, and_both}
use Rattle.audit_state.specs.Places.{is_at_most}

pub newer_is : (by : Policy) (v : Version) (o : Option Version) → not (is_newer by v o) ≡ is_at_most by (Some v) o
unfolding is_newer
newer_is by v None = refl
newer_is by v (Some w) = refl

pub none_at_most : (by : Policy) (o : Option Version) → true ≡ is_at_most by None o
none_at_most by None = refl
none_at_most by (Some w) = refl

pub at_most_is : (by : Policy) (a b : Option Version) → is_at_most by a b ≡ true → AtMost by a b
at_most_is by a b e = record { not_above = go (is_gt (option_cmp (version_cmp by) a b)) e }
  where
    go : (c : Bool) → not c ≡ true → c ≡ false
    go true q = cc
    go false q = refl

pub at_most_so : (by : Policy) (a b : Option Version) → AtMost by a b → is_at_most by a b ≡ true
at_most_so by a b h = ap not h.not_above

pub above : (by : Policy) (a b : Option Version) → is_at_most by a b ≡ false → AtMost by b a
above by a b e = above_AtMost (go (is_gt (option_cmp (version_cmp by) a b)) e)
  where
    go : (c : Bool) → not c ≡ false → c ≡ true
    go true q = refl
    go false q = cc

pub equal_is : (by : Policy) (a b : Option Version) → IsTrue (is_at_most by a b && is_at_most by b a) ↔ (a ≡ b)
equal_is by a b = (
  λ e. AtMost_antisymm (at_most_is by a b (and_left (is_at_most by a b) _ e)) (at_most_is by b a (and_right (is_at_most by a b) _ e)),
  λ e. and_both (is_at_most by a b) _ (at_most_so by a b (Rattle.conflict_order.proofs.OrderLaws.AtMost_eq e)) (at_most_so by b a (Rattle.conflict_order.proofs.OrderLaws.AtMost_eq (sym e))),
)

pub join_first : (by : Policy) (a b : Option Version) → is_at_most by b a ≡ true → a ≡ join by a b
join_first by a b e = sym (join_comm by a b ∙ join_of_AtMost (at_most_is by b a e))

pub join_second : (by : Policy) (a b : Option Version) → is_at_most by b a ≡ false → b ≡ join by a b
join_second by a b e = sym (join_of_AtMost (above by b a e))

-- the first test passes, and the second decides
pub equal_then : (by : Policy) (a b : Option Version) (x y : Bool) → x ≡ is_at_most by a b → y ≡ is_at_most by b a → x ≡ true → IsTrue y ↔ (a ≡ b)
equal_then by a b x y p q t = (
  λ e. (equal_is by a b).0 (and_both (is_at_most by a b) _ (sym p ∙ t) (sym q ∙ e)),
  λ e. q ∙ and_right (is_at_most by a b) _ ((equal_is by a b).1 e),
)

-- it fails
pub equal_else : (by : Policy) (a b : Option Version) (x : Bool) → x ≡ is_at_most by a b → x ≡ false → IsTrue x ↔ (a ≡ b)
equal_else by a b x p f = (λ e. absurd (false_true x f e), λ e. p ∙ and_left (is_at_most by a b) _ ((equal_is by a b).1 e))
  where
    false_true : (c : Bool) → c ≡ false → c ≡ true → ⊥
    false_true true f e = cc
    false_true false f e = cc

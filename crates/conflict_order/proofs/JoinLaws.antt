-- The join of versions is the least that is at least both.
use Rattle.std.proofs.Common.{◌≡◌, Bool, true, false, cond, Option, Some, None, refl, sym, ◌∙◌, subst, ◌⊎◌, inl, inr}
use Rattle.std.specs.Ordering.{is_gt}
use Rattle.conflict_order.specs.declared.policy.Policy.{Policy}
use Rattle.conflict_order.specs.declared.version.Version.{Version}
use Rattle.conflict_order.specs.Order.{version_cmp, is_newer}
use Rattle.conflict_order.specs.Join.{join, kept, AtMost, IsJoin}
use Rattle.conflict_order.proofs.OrderLaws.{AtMost_refl, AtMost_none, AtMost_trans, AtMost_antisymm, newer_AtMost, not_newer_AtMost, above_AtMost}

pub join_left : {by : Policy} (a b : Option Version) → AtMost by a (join by a b)
unfolding join
join_left None b = AtMost_none b
join_left (Some a) None = AtMost_refl (Some a)
join_left {by} (Some a) (Some b) = go (is_gt (version_cmp by b a)) refl
  where
    go : (x : Bool) → is_gt (version_cmp by b a) ≡ x → AtMost by (Some a) (Some (cond x b a))
    go true e = above_AtMost e
    go false e = AtMost_refl (Some a)

pub join_right : {by : Policy} (a b : Option Version) → AtMost by b (join by a b)
unfolding join
join_right None b = AtMost_refl b
join_right (Some a) None = AtMost_none (Some a)
join_right {by} (Some a) (Some b) = go (is_gt (version_cmp by b a)) refl
  where
    go : (x : Bool) → is_gt (version_cmp by b a) ≡ x → AtMost by (Some b) (Some (cond x b a))
    go true e = AtMost_refl (Some b)
    go false e = record { not_above = e }

pub join_one_of_both : (by : Policy) (a b : Option Version) → (join by a b ≡ a) ⊎ (join by a b ≡ b)
unfolding join
join_one_of_both by None b = inr refl
join_one_of_both by (Some a) None = inl refl
join_one_of_both by (Some a) (Some b) = go (is_gt (version_cmp by b a))
  where
    go : (x : Bool) → (Some (cond x b a) ≡ Some a) ⊎ (Some (cond x b a) ≡ Some b)
    go true = inr refl
    go false = inl refl

pub join_least : {by : Policy} {a b c : Option Version} → AtMost by a c → AtMost by b c → AtMost by (join by a b) c
join_least {by} {a} {b} {c} p q = go (join_one_of_both by a b)
  where
    go : (join by a b ≡ a) ⊎ (join by a b ≡ b) → AtMost by (join by a b) c
    go (inl e) = subst (λ (o : Option Version). AtMost by o c) (sym e) p
    go (inr e) = subst (λ (o : Option Version). AtMost by o c) (sym e) q

-- the one that is above is the join
pub join_of_AtMost : {by : Policy} {a b : Option Version} → AtMost by a b → join by a b ≡ b
join_of_AtMost {by} {a} {b} p = AtMost_antisymm (join_least p (AtMost_refl b)) (join_right a b)

pub AtMost_of_join : {by : Policy} {a b : Option Version} → join by a b ≡ b → AtMost by a b
AtMost_of_join {by} {a} {b} e = subst (λ (o : Option Version). AtMost by a o) e (join_left a b)

pub AtMost_join_left : {by : Policy} {a b : Option Version} (c : Option Version) → AtMost by a b → AtMost by a (join by b c)
AtMost_join_left {by} {a} {b} c p = AtMost_trans p (join_left b c)

pub AtMost_join_right : {by : Policy} {a c : Option Version} (b : Option Version) → AtMost by a c → AtMost by a (join by b c)
AtMost_join_right {by} {a} {c} b p = AtMost_trans p (join_right b c)

-- the join grows with each of both
pub join_grows : {by : Policy} {a b c d : Option Version} → AtMost by a b → AtMost by c d → AtMost by (join by a c) (join by b d)
join_grows {by} {a} {b} {c} {d} p q = join_least (AtMost_join_left d p) (AtMost_join_right b q)

pub join_comm : (by : Policy) (a b : Option Version) → join by a b ≡ join by b a
join_comm by a b = AtMost_antisymm (join_least (join_right b a) (join_left b a)) (join_least (join_right a b) (join_left a b))

pub join_assoc : (by : Policy) (a b c : Option Version) → join by (join by a b) c ≡ join by a (join by b c)
join_assoc by a b c =
    AtMost_antisymm
    (join_least (join_grows (AtMost_refl a) (join_left b c)) (AtMost_join_right a (join_right b c)))
    (join_least (AtMost_join_left c (join_left a b)) (join_grows (join_right a b) (AtMost_refl c)))

pub join_idem : (by : Policy) (a : Option Version) → join by a a ≡ a
join_idem by a = join_of_AtMost (AtMost_refl a)

pub none_join : (by : Policy) (a : Option Version) → join by None a ≡ a
none_join by a = join_of_AtMost (AtMost_none a)

pub join_none : (by : Policy) (a : Option Version) → join by a None ≡ a
join_none by a = join_comm by a None ∙ none_join by a

pub join_is_a_join : (by : Policy) → IsJoin by
join_is_a_join by = record {
  left = join_left;
  right = join_right;
  least = λ a b c. join_least;
  one_of_both = join_one_of_both by;
  commutative = join_comm by;
  associative = join_assoc by;
  idempotent = join_idem by;
  nothing = λ a. (none_join by a, join_none by a);
  at_most = λ a b. (join_of_AtMost, AtMost_of_join);
}

-- what is held after a version came is the join
pub join_some : (by : Policy) (held : Option Version) (v : Version) → join by held (Some v) ≡ Some (kept by held v)
unfolding join kept
join_some by None v = refl
join_some by (Some held) v = refl

pub join_newer : (by : Policy) (held : Option Version) (v : Version) → is_newer by v held ≡ true → join by held (Some v) ≡ Some v
join_newer by held v e = join_of_AtMost (newer_AtMost v held e)

pub join_not_newer : (by : Policy) (held : Option Version) (v : Version) → is_newer by v held ≡ false → join by held (Some v) ≡ held
join_not_newer by held v e = join_comm by held (Some v) ∙ join_of_AtMost (not_newer_AtMost v held e)

pub kept_newer : (by : Policy) (held : Option Version) (v : Version) → is_newer by v held ≡ true → kept by held v ≡ v
kept_newer by held v e = let same : Some (kept by held v) ≡ Some v = sym (join_some by held v) ∙ join_newer by held v e in cc

pub kept_not_newer : (by : Policy) (held : Option Version) (v : Version) → is_newer by v held ≡ false → Some (kept by held v) ≡ held
kept_not_newer by held v e = sym (join_some by held v) ∙ join_not_newer by held v e

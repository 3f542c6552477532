-- The order of versions is total under each policy, and tells different versions apart.
use Rattle.std.proofs.Common.{◌≡◌, ℕ, Bool, true, false, List, Option, Some, None, refl, sym, ap, ◌∙◌, subst, ◌⊎◌, inl, inr}
use Rattle.std.specs.declared.cmp.Ordering.{Ordering}
use Rattle.std.specs.declared.cmp.Ordering.TheVariants.{Less, Equal, Greater}
use Rattle.std.specs.Ordering.{nat_cmp, ordering_then, ordering_reverse, is_gt}
use Rattle.std.specs.Cmp.{IsTotalOrder}
use Rattle.std.specs.Cmp.Lexicographic.{slice_cmp, options_total}
use Rattle.std.specs.Option.{option_cmp}
use Rattle.std.specs.FinMap.{IsAntisymmetric, nat_cmp-IsAntisymmetric, slice_cmp-IsAntisymmetric}
use Rattle.std.proofs.lemmas.Cmp.{nat_cmp_total, on_total, then_total, nat_list_cmp_total, upto, tied_itself}
use Rattle.conflict_order.specs.declared.policy.Policy.{Policy}
use Rattle.conflict_order.specs.declared.policy.Policy.TheVariants.{Time, Generation}
use Rattle.conflict_order.specs.declared.version.Version.{Version}
use Rattle.conflict_order.specs.declared.version.Body.{Body}
use Rattle.conflict_order.specs.declared.version.Body.TheVariants.{Tombstone, Value}
use Rattle.conflict_order.specs.Order.{body_cmp, numbers_cmp, version_cmp, is_newer}
use Rattle.conflict_order.specs.Join.{AtMost, IsOrder}

-- the value, or nothing for a tombstone
abbrev value_of : Body → Option (List ℕ)
value_of Tombstone = None
value_of (Value bytes) = Some bytes

body_cmp-value_of : (a b : Body) → option_cmp (slice_cmp nat_cmp) (value_of a) (value_of b) ≡ body_cmp a b
body_cmp-value_of Tombstone Tombstone = refl
body_cmp-value_of Tombstone (Value b) = refl
body_cmp-value_of (Value a) Tombstone = refl
body_cmp-value_of (Value a) (Value b) = refl

pub body_cmp_total : IsTotalOrder body_cmp
body_cmp_total =
    subst IsTotalOrder (λ i a b. body_cmp-value_of a b i) (on_total value_of (options_total nat_list_cmp_total))

pub version_cmp_total : (by : Policy) → IsTotalOrder (version_cmp by)
unfolding version_cmp
version_cmp_total Time =
    then_total
    (then_total (on_total (λ v. v.lut) nat_cmp_total) (on_total (λ v. v.generation) nat_cmp_total))
    (on_total (λ v. v.body) body_cmp_total)
version_cmp_total Generation =
    then_total
    (then_total (on_total (λ v. v.generation) nat_cmp_total) (on_total (λ v. v.lut) nat_cmp_total))
    (on_total (λ v. v.body) body_cmp_total)

pub body_cmp-IsAntisymmetric : IsAntisymmetric body_cmp
body_cmp-IsAntisymmetric Tombstone Tombstone e = refl
body_cmp-IsAntisymmetric Tombstone (Value b) e = cc
body_cmp-IsAntisymmetric (Value a) Tombstone e = cc
body_cmp-IsAntisymmetric (Value a) (Value b) e = ap Value (slice_cmp-IsAntisymmetric nat_cmp-IsAntisymmetric a b e)

both_equal : (r s : Ordering) → ordering_then r s ≡ Equal → (r ≡ Equal) × (s ≡ Equal)
both_equal Less s e = cc
both_equal Equal s e = (refl, e)
both_equal Greater s e = cc

same_numbers : (by : Policy) (a b : Version) → numbers_cmp by a b ≡ Equal → (a.lut ≡ b.lut) × (a.generation ≡ b.generation)
same_numbers Time a b e =
    let each = both_equal _ _ e in
    (nat_cmp-IsAntisymmetric _ _ each.0, nat_cmp-IsAntisymmetric _ _ each.1)
same_numbers Generation a b e =
    let each = both_equal _ _ e in
    (nat_cmp-IsAntisymmetric _ _ each.1, nat_cmp-IsAntisymmetric _ _ each.0)

pub version_cmp-IsAntisymmetric : (by : Policy) → IsAntisymmetric (version_cmp by)
unfolding version_cmp
version_cmp-IsAntisymmetric by a b e =
    let parts = both_equal _ _ e in
    let numbers = same_numbers by a b parts.0 in
    let body = body_cmp-IsAntisymmetric a.body b.body parts.1 in
    λ i. record { lut = numbers.0 i; generation = numbers.1 i; body = body i }

held_cmp-IsAntisymmetric : (by : Policy) → IsAntisymmetric (option_cmp (version_cmp by))
held_cmp-IsAntisymmetric by None None e = refl
held_cmp-IsAntisymmetric by None (Some b) e = cc
held_cmp-IsAntisymmetric by (Some a) None e = cc
held_cmp-IsAntisymmetric by (Some a) (Some b) e = ap Some (version_cmp-IsAntisymmetric by a b e)

held_cmp_total : (by : Policy) → IsTotalOrder (option_cmp (version_cmp by))
held_cmp_total by = options_total (version_cmp_total by)

neither_above : (r : Ordering) → is_gt r ≡ false → is_gt (ordering_reverse r) ≡ false → r ≡ Equal
neither_above Less e f = cc
neither_above Equal e f = refl
neither_above Greater e f = cc

turned : (r : Ordering) → is_gt r ≡ true → is_gt (ordering_reverse r) ≡ false
turned Less e = cc
turned Equal e = cc
turned Greater e = refl

pub AtMost_refl : {by : Policy} (a : Option Version) → AtMost by a a
AtMost_refl {by} a = record { not_above = ap is_gt (tied_itself (held_cmp_total by) a) }

pub AtMost_eq : {by : Policy} {a b : Option Version} → a ≡ b → AtMost by a b
AtMost_eq {by} {a} {b} e = subst (λ (o : Option Version). AtMost by a o) e (AtMost_refl a)

pub AtMost_none : {by : Policy} (a : Option Version) → AtMost by None a
AtMost_none None = record { not_above = refl }
AtMost_none (Some a) = record { not_above = refl }

pub AtMost_trans : {by : Policy} {a b c : Option Version} → AtMost by a b → AtMost by b c → AtMost by a c
AtMost_trans {by} {a} {b} {c} p q = record { not_above = upto (held_cmp_total by) a b c p.not_above q.not_above }

pub AtMost_antisymm : {by : Policy} {a b : Option Version} → AtMost by a b → AtMost by b a → a ≡ b
AtMost_antisymm {by} {a} {b} p q =
    held_cmp-IsAntisymmetric by a b
    (neither_above _ p.not_above (sym (ap is_gt ((held_cmp_total by).antisymm b a)) ∙ q.not_above))

-- where the one is above, the other is at most it
pub above_AtMost : {by : Policy} {a b : Option Version} → is_gt (option_cmp (version_cmp by) a b) ≡ true → AtMost by b a
above_AtMost {by} {a} {b} e =
    record { not_above = ap is_gt ((held_cmp_total by).antisymm b a) ∙ turned _ e }

pub AtMost_total : {by : Policy} (a b : Option Version) → AtMost by a b ⊎ AtMost by b a
AtMost_total {by} a b = go (is_gt (option_cmp (version_cmp by) a b)) refl
  where
    go : (x : Bool) → is_gt (option_cmp (version_cmp by) a b) ≡ x → AtMost by a b ⊎ AtMost by b a
    go true e = inr (above_AtMost e)
    go false e = inl (record { not_above = e })

-- a version is above nothing
pub no_version_AtMost_none : {by : Policy} (a : Version) → AtMost by (Some a) None → ⊥
no_version_AtMost_none a p = let above : true ≡ false = p.not_above in cc

-- only nothing is at most nothing
pub AtMost-None : {by : Policy} (a : Option Version) → AtMost by a None → a ≡ None
AtMost-None None p = refl
AtMost-None (Some a) p = absurd (no_version_AtMost_none a p)

pub is_an_order : (by : Policy) → IsOrder by
is_an_order by = record {
  reflexive = AtMost_refl;
  transitive = λ a b c. AtMost_trans;
  antisymmetric = λ a b. AtMost_antisymm;
  total = AtMost_total;
  nothing = AtMost_none;
}

pub is_newer-None : (by : Policy) (v : Version) → is_newer by v None ≡ true
unfolding is_newer
is_newer-None by v = refl

pub is_newer-Some : (by : Policy) (v held : Version) → is_newer by v (Some held) ≡ is_gt (version_cmp by v held)
unfolding is_newer
is_newer-Some by v held = refl

-- what `is_newer` says of the order
pub newer_AtMost : {by : Policy} (v : Version) (held : Option Version) → is_newer by v held ≡ true → AtMost by held (Some v)
unfolding is_newer
newer_AtMost v None e = AtMost_none _
newer_AtMost v (Some held) e = above_AtMost e

pub not_newer_AtMost : {by : Policy} (v : Version) (held : Option Version) → is_newer by v held ≡ false → AtMost by (Some v) held
unfolding is_newer
not_newer_AtMost v None e = cc
not_newer_AtMost v (Some held) e = record { not_above = e }

-- The version that a write makes, beside the best one.
use Rattle.std.proofs.Common.{◌≡◌, ℕ, ◌+◌, ◌<◌, ◌≤◌, min, max, Bool, true, false, cond, ◌||◌, nat_lt, Option, Some, None, refl, sym, ap, ◌∙◌, inl, inr, ◌↔◌, IfSome, IsTrue, arith, rules}
use Rattle.std.proofs.lemmas.Bool.Decides.{nat_tests}
use Rattle.std.specs.declared.cmp.Ordering.{Ordering}
use Rattle.std.specs.declared.cmp.Ordering.TheVariants.{Equal, Greater}
use Rattle.std.specs.Ordering.{nat_cmp, ordering_then, is_gt}
use Rattle.conflict_order.specs.declared.policy.Policy.{Policy}
use Rattle.conflict_order.specs.declared.policy.Policy.TheVariants.{Time, Generation}
use Rattle.conflict_order.specs.declared.version.Version.{Version}
use Rattle.conflict_order.specs.declared.version.Body.{Body}
use Rattle.conflict_order.specs.Order.{body_cmp, numbers_cmp, version_cmp, Newer, is_newer}
use Rattle.conflict_order.specs.Join.{join, AtMost}
use Rattle.conflict_order.specs.Next.{next, last_generation, Rises, IsNewerNext}
use Rattle.conflict_order.proofs.OrderLaws.{newer_AtMost}
use Rattle.conflict_order.proofs.JoinLaws.{join_of_AtMost}

-- greater where a test holds, and else equal
abbrev raised : Bool → Ordering
raised b = cond b Greater Equal

time_raised : (clock lut : ℕ) → nat_cmp (max clock lut) lut ≡ raised (nat_lt lut clock)
time_raised clock lut = grind (arith, nat_tests)

generation_raised : (g : ℕ) → g ≤ last_generation → nat_cmp (min (g + 1) last_generation) g ≡ raised (nat_lt g last_generation)
generation_raised g fits = grind (arith, nat_tests)

-- two numbers that each rise or stay: the order in which they are compared plays no part
both_raised : (x y : Bool) → (ordering_then (raised x) (raised y) ≡ raised (x || y)) × (ordering_then (raised y) (raised x) ≡ raised (x || y))
both_raised true true = (refl, refl)
both_raised true false = (refl, refl)
both_raised false true = (refl, refl)
both_raised false false = (refl, refl)

numbers_raised : (by : Policy) (best : Version) (clock : ℕ) (body : Body) → best.generation ≤ last_generation
    → numbers_cmp by (next (Some best) clock body) best ≡ raised (nat_lt best.generation last_generation || nat_lt best.lut clock)
unfolding next
numbers_raised Time best clock body fits =
    rw (time_raised clock best.lut, generation_raised best.generation fits) (both_raised _ _).1
numbers_raised Generation best clock body fits =
    rw (time_raised clock best.lut, generation_raised best.generation fits) (both_raised _ _).0

next_cmp : (by : Policy) (best : Version) (clock : ℕ) (body : Body) → best.generation ≤ last_generation
    → version_cmp by (next (Some best) clock body) best
    ≡ ordering_then (raised (nat_lt best.generation last_generation || nat_lt best.lut clock)) (body_cmp body best.body)
unfolding version_cmp next
next_cmp by best clock body fits = ap (λ (r : Ordering). ordering_then r (body_cmp body best.body)) (numbers_raised by best clock body fits)

rises : (best : Version) (clock : ℕ) (body : Body)
    → ordering_then (raised (nat_lt best.generation last_generation || nat_lt best.lut clock)) (body_cmp body best.body) ≡ Greater
    → Rises best clock body
rises best clock body = go (nat_lt best.generation last_generation) (nat_lt best.lut clock) refl refl
  where
    go : (x y : Bool) → nat_lt best.generation last_generation ≡ x → nat_lt best.lut clock ≡ y
        → ordering_then (raised (x || y)) (body_cmp body best.body) ≡ Greater → Rises best clock body
    go true y above _ _ = inl (grind (arith, nat_tests))
    go false true _ later _ = inr (inl (grind (arith, nat_tests)))
    go false false _ _ greater = inr (inr greater)

risen : (best : Version) (clock : ℕ) (body : Body) → Rises best clock body
    → ordering_then (raised (nat_lt best.generation last_generation || nat_lt best.lut clock)) (body_cmp body best.body) ≡ Greater
risen best clock body = go (nat_lt best.generation last_generation) (nat_lt best.lut clock) refl refl
  where
    go : (x y : Bool) → nat_lt best.generation last_generation ≡ x → nat_lt best.lut clock ≡ y
        → Rises best clock body → ordering_then (raised (x || y)) (body_cmp body best.body) ≡ Greater
    go true y above _ _ = refl
    go false true _ later _ = refl
    go false false stays _ (inl above) = absurd (grind (arith, nat_tests))
    go false false _ stays (inr (inl later)) = absurd (grind (arith, nat_tests))
    go false false _ _ (inr (inr greater)) = greater

-- exactly when a write makes a greater version
pub next_Newer : (by : Policy) (best : Version) (clock : ℕ) (body : Body) → best.generation ≤ last_generation
    → Newer by (next (Some best) clock body) best ↔ Rises best clock body
next_Newer by best clock body fits =
    let same = next_cmp by best clock body fits in
    (λ newer. rises best clock body (sym same ∙ newer), λ rise. same ∙ risen best clock body rise)

pub next_newer_below_last : (by : Policy) (best : Option Version) (clock : ℕ) (body : Body)
    → IfSome best (λ b. b.generation < last_generation) → IsTrue (is_newer by (next best clock body) best)
unfolding is_newer
next_newer_below_last by None clock body below = search rules
next_newer_below_last by (Some best) clock body below =
    let newer : Newer by (next (Some best) clock body) best = (next_Newer by best clock body (omega arith)).1 (inl below) in
    search (rules, ap is_gt newer)

pub next_same_numbers : (best : Version) (clock : ℕ) (body : Body) → best.generation ≡ last_generation → clock ≤ best.lut
    → next (Some best) clock body ≡ record { lut = best.lut; generation = best.generation; body = body }
unfolding next
next_same_numbers best clock body last earlier =
    let lut : max clock best.lut ≡ best.lut = grind arith in
    let generation : min (best.generation + 1) last_generation ≡ best.generation = grind arith in
    λ i. record { lut = lut i; generation = generation i; body = body }

pub next_is_newer : (by : Policy) → IsNewerNext by
next_is_newer by = record {
  newer = next_Newer by;
  newer_below_last = next_newer_below_last by;
  same_numbers = next_same_numbers;
}

pub next_AtMost : {by : Policy} (best : Option Version) (clock : ℕ) (body : Body)
    → IfSome best (λ b. b.generation < last_generation) → AtMost by best (Some (next best clock body))
next_AtMost {by} best clock body below =
    newer_AtMost (next best clock body) best (next_newer_below_last by best clock body below)

-- the new version remains
pub join_next : (by : Policy) (best : Option Version) (clock : ℕ) (body : Body)
    → IfSome best (λ b. b.generation < last_generation) → join by best (Some (next best clock body)) ≡ Some (next best clock body)
join_next by best clock body below = join_of_AtMost (next_AtMost best clock body below)

pub next-body : (best : Option Version) (clock : ℕ) (body : Body) → (next best clock body).body ≡ body
unfolding next
next-body None clock body = refl
next-body (Some best) clock body = refl

pub next_not_earlier : (best : Option Version) (clock : ℕ) (body : Body) → clock ≤ (next best clock body).lut
unfolding next
next_not_earlier None clock body = omega arith
next_not_earlier (Some best) clock body = omega arith

pub next_time_below : (best : Option Version) (clock : ℕ) (body : Body) (limit : ℕ)
    → clock < limit → IfSome best (λ b. b.lut < limit) → (next best clock body).lut < limit
unfolding next
next_time_below None clock body limit now before = now
next_time_below (Some best) clock body limit now before = omega arith

pub next_generation_in_range : (best : Option Version) (clock : ℕ) (body : Body)
    → (0 < (next best clock body).generation) × ((next best clock body).generation ≤ last_generation)
unfolding next
next_generation_in_range None clock body = (omega arith, omega arith)
next_generation_in_range (Some best) clock body = (omega arith, omega arith)

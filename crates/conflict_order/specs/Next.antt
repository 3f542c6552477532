-- The version that a write makes.
use Rattle.std.specs.Prelude.{◌≡◌, ℕ, ◌+◌, ◌<◌, ◌≤◌, min, max, ◌⊎◌, ◌↔◌, Option, Some, None, IfSome, IsTrue}
use Rattle.std.specs.declared.cmp.Ordering.TheVariants.{Greater}
use Rattle.conflict_order.specs.declared.policy.Policy.{Policy}
use Rattle.conflict_order.specs.declared.version.Version.{Version}
use Rattle.conflict_order.specs.declared.version.Body.{Body}
use Rattle.conflict_order.specs.Order.{body_cmp, Newer, is_newer}

-- where a generation stays
abbrev pub last_generation : ℕ
last_generation = 4294967295

-- the version that a write at this time of the clock makes of the best one, which may be none
unfoldable pub next : Option Version → ℕ → Body → Version
next None clock body = record { lut = clock; generation = 1; body = body }
next (Some best) clock body = record {
  lut = max clock best.lut;
  generation = min (best.generation + 1) last_generation;
  body = body;
}

-- a write makes a greater version: the generation rises, or the time does, or the body is above
abbrev pub Rises : Version → ℕ → Body → Type 0
Rises best clock body =
    (best.generation < last_generation) ⊎ (best.lut < clock) ⊎ (body_cmp body best.body ≡ Greater)

-- how the version that a write makes stands to the best one
pub record IsNewerNext (by : Policy) : Type 0 where
  -- exactly when it is greater
  pub newer : (best : Version) (clock : ℕ) (body : Body) → best.generation ≤ last_generation
      → Newer by (next (Some best) clock body) best ↔ Rises best clock body
  -- as long as generations rise, it is greater whatever is written
  pub newer_below_last : (best : Option Version) (clock : ℕ) (body : Body)
      → IfSome best (λ b. b.generation < last_generation)
      → IsTrue (is_newer by (next best clock body) best)
  -- where neither number rises, the body alone decides
  pub same_numbers : (best : Version) (clock : ℕ) (body : Body) → best.generation ≡ last_generation
      → clock ≤ best.lut
      → next (Some best) clock body
      ≡ record { lut = best.lut; generation = best.generation; body = body }

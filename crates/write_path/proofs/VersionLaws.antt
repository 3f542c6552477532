-- The version that a write makes, by its fields.
use Rattle.std.proofs.Common.{◌≡◌, ◌+◌, ℕ, min, max, Some}
use Rattle.conflict_order.specs.declared.version.Version.{Version}
use Rattle.conflict_order.specs.declared.version.Body.{Body}
use Rattle.conflict_order.specs.Next.{last_generation, next}

abbrev made : ℕ → ℕ → Body → Version
made lut generation body = record { lut = lut; generation = generation; body = body }

pub made_of_best : (best : Version) (clock lut generation : ℕ) (body : Body) → lut ≡ max clock best.lut → generation ≡ min (best.generation + 1) last_generation → made lut generation body ≡ next (Some best) clock body
unfolding next
made_of_best best clock lut generation body time number = λ i. made (time i) (number i) body

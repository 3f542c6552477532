-- The version that a write makes.
use Rattle.std.proofs.Common.{◌≡◌, ℕ, ◌==◌, ◌+◌, Bool, true, false, Option, Some, None, ◌↔◌, ap, min, max, arith}
use Rattle.std.specs.Prelude.{IsTrue}
use Rattle.std.proofs.lemmas.Bool.Decides.{nat_tests}
use Rattle.conflict_order.specs.declared.version.Version.{Version}
use Rattle.conflict_order.specs.Next.{next, last_generation}
use Rattle.audit_laws.proofs.Tests.{differ}

same_version : (v : Version) (lut generation : ℕ) → v.lut ≡ lut → v.generation ≡ generation → v ≡ record { lut = lut; generation = generation; body = v.body }
same_version v lut generation p q i = record { lut = p i; generation = q i; body = v.body }

-- the time and the generation that a write makes of the best version
abbrev pub next_lut : Option Version → ℕ → ℕ
next_lut None clock = clock
next_lut (Some best) clock = max clock best.lut

abbrev pub next_generation : Option Version → ℕ
next_generation None = 1
next_generation (Some best) = min (best.generation + 1) last_generation

next_is : (o : Option Version) (v : Version) (clock : ℕ) → v.lut ≡ next_lut o clock → v.generation ≡ next_generation o → v ≡ next o clock v.body
unfolding next
next_is None v clock p q = same_version v clock 1 p q
next_is (Some best) v clock p q = same_version v (max clock best.lut) (min (best.generation + 1) last_generation) p q

lut_of_next : (o : Option Version) (v : Version) (clock : ℕ) → v ≡ next o clock v.body → v.lut ≡ next_lut o clock
unfolding next
lut_of_next None v clock e = ap (λ (x : Version). x.lut) e
lut_of_next (Some best) v clock e = ap (λ (x : Version). x.lut) e

generation_of_next : (o : Option Version) (v : Version) (clock : ℕ) → v ≡ next o clock v.body → v.generation ≡ next_generation o
unfolding next
generation_of_next None v clock e = ap (λ (x : Version). x.generation) e
generation_of_next (Some best) v clock e = ap (λ (x : Version). x.generation) e

-- the time is right, and the generation decides
pub next_then : (o : Option Version) (v : Version) (clock : ℕ) (b : Bool) → v.lut ≡ next_lut o clock → (b ≡ true → v.generation ≡ next_generation o) → (v.generation ≡ next_generation o → b ≡ true)
    → IsTrue b ↔ (v ≡ next o clock v.body)
next_then o v clock b p there back = (λ e. next_is o v clock p (there e), λ e. back (generation_of_next o v clock e))

-- it isn't
pub next_else : (o : Option Version) (v : Version) (clock : ℕ) (b : Bool) → (v.lut ≡ next_lut o clock → ⊥) → b ≡ false → IsTrue b ↔ (v ≡ next o clock v.body)
next_else o v clock b apart e = (λ t. differ t e, λ t. absurd (apart (lut_of_next o v clock t)))

pub unequal : (n m : ℕ) → (n ≡ m → ⊥) → (n == m) ≡ false
unequal n m e = grind (arith, nat_tests)

-- A world that is never calm: a bound of the rounds after which calm comes says nothing of it.
use Rattle.std.proofs.Common.{◌≡◌, ℕ, zero, suc, false, refl, ap, ◌∙◌}
use Rattle.std.specs.List.{list_any}
use Rattle.cluster_types.proofs.BoolFacts.{not_both}
use Rattle.cluster_rules.specs.Calm.{is_calm_of}
use Rattle.cluster_rules.specs.CalmBound.{CalmIsReached, ComesInTime, IsWithinCalm, is_full_line, is_full_round}
use Rattle.cluster_rules.specs.Runs.{ComesToCalm}
use Rattle.cluster_rules.specs.Steps.{all_lines, round, rounds}
use Rattle.cluster_rules.specs.World.{World}
use Rattle.cluster_rules.specs.WorldExamples.{unticked}
use Rattle.cluster_rules.proofs.CalmBounds.{comes_in_time}
use Rattle.cluster_rules.proofs.Walk.{walking}
use Rattle.cluster_rules.proofs.WorldComputing.{world_computing}

-- nobody ticks and nothing is in flight, so each round leaves it as it is
stays : (k : ℕ) → (rounds 0 k unticked).world ≡ unticked
unfolding world_computing walking
stays zero = refl
stays (suc k) = stays k

is_uneasy : is_calm_of 0 unticked ≡ false
unfolding world_computing walking
is_uneasy = refl

uneasy : (k : ℕ) → is_calm_of 0 (rounds 0 k unticked).world ≡ false
uneasy k = ap (λ (w : World). is_calm_of 0 w) (stays k) ∙ is_uneasy

is_placed : list_any is_full_line (all_lines (round 0 unticked).steps) ≡ false
unfolding world_computing walking
is_placed = refl

placed : (k : ℕ) → is_full_round 0 unticked k ≡ false
placed k = ap (λ (w : World). list_any is_full_line (all_lines (round 0 w).steps)) (stays k) ∙ is_placed

pub never_calm : (k : ℕ) → ComesToCalm 0 unticked k → ⊥
never_calm k h = not_both (is_calm_of 0 (rounds 0 k unticked).world) h.calm (uneasy k)

pub within_calm : (k : ℕ) → ComesToCalm 0 unticked k → IsWithinCalm 0 unticked k
within_calm k h = absurd (never_calm k h)

pub not_reached : CalmIsReached 0 unticked → ⊥
not_reached h =
    let x : ComesInTime 0 unticked = comes_in_time 0 unticked h placed in
    not_both (is_calm_of 0 (rounds 0 x.number unticked).world) x.calm (uneasy x.number)

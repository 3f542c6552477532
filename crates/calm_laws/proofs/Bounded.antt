-- How many rounds of calm are begun.
use Rattle.std.proofs.Common.{◌≡◌, ℕ, zero, suc, ◌+◌, ◌-◌, ◌<◌, ◌≤◌, nat_le, Bool, true, false, List, refl, sym, ap, subst, ◌∙◌, ◌⊎◌, arith}
use Rattle.std.specs.List.{list_any}
use Rattle.std.proofs.lemmas.Bool.Decides.{nat_tests}
use Rattle.cluster_types.specs.Partitions.{partition_count}
use Rattle.cluster_rules.specs.Begun.{AreBegun}
use Rattle.cluster_rules.specs.Calm.{is_calm_of}
use Rattle.cluster_rules.specs.CalmBound.{IsBehindFull, IsWithinCalm, calm_limit, is_full_line, is_full_round}
use Rattle.cluster_rules.specs.Steps.{Played, all_lines, round}
use Rattle.cluster_rules.specs.World.{World}
use Rattle.cluster_laws.proofs.At.{differ}
use Rattle.calm_laws.specs.Flows.{world_at}
use Rattle.calm_laws.specs.Schedules.{Schedule}
use Rattle.calm_laws.proofs.Calming.{calm_then}
use Rattle.calm_laws.proofs.Sequence.{at_start, one_more}

-- rounds of the world after rounds are rounds of the first one
pub later_world : (n from : ℕ) (w : World) (i : ℕ) → world_at n (world_at n w from) i ≡ world_at n w (from + i)
later_world n from w zero = at_start n (world_at n w from) ∙ ap (λ (k : ℕ). world_at n w k) (same from)
  where
    same : (a : ℕ) → a ≡ a + 0
    same a = omega arith
later_world n from w (suc i) =
    one_more n i (world_at n w from)
    ∙ ap (λ (u : World). (round n u).world) (later_world n from w i)
    ∙ sym (one_more n (from + i) w)
    ∙ ap (λ (k : ℕ). world_at n w k) (same from i)
  where
    same : (a b : ℕ) → suc (a + b) ≡ a + suc b
    same a b = omega arith

-- no more rounds are begun, counted from one on, than the timetable has
pub begun_few : (ns : List ℕ) (w : World) (q : ℕ) (x : Played) (b : AreBegun partition_count w x) (from rest : ℕ) → from + rest ≡ b.number → Schedule ns (world_at partition_count w from) rest q → rest ≤ 21 + q
begun_few ns w q x b from rest is s = go (nat_le rest (21 + q)) refl
  where
    over : (k : ℕ) → nat_le k (21 + q) ≡ false → 21 + q < k
    over k e = grind (arith, nat_tests, e)

    within : (k : ℕ) → from + rest ≡ k → 21 + q < rest → from + (21 + q) < k
    within k e lt = omega (arith, e, lt)

    go : (c : Bool) → nat_le rest (21 + q) ≡ c → rest ≤ 21 + q
    go true e = grind (arith, nat_tests, e)
    go false e =
        let more : 21 + q < rest = over rest e in
        differ (subst (λ (u : World). is_calm_of partition_count u ≡ true) (later_world partition_count from w (21 + q)) (calm_then ns (world_at partition_count w from) rest q (omega (arith, more)) s)) (b.uneasy (from + (21 + q)) (within b.number is more))

-- so that they are within the bound, where the timetable is
pub begun_within : (ns : List ℕ) (w : World) (q : ℕ) (x : Played) (b : AreBegun partition_count w x) (from rest : ℕ) → from + rest ≡ b.number → (from ≡ 0) ⊎ IsBehindFull partition_count w b.number from → Schedule ns (world_at partition_count w from) rest q → 21 + q ≤ calm_limit w
    → IsWithinCalm partition_count w b.number
begun_within ns w q x b from rest is begins s le = record { from = from; begins = begins; placed = placed; few = at_most b.number (calm_limit w) is (begun_few ns w q x b from rest is s) le }
  where
    at_most : (a c : ℕ) → from + rest ≡ a → rest ≤ 21 + q → 21 + q ≤ c → a ≤ from + c
    at_most a c e h l = omega (arith, e, h, l)

    less : (i a : ℕ) → from + rest ≡ a → from ≤ i → i < a → i - from < rest
    less i a e ge lt = omega (arith, e, ge, lt)

    again : (i : ℕ) → from ≤ i → from + (i - from) ≡ i
    again i ge = omega (arith, ge)

    placed : (i : ℕ) → from ≤ i → i < b.number → is_full_round partition_count w i ≡ false
    placed i ge lt =
        ap (λ (u : World). list_any is_full_line (all_lines (round partition_count u).steps)) (sym (later_world partition_count from w (i - from) ∙ ap (λ (k : ℕ). world_at partition_count w k) (again i ge)))
        ∙ s.plain.placed (i - from) (less i b.number is ge lt)

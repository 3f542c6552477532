-- The steps of a round, one after the other.
use Rattle.std.proofs.Common.{◌≡◌, ℕ, ◌+◌, ◌%◌, ◌^◌, ◌<◌, ◌≤◌, List, length, drop, slice_index, refl, arith, add-one}
use Rattle.std.proofs.lemmas.List.{drop_all}
use Rattle.std.proofs.Math.Seq.{drop-cons}
use Rattle.digest_ripemd.specs.declared.rounds.Function.{Function}
use Rattle.digest_ripemd.specs.declared.rounds.Words.{Words}
use Rattle.digest_ripemd.specs.Lines.{round_step, after_steps}

-- a sum of four words is the same in another order
pub sum_reordered : (a f x k : ℕ) → (((a + x) % 2 ^ 32 + k) % 2 ^ 32 + f) % 2 ^ 32 ≡ (a + f + x + k) % 2 ^ 32
sum_reordered a f x k = omega arith

-- the first of the steps that are left
pub after_steps-drop : (f : Function) (k : ℕ) (words order rotations : List ℕ) (v : Words) (i : ℕ)
    → i < length order → i < length rotations
    → after_steps f k words (drop i order) (drop i rotations) v
    ≡ after_steps f k words (drop (i + 1) order) (drop (i + 1) rotations)
    (round_step f k (slice_index words (slice_index order i)) (slice_index rotations i) v)
unfolding after_steps
after_steps-drop f k words order rotations v i more more' =
    rw (drop-cons order i 0 more, drop-cons rotations i 0 more', add-one) refl

-- no step is left
pub after_steps_done : (f : Function) (k : ℕ) (words order rotations : List ℕ) (v : Words) (i : ℕ)
    → length order ≤ i → after_steps f k words (drop i order) rotations v ≡ v
unfolding after_steps
after_steps_done f k words order rotations v i none = rw (drop_all i order none) refl

-- a sum of three words
pub sum_of_three : (a b c : ℕ) → ((a + b) % 2 ^ 32 + c) % 2 ^ 32 ≡ (a + b + c) % 2 ^ 32
sum_of_three a b c = omega arith

-- What stands behind a text that was added to in part.
use Rattle.std.proofs.Common.{◌≡◌, ◌≤◌, ◌++◌, ℕ, List, Result, Ok, Err, length, take, sym, ap, ◌∙◌, arith, length-append}
use Rattle.std.specs.Result.{OnErr}
use Rattle.std.proofs.Math.Seq.{take-append_seam}
use Rattle.std.proofs.lemmas.List.{take-take}

pub on_each_fault : {T E P : Type 0} (r : Result T E) → P → OnErr r P
on_each_fault (Ok x) p = tt
on_each_fault (Err e) p = p

-- a front of what was kept is kept
pub front_kept : (old front mid new : List ℕ) → mid ≡ old ++ front → take (length mid) new ≡ mid → take (length old) new ≡ old
front_kept old front mid new is kept =
    let within : length old ≤ length mid = omega (arith, ap (λ (xs : List ℕ). length xs) is, length-append old front) in
    sym (take-take (length old) (length mid) new within) ∙ ap (λ (xs : List ℕ). take (length old) xs) (kept ∙ is) ∙ take-append_seam old front

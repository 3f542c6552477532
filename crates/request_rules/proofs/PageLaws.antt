-- Pages that are parts of one list of records.
use Rattle.std.proofs.Common.{◌≡◌, ◌+◌, ◌≤◌, ℕ, zero, suc, Bool, true, false, cond, List, [], ◌∷◌, ◌++◌, take, drop, length, Option, Some, None, refl, sym, ap, ap₂, ◌∙◌, arith}
use Rattle.std.specs.Cmp.Lexicographic.{nat_list_eq_equiv}
use Rattle.std.proofs.lemmas.Bool.{ltb-false}
use Rattle.std.proofs.lemmas.List.{take_all, take-append-drop}
use Rattle.conflict_order.specs.Contents.{Record}
use Rattle.wire_messages.specs.declared.scan.ScanPage.{ScanPage}
use Rattle.request_rules.specs.declared.scanning.Scanning.{Scanning}
use Rattle.request_rules.specs.declared.scanning.ScanStep.TheVariants as step
use Rattle.request_rules.specs.Scans.{IsNextPage, position, records_after, same_position, step_here, step_for, step_on}

no_part : {A : Type 0} (n : ℕ) → take {A = A} n [] ≡ []
no_part zero = refl
no_part (suc n) = refl

parts : {A : Type 0} (xs : List A) (k m : ℕ) → take k xs ++ take m (drop k xs) ≡ take (k + m) xs
parts xs zero m = ap (λ n. take n xs) (omega arith)
parts [] (suc k) m = no_part m ∙ sym (no_part (suc k + m))
parts (x ∷ xs) (suc k) m =
    let more : suc (k + m) ≡ suc k + m = omega arith in
    ap (λ ys. x ∷ ys) (parts xs k m) ∙ ap (λ n. take n (x ∷ xs)) more

one_position : (a : Option (List ℕ)) → same_position a a ≡ true
one_position None = refl
one_position (Some d) = nat_list_eq_equiv.refl d

pub records : (rs : List Record) (so_far most from : ℕ) (x : Scanning) (page : ScanPage) → IsNextPage rs so_far most from x page → records_after x page ≡ take (so_far + most) rs
records rs so_far most from x page h = ap₂ (λ a b. a ++ b) h.records h.part ∙ parts rs so_far most

-- where no records follow, the page has all that were left
whole : (rs : List Record) (so_far most from : ℕ) (x : Scanning) (page : ScanPage) → IsNextPage rs so_far most from x page → page.more ≡ false → records_after x page ≡ rs
whole rs so_far most from x page h last =
    let left : length (drop so_far rs) ≤ most = ltb-false most (length (drop so_far rs)) (sym h.more ∙ last) in
    ap₂ (λ a b. a ++ b) h.records (h.part ∙ take_all most (drop so_far rs) left) ∙ take-append-drop so_far rs

pub taken : (rs : List Record) (so_far most from : ℕ) (x : Scanning) (page : ScanPage) → IsNextPage rs so_far most from x page → step_for (Some x) from page ≡ cond page.more (step.More (length page.records)) (step.Whole rs)
taken rs so_far most from x page h =
    ap (λ a. cond (same_position a (position x)) (step_here x from page) step.Spent) h.begins
    ∙ ap (λ b. cond b (step_here x from page) step.Spent) (one_position (position x))
    ∙ ap (λ b. cond b (step_on x page) step.Again) h.one_content
    ∙ go page.more (whole rs so_far most from x page h)
  where
    go : (b : Bool) → (b ≡ false → records_after x page ≡ rs) → cond b (step.More (length page.records)) (step.Whole (records_after x page)) ≡ cond b (step.More (length page.records)) (step.Whole rs)
    go true last = refl
    go false last = ap (λ all. step.Whole all) (last refl)

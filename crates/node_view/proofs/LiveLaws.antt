-- Rows in which no bit is set, and rows without one bit.
use Rattle.std.proofs.Common.{◌≡◌, ◌≢◌, ◌↔◌, ◌+◌, ◌<◌, ◌&&◌, ℕ, ◌==◌, Bool, true, false, not, cond, List, [], ◌∷◌, length, set, refl, sym, zero, suc, arith, IsTrue, eq-eqb, ap, ◌∙◌}
use Rattle.std.specs.List.{count_by}
use Rattle.std.proofs.lemmas.Bool.{and_right}
use Rattle.std.proofs.lemmas.Bool.Decides.{nat_tests}
use Rattle.std.proofs.lemmas.List.{get_or-set_other, get_or-set_same, length-set}
use Rattle.std.proofs.lemmas.List.Sums.{sum_by-cons}
use Rattle.cluster_types.specs.Partitions.{partition_count}
use Rattle.cluster_types.specs.Rows.{bit, IsClear}
use Rattle.partition_lists.proofs.InOrderLaws.{equal, from_equal}
use Rattle.node_view.proofs.RowLaws.{same_bits}

count_next : (b : Bool) (row : List Bool) → count_by (λ b. b) (b ∷ row) ≡ cond b 1 0 + count_by (λ b. b) row
count_next b row = sum_by-cons (λ b. cond b 1 0) b row

-- where none is counted, none is set
clear_from_count : (row : List Bool) → count_by (λ b. b) row ≡ 0 → (p : ℕ) → bit row p ≡ false
clear_from_count [] e p = refl
clear_from_count (true ∷ row) e p = absurd (omega (arith, e, count_next true row))
clear_from_count (false ∷ row) e zero = refl
clear_from_count (false ∷ row) e (suc p) = clear_from_count row (omega (arith, e, count_next false row)) p

-- where none is set, none is counted
pub count_of_clear : (row : List Bool) → ((p : ℕ) → bit row p ≡ false) → count_by (λ b. b) row ≡ 0
count_of_clear [] clear = refl
count_of_clear (true ∷ row) clear = absurd (let e = clear 0 in cc)
count_of_clear (false ∷ row) clear = omega (arith, count_next false row, count_of_clear row (λ p. clear (suc p)))

-- a count of 0 says that no bit is set
pub count_says_clear : (row : List Bool) (count : ℕ) → count ≡ count_by (λ b. b) row → IsTrue (count == 0) ↔ ((p : ℕ) → bit row p ≡ false)
count_says_clear row count counted = (
  λ none. clear_from_count row (grind (arith, nat_tests)),
  λ clear. let e = count_of_clear row clear in eq-eqb count 0 (omega arith),
)

-- ---- without one bit

and_true : (a : Bool) → (a && true) ≡ a
and_true true = refl
and_true false = refl

-- where the bits of a row that has that bit alone are taken out of another
pub without_bit : (row none taken left : List Bool) (p : ℕ) → length row ≡ partition_count → length none ≡ partition_count → IsClear none → taken ≡ set none p true
    → length left ≡ partition_count → ((q : ℕ) → bit left q ≡ (bit row q && not (bit taken q))) → left ≡ set row p false
without_bit row none taken left p size wide clear taken_is long each =
    same_bits left (set row p false) (long ∙ sym size ∙ sym (length-set row p false)) (λ q within. at q (omega (arith, within, long)) (q == p) refl)
  where
    at : (q : ℕ) → q < partition_count → (b : Bool) → (q == p) ≡ b → bit left q ≡ bit (set row p false) q
    at q within true e =
        let here : q ≡ p = from_equal q p e in
        let low : p < length none = omega (arith, within, here, wide) in
        let inside : p < length row = omega (arith, within, here, size) in
        ap (bit left) here
        ∙ each p
        ∙ ap (λ (b : Bool). bit row p && not b) (ap (λ (r : List Bool). bit r p) taken_is ∙ get_or-set_same none p true false low)
        ∙ and_right (bit row p) false refl
        ∙ sym (get_or-set_same row p false false inside)
        ∙ ap (bit (set row p false)) (sym here)
    at q within false e =
        let other : q ≢ p = λ (i : q ≡ p). let wrong : true ≡ false = sym (equal q p i) ∙ e in cc in
        each q
        ∙ ap (λ (b : Bool). bit row q && not b) (ap (λ (r : List Bool). bit r q) taken_is ∙ get_or-set_other none p q true false other ∙ clear.clear q)
        ∙ and_true (bit row q)
        ∙ sym (get_or-set_other row p q false false other)

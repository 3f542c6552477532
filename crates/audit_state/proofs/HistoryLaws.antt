-- What a history answers.
use Rattle.std.proofs.Common.{◌≡◌, ℕ, zero, suc, ◌<◌, ◌≤◌, ◌-◌, Bool, true, false, cond, List, [], ◌∷◌, ◌++◌, length, take, get_or, Option, Some, None, refl, sym, ap, ◌∙◌, arith}
use Rattle.std.specs.Prelude.{nat_lt, slice_get}
use Rattle.std.specs.List.Sorted.{IsPartitionPoint}
use Rattle.std.proofs.lemmas.Bool.Decides.{nat_tests}
use Rattle.std.proofs.lemmas.List.Elements.{All-push}
use Rattle.audit_state.specs.declared.history.Change.{Change}
use Rattle.audit_state.specs.Histories.{AreBelow, AreUpTo, last_from, last_before, changed_value, value_after, value_now}

-- the last of the changes, or this one
abbrev last_of : Option Change → List Change → Option Change
last_of last [] = last
last_of last (c ∷ cs) = last_of (Some c) cs

is_below : (n m : ℕ) → n < m → nat_lt n m ≡ true
is_below n m e = grind (arith, nat_tests)

-- the changes that pass stand in front
from_point : (last : Option Change) (cs : List Change) (lines n : ℕ) → n ≤ length cs
    → ((k : ℕ) (d : Change) → k < n → nat_lt (get_or cs k d).line lines ≡ true)
    → ((k : ℕ) (d : Change) → n ≤ k → k < length cs → nat_lt (get_or cs k d).line lines ≡ false)
    → last_from last cs lines ≡ last_of last (take n cs)
from_point last [] lines zero bound pass fail = refl
from_point last [] lines (suc n) bound pass fail = absurd (omega (arith, bound))
from_point last (c ∷ cs) lines zero bound pass fail = ap (λ (b : Bool). cond b (last_from (Some c) cs lines) last) (fail 0 c (omega arith) (omega arith))
from_point last (c ∷ cs) lines (suc n) bound pass fail =
    ap (λ (b : Bool). cond b (last_from (Some c) cs lines) last) (pass 0 c (omega arith))
    ∙ from_point (Some c) cs lines n (omega (arith, bound)) (λ k d lower. pass (suc k) d (omega (arith, lower))) (λ k d above within. fail (suc k) d (omega (arith, above)) (omega (arith, within)))

last_is : (c : Change) (cs : List Change) → slice_get (c ∷ cs) (length cs) ≡ last_of (Some c) cs
last_is c [] = refl
last_is c (x ∷ cs) = last_is x cs

last_got : (cs : List Change) → slice_get cs (length cs - 1) ≡ last_of None cs
last_got [] = refl
last_got (c ∷ cs) = ap (slice_get (c ∷ cs)) (let same : length (c ∷ cs) - 1 ≡ length cs = omega arith in same) ∙ last_is c cs

pub last_at : (cs : List Change) (lines n : ℕ) → n ≤ length cs → IsPartitionPoint (λ c. nat_lt c.line lines ≡ true) (λ c. nat_lt c.line lines ≡ false) cs n
    → slice_get (take n cs) (length (take n cs) - 1) ≡ last_before cs lines
last_at cs lines n bound point = last_got (take n cs) ∙ sym (from_point None cs lines n bound (λ k d lower. point.0 k d (omega arith) lower) (λ k d above within. point.1 k d above within))

-- all of them are in so many lines
all_below : (last : Option Change) (cs : List Change) (lines : ℕ) → AreBelow lines cs → last_from last cs lines ≡ last_of last cs
all_below last [] lines h = refl
all_below last (c ∷ cs) lines h =
    ap (λ (b : Bool). cond b (last_from (Some c) cs lines) last) (is_below c.line lines (h 0 c (omega arith)))
    ∙ all_below (Some c) cs lines (λ k d within. h (suc k) d (omega (arith, within)))

pub last_now : (cs : List Change) (lines : ℕ) → AreBelow lines cs → slice_get cs (length cs - 1) ≡ last_before cs lines
last_now cs lines h = last_got cs ∙ sym (all_below None cs lines h)

-- a change more leaves what was before it, and is what is told behind it
pub last_from-more : (last : Option Change) (cs : List Change) (c : Change) (lines : ℕ) → AreUpTo c.line cs
    → last_from last (cs ++ c ∷ []) lines ≡ cond (nat_lt c.line lines) (Some c) (last_from last cs lines)
last_from-more last [] c lines h = refl
last_from-more last (x ∷ cs) c lines h = go (nat_lt x.line lines) (nat_lt c.line lines) refl refl (last_from-more (Some x) cs c lines (λ k d within. h (suc k) d (omega (arith, within))))
  where
    first : x.line ≤ c.line
    first = h 0 x (omega arith)

    go : (a b : Bool) → nat_lt x.line lines ≡ a → nat_lt c.line lines ≡ b
        → last_from (Some x) (cs ++ c ∷ []) lines ≡ cond (nat_lt c.line lines) (Some c) (last_from (Some x) cs lines)
        → cond a (last_from (Some x) (cs ++ c ∷ []) lines) last ≡ cond b (Some c) (cond a (last_from (Some x) cs lines) last)
    go true b p q rest = rest ∙ ap (λ (z : Bool). cond z (Some c) (last_from (Some x) cs lines)) q
    go false false p q rest = refl
    go false true p q rest = absurd (apart x.line c.line lines first p q)
      where
        apart : (n m o : ℕ) → n ≤ m → nat_lt n o ≡ false → nat_lt m o ≡ true → ⊥
        apart n m o le p q = grind (arith, nat_tests)

-- ---- a history whose changes are all in so many lines

pub now_at : (h : List Change) (i : ℕ) → AreBelow i h → value_now h ≡ value_after h i
now_at h i below = ap changed_value (last_now h i below)

pub below_more : (h : List Change) (i : ℕ) → AreBelow i h → AreBelow (suc i) h
below_more h i below = λ k d within. omega (arith, below k d within)

pub stays_at : (h : List Change) (i : ℕ) → AreBelow i h → value_after h (suc i) ≡ value_after h i
stays_at h i below = sym (now_at h (suc i) (below_more h i below)) ∙ now_at h i below

pub up_to : (h : List Change) (i : ℕ) → AreBelow i h → AreUpTo i h
up_to h i below = λ k d within. omega (arith, below k d within)

pub below_next : (h : List Change) (i : ℕ) → AreUpTo i h → AreBelow (suc i) h
below_next h i up = λ k d within. omega (arith, up k d within)

-- a change more, behind all of them

is_not_below : (n m : ℕ) → m ≤ n → nat_lt n m ≡ false
is_not_below n m e = grind (arith, nat_tests)

pub put_before : (h : List Change) (c : Change) (a : ℕ) → AreUpTo c.line h → a ≤ c.line → value_after (h ++ c ∷ []) a ≡ value_after h a
put_before h c a up le = ap changed_value (last_from-more None h c a up ∙ ap (λ (b : Bool). cond b (Some c) (last_from None h a)) (is_not_below c.line a le))

pub put_behind : (h : List Change) (c : Change) (a : ℕ) → AreUpTo c.line h → c.line < a → value_after (h ++ c ∷ []) a ≡ c.value
put_behind h c a up lt = ap changed_value (last_from-more None h c a up ∙ ap (λ (b : Bool). cond b (Some c) (last_from None h a)) (is_below c.line a lt))

pub put_below : (h : List Change) (c : Change) (i : ℕ) → AreUpTo c.line h → c.line < i → AreBelow i (h ++ c ∷ [])
put_below h c i up lt = All-push (λ (d : Change). d.line < i) h c (λ k d within. omega (arith, up k d within, lt)) lt

pub put_now : (h : List Change) (c : Change) → AreUpTo c.line h → value_now (h ++ c ∷ []) ≡ c.value
put_now h c up = now_at (h ++ c ∷ []) (suc c.line) (put_below h c (suc c.line) up (omega arith)) ∙ put_behind h c (suc c.line) up (omega arith)

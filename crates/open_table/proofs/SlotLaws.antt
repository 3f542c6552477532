-- The items in slots, by their numbers.
use Rattle.std.proofs.Common.{◌≡◌, ◌==◌, ◌<◌, ◌≤◌, ◌+◌, ◌-◌, ℕ, zero, suc, Bool, true, false, cond, not, List, [], ◌∷◌, ◌++◌, All, AllPairs, length, get_or, set, Option, Some, None, IsTrue, refl, sym, ap, ap₂, ◌∙◌, ◌⊎◌, inl, inr, arith}
use Rattle.std.proofs.lemmas.Bool.Decides.{nat_tests}
use Rattle.std.proofs.lemmas.List.{length-map}
use Rattle.std.proofs.lemmas.List.Elements.{All-nil, All-cons}
use Rattle.std.proofs.lemmas.List.Kept.{AllPairs-cons}
use Rattle.request_rules.specs.ByNumber.{changed_under, changing_item, item_under, without_number}
use Rattle.open_table.specs.Open.{HaveRisingNumbers}
use Rattle.open_table.specs.Slots.{items_from, starts_with_item}

same_number : (a b : ℕ) → a ≡ b → (a == b) ≡ true
same_number a b e = grind (arith, nat_tests)

other_number : (a b : ℕ) → (a ≡ b → ⊥) → (a == b) ≡ false
other_number a b l = grind (arith, nat_tests)

-- what stands behind a front of that number, or not
here : {X : Type 0} (a n : ℕ) (x : X) (xs : List (ℕ × X)) → a ≡ n → item_under ((a, x) ∷ xs) n ≡ Some x
here a n x xs e = ap (λ c. cond c (Some x) (item_under xs n)) (same_number a n e)

behind : {X : Type 0} (a n : ℕ) (x : X) (xs : List (ℕ × X)) → (a ≡ n → ⊥) → item_under ((a, x) ∷ xs) n ≡ item_under xs n
behind a n x xs e = ap (λ c. cond c (Some x) (item_under xs n)) (other_number a n e)

kept : {X : Type 0} (a n : ℕ) (x : X) (xs : List (ℕ × X)) → (a ≡ n → ⊥) → without_number ((a, x) ∷ xs) n ≡ (a, x) ∷ without_number xs n
kept a n x xs e = ap (λ c. cond (not c) ((a, x) ∷ without_number xs n) (without_number xs n)) (other_number a n e)

gone : {X : Type 0} (a n : ℕ) (x : X) (xs : List (ℕ × X)) → a ≡ n → without_number ((a, x) ∷ xs) n ≡ without_number xs n
gone a n x xs e = ap (λ c. cond (not c) ((a, x) ∷ without_number xs n) (without_number xs n)) (same_number a n e)

-- a number up to those before the first slot has no item
pub early : {X : Type 0} (b : ℕ) (s : List (Option X)) (n : ℕ) → n ≤ b → item_under (items_from b s) n ≡ None
early b [] n l = refl
early b (None ∷ s) n l = early (b + 1) s n (omega arith)
early b (Some x ∷ s) n l = behind (b + 1) n x (items_from (b + 1) s) (λ e. omega arith) ∙ early (b + 1) s n (omega arith)

-- nor has one past the last slot
pub late : {X : Type 0} (b : ℕ) (s : List (Option X)) (n : ℕ) → b + length s < n → item_under (items_from b s) n ≡ None
late b [] n l = refl
late b (None ∷ s) n l = late (b + 1) s n (omega arith)
late b (Some x ∷ s) n l = behind (b + 1) n x (items_from (b + 1) s) (λ e. omega arith) ∙ late (b + 1) s n (omega arith)

-- a slot's number has that slot's item
pub in_slot : {X : Type 0} (b : ℕ) (s : List (Option X)) (i n : ℕ) (d : Option X) → i < length s → n ≡ b + 1 + i → item_under (items_from b s) n ≡ get_or s i d
in_slot b [] i n d l e = absurd (omega arith)
in_slot b (None ∷ s) zero n d l e = early (b + 1) s n (omega arith)
in_slot b (Some x ∷ s) zero n d l e = here (b + 1) n x (items_from (b + 1) s) (omega arith)
in_slot b (None ∷ s) (suc i) n d l e = in_slot (b + 1) s i n d (omega arith) (omega arith)
in_slot b (Some x ∷ s) (suc i) n d l e = behind (b + 1) n x (items_from (b + 1) s) (λ h. omega arith) ∙ in_slot (b + 1) s i n d (omega arith) (omega arith)

-- of so many slots, of the last numbers given, none has this number
pub in_no_slot : {X : Type 0} (given m : ℕ) (s : List (Option X)) (n : ℕ) → m ≡ length s → m ≤ given → (n ≤ given - m) ⊎ (given < n) → item_under (items_from (given - m) s) n ≡ None
in_no_slot given m s n e l (inl k) = early (given - m) s n k
in_no_slot given m s n e l (inr k) = late (given - m) s n (omega arith)

-- where none has the number, all stay
pub missing : {X : Type 0} (xs : List (ℕ × X)) (n : ℕ) → item_under xs n ≡ None → without_number xs n ≡ xs
missing [] n h = refl
missing (x ∷ xs) n h = go (x.0 == n) h (missing xs n)
  where
    go : (c : Bool) → cond c (Some x.1) (item_under xs n) ≡ None → (item_under xs n ≡ None → without_number xs n ≡ xs) → cond (not c) (x ∷ without_number xs n) (without_number xs n) ≡ x ∷ xs
    go true i rest = absurd (let wrong : Some x.1 ≡ None = i in cc)
    go false i rest = ap (λ ys. x ∷ ys) (rest i)

-- a slot that is emptied leaves the items of the others
pub emptied : {X : Type 0} (b : ℕ) (s : List (Option X)) (i n : ℕ) → i < length s → n ≡ b + 1 + i → items_from b (set s i None) ≡ without_number (items_from b s) n
emptied b [] i n l e = absurd (omega arith)
emptied b (None ∷ s) zero n l e = sym (missing (items_from (b + 1) s) n (early (b + 1) s n (omega arith)))
emptied b (Some x ∷ s) zero n l e =
    sym (gone (b + 1) n x (items_from (b + 1) s) (omega arith) ∙ missing (items_from (b + 1) s) n (early (b + 1) s n (omega arith)))
emptied b (None ∷ s) (suc i) n l e = emptied (b + 1) s i n (omega arith) (omega arith)
emptied b (Some x ∷ s) (suc i) n l e =
    ap (λ ys. (b + 1, x) ∷ ys) (emptied (b + 1) s i n (omega arith) (omega arith))
    ∙ sym (kept (b + 1) n x (items_from (b + 1) s) (λ h. omega arith))

-- by one item less
pub one_less : {X : Type 0} (b : ℕ) (s : List (Option X)) (i : ℕ) (x : X) → get_or s i None ≡ Some x → length (items_from b (set s i None)) + 1 ≡ length (items_from b s)
one_less b [] i x e = cc
one_less b (None ∷ s) zero x e = cc
one_less b (Some y ∷ s) zero x e = omega arith
one_less b (None ∷ s) (suc i) x e = one_less (b + 1) s i x e
one_less b (Some y ∷ s) (suc i) x e = omega (arith, one_less (b + 1) s i x e)

-- where none has the number, none gets another item
pub unmoved : {X : Type 0} (xs : List (ℕ × X)) (n : ℕ) (item : X) → item_under xs n ≡ None → changing_item xs n (λ v. item) ≡ xs
unmoved [] n item h = refl
unmoved (x ∷ xs) n item h = go (x.0 == n) h (unmoved xs n item)
  where
    go : (c : Bool) → cond c (Some x.1) (item_under xs n) ≡ None → (item_under xs n ≡ None → changing_item xs n (λ v. item) ≡ xs) → changed_under (λ v. item) x c ∷ changing_item xs n (λ v. item) ≡ x ∷ xs
    go true i rest = absurd (let wrong : Some x.1 ≡ None = i in cc)
    go false i rest = ap (λ ys. x ∷ ys) (rest i)

-- a slot whose item is another one has that under its number
pub replaced : {X : Type 0} (b : ℕ) (s : List (Option X)) (i n : ℕ) (x y : X) → get_or s i None ≡ Some x → n ≡ b + 1 + i → items_from b (set s i (Some y)) ≡ changing_item (items_from b s) n (λ v. y)
replaced b [] i n x y e l = absurd cc
replaced b (None ∷ s) zero n x y e l = absurd cc
replaced b (Some z ∷ s) zero n x y e l =
    sym (ap₂ (λ c ys. changed_under (λ v. y) (b + 1, z) c ∷ ys) (same_number (b + 1) n (omega arith)) (unmoved (items_from (b + 1) s) n y (early (b + 1) s n (omega arith))))
replaced b (None ∷ s) (suc i) n x y e l = replaced (b + 1) s i n x y e (omega arith)
replaced b (Some z ∷ s) (suc i) n x y e l =
    ap (λ ys. (b + 1, z) ∷ ys) (replaced (b + 1) s i n x y e (omega arith))
    ∙ sym (ap (λ c. changed_under (λ v. y) (b + 1, z) c ∷ changing_item (items_from (b + 1) s) n (λ v. y)) (other_number (b + 1) n (λ h. omega arith)))

pub starts_replaced : {X : Type 0} (s : List (Option X)) (i : ℕ) (y : X) → IsTrue (starts_with_item s) → IsTrue (starts_with_item (set s i (Some y)))
starts_replaced [] i y h = h
starts_replaced (None ∷ s) zero y h = cc
starts_replaced (None ∷ s) (suc i) y h = h
starts_replaced (Some x ∷ s) zero y h = h
starts_replaced (Some x ∷ s) (suc i) y h = h

-- as many are open then
pub as_many : {X : Type 0} (b : ℕ) (s : List (Option X)) (i : ℕ) (x y : X) → get_or s i None ≡ Some x → length (items_from b (set s i (Some y))) ≡ length (items_from b s)
as_many b s i x y e =
    ap length (replaced b s i (b + 1 + i) x y e refl)
    ∙ length-map (items_from b s) (λ z. changed_under (λ v. y) z (z.0 == b + 1 + i))

-- a slot that was empty already stays so
pub same_slots : {X : Type 0} (s : List (Option X)) (i : ℕ) → get_or s i None ≡ None → set s i None ≡ s
same_slots [] i e = refl
same_slots (o ∷ s) zero e = ap (λ p. p ∷ s) (sym e)
same_slots (o ∷ s) (suc i) e = ap (λ t. o ∷ t) (same_slots s i e)

-- what is added has the next number
pub pushed : {X : Type 0} (b : ℕ) (s : List (Option X)) (x : X) → items_from b (s ++ Some x ∷ []) ≡ items_from b s ++ (b + length s + 1, x) ∷ []
pushed b [] x = ap (λ n. (n, x) ∷ []) (omega arith)
pushed b (None ∷ s) x = pushed (b + 1) s x ∙ ap (λ n. items_from (b + 1) s ++ (n, x) ∷ []) (omega arith)
pushed b (Some y ∷ s) x = ap (λ ys. (b + 1, y) ∷ ys) (pushed (b + 1) s x ∙ ap (λ n. items_from (b + 1) s ++ (n, x) ∷ []) (omega arith))

pub length_pushed : {X : Type 0} (b : ℕ) (s : List (Option X)) (x : X) → length (items_from b (s ++ Some x ∷ [])) ≡ length (items_from b s) + 1
length_pushed b [] x = omega arith
length_pushed b (None ∷ s) x = length_pushed (b + 1) s x
length_pushed b (Some y ∷ s) x = omega (arith, length_pushed (b + 1) s x)

pub starts_pushed : {X : Type 0} (s : List (Option X)) (x : X) → IsTrue (starts_with_item s) → IsTrue (starts_with_item (s ++ Some x ∷ []))
starts_pushed [] x h = cc
starts_pushed (None ∷ s) x h = h
starts_pushed (Some y ∷ s) x h = h

-- no more are open than there are slots
pub at_most : {X : Type 0} (b : ℕ) (s : List (Option X)) → length (items_from b s) ≤ length s
at_most b [] = omega arith
at_most b (None ∷ s) = omega (arith, at_most (b + 1) s)
at_most b (Some x ∷ s) = omega (arith, at_most (b + 1) s)

-- ---- their order

above : {X : Type 0} (b c : ℕ) (s : List (Option X)) → c ≤ b → All (λ (x : ℕ × X). c < x.0) (items_from b s)
above b c [] l = All-nil (λ x. c < x.0)
above b c (None ∷ s) l = above (b + 1) c s (omega arith)
above b c (Some x ∷ s) l = All-cons (λ y. c < y.0) (b + 1, x) (items_from (b + 1) s) (omega arith) (above (b + 1) c s (omega arith))

up_to : {X : Type 0} (b c : ℕ) (s : List (Option X)) → b + length s ≤ c → All (λ (x : ℕ × X). x.0 ≤ c) (items_from b s)
up_to b c [] l = All-nil (λ x. x.0 ≤ c)
up_to b c (None ∷ s) l = up_to (b + 1) c s (omega arith)
up_to b c (Some x ∷ s) l = All-cons (λ y. y.0 ≤ c) (b + 1, x) (items_from (b + 1) s) (omega arith) (up_to (b + 1) c s (omega arith))

rising : {X : Type 0} (b : ℕ) (s : List (Option X)) → AllPairs (λ (x y : ℕ × X). x.0 < y.0) (items_from b s)
rising b [] = λ i j d l k. absurd (omega arith)
rising b (None ∷ s) = rising (b + 1) s
rising b (Some x ∷ s) = AllPairs-cons (λ y z. y.0 < z.0) (b + 1, x) (items_from (b + 1) s) (above (b + 1) (b + 1) s (omega arith)) (rising (b + 1) s)

pub are_rising : {X : Type 0} (b last : ℕ) (s : List (Option X)) → b + length s ≤ last → HaveRisingNumbers last (items_from b s)
are_rising b last s l = record { rising = rising b s; from_one = above b 0 s (omega arith); to_last = up_to b last s l }

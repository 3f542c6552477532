-- Lists of which one item stands at a place.
use Rattle.std.proofs.Common.{◌≡◌, ◌≢◌, ℕ, zero, suc, ◌<◌, List, [], ◌∷◌, All, AllPairs, length, map, Some, refl, sym, ap, ap₂, subst, ◌∙◌, arith, set, get_or}
use Rattle.std.specs.Prelude.{slice_get, option_map}
use Rattle.std.proofs.lemmas.List.{map-set}
use Rattle.std.proofs.lemmas.List.Elements.{All-head, All-tail}
use Rattle.std.proofs.lemmas.Option.{slice_get-map, slice_get_within, slice_get-get_or}

some_same : {A : Type 0} (a b : A) → Some a ≡ Some b → a ≡ b
some_same a b e = cc

-- where two lists have the same images, so have their items at one place
pub images_at : {A B C : Type 0} (f : A → C) (g : B → C) (xs : List A) (ys : List B) (i : ℕ) (x : A) (y : B)
    → map f xs ≡ map g ys → slice_get xs i ≡ Some x → slice_get ys i ≡ Some y → f x ≡ g y
images_at {A} {B} {C} f g xs ys i x y same here there =
    some_same (f x) (g y)
    (ap (option_map f) (sym here) ∙ sym (slice_get-map f xs i) ∙ ap (λ (zs : List C). slice_get zs i) same ∙ slice_get-map g ys i ∙ ap (option_map g) there)

same_length : {A B C : Type 0} (f : A → C) (g : B → C) (xs : List A) (ys : List B) → map f xs ≡ map g ys → length xs ≡ length ys
same_length f g xs ys same = sym (Rattle.std.proofs.lemmas.List.length-map xs f) ∙ ap length same ∙ Rattle.std.proofs.lemmas.List.length-map ys g

-- a place in one is a place in the other
pub place_within : {A B C : Type 0} (f : A → C) (g : B → C) (xs : List A) (ys : List B) (i : ℕ) (y : B) → map f xs ≡ map g ys → slice_get ys i ≡ Some y → i < length xs
place_within f g xs ys i y same there =
    let count : length xs ≡ length ys = same_length f g xs ys same in
    let within : i < length ys = slice_get_within ys i y there in
    omega (arith, count, within)

-- the item that is read at the place has the image of the other list's item
pub image_at : {A B C : Type 0} (f : A → C) (g : B → C) (xs : List A) (ys : List B) (i : ℕ) (x : A) (y : B)
    → map f xs ≡ map g ys → x ≡ get_or xs i x → slice_get ys i ≡ Some y → f x ≡ g y
image_at f g xs ys i x y same here there =
    images_at f g xs ys i x y same (slice_get-get_or xs i x (place_within f g xs ys i y same there) ∙ ap Some (sym here)) there

-- ---- a function that changes at one number

pub pairs_head : (R : ℕ → ℕ → Type 0) (x : ℕ) (xs : List ℕ) → AllPairs R (x ∷ xs) → All (R x) xs
pairs_head R x xs h = λ i d k. h 0 (suc i) d (omega arith) (omega (arith, k))

pub pairs_tail : (R : ℕ → ℕ → Type 0) (x : ℕ) (xs : List ℕ) → AllPairs R (x ∷ xs) → AllPairs R xs
pairs_tail R x xs h = λ i j d k l. h (suc i) (suc j) d (omega (arith, k)) (omega (arith, l))

same_others : {A : Type 0} (f g : ℕ → A) (n : ℕ) (ids : List ℕ) → ((m : ℕ) → (n ≡ m → ⊥) → g m ≡ f m) → All (λ m. n ≢ m) ids → map g ids ≡ map f ids
same_others f g n [] others h = refl
same_others {A} f g n (m ∷ ids) others h =
    ap₂ (λ (x : A) xs. x ∷ xs) (others m (All-head (λ m. n ≢ m) m ids h)) (same_others f g n ids others (All-tail (λ m. n ≢ m) m ids h))

stands_in : (P : ℕ → Type 0) (ids : List ℕ) (i n : ℕ) → All P ids → slice_get ids i ≡ Some n → P n
stands_in P [] i n h e = cc
stands_in P (m ∷ ids) zero n h e = let same : m ≡ n = cc in subst P same (All-head P m ids h)
stands_in P (m ∷ ids) (suc i) n h e = stands_in P ids i n (All-tail P m ids h) e

-- the images after the function has changed at the number that stands at the place
pub set_at : {A : Type 0} (f g : ℕ → A) (n : ℕ) (ids : List ℕ) (i : ℕ) → AllPairs (λ x y. x ≢ y) ids → slice_get ids i ≡ Some n
    → ((m : ℕ) → (n ≡ m → ⊥) → g m ≡ f m) → set (map f ids) i (g n) ≡ map g ids
set_at f g n [] i h e others = cc
set_at {A} f g n (m ∷ ids) zero h e others =
    let same : m ≡ n = cc in
    ap₂ (λ (x : A) xs. x ∷ xs) (ap g (sym same)) (sym (same_others f g n ids others (subst (λ x. All (λ y. x ≢ y) ids) same (pairs_head (λ x y. x ≢ y) m ids h))))
set_at {A} f g n (m ∷ ids) (suc i) h e others =
    let differs : m ≢ n = stands_in (λ y. m ≢ y) ids i n (pairs_head (λ x y. x ≢ y) m ids h) e in
    ap₂ (λ (x : A) xs. x ∷ xs) (sym (others m (λ same. differs (sym same)))) (set_at f g n ids i (pairs_tail (λ x y. x ≢ y) m ids h) e others)

-- the same of items of which these are the images
pub set_image : {A B : Type 0} (v : B → A) (f g : ℕ → A) (n : ℕ) (ids : List ℕ) (xs : List B) (i : ℕ) (x : B) → AllPairs (λ x y. x ≢ y) ids → slice_get ids i ≡ Some n
    → ((m : ℕ) → (n ≡ m → ⊥) → g m ≡ f m) → map v xs ≡ map f ids → v x ≡ g n → map v (set xs i x) ≡ map g ids
set_image {A} v f g n ids xs i x h e others same new =
    map-set v xs i x ∙ ap₂ (λ (zs : List A) z. set zs i z) same new ∙ set_at f g n ids i h e others

-- an item is replaced once more
pub set_twice : {A : Type 0} (xs : List A) (i : ℕ) (a b : A) → set (set xs i a) i b ≡ set xs i b
set_twice [] i a b = refl
set_twice (x ∷ xs) zero a b = refl
set_twice {A} (x ∷ xs) (suc i) a b = ap (λ (ys : List A). x ∷ ys) (set_twice xs i a b)

-- the item that was put at a place stands there
pub at_set : {A : Type 0} (xs : List A) (i : ℕ) (a x : A) → i < length xs → x ≡ get_or (set xs i a) i x → x ≡ a
at_set [] i a x within is = absurd (omega (arith, within))
at_set (y ∷ ys) zero a x within is = is
at_set (y ∷ ys) (suc i) a x within is = at_set ys i a x (omega (arith, within)) is

-- What is open under numbers that rise, where the item of one is changed.
use Rattle.std.proofs.Common.{◌≡◌, ◌==◌, ◌<◌, ℕ, suc, Bool, true, false, cond, [], ◌∷◌, AllPairs, length, get_or, Some, None, refl, sym, ap, ap₂, ◌∙◌, arith}
use Rattle.std.proofs.lemmas.Bool.Decides.{nat_tests}
use Rattle.request_rules.specs.declared.scanning.Scanning.{Scanning}
use Rattle.request_rules.specs.ByNumber.{ByNumber, changed_under, changing_item, item_under}
use Rattle.request_rules.specs.Requests.{Scans}
use Rattle.request_rules.specs.Scans.{changing_scan}

other_number : (a b : ℕ) → a < b → (b == a) ≡ false
other_number a b l = grind (arith, nat_tests)

-- a number below all has no item
above : {X : Type 0} (n : ℕ) (xs : ByNumber X) → ((i : ℕ) (d : ℕ × X) → i < length xs → n < (get_or xs i d).0) → item_under xs n ≡ None
above n [] h = refl
above n (x ∷ xs) h =
    ap (λ c. cond c (Some x.1) (item_under xs n)) (other_number n x.0 (h 0 x (omega arith)))
    ∙ above n xs (λ i d l. h (suc i) d (omega (arith, l)))

-- where none has the number, no change changes anything
pub missing : {X : Type 0} (xs : ByNumber X) (n : ℕ) (f : X → X) → item_under xs n ≡ None → changing_item xs n f ≡ xs
missing [] n f h = refl
missing (x ∷ xs) n f h = go (x.0 == n) h (missing xs n f)
  where
    go : (c : Bool) → cond c (Some x.1) (item_under xs n) ≡ None → (item_under xs n ≡ None → changing_item xs n f ≡ xs) → changed_under f x c ∷ changing_item xs n f ≡ x ∷ xs
    go true i rest = absurd (let wrong : Some x.1 ≡ None = i in cc)
    go false i rest = ap (λ ys. x ∷ ys) (rest i)

-- the item of a number, once it is changed, is what it was changed to
pub once : {X : Type 0} (xs : ByNumber X) (n : ℕ) (x : X) (f : X → X) → AllPairs (λ (a b : ℕ × X). a.0 < b.0) xs → item_under xs n ≡ Some x → changing_item xs n (λ v. f x) ≡ changing_item xs n f
once [] n x f rising e = refl
once (y ∷ ys) n x f rising e =
    go (y.0 == n) refl e (once ys n x f (λ i j d l k. rising (suc i) (suc j) d (omega (arith, l)) (omega (arith, k))))
  where
    none_behind : (y.0 == n) ≡ true → item_under ys n ≡ None
    none_behind t = above n ys (λ i d l. let same : y.0 ≡ n = grind (arith, nat_tests, t) in omega (arith, same, rising 0 (suc i) d (omega arith) (omega (arith, l))))

    go : (c : Bool) → (y.0 == n) ≡ c → cond c (Some y.1) (item_under ys n) ≡ Some x → (item_under ys n ≡ Some x → changing_item ys n (λ v. f x) ≡ changing_item ys n f) → changed_under (λ v. f x) y c ∷ changing_item ys n (λ v. f x) ≡ changed_under f y c ∷ changing_item ys n f
    go true t i rest =
        let same : y.1 ≡ x = cc in
        let behind = none_behind t in
        ap₂ (λ v zs. (y.0, f v) ∷ zs) (sym same) (missing ys n (λ v. f x) behind ∙ sym (missing ys n f behind))
    go false t i rest = ap (λ zs. y ∷ zs) (rest i)

-- one change after another
pub twice : {X : Type 0} (xs : ByNumber X) (n : ℕ) (f g : X → X) → changing_item (changing_item xs n f) n g ≡ changing_item xs n (λ v. g (f v))
twice [] n f g = refl
twice (x ∷ xs) n f g = ap₂ (λ y ys. y ∷ ys) (go (x.0 == n) refl) (twice xs n f g)
  where
    go : (c : Bool) → (x.0 == n) ≡ c → changed_under g (changed_under f x c) ((changed_under f x c).0 == n) ≡ changed_under (λ v. g (f v)) x c
    go true t = ap (λ c. changed_under g (x.0, f x.1) c) t
    go false t = ap (λ c. changed_under g x c) t

unchanged : {X : Type 0} (xs : ByNumber X) (n : ℕ) → changing_item xs n (λ v. v) ≡ xs
unchanged [] n = refl
unchanged (x ∷ xs) n = ap₂ (λ y ys. y ∷ ys) (go (x.0 == n)) (unchanged xs n)
  where
    go : (c : Bool) → changed_under (λ v. v) x c ≡ x
    go true = refl
    go false = refl

-- ---- the same of scans

abbrev pub scans_of : ℕ → ByNumber Scanning → Scans
scans_of given running = record { given = given; running = running }

pub missing_scan : (ss : Scans) (n : ℕ) (f : Scanning → Scanning) → item_under ss.running n ≡ None → changing_scan ss n f ≡ ss
missing_scan ss n f e = ap (λ (xs : ByNumber Scanning). record ss { running = xs }) (missing ss.running n f e)

-- where one scan gives its place to what a change makes of it, that is the change
pub changed : (ss : Scans) (n : ℕ) (x y : Scanning) (f : Scanning → Scanning) → AllPairs (λ (a b : ℕ × Scanning). a.0 < b.0) ss.running → item_under ss.running n ≡ Some x → y ≡ f x → record ss { running = changing_item ss.running n (λ v. y) } ≡ changing_scan ss n f
changed ss n x y f rising e is =
    ap (λ (z : Scanning). record ss { running = changing_item ss.running n (λ v. z) }) is
    ∙ ap (λ (xs : ByNumber Scanning). record ss { running = xs }) (once ss.running n x f rising e)

pub changed_back : (ss : Scans) (n : ℕ) (x y : Scanning) → AllPairs (λ (a b : ℕ × Scanning). a.0 < b.0) ss.running → item_under ss.running n ≡ Some x → y ≡ x → record ss { running = changing_item ss.running n (λ v. y) } ≡ ss
changed_back ss n x y rising e is =
    changed ss n x y (λ v. v) rising e is
    ∙ ap (λ (xs : ByNumber Scanning). record ss { running = xs }) (unchanged ss.running n)

-- The numbers of writes: those from 1 to one, and others above a gap.
use Rattle.std.proofs.Common.{◌≡◌, ◌==◌, ◌<◌, ◌≤◌, ◌+◌, ℕ, zero, suc, nat_eq, nat_lt, Bool, true, false, cond, List, [], ◌∷◌, ◌++◌, All, AllPairs, length, get_or, drop, insert, refl, sym, ap, subst, ◌∙◌, Result, Ok, Err, OnOk, OnErr, arith}
use Rattle.std.specs.Cmp.Lexicographic.{pointwise}
use Rattle.std.specs.List.{range_with_len}
use Rattle.std.proofs.Common.{append-nil, append_assoc}
use Rattle.std.proofs.lemmas.Bool.Decides.{nat_tests}
use Rattle.std.proofs.lemmas.List.{get_or_at, length-append}
use Rattle.std.proofs.lemmas.List.Elements.{All-nil, All-cons, All-head, All-weaker}
use Rattle.std.proofs.lemmas.List.FromFn.{length-range_with_len, get_or-range_with_len}
use Rattle.std.proofs.lemmas.List.Kept.{AllPairs-cons}
use Rattle.std.proofs.lemmas.Slice.Eq.{bytes_eq-Decides}
use Rattle.node_rules.specs.Stamps.{count_of, have_no_gap, no_class, with_number}
use Rattle.write_path.specs.Numbered.{IsAboveGap, stands_first, numbers_of}

-- ---- one number more, by its place

equal : (n m : ℕ) → n ≡ m → (n == m) ≡ true
equal n m e = grind (arith, nat_tests)

unequal : (n m : ℕ) → m < n → (n == m) ≡ false
unequal n m l = grind (arith, nat_tests)

unequal_below : (n m : ℕ) → n < m → (n == m) ≡ false
unequal_below n m l = grind (arith, nat_tests)

less : (n m : ℕ) → n < m → nat_lt n m ≡ true
less n m l = grind (arith, nat_tests)

not_less : (n m : ℕ) → m < n → nat_lt n m ≡ false
not_less n m l = grind (arith, nat_tests)

-- it is the first
with_first : (m n : ℕ) (ms : List ℕ) → n ≡ m → with_number (m ∷ ms) n ≡ m ∷ ms
with_first m n ms e =
    ap (λ b. cond b (m ∷ ms) (cond (nat_lt n m) (n ∷ m ∷ ms) (m ∷ with_number ms n))) (equal n m e)

-- it is below the first
with_front : (m n : ℕ) (ms : List ℕ) → n < m → with_number (m ∷ ms) n ≡ n ∷ m ∷ ms
with_front m n ms l =
    ap (λ b. cond b (m ∷ ms) (cond (nat_lt n m) (n ∷ m ∷ ms) (m ∷ with_number ms n))) (unequal_below n m l)
    ∙ ap (λ b. cond b (n ∷ m ∷ ms) (m ∷ with_number ms n)) (less n m l)

-- it is above the first
with_past : (m n : ℕ) (ms ns : List ℕ) → m < n → with_number ms n ≡ ns → with_number (m ∷ ms) n ≡ m ∷ ns
with_past m n ms ns l rest =
    ap (λ b. cond b (m ∷ ms) (cond (nat_lt n m) (n ∷ m ∷ ms) (m ∷ with_number ms n))) (unequal n m l)
    ∙ ap (λ b. cond b (n ∷ m ∷ ms) (m ∷ with_number ms n)) (not_less n m l)
    ∙ ap (λ (xs : List ℕ). m ∷ xs) rest

-- ---- a range, and others after it

same_start : (a k : ℕ) → (a == k) ≡ true → k ≡ a
same_start a k e = grind (arith, nat_tests)

later_start : (a k : ℕ) → (a == k) ≡ false → a ≤ k → a < k
later_start a k e l = grind (arith, nat_tests)

within_step : (a k : ℕ) (ms : List ℕ) (b : Bool) → (a == k) ≡ b → a ≤ k → (a < k → with_number ms k ≡ ms) → with_number (a ∷ ms) k ≡ a ∷ ms
within_step a k ms true e l rest = with_first a k ms (same_start a k e)
within_step a k ms false e l rest = with_past a k ms ms (later_start a k e l) (rest (later_start a k e l))

-- a number of the range changes nothing
with_within : (a n k : ℕ) (ms : List ℕ) → a ≤ k → k < a + n → with_number (range_with_len a n ++ ms) k ≡ range_with_len a n ++ ms
with_within a zero k ms low high = absurd (omega (arith, low, high))
with_within a (suc n) k ms low high =
    within_step a k (range_with_len (a + 1) n ++ ms) (a == k) refl low (λ l. with_within (a + 1) n k ms (omega (arith, l)) (omega (arith, high)))

-- a number past the range is one of the others
with_after : (a n k : ℕ) (ms : List ℕ) → a + n ≤ k → with_number (range_with_len a n ++ ms) k ≡ range_with_len a n ++ with_number ms k
with_after a zero k ms past = refl
with_after a (suc n) k ms past =
    with_past a k (range_with_len (a + 1) n ++ ms) (range_with_len (a + 1) n ++ with_number ms k) (omega (arith, past)) (with_after (a + 1) n k ms (omega (arith, past)))

plus_none : (a : ℕ) → a ≡ a + 0
plus_none a = omega arith

plus_later : (a n : ℕ) → a + 1 + n ≡ a + suc n
plus_later a n = omega arith

plus_one : (n : ℕ) → n + 1 ≡ suc n
plus_one n = omega arith

one_plus : (n : ℕ) → 1 + n ≡ n + 1
one_plus n = omega arith

-- a range that is one longer
range_more : (a n : ℕ) → range_with_len a (suc n) ≡ range_with_len a n ++ (a + n) ∷ []
range_more a zero = ap (λ (k : ℕ). k ∷ []) (plus_none a)
range_more a (suc n) =
    ap (λ (xs : List ℕ). a ∷ xs) (range_more (a + 1) n ∙ ap (λ (k : ℕ). range_with_len (a + 1) n ++ k ∷ []) (plus_later a n))

-- the number after the range may stand in either part
pub numbers_next : (n : ℕ) (ms : List ℕ) → numbers_of (n + 1) ms ≡ numbers_of n ((n + 1) ∷ ms)
numbers_next n ms =
    ap (λ (k : ℕ). numbers_of k ms) (plus_one n)
    ∙ ap (λ (xs : List ℕ). xs ++ ms) (range_more 1 n)
    ∙ append_assoc (range_with_len 1 n) ((1 + n) ∷ []) ms
    ∙ ap (λ (k : ℕ). range_with_len 1 n ++ k ∷ ms) (one_plus n)

with_next : (n : ℕ) (ms : List ℕ) → All (λ (m : ℕ). n + 1 < m) ms → with_number ms (n + 1) ≡ (n + 1) ∷ ms
with_next n [] above = refl
with_next n (m ∷ ms) above = with_front m (n + 1) ms (above 0 m (omega arith))

-- ---- the three ways in which a number is taken

pub taken_within : (upto k : ℕ) (ms : List ℕ) → 0 < k → k ≤ upto → numbers_of upto ms ≡ with_number (numbers_of upto ms) k
taken_within upto k ms low high = sym (with_within 1 upto k ms (omega (arith, low)) (omega (arith, high)))

pub taken_next : (upto k : ℕ) (ms : List ℕ) → k ≡ upto + 1 → IsAboveGap upto ms → numbers_of k ms ≡ with_number (numbers_of upto ms) k
taken_next upto k ms e h =
    ap (λ (n : ℕ). numbers_of n ms) e
    ∙ numbers_next upto ms
    ∙ ap (λ (xs : List ℕ). range_with_len 1 upto ++ xs) (sym (with_next upto ms h.gap))
    ∙ sym (with_after 1 upto (upto + 1) ms (omega arith))
    ∙ ap (with_number (numbers_of upto ms)) (sym e)

pub taken_above : (upto k : ℕ) (ms ns : List ℕ) → upto < k → ns ≡ with_number ms k → numbers_of upto ns ≡ with_number (numbers_of upto ms) k
taken_above upto k ms ns l e =
    ap (λ (xs : List ℕ). range_with_len 1 upto ++ xs) e ∙ sym (with_after 1 upto k ms (omega (arith, l)))

-- ---- what stays of the order

all_step : (P : ℕ → Type 0) (m n : ℕ) (ms : List ℕ) (b c : Bool) → P n → All P (m ∷ ms) → All P (with_number ms n) → All P (cond b (m ∷ ms) (cond c (n ∷ m ∷ ms) (m ∷ with_number ms n)))
all_step P m n ms true c its all rest = all
all_step P m n ms false true its all rest = All-cons P n (m ∷ ms) its all
all_step P m n ms false false its all rest = All-cons P m (with_number ms n) (All-head P m ms all) rest

pub with_number_all : (P : ℕ → Type 0) (ms : List ℕ) (n : ℕ) → P n → All P ms → All P (with_number ms n)
with_number_all P [] n its all = All-cons P n [] its (All-nil P)
with_number_all P (m ∷ ms) n its all =
    all_step P m n ms (n == m) (nat_lt n m) its all (with_number_all P ms n its (λ k d within. all (suc k) d (omega (arith, within))))

abbrev pub Rise : List ℕ → Type 0
Rise ms = AllPairs (λ (a b : ℕ). a < b) ms

rise_tail : (m : ℕ) (ms : List ℕ) → Rise (m ∷ ms) → Rise ms
rise_tail m ms h = λ i j d lower within. h (suc i) (suc j) d (omega (arith, lower)) (omega (arith, within))

above_head : (m : ℕ) (ms : List ℕ) → Rise (m ∷ ms) → All (λ (n : ℕ). m < n) ms
above_head m ms h = λ k d within. h 0 (suc k) d (omega arith) (omega (arith, within))

lower_first : (m n : ℕ) → nat_lt n m ≡ true → n < m
lower_first m n e = grind (arith, nat_tests)

higher_first : (m n : ℕ) → (n == m) ≡ false → nat_lt n m ≡ false → m < n
higher_first m n e f = grind (arith, nat_tests)

rise_step : (m n : ℕ) (ms : List ℕ) (b c : Bool) → (n == m) ≡ b → nat_lt n m ≡ c → Rise (m ∷ ms) → Rise (with_number ms n) → Rise (cond b (m ∷ ms) (cond c (n ∷ m ∷ ms) (m ∷ with_number ms n)))
rise_step m n ms true c e f h rest = h
rise_step m n ms false true e f h rest =
    AllPairs-cons (λ (a b : ℕ). a < b) n (m ∷ ms) (All-cons (λ (k : ℕ). n < k) m ms (lower_first m n f) (All-weaker (λ (k : ℕ). m < k) (λ (k : ℕ). n < k) (λ k l. omega (arith, l, lower_first m n f)) ms (above_head m ms h))) h
rise_step m n ms false false e f h rest =
    AllPairs-cons (λ (a b : ℕ). a < b) m (with_number ms n) (with_number_all (λ (k : ℕ). m < k) ms n (higher_first m n e f) (above_head m ms h)) rest

with_number_rises : (ms : List ℕ) (n : ℕ) → Rise ms → Rise (with_number ms n)
with_number_rises [] n h = AllPairs-cons (λ (a b : ℕ). a < b) n [] (All-nil (λ (k : ℕ). n < k)) h
with_number_rises (m ∷ ms) n h = rise_step m n ms (n == m) (nat_lt n m) refl refl h (with_number_rises ms n (rise_tail m ms h))

pub gap_kept : (upto k : ℕ) (ms ns : List ℕ) → upto < k → (k ≡ upto + 1 → ⊥) → ns ≡ with_number ms k → IsAboveGap upto ms → IsAboveGap upto ns
gap_kept upto k ms ns l other e h =
    subst (λ (xs : List ℕ). IsAboveGap upto xs) (sym e) (record {
      rising = with_number_rises ms k h.rising;
      gap = with_number_all (λ (n : ℕ). upto + 1 < n) ms k (omega (arith, l, other)) h.gap;
    })

-- ---- whether there was memory for it or not

pub gap_after : {T E : Type 0} (r : Result T E) (upto k : ℕ) (ms ns : List ℕ) → OnOk r (ns ≡ with_number ms k) → OnErr r (ns ≡ ms) → upto < k → (k ≡ upto + 1 → ⊥) → IsAboveGap upto ms → IsAboveGap upto ns
gap_after (Ok x) upto k ms ns more same l other h = gap_kept upto k ms ns l other more h
gap_after (Err e) upto k ms ns more same l other h = subst (λ (xs : List ℕ). IsAboveGap upto xs) (sym same) h

pub taken_after : {T E : Type 0} (r : Result T E) (upto k : ℕ) (ms ns : List ℕ) → OnOk r (ns ≡ with_number ms k) → upto < k → OnOk r (numbers_of upto ns ≡ with_number (numbers_of upto ms) k)
taken_after (Ok x) upto k ms ns more l = taken_above upto k ms ns l more
taken_after (Err e) upto k ms ns more l = tt

-- ---- what a search finds

pub placed : (ms : List ℕ) (i n : ℕ) → i ≤ length ms → ((k : ℕ) → k < i → get_or ms k 0 < n) → ((k : ℕ) → i ≤ k → k < length ms → n < get_or ms k 0) → insert ms i n ≡ with_number ms n
placed [] zero n le below above = refl
placed [] (suc i) n le below above = absurd (omega (arith, le))
placed (m ∷ ms) zero n le below above = sym (with_front m n ms (above 0 (omega arith) (omega arith)))
placed (m ∷ ms) (suc i) n le below above =
    sym (with_past m n ms (insert ms i n) (below 0 (omega arith)) (sym (placed ms i n (omega (arith, le)) (λ k l. below (suc k) (omega (arith, l))) (λ k g l. above (suc k) (omega (arith, g)) (omega (arith, l))))))

pub found : (ms : List ℕ) (i n : ℕ) → i < length ms → get_or ms i 0 ≡ n → Rise ms → ms ≡ with_number ms n
found [] i n within e h = absurd (omega (arith, within))
found (m ∷ ms) zero n within e h = sym (with_first m n ms (sym e))
found (m ∷ ms) (suc i) n within e h =
    let lower : m < get_or ms i 0 = above_head m ms h i 0 (omega (arith, within)) in
    sym (with_past m n ms ms (omega (arith, lower, e)) (sym (found ms i n (omega (arith, within)) e (rise_tail m ms h))))

pub rises_weakly : (ms : List ℕ) → Rise ms → (i j : ℕ) → i ≤ j → j < length ms → get_or ms i 0 ≤ get_or ms j 0
rises_weakly ms h i j le within = weak_step (i == j) refl
  where
    same : (i == j) ≡ true → i ≡ j
    same e = grind (arith, nat_tests)

    lower : (i == j) ≡ false → i < j
    lower e = grind (arith, nat_tests)

    weak_step : (b : Bool) → (i == j) ≡ b → get_or ms i 0 ≤ get_or ms j 0
    weak_step true e = omega (arith, ap (λ (k : ℕ). get_or ms k 0) (same e))
    weak_step false e = omega (arith, h i j 0 (lower e) within)

-- ---- the gap that closes

pub first_equal : (m n : ℕ) → (m == n) ≡ true → m ≡ n
first_equal m n e = grind (arith, nat_tests)

first_other : (m n : ℕ) → (m == n) ≡ false → n ≤ m → n < m
first_other m n e l = grind (arith, nat_tests)

pub first_taken : (ms : List ℕ) (n : ℕ) → stands_first ms n ≡ true → ms ≡ n ∷ drop 1 ms
first_taken [] n e = cc e
first_taken (m ∷ ms) n e = ap (λ (k : ℕ). k ∷ ms) (first_equal m n e)

-- the first number goes over to the range
pub closing_step : (upto : ℕ) (ms ns : List ℕ) → stands_first ms (upto + 1) ≡ true → ns ≡ drop 1 ms → numbers_of (upto + 1) ns ≡ numbers_of upto ms
closing_step upto ms ns e rest =
    ap (numbers_of (upto + 1)) rest
    ∙ numbers_next upto (drop 1 ms)
    ∙ ap (numbers_of upto) (sym (first_taken ms (upto + 1) e))

pub rise_rest : (ms ns : List ℕ) → ns ≡ drop 1 ms → Rise ms → Rise ns
rise_rest [] ns e h = subst Rise (sym e) h
rise_rest (m ∷ ms) ns e h = subst Rise (sym e) (rise_tail m ms h)

pub past_rest : (upto : ℕ) (ms ns : List ℕ) → stands_first ms (upto + 1) ≡ true → ns ≡ drop 1 ms → Rise ms → All (λ (n : ℕ). upto + 1 < n) ns
past_rest upto [] ns first e h = cc first
past_rest upto (m ∷ ms) ns first e h =
    subst (All (λ (n : ℕ). upto + 1 < n)) (sym e) (All-weaker (λ (n : ℕ). m < n) (λ (n : ℕ). upto + 1 < n) (λ n l. omega (arith, l, first_equal m (upto + 1) first)) ms (above_head m ms h))

-- where the first isn't the next one, there is a gap
pub gap_stands : (upto : ℕ) (ms : List ℕ) → stands_first ms (upto + 1) ≡ false → Rise ms → All (λ (n : ℕ). upto < n) ms → IsAboveGap upto ms
gap_stands upto [] first h past = record { rising = h; gap = All-nil (λ (n : ℕ). upto + 1 < n) }
gap_stands upto (m ∷ ms) first h past =
    let high : upto + 1 < m = first_other m (upto + 1) first (omega (arith, past 0 m (omega arith))) in
    record {
      rising = h;
      gap = All-cons (λ (n : ℕ). upto + 1 < n) m ms high (All-weaker (λ (n : ℕ). m < n) (λ (n : ℕ). upto + 1 < n) (λ n l. omega (arith, l, high)) ms (above_head m ms h));
    }

-- ---- how many writes they are

range_counts : (n : ℕ) → count_of (range_with_len 1 n) ≡ n
range_counts n =
    ap (λ (k : ℕ). cond (pointwise nat_eq (range_with_len 1 n) (range_with_len 1 k)) k no_class) (length-range_with_len 1 n)
    ∙ ap (λ b. cond b n no_class) ((bytes_eq-Decides (range_with_len 1 n) (range_with_len 1 n)).1 refl)

pub counts_all : (upto : ℕ) (ms : List ℕ) → length ms ≡ 0 → count_of (numbers_of upto ms) ≡ upto
counts_all upto [] e = ap count_of (append-nil (range_with_len 1 upto)) ∙ range_counts upto
counts_all upto (m ∷ ms) e = absurd (omega (arith, e))

gap_shows : (upto m : ℕ) (ms : List ℕ) → upto + 1 < m → have_no_gap (numbers_of upto (m ∷ ms)) ≡ true → ⊥
gap_shows upto m ms high e =
    let ns = numbers_of upto (m ∷ ms) in
    let same : ns ≡ range_with_len 1 (length ns) = (bytes_eq-Decides ns (range_with_len 1 (length ns))).0 e in
    let here : get_or ns upto 0 ≡ m = get_or_at (range_with_len 1 upto) m ms 0 upto (length-range_with_len 1 upto) in
    let longer : upto < length ns = omega (arith, length-append (range_with_len 1 upto) (m ∷ ms), length-range_with_len 1 upto) in
    let there : get_or (range_with_len 1 (length ns)) upto 0 ≡ 1 + upto = get_or-range_with_len 1 (length ns) upto 0 longer in
    absurd (omega (arith, high, sym here ∙ ap (λ (xs : List ℕ). get_or xs upto 0) same ∙ there))

counts_not : (ns : List ℕ) (b : Bool) → (have_no_gap ns ≡ true → ⊥) → have_no_gap ns ≡ b → cond b (length ns) no_class ≡ no_class
counts_not ns true gap e = absurd (gap e)
counts_not ns false gap e = refl

pub counts_none : (upto : ℕ) (ms : List ℕ) → (length ms ≡ 0 → ⊥) → IsAboveGap upto ms → count_of (numbers_of upto ms) ≡ no_class
counts_none upto [] some h = absurd (some refl)
counts_none upto (m ∷ ms) some h =
    counts_not (numbers_of upto (m ∷ ms)) (have_no_gap (numbers_of upto (m ∷ ms))) (gap_shows upto m ms (h.gap 0 m (omega arith))) refl

pub some_left : (n m : ℕ) → (n == 0) ≡ false → m ≡ n → m ≡ 0 → ⊥
some_left n m e is none = grind (arith, nat_tests)

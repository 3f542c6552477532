-- How many partitions aren't known settled, as one becomes it.
use Rattle.std.proofs.Common.{◌≡◌, ◌≢◌, ◌==◌, ◌<◌, ◌≤◌, ◌+◌, ◌-◌, ℕ, zero, suc, Bool, true, false, not, cond, count_by, refl, sym, ap, ap₂, ◌∙◌, arith}
use Rattle.std.specs.List.{range_with_len}
use Rattle.std.proofs.lemmas.List.Sums.{sum_by-cons}
use Rattle.cluster_types.specs.Partitions.{partition_count}
use Rattle.partition_lists.proofs.InOrderLaws.{equal, from_equal}
use Rattle.node_rules.specs.Facts.{Facts}
use Rattle.node_rules.specs.Standing.{knows_settled}
use Rattle.node_view.specs.Views.{unsettled_count}

counted : (test : ℕ → Bool) (a n : ℕ) → count_by test (range_with_len a (suc n)) ≡ cond (test a) 1 0 + count_by test (range_with_len (a + 1) n)
counted test a n = sum_by-cons (λ q. cond (test q) 1 0) a (range_with_len (a + 1) n)

-- tests that answer alike within count the same
pub alike_counted : (s t : ℕ → Bool) (a n : ℕ) → ((q : ℕ) → a ≤ q → q < a + n → t q ≡ s q) → count_by t (range_with_len a n) ≡ count_by s (range_with_len a n)
alike_counted s t a zero same = refl
alike_counted s t a (suc n) same =
    counted t a n
    ∙ ap₂ (λ (b : Bool) (k : ℕ). cond b 1 0 + k) (same a (omega arith) (omega arith)) (alike_counted s t (a + 1) n (λ q above below. same q (omega (arith, above)) (omega (arith, below))))
    ∙ sym (counted s a n)

one_more : (k n : ℕ) → k ≡ n → (0 + k) + 1 ≡ 1 + n
one_more k n e = omega (arith, e)

later_more : (c k n : ℕ) → k + 1 ≡ n → (c + k) + 1 ≡ c + n
later_more c k n e = omega (arith, e)

-- one passes no longer
pub one_fewer : (s t : ℕ → Bool) (p a n : ℕ) → s p ≡ true → t p ≡ false → ((q : ℕ) → q ≢ p → t q ≡ s q) → a ≤ p → p < a + n
    → count_by t (range_with_len a n) + 1 ≡ count_by s (range_with_len a n)
one_fewer s t p a zero before after same above below = absurd (omega (arith, above, below))
one_fewer s t p a (suc n) before after same above below = go (a == p) refl (one_fewer s t p (a + 1) n before after same)
  where
    go : (b : Bool) → (a == p) ≡ b → (a + 1 ≤ p → p < (a + 1) + n → count_by t (range_with_len (a + 1) n) + 1 ≡ count_by s (range_with_len (a + 1) n))
        → count_by t (range_with_len a (suc n)) + 1 ≡ count_by s (range_with_len a (suc n))
    go true e rest =
        let here : a ≡ p = from_equal a p e in
        ap (λ (k : ℕ). k + 1) (counted t a n ∙ ap (λ (b : Bool). cond b 1 0 + count_by t (range_with_len (a + 1) n)) (ap t here ∙ after))
        ∙ one_more (count_by t (range_with_len (a + 1) n)) (count_by s (range_with_len (a + 1) n))
        (alike_counted s t (a + 1) n (λ q over under. same q (λ (i : q ≡ p). omega (arith, over, i, here))))
        ∙ sym (counted s a n ∙ ap (λ (b : Bool). cond b 1 0 + count_by s (range_with_len (a + 1) n)) (ap s here ∙ before))
    go false e rest =
        let other : a ≢ p = λ (i : a ≡ p). let wrong : true ≡ false = sym (equal a p i) ∙ e in cc in
        ap (λ (k : ℕ). k + 1) (counted t a n ∙ ap (λ (b : Bool). cond b 1 0 + count_by t (range_with_len (a + 1) n)) (same a other))
        ∙ later_more (cond (s a) 1 0) (count_by t (range_with_len (a + 1) n)) (count_by s (range_with_len (a + 1) n)) (rest (omega (arith, above, other)) (omega (arith, below)))
        ∙ sym (counted s a n)

fewer : (k n : ℕ) → k + 1 ≡ n → k ≡ n - 1
fewer k n e = omega (arith, e)

some : (k n : ℕ) → k + 1 ≡ n → 0 < n
some k n e = omega (arith, e)

-- a partition that wasn't known settled and is now
pub one_settled : (f g : Facts) (p : ℕ) → p < partition_count → knows_settled f p ≡ false → knows_settled g p ≡ true → ((q : ℕ) → q ≢ p → knows_settled g q ≡ knows_settled f q)
    → unsettled_count g ≡ unsettled_count f - 1
one_settled f g p within before after same =
    fewer (unsettled_count g) (unsettled_count f)
    (one_fewer (λ q. not (knows_settled f q)) (λ q. not (knows_settled g q)) p 0 partition_count (ap not before) (ap not after) (λ q other. ap not (same q other)) (omega arith) (omega (arith, within)))

-- where one passes some are counted
pub counts_one : (s : ℕ → Bool) (p : ℕ) → s p ≡ true → p < partition_count → 0 < count_by s (range_with_len 0 partition_count)
counts_one s p passes within = some (count_by without (range_with_len 0 partition_count)) (count_by s (range_with_len 0 partition_count))
    (one_fewer s without p 0 partition_count passes (off p (p == p) refl) other (omega arith) (omega (arith, within)))
  where
    without : ℕ → Bool
    without q = cond (q == p) false (s q)

    off : (q : ℕ) (b : Bool) → (q == p) ≡ b → without p ≡ false
    off q b e = rw (equal p p refl) refl

    other : (q : ℕ) → q ≢ p → without q ≡ s q
    other q apart = go (q == p) refl
      where
        go : (b : Bool) → (q == p) ≡ b → without q ≡ s q
        go true e = absurd (apart (from_equal q p e))
        go false e = rw e refl

-- one that isn't known settled is counted
pub is_counted : (f : Facts) (p : ℕ) → p < partition_count → knows_settled f p ≡ false → 0 < unsettled_count f
is_counted f p within before = counts_one (λ q. not (knows_settled f q)) p (ap not before) within

pub alike_within : (f g : Facts) → ((p : ℕ) → p < partition_count → knows_settled g p ≡ knows_settled f p) → unsettled_count g ≡ unsettled_count f
alike_within f g same = alike_counted (λ q. not (knows_settled f q)) (λ q. not (knows_settled g q)) 0 partition_count (λ q above below. ap not (same q (omega (arith, below))))

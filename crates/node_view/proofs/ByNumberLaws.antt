-- Partitions that are looked at, or counted, one by one.
use Rattle.std.proofs.Common.{◌≡◌, ◌≢◌, ◌==◌, ◌<◌, ◌≤◌, ◌+◌, nat_lt, ℕ, zero, suc, Bool, true, false, not, cond, List, [], ◌∷◌, ◌++◌, count_by, refl, sym, ap, subst, ◌∙◌, arith}
use Rattle.std.specs.List.{range_with_len}
use Rattle.std.proofs.lemmas.Bool.Decides.{nat_tests}
use Rattle.std.proofs.lemmas.List.Sums.{sum_by_push}
use Rattle.cluster_types.specs.Partitions.{partition_count}
use Rattle.cluster_types.specs.Rows.{bit}
use Rattle.partition_lists.proofs.InOrderLaws.{equal, from_equal}
use Rattle.node_rules.specs.Facts.{Facts}
use Rattle.node_rules.specs.Standing.{knows_settled}
use Rattle.node_view.specs.Views.{AreLive, IsInView, IsQuiet, IsSeenTo, Viewed, facts_seen, unsettled_count, with_live}
use Rattle.node_view.proofs.SightLaws.{sees}
use Rattle.node_view.proofs.WatchLaws.{count_alike}

-- ---- all partitions below a number

-- what holds of each below a number, and of one more
pub below_more : (P : ℕ → Type 0) (n p : ℕ) → p ≡ n → P p → ((q : ℕ) → q < n → P q) → (q : ℕ) → q < n + 1 → P q
below_more P n p is here below q within = at (q == n) refl
  where
    at : (b : Bool) → (q == n) ≡ b → P q
    at true e = subst P (is ∙ sym (from_equal q n e)) here
    at false e =
        let other : q ≢ n = λ (i : q ≡ n). let wrong : true ≡ false = sym (equal q n i) ∙ e in cc in
        below q (omega (arith, within, other))

-- what holds of each below a number, and from there on below another
pub below_until : (P : ℕ → Type 0) (n m : ℕ) → ((q : ℕ) → q < n → P q) → ((q : ℕ) → n ≤ q → q < m → P q) → (q : ℕ) → q < m → P q
below_until P n m below between q within = at (nat_lt q n) refl
  where
    at : (b : Bool) → nat_lt q n ≡ b → P q
    at true e = let low : q < n = grind (arith, nat_tests, e) in below q low
    at false e = let high : n ≤ q = grind (arith, nat_tests, e) in between q high within

-- what holds of each below a number, from there on below the next one, and of that
pub below_next : (P : ℕ → Type 0) (from n p : ℕ) → n ≡ p → P p → ((q : ℕ) → q < from → P q) → ((q : ℕ) → from ≤ q → q < p → P q) → (q : ℕ) → q < n + 1 → P q
below_next P from n p same here below between = below_more P n p (sym same) here (below_until P from n below (λ q over under. between q over (omega (arith, under, same))))

-- one more is seen to
pub seen_below : (f : Facts) (n : ℕ) (old new : List Bool) → IsSeenTo n f old new → ((p : ℕ) → p < n → f.exchange.exchanged ≡ true → bit old p ≡ false → IsQuiet f p)
    → (p : ℕ) → p < n + 1 → f.exchange.exchanged ≡ true → bit new p ≡ false → IsQuiet f p
seen_below f n old new seen below =
    below_more (λ (q : ℕ). f.exchange.exchanged ≡ true → bit new q ≡ false → IsQuiet f q) n n refl seen.quiet
    (λ q within finished off.
    let other : q ≢ n = λ (i : q ≡ n). omega (arith, within, i) in
    below q within finished (sym (seen.others q other) ∙ off))

pub in_view_live : (f : Facts) (v w : Viewed) (live : List Bool) → w ≡ with_live v live → IsInView f v → IsInView f w
in_view_live f v w live is h = subst (λ (u : Viewed). IsInView f u) (sym is) (record { me = h.me; factor = h.factor; view = h.view })

pub live_again : (u v w : Viewed) (live : List Bool) → v ≡ with_live u live → w ≡ with_live v w.watch.live → w ≡ with_live u w.watch.live
live_again u v w live first second = second ∙ ap (λ (x : Viewed). with_live x w.watch.live) first

pub all_live : (f : Facts) (n : ℕ) (live : List Bool) → n ≡ partition_count → ((p : ℕ) → p < n → f.exchange.exchanged ≡ true → bit live p ≡ false → IsQuiet f p) → AreLive f live
all_live f n live whole below = record { quiet = λ p within finished off. below p (omega (arith, within, whole)) finished off }

-- ---- counting

range_more : (a n : ℕ) → range_with_len a (suc n) ≡ range_with_len a n ++ (a + n) ∷ []
range_more a zero = let e : a ≡ a + 0 = omega arith in ap (λ (k : ℕ). k ∷ []) e
range_more a (suc n) =
    let e : (a + 1) + n ≡ a + suc n = omega arith in
    ap (λ (ks : List ℕ). a ∷ ks) (range_more (a + 1) n ∙ ap (λ (k : ℕ). range_with_len (a + 1) n ++ k ∷ []) e)

counted_more : (test : ℕ → Bool) (n count : ℕ) → count ≡ count_by test (range_with_len 0 n) → count + cond (test n) 1 0 ≡ count_by test (range_with_len 0 (n + 1))
counted_more test n count is =
    ap (λ (k : ℕ). k + cond (test n) 1 0) is
    ∙ (sym (sum_by_push (λ p. cond (test p) 1 0) (range_with_len 0 n) n)
    ∙ (let e : n ≡ 0 + n = omega arith in ap (λ (k : ℕ). count_by test (range_with_len 0 n ++ k ∷ [])) e
    ∙ (let more : suc n ≡ n + 1 = omega arith in ap (count_by test) (sym (range_more 0 n) ∙ ap (range_with_len 0) more))))

-- how many of so many partitions the view doesn't know settled
abbrev unsettled_below : Viewed → ℕ → ℕ
unsettled_below v n = count_by (λ p. not (knows_settled (facts_seen v) p)) (range_with_len 0 n)

-- one more isn't, or is
pub one_unsettled : (v : Viewed) (n p count new : ℕ) (known : Bool) → p ≡ n → known ≡ knows_settled (facts_seen v) p → known ≡ false → count ≡ unsettled_below v n → new ≡ count + 1
    → new ≡ unsettled_below v (n + 1)
one_unsettled v n p count new known at is unknown counted more =
    let settled : knows_settled (facts_seen v) n ≡ false = ap (knows_settled (facts_seen v)) (sym at) ∙ sym is ∙ unknown in
    more ∙ ap (λ (b : Bool). count + cond (not b) 1 0) (sym settled) ∙ counted_more (λ q. not (knows_settled (facts_seen v) q)) n count counted

pub none_unsettled : (v : Viewed) (n p count new : ℕ) (known : Bool) → p ≡ n → known ≡ knows_settled (facts_seen v) p → known ≡ true → count ≡ unsettled_below v n → new ≡ count
    → new ≡ unsettled_below v (n + 1)
none_unsettled v n p count new known at is settled_here counted same =
    let settled : knows_settled (facts_seen v) n ≡ true = ap (knows_settled (facts_seen v)) (sym at) ∙ sym is ∙ settled_here in
    let plain : new ≡ count + 0 = omega (arith, same) in
    plain ∙ ap (λ (b : Bool). count + cond (not b) 1 0) (sym settled) ∙ counted_more (λ q. not (knows_settled (facts_seen v) q)) n count counted

pub all_unsettled : (v : Viewed) (n count : ℕ) → n ≡ partition_count → count ≡ unsettled_below v n → count ≡ unsettled_count (facts_seen v)
all_unsettled v n count whole counted = counted ∙ ap (unsettled_below v) whole

-- the partitions that aren't known settled go by the view
pub unsettled_seen : (f : Facts) (v : Viewed) → IsInView f v → unsettled_count (facts_seen v) ≡ unsettled_count f
unsettled_seen f v h = let s = sees f v h in count_alike f (facts_seen v) (λ p. rw (s.bits, s.exchange) refl)

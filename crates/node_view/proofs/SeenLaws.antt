-- Partitions whose settled bits are new: they are counted and looked at, one by one.
use Rattle.std.proofs.Common.{◌≡◌, ◌≢◌, ◌==◌, ◌&&◌, ◌||◌, ◌<◌, ◌≤◌, ◌+◌, ◌-◌, ℕ, zero, suc, Bool, true, false, not, cond, nat_lt, List, count_by, refl, sym, ap, subst, ◌∙◌, arith}
use Rattle.std.specs.List.{range_with_len}
use Rattle.std.specs.Prelude.{if◌then◌else◌}
use Rattle.std.proofs.lemmas.Bool.Decides.{nat_tests}
use Rattle.cluster_types.specs.Partitions.{partition_count}
use Rattle.cluster_types.specs.Rows.{bit}
use Rattle.partition_lists.proofs.InOrderLaws.{equal, from_equal}
use Rattle.node_rules.specs.Bits.{Bits}
use Rattle.node_rules.specs.Copies.{Content}
use Rattle.node_rules.specs.Facts.{Facts}
use Rattle.node_view.specs.Views.{AreLive, IsInView, IsQuiet, IsSeenTo, Viewed, facts_seen, is_known_empty, unsettled_count, with_live, with_settled_row, with_unsettled, with_watch, without_unsettled}
use Rattle.node_view.proofs.ByNumberLaws.{below_more, seen_below}
use Rattle.node_view.proofs.SightLaws.{sees}
use Rattle.node_view.proofs.UnsettledLaws.{alike_counted, counts_one, one_fewer}
use Rattle.node_view.proofs.WatchLaws.{quiet_alike}

-- ---- counting

low : (q n : ℕ) → q < n → nat_lt q n ≡ true
low q n h = grind (arith, nat_tests)

high : (q n : ℕ) → n ≤ q → nat_lt q n ≡ false
high q n h = grind (arith, nat_tests)

same_side : (q n : ℕ) → q ≢ n → nat_lt q (n + 1) ≡ nat_lt q n
same_side q n apart = go (nat_lt q n) refl
  where
    go : (b : Bool) → nat_lt q n ≡ b → nat_lt q (n + 1) ≡ b
    go true e = let under : q < n = grind (arith, nat_tests, e) in low q (n + 1) (omega (arith, under))
    go false e = let over : n < q = grind (arith, nat_tests, e, apart) in high q (n + 1) (omega (arith, over))

-- whether the partition isn't known settled once the bits came of those below a number
abbrev pub is_unknown : List Bool → List Bool → (ℕ → Bool) → ℕ → ℕ → Bool
is_unknown before row empty n q = not (cond (nat_lt q n) (bit row q) (bit before q) || empty q)

abbrev pub unknown_count : List Bool → List Bool → (ℕ → Bool) → ℕ → ℕ
unknown_count before row empty n = count_by (is_unknown before row empty n) (range_with_len 0 partition_count)

at_old : (before row : List Bool) (empty : ℕ → Bool) (n q : ℕ) → n ≤ q → is_unknown before row empty n q ≡ not (bit before q || empty q)
at_old before row empty n q over = ap (λ (b : Bool). not (cond b (bit row q) (bit before q) || empty q)) (high q n over)

at_new : (before row : List Bool) (empty : ℕ → Bool) (n q : ℕ) → q < n → is_unknown before row empty n q ≡ not (bit row q || empty q)
at_new before row empty n q under = ap (λ (b : Bool). not (cond b (bit row q) (bit before q) || empty q)) (low q n under)

beside : (before row : List Bool) (empty : ℕ → Bool) (n q : ℕ) → q ≢ n → is_unknown before row empty (n + 1) q ≡ is_unknown before row empty n q
beside before row empty n q apart = ap (λ (b : Bool). not (cond b (bit row q) (bit before q) || empty q)) (same_side q n apart)

count_stays : (before row : List Bool) (empty : ℕ → Bool) (n : ℕ) → not (bit before n || empty n) ≡ not (bit row n || empty n) → unknown_count before row empty (n + 1) ≡ unknown_count before row empty n
count_stays before row empty n same =
    alike_counted (is_unknown before row empty n) (is_unknown before row empty (n + 1)) 0 partition_count (λ q above below. at q (q == n) refl)
  where
    at : (q : ℕ) (b : Bool) → (q == n) ≡ b → is_unknown before row empty (n + 1) q ≡ is_unknown before row empty n q
    at q true e =
        subst (λ (k : ℕ). is_unknown before row empty (n + 1) k ≡ is_unknown before row empty n k) (sym (from_equal q n e))
        (at_new before row empty (n + 1) n (omega arith) ∙ sym same ∙ sym (at_old before row empty n n (omega arith)))
    at q false e = beside before row empty n q (λ (i : q ≡ n). let wrong : true ≡ false = sym (equal q n i) ∙ e in cc)

stands_unknown : (before row : List Bool) (empty : ℕ → Bool) (n : ℕ) → bit before n ≡ false → empty n ≡ false → is_unknown before row empty n n ≡ true
stands_unknown before row empty n unset full = at_old before row empty n n (omega arith) ∙ rw (unset, full) refl

count_falls : (before row : List Bool) (empty : ℕ → Bool) (n : ℕ) → n < partition_count → bit before n ≡ false → bit row n ≡ true → empty n ≡ false
    → unknown_count before row empty (n + 1) + 1 ≡ unknown_count before row empty n
count_falls before row empty n within unset set full =
    one_fewer (is_unknown before row empty n) (is_unknown before row empty (n + 1)) n 0 partition_count (stands_unknown before row empty n unset full)
    (at_new before row empty (n + 1) n (omega arith) ∙ rw set refl) (beside before row empty n) (omega arith) (omega (arith, within))

fewer : (count k n : ℕ) → count ≡ n → k + 1 ≡ n → count - 1 ≡ k
fewer count k n is e = omega (arith, is, e)

count_seen : (before row : List Bool) (empty : ℕ → Bool) (n count : ℕ) → n < partition_count → bit before n ≡ false → bit row n ≡ true → count ≡ unknown_count before row empty n
    → (if empty n then count else count - 1) ≡ unknown_count before row empty (n + 1)
count_seen before row empty n count within unset set is = go (empty n) refl
  where
    go : (b : Bool) → empty n ≡ b → (if b then count else count - 1) ≡ unknown_count before row empty (n + 1)
    go true e = is ∙ sym (count_stays before row empty n (rw (unset, set, e) refl))
    go false e = fewer count (unknown_count before row empty (n + 1)) (unknown_count before row empty n) is (count_falls before row empty n within unset set e)

-- ---- looking

-- the partitions below a number are quiet with the new bits where they aren't live, and the others with the old ones
pub record AreSeenUpTo (f : Facts) (before : List Bool) (n : ℕ) (live : List Bool) : Type 0 where
  pub below : (p : ℕ) → p < n → f.exchange.exchanged ≡ true → bit live p ≡ false → IsQuiet f p
  pub above : (p : ℕ) → n ≤ p → p < partition_count → f.exchange.exchanged ≡ true → bit live p ≡ false → IsQuiet (with_settled_row f before) p

one_seen : (f : Facts) (before : List Bool) (n : ℕ) (old new : List Bool) → IsSeenTo n f old new → AreSeenUpTo f before n old → AreSeenUpTo f before (n + 1) new
one_seen f before n old new seen h = record {
  below = seen_below f n old new seen h.below;
  above = λ p over within finished off.
      let other : p ≢ n = λ (i : p ≡ n). omega (arith, over, i) in
      h.above p (omega (arith, over)) within finished (sym (seen.others p other) ∙ off);
}

one_alike : (f : Facts) (before : List Bool) (n : ℕ) (live : List Bool) → n < partition_count → bit f.bits.settled n ≡ bit before n → AreSeenUpTo f before n live → AreSeenUpTo f before (n + 1) live
one_alike f before n live within same h = record {
  below =
      below_more (λ (q : ℕ). f.exchange.exchanged ≡ true → bit live q ≡ false → IsQuiet f q) n n refl
      (λ finished off.
      quiet_alike n (with_settled_row f before) f
      (record { me = refl; factor = refl; exchange = refl; own_handed = refl; settled = same; learnt = refl; holds = refl })
      (h.above n (omega arith) within finished off))
      h.below;
  above = λ p over. h.above p (omega (arith, over));
}

-- ---- both

-- the view where the partitions below a number were counted and looked at
pub record IsSeenUpTo (v : Viewed) (before : List Bool) (versions : Content) (n : ℕ) (here : Viewed) : Type 0 where
  pub same : here ≡ with_watch v here.watch
  pub count : here.watch.unsettled ≡ unknown_count before v.bits.settled (is_known_empty v) n
  pub live : (f : Facts) → IsInView f v → f.store.content ≡ versions → AreLive (with_settled_row f before) v.watch.live → AreSeenUpTo f before n here.watch.live

abbrev Unsettled : Viewed → List Bool → ℕ
Unsettled v before = unsettled_count (with_settled_row (facts_seen v) before)

from_zero : (q : ℕ) → 0 ≤ q
from_zero q = omega arith

none_under : (p : ℕ) → p < 0 → ⊥
none_under p under = omega (arith, under)

pub none_seen : (v : Viewed) (before : List Bool) (versions : Content) → v.watch.unsettled ≡ Unsettled v before → IsSeenUpTo v before versions 0 v
none_seen v before versions counted = record {
  same = refl;
  count =
      counted
      ∙ sym (alike_counted (λ q. not (bit before q || is_known_empty v q)) (is_unknown before v.bits.settled (is_known_empty v) 0) 0 partition_count
      (λ q above below. at_old before v.bits.settled (is_known_empty v) 0 q (from_zero q)));
  live = λ f h content quiet. record { below = λ p under. absurd (none_under p under); above = λ p over within finished off. quiet.quiet p within finished off };
}

known_empty_in : (v here : Viewed) (p : ℕ) → here ≡ with_watch v here.watch → is_known_empty here p ≡ is_known_empty v p
known_empty_in v here p same = ap (λ (x : Viewed). is_known_empty x p) same

-- one that isn't known empty is counted still
pub some_left : (v here : Viewed) (before : List Bool) (versions : Content) (n p : ℕ) → IsSeenUpTo v before versions n here → p ≡ n → n < partition_count → bit before p ≡ false → is_known_empty here p ≡ false
    → 0 < here.watch.unsettled
some_left v here before versions n p h at within unset full =
    subst (λ (k : ℕ). 0 < k) (sym h.count)
    (counts_one (is_unknown before v.bits.settled (is_known_empty v) n) n
    (stands_unknown before v.bits.settled (is_known_empty v) n (ap (bit before) (sym at) ∙ unset) (ap (is_known_empty v) (sym at) ∙ sym (known_empty_in v here p h.same) ∙ full)) within)

unsettled_left : (v : Viewed) (p : ℕ) → (without_unsettled v p).watch.unsettled ≡ (if is_known_empty v p then v.watch.unsettled else v.watch.unsettled - 1)
unsettled_left v p = go (is_known_empty v p)
  where
    go : (b : Bool) → (if b then v else with_unsettled v (v.watch.unsettled - 1)).watch.unsettled ≡ (if b then v.watch.unsettled else v.watch.unsettled - 1)
    go true = refl
    go false = refl

watch_left : (v here : Viewed) (p : ℕ) (live : List Bool) → here ≡ with_watch v here.watch → with_live (without_unsettled here p) live ≡ with_watch v (with_live (without_unsettled here p) live).watch
watch_left v here p live same = go (is_known_empty here p)
  where
    left : Bool → Viewed → Viewed
    left b x = with_live (if b then x else with_unsettled x (here.watch.unsettled - 1)) live

    go : (b : Bool) → left b here ≡ with_watch v (left b here).watch
    go true = ap (left true) same
    go false = ap (left false) same

in_view_watched : (f : Facts) (v here : Viewed) → here ≡ with_watch v here.watch → IsInView f v → IsInView f here
in_view_watched f v here same h = subst (λ (u : Viewed). IsInView f u) (sym same) (record { me = h.me; factor = h.factor; view = h.view })

-- one more was seen to
pub seen_more : (v here after : Viewed) (before : List Bool) (versions : Content) (n p : ℕ) → IsSeenUpTo v before versions n here → p ≡ n → n < partition_count → bit v.bits.settled p ≡ true → bit before p ≡ false
    → after ≡ with_live (without_unsettled here p) after.watch.live
    → ((f : Facts) → IsInView f here → f.store.content ≡ versions → IsSeenTo p f here.watch.live after.watch.live) → IsSeenUpTo v before versions (n + 1) after
seen_more v here after before versions n p h at within set unset made seen = record {
  same = made ∙ watch_left v here p after.watch.live h.same ∙ ap (λ (x : Viewed). with_watch v x.watch) (sym made);
  count =
      ap (λ (x : Viewed). x.watch.unsettled) made
      ∙ unsettled_left here p
      ∙ ap (λ (b : Bool). if b then here.watch.unsettled else here.watch.unsettled - 1) (known_empty_in v here p h.same ∙ ap (is_known_empty v) at)
      ∙ count_seen before v.bits.settled (is_known_empty v) n here.watch.unsettled within (ap (bit before) (sym at) ∙ unset) (ap (bit v.bits.settled) (sym at) ∙ set) h.count;
  live = λ f i content quiet.
      one_seen f before n here.watch.live after.watch.live
      (subst (λ (k : ℕ). IsSeenTo k f here.watch.live after.watch.live) at (seen f (in_view_watched f v here h.same i) content))
      (h.live f i content quiet);
}

-- one more has the bit that it had
pub alike_more : (v here : Viewed) (before : List Bool) (versions : Content) (n p : ℕ) → IsSeenUpTo v before versions n here → p ≡ n → n < partition_count → bit v.bits.settled p ≡ bit before p
    → IsSeenUpTo v before versions (n + 1) here
alike_more v here before versions n p h at within same =
    let same_at : bit v.bits.settled n ≡ bit before n = subst (λ (k : ℕ). bit v.bits.settled k ≡ bit before k) at same in
    record {
      same = h.same;
      count = h.count ∙ sym (count_stays before v.bits.settled (is_known_empty v) n (ap (λ (b : Bool). not (b || is_known_empty v n)) (sym same_at)));
      live = λ f i content quiet. one_alike f before n here.watch.live within (ap (λ (b : Bits). bit b.settled n) (sees f v i).bits ∙ same_at) (h.live f i content quiet);
    }

-- those up to another one have the bits that they had
alike_gap : (v here : Viewed) (before : List Bool) (versions : Content) (n k : ℕ) → IsSeenUpTo v before versions n here → n + k ≤ partition_count
    → ((q : ℕ) → n ≤ q → q < n + k → bit v.bits.settled q ≡ bit before q) → IsSeenUpTo v before versions (n + k) here
alike_gap v here before versions n zero h low same = let plain : n ≡ n + 0 = omega arith in subst (λ (j : ℕ). IsSeenUpTo v before versions j here) plain h
alike_gap v here before versions n (suc k) h low same =
    let next : (n + k) + 1 ≡ n + suc k = omega arith in
    subst (λ (j : ℕ). IsSeenUpTo v before versions j here) next
    (alike_more v here before versions (n + k) (n + k) (alike_gap v here before versions n k h (omega (arith, low)) (λ q over under. same q over (omega (arith, under)))) refl (omega (arith, low)) (same (n + k) (omega arith) (omega arith)))

pub alike_until : (v here : Viewed) (before : List Bool) (versions : Content) (n m : ℕ) → IsSeenUpTo v before versions n here → n ≤ m → m ≤ partition_count
    → ((q : ℕ) → n ≤ q → q < m → bit v.bits.settled q ≡ bit before q) → IsSeenUpTo v before versions m here
alike_until v here before versions n m h up low same =
    let whole : n + (m - n) ≡ m = omega (arith, up) in
    subst (λ (j : ℕ). IsSeenUpTo v before versions j here) whole (alike_gap v here before versions n (m - n) h (omega (arith, up, low)) (λ q over under. same q over (omega (arith, under, up))))

pub all_seen_count : (v here : Viewed) (before : List Bool) (versions : Content) (n : ℕ) → n ≡ partition_count → IsSeenUpTo v before versions n here → here.watch.unsettled ≡ unsettled_count (facts_seen v)
all_seen_count v here before versions n whole h =
    h.count
    ∙ alike_counted (λ q. not (bit v.bits.settled q || is_known_empty v q)) (is_unknown before v.bits.settled (is_known_empty v) n) 0 partition_count
    (λ q above below. at_new before v.bits.settled (is_known_empty v) n q (omega (arith, below, whole)))

pub all_seen_live : (v here : Viewed) (before : List Bool) (versions : Content) (n : ℕ) (f : Facts) → n ≡ partition_count → IsSeenUpTo v before versions n here → IsInView f v → f.store.content ≡ versions
    → AreLive (with_settled_row f before) v.watch.live → AreLive f here.watch.live
all_seen_live v here before versions n f whole h i content quiet = record { quiet = λ p within finished off. (h.live f i content quiet).below p (omega (arith, within, whole)) finished off }

-- ---- one bit

-- a bit is new where it is set and wasn't
pub new_bit : (new : Bool) (row before : Bool) → new ≡ (row && not before) → new ≡ true → (row ≡ true) × (before ≡ false)
new_bit new true false is h = (refl, refl)
new_bit new true true is h = absurd (let wrong : false ≡ true = sym is ∙ h in cc)
new_bit new false before is h = absurd (let wrong : false ≡ true = sym is ∙ h in cc)

-- and one that isn't new is as it was, where none was lost
pub old_bit : (new : Bool) (row before : Bool) → new ≡ (row && not before) → new ≡ false → (before ≡ true → row ≡ true) → row ≡ before
old_bit new true false is h kept = absurd (let wrong : true ≡ false = sym is ∙ h in cc)
old_bit new true true is h kept = refl
old_bit new false true is h kept = kept refl
old_bit new false false is h kept = refl

-- ---- the view where one is counted as settled

pub in_view_left : (f : Facts) (v w : Viewed) (p : ℕ) → w ≡ without_unsettled v p → IsInView f v → IsInView f w
in_view_left f v w p is h = subst (λ (u : Viewed). IsInView f u) (sym is) (go (is_known_empty v p))
  where
    go : (b : Bool) → IsInView f (if b then v else with_unsettled v (v.watch.unsettled - 1))
    go true = h
    go false = record { me = h.me; factor = h.factor; view = h.view }

pub live_left : (v w : Viewed) (p : ℕ) → w ≡ without_unsettled v p → w.watch.live ≡ v.watch.live
live_left v w p is = ap (λ (x : Viewed). x.watch.live) is ∙ go (is_known_empty v p)
  where
    go : (b : Bool) → (if b then v else with_unsettled v (v.watch.unsettled - 1)).watch.live ≡ v.watch.live
    go true = refl
    go false = refl

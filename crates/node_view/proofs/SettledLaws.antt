-- Whether all partitions are settled, and what is to be learnt or dropped, as what is kept of the partitions tells.
use Rattle.std.proofs.Common.{◌≡◌, ◌==◌, ◌<◌, ◌+◌, ◌||◌, ◌&&◌, ℕ, zero, suc, Bool, true, false, not, cond, List, count_by, refl, sym, ap, subst, ◌∙◌, arith}
use Rattle.std.specs.List.{range_with_len}
use Rattle.std.proofs.lemmas.Bool.{and_right, false_from_ne_true, or_right}
use Rattle.std.proofs.lemmas.List.Sums.{sum_by-cons}
use Rattle.cluster_types.specs.Partitions.{partition_count}
use Rattle.cluster_types.specs.Rows.{bit}
use Rattle.cluster_types.proofs.OrRows.{or_bit}
use Rattle.partition_lists.proofs.InOrderLaws.{unequal}
use Rattle.node_rules.specs.Facts.{Facts, list_at}
use Rattle.node_rules.specs.Here.{Here, here}
use Rattle.node_rules.specs.Standing.{has_nothing_to_learn_or_drop, has_settled_bit, is_all_empty, is_done, is_to_drop, is_to_learn, knows_all_settled, knows_settled}
use Rattle.node_rules.proofs.Partitions.{rest_tells, settled_tells}
use Rattle.node_view.specs.Settlings.{is_to_learn_or_drop}
use Rattle.node_view.specs.Views.{AreLive, IsInView, IsQuiet, IsViewOf, Viewed, facts_seen, is_known_empty, with_settled_bits}
use Rattle.node_view.proofs.SightLaws.{sees}

-- ---- how many partitions aren't known settled

pub none_counted : (f : Facts) (n p : ℕ) → (count_by (λ q. not (knows_settled f q)) (range_with_len p n) == 0) ≡ knows_all_settled f n p
unfolding knows_all_settled
none_counted f zero p = refl
none_counted f (suc n) p =
    ap (λ (k : ℕ). k == 0) (sum_by-cons (λ q. cond (not (knows_settled f q)) 1 0) p (range_with_len (p + 1) n))
    ∙ at (knows_settled f p) (count_by (λ q. not (knows_settled f q)) (range_with_len (p + 1) n)) (knows_all_settled f n (p + 1)) (none_counted f n (p + 1))
  where
    at : (b : Bool) (rest : ℕ) (all : Bool) → (rest == 0) ≡ all → (cond (not b) 1 0 + rest == 0) ≡ (b && all)
    at true rest all e = let plain : 0 + rest ≡ rest = omega arith in rw plain e
    at false rest all e = unequal (1 + rest) 0 (λ (i : 1 + rest ≡ 0). omega (arith, i))

-- where none is left, all are known settled
pub none_left : (f : Facts) (v : Viewed) (count : ℕ) → IsViewOf f v → count ≡ v.watch.unsettled → (count == 0) ≡ knows_all_settled f partition_count 0
none_left f v count h is = ap (λ (k : ℕ). k == 0) (is ∙ h.watch.unsettled) ∙ none_counted f partition_count 0

-- ---- with settled bits besides

pub settled_with : (f : Facts) (v : Viewed) (s : List Bool) (q : ℕ) → IsInView f v → knows_settled (with_settled_bits f s) q ≡ (bit s q || knows_settled (facts_seen v) q)
settled_with f v s q h =
    let t = sees f v h in
    ap (λ (b : Bool). b || (f.exchange.exchanged && is_all_empty f q)) (or_bit f.bits.settled s q)
    ∙ three (bit f.bits.settled q) (bit s q) (f.exchange.exchanged && is_all_empty f q)
    ∙ rw (t.bits, t.exchange) refl
  where
    three : (a b c : Bool) → ((a || b) || c) ≡ (b || (a || c))
    three true true c = refl
    three true false c = refl
    three false true c = refl
    three false false c = refl

-- all are known settled already
pub all_with : (f : Facts) (v : Viewed) (s : List Bool) → IsViewOf f v → knows_all_settled f partition_count 0 ≡ true → knows_all_settled (with_settled_bits f s) partition_count 0 ≡ true
all_with f v s h all =
    (settled_tells (with_settled_bits f s) partition_count).1
    (λ q within. settled_with f v s q h.viewed ∙ or_right (bit s q) (knows_settled (facts_seen v) q) (seen q ∙ (settled_tells f partition_count).0 all q within))
  where
    seen : (q : ℕ) → knows_settled (facts_seen v) q ≡ knows_settled f q
    seen q = let t = sees f v h.viewed in rw (t.bits, t.exchange) refl

-- each is known settled or among these
pub each_with : (f : Facts) (v : Viewed) (s : List Bool) (n : ℕ) → IsViewOf f v → n ≡ partition_count → ((q : ℕ) → q < n → (bit s q || knows_settled (facts_seen v) q) ≡ true)
    → knows_all_settled (with_settled_bits f s) partition_count 0 ≡ true
each_with f v s n h whole each =
    (settled_tells (with_settled_bits f s) partition_count).1 (λ q within. settled_with f v s q h.viewed ∙ each q (omega (arith, within, whole)))

-- one is neither
pub one_without : (f : Facts) (v : Viewed) (s : List Bool) (q : ℕ) → IsViewOf f v → q < partition_count → bit s q ≡ false → knows_settled (facts_seen v) q ≡ false
    → knows_all_settled (with_settled_bits f s) partition_count 0 ≡ false
one_without f v s q h within unset unknown =
    false_from_ne_true (knows_all_settled (with_settled_bits f s) partition_count 0)
    (λ all. let wrong : true ≡ (false || false) = sym ((settled_tells (with_settled_bits f s) partition_count).0 all q within) ∙ settled_with f v s q h.viewed ∙ rw (unset, unknown) refl in let w : true ≡ false = wrong in cc)

both_known : (a b c : Bool) → (not (a || b) ≡ true → c ≡ true) → (a || (b || c)) ≡ true
both_known true b c h = refl
both_known false true c h = refl
both_known false false c h = h refl

neither_set : (a b : Bool) → not (a || b) ≡ true → (a ≡ false) × (b ≡ false)
neither_set true b e = absurd (let wrong : false ≡ true = e in cc)
neither_set false true e = absurd (let wrong : false ≡ true = e in cc)
neither_set false false e = (refl, refl)

-- all are where those are known empty whose bits are in neither row
pub known_or_empty : (f : Facts) (v : Viewed) (s rest : List Bool) (r : Bool) → IsViewOf f v → ((q : ℕ) → q < partition_count → bit rest q ≡ not (bit s q || bit v.bits.settled q))
    → (r ≡ true → (q : ℕ) → bit rest q ≡ true → is_known_empty v q ≡ true) → (r ≡ false → (q : ℕ) × (q < partition_count) × (bit rest q ≡ true) × (is_known_empty v q ≡ false))
    → r ≡ knows_all_settled (with_settled_bits f s) partition_count 0
known_or_empty f v s rest true h is all one =
    sym (each_with f v s partition_count h refl (λ q within. both_known (bit s q) (bit v.bits.settled q) (is_known_empty v q) (λ unset. all refl q (is q within ∙ unset))))
known_or_empty f v s rest false h is all one =
    let found = one refl in
    let q = found.0 in
    let unset = neither_set (bit s q) (bit v.bits.settled q) (sym (is q found.1) ∙ found.2) in
    sym (one_without f v s q h found.1 unset.0 (ap (λ (b : Bool). b || is_known_empty v q) unset.1 ∙ found.3))

-- ---- what is to be learnt or dropped

-- nothing of the partition is
pub record Rests (f : Facts) (p : ℕ) : Type 0 where
  pub learnt : is_to_learn f (list_at f p) p ≡ false
  pub dropped : is_to_drop f (list_at f p) p ≡ false

pub quiet_rests : (f : Facts) (p : ℕ) → IsQuiet f p → Rests f p
quiet_rests f p (IsQuiet.asleep a) = record { learnt = rw a.unsettled refl; dropped = rw a.unsettled refl }
quiet_rests f p (IsQuiet.over o) = record {
  learnt = and_right (has_settled_bit f p) _ o.learnt;
  dropped = and_right (has_settled_bit f p) _ (and_right (is_done f p) _ o.dropped);
}

pub rests_off : (f : Facts) (live : List Bool) (p : ℕ) → AreLive f live → p < partition_count → f.exchange.exchanged ≡ true → bit live p ≡ false → Rests f p
rests_off f live p h within finished off = quiet_rests f p (h.quiet p within finished off)

neither : (s l d : Bool) → (s && (l || d)) ≡ false → ((s && l) ≡ false) × ((s && d) ≡ false)
neither false l d e = (refl, refl)
neither true true d e = absurd (let wrong : true ≡ false = e in cc)
neither true false d e = (refl, e)

one_of : (s l d : Bool) → (s && (l || d)) ≡ true → (s && l) ≡ false → (s && d) ≡ false → ⊥
one_of false l d e no_l no_d = let wrong : false ≡ true = e in cc
one_of true true d e no_l no_d = let wrong : true ≡ false = no_l in cc
one_of true false d e no_l no_d = let wrong : true ≡ false = sym e ∙ no_d in cc

pub here_rests : (f : Facts) (p : ℕ) (h : Here) → h ≡ here f (list_at f p) p → is_to_learn_or_drop h ≡ false → Rests f p
here_rests f p h is e =
    let k = here f (list_at f p) p in
    let both = neither k.settled (k.replica && not k.learnt) (k.done && (not k.replica && k.holds)) (subst (λ (k : Here). is_to_learn_or_drop k ≡ false) is e) in
    record { learnt = both.0; dropped = both.1 }

pub here_moves : (f : Facts) (p : ℕ) (h : Here) → h ≡ here f (list_at f p) p → is_to_learn_or_drop h ≡ true → Rests f p → ⊥
here_moves f p h is e rests =
    let k = here f (list_at f p) p in
    one_of k.settled (k.replica && not k.learnt) (k.done && (not k.replica && k.holds)) (subst (λ (k : Here). is_to_learn_or_drop k ≡ true) is e) rests.learnt rests.dropped

-- nothing is in any partition
pub all_rest : (f : Facts) (n : ℕ) → n ≡ partition_count → ((p : ℕ) → p < n → Rests f p) → false ≡ not (has_nothing_to_learn_or_drop f partition_count 0)
all_rest f n whole each =
    sym (ap not ((rest_tells f partition_count).1 (λ p within. let r = each p (omega (arith, within, whole)) in (r.learnt, r.dropped))))

-- no partition is live
pub none_live_rest : (f : Facts) (live : List Bool) → AreLive f live → f.exchange.exchanged ≡ true → ((p : ℕ) → bit live p ≡ false) → false ≡ not (has_nothing_to_learn_or_drop f partition_count 0)
none_live_rest f live h finished none = all_rest f partition_count refl (λ p within. quiet_rests f p (h.quiet p within finished (none p)))

-- something is in one
pub one_moves : (f : Facts) (q : ℕ) → q < partition_count → (Rests f q → ⊥) → true ≡ not (has_nothing_to_learn_or_drop f partition_count 0)
one_moves f q within moves =
    sym (ap not (false_from_ne_true (has_nothing_to_learn_or_drop f partition_count 0)
    (λ all. let r = (rest_tells f partition_count).0 all q within in moves (record { learnt = r.0; dropped = r.1 }))))

-- Digests that were read page by page, partition by partition, and then sorted.
use Rattle.std.proofs.Common.{◌≡◌, ◌==◌, ℕ, zero, suc, ◌+◌, ◌<◌, ◌≤◌, Bool, true, false, cond, ◌&&◌, ◌||◌, List, [], ◌∷◌, ◌++◌, All, AllPairs, take, map, drop, filter, length, get_or, is_some, ◌-◌, nat_lt, Option, Some, None, refl, sym, ap, subst, ◌∙◌, take-append-drop, length-drop, length-take-le, get_or-drop, get_or-take, arith}
use Rattle.std.specs.List.{IsDistinct, AllByRecursion, list_any}
use Rattle.std.specs.List.Sorted.{IsPermutation, IsSorted}
use Rattle.std.proofs.lemmas.List.Sorted.{list_any-IsPermutation}
use Rattle.std.proofs.lemmas.Map.Keys.{IsDistinct-cons, IsDistinct-head, IsDistinct-tail, IsDistinct-from_apart, IsDistinct-IsPermutation, Less-from_sorted, apart_from_distinct, sorted_from_all_adjacent}
use Rattle.std.specs.declared.cmp.Ordering.{Ordering}
use Rattle.std.specs.declared.cmp.Ordering.TheVariants.{Less, Equal, Greater}
use Rattle.std.specs.Ordering.{nat_cmp, is_eq, is_lt, eq_by_cmp, ordering_reverse}
use Rattle.std.specs.Cmp.Lexicographic.{slice_cmp}
use Rattle.std.proofs.lemmas.Bool.Decides.{nat_tests}
use Rattle.std.proofs.lemmas.Cmp.{nat_list_cmp_total}
use Rattle.std.proofs.lemmas.List.{get_or-map, get_or_default, length-map, length-take}
use Rattle.std.proofs.lemmas.Option.{get_or_from_slice_get, slice_get-get_or, slice_get_within, none-some}
use Rattle.std.specs.Prelude.{IfSome, IsSome, slice_get, ◌^◌}
use Rattle.std.proofs.lemmas.List.Elements.{All-filter, filter-append, filter_passes}
use Rattle.std.proofs.lemmas.List.Folds.{list_any_at, list_any_none, list_any-append}
use Rattle.std.proofs.lemmas.Map.Views.{any-filter_same}
use Rattle.std.specs.FinMap.{contains_key-keys, entries, entries_sorted, get, is_sorted}
use Rattle.std.specs.FinMap.Entries.{below_all}
use lib.Dec.{T}
use Rattle.conflict_order.specs.declared.version.Version.{Version}
use Rattle.cluster_types.specs.Partitions.{partition_count, partition_of}
use Rattle.node_rules.specs.Copies.{Content, digests, digests_of, is_of}
use Rattle.node_rules.specs.Batches.{Target, target, target_of, targets_of}
use Rattle.emigrate.specs.Going.{AreHeld, digests_below}
use Rattle.std.proofs.lemmas.List.Kept.{AllPairs-cons, AllPairs-filter}
use Rattle.cluster_types.proofs.BoolFacts.{neither_left, neither_right}
use Rattle.record_store.specs.Store.{digests_above}
use Rattle.record_store.proofs.CopyLaws.{same_digest}
use Rattle.record_store.proofs.WalkLaws.{Rising, digests_are_held, digests_rise}
use Rattle.emigrate.proofs.FirstLaws.{all_in, none_in, take_taken}

abbrev digest_cmp : List ℕ → List ℕ → Ordering
digest_cmp = slice_cmp nat_cmp

true_false : true ≡ false → ⊥
true_false e = cc e

is_less : (o : Ordering) → is_lt o ≡ true → o ≡ Less
is_less Less e = refl
is_less Equal e = cc e
is_less Greater e = cc e

-- ---- pages

turned : (d e : List ℕ) → digest_cmp d e ≡ Less → is_lt (digest_cmp e d) ≡ false
turned d e lower = ap is_lt (nat_list_cmp_total.antisymm e d ∙ ap ordering_reverse lower)

equal_step : (o : Ordering) → o ≡ ordering_reverse o → is_lt o ≡ false
equal_step Less e = cc e
equal_step Equal e = refl
equal_step Greater e = refl

itself : (d : List ℕ) → is_lt (digest_cmp d d) ≡ false
itself d = equal_step (digest_cmp d d) (nat_list_cmp_total.antisymm d d)

number_is : (i k : ℕ) → (i == k) ≡ true → i ≡ k
number_is i k e = grind (arith, nat_tests)

number_below : (i k : ℕ) → i < suc k → (i == k) ≡ false → i < k
number_below i k l e = grind (arith, nat_tests)

up_to : (ds : List (List ℕ)) (k : ℕ) (z : List ℕ) → k < length ds → Rising ds → (i : ℕ) (y : List ℕ) → i < length (take (suc k) ds) → (b : Bool) → (i == k) ≡ b → is_lt (digest_cmp (get_or ds k z) (get_or (take (suc k) ds) i y)) ≡ false
up_to ds k z within h i y inside true is =
    let at : i ≡ k = number_is i k is in
    ap (λ (d : List ℕ). is_lt (digest_cmp (get_or ds k z) d)) (get_or-take (suc k) ds i y (omega (arith, at)) ∙ ap (λ (n : ℕ). get_or ds n y) at ∙ get_or_default ds k y z within)
    ∙ itself (get_or ds k z)
up_to ds k z within h i y inside false is =
    let first : i < suc k = omega (arith, inside, length-take-le (suc k) ds within) in
    let below : i < k = number_below i k first is in
    ap (λ (d : List ℕ). is_lt (digest_cmp (get_or ds k z) d)) (get_or-take (suc k) ds i y first ∙ get_or_default ds i y z (omega (arith, below, within)))
    ∙ turned (get_or ds i z) (get_or ds k z) (h i k z below within)

-- those above one of rising digests are the ones after it
pub after_one : (ds : List (List ℕ)) (k : ℕ) (z : List ℕ) → k < length ds → Rising ds → filter (λ e. is_lt (digest_cmp (get_or ds k z) e)) ds ≡ drop (suc k) ds
after_one ds k z within h =
    let test : List ℕ → Bool = λ e. is_lt (digest_cmp (get_or ds k z) e) in
    let past : All (λ e. test e ≡ true) (drop (suc k) ds)
    = λ j y inside. ap is_lt (ap (digest_cmp (get_or ds k z)) (get_or-drop (suc k) ds j y ∙ get_or_default ds (suc k + j) y z (omega (arith, inside, length-drop (suc k) ds))) ∙ h k (suc k + j) z (omega arith) (omega (arith, inside, length-drop (suc k) ds))) in
    ap (filter test) (sym (take-append-drop (suc k) ds))
    ∙ filter-append test (take (suc k) ds) (drop (suc k) ds)
    ∙ ap (λ (xs : List (List ℕ)). xs ++ filter test (drop (suc k) ds)) (none_in test (take (suc k) ds) (λ i y inside. up_to ds k z within h i y inside (i == k) refl))
    ∙ all_in test (drop (suc k) ds) past

lower_stays : (c d e : List ℕ) (ds fs : List (List ℕ)) (a b : Bool) → digest_cmp c d ≡ Less → is_lt (digest_cmp d e) ≡ a → is_lt (digest_cmp c e) ≡ b
    → filter (λ x. is_lt (digest_cmp d x)) fs ≡ ds → filter (λ x. is_lt (digest_cmp d x)) (cond b (e ∷ fs) fs) ≡ cond a (e ∷ ds) ds
lower_stays c d e ds fs true true lower is at rest =
    ap (λ o. cond o (e ∷ filter (λ x. is_lt (digest_cmp d x)) fs) (filter (λ x. is_lt (digest_cmp d x)) fs)) is ∙ ap (λ (xs : List (List ℕ)). e ∷ xs) rest
lower_stays c d e ds fs false true lower is at rest =
    ap (λ o. cond o (e ∷ filter (λ x. is_lt (digest_cmp d x)) fs) (filter (λ x. is_lt (digest_cmp d x)) fs)) is ∙ rest
lower_stays c d e ds fs false false lower is at rest = rest
lower_stays c d e ds fs true false lower is at rest =
    absurd (true_false (sym (ap is_lt (nat_list_cmp_total.trans c d e lower (is_less (digest_cmp d e) is))) ∙ at))

-- what is above a digest that is above another one
above_higher : (c d : List ℕ) (ds : List (List ℕ)) → digest_cmp c d ≡ Less → filter (λ e. is_lt (digest_cmp d e)) (filter (λ e. is_lt (digest_cmp c e)) ds) ≡ filter (λ e. is_lt (digest_cmp d e)) ds
above_higher c d [] lower = refl
above_higher c d (e ∷ ds) lower =
    lower_stays c d e (filter (λ x. is_lt (digest_cmp d x)) ds) (filter (λ x. is_lt (digest_cmp c x)) ds) (is_lt (digest_cmp d e)) (is_lt (digest_cmp c e)) lower refl refl (above_higher c d ds lower)

-- what is left after a page, whose last digest is the one at that place
pub after_page : (last : Option (List ℕ)) (ds : List (List ℕ)) (k : ℕ) (z : List ℕ) → k < length (digests_above last ds) → Rising ds → digests_above (Some (get_or (digests_above last ds) k z)) ds ≡ drop (suc k) (digests_above last ds)
after_page None ds k z within h = after_one ds k z within h
after_page (Some c) ds k z within h =
    let xs = filter (λ e. is_lt (digest_cmp c e)) ds in
    let lower : digest_cmp c (get_or xs k z) ≡ Less = is_less (digest_cmp c (get_or xs k z)) (filter_passes (λ e. is_lt (digest_cmp c e)) ds k z within) in
    sym (above_higher c (get_or xs k z) ds lower) ∙ after_one xs k z within (AllPairs-filter (λ a b. digest_cmp a b ≡ Less) (λ e. is_lt (digest_cmp c e)) ds h)

page_at : (last : Option (List ℕ)) (ds page : List (List ℕ)) (n k : ℕ) (d : List ℕ) → page ≡ take n (digests_above last ds) → slice_get page k ≡ Some d → get_or (digests_above last ds) k d ≡ d
page_at last ds page n k d is read =
    let inside : k < length page = slice_get_within page k d read in
    let few : length page ≡ length (take n (digests_above last ds)) = ap length is in
    let low : k < n = omega (arith, inside, few, length-take n (digests_above last ds)) in
    sym (get_or-take n (digests_above last ds) k d low) ∙ ap (λ (xs : List (List ℕ)). get_or xs k d) (sym is) ∙ get_or_from_slice_get page k d d read

page_within : (last : Option (List ℕ)) (ds page : List (List ℕ)) (n k : ℕ) (d : List ℕ) → page ≡ take n (digests_above last ds) → slice_get page k ≡ Some d → k < length (digests_above last ds)
page_within last ds page n k d is read =
    let inside : k < length page = slice_get_within page k d read in
    let few : length page ≡ length (take n (digests_above last ds)) = ap length is in
    omega (arith, inside, few, length-take n (digests_above last ds))

-- what is above the last digest of a page
page_left : (last : Option (List ℕ)) (ds page : List (List ℕ)) (n k : ℕ) (d : List ℕ) → Rising ds → page ≡ take n (digests_above last ds) → slice_get page k ≡ Some d → digests_above (Some d) ds ≡ drop (suc k) (digests_above last ds)
page_left last ds page n k d rising is read =
    ap (λ (e : List ℕ). digests_above (Some e) ds) (sym (page_at last ds page n k d is read)) ∙ after_page last ds k d (page_within last ds page n k d is read) rising

-- a page and what is left after it
pub page_and_left : (last : Option (List ℕ)) (ds page : List (List ℕ)) (n : ℕ) (d : List ℕ) → Rising ds → page ≡ take n (digests_above last ds) → slice_get page (length page - 1) ≡ Some d → page ++ digests_above (Some d) ds ≡ digests_above last ds
page_and_left last ds page n d rising is read =
    let some : length page - 1 < length page = slice_get_within page (length page - 1) d read in
    let next : suc (length page - 1) ≡ length page = omega (arith, some) in
    ap (λ (xs : List (List ℕ)). page ++ xs) (page_left last ds page n (length page - 1) d rising is read ∙ ap (λ (k : ℕ). drop k (digests_above last ds)) next)
    ∙ ap (λ (xs : List (List ℕ)). xs ++ drop (length page) (digests_above last ds)) (is ∙ sym (take_taken n (digests_above last ds)) ∙ ap (λ (xs : List (List ℕ)). take (length xs) (digests_above last ds)) (sym is))
    ∙ take-append-drop (length page) (digests_above last ds)

pub fewer_left : (last : Option (List ℕ)) (ds page : List (List ℕ)) (n : ℕ) (d : List ℕ) → Rising ds → page ≡ take n (digests_above last ds) → slice_get page (length page - 1) ≡ Some d → length (digests_above (Some d) ds) < length (digests_above last ds)
fewer_left last ds page n d rising is read =
    let left : length (digests_above (Some d) ds) ≡ length (drop (suc (length page - 1)) (digests_above last ds)) = ap length (page_left last ds page n (length page - 1) d rising is read) in
    omega (arith, left, length-drop (suc (length page - 1)) (digests_above last ds), page_within last ds page n (length page - 1) d is read)

-- a page without a last digest is the last one
pub none_left : (last : Option (List ℕ)) (ds page : List (List ℕ)) (n : ℕ) → 0 < n → page ≡ take n (digests_above last ds) → slice_get page (length page - 1) ≡ None → digests_above last ds ≡ []
none_left last ds page n some is none = go (digests_above last ds) page is none
  where
    empty_page : (xs : List (List ℕ)) → slice_get xs (length xs - 1) ≡ None → length xs ≡ 0
    empty_page [] e = refl
    empty_page (x ∷ xs) e = absurd (none-some (get_or (x ∷ xs) (length (x ∷ xs) - 1) x) (sym e ∙ slice_get-get_or (x ∷ xs) (length (x ∷ xs) - 1) x (omega arith)))

    go : (xs page : List (List ℕ)) → page ≡ take n xs → slice_get page (length page - 1) ≡ None → xs ≡ []
    go [] page is none = refl
    go (x ∷ xs) page is none =
        let few : length page ≡ length (take n (x ∷ xs)) = ap length is in
        absurd (omega (arith, few, some, length-take n (x ∷ xs), empty_page page none))

-- ---- rising lists with the same digests

abbrev pub has : List ℕ → List (List ℕ) → Bool
has q ds = list_any (eq_by_cmp digest_cmp q) ds

rises_after : (d : List ℕ) (ds : List (List ℕ)) → Rising (d ∷ ds) → All (λ e. digest_cmp d e ≡ Less) ds
rises_after d ds h = λ k z within. h 0 (suc k) z (omega arith) (omega (arith, within))

rest_rises : (d : List ℕ) (ds : List (List ℕ)) → Rising (d ∷ ds) → Rising ds
rest_rises d ds h = λ i j z lower within. h (suc i) (suc j) z (omega (arith, lower)) (omega (arith, within))

equal_self : (o : Ordering) → o ≡ ordering_reverse o → is_eq o ≡ true
equal_self Less e = cc e
equal_self Equal e = refl
equal_self Greater e = cc e

self_is : (d : List ℕ) → is_eq (digest_cmp d d) ≡ true
self_is d = equal_self (digest_cmp d d) (nat_list_cmp_total.antisymm d d)

has_first : (d : List ℕ) (ds : List (List ℕ)) → has d (d ∷ ds) ≡ true
has_first d ds = ap (λ b. b || has d ds) (self_is d)

-- a digest below all of them is none of them
has_none : (d : List ℕ) (ds : List (List ℕ)) → All (λ e. digest_cmp d e ≡ Less) ds → has d ds ≡ false
has_none d ds h = list_any_none (eq_by_cmp digest_cmp d) ds (λ k z within. ap is_eq (h k z within))

has_lower : (d e : List ℕ) (ds : List (List ℕ)) → digest_cmp d e ≡ Less → Rising (e ∷ ds) → has d (e ∷ ds) ≡ false
has_lower d e ds lower h =
    ap (λ b. b || has d ds) (ap is_eq lower)
    ∙ has_none d ds (λ k z within. nat_list_cmp_total.trans d e (get_or ds k z) lower (rises_after e ds h k z within))

same_order : (o : Ordering) → is_eq o ≡ true → o ≡ Equal
same_order Less e = cc e
same_order Equal e = refl
same_order Greater e = cc e

tail_step : (d : List ℕ) (xs ys : List (List ℕ)) (q : List ℕ) (b : Bool) → is_eq (digest_cmp q d) ≡ b → has d xs ≡ false → has d ys ≡ false → (b || has q xs) ≡ (b || has q ys) → has q xs ≡ has q ys
tail_step d xs ys q true is none nor e =
    let same : q ≡ d = same_digest q d (same_order (digest_cmp q d) is) in
    ap (λ (k : List ℕ). has k xs) same ∙ none ∙ sym (ap (λ (k : List ℕ). has k ys) same ∙ nor)
tail_step d xs ys q false is none nor e = e

head_step : (x y : List ℕ) (xs ys : List (List ℕ)) (o : Ordering) → digest_cmp x y ≡ o → Rising (x ∷ xs) → Rising (y ∷ ys) → ((q : List ℕ) → has q (x ∷ xs) ≡ has q (y ∷ ys))
    → (((q : List ℕ) → has q xs ≡ has q ys) → xs ≡ ys) → x ∷ xs ≡ y ∷ ys
head_step x y xs ys Less is h k same rest = absurd (true_false (sym (has_first x xs) ∙ same x ∙ has_lower x y ys is k))
head_step x y xs ys Greater is h k same rest =
    absurd (true_false (sym (has_first y ys) ∙ sym (same y) ∙ has_lower y x xs (nat_list_cmp_total.antisymm y x ∙ ap ordering_reverse is) h))
head_step x y xs ys Equal is h k same rest =
    let one : x ≡ y = same_digest x y is in
    let tails : (q : List ℕ) → has q xs ≡ has q ys
    = λ q. tail_step x xs ys q (is_eq (digest_cmp q x)) refl (has_none x xs (rises_after x xs h)) (has_none x ys (subst (λ (d : List ℕ). All (λ e. digest_cmp d e ≡ Less) ys) (sym one) (rises_after y ys k)))
    (same q ∙ ap (λ (d : List ℕ). is_eq (digest_cmp q d) || has q ys) (sym one)) in
    ap (λ (d : List ℕ). d ∷ xs) one ∙ ap (λ (ds : List (List ℕ)). y ∷ ds) (rest tails)

-- two rising lists of the same digests are the same
pub same_rising : (xs ys : List (List ℕ)) → Rising xs → Rising ys → ((q : List ℕ) → has q xs ≡ has q ys) → xs ≡ ys
same_rising [] [] h k same = refl
same_rising [] (y ∷ ys) h k same = absurd (true_false (sym (has_first y ys) ∙ sym (same y)))
same_rising (x ∷ xs) [] h k same = absurd (true_false (sym (has_first x xs) ∙ same x))
same_rising (x ∷ xs) (y ∷ ys) h k same = head_step x y xs ys (digest_cmp x y) refl h k same (same_rising xs ys (rest_rises x xs h) (rest_rises y ys k))

-- ---- what was collected has the digests that are to be sent

and_none : (c : Bool) → (c && false) ≡ false
and_none true = refl
and_none false = refl

not_below : (p : ℕ) → nat_lt p 0 ≡ false
not_below p = grind (arith, nat_tests)

has_copy : (content : Content) (test : ℕ → Bool) (q : List ℕ) (n : ℕ) (b : Bool) → test n ≡ b → has q (cond b (digests_of content n) []) ≡ (is_of n q && (test n && is_some (get content q)))
has_copy content test q n true is =
    digests_are_held content n q ∙ ap (λ c. is_of n q && (c && is_some (get content q))) (sym is)
has_copy content test q n false is =
    sym (and_none (is_of n q)) ∙ ap (λ c. is_of n q && (c && is_some (get content q))) (sym is)

lower_or_at : (p n : ℕ) (b : Bool) → ((nat_lt p n && b) || ((p == n) && b)) ≡ (nat_lt p (suc n) && b)
lower_or_at p n true = grind (arith, nat_tests)
lower_or_at p n false = grind (arith, nat_tests)

at_step : (p n : ℕ) (test : ℕ → Bool) (o c : Bool) → (p == n) ≡ c → (c && (test n && o)) ≡ (c && (test p && o))
at_step p n test o true is = ap (λ (m : ℕ). test m && o) (sym (number_is p n is))
at_step p n test o false is = refl

below_has : (content : Content) (test : ℕ → Bool) (q : List ℕ) (n : ℕ) → has q (digests_below content test n) ≡ (nat_lt (partition_of q) n && (test (partition_of q) && is_some (get content q)))
below_has content test q zero = sym (ap (λ b. b && (test (partition_of q) && is_some (get content q))) (not_below (partition_of q)))
below_has content test q (suc n) =
    let held = is_some (get content q) in
    list_any-append (eq_by_cmp digest_cmp q) (digests_below content test n) (cond (test n) (digests_of content n) [])
    ∙ ap (λ b. b || has q (cond (test n) (digests_of content n) [])) (below_has content test q n)
    ∙ ap (λ b. (nat_lt (partition_of q) n && (test (partition_of q) && held)) || b) (has_copy content test q n (test n) refl ∙ at_step (partition_of q) n test held (is_of n q) refl)
    ∙ lower_or_at (partition_of q) n (test (partition_of q) && held)

test_is : (q k : List ℕ) (test : ℕ → Bool) → eq_by_cmp digest_cmp q k ≡ true → test (partition_of k) ≡ test (partition_of q)
test_is q k test e = ap (λ (d : List ℕ). test (partition_of d)) (sym (same_digest q k (same_order (digest_cmp q k) e)))

sent_has : (content : Content) (test : ℕ → Bool) (q : List ℕ) → has q (filter (λ d. test (partition_of d)) (digests content)) ≡ (test (partition_of q) && is_some (get content q))
sent_has content test q =
    any-filter_same (eq_by_cmp digest_cmp q) (λ d. test (partition_of d)) (test (partition_of q)) (λ k e. test_is q k test e) (digests content)
    ∙ ap (λ b. test (partition_of q) && b) (sym (contains_key-keys content q))

less : (p n : ℕ) → p < n → nat_lt p n ≡ true
less p n l = grind (arith, nat_tests)

all_within : (d : List ℕ) → nat_lt (partition_of d) partition_count ≡ true
all_within d = less (partition_of d) partition_count (omega arith)

-- all partitions together have what is to be sent
pub collected_has : (content : Content) (test : ℕ → Bool) (q : List ℕ) → has q (digests_below content test partition_count) ≡ has q (filter (λ d. test (partition_of d)) (digests content))
collected_has content test q =
    below_has content test q partition_count
    ∙ ap (λ b. b && (test (partition_of q) && is_some (get content q))) (all_within q)
    ∙ sym (sent_has content test q)

-- ---- sorted and without an equal pair, they rise

abbrev pub AreApart : List (List ℕ) → Type 0
AreApart ds = IsDistinct (eq_by_cmp digest_cmp) ds

none_of : (d : List ℕ) (ds : List (List ℕ)) → has d ds ≡ false → AllByRecursion (λ e. eq_by_cmp digest_cmp d e ≡ false) ds
none_of d [] h = tt
none_of d (e ∷ ds) h =
    (neither_left (eq_by_cmp digest_cmp d e) (has d ds) h, none_of d ds (neither_right (eq_by_cmp digest_cmp d e) (has d ds) h))

both_parts : (P : List ℕ → Type 0) (xs ys : List (List ℕ)) → AllByRecursion P xs → AllByRecursion P ys → AllByRecursion P (xs ++ ys)
both_parts P [] ys h k = k
both_parts P (x ∷ xs) ys h k = (h.0, both_parts P xs ys h.1 k)

has_not : (d : List ℕ) (ds : List (List ℕ)) (b : Bool) → has d ds ≡ b → (has d ds ≡ true → ⊥) → has d ds ≡ false
has_not d ds true is never = absurd (never is)
has_not d ds false is never = is

or_true : (b : Bool) → (b || true) ≡ true
or_true true = refl
or_true false = refl

has_later : (q d : List ℕ) (ds : List (List ℕ)) → has q ds ≡ true → has q (d ∷ ds) ≡ true
has_later q d ds h = ap (λ b. eq_by_cmp digest_cmp q d || b) h ∙ or_true (eq_by_cmp digest_cmp q d)

apart_append : (xs ys : List (List ℕ)) → AreApart xs → AreApart ys → ((q : List ℕ) → has q xs ≡ true → has q ys ≡ true → ⊥) → AreApart (xs ++ ys)
apart_append [] ys h k other = k
apart_append (x ∷ xs) ys h k other =
    IsDistinct-cons (eq_by_cmp digest_cmp) x (xs ++ ys)
    (both_parts (λ e. eq_by_cmp digest_cmp x e ≡ false) xs ys (IsDistinct-head (eq_by_cmp digest_cmp) x xs h) (none_of x ys (has_not x ys (has x ys) refl (other x (has_first x xs)))))
    (apart_append xs ys (IsDistinct-tail (eq_by_cmp digest_cmp) x xs h) k (λ q a b. other q (has_later q x xs a) b))

rising_apart : (ds : List (List ℕ)) → Rising ds → AreApart ds
rising_apart ds h = IsDistinct-from_apart (eq_by_cmp digest_cmp) ds (λ i j d lower within. ap is_eq (h i j d lower within))

copy_apart : (content : Content) (n : ℕ) (b : Bool) → AreApart (cond b (digests_of content n) [])
copy_apart content n true = rising_apart (digests_of content n) (digests_rise content n)
copy_apart content n false = IsDistinct-from_apart (eq_by_cmp digest_cmp) [] (λ i j d lower within. absurd (omega (arith, within)))

not_both : (p n : ℕ) (a b : Bool) → (nat_lt p n && a) ≡ true → ((p == n) && b) ≡ true → ⊥
not_both p n a b e f = grind (arith, nat_tests)

pub below_apart : (content : Content) (test : ℕ → Bool) (n : ℕ) → AreApart (digests_below content test n)
below_apart content test zero = IsDistinct-from_apart (eq_by_cmp digest_cmp) [] (λ i j d lower within. absurd (omega (arith, within)))
below_apart content test (suc n) =
    apart_append (digests_below content test n) (cond (test n) (digests_of content n) []) (below_apart content test n) (copy_apart content n (test n))
    (λ q a b. not_both (partition_of q) n (test (partition_of q) && is_some (get content q)) (test n && is_some (get content q)) (sym (below_has content test q n) ∙ a) (sym (has_copy content test q n (test n) refl) ∙ b))

order_step : (o r : Ordering) → o ≡ ordering_reverse r → is_lt r ≡ false → is_eq o ≡ false → o ≡ Less
order_step Less r e f g = refl
order_step Equal r e f g = absurd (true_false g)
order_step Greater Less e f g = absurd (true_false f)
order_step Greater Equal e f g = cc e
order_step Greater Greater e f g = cc e

-- what a sort leaves rises where no two are equal
pub sorted_rises : (ds : List (List ℕ)) → IsSorted digest_cmp ds → AreApart ds → Rising ds
sorted_rises ds sorted apart = λ i j d lower within.
    Less-from_sorted digest_cmp ds i j d
    (sorted_from_all_adjacent nat_list_cmp_total ds d (λ k inside.
    order_step (digest_cmp (get_or ds k d) (get_or ds (k + 1) d)) (digest_cmp (get_or ds (k + 1) d) (get_or ds k d))
    (nat_list_cmp_total.antisymm (get_or ds k d) (get_or ds (k + 1) d))
    (sorted k d (omega arith) inside)
    (apart_from_distinct (eq_by_cmp digest_cmp) ds k (k + 1) d apart (omega arith) inside)))
    lower within

reverse_equal : (o : Ordering) → is_eq (ordering_reverse o) ≡ is_eq o
reverse_equal Less = refl
reverse_equal Equal = refl
reverse_equal Greater = refl

equal_flips : (x y : List ℕ) → eq_by_cmp digest_cmp x y ≡ eq_by_cmp digest_cmp y x
equal_flips x y = ap is_eq (nat_list_cmp_total.antisymm x y) ∙ reverse_equal (digest_cmp y x)

-- the digests that were collected, once they are sorted
pub sorted_are_sent : (content : Content) (test : ℕ → Bool) (ds : List (List ℕ)) → Rising (filter (λ d. test (partition_of d)) (digests content)) → IsPermutation (digests_below content test partition_count) ds → IsSorted digest_cmp ds
    → ds ≡ filter (λ d. test (partition_of d)) (digests content)
sorted_are_sent content test ds rising moved sorted =
    let all = digests_below content test partition_count in
    let apart : AreApart ds = IsDistinct-IsPermutation (eq_by_cmp digest_cmp) equal_flips all ds moved (below_apart content test partition_count) in
    same_rising ds (filter (λ d. test (partition_of d)) (digests content)) (sorted_rises ds sorted apart) rising
    (λ q. sym (list_any-IsPermutation (eq_by_cmp digest_cmp q) all ds moved) ∙ collected_has content test q)

-- ---- the digests of a store rise

first : (a b : Bool) → T (a && b) → T a
first true b h = tt
first false b h = h

second : (a b : Bool) → T (a && b) → T b
second true b h = h
second false b h = absurd h

lower : (o : Ordering) → T (is_lt o) → o ≡ Less
lower Less h = refl
lower Equal h = absurd h
lower Greater h = absurd h

all_above : (d : List ℕ) (es : List (List ℕ × Version)) → T (below_all digest_cmp d es) → All (λ e. digest_cmp d e ≡ Less) (map (λ (e : List ℕ × Version). e.0) es)
all_above d [] h j z inside = absurd (omega arith)
all_above d (e ∷ es) h zero z inside = lower _ (first _ _ h)
all_above d (e ∷ es) h (suc j) z inside = all_above d es (second _ _ h) j z (omega (arith, inside))

entries_rise : (es : List (List ℕ × Version)) → T (is_sorted digest_cmp es) → Rising (map (λ (e : List ℕ × Version). e.0) es)
entries_rise [] h = λ j k z before inside. absurd (omega arith)
entries_rise (e ∷ es) h = AllPairs-cons (λ d f. digest_cmp d f ≡ Less) e.0 (map (λ (x : List ℕ × Version). x.0) es) (all_above e.0 es (first _ _ h)) (entries_rise es (second _ _ h))

-- the digests that are sent rise
pub sent_rise : (content : Content) (test : ℕ → Bool) → Rising (filter (λ d. test (partition_of d)) (digests content))
sent_rise content test = AllPairs-filter (λ a b. digest_cmp a b ≡ Less) (λ d. test (partition_of d)) (digests content) (entries_rise (entries content) (entries_sorted content))

held_digests : (content : Content) → All (λ d. is_some (get content d) ≡ true) (digests content)
held_digests content = λ k d within.
    contains_key-keys content (get_or (digests content) k d) ∙ list_any_at (eq_by_cmp digest_cmp (get_or (digests content) k d)) (digests content) k d within (self_is (get_or (digests content) k d))

-- what is pending at first is held
pub pending_held : (is_for : ℕ → List ℕ → Bool) (content : Content) (ns : List ℕ) → AreHeld content (targets_of is_for content ns)
pending_held is_for content ns = record {
  held = λ k t within.
      let inside : k < length ns = omega (arith, within, length-map ns (target_of is_for content)) in
      subst (λ (u : Target). All (λ d. IsSome (get content d)) u.pending) (sym (get_or-map (target_of is_for content) ns k 0 t inside))
      (All-filter (is_for (get_or ns k 0)) (λ d. IsSome (get content d)) (digests content) (held_digests content));
}

number_limit : 0 < 2 ^ 32 - 1
number_limit = omega arith

-- no batch was sent at first
pub unsent : (is_for : ℕ → List ℕ → Bool) (content : Content) (ns : List ℕ) (n : ℕ) → IfSome (target (targets_of is_for content ns) n) (λ t. t.batches < 2 ^ 32 - 1)
unsent is_for content [] n = tt
unsent is_for content (m ∷ ns) n = go (m == n) (unsent is_for content ns n)
  where
    go : (b : Bool) → IfSome (target (targets_of is_for content ns) n) (λ t. t.batches < 2 ^ 32 - 1)
        → IfSome (cond b (Some (target_of is_for content m)) (target (targets_of is_for content ns) n)) (λ t. t.batches < 2 ^ 32 - 1)
    go true rest = number_limit
    go false rest = rest

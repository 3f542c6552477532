-- Tests of each item and each later one.
use Rattle.std.proofs.Common.{◌≡◌, ℕ, suc, ◌<◌, ◌≤◌, ◌≢◌, ◌==◌, Bool, true, false, sym, ◌∙◌, ◌++◌, nat_lt, not, List, [], ◌∷◌, length, length-append, refl, arith, ap, cond, Some, None}
use Rattle.std.specs.Prelude.{All, AllPairs}
use Rattle.std.proofs.lemmas.Bool.{false≢true, and_parts, and_from, eqb-false, ne_eqb, not-true, not_from_false, false_from_ne_true, lt-ltb, ltb-true, le-leb, leb-true}
use Rattle.std.proofs.lemmas.List.{length-map}
use Rattle.std.proofs.lemmas.List.Elements.{All-weaker}
use Rattle.std.proofs.lemmas.List.Folds.{list_all-append}
use Rattle.std.proofs.lemmas.List.Kept.{AllPairs-cons}
use Rattle.std.proofs.lemmas.List.Sums.{AllPass-from_list_all, list_all-from_AllPass}
use Rattle.cluster_types.specs.declared.member.Member.{Member}
use Rattle.cluster_types.specs.Members.{AreMembers, AreDistinctMembers, ids_of}
use Rattle.cluster_types.specs.NodeLists.{IsNodeList}
use Rattle.journal_reader.specs.Fields.{holds_of_pairs, are_members, are_distinct_ids, are_distinct_members, if_allowed}

pairs_head : {A : Type 0} (R : A → A → Type 0) (x : A) (xs : List A) → AllPairs R (x ∷ xs) → All (R x) xs
pairs_head R x xs h k d lt = h 0 (suc k) d (omega arith) (omega arith)

pairs_tail : {A : Type 0} (R : A → A → Type 0) (x : A) (xs : List A) → AllPairs R (x ∷ xs) → AllPairs R xs
pairs_tail R x xs h i j d lt within = h (suc i) (suc j) d (omega arith) (omega arith)

pub pairs_from_test : {A : Type 0} (test : A → A → Bool) (R : A → A → Type 0) → ((x y : A) → test x y ≡ true → R x y)
    → (xs : List A) → holds_of_pairs test xs ≡ true → AllPairs R xs
pairs_from_test test R is [] e = λ i j d lt within. absurd (omega (arith, within))
pairs_from_test test R is (x ∷ xs) e =
    let parts = and_parts _ _ e in
    AllPairs-cons R x xs (All-weaker (λ y. test x y ≡ true) (R x) (is x) xs (AllPass-from_list_all (test x) xs parts.0)) (pairs_from_test test R is xs parts.1)

pub test_of_pairs : {A : Type 0} (test : A → A → Bool) (R : A → A → Type 0) → ((x y : A) → R x y → test x y ≡ true)
    → (xs : List A) → AllPairs R xs → holds_of_pairs test xs ≡ true
test_of_pairs test R is [] h = refl
test_of_pairs test R is (x ∷ xs) h =
    and_from _ _ (list_all-from_AllPass (test x) xs (All-weaker (R x) (λ y. test x y ≡ true) (is x) xs (pairs_head R x xs h)))
    (test_of_pairs test R is xs (pairs_tail R x xs h))

pub pairs_append : {A : Type 0} (test : A → A → Bool) (xs ys : List A) → holds_of_pairs test (xs ++ ys) ≡ true
    → (holds_of_pairs test xs ≡ true) × (holds_of_pairs test ys ≡ true)
pairs_append test [] ys e = (refl, e)
pairs_append test (x ∷ xs) ys e =
    let parts = and_parts _ _ e in
    let first = and_parts _ _ (sym (list_all-append (test x) xs ys) ∙ parts.0) in
    let more = pairs_append test xs ys parts.1 in
    (and_from _ _ first.0 more.0, more.1)

abbrev differ : ℕ → ℕ → Bool
differ x y = not (x == y)

abbrev falls : ℕ → ℕ → Bool
falls x y = nat_lt y x

pub distinct_from_test : (ids : List ℕ) → are_distinct_ids ids ≡ true → IsNodeList ids
unfolding are_distinct_ids
distinct_from_test ids e =
    let parts = and_parts _ _ e in
    record { limit = leb-true _ _ parts.0; distinct = record { differ = pairs_from_test differ (λ x y. x ≢ y) (λ x y t. eqb-false x y (not-true _ t)) ids parts.1 } }

pub test_of_distinct : (ids : List ℕ) → IsNodeList ids → are_distinct_ids ids ≡ true
unfolding are_distinct_ids
test_of_distinct ids h =
    and_from _ _ (le-leb _ _ h.limit) (test_of_pairs differ (λ x y. x ≢ y) (λ x y t. not_from_false _ (ne_eqb x y t)) ids h.distinct.differ)

pub members_from_test : (members : List Member) → are_members members ≡ true → AreMembers members
unfolding are_members
members_from_test members e =
    let parts = and_parts _ _ e in
    let range = and_parts _ _ parts.0 in
    record {
      some = ltb-true _ _ range.0;
      limit = leb-true _ _ range.1;
      descending = record { falls = pairs_from_test falls (λ x y. y < x) (λ x y t. ltb-true y x t) (ids_of members) parts.1 };
    }

pub test_of_members : (members : List Member) → AreMembers members → are_members members ≡ true
unfolding are_members
test_of_members members h =
    and_from _ _ (and_from _ _ (lt-ltb _ _ h.some) (le-leb _ _ h.limit)) (test_of_pairs falls (λ x y. y < x) (λ x y t. lt-ltb y x t) (ids_of members) h.descending.falls)

pub first_distinct : (ids more : List ℕ) → are_distinct_ids (ids ++ more) ≡ true → (are_distinct_ids ids ≡ true) × (are_distinct_ids more ≡ true)
unfolding are_distinct_ids
first_distinct ids more e =
    let parts = and_parts _ _ e in
    let pairs = pairs_append differ ids more parts.1 in
    let limit : length (ids ++ more) ≤ 16 = leb-true _ _ parts.0 in
    let sum = length-append ids more in
    (and_from _ _ (le-leb _ _ (omega arith)) pairs.0, and_from _ _ (le-leb _ _ (omega arith)) pairs.1)

-- ---- what the lists' own tests say

pub distinct_if : (ids : List ℕ) → (IsNodeList ids → false ≡ true) → are_distinct_ids ids ≡ false
distinct_if ids never = false_from_ne_true _ (λ t. false≢true (never (distinct_from_test ids t)))

-- a value with a test, as it is made
pub allowed : {A : Type 0} (test : A → Bool) (x made : A) → made ≡ x → test x ≡ true → Some made ≡ if_allowed test x
allowed test x made e is = ap Some e ∙ sym (ap (λ t. cond t (Some x) None) is)

pub barred : {A : Type 0} (test : A → Bool) (x : A) → test x ≡ false → None ≡ if_allowed test x
barred test x is = sym (ap (λ t. cond t (Some x) None) is)

pub listed_test : (ms : List Member) → AreDistinctMembers ms → are_distinct_members ms ≡ true
listed_test ms h =
    let limit = h.limit in
    let same = length-map ms (λ m. m.id) in
    test_of_distinct (ids_of ms) (record { limit = omega (arith, limit, same); distinct = h.distinct })

pub listed_from_test : (ms : List Member) → are_distinct_members ms ≡ true → AreDistinctMembers ms
listed_from_test ms t =
    let list = distinct_from_test (ids_of ms) t in
    let limit = list.limit in
    let same = length-map ms (λ m. m.id) in
    record { limit = omega (arith, limit, same); distinct = list.distinct }

pub a_list : (made ms : List Member) → made ≡ ms → AreDistinctMembers ms → Some made ≡ if_allowed are_distinct_members ms
a_list made ms e h = allowed are_distinct_members ms made e (listed_test ms h)

pub no_list : (ms : List Member) → (AreDistinctMembers ms → false ≡ true) → None ≡ if_allowed are_distinct_members ms
no_list ms never = barred are_distinct_members ms (false_from_ne_true _ (λ t. false≢true (never (listed_from_test ms t))))

pub a_view : (made ms : List Member) → made ≡ ms → AreMembers ms → Some made ≡ if_allowed are_members ms
a_view made ms e h = allowed are_members ms made e (test_of_members ms h)

pub no_view : (ms : List Member) → (AreMembers ms → false ≡ true) → None ≡ if_allowed are_members ms
no_view ms never = barred are_members ms (false_from_ne_true _ (λ t. false≢true (never (members_from_test ms t))))

-- Members of a view.
use Rattle.std.proofs.Common.{◌≡◌, ◌≢◌, ◌<◌, ◌==◌, ◌||◌, not, ℕ, Bool, true, false, List, [], ◌∷◌, get_or, length, take, filter, Contains, ◌+◌, ◌++◌, append-nil, refl, sym, ap, ◌∙◌, arith}
use Rattle.std.specs.List.{list_any}
use Rattle.std.proofs.lemmas.List.Elements.{All-contains, All-filter, All-get_or, All-from_get_or, Contains-get_or, filter_more, filter_passes}
use Rattle.cluster_types.specs.declared.member.Member.{Member}
use Rattle.std.proofs.lemmas.List.{length-take}
use Rattle.cluster_types.specs.Distinct.{AreDistinct}
use Rattle.cluster_types.proofs.DistinctLaws.{fresh_next}
use Rattle.heartbeat.proofs.EntryLaws.{filter_short}
use Rattle.cluster_types.specs.Members.{ids_of}
use Rattle.partition_lists.proofs.InOrderLaws.{equal}
use Rattle.partition_lists.proofs.ListLaws.{any_is_contained}
use Rattle.node_rules.specs.Agreement.{others_among}
use Rattle.node_rules.specs.Exchange.{is_member}

member_by_id : (ms : List Member) (n : ℕ) → list_any (λ m. m == n) (ids_of ms) ≡ is_member ms n
member_by_id [] n = refl
member_by_id (m ∷ ms) n = ap (λ (b : Bool). (m.id == n) || b) (member_by_id ms n)

pub is_listed : (ms : List Member) (n : ℕ) → Contains (ids_of ms) n → is_member ms n ≡ true
is_listed ms n h = sym (member_by_id ms n) ∙ (any_is_contained n (ids_of ms)).1 h

pub listed : (ms : List Member) (n : ℕ) → is_member ms n ≡ true → Contains (ids_of ms) n
listed ms n h = (any_is_contained n (ids_of ms)).0 (member_by_id ms n ∙ h)

-- each of the other members is a member
pub other_is_member : (me : ℕ) (ms : List Member) (i n : ℕ) → i < length (others_among me ms) → n ≡ get_or (others_among me ms) i n → is_member ms n ≡ true
other_is_member me ms i n within is =
    ap (is_member ms) is
    ∙ All-get_or (λ (m : ℕ). is_member ms m ≡ true) (others_among me ms) i n within
    (All-filter (λ (m : ℕ). not (m == me)) (λ (m : ℕ). is_member ms m ≡ true) (ids_of ms)
    (All-from_get_or (λ (m : ℕ). is_member ms m ≡ true) (ids_of ms) n (λ k inside. is_listed ms (get_or (ids_of ms) k n) (Contains-get_or (ids_of ms) k n inside))))

-- and none of them is the node
pub other_is_other : (me : ℕ) (ms : List Member) (i n : ℕ) → i < length (others_among me ms) → n ≡ get_or (others_among me ms) i n → n ≢ me
other_is_other me ms i n within is same =
    let passes : not (get_or (others_among me ms) i n == me) ≡ true = All-get_or (λ (m : ℕ). not (m == me) ≡ true) (others_among me ms) i n within (filter_passes (λ (m : ℕ). not (m == me)) (ids_of ms)) in
    let here : (get_or (others_among me ms) i n == me) ≡ true = equal (get_or (others_among me ms) i n) me (sym is ∙ same) in
    let wrong : false ≡ true = sym (ap not here) ∙ passes in
    absurd (let w : false ≡ true = wrong in cc)

-- ---- a filter, one item after another

pub not_false : (b : Bool) → false ≡ not b → b ≡ true
not_false true e = refl
not_false false e = cc

pub not_true : (b : Bool) → true ≡ not b → b ≡ false
not_true true e = cc
not_true false e = refl

pub filter_kept : (p : ℕ → Bool) (xs : List ℕ) (i n : ℕ) (old new : List ℕ) → i < length xs → n ≡ get_or xs i n → old ≡ filter p (take i xs) → p n ≡ true → new ≡ old ++ n ∷ [] → new ≡ filter p (take (i + 1) xs)
filter_kept p xs i n old new within is before pass more =
    let one : p (get_or xs i n) ≡ true = ap p (sym is) ∙ pass in
    let next : filter p (take (i + 1) xs) ≡ filter p (take i xs) ++ get_or xs i n ∷ [] = rw one at (filter_more p xs i n within) in
    more ∙ ap (λ (ys : List ℕ). ys ++ n ∷ []) before ∙ ap (λ (m : ℕ). filter p (take i xs) ++ m ∷ []) is ∙ sym next

pub filter_left : (p : ℕ → Bool) (xs : List ℕ) (i n : ℕ) (old new : List ℕ) → i < length xs → n ≡ get_or xs i n → old ≡ filter p (take i xs) → p n ≡ false → new ≡ old → new ≡ filter p (take (i + 1) xs)
filter_left p xs i n old new within is before pass same =
    let one : p (get_or xs i n) ≡ false = ap p (sym is) ∙ pass in
    let next : filter p (take (i + 1) xs) ≡ filter p (take i xs) ++ [] = rw one at (filter_more p xs i n within) in
    same ∙ before ∙ sym (append-nil (filter p (take i xs))) ∙ sym next

-- what was filtered so far has fewer items than all, and not the next one
pub filter_short_so_far : (p : ℕ → Bool) (xs : List ℕ) (i : ℕ) → i < length xs → length (filter p (take i xs)) < length xs
filter_short_so_far p xs i within = omega (arith, filter_short p (take i xs), length-take i xs)

pub filter_fresh : (p : ℕ → Bool) (xs : List ℕ) (i n : ℕ) → i < length xs → n ≡ get_or xs i n → AreDistinct xs → ¬ (Contains (filter p (take i xs)) n)
filter_fresh p xs i n within is distinct found =
    All-contains (λ (m : ℕ). m ≢ n) (filter p (take i xs)) n
    (All-filter p (λ (m : ℕ). m ≢ n) (take i xs) (All-from_get_or (λ (m : ℕ). m ≢ n) (take i xs) n (λ k inside same. fresh_next xs i n within is distinct (k, inside, same))))
    found refl

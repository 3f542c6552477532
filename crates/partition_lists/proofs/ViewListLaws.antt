-- The lists of all partitions, one after another, and where each of them stands.
use Rattle.std.proofs.Common.{◌≡◌, ℕ, zero, suc, ◌+◌, ◌*◌, ◌-◌, ◌<◌, ◌≤◌, List, [], ◌∷◌, ◌++◌, length, take, drop, get_or, replicate, zero-mul, refl, sym, ap, ◌∙◌, arith, append_assoc}
use Rattle.std.specs.List.{between}
use Rattle.std.proofs.Math.Nat.{suc-mul}
use Rattle.std.proofs.Math.Numerals.{add-one}
use Rattle.std.proofs.lemmas.List.{append-nil, drop-drop, drop_at, length-append, take_at}
use Rattle.std.proofs.lemmas.Nat.{mul-add-lt}
use Rattle.cluster_types.specs.declared.member.Member.{Member}
use Rattle.cluster_types.specs.Members.{AreMembers}
use Rattle.cluster_types.specs.NodeLists.{IsNodeList}
use Rattle.cluster_types.specs.Partitions.{partition_count}
use Rattle.cluster_types.proofs.DistinctLaws.{descending_distinct}
use Rattle.partition_lists.specs.Acting.{list_master}
use Rattle.partition_lists.specs.Lists.{list}
use Rattle.partition_lists.specs.ViewLists.{lists_from}
use Rattle.partition_lists.proofs.ListLaws.{list_distinct, list_length}

-- one list more stands at the end
lists_more : (ms : List Member) (n p : ℕ) → lists_from ms (suc n) p ≡ lists_from ms n p ++ list ms (p + n)
unfolding lists_from
lists_more ms zero p = append-nil (list ms p) ∙ ap (list ms) (let same : p ≡ p + 0 = omega arith in same)
lists_more ms (suc n) p =
    ap (λ rest. list ms p ++ rest) (lists_more ms n (p + 1))
    ∙ sym (append_assoc (list ms p) (lists_from ms n (p + 1)) (list ms (p + 1 + n)))
    ∙ ap (λ k. (list ms p ++ lists_from ms n (p + 1)) ++ list ms k) (let same : p + 1 + n ≡ p + suc n = omega arith in same)

pub lists_push : (ms : List Member) (n : ℕ) → lists_from ms (n + 1) 0 ≡ lists_from ms n 0 ++ list ms n
lists_push ms n = ap (λ k. lists_from ms k 0) (add-one n) ∙ lists_more ms n 0 ∙ ap (λ k. lists_from ms n 0 ++ list ms k) (let same : 0 + n ≡ n = omega arith in same)

pub no_lists : (ms : List Member) → [] ≡ lists_from ms 0 0
unfolding lists_from
no_lists ms = refl

-- each list has as many nodes as there are members
pub lists_length : (ms : List Member) (n p : ℕ) → length (lists_from ms n p) ≡ n * length ms
unfolding lists_from
lists_length ms zero p = sym (zero-mul (length ms))
lists_length ms (suc n) p = omega (arith, length-append (list ms p) (lists_from ms n (p + 1)), list_length ms p, lists_length ms n (p + 1), suc-mul n (length ms))

-- the list of a partition stands behind those before it
list_at : (ms : List Member) (n p q : ℕ) → p < n → take (length ms) (drop (p * length ms) (lists_from ms n q)) ≡ list ms (q + p)
unfolding lists_from
list_at ms zero p q within = absurd (omega (arith, within))
list_at ms (suc n) zero q within =
    let all = list ms q ++ lists_from ms n (q + 1) in
    ap (λ k. take (length ms) (drop k all)) (zero-mul (length ms))
    ∙ take_at (list ms q) (lists_from ms n (q + 1)) (length ms) (list_length ms q)
    ∙ ap (list ms) (let same : q ≡ q + 0 = omega arith in same)
list_at ms (suc n) (suc p) q within =
    let all = list ms q ++ lists_from ms n (q + 1) in
    ap (λ k. take (length ms) (drop k all)) (let same : suc p * length ms ≡ length ms + p * length ms = omega (arith, suc-mul p (length ms)) in same)
    ∙ ap (take (length ms)) (sym (drop-drop (p * length ms) (length ms) all))
    ∙ ap (λ rest. take (length ms) (drop (p * length ms) rest)) (drop_at (list ms q) (lists_from ms n (q + 1)) (length ms) (list_length ms q))
    ∙ list_at ms n p (q + 1) (omega (arith, within))
    ∙ ap (list ms) (let same : q + 1 + p ≡ q + suc p = omega arith in same)

pub list_between : (ms : List Member) (p : ℕ) → p < partition_count → between (p * length ms) (p * length ms + length ms) (lists_from ms partition_count 0) ≡ list ms p
list_between ms p within =
    ap (λ k. take k (drop (p * length ms) (lists_from ms partition_count 0))) (let same : p * length ms + length ms - p * length ms ≡ length ms = omega arith in same)
    ∙ list_at ms partition_count p 0 within
    ∙ ap (list ms) (let same : 0 + p ≡ p = omega arith in same)

-- a list ends within all lists
pub list_fits : (p size : ℕ) → p < partition_count → 0 < size → p * size + size ≤ partition_count * size
list_fits p size within some = omega (arith, mul-add-lt p size (size - 1) partition_count within (omega (arith, some)))

-- the same where what tells them is known by equations
pub part_is : (ms now : List Member) (n p size : ℕ) (ids : List ℕ) → n ≡ p → n < partition_count → size ≡ length ms → ms ≡ now → ids ≡ lists_from ms partition_count 0 → take (n * size + size - n * size) (drop (n * size) ids) ≡ list now p
part_is ms now n p size ids n_is within size_is now_is ids_is =
    ap (λ k. take (n * k + k - n * k) (drop (n * k) ids)) size_is
    ∙ ap (λ (xs : List ℕ). take (n * length ms + length ms - n * length ms) (drop (n * length ms) xs)) ids_is
    ∙ list_between ms n within
    ∙ ap (λ (xs : List Member). list xs n) now_is
    ∙ ap (list now) n_is

pub part_fits : (ms : List Member) (n size : ℕ) (ids : List ℕ) → n < partition_count → 0 < size → size ≡ length ms → ids ≡ lists_from ms partition_count 0 → n * size + size ≤ length ids
part_fits ms n size ids within some size_is ids_is =
    let all : length ids ≡ partition_count * size = ap length ids_is ∙ lists_length ms partition_count 0 ∙ ap (λ k. partition_count * k) (sym size_is) in
    omega (arith, all, list_fits n size within some)

-- of one member alone each list is that member
one_list : (m : Member) (p : ℕ) → list (m ∷ []) p ≡ m.id ∷ []
unfolding list
one_list m p = refl

alone : (m : Member) (n p : ℕ) → lists_from (m ∷ []) n p ≡ replicate n m.id
unfolding lists_from
alone m zero p = refl
alone m (suc n) p = ap (λ l. l ++ lists_from (m ∷ []) n (p + 1)) (one_list m p) ∙ ap (λ rest. m.id ∷ rest) (alone m n (p + 1))

pub lists_alone : (ms : List Member) (m : Member) (n : ℕ) → 1 ≤ length ms → length ms < 2 → m ≡ get_or ms 0 m → lists_from ms n 0 ≡ replicate n m.id
lists_alone [] m n some few is = absurd (omega (arith, some))
lists_alone (x ∷ []) m n some few is = alone x n 0 ∙ ap (λ (y : Member). replicate n y.id) (sym is)
lists_alone (x ∷ y ∷ ms) m n some few is = absurd (omega (arith, few))

-- the list of a partition over the members of a view
pub list_valid : (ms : List Member) (p : ℕ) → AreMembers ms → IsNodeList (list ms p)
list_valid ms p h = record {
  limit = omega (arith, list_length ms p, h.limit);
  distinct = list_distinct ms p (descending_distinct _ h.descending);
}

pub list_some : (ms : List Member) (p : ℕ) → AreMembers ms → 0 < length (list ms p)
list_some ms p h = omega (arith, list_length ms p, h.some)

-- the first of a list that isn't empty is its master
pub first_is_master : (l : List ℕ) (n : ℕ) → 0 < length l → n ≡ get_or l 0 n → n ≡ list_master l
first_is_master [] n some is = absurd (omega (arith, some))
first_is_master (m ∷ l) n some is = is

-- The counts by partition after a transaction was opened or closed.
use Rattle.std.proofs.Common.{◌≡◌, ◌<◌, ◌≤◌, ◌+◌, ◌-◌, ℕ, zero, suc, Bool, true, false, cond, ◌||◌, List, [], ◌∷◌, ◌++◌, length, get_or, set, slice_index, slice_set, count_by, bytes_eq, refl, sym, ap, ◌∙◌, inl, inr, arith}
use Rattle.std.specs.List.{list_any}
use Rattle.std.specs.Map.{keys_of, remove_entry}
use Rattle.std.proofs.lemmas.Bool.Decides.{eqb_tells}
use Rattle.std.proofs.lemmas.List.{length-map, map-append, get_or-set_same, get_or-set_other}
use Rattle.std.proofs.lemmas.List.Sums.{sum_by-append, sum_by_push, count_by-le-length}
use Rattle.std.proofs.lemmas.Slice.Eq.{bytes_eq-Decides}
use Rattle.cluster_types.specs.Partitions.{partition_count, partition_of}
use Rattle.node_rules.specs.Copies.{is_of}
use Rattle.dup_resolve.specs.declared.txn.Txn.{Txn}
use Rattle.dup_resolve.specs.Places.{AreOpenCounts, txn_entries}

pub partition_within : (d : List ℕ) → partition_of d < partition_count
partition_within d = omega arith

count_first : (test : List ℕ → Bool) (d : List ℕ) (ds : List (List ℕ)) → count_by test (d ∷ ds) ≡ (0 + cond (test d) 1 0) + count_by test ds
count_first test d ds = sum_by-append (λ (x : List ℕ). cond (test x) 1 0) (d ∷ []) ds

-- a zero at the end is what stands past the end
pub zero_pushed : (ns : List ℕ) (p : ℕ) → slice_index (ns ++ 0 ∷ []) p ≡ slice_index ns p
zero_pushed [] zero = refl
zero_pushed [] (suc p) = refl
zero_pushed (n ∷ ns) zero = refl
zero_pushed (n ∷ ns) (suc p) = zero_pushed ns p

-- ---- one more

count_last : (test : List ℕ → Bool) (es : List (List ℕ × ℕ)) (d : List ℕ) (id : ℕ) → count_by test (keys_of (es ++ (d, id) ∷ [])) ≡ count_by test (keys_of es) + cond (test d) 1 0
count_last test es d id =
    ap (count_by test) (map-append (λ (e : List ℕ × ℕ). e.0) es ((d, id) ∷ []))
    ∙ sum_by_push (λ (x : List ℕ). cond (test x) 1 0) (keys_of es) d

count_here : (p : ℕ) (es : List (List ℕ × ℕ)) (d : List ℕ) (id : ℕ) → is_of p d ≡ true → count_by (is_of p) (keys_of es) + 1 ≡ count_by (is_of p) (keys_of (es ++ (d, id) ∷ []))
count_here p es d id is = sym (count_last (is_of p) es d id ∙ ap (λ b. count_by (is_of p) (keys_of es) + cond b 1 0) is)

count_apart : (p : ℕ) (es : List (List ℕ × ℕ)) (d : List ℕ) (id : ℕ) → is_of p d ≡ false → count_by (is_of p) (keys_of es) ≡ count_by (is_of p) (keys_of (es ++ (d, id) ∷ []))
count_apart p es d id is =
    sym (count_last (is_of p) es d id ∙ ap (λ b. count_by (is_of p) (keys_of es) + cond b 1 0) is ∙ (omega arith))

-- a transaction that is opened is one more on its partition
pub counts_push : (es : List (List ℕ × ℕ)) (numbers : List ℕ) (d : List ℕ) (id : ℕ) → partition_count ≤ length numbers → AreOpenCounts es numbers
    → AreOpenCounts (es ++ (d, id) ∷ []) (slice_set numbers (partition_of d) (slice_index numbers (partition_of d) + 1))
counts_push es numbers d id room h = record {
  at = λ p within. elim (eqb_tells (partition_of d) p) [
    | inl same ↦
        ap (λ (q : ℕ). get_or (set numbers q (get_or numbers q 0 + 1)) p 0) same.1
        ∙ get_or-set_same numbers p (get_or numbers p 0 + 1) 0 (omega (arith, room, within))
        ∙ ap (λ (n : ℕ). n + 1) (h.at p within)
        ∙ count_here p es d id same.0
    | inr other ↦
        get_or-set_other numbers (partition_of d) p (get_or numbers (partition_of d) 0 + 1) 0 (λ same. other.1 (sym same))
        ∙ h.at p within
        ∙ count_apart p es d id other.0
  ];
}

-- no more are open on a partition than are open
pub count_bound : (ts : List Txn) (numbers : List ℕ) (p : ℕ) → p < partition_count → AreOpenCounts (txn_entries ts) numbers → slice_index numbers p ≤ length ts
count_bound ts numbers p within h =
    let keys : length (keys_of (txn_entries ts)) ≡ length (txn_entries ts) = length-map (txn_entries ts) (λ (e : List ℕ × ℕ). e.0) in
    let all : length (txn_entries ts) ≡ length ts = length-map {B = List ℕ × ℕ} ts (λ (t : Txn). (t.digest, t.id)) in
    omega (arith, h.at p within, count_by-le-length (is_of p) (keys_of (txn_entries ts)))

-- ---- one less

taken_out : (total rest left first here : ℕ) → total ≡ (0 + first) + rest → rest ≡ here + left → (others : ℕ) → others ≡ (0 + first) + left → total ≡ here + others
taken_out total rest left first here a b others e = omega (arith, a, b, e)

first_out : (total rest first here : ℕ) → total ≡ (0 + first) + rest → first ≡ here → total ≡ here + rest
first_out total rest first here a b = omega (arith, a, b)

removed_step : (test : List ℕ → Bool) (d : List ℕ) (e : List ℕ × ℕ) (es : List (List ℕ × ℕ)) (b : Bool) → (b ≡ true → d ≡ e.0)
    → (list_any (bytes_eq d) (keys_of es) ≡ true → count_by test (keys_of es) ≡ cond (test d) 1 0 + count_by test (keys_of (remove_entry (bytes_eq d) es)))
    → (b || list_any (bytes_eq d) (keys_of es)) ≡ true
    → count_by test (e.0 ∷ keys_of es) ≡ cond (test d) 1 0 + count_by test (keys_of (cond b es (e ∷ remove_entry (bytes_eq d) es)))
removed_step test d e es true same rest there =
    first_out (count_by test (e.0 ∷ keys_of es)) (count_by test (keys_of es)) (cond (test e.0) 1 0) (cond (test d) 1 0) (count_first test e.0 (keys_of es)) (ap (λ (k : List ℕ). cond (test k) 1 0) (sym (same refl)))
removed_step test d e es false same rest there =
    let ks = keys_of es in
    let left = keys_of (remove_entry (bytes_eq d) es) in
    taken_out (count_by test (e.0 ∷ ks)) (count_by test ks) (count_by test left) (cond (test e.0) 1 0) (cond (test d) 1 0) (count_first test e.0 ks) (rest there) (count_by test (e.0 ∷ left)) (count_first test e.0 left)

count_removed : (test : List ℕ → Bool) (d : List ℕ) (es : List (List ℕ × ℕ)) → list_any (bytes_eq d) (keys_of es) ≡ true → count_by test (keys_of es) ≡ cond (test d) 1 0 + count_by test (keys_of (remove_entry (bytes_eq d) es))
count_removed test d [] there = cc there
count_removed test d (e ∷ es) there =
    removed_step test d e es (bytes_eq d e.0) (bytes_eq-Decides d e.0).0 (count_removed test d es) there

less_here : (p : ℕ) (d : List ℕ) (es : List (List ℕ × ℕ)) → list_any (bytes_eq d) (keys_of es) ≡ true → is_of p d ≡ true → count_by (is_of p) (keys_of es) ≡ 1 + count_by (is_of p) (keys_of (remove_entry (bytes_eq d) es))
less_here p d es there is =
    count_removed (is_of p) d es there ∙ ap (λ b. cond b 1 0 + count_by (is_of p) (keys_of (remove_entry (bytes_eq d) es))) is

less_apart : (p : ℕ) (d : List ℕ) (es : List (List ℕ × ℕ)) → list_any (bytes_eq d) (keys_of es) ≡ true → is_of p d ≡ false → count_by (is_of p) (keys_of es) ≡ count_by (is_of p) (keys_of (remove_entry (bytes_eq d) es))
less_apart p d es there is =
    count_removed (is_of p) d es there ∙ ap (λ b. cond b 1 0 + count_by (is_of p) (keys_of (remove_entry (bytes_eq d) es))) is ∙ (omega arith)

-- a number that isn't 0 stands in the list
positive_within : (ns : List ℕ) (i : ℕ) → 0 < slice_index ns i → i < length ns
positive_within [] i h = absurd (omega (arith, h))
positive_within (n ∷ ns) zero h = omega arith
positive_within (n ∷ ns) (suc i) h = omega (arith, positive_within ns i h)

positive : (n m : ℕ) → n ≡ 1 + m → 0 < n
positive n m e = omega (arith, e)

less_one : (n m : ℕ) → n ≡ 1 + m → n - 1 ≡ m
less_one n m e = omega (arith, e)

-- the partition of a transaction that is open has one at least
pub counts_some : (es : List (List ℕ × ℕ)) (numbers : List ℕ) (d : List ℕ) → AreOpenCounts es numbers → list_any (bytes_eq d) (keys_of es) ≡ true → 0 < slice_index numbers (partition_of d)
counts_some es numbers d h there = elim (eqb_tells (partition_of d) (partition_of d)) [
  | inl same ↦ positive _ _ (h.at (partition_of d) (partition_within d) ∙ less_here (partition_of d) d es there same.0)
  | inr other ↦ absurd (other.1 refl)
]

-- a transaction that is closed is one less on its partition
pub counts_remove : (es : List (List ℕ × ℕ)) (numbers : List ℕ) (d : List ℕ) → AreOpenCounts es numbers → list_any (bytes_eq d) (keys_of es) ≡ true
    → AreOpenCounts (remove_entry (bytes_eq d) es) (slice_set numbers (partition_of d) (slice_index numbers (partition_of d) - 1))
counts_remove es numbers d h there = record {
  at = λ p within. elim (eqb_tells (partition_of d) p) [
    | inl same ↦
        ap (λ (q : ℕ). get_or (set numbers q (get_or numbers q 0 - 1)) p 0) same.1
        ∙ get_or-set_same numbers p (get_or numbers p 0 - 1) 0 (positive_within numbers p (positive _ _ (h.at p within ∙ less_here p d es there same.0)))
        ∙ less_one _ _ (h.at p within ∙ less_here p d es there same.0)
    | inr other ↦
        get_or-set_other numbers (partition_of d) p (get_or numbers (partition_of d) 0 - 1) 0 (λ same. other.1 (sym same))
        ∙ h.at p within
        ∙ less_apart p d es there other.0
  ];
}

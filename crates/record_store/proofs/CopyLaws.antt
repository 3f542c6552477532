-- The lists of a store's records against the map that they stand for.
use Rattle.std.proofs.Common.{◌≡◌, ℕ, zero, suc, ◌<◌, Bool, true, false, cond, not, List, [], ◌∷◌, ◌++◌, map, length, get_or, set, Option, Some, None, refl, sym, ap, subst, ◌∙◌, inl, inr, arith}
use Rattle.std.specs.Cmp.{IsTotalOrder}
use Rattle.std.specs.Cmp.Lexicographic.{slice_cmp}
use Rattle.std.specs.Ordering.{nat_cmp, is_eq, eq_by_cmp}
use Rattle.std.specs.declared.cmp.Ordering.{Ordering}
use Rattle.std.specs.declared.cmp.Ordering.TheVariants.{Less, Equal, Greater}
use Rattle.std.specs.FinMap.{IsAntisymmetric, nat_cmp-IsAntisymmetric, slice_cmp-IsAntisymmetric, find, put, get, insert, empty, from_entries, keys, retain_keys, from_sorted, get-insert, get-retain_keys, get-from_entries, get-from_sorted, entries-from_sorted, same_map}
use Rattle.std.specs.FinMap.Entries.{is_sorted-put, find-put}
use Rattle.std.proofs.lemmas.Bool.{false≢true}
use Rattle.std.proofs.lemmas.Bool.Decides.{eqb_tells}
use Rattle.std.proofs.lemmas.Cmp.{nat_list_cmp_total}
use Rattle.std.proofs.lemmas.List.{length-set, get_or-set_same, get_or-set_other}
use lib.Dec.{T}
use Rattle.conflict_order.specs.declared.policy.Policy.{Policy}
use Rattle.conflict_order.specs.declared.version.Version.{Version}
use Rattle.conflict_order.specs.Contents.{Content, joined}
use Rattle.conflict_order.specs.Order.{is_newer}
use Rattle.conflict_order.proofs.JoinLaws.{kept_newer, kept_not_newer}
use Rattle.cluster_types.specs.Copies.{is_of, digests_of, without_copy}
use Rattle.cluster_types.specs.Partitions.{partition_count, partition_of}
use Rattle.record_store.specs.Copies.{Entries, all_entries, versions_of, IsCopy, AreCopies}

abbrev pub digest_cmp : List ℕ → List ℕ → Ordering
digest_cmp = slice_cmp nat_cmp

total : IsTotalOrder digest_cmp
total = nat_list_cmp_total

pub same_digest : IsAntisymmetric digest_cmp
same_digest = slice_cmp-IsAntisymmetric nat_cmp-IsAntisymmetric

equal_is : (r : Ordering) → is_eq r ≡ true → r ≡ Equal
equal_is Less e = cc
equal_is Equal e = refl
equal_is Greater e = cc

holds : (b : Bool) → b ≡ true → T b
holds true h = tt
holds false h = absurd (false≢true h)

told : (b : Bool) → T b → b ≡ true
told true h = refl
told false h = absurd h

none_or : (o : Option Version) → ((v : Version) → o ≡ Some v → ⊥) → o ≡ None
none_or None h = refl
none_or (Some v) h = absurd (h v refl)

skipped : (b : Bool) (v : Version) (o p q : Option Version) → (o ≡ None → p ≡ q) → cond b (Some v) o ≡ None → cond b (Some v) p ≡ q
skipped true v o p q h none = cc
skipped false v o p q h none = h none

module _ (d : List ℕ) where
  find_past : (es fs : Entries) → find digest_cmp d es ≡ None → find digest_cmp d (es ++ fs) ≡ find digest_cmp d fs
  find_past [] fs h = refl
  find_past (e ∷ es) fs h = skipped _ e.1 _ _ _ (find_past es fs) h

  find_within : (es fs : Entries) → find digest_cmp d fs ≡ None → find digest_cmp d (es ++ fs) ≡ find digest_cmp d es
  find_within [] fs h = h
  find_within (e ∷ es) fs h = ap (cond (is_eq (digest_cmp d e.0)) (Some e.1)) (find_within es fs h)

  -- in none of the lists
  found_nowhere : (cs : List Entries) → ((j : ℕ) (z : Entries) → j < length cs → find digest_cmp d (get_or cs j z) ≡ None) → find digest_cmp d (all_entries cs) ≡ None
  found_nowhere [] h = refl
  found_nowhere (es ∷ cs) h = find_past es (all_entries cs) (h 0 es (omega arith)) ∙ found_nowhere cs (λ j z within. h (suc j) z (omega (arith, within)))

  -- in no list but the one at this place
  found_at : (cs : List Entries) (i : ℕ) (z : Entries) → i < length cs → ((j : ℕ) (y : Entries) → j < length cs → (j ≡ i → ⊥) → find digest_cmp d (get_or cs j y) ≡ None) → find digest_cmp d (all_entries cs) ≡ find digest_cmp d (get_or cs i z)
  found_at [] i z within h = absurd (omega arith)
  found_at (es ∷ cs) zero z within h = find_within es (all_entries cs) (found_nowhere cs (λ j y inside. h (suc j) y (omega (arith, inside)) (λ same. omega (arith, same))))
  found_at (es ∷ cs) (suc i) z within h = find_past es (all_entries cs) (h 0 es (omega arith) (λ same. omega (arith, same))) ∙ found_at cs i z (omega (arith, within)) (λ j y inside other. h (suc j) y (omega (arith, inside)) (λ same. other (omega (arith, same))))

partition_within : (d : List ℕ) → partition_of d < partition_count
partition_within d = omega arith

-- a digest is held where its partition's list has it
pub get_versions : (cs : List Entries) → AreCopies cs → (d : List ℕ) (z : Entries) → get (versions_of cs) d ≡ find digest_cmp d (get_or cs (partition_of d) z)
get_versions cs h d z =
    get-from_entries total (all_entries cs) d
    ∙ found_at d cs (partition_of d) z (omega (arith, partition_within d, h.count)) (λ j y inside other. none_or _ (λ v e. other (sym ((h.each j y inside).home d v e))))

module _ (cs : List Entries) (h : AreCopies cs) (p : ℕ) (z : Entries) (within : p < partition_count) where
  inside : p < length cs
  inside = omega (arith, within, h.count)

  is_copy : IsCopy p (get_or cs p z)
  is_copy = h.each p z inside

  -- the records of the partition are those of its list
  retained : retain_keys (versions_of cs) (is_of p) ≡ from_sorted (get_or cs p z)
  retained =
      same_map total same_digest _ _ (λ q.
      get-retain_keys (versions_of cs) (is_of p) q (λ x tied. ap (is_of p) (sym (same_digest q x tied)))
      ∙ elim (eqb_tells (partition_of q) p) as (λ _. cond (is_of p q) (get (versions_of cs) q) None ≡ find digest_cmp q (get_or cs p z)) [
        | inl same ↦ ap (λ b. cond b (get (versions_of cs) q) None) same.0 ∙ get_versions cs h q z ∙ ap (λ n. find digest_cmp q (get_or cs n z)) same.1
        | inr other ↦ ap (λ b. cond b (get (versions_of cs) q) None) other.0 ∙ sym (none_or _ (λ v e. other.1 (is_copy.home q v e)))
      ]
      ∙ sym (get-from_sorted digest_cmp (get_or cs p z) q (holds _ is_copy.rising)))

  pub digests_of_copy : digests_of (versions_of cs) p ≡ map (λ e. e.0) (get_or cs p z)
  digests_of_copy = ap keys retained ∙ ap (map (λ e. e.0)) (entries-from_sorted digest_cmp (get_or cs p z) (holds _ is_copy.rising))

  -- another list for the partition
  pub copies_set : (es : Entries) → IsCopy p es → AreCopies (set cs p es)
  copies_set es new = record {
    count = length-set cs p es ∙ h.count;
    each = λ j y lower. elim (eqb_tells j p) as (λ _. IsCopy j (get_or (set cs p es) j y)) [
      | inl same ↦ subst (λ n. IsCopy n (get_or (set cs p es) n y)) (sym same.1) (subst (IsCopy p) (sym (get_or-set_same cs p es y inside)) new)
      | inr other ↦ subst (IsCopy j) (sym (get_or-set_other cs p j es y other.1)) (h.each j y (omega (arith, lower, length-set cs p es)))
    ];
  }

  -- what is then found
  get_set : (es : Entries) → IsCopy p es → (q : List ℕ) → get (versions_of (set cs p es)) q ≡ cond (is_of p q) (find digest_cmp q es) (get (versions_of cs) q)
  get_set es new q =
      get_versions (set cs p es) (copies_set es new) q z
      ∙ elim (eqb_tells (partition_of q) p) as (λ _. find digest_cmp q (get_or (set cs p es) (partition_of q) z) ≡ cond (is_of p q) (find digest_cmp q es) (get (versions_of cs) q)) [
        | inl same ↦ ap (λ n. find digest_cmp q (get_or (set cs p es) n z)) same.1 ∙ ap (find digest_cmp q) (get_or-set_same cs p es z inside) ∙ sym (ap (λ b. cond b (find digest_cmp q es) (get (versions_of cs) q)) same.0)
        | inr other ↦ ap (find digest_cmp q) (get_or-set_other cs p (partition_of q) es z other.1) ∙ sym (get_versions cs h q z) ∙ sym (ap (λ b. cond b (find digest_cmp q es) (get (versions_of cs) q)) other.0)
      ]

  pub is_copy_empty : IsCopy p []
  is_copy_empty = record { rising = refl; home = λ d v e. cc }

  pub versions_clear : versions_of (set cs p []) ≡ without_copy (versions_of cs) p
  versions_clear =
      same_map total same_digest _ _ (λ q.
      get_set [] is_copy_empty q
      ∙ turned (is_of p q) (get (versions_of cs) q)
      ∙ sym (get-retain_keys (versions_of cs) (λ d. not (is_of p d)) q (λ x tied. ap (λ d. not (is_of p d)) (sym (same_digest q x tied)))))
    where
      turned : (b : Bool) (o : Option Version) → cond b None o ≡ cond (not b) o None
      turned true o = refl
      turned false o = refl

  module _ (d : List ℕ) (v : Version) (of : partition_of d ≡ p) where
    home_put : (b : Bool) (q : List ℕ) (w : Version) → eq_by_cmp digest_cmp q d ≡ b → cond b (Some v) (find digest_cmp q (get_or cs p z)) ≡ Some w → partition_of q ≡ p
    home_put true q w e is = ap partition_of (same_digest q d (equal_is _ e)) ∙ of
    home_put false q w e is = is_copy.home q w is

    pub is_copy_put : IsCopy p (put digest_cmp d v (get_or cs p z))
    is_copy_put = record {
      rising = told _ (is_sorted-put digest_cmp total d v (get_or cs p z) (holds _ is_copy.rising));
      home = λ q w e. home_put (eq_by_cmp digest_cmp q d) q w refl (sym (find-put digest_cmp total q d v (get_or cs p z)) ∙ e);
    }

    put_elsewhere : (b : Bool) (q : List ℕ) (o : Option Version) → is_of p q ≡ false → eq_by_cmp digest_cmp q d ≡ b → o ≡ cond b (Some v) o
    put_elsewhere true q o other e =
        let same : partition_of q ≡ p = ap partition_of (same_digest q d (equal_is _ e)) ∙ of in
        elim (eqb_tells (partition_of q) p) as (λ _. o ≡ Some v) [
          | inl here ↦ absurd (false≢true (sym other ∙ here.0))
          | inr apart ↦ absurd (apart.1 same)
        ]
    put_elsewhere false q o other e = refl

    pub versions_put : versions_of (set cs p (put digest_cmp d v (get_or cs p z))) ≡ insert (versions_of cs) d v
    versions_put =
        same_map total same_digest _ _ (λ q.
        get_set (put digest_cmp d v (get_or cs p z)) is_copy_put q
        ∙ elim (eqb_tells (partition_of q) p) as (λ _. cond (is_of p q) (find digest_cmp q (put digest_cmp d v (get_or cs p z))) (get (versions_of cs) q) ≡ cond (eq_by_cmp digest_cmp q d) (Some v) (get (versions_of cs) q)) [
          | inl same ↦ ap (λ b. cond b (find digest_cmp q (put digest_cmp d v (get_or cs p z))) (get (versions_of cs) q)) same.0
              ∙ find-put digest_cmp total q d v (get_or cs p z)
              ∙ ap (cond (eq_by_cmp digest_cmp q d) (Some v)) (sym (get_versions cs h q z ∙ ap (λ n. find digest_cmp q (get_or cs n z)) same.1))
          | inr other ↦ ap (λ b. cond b (find digest_cmp q (put digest_cmp d v (get_or cs p z))) (get (versions_of cs) q)) other.0
              ∙ put_elsewhere (eq_by_cmp digest_cmp q d) q (get (versions_of cs) q) other.0 refl
        ]
        ∙ sym (get-insert total (versions_of cs) d v q))

-- lists without entries hold nothing
pub versions_new : (cs : List Entries) → ((j : ℕ) (z : Entries) → j < length cs → get_or cs j z ≡ []) → versions_of cs ≡ empty
versions_new cs h = ap (λ (es : Entries). from_entries es) (none cs h)
  where
    none : (bs : List Entries) → ((j : ℕ) (z : Entries) → j < length bs → get_or bs j z ≡ []) → all_entries bs ≡ []
    none [] g = refl
    none (es ∷ bs) g = ap (λ fs. fs ++ all_entries bs) (g 0 es (omega arith)) ∙ none bs (λ j z lower. g (suc j) z (omega (arith, lower)))

same_by : (b : Bool) (m : Content) (d q : List ℕ) (v : Version) → (b ≡ true → q ≡ d) → Some v ≡ get m d → cond b (Some v) (get m q) ≡ get m q
same_by true m d q v same is = is ∙ sym (ap (get m) (same refl))
same_by false m d q v same is = refl

-- records that take what they hold stay
insert_same : (m : Content) (d : List ℕ) (v : Version) → Some v ≡ get m d → insert m d v ≡ m
insert_same m d v is =
    same_map total same_digest _ _ (λ q. get-insert total m d v q ∙ same_by (eq_by_cmp digest_cmp q d) m d q v (λ e. same_digest q d (equal_is _ e)) is)

pub joined_newer : (by : Policy) (m : Content) (d : List ℕ) (v : Version) → is_newer by v (get m d) ≡ true → insert m d v ≡ joined by m d v
joined_newer by m d v newer = ap (insert m d) (sym (kept_newer by (get m d) v newer))

pub joined_kept : (by : Policy) (m : Content) (d : List ℕ) (v : Version) → is_newer by v (get m d) ≡ false → m ≡ joined by m d v
joined_kept by m d v older = sym (insert_same m d _ (kept_not_newer by (get m d) v older))

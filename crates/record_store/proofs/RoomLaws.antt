-- The room of a store's partitions.
use Rattle.std.proofs.Common.{◌≡◌, ℕ, zero, suc, ◌+◌, ◌<◌, ◌≤◌, Bool, true, false, cond, List, [], ◌∷◌, take, length, get_or, set, count_by, replicate, Result, Ok, Err, OnOk, OnErr, refl, sym, ap, subst, ◌∙◌, inl, inr, arith}
use Rattle.std.proofs.lemmas.Bool.Decides.{eqb_tells}
use Rattle.std.proofs.lemmas.List.{length-map, get_or-map, get_or-set_same, get_or-set_other, map-set, set-get_or}
use Rattle.std.proofs.lemmas.List.Sums.{sum_by-append, count_by_more_yes, count_by_more_no}
use Rattle.conflict_order.specs.declared.version.Version.{Version}
use Rattle.cluster_types.specs.Copies.{is_of}
use Rattle.cluster_types.specs.Partitions.{partition_count, partition_of}
use Rattle.sorted_chain.specs.Chain.{Chain}
use Rattle.record_store.specs.Store.{room_at, HasRoom, KeepsRoom, UsesRoom}
use Rattle.record_store.specs.Copies.{rooms_of}

count_first : (p : ℕ) (d : List ℕ) (ds : List (List ℕ)) → count_by (is_of p) (d ∷ ds) ≡ (0 + cond (is_of p d) 1 0) + count_by (is_of p) ds
count_first p d ds = sum_by-append (λ x. cond (is_of p x) 1 0) (d ∷ []) ds

count_here : (p : ℕ) (d : List ℕ) (ds : List (List ℕ)) → is_of p d ≡ true → count_by (is_of p) (d ∷ ds) ≡ count_by (is_of p) ds + 1
count_here p d ds is = count_first p d ds ∙ ap (λ b. (0 + cond b 1 0) + count_by (is_of p) ds) is ∙ (omega arith)

count_apart : (p : ℕ) (d : List ℕ) (ds : List (List ℕ)) → is_of p d ≡ false → count_by (is_of p) (d ∷ ds) ≡ count_by (is_of p) ds
count_apart p d ds is = count_first p d ds ∙ ap (λ b. (0 + cond b 1 0) + count_by (is_of p) ds) is ∙ (omega arith)

-- where there is room for a list of digests, there is room for the first
pub room_for_first : (d : List ℕ) (ds : List (List ℕ)) (spare : List ℕ) → HasRoom (d ∷ ds) spare → 0 < room_at spare (partition_of d)
room_for_first d ds spare h = elim (eqb_tells (partition_of d) (partition_of d)) [
  | inl same ↦ omega (arith, h.room (partition_of d) (omega arith), count_here (partition_of d) d ds same.0)
  | inr other ↦ absurd (other.1 refl)
]

-- and once a version came for the first, there is room for the rest
pub room_for_rest : (d : List ℕ) (ds : List (List ℕ)) (old new : List ℕ) → HasRoom (d ∷ ds) old → UsesRoom (partition_of d) old new → HasRoom ds new
room_for_rest d ds old new h uses = record {
  room = λ p within. elim (eqb_tells (partition_of d) p) [
    | inl same ↦ omega (arith, h.room p within, count_here p d ds same.0, subst (λ q. room_at old q ≤ room_at new q + 1) same.1 uses.here)
    | inr other ↦ omega (arith, h.room p within, count_apart p d ds other.0, uses.others p (λ same. other.1 (sym same)))
  ];
}

pub keeps_refl : (spare : List ℕ) → KeepsRoom spare spare
keeps_refl spare = record { kept = λ p. omega arith }

pub keeps_trans : (a b c : List ℕ) → KeepsRoom a b → KeepsRoom b c → KeepsRoom a c
keeps_trans a b c h k = record { kept = λ p. omega (arith, h.kept p, k.kept p) }

keeps_set : (spare : List ℕ) (p r : ℕ) → p < length spare → room_at spare p ≤ r → KeepsRoom spare (set spare p r)
keeps_set spare p r within more = record {
  kept = λ q. elim (eqb_tells q p) [
    | inl same ↦ omega (arith, ap (room_at spare) same.1, ap (room_at (set spare p r)) same.1, get_or-set_same spare p r 0 within, more)
    | inr other ↦ omega (arith, get_or-set_other spare p q r 0 other.1)
  ];
}

uses_set : (spare : List ℕ) (p r : ℕ) → p < length spare → room_at spare p ≤ r + 1 → UsesRoom p spare (set spare p r)
uses_set spare p r within less = record {
  here = omega (arith, get_or-set_same spare p r 0 within, less);
  others = λ q other. get_or-set_other spare p q r 0 other;
}

module _ (cs : List (Chain Version)) (p : ℕ) (within : p < length cs) (x : Chain Version) (at : x ≡ get_or cs p x) (y : Chain Version) where
  rooms_within : p < length (rooms_of cs)
  rooms_within = omega (arith, within, length-map cs (λ (c : Chain Version). c.spare))

  pub room_is : room_at (rooms_of cs) p ≡ x.spare
  room_is = get_or-map (λ (c : Chain Version). c.spare) cs p x 0 within ∙ ap (λ (c : Chain Version). c.spare) (sym at)

  rooms_set : rooms_of (set cs p y) ≡ set (rooms_of cs) p y.spare
  rooms_set = map-set (λ (c : Chain Version). c.spare) cs p y

  pub room_set : room_at (rooms_of (set cs p y)) p ≡ y.spare
  room_set = ap (λ spare. room_at spare p) rooms_set ∙ get_or-set_same (rooms_of cs) p y.spare 0 rooms_within

  pub keeps_at : x.spare ≤ y.spare → KeepsRoom (rooms_of cs) (rooms_of (set cs p y))
  keeps_at more = subst (KeepsRoom (rooms_of cs)) (sym rooms_set) (keeps_set (rooms_of cs) p y.spare rooms_within (omega (arith, more, room_is)))

  pub uses_at : x.spare ≤ y.spare + 1 → UsesRoom p (rooms_of cs) (rooms_of (set cs p y))
  uses_at less = subst (UsesRoom p (rooms_of cs)) (sym rooms_set) (uses_set (rooms_of cs) p y.spare rooms_within (omega (arith, less, room_is)))

  pub same_rooms : y.spare ≡ x.spare → rooms_of (set cs p y) ≡ rooms_of cs
  same_rooms same = rooms_set ∙ ap (set (rooms_of cs) p) (same ∙ sym room_is) ∙ set-get_or (rooms_of cs) p 0

-- a loop that counts the digests of each partition
pub counts_none : (n p : ℕ) → get_or (replicate n zero) p zero ≡ zero
counts_none zero p = refl
counts_none (suc n) zero = refl
counts_none (suc n) (suc p) = counts_none n p

module _ (ds : List (List ℕ)) (i : ℕ) (d : List ℕ) (within : i < length ds) (at : d ≡ get_or ds i d) where
  is_of_at : (p : ℕ) (b : Bool) → is_of p d ≡ b → is_of p (get_or ds i d) ≡ b
  is_of_at p b h = ap (is_of p) (sym at) ∙ h

  pub counts_more : (wanted : List ℕ) → length wanted ≡ partition_count
      → ((p : ℕ) → p < partition_count → get_or wanted p 0 ≡ count_by (is_of p) (take i ds))
      → (p : ℕ) → p < partition_count → get_or (set wanted (partition_of d) (get_or wanted (partition_of d) 0 + 1)) p 0 ≡ count_by (is_of p) (take (i + 1) ds)
  counts_more wanted size counts p inside = elim (eqb_tells (partition_of d) p) [
    | inl same ↦
        ap (λ q. get_or (set wanted q (get_or wanted q 0 + 1)) p 0) same.1
        ∙ get_or-set_same wanted p (get_or wanted p 0 + 1) 0 (omega (arith, size, inside))
        ∙ ap (λ n. n + 1) (counts p inside)
        ∙ sym (count_by_more_yes (is_of p) ds i d within (is_of_at p true same.0))
    | inr other ↦
        get_or-set_other wanted (partition_of d) p (get_or wanted (partition_of d) 0 + 1) 0 (λ same. other.1 (sym same))
        ∙ counts p inside
        ∙ sym (count_by_more_no (is_of p) ds i d within (is_of_at p false other.0))
  ]

  pub room_more : (old new : List ℕ) (n : ℕ) → HasRoom (take i ds) old → KeepsRoom old new → n ≡ count_by (is_of (partition_of d)) (take (i + 1) ds) → n ≤ room_at new (partition_of d) → HasRoom (take (i + 1) ds) new
  room_more old new n h k is enough = record {
    room = λ p inside. elim (eqb_tells (partition_of d) p) [
      | inl same ↦ omega (arith, subst (λ q. n ≡ count_by (is_of q) (take (i + 1) ds)) same.1 is, subst (λ q. n ≤ room_at new q) same.1 enough)
      | inr other ↦ omega (arith, count_by_more_no (is_of p) ds i d within (is_of_at p false other.0), h.room p inside, k.kept p)
    ];
  }

-- what a call that may fail leaves
pub never_less : {A E : Type 0} (r : Result A E) (s t : ℕ) → OnOk r (s ≤ t) → OnErr r (t ≡ s) → s ≤ t
never_less (Ok a) s t ok err = ok
never_less (Err e) s t ok err = omega (arith, err)

pub enough_room : {A E : Type 0} (r : Result A E) (n s t : ℕ) → t ≡ s → OnOk r (n ≤ s) → OnOk r (n ≤ t)
enough_room (Ok a) n s t is ok = omega (arith, ok, is)
enough_room (Err e) n s t is ok = tt

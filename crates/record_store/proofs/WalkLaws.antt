-- What a walk gives.
use Rattle.std.proofs.Common.{◌≡◌, ℕ, zero, suc, ◌<◌, min, Bool, true, false, cond, ◌&&◌, List, [], ◌∷◌, map, take, length, get_or, All, AllPairs, Option, Some, None, is_some, refl, sym, ap, subst, ◌∙◌, arith}
use Rattle.std.specs.List.{list_any}
use Rattle.std.specs.Ordering.{is_lt, eq_by_cmp}
use Rattle.std.specs.declared.cmp.Ordering.{Ordering}
use Rattle.std.specs.declared.cmp.Ordering.TheVariants.{Less, Equal, Greater}
use Rattle.std.specs.FinMap.{is_sorted, get, entries, entries_sorted, retain_keys, get-retain_keys, contains_key-keys}
use Rattle.std.specs.FinMap.Entries.{below_all}
use Rattle.std.proofs.lemmas.List.{length-take, get_or-take}
use Rattle.std.proofs.lemmas.List.Kept.{AllPairs-cons, AllPairs-filter}
use lib.Dec.{T}
use Rattle.conflict_order.specs.declared.version.Version.{Version}
use Rattle.conflict_order.specs.Contents.{Content}
use Rattle.cluster_types.specs.Copies.{is_of, digests_of}
use Rattle.record_store.specs.Store.{digests_above}
use Rattle.record_store.specs.Copies.{Entries}
use Rattle.record_store.proofs.CopyLaws.{digest_cmp, same_digest}

-- the digests rise strictly
abbrev pub Rising : List (List ℕ) → Type 0
Rising ds = AllPairs (λ d e. digest_cmp d e ≡ Less) ds

first : (a b : Bool) → T (a && b) → T a
first true b h = tt
first false b h = h

second : (a b : Bool) → T (a && b) → T b
second true b h = h
second false b h = absurd h

less : (o : Ordering) → T (is_lt o) → o ≡ Less
less Less h = refl
less Equal h = absurd h
less Greater h = absurd h

all_above : (d : List ℕ) (es : Entries) → T (below_all digest_cmp d es) → All (λ e. digest_cmp d e ≡ Less) (map (λ e. e.0) es)
all_above d [] h j z inside = absurd (omega arith)
all_above d (e ∷ es) h zero z inside = less _ (first _ _ h)
all_above d (e ∷ es) h (suc j) z inside = all_above d es (second _ _ h) j z (omega (arith, inside))

entries_rise : (es : Entries) → T (is_sorted digest_cmp es) → Rising (map (λ e. e.0) es)
entries_rise [] h = λ j k z lower inside. absurd (omega arith)
entries_rise (e ∷ es) h = AllPairs-cons (λ d f. digest_cmp d f ≡ Less) e.0 (map (λ e. e.0) es) (all_above e.0 es (first _ _ h)) (entries_rise es (second _ _ h))

pub digests_rise : (versions : Content) (p : ℕ) → Rising (digests_of versions p)
digests_rise versions p = entries_rise (entries (retain_keys versions (is_of p))) (entries_sorted (retain_keys versions (is_of p)))

above_rises : (after : Option (List ℕ)) (ds : List (List ℕ)) → Rising ds
    → Rising (digests_above after ds)
above_rises None ds h = h
above_rises (Some d) ds h = AllPairs-filter (λ d e. digest_cmp d e ≡ Less) (λ e. is_lt (digest_cmp d e)) ds h

taken_rises : (n : ℕ) (ds : List (List ℕ)) → Rising ds → Rising (take n ds)
taken_rises n ds h j k z lower inside =
    let within : k < min n (length ds) = subst (λ m. k < m) (length-take n ds) inside in
    subst (λ x. digest_cmp x (get_or (take n ds) k z) ≡ Less) (sym (get_or-take n ds j z (omega (arith, within, lower))))
    (subst (λ x. digest_cmp (get_or ds j z) x ≡ Less) (sym (get_or-take n ds k z (omega (arith, within))))
    (h j k z lower (omega (arith, within))))

-- what a walk gives rises
pub walk_rises : (versions : Content) (p : ℕ) (after : Option (List ℕ)) (max : ℕ) → Rising (take max (digests_above after (digests_of versions p)))
walk_rises versions p after max = taken_rises max (digests_above after (digests_of versions p)) (above_rises after (digests_of versions p) (digests_rise versions p))

-- the digests of a partition are those of its digests that are held
pub digests_are_held : (versions : Content) (p : ℕ) (q : List ℕ) → list_any (eq_by_cmp digest_cmp q) (digests_of versions p) ≡ (is_of p q && is_some (get versions q))
digests_are_held versions p q =
    sym (contains_key-keys (retain_keys versions (is_of p)) q)
    ∙ ap is_some (get-retain_keys versions (is_of p) q (λ x tied. ap (is_of p) (sym (same_digest q x tied))))
    ∙ kept (is_of p q) (get versions q)
  where
    kept : (b : Bool) (o : Option Version) → is_some (cond b o None) ≡ (b && is_some o)
    kept true o = refl
    kept false o = refl

-- Batches and what is pending keep their ranges: digests rise, and each is held.
use Rattle.std.proofs.Common.{◌≡◌, ℕ, zero, suc, ◌+◌, ◌<◌, ◌≤◌, ◌^◌, ◌==◌, Bool, true, false, not, ◌&&◌, List, [], ◌∷◌, length, map, Option, Some, None, refl, sym, ◌∙◌, subst, arith, inl, T}
use Rattle.std.specs.Prelude.{is_some, option_map, if◌then◌else◌, filter, take}
use Rattle.std.specs.FinMap as finite
use Rattle.std.specs.FinMap.{contains_key-keys, is_sorted, entries_sorted}
use Rattle.std.specs.FinMap.Entries.{below_all}
use Rattle.std.specs.List.{AllByRecursion, AllPairs, cons_option}
use Rattle.std.proofs.lemmas.List.Elements.{All-from_recursion}
use Rattle.std.proofs.lemmas.List.Kept.{AllPairs-cons}
use Rattle.std.specs.declared.cmp.Ordering.{Ordering}
use Rattle.std.specs.declared.cmp.Ordering.TheVariants.{Less, Equal, Greater}
use Rattle.std.specs.Ordering.{nat_cmp, is_lt}
use Rattle.std.specs.Cmp.Lexicographic.{slice_cmp}
use Rattle.conflict_order.specs.declared.version.Version.{Version}
use Rattle.cluster_types.specs.declared.cluster_key.ClusterKey.{ClusterKey}
use Rattle.wire_messages.specs.declared.message.Batch.{Batch}
use Rattle.wire_messages.specs.Keys.{IsKeyField}
use Rattle.wire_messages.specs.Proper.{IsBatch}
use Rattle.wire_messages.specs.Versions.{IsRecord}
use Rattle.node_rules.specs.Batches as batches
use Rattle.node_rules.specs.Batches.{Target, Targets, batch_limit, target_of, records_of, new_batch, fresh_batch, batch_after, next_batch, acked_out, without_batch}
use Rattle.node_rules.specs.Copies.{Content}
use Rattle.node_rules.specs.Facts.{Facts}
use Rattle.node_rules.specs.Notes as notes
use Rattle.node_rules.specs.Tables.{changed_if}
use Rattle.cluster_laws.proofs.At.{some_same, no_some, digests as digest_tells}
use Rattle.run_laws.specs.Ranges.{FitsContent, RisesByDigest, FitsBatch, FitsOut, FitsTarget, FitsTargets}
use Rattle.run_laws.specs.Tied.{Among}
use Rattle.run_laws.proofs.Among.{Of, among_map, among_filter}
use Rattle.run_laws.proofs.Settling.{any_among}
use Rattle.run_laws.proofs.Tables.{tests_same}

-- ---- digests that rise

abbrev AreAbove : List ℕ → List (List ℕ) → Type 0
AreAbove d ds = AllByRecursion (λ (e : List ℕ). slice_cmp nat_cmp d e ≡ Less) ds

above_filter : (test : List ℕ → Bool) (d : List ℕ) (ds : List (List ℕ)) → AreAbove d ds → AreAbove d (filter test ds)
above_filter test d [] h = tt
above_filter test d (e ∷ ds) h = go (test e) (above_filter test d ds h.1)
  where
    go : (b : Bool) → AreAbove d (filter test ds) → AreAbove d (if b then e ∷ filter test ds else filter test ds)
    go true r = (h.0, r)
    go false r = r

pub rises_filter : (test : List ℕ → Bool) (ds : List (List ℕ)) → RisesByDigest ds
    → RisesByDigest (filter test ds)
rises_filter test [] h = tt
rises_filter test (d ∷ ds) h = go (test d) (rises_filter test ds h.1)
  where
    go : (b : Bool) → RisesByDigest (filter test ds) → RisesByDigest (if b then d ∷ filter test ds else filter test ds)
    go true r = (above_filter test d ds h.0, r)
    go false r = r

above_take : (n : ℕ) (d : List ℕ) (ds : List (List ℕ)) → AreAbove d ds → AreAbove d (take n ds)
above_take zero d ds h = tt
above_take (suc n) d [] h = tt
above_take (suc n) d (e ∷ ds) h = (h.0, above_take n d ds h.1)

rises_take : (n : ℕ) (ds : List (List ℕ)) → RisesByDigest ds → RisesByDigest (take n ds)
rises_take zero ds h = tt
rises_take (suc n) [] h = tt
rises_take (suc n) (d ∷ ds) h = (above_take n d ds h.0, rises_take n ds h.1)

is_less : (o : Ordering) → T (is_lt o) → o ≡ Less
is_less Less h = refl
is_less Equal h = absurd h
is_less Greater h = absurd h

both_true : (a b : Bool) → T (a && b) → T a × T b
both_true true b h = (tt, h)
both_true false b h = absurd h

above_keys : (d : List ℕ) (es : List (List ℕ × Version)) → T (below_all (slice_cmp nat_cmp) d es) → AreAbove d (map (λ (e : List ℕ × Version). e.0) es)
above_keys d [] h = tt
above_keys d (e ∷ es) h = let p : T (is_lt (slice_cmp nat_cmp d e.0)) × T (below_all (slice_cmp nat_cmp) d es) = both_true _ _ h in (is_less _ p.0, above_keys d es p.1)

rises_keys : (es : List (List ℕ × Version)) → T (is_sorted (slice_cmp nat_cmp) es) → RisesByDigest (map (λ (e : List ℕ × Version). e.0) es)
rises_keys [] h = tt
rises_keys (e ∷ es) h = let p : T (below_all (slice_cmp nat_cmp) e.0 es) × T (is_sorted (slice_cmp nat_cmp) es) = both_true _ _ h in (above_keys e.0 es p.0, rises_keys es p.1)

digests_rise : (c : Content) → RisesByDigest (finite.keys c)
digests_rise c = rises_keys (finite.entries c) (entries_sorted c)

key_held : (c : Content) (d : List ℕ) → Among (finite.keys c) d → is_some (finite.get c d) ≡ true
key_held c d a = contains_key-keys c d ∙ tests_same (finite.keys c) d ∙ any_among (λ (e : List ℕ). _) (finite.keys c) d a (digest_tells.here d)

-- ---- records

abbrev Record : Type 0
Record = List ℕ × Version

abbrev Higher : List ℕ → List Record → Type 0
Higher d rs = AllByRecursion (λ (r : Record). slice_cmp nat_cmp d r.0 ≡ Less) rs

abbrev RecordsRise : List Record → Type 0
RecordsRise [] = Unit {0}
RecordsRise (r ∷ rs) = Higher r.0 rs × RecordsRise rs

higher_records : (c : Content) (d : List ℕ) (ds : List (List ℕ)) → AreAbove d ds → Higher d (records_of c ds)
higher_records c d [] h = tt
higher_records c d (e ∷ ds) h = go (finite.get c e) (higher_records c d ds h.1)
  where
    go : (o : Option Version) → Higher d (records_of c ds) → Higher d (cons_option (option_map (λ v. (e, v)) o) (records_of c ds))
    go None r = r
    go (Some v) r = (h.0, r)

records_rise : (c : Content) (ds : List (List ℕ)) → RisesByDigest ds → RecordsRise (records_of c ds)
records_rise c [] h = tt
records_rise c (d ∷ ds) h = go (finite.get c d) (records_rise c ds h.1)
  where
    go : (o : Option Version) → RecordsRise (records_of c ds) → RecordsRise (cons_option (option_map (λ v. (d, v)) o) (records_of c ds))
    go None r = r
    go (Some v) r = (higher_records c d ds h.0, r)

abbrev BelowNext : Record → Record → Type 0
BelowNext a b = slice_cmp nat_cmp a.0 b.0 ≡ Less

all_pairs : (rs : List Record) → RecordsRise rs → AllPairs BelowNext rs
all_pairs [] h = λ i j d lt within. absurd (omega (arith, within))
all_pairs (r ∷ rs) h = AllPairs-cons BelowNext r rs (All-from_recursion (BelowNext r) rs h.0) (all_pairs rs h.1)

records_fit : (c : Content) (ds : List (List ℕ)) → FitsContent c → AllByRecursion IsRecord (records_of c ds)
records_fit c [] h = tt
records_fit c (d ∷ ds) h = go (finite.get c d) refl (records_fit c ds h)
  where
    go : (o : Option Version) → finite.get c d ≡ o → AllByRecursion IsRecord (records_of c ds) → AllByRecursion IsRecord (cons_option (option_map (λ v. (d, v)) o) (records_of c ds))
    go None e r = r
    go (Some v) e r = (record { digest = (h.each d v e).digest; version = (h.each d v e).version }, r)

few_records : (c : Content) (n : ℕ) (ds : List (List ℕ)) → length (records_of c (take n ds)) ≤ n
few_records c zero ds = omega arith
few_records c (suc n) [] = omega arith
few_records c (suc n) (d ∷ ds) = go (finite.get c d) (few_records c n ds)
  where
    go : (o : Option Version) → length (records_of c (take n ds)) ≤ n → length (cons_option (option_map (λ v. (d, v)) o) (records_of c (take n ds))) ≤ suc n
    go None r = omega (arith, r)
    go (Some v) r = omega (arith, r)

some_records : (c : Content) (n : ℕ) (d : List ℕ) (ds : List (List ℕ)) → 0 < n → is_some (finite.get c d) ≡ true → 1 ≤ length (records_of c (take n (d ∷ ds)))
some_records c zero d ds lt h = absurd (omega (arith, lt))
some_records c (suc n) d ds lt h = go (finite.get c d) h
  where
    go : (o : Option Version) → is_some o ≡ true → 1 ≤ length (cons_option (option_map (λ v. (d, v)) o) (records_of c (take n ds)))
    go None e = absurd (grind (arith, e))
    go (Some v) e = omega arith

-- ---- the next batch

new_batch_fits : (lines : ℕ) (k : ClusterKey) (c : Content) (t : Target) (d : List ℕ) (ds : List (List ℕ)) → lines + 1 < 2 ^ 32 → IsKeyField k → FitsContent c → FitsTarget lines c t → t.pending ≡ d ∷ ds → IsBatch (new_batch k c t)
new_batch_fits lines k c t d ds lt key h x e = record {
  key = key;
  number = record { positive = omega arith; fits = next t.batches x.batches };
  records = record {
    some = subst (λ (es : List (List ℕ)). 1 ≤ length (records_of c (take batch_limit es))) (sym e) (some_records c batch_limit d ds (omega arith) (x.held d (subst (λ (es : List (List ℕ)). Among es d) (sym e) (inl refl))));
    limit = few_records c batch_limit t.pending;
    rising = all_pairs (records_of c (take batch_limit t.pending)) (records_rise c (take batch_limit t.pending) (rises_take batch_limit t.pending x.rises));
    each = All-from_recursion IsRecord (records_of c (take batch_limit t.pending)) (records_fit c (take batch_limit t.pending) h);
  };
}
  where
    next : (n : ℕ) → n ≤ lines → n + 1 < 2 ^ 32
    next n le = omega (arith, le, lt)

pub next_batch_fits : (lines : ℕ) (k : ClusterKey) (c : Content) (t : Target) (b : Batch) → lines + 1 < 2 ^ 32 → IsKeyField k → FitsContent c → FitsTarget lines c t → next_batch k c t ≡ Some b → IsBatch b
next_batch_fits lines k c t b lt key h x e = go t.out x.out e
  where
    fresh : (ds : List (List ℕ)) → t.pending ≡ ds → fresh_batch k c t ds ≡ Some b → IsBatch b
    fresh [] i j = no_some j
    fresh (d ∷ ds) i j = subst IsBatch (some_same j) (new_batch_fits lines k c t d ds lt key h x i)

    go : (o : Option Batch) → FitsOut lines o → batch_after k c t o ≡ Some b → IsBatch b
    go None f j = fresh t.pending refl j
    go (Some a) f j = subst IsBatch (some_same j) f.batch

-- ---- targets

out_more : (lines : ℕ) (o : Option Batch) → FitsOut lines o → FitsOut (lines + 1) o
out_more lines None h = tt
out_more lines (Some b) h = record { number = more b.number h.number; batch = h.batch }
  where
    more : (a : ℕ) → a ≤ lines → a ≤ lines + 1
    more a le = omega (arith, le)

-- more lines, and a content that holds what is pending
pub target_on : (lines : ℕ) (c e : Content) (t : Target) → ((d : List ℕ) → Among t.pending d → is_some (finite.get c d) ≡ true → is_some (finite.get e d) ≡ true) → FitsTarget lines c t → FitsTarget lines e t
target_on lines c e t holds h = record { rises = h.rises; held = λ d a. holds d a (h.held d a); batches = h.batches; out = h.out }

pub target_more : (lines : ℕ) (c : Content) (t : Target) → FitsTarget lines c t → FitsTarget (lines + 1) c t
target_more lines c t h = record { rises = h.rises; held = h.held; batches = more t.batches h.batches; out = out_more lines t.out h.out }
  where
    more : (a : ℕ) → a ≤ lines → a ≤ lines + 1
    more a le = omega (arith, le)

pub new_targets : (lines : ℕ) (f : Facts) (ns : List ℕ) → FitsTargets lines f.store.content (map (notes.target_for f) ns)
new_targets lines f ns t a = let o : Of (notes.target_for f) ns t = among_map (notes.target_for f) ns t a in subst (FitsTarget lines f.store.content) o.made (record {
  rises = rises_filter (notes.is_for f o.from) (finite.keys f.store.content) (digests_rise f.store.content);
  held = λ d x. key_held f.store.content d (among_filter (notes.is_for f o.from) (finite.keys f.store.content) d x).there;
  batches = omega arith;
  out = tt;
})

pub acked_targets : (lines : ℕ) (c : Content) (ts : Targets) (from number : ℕ) → FitsTargets lines c ts → FitsTargets lines c (batches.acking ts from number)
acked_targets lines c ts from number h t a = let o : Of (λ (x : Target). changed_if (λ y. acked_out y number y.out) x (x.node == from)) ts t = among_map (λ (x : Target). changed_if (λ y. acked_out y number y.out) x (x.node == from)) ts t a in
    subst (FitsTarget lines c) o.made (go o.from (h o.from o.there) (o.from.node == from))
  where
    without : (x : Target) → FitsTarget lines c x → (b : Batch) → (q : Bool) → FitsTarget lines c (if q then without_batch x b else x)
    without x f b true = record {
      rises = rises_filter (λ d. not (batches.is_among b.records d)) x.pending f.rises;
      held = λ d i. f.held d (among_filter (λ e. not (batches.is_among b.records e)) x.pending d i).there;
      batches = f.batches;
      out = tt;
    }
    without x f b false = f

    acked : (x : Target) → FitsTarget lines c x → (q : Option Batch) → FitsTarget lines c (acked_out x number q)
    acked x f None = f
    acked x f (Some b) = without x f b (b.number == number)

    go : (x : Target) → FitsTarget lines c x → (q : Bool) → FitsTarget lines c (changed_if (λ y. acked_out y number y.out) x q)
    go x f true = acked x f x.out
    go x f false = f

pub sent_targets : (lines : ℕ) (c : Content) (ts : Targets) (to : ℕ) (b : Batch) → FitsBatch lines b → FitsTargets lines c ts → FitsTargets lines c (batches.sending ts to b)
sent_targets lines c ts to b fb h t a = let o : Of (λ (x : Target). changed_if (λ y. record y { out = Some b; batches = b.number }) x (x.node == to)) ts t = among_map (λ (x : Target). changed_if (λ y. record y { out = Some b; batches = b.number }) x (x.node == to)) ts t a in
    subst (FitsTarget lines c) o.made (go o.from (h o.from o.there) (o.from.node == to))
  where
    go : (x : Target) → FitsTarget lines c x → (q : Bool) → FitsTarget lines c (changed_if (λ y. record y { out = Some b; batches = b.number }) x q)
    go x f true = record { rises = f.rises; held = f.held; batches = fb.number; out = fb }
    go x f false = f

-- What is above the first records of a rising list, and of what a node holds of a partition.
use Rattle.std.proofs.Common.{◌≡◌, ℕ, zero, suc, Bool, true, false, cond, T, ◌&&◌, List, [], ◌∷◌, filter, take, drop, length, nat_lt, Some, None, option_map, refl, sym, ap, ap₂, ◌∙◌}
use Rattle.std.specs.declared.cmp.Ordering.{Ordering}
use Rattle.std.specs.declared.cmp.Ordering.TheVariants.{Less, Equal, Greater}
use Rattle.std.specs.Ordering.{nat_cmp, is_eq, is_gt, is_lt, eq_by_cmp, ordering_reverse}
use Rattle.std.specs.Cmp.Lexicographic.{slice_cmp}
use Rattle.std.specs.FinMap as finite
use Rattle.std.specs.FinMap.{nat_cmp-IsAntisymmetric, slice_cmp-IsAntisymmetric}
use Rattle.std.specs.FinMap.Entries.{find, is_sorted, below_all}
use Rattle.std.specs.List.{AllByRecursion, cons_option}
use Rattle.std.specs.List.Sorted.{IsStrictlySortedBy}
use Rattle.std.proofs.lemmas.Cmp.{nat_list_cmp_total}
use Rattle.std.proofs.lemmas.List.{take-map, length-map}
use Rattle.conflict_order.specs.Contents.{Content, Record}
use Rattle.conflict_order.specs.declared.version.Version.{Version}
use Rattle.cluster_types.specs.Copies.{is_of}
use Rattle.node_rules.specs.Batches.{records_of}
use Rattle.node_rules.specs.Facts.{Facts}
use Rattle.request_rules.specs.declared.scanning.Scanning.{Scanning}
use Rattle.request_rules.specs.Pages.{digests_behind}
use Rattle.request_rules.specs.Scans.{IsNextPage, last_digest, page_front, position, stands_with}
use Rattle.part_scan.specs.Cuts.{digests_in, page_behind, records_held}

abbrev cmp : List ℕ → List ℕ → Ordering
cmp = slice_cmp nat_cmp

-- the digest is below all of these
abbrev Below : List ℕ → List (List ℕ) → Type 0
Below d ds = AllByRecursion (λ e. cmp d e ≡ Less) ds

not_back : (d e : List ℕ) → cmp d e ≡ Less → is_lt (cmp e d) ≡ false
not_back d e h = ap is_lt (nat_list_cmp_total.antisymm e d ∙ ap ordering_reverse h)

not_itself : (d : List ℕ) → is_lt (cmp d d) ≡ false
not_itself d = go (cmp d d) (nat_list_cmp_total.antisymm d d)
  where
    go : (o : Ordering) → o ≡ ordering_reverse o → is_lt o ≡ false
    go Less e = ap is_lt e
    go Equal e = refl
    go Greater e = refl

all_above : (d : List ℕ) (ds : List (List ℕ)) → Below d ds → filter (λ e. is_lt (cmp d e)) ds ≡ ds
all_above d [] h = refl
all_above d (e ∷ ds) h =
    ap (λ b. cond b (e ∷ filter (λ e. is_lt (cmp d e)) ds) (filter (λ e. is_lt (cmp d e)) ds)) (ap is_lt h.0)
    ∙ ap (λ es. e ∷ es) (all_above d ds h.1)

-- the digest of the last of the records, or this one
abbrev last_or : List ℕ → List Record → List ℕ
last_or d [] = d
last_or d (r ∷ rs) = last_or r.0 rs

last_is : (r : Record) (rs : List Record) → last_digest (r ∷ rs) ≡ Some (last_or r.0 rs)
last_is r [] = refl
last_is r (q ∷ rs) = last_is q rs

last_above : (d a : List ℕ) (rs : List Record) (n : ℕ) → cmp d a ≡ Less → Below d (digests_in rs) → cmp d (last_or a (take n rs)) ≡ Less
last_above d a [] zero h hs = h
last_above d a [] (suc n) h hs = h
last_above d a (r ∷ rs) zero h hs = h
last_above d a (r ∷ rs) (suc n) h hs = last_above d r.0 rs n hs.0 hs.1

without_first : (a l : List ℕ) (ds : List (List ℕ)) → is_lt (cmp l a) ≡ false → filter (λ e. is_lt (cmp l e)) (a ∷ ds) ≡ filter (λ e. is_lt (cmp l e)) ds
without_first a l ds h = ap (λ b. cond b (a ∷ filter (λ e. is_lt (cmp l e)) ds) (filter (λ e. is_lt (cmp l e)) ds)) h

behind : (a : List ℕ) (rs : List Record) (n : ℕ) → Below a (digests_in rs) → IsStrictlySortedBy cmp (digests_in rs) → filter (λ e. is_lt (cmp (last_or a (take n rs)) e)) (a ∷ digests_in rs) ≡ digests_in (drop n rs)
unfolding IsStrictlySortedBy
behind a [] zero h s = without_first a a [] (not_itself a)
behind a [] (suc n) h s = without_first a a [] (not_itself a)
behind a (r ∷ rs) zero h s = without_first a a (digests_in (r ∷ rs)) (not_itself a) ∙ all_above a (digests_in (r ∷ rs)) h
behind a (r ∷ rs) (suc n) h s =
    let l = last_or r.0 (take n rs) in
    without_first a l (digests_in (r ∷ rs)) (not_back a l (last_above a r.0 rs n h.0 h.1))
    ∙ behind r.0 rs n s.0 s.1

pub rest : (rs : List Record) (n : ℕ) → IsStrictlySortedBy (slice_cmp nat_cmp) (digests_in rs) → digests_behind (last_digest (take n rs)) (digests_in rs) ≡ digests_in (drop n rs)
unfolding IsStrictlySortedBy
rest [] zero s = refl
rest [] (suc n) s = refl
rest (r ∷ rs) zero s = refl
rest (r ∷ rs) (suc n) s = ap (λ o. digests_behind o (digests_in (r ∷ rs))) (last_is r (take n rs)) ∙ behind r.0 rs n s.0 s.1

-- ---- the records of a partition, as a node holds them

both : (a b : Bool) → T (a && b) → T a × T b
both true b h = (tt, h)
both false b h = absurd h

less : (o : Ordering) → T (is_lt o) → o ≡ Less
less Less h = refl
less Equal h = absurd h
less Greater h = absurd h

all_below : (d : List ℕ) (es : List Record) → T (below_all cmp d es) → Below d (digests_in es)
all_below d [] h = tt
all_below d (e ∷ es) h = let p : T (is_lt (cmp d e.0)) × T (below_all cmp d es) = both _ _ h in (less _ p.0, all_below d es p.1)

rising : (es : List Record) → T (is_sorted cmp es) → IsStrictlySortedBy cmp (digests_in es)
unfolding IsStrictlySortedBy
rising [] h = tt
rising (e ∷ es) h = let p : T (below_all cmp e.0 es) × T (is_sorted cmp es) = both _ _ h in (all_below e.0 es p.0, rising es p.1)

-- each entry of rising ones is found
abbrev Found : List Record → List Record → Type 0
Found all es = AllByRecursion (λ (e : Record). find cmp e.0 all ≡ Some e.1) es

apart : (d e : List ℕ) → cmp d e ≡ Less → eq_by_cmp cmp e d ≡ false
apart d e h = ap is_eq (nat_list_cmp_total.antisymm e d ∙ ap ordering_reverse h)

itself : (d : List ℕ) → eq_by_cmp cmp d d ≡ true
itself d = go (cmp d d) (nat_list_cmp_total.antisymm d d)
  where
    go : (o : Ordering) → o ≡ ordering_reverse o → is_eq o ≡ true
    go Less e = ap is_gt e
    go Equal e = refl
    go Greater e = ap is_lt e

found_behind : (r : Record) (all es : List Record) → Below r.0 (digests_in es) → Found all es → Found (r ∷ all) es
found_behind r all [] h f = tt
found_behind r all (e ∷ es) h f =
    (ap (λ b. cond b (Some r.1) (find cmp e.0 all)) (apart r.0 e.0 h.0) ∙ f.0, found_behind r all es h.1 f.1)

each_found : (es : List Record) → IsStrictlySortedBy cmp (digests_in es) → Found es es
unfolding IsStrictlySortedBy
each_found [] s = tt
each_found (r ∷ es) s =
    (ap (λ b. cond b (Some r.1) (find cmp r.0 es)) (itself r.0), found_behind r es es s.0 (each_found es s.1))

abbrev Held : Content → List Record → Type 0
Held content es = AllByRecursion (λ (e : Record). finite.get content e.0 ≡ Some e.1) es

-- what is kept of a partition is held
kept : (content : Content) (p : ℕ) (d : List ℕ) (v : Version) → find cmp d (finite.entries (finite.retain_keys content (is_of p))) ≡ Some v → finite.get content d ≡ Some v
kept content p d v e =
    go (is_of p d) (sym (finite.get-retain_keys content (is_of p) d (λ x tied. ap (is_of p) (sym (slice_cmp-IsAntisymmetric nat_cmp-IsAntisymmetric d x tied)))) ∙ finite.get-entries (finite.retain_keys content (is_of p)) d ∙ e)
  where
    go : (b : Bool) → cond b (finite.get content d) None ≡ Some v → finite.get content d ≡ Some v
    go true h = h
    go false h = absurd (let wrong : None ≡ Some v = h in cc)

each_kept : (content : Content) (p : ℕ) (es : List Record) → Found (finite.entries (finite.retain_keys content (is_of p))) es → Held content es
each_kept content p [] f = tt
each_kept content p (e ∷ es) f = (kept content p e.0 e.1 f.0, each_kept content p es f.1)

-- the records of digests whose versions are these
records_are : (content : Content) (es : List Record) → Held content es → records_of content (digests_in es) ≡ es
records_are content [] h = refl
records_are content (e ∷ es) h =
    ap₂ (λ o (rs : List Record). cons_option (option_map (λ v. (e.0, v)) o) rs) h.0 (records_are content es h.1)

held_front : (content : Content) (n : ℕ) (es : List Record) → Held content es → Held content (take n es)
held_front content zero [] h = tt
held_front content (suc n) [] h = tt
held_front content zero (e ∷ es) h = tt
held_front content (suc n) (e ∷ es) h = (h.0, held_front content n es h.1)

held_rest : (content : Content) (n : ℕ) (es : List Record) → Held content es → Held content (drop n es)
held_rest content zero es h = h
held_rest content (suc n) [] h = tt
held_rest content (suc n) (e ∷ es) h = held_rest content n es h.1

all_rise : (content : Content) (p : ℕ) → IsStrictlySortedBy cmp (digests_in (finite.entries (finite.retain_keys content (is_of p))))
all_rise content p = rising (finite.entries (finite.retain_keys content (is_of p))) (finite.entries_sorted (finite.retain_keys content (is_of p)))

all_held : (content : Content) (p : ℕ) → Held content (finite.entries (finite.retain_keys content (is_of p)))
all_held content p = let es = finite.entries (finite.retain_keys content (is_of p)) in each_kept content p es (each_found es (all_rise content p))

-- a page of rising records that are held, behind the first ones
pub next_page : (f : Facts) (from s so_far most : ℕ) (x : Scanning) → x.records ≡ take so_far (records_held f x.partition) → stands_with (page_front from (page_behind f s x.partition most x)) x.first ≡ true → IsNextPage (records_held f x.partition) so_far most from x (page_behind f s x.partition most x)
next_page f from s so_far most x came stands =
    let content = f.store.content in
    let p = x.partition in
    let es : List Record = finite.entries (finite.retain_keys content (is_of p)) in
    let held = all_held content p in
    let are : records_held f p ≡ es = records_are content es held in
    let at : position x ≡ last_digest (take so_far es) = ap last_digest (came ∙ ap (λ rs. take so_far rs) are) in
    let left : digests_behind (position x) (digests_in es) ≡ digests_in (drop so_far es)
    = ap (λ o. digests_behind o (digests_in es)) at ∙ rest es so_far (all_rise content p) in
    record {
      records = came;
      begins = refl;
      one_content = stands;
      part =
          ap (λ ds. records_of content (take most ds)) left
          ∙ ap (λ ds. records_of content ds) (take-map (λ (r : Record). r.0) most (drop so_far es))
          ∙ records_are content (take most (drop so_far es)) (held_front content most (drop so_far es) (held_rest content so_far es held))
          ∙ ap (λ rs. take most (drop so_far rs)) (sym are);
      more =
          ap (λ ds. nat_lt most (length ds)) left
          ∙ ap (λ n. nat_lt most n) (length-map (drop so_far es) (λ (r : Record). r.0))
          ∙ ap (λ rs. nat_lt most (length (drop so_far rs))) (sym are);
    }

-- The first of rising digests, and those that are left without them.
use Rattle.std.proofs.Common.{◌≡◌, ◌≢◌, ℕ, zero, suc, ◌+◌, ◌<◌, ◌≤◌, Bool, true, false, cond, not, ◌||◌, List, [], ◌∷◌, ◌++◌, min, All, AllPairs, map, take, drop, filter, length, get_or, bytes_eq, true≢false, refl, sym, ap, subst, ◌∙◌, take-append-drop, length-drop, length-take-le, get_or-drop, get_or-take, arith}
use Rattle.std.specs.List.{list_any}
use Rattle.std.specs.declared.cmp.Ordering.{Ordering}
use Rattle.std.specs.declared.cmp.Ordering.TheVariants.{Less, Equal, Greater}
use Rattle.std.specs.Ordering.{nat_cmp, ordering_reverse}
use Rattle.std.specs.Cmp.Lexicographic.{slice_cmp, nat_list_eq_equiv}
use Rattle.std.proofs.lemmas.Cmp.{nat_list_cmp_total}
use Rattle.std.proofs.lemmas.List.Elements.{All-tail, filter-append, filter_agree, filter_map-append}
use Rattle.std.proofs.lemmas.List.{get_or_default, length-map, length-take, take_more}
use Rattle.std.proofs.lemmas.List.Folds.{list_any_at, list_any_none}
use Rattle.std.proofs.lemmas.Slice.Eq.{bytes_eq-Decides}
use Rattle.conflict_order.specs.declared.version.Version.{Version}
use Rattle.wire_messages.specs.declared.message.Batch.{Batch}
use Rattle.node_rules.specs.Batches.{batch_limit, is_among, records_of}
use Rattle.node_rules.specs.Batches.{Target}
use Rattle.node_rules.specs.Copies.{Content}
use Rattle.cluster_types.specs.declared.cluster_key.ClusterKey.{ClusterKey}
use Rattle.std.specs.FinMap.{get}
use Rattle.std.specs.Prelude.{IsSome, Option, Some, None}
use Rattle.std.proofs.lemmas.Option.{none-some}
use Rattle.emigrate.specs.Going.{AreRising, IsFirst, IsNext, batch_digests}

abbrev digest_cmp : List ℕ → List ℕ → Ordering
digest_cmp = slice_cmp nat_cmp

abbrev among : List (List ℕ) → List ℕ → Bool
among es d = list_any (λ e. bytes_eq e d) es

-- being among records is being among their digests
among_digests : (rs : List (List ℕ × Version)) (d : List ℕ) → is_among rs d ≡ among (map (λ (r : List ℕ × Version). r.0) rs) d
among_digests [] d = refl
among_digests (r ∷ rs) d = ap (λ (b : Bool). bytes_eq r.0 d || b) (among_digests rs d)

not_less : (o : Ordering) → o ≡ Less → o ≡ ordering_reverse o → ⊥
not_less Less e f = cc f
not_less Equal e f = cc e
not_less Greater e f = cc e

-- a digest differs from a lower one
other_step : (e d : List ℕ) (b : Bool) → bytes_eq e d ≡ b → digest_cmp e d ≡ Less → b ≡ false
other_step e d true is lower =
    absurd (not_less (digest_cmp e e) (subst (λ (x : List ℕ). digest_cmp e x ≡ Less) (sym ((bytes_eq-Decides e d).0 is)) lower) (nat_list_cmp_total.antisymm e e))
other_step e d false is lower = refl

apart : (e d : List ℕ) → digest_cmp e d ≡ Less → bytes_eq e d ≡ false
apart e d lower = other_step e d (bytes_eq e d) refl lower

pub all_in : (p : List ℕ → Bool) (xs : List (List ℕ)) → All (λ x. p x ≡ true) xs → filter p xs ≡ xs
all_in p [] h = refl
all_in p (x ∷ xs) h =
    ap (λ b. cond b (x ∷ filter p xs) (filter p xs)) (h 0 x (omega arith))
    ∙ ap (λ (ys : List (List ℕ)). x ∷ ys) (all_in p xs (All-tail (λ y. p y ≡ true) x xs h))

pub none_in : (p : List ℕ → Bool) (xs : List (List ℕ)) → All (λ x. p x ≡ false) xs → filter p xs ≡ []
none_in p [] h = refl
none_in p (x ∷ xs) h =
    ap (λ b. cond b (x ∷ filter p xs) (filter p xs)) (h 0 x (omega arith)) ∙ none_in p xs (All-tail (λ y. p y ≡ false) x xs h)

itself_among : (es : List (List ℕ)) → All (λ d. not (among es d) ≡ false) es
itself_among es = λ i d within.
    ap not (list_any_at (λ e. bytes_eq e (get_or es i d)) es i d within (nat_list_eq_equiv.refl (get_or es i d)))

-- those after the first k are none of them
later_among : (ds : List (List ℕ)) (k : ℕ) → k ≤ length ds → AllPairs (λ a b. digest_cmp a b ≡ Less) ds → All (λ d. not (among (take k ds) d) ≡ true) (drop k ds)
later_among ds k le h = λ j z within.
    let here : get_or (drop k ds) j z ≡ get_or ds (k + j) z = get_or-drop k ds j z in
    let place : k + j < length ds = omega (arith, within, length-drop k ds) in
    ap not (list_any_none (λ e. bytes_eq e (get_or (drop k ds) j z)) (take k ds) (λ i y inside.
    let first : i < k = omega (arith, inside, length-take-le k ds le) in
    ap (λ (e : List ℕ). bytes_eq e (get_or (drop k ds) j z)) (get_or-take k ds i y first)
    ∙ ap (λ (d : List ℕ). bytes_eq (get_or ds i y) d) (here ∙ get_or_default ds (k + j) z y place)
    ∙ apart (get_or ds i y) (get_or ds (k + j) y) (h i (k + j) y (omega (arith, first)) place)))

-- without its records' digests, which are the first, those after them are left
pub without_first : (rs : List (List ℕ × Version)) (ds : List (List ℕ)) (k : ℕ) → k ≤ length ds → AreRising ds → map (λ (r : List ℕ × Version). r.0) rs ≡ take k ds
    → filter (λ d. not (is_among rs d)) ds ≡ drop k ds
without_first rs ds k le h are =
    let es = take k ds in
    let test : List ℕ → Bool = λ d. not (among es d) in
    filter_agree (λ d. not (is_among rs d)) test (λ d. ap not (among_digests rs d ∙ ap (λ (xs : List (List ℕ)). among xs d) are)) ds
    ∙ ap (filter test) (sym (take-append-drop k ds))
    ∙ filter-append test es (drop k ds)
    ∙ ap (λ (xs : List (List ℕ)). xs ++ filter test (drop k ds)) (none_in test es (itself_among es))
    ∙ all_in test (drop k ds) (later_among ds k le h.rising)

-- ---- batches

pub take_taken : {X : Type 0} → (n : ℕ) (xs : List X) → take (length (take n xs)) xs ≡ take n xs
take_taken zero xs = refl
take_taken (suc n) [] = refl
take_taken (suc n) (x ∷ xs) = ap (λ (ys : List _). x ∷ ys) (take_taken n xs)

-- what is left once the batch that is out is acknowledged
pub acked_left : (pending : List (List ℕ)) (b : Batch) → AreRising pending → IsFirst pending b → drop (length b.records) pending ≡ filter (λ d. not (is_among b.records d)) pending
acked_left pending b rising first =
    let size : length (batch_digests b) ≡ length b.records = length-map b.records (λ (r : List ℕ × Version). r.0) in
    let taken : length (batch_digests b) ≡ length (take (length b.records) pending) = ap length first.digests in
    let le : length b.records ≤ length pending = omega (arith, size, taken, length-take (length b.records) pending) in
    sym (without_first b.records pending (length b.records) le rising first.digests)

some_taken : (ds : List (List ℕ)) → ds ≢ [] → 0 < length (take batch_limit ds)
some_taken [] h = absurd (h refl)
some_taken (d ∷ ds) h = omega (arith, length-take batch_limit (d ∷ ds))

-- a batch of the least digests, of which there are some
pub least_first : (pending : List (List ℕ)) (b : Batch) → pending ≢ [] → batch_digests b ≡ take batch_limit pending → IsFirst pending b
least_first pending b some are =
    let size : length (batch_digests b) ≡ length b.records = length-map b.records (λ (r : List ℕ × Version). r.0) in
    let taken : length (batch_digests b) ≡ length (take batch_limit pending) = ap length are in
    let same : length (take batch_limit pending) ≡ length b.records = sym taken ∙ size in
    record {
      some = omega (arith, some_taken pending some, same);
      digests = are ∙ sym (take_taken batch_limit pending) ∙ ap (λ (n : ℕ). take n pending) same;
    }

-- one more record
pub records_more : (content : Content) (ds : List (List ℕ)) (i : ℕ) (d : List ℕ) → i < length ds → d ≡ get_or ds i d → records_of content (take (i + 1) ds) ≡ records_of content (take i ds) ++ records_of content (d ∷ [])
records_more content ds i d within read =
    ap (records_of content) (take_more ds i d within ∙ ap (λ (e : List ℕ). take i ds ++ e ∷ []) (sym read)) ∙ filter_map-append _ (take i ds) (d ∷ [])

pub all_taken : (ds : List (List ℕ)) (i n : ℕ) → min n (length ds) ≤ i → i ≤ n → take i ds ≡ take n ds
all_taken ds i n low high = sym (take_taken i ds) ∙ ap (λ (k : ℕ). take k ds) (length-take i ds ∙ same ∙ sym (length-take n ds)) ∙ take_taken n ds
  where
    same : min i (length ds) ≡ min n (length ds)
    same = omega (arith, low, high)

-- those digests and then what is left
pub acked_first : (pending : List (List ℕ)) (b : Batch) → IsFirst pending b → pending ≡ batch_digests b ++ drop (length b.records) pending
acked_first pending b first =
    sym (take-append-drop (length b.records) pending) ∙ ap (λ (xs : List (List ℕ)). xs ++ drop (length b.records) pending) (sym first.digests)

-- the records of digests that are held have these digests
held_digests : (content : Content) (ds : List (List ℕ)) → All (λ d. IsSome (get content d)) ds → map (λ (r : List ℕ × Version). r.0) (records_of content ds) ≡ ds
held_digests content [] h = refl
held_digests content (d ∷ ds) h = go (get content d) refl (held_digests content ds (All-tail (λ e. IsSome (get content e)) d ds h))
  where
    go : (o : Option Version) → get content d ≡ o → map (λ (r : List ℕ × Version). r.0) (records_of content ds) ≡ ds → map (λ (r : List ℕ × Version). r.0) (records_of content (d ∷ ds)) ≡ d ∷ ds
    go None is rest = absurd (true≢false (sym (subst IsSome is (h 0 d (omega arith)))))
    go (Some v) is rest = rw is (ap (λ (es : List (List ℕ)). d ∷ es) rest)

first_held : (content : Content) (ds : List (List ℕ)) (n : ℕ) → All (λ d. IsSome (get content d)) ds → All (λ d. IsSome (get content d)) (take n ds)
first_held content ds n h = λ k d within.
    let low : k < n = omega (arith, within, length-take n ds) in
    let inside : k < length ds = omega (arith, within, length-take n ds) in
    subst (λ (e : List ℕ). IsSome (get content e)) (sym (get_or-take n ds k d low)) (h k d inside)

-- the batch of the least digests that are held goes to the target next
pub next_is : (key : ClusterKey) (content : Content) (node batches : ℕ) (pending : List (List ℕ)) (b : Batch)
    → b ≡ record { key = key; number = batches + 1; records = records_of content (take batch_limit pending) } → pending ≢ [] → All (λ d. IsSome (get content d)) pending
    → IsNext key (record { node = node; pending = pending; out = None; batches = batches }) b
next_is key content node batches pending b is some held = record {
  out = λ o e. absurd (none-some o e);
  some = λ e. some;
  key_of = λ e. ap (λ (x : Batch). x.key) is;
  number = λ e. ap (λ (x : Batch). x.number) is;
  digests = λ e. ap batch_digests is ∙ held_digests content (take batch_limit pending) (first_held content pending batch_limit held);
}

-- What a node hands on keeps its ranges, and the batches that are due have a spelling.
use Rattle.std.proofs.Common.{◌≡◌, ◌≢◌, ◌==◌, ℕ, ◌<◌, Bool, true, false, List, [], ◌∷◌, length, map, take, get_or, Option, Some, None, IsSome, All, AllPairs, refl, sym, ap, subst, ◌∙◌, arith}
use Rattle.std.proofs.lemmas.List.{get_or-map, get_or-take, length-map, length-take}
use Rattle.std.proofs.lemmas.List.Elements.{All-cons, All-map, All-nil, All-tail, All-head}
use Rattle.std.proofs.lemmas.List.Kept.{AllPairs-filter}
use Rattle.std.specs.Cmp.Lexicographic.{slice_cmp}
use Rattle.std.specs.FinMap as finite
use Rattle.std.specs.List.{cons_option, filter_map}
use Rattle.std.specs.Option.{ForSome}
use Rattle.std.specs.Ordering.{nat_cmp}
use Rattle.std.specs.Prelude.{is_some, option_map}
use Rattle.std.specs.declared.cmp.Ordering.TheVariants.{Less}
use Rattle.cluster_types.specs.declared.cluster_key.ClusterKey.{ClusterKey}
use Rattle.conflict_order.specs.declared.version.Version.{Version}
use Rattle.emigrate.proofs.CollectLaws.{sent_rise}
use Rattle.emigrate.proofs.FirstLaws.{all_in, least_first, next_is}
use Rattle.node_rules.specs.Batches.{Target, Targets, batch_after, batch_limit, fresh_batch, new_batch, next_batch, records_of, sending, target_of, targets_of}
use Rattle.node_rules.specs.ByParts.{batches_due, sending_all}
use Rattle.node_rules.specs.Copies.{Content, digests}
use Rattle.node_rules.specs.Merging.{Record}
use Rattle.node_rules.specs.Tables.{changed_if}
use Rattle.node_view.specs.Counts.{greatest_count}
use Rattle.wire_messages.specs.Keys.{IsKeyField}
use Rattle.wire_messages.specs.Proper.{IsBatch}
use Rattle.wire_messages.specs.Versions.{IsRecord}
use Rattle.wire_messages.specs.declared.message.Batch.{Batch}
use Rattle.node_steps.specs.Ranges.{IsTargetField}
use Rattle.node_steps.proofs.StoreRanges.{IsContentField}

-- the first digest is below the second
abbrev IsBelow : List ℕ → List ℕ → Type 0
IsBelow d e = slice_cmp nat_cmp d e ≡ Less

-- ---- targets

digests_rise : (c : Content) → AllPairs IsBelow (digests c)
digests_rise c = subst (AllPairs IsBelow) (all_in (λ d. true) (digests c) (λ k d within. refl)) (sent_rise c (λ p. true))

-- the targets as the exchange ends
pub new_targets_fit : (is_for : ℕ → List ℕ → Bool) (c : Content) (ns : List ℕ) → All IsTargetField (targets_of is_for c ns)
new_targets_fit is_for c ns = All-map IsTargetField (target_of is_for c) ns (λ k n within. one (get_or ns k n))
  where
    one : (n : ℕ) → IsTargetField (target_of is_for c n)
    one n = record { rising = record { rising = AllPairs-filter IsBelow (is_for n) (digests c) (digests_rise c) }; out = λ b is. cc }

sent_target : (t : Target) (b : Batch) (to : Bool) → IsBatch b → IsTargetField t → IsTargetField (changed_if (λ x. record x { out = Some b; batches = b.number }) t to)
sent_target t b true fit h = record { rising = h.rising; out = λ x is. (let same : b ≡ x = cc in subst IsBatch same fit) }
sent_target t b false fit h = h

sent_one : (targets : Targets) (to : ℕ) (b : Batch) → IsBatch b → All IsTargetField targets → All IsTargetField (sending targets to b)
sent_one targets to b fit h =
    let one : Target → Target = λ (t : Target). changed_if (λ x. record x { out = Some b; batches = b.number }) t (t.node == to) in
    All-map IsTargetField one targets (λ k t within. sent_target (get_or targets k t) b ((get_or targets k t).node == to) fit (h k t within))

-- batches are sent
pub sent_targets_fit : (bs : List (ℕ × Batch)) (targets : Targets) → All (λ b. IsBatch b.1) bs → All IsTargetField targets → All IsTargetField (sending_all targets bs)
sent_targets_fit [] targets fit h = h
sent_targets_fit (b ∷ bs) targets fit h =
    sent_targets_fit bs (sending targets b.0 b.1) (All-tail (λ x. IsBatch x.1) b bs fit) (sent_one targets b.0 b.1 (All-head (λ x. IsBatch x.1) b bs fit) h)

-- ---- batches

-- what is held of digests is told in records
records_fit : (c : Content) (ds : List (List ℕ)) → IsContentField c → All IsRecord (records_of c ds)
records_fit c [] h = All-nil IsRecord
records_fit c (d ∷ ds) h = go (finite.get c d) refl (records_fit c ds h)
  where
    go : (o : Option Version) → finite.get c d ≡ o → All IsRecord (records_of c ds) → All IsRecord (cons_option (option_map (λ v. (d, v)) o) (records_of c ds))
    go None is rest = rest
    go (Some v) is rest = All-cons IsRecord (d, v) (records_of c ds) (record { digest = h.digest d (ap is_some is); version = h.version d v is }) rest

-- records rise as their digests do
records_rise : (rs : List Record) (ds : List (List ℕ)) → map (λ (r : Record). r.0) rs ≡ ds → AllPairs IsBelow ds → AllPairs (λ a b. IsBelow a.0 b.0) rs
records_rise rs ds is h i j r before within =
    let digest : Record → List ℕ = λ (x : Record). x.0 in
    let size : length ds ≡ length rs = ap length (sym is) ∙ length-map rs digest in
    let here : (k : ℕ) → k < length rs → get_or ds k r.0 ≡ (get_or rs k r).0 = λ k inside. ap (λ (xs : List (List ℕ)). get_or xs k r.0) (sym is) ∙ get_or-map digest rs k r r.0 inside in
    subst (λ (d : List ℕ). IsBelow d (get_or rs j r).0) (here i (omega (arith, before, within)))
    (subst (IsBelow (get_or ds i r.0)) (here j within) (h i j r.0 before (omega (arith, within, size))))

taken_rise : (n : ℕ) (ds : List (List ℕ)) → AllPairs IsBelow ds → AllPairs IsBelow (take n ds)
taken_rise n ds h i j d before within =
    let inside : j < length ds = omega (arith, within, length-take n ds) in
    let low : j < n = omega (arith, within, length-take n ds) in
    subst (λ (e : List ℕ). IsBelow e (get_or (take n ds) j d)) (sym (get_or-take n ds i d (omega (arith, before, low))))
    (subst (IsBelow (get_or ds i d)) (sym (get_or-take n ds j d low)) (h i j d before inside))

new_batch_fits : (key : ClusterKey) (c : Content) (t : Target) → IsKeyField key → IsContentField c → IsTargetField t → All (λ d. IsSome (finite.get c d)) t.pending → t.batches < greatest_count
    → t.pending ≢ [] → IsBatch (new_batch key c t)
new_batch_fits key c t k fit h held limit some =
    let b : Batch = new_batch key c t in
    let ds : List (List ℕ) = take batch_limit t.pending in
    let is : map (λ (r : Record). r.0) b.records ≡ ds = (next_is key c t.node t.batches t.pending b refl some held).digests refl in
    let size : length b.records ≡ length ds = sym (length-map b.records (λ (r : Record). r.0)) ∙ ap length is in
    record {
      key = k;
      number = record { positive = omega arith; fits = omega (arith, limit) };
      records = record {
        some = omega (arith, (least_first t.pending b some is).some);
        limit = omega (arith, size, length-take batch_limit t.pending);
        rising = records_rise b.records ds is (taken_rise batch_limit t.pending h.rising.rising);
        each = records_fit c ds fit;
      };
    }

next_batch_fits : (key : ClusterKey) (c : Content) (t : Target) → IsKeyField key → IsContentField c → IsTargetField t → All (λ d. IsSome (finite.get c d)) t.pending → t.batches < greatest_count
    → ForSome (next_batch key c t) IsBatch
next_batch_fits key c t k fit h held limit = go t.out h.out
  where
    fresh : (ds : List (List ℕ)) → t.pending ≡ ds → ForSome (fresh_batch key c t ds) IsBatch
    fresh [] is b e = cc
    fresh (d ∷ ds) is b e = let same : new_batch key c t ≡ b = cc in subst IsBatch same (new_batch_fits key c t k fit h held limit (λ none. cc (is, none)))

    go : (o : Option Batch) → ForSome o IsBatch → ForSome (batch_after key c t o) IsBatch
    go None out = fresh t.pending refl
    go (Some b) out = out

-- what holds of all that the items give
of_given : {X Y : Type 0} (P : Y → Type 0) (h : X → Option Y) (xs : List X) → All (λ x. ForSome (h x) P) xs → All P (filter_map h xs)
of_given P h [] each = All-nil P
of_given {X} {Y} P h (x ∷ xs) each = go (h x) (All-head (λ y. ForSome (h y) P) x xs each) (of_given P h xs (All-tail (λ y. ForSome (h y) P) x xs each))
  where
    go : (o : Option Y) → ForSome o P → All P (filter_map h xs) → All P (cons_option o (filter_map h xs))
    go None one rest = rest
    go (Some y) one rest = All-cons P y (filter_map h xs) (one y refl) rest

-- the batches that are due
pub due_fit : (key : ClusterKey) (c : Content) (targets : Targets) → IsKeyField key → IsContentField c → All IsTargetField targets
    → All (λ t. All (λ d. IsSome (finite.get c d)) t.pending) targets → All (λ t. t.batches < greatest_count) targets → All (λ b. IsBatch b.1) (batches_due key c targets)
due_fit key c targets k fit h held limits =
    of_given (λ (b : ℕ × Batch). IsBatch b.1) (λ (t : Target). option_map (λ b. (t.node, b)) (next_batch key c t)) targets (λ i t within.
    let u : Target = get_or targets i t in to_it u.node (next_batch key c u) (next_batch_fits key c u k fit (h i t within) (held i t within) (limits i t within)))
  where
    to_it : (n : ℕ) (o : Option Batch) → ForSome o IsBatch → ForSome (option_map (λ b. (n, b)) o) (λ (b : ℕ × Batch). IsBatch b.1)
    to_it n None one x is = cc
    to_it n (Some b) one x is = let same : (n, b) ≡ x = cc in subst (λ (y : ℕ × Batch). IsBatch y.1) same (one b refl)

-- Contents, stamps, counts and rows keep their ranges.
use Rattle.std.proofs.Common.{◌≡◌, ℕ, zero, suc, ◌+◌, ◌<◌, ◌≤◌, ◌^◌, ◌==◌, Bool, true, false, cond, not, ◌&&◌, List, [], ◌∷◌, length, Option, Some, None, refl, sym, ap, ◌∙◌, subst, arith, lit<}
use Rattle.std.specs.Prelude.{is_some, if◌then◌else◌, bytes_eq, nat_lt}
use Rattle.std.specs.FinMap as finite
use Rattle.std.specs.List.{AllByRecursion}
use Rattle.std.proofs.lemmas.List.Elements.{All-from_recursion}
use Rattle.std.specs.Ordering.{is_gt}
use Rattle.conflict_order.specs.declared.policy.Policy.{Policy}
use Rattle.conflict_order.specs.declared.version.Version.{Version}
use Rattle.conflict_order.specs.Join.{join}
use Rattle.conflict_order.specs.Order.{version_cmp}
use Rattle.cluster_types.specs.declared.cluster_key.ClusterKey.{ClusterKey}
use Rattle.cluster_types.specs.declared.copy_state.CopyState.{CopyState}
use Rattle.cluster_types.specs.declared.copy_state.CopyState.TheVariants.{Empty, Part, Whole}
use Rattle.cluster_types.specs.Partitions.{partition_count}
use Rattle.wire_messages.specs.Keys.{IsKeyField}
use Rattle.wire_messages.specs.Rows.{FitsState, IsStateRowField}
use Rattle.wire_messages.specs.Versions.{IsDigest, IsVersion, IsOptionVersion}
use Rattle.node_rules.specs.Copies.{Content, Row, Stamp, Stamps, Store, joined, is_of, digests_of, state_with, store_state, with_state, row_from}
use Rattle.node_rules.specs.Facts.{Facts, list_at}
use Rattle.node_rules.specs.Keys.{same_key}
use Rattle.node_rules.specs.Notes.{own_row, stamped_if, stamped_at, count_in}
use Rattle.node_rules.specs.Stamps.{Writes, Numbers, applies_at, numbers_at, count_at, count_of, have_no_gap, no_class, recounted, spoiled, changed_stamps, with_number, applying, hearing_write}
use Rattle.node_rules.specs.Standing.{is_all_empty, is_own_replica}
use Rattle.node_rules.proofs.Partitions.{row_is_row}
use Rattle.node_rules.specs.ViewNotes.{stamped_from}
use Rattle.cluster_laws.proofs.At.{some_same, no_some, digests}
use Rattle.run_laws.specs.Ranges.{FitsRecord, FitsContent, FitsStamp, FitsStamps, FitsWrites}
use Rattle.run_laws.proofs.Tables.{insert_at, remove_at, joined_at, dropped_at, entry_or}

-- ---- versions

pub join_fits : (by : Policy) (a b : Option Version) → IsOptionVersion a → IsOptionVersion b → IsOptionVersion (join by a b)
unfolding join
join_fits by None b x y = y
join_fits by (Some v) None x y = x
join_fits by (Some v) (Some w) x y = go (is_gt (version_cmp by w v))
  where
    go : (q : Bool) → IsVersion (if q then w else v)
    go true = y
    go false = x

-- ---- contents

pub version_held : (c : Content) (d : List ℕ) → FitsContent c → IsOptionVersion (finite.get c d)
version_held c d h = go (finite.get c d) refl
  where
    go : (o : Option Version) → finite.get c d ≡ o → IsOptionVersion o
    go None e = tt
    go (Some v) e = (h.each d v e).version

pub content_joined : (by : Policy) (c : Content) (d : List ℕ) (v : Version) → IsDigest d → IsVersion v → FitsContent c → FitsContent (joined by c d v)
content_joined by c d v x y h = record { each = λ e u i. go e u (bytes_eq d e) refl (sym (joined_at by c d v e) ∙ i) }
  where
    go : (e : List ℕ) (u : Version) (b : Bool) → bytes_eq d e ≡ b → cond b (join by (finite.get c d) (Some v)) (finite.get c e) ≡ Some u → FitsRecord e u
    go e u true i j = record { digest = subst IsDigest (digests.same d e i) x; version = subst IsOptionVersion j (join_fits by (finite.get c d) (Some v) (version_held c d h) y) }
    go e u false i j = h.each e u j

some_joined : (by : Policy) (o : Option Version) (v : Version) → is_some (join by o (Some v)) ≡ true
unfolding join
some_joined by None v = refl
some_joined by (Some u) v = refl

pub held_joined : (by : Policy) (c : Content) (d : List ℕ) (v : Version) (e : List ℕ) → is_some (finite.get c e) ≡ true → is_some (finite.get (joined by c d v) e) ≡ true
held_joined by c d v e h = ap is_some (joined_at by c d v e) ∙ go (bytes_eq d e)
  where
    go : (b : Bool) → is_some (cond b (join by (finite.get c d) (Some v)) (finite.get c e)) ≡ true
    go true = some_joined by (finite.get c d) v
    go false = h

pub content_dropped : (c : Content) (p : ℕ) → FitsContent c → FitsContent (finite.retain_keys c (λ d. not (is_of p d)))
content_dropped c p h = record { each = λ d v e. go d v (not (is_of p d)) (sym (dropped_at c p d) ∙ e) }
  where
    go : (d : List ℕ) (v : Version) (b : Bool) → cond b (finite.get c d) None ≡ Some v → FitsRecord d v
    go d v true e = h.each d v e
    go d v false e = no_some e

pub held_dropped : (c : Content) (p : ℕ) (d : List ℕ) → is_of p d ≡ false → is_some (finite.get c d) ≡ true → is_some (finite.get (finite.retain_keys c (λ e. not (is_of p e))) d) ≡ true
held_dropped c p d off h = ap is_some (dropped_at c p d ∙ ap (λ (b : Bool). cond (not b) (finite.get c d) None) off) ∙ h

-- ---- counts

count_small : (ns : Numbers) → length ns < 2 ^ 32 → count_of ns < 2 ^ 32
count_small ns lt = go (have_no_gap ns)
  where
    go : (b : Bool) → (if b then length ns else no_class) < 2 ^ 32
    go true = lt
    go false = omega arith

small : (a n : ℕ) → a ≤ n → n < 2 ^ 32 → a < 2 ^ 32
small a n le lt = omega (arith, le, lt)

pub count_fits : (lines : ℕ) (w : Writes) (b : Bool) (p : ℕ) → lines < 2 ^ 32 → FitsWrites lines w → count_at w b p < 2 ^ 32
count_fits lines w true p lt h = small (applies_at w p) lines (h.applies p) lt
count_fits lines w false p lt h = count_small (numbers_at w p) (small (length (numbers_at w p)) lines (h.numbers p) lt)

pub applying_fits : (lines : ℕ) (w : Writes) (p : ℕ) → FitsWrites lines w → FitsWrites (lines + 1) (applying w p)
applying_fits lines w p h = record {
  applies = λ q. subst (λ (n : ℕ). n ≤ lines + 1) (sym (entry_or w.applies p (applies_at w p + 1) q 0)) (go (p == q) q);
  numbers = λ q. more (length (numbers_at w q)) (h.numbers q);
}
  where
    more : (a : ℕ) → a ≤ lines → a ≤ lines + 1
    more a le = omega (arith, le)

    next : (a : ℕ) → a ≤ lines → a + 1 ≤ lines + 1
    next a le = omega (arith, le)

    go : (b : Bool) (q : ℕ) → cond b (applies_at w p + 1) (applies_at w q) ≤ lines + 1
    go true q = next (applies_at w p) (h.applies p)
    go false q = more (applies_at w q) (h.applies q)

one_more : (ns : Numbers) (n lines : ℕ) → length ns ≤ lines → length (with_number ns n) ≤ lines + 1
one_more [] n lines le = omega arith
one_more (m ∷ ns) n zero le = absurd (omega (arith, le))
one_more (m ∷ ns) n (suc lines) le = go (n == m) (nat_lt n m) (one_more ns n lines (omega (arith, le)))
  where
    go : (a b : Bool) → length (with_number ns n) ≤ lines + 1 → length (if a then m ∷ ns else (if b then n ∷ m ∷ ns else (m ∷ with_number ns n))) ≤ suc lines + 1
    go true b r = omega (arith, le)
    go false true r = omega (arith, le)
    go false false r = omega (arith, r)

pub hearing_fits : (lines : ℕ) (w : Writes) (p nth : ℕ) → FitsWrites lines w → FitsWrites (lines + 1) (hearing_write w p nth)
hearing_fits lines w p nth h = record {
  applies = λ q. more (applies_at w q) (h.applies q);
  numbers = λ q. subst (λ (ns : Numbers). length ns ≤ lines + 1) (sym (entry_or w.numbers p (with_number (numbers_at w p) nth) q [])) (go (p == q) q);
}
  where
    more : (a : ℕ) → a ≤ lines → a ≤ lines + 1
    more a le = omega (arith, le)

    go : (b : Bool) (q : ℕ) → length (cond b (with_number (numbers_at w p) nth) (numbers_at w q)) ≤ lines + 1
    go true q = one_more (numbers_at w p) nth lines (h.numbers p)
    go false q = more (length (numbers_at w q)) (h.numbers q)

-- ---- stamps

pub stamps_with : (stamps : Stamps) (p : ℕ) (x : Stamp) → FitsStamp x → FitsStamps stamps → FitsStamps (finite.insert stamps p x)
stamps_with stamps p x k h = record { each = λ q s e. go q s (p == q) (sym (insert_at stamps p x q) ∙ e) }
  where
    go : (q : ℕ) (s : Stamp) (b : Bool) → cond b (Some x) (finite.get stamps q) ≡ Some s → FitsStamp s
    go q s true e = subst FitsStamp (some_same e) k
    go q s false e = h.each q s e

pub stamps_without : (stamps : Stamps) (p : ℕ) → FitsStamps stamps → FitsStamps (finite.remove stamps p)
stamps_without stamps p h = record { each = λ q s e. go q s (p == q) (sym (remove_at stamps p q) ∙ e) }
  where
    go : (q : ℕ) (s : Stamp) (b : Bool) → cond b None (finite.get stamps q) ≡ Some s → FitsStamp s
    go q s true e = no_some e
    go q s false e = h.each q s e

pub recounted_fits : (k : ClusterKey) (count : ℕ) (x : Stamp) → IsKeyField k → count < 2 ^ 32 → FitsStamp x → FitsStamp (recounted k count x)
recounted_fits k count x key lt h = go (same_key x.0 k)
  where
    go : (b : Bool) → FitsStamp (if b then (k, count) else x)
    go true = record { key = key; count = lt }
    go false = h

pub spoiled_fits : (k : ClusterKey) (x : Stamp) → FitsStamp x → FitsStamp (spoiled k x)
spoiled_fits k x h = go (same_key x.0 k)
  where
    go : (b : Bool) → FitsStamp (if b then x else (x.0, no_class))
    go true = h
    go false = record { key = h.key; count = lit< tt }

pub stamps_changed : (stamps : Stamps) (p : ℕ) (change : Stamp → Stamp) → ((x : Stamp) → FitsStamp x → FitsStamp (change x)) → FitsStamps stamps → FitsStamps (changed_stamps stamps p change (finite.get stamps p))
stamps_changed stamps p change f h = go (finite.get stamps p) refl
  where
    go : (o : Option Stamp) → finite.get stamps p ≡ o → FitsStamps (changed_stamps stamps p change o)
    go None e = h
    go (Some x) e = stamps_with stamps p (change x) (f x (h.each p x e)) h

stamped_if_fits : (f : Facts) (k : ClusterKey) (l : List ℕ) (p : ℕ) (stamps : Stamps) (b : Bool) → IsKeyField k → count_in f l p < 2 ^ 32 → FitsStamps stamps → FitsStamps (stamped_if f k l p stamps b)
stamped_if_fits f k l p stamps true key lt h = stamps_with stamps p (k, count_in f l p) (record { key = key; count = lt }) h
stamped_if_fits f k l p stamps false key lt h = h

pub stamped_fits : (f : Facts) (k : ClusterKey) (stamps : Stamps) (n p : ℕ) → IsKeyField k → ((l : List ℕ) (q : ℕ) → count_in f l q < 2 ^ 32) → FitsStamps stamps → FitsStamps (stamped_from f k stamps n p)
unfolding stamped_from
stamped_fits f k stamps zero p key lt h = h
stamped_fits f k stamps (suc n) p key lt h =
    stamped_fits f k (stamped_at f k (list_at f p) p stamps) n (p + 1) key lt (stamped_if_fits f k (list_at f p) p stamps (is_all_empty f p && is_own_replica f (list_at f p)) key (lt (list_at f p) p) h)

-- ---- rows

abbrev FitsEach : Row → Type 0
FitsEach row = AllByRecursion (λ (e : ℕ × CopyState). FitsState e.1) row

state_fits : (ds : List (List ℕ)) (o : Option Stamp) → ((s : Stamp) → o ≡ Some s → FitsStamp s) → FitsState (state_with ds o)
state_fits [] o h = tt
state_fits (d ∷ ds) None h = tt
state_fits (d ∷ ds) (Some x) h = ((h x refl).key, (h x refl).count)

with_state_fits : (p : ℕ) (c : CopyState) (row : Row) → FitsState c → FitsEach row → FitsEach (with_state p c row)
with_state_fits p Empty row h i = i
with_state_fits p Part row h i = (tt, i)
with_state_fits p (Whole k writes) row h i = (h, i)

row_fits : (s : Store) (n p : ℕ) → FitsStamps s.stamps → FitsEach (row_from s n p)
unfolding row_from
row_fits s zero p h = tt
row_fits s (suc n) p h = with_state_fits p (store_state s p) (row_from s n (p + 1)) (state_fits (digests_of s.content p) (finite.get s.stamps p) (λ x e. h.each p x e)) (row_fits s n (p + 1) h)

pub own_row_fits : (f : Facts) → FitsStamps f.store.stamps → IsStateRowField (own_row f)
own_row_fits f h = record { states = row_is_row f.store partition_count (omega arith); fit = All-from_recursion (λ (e : ℕ × CopyState). FitsState e.1) (own_row f) (row_fits f.store partition_count 0 h) }

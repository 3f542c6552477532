-- What the other members told, as a table and as counts.
use Rattle.std.proofs.Common.{◌≡◌, ℕ, zero, suc, ◌+◌, ◌<◌, ◌≤◌, ◌==◌, ◌&&◌, Bool, true, false, cond, List, [], ◌∷◌, ◌++◌, length, map, get_or, set, take, not, count_by, replicate, unwrap_or, Some, None, is_some, Contains, refl, sym, ap, subst, ◌∙◌, arith, inl, inr, true≢false, lt-ltb}
use Rattle.std.specs.Prelude.{All, slice_index}
use Rattle.std.specs.List.{list_all, position, position_or_len}
use Rattle.std.specs.Ordering.{nat_cmp}
use Rattle.std.specs.FinMap.{find, put}
use Rattle.std.proofs.lemmas.Bool.{cases_lt}
use Rattle.std.proofs.lemmas.Bool.Decides.{nat_tests}
use Rattle.std.proofs.lemmas.List.{append-nil, get_or-map, get_or-replicate, length-map, length-replicate, length-set, map-append, take_more}
use Rattle.std.proofs.lemmas.List.Elements.{All-cons, All-head, All-tail, filter-append}
use Rattle.std.proofs.lemmas.List.Kept.{AllPairs-filter}
use Rattle.std.proofs.lemmas.List.Quantifiers.{position-Some}
use Rattle.std.proofs.lemmas.List.Sums.{fails_before_first, count_by-le-length, get_or-le-sum_by, sum_by-cons, sum_by-set}
use Rattle.cluster_types.specs.declared.member.Member.{Member}
use Rattle.cluster_types.specs.Distinct.{IsDescending, without}
use Rattle.cluster_types.specs.Members.{AreMembers, ids_of}
use Rattle.cluster_types.proofs.DistinctLaws.{length_without}
use Rattle.node_rules.specs.Agreement.{others_among}
use Rattle.cluster_types.specs.Partitions.{partition_count}
use Rattle.cluster_types.specs.Rows.{bit, IsClear}
use Rattle.cluster_types.specs.RowBytes.{bit_number}
use Rattle.node_rules.specs.Bits.{clear_row}
use Rattle.node_rules.specs.Tables.{at, table_with}
use Rattle.progress.specs.declared.told.Told.{Told}
use Rattle.progress.specs.Known.{Known, nothing_known}
use Rattle.progress.specs.Told.{AreTold, done_entry, is_done_at, told_nodes, silent_member, told_table, telling}
use Rattle.progress.proofs.RowLaws.{clear_is_clear}
use Rattle.progress.proofs.TableLaws.{Under, under_snoc, put_before, put_behind, put_again, find_before, find_behind, find_itself, is_itself}

-- the nodes fall strictly
abbrev pub Falls : List Told → Type 0
Falls [] = Unit {0}
Falls (t ∷ ts) = All (λ x. x.node < t.node) ts × Falls ts

node_of : (ts : List Told) (i : ℕ) (d : Told) (n : ℕ) → i < length ts → get_or (told_nodes ts) i n ≡ (get_or ts i d).node
node_of ts i d n within = get_or-map (λ (t : Told). t.node) ts i d n within

falls_of : (ts : List Told) → IsDescending (told_nodes ts) → Falls ts
falls_of [] h = tt
falls_of (t ∷ ts) h = (
  λ k d within.
      subst (λ n. n < t.node) (node_of ts k d t.node within) (h.falls 0 (suc k) t.node (omega arith) (omega (arith, within, length-map ts (λ (x : Told). x.node)))),
  falls_of ts (record { falls = λ i j d lower within. h.falls (suc i) (suc j) d (omega (arith, lower)) (omega (arith, within)) }),
)

-- ---- the table

under_table : (k : ℕ) (ts : List Told) → All (λ x. x.node < k) ts → Under k (told_table ts)
under_table k [] h = tt
under_table k (t ∷ ts) h = go t.came refl (under_table k ts (All-tail (λ x. x.node < k) t ts h))
  where
    go : (b : Bool) → t.came ≡ b → Under k (told_table ts) → Under k (told_table ts ++ done_entry t)
    go true came under = rw came (under_snoc k (told_table ts) (t.node, t.done) under (All-head (λ x. x.node < k) t ts h))
    go false came under = rw (came, append-nil (told_table ts)) under

-- a row that comes stands in the table in place of its sender's last one
table_telling : (ts : List Told) (i : ℕ) (d : Told) (row : List Bool) → i < length ts → Falls ts
    → told_table (set ts i (telling (get_or ts i d) row)) ≡ put nat_cmp (get_or ts i d).node row (told_table ts)
table_telling [] i d row within h = absurd (omega (arith, within))
table_telling (t ∷ ts) zero d row within h = go t.came refl
  where
    under : Under t.node (told_table ts)
    under = under_table t.node ts h.0

    go : (b : Bool) → t.came ≡ b → told_table ts ++ (t.node, row) ∷ [] ≡ put nat_cmp t.node row (told_table ts ++ done_entry t)
    go true came = rw came (ap (λ rest. told_table ts ++ rest) (sym (put_again t.node row t.done)) ∙ sym (put_behind t.node row (told_table ts) ((t.node, t.done) ∷ []) under))
    go false came = rw came (sym (put_behind t.node row (told_table ts) [] under))
table_telling (t ∷ ts) (suc i) d row within h =
    let inside : i < length ts = omega (arith, within) in
    go t.came refl (h.0 i d inside) (table_telling ts i d row inside h.1)
  where
    go : (b : Bool) → t.came ≡ b → (get_or ts i d).node < t.node
        → told_table (set ts i (telling (get_or ts i d) row)) ≡ put nat_cmp (get_or ts i d).node row (told_table ts)
        → told_table (set ts i (telling (get_or ts i d) row)) ++ done_entry t ≡ put nat_cmp (get_or ts i d).node row (told_table ts ++ done_entry t)
    go true came lower ih = rw came (ap (λ rest. rest ++ (t.node, t.done) ∷ []) ih ∙ sym (put_before (get_or ts i d).node row (told_table ts) (t.node, t.done) lower))
    go false came lower ih = rw (came, append-nil (told_table ts), append-nil (told_table (set ts i (telling (get_or ts i d) row)))) ih

-- what the table has of a member
found : (ts : List Told) (i : ℕ) (d : Told) → i < length ts → Falls ts → at (told_table ts) (get_or ts i d).node ≡ cond (get_or ts i d).came (Some (get_or ts i d).done) None
found [] i d within h = absurd (omega (arith, within))
found (t ∷ ts) zero d within h = go t.came refl
  where
    under : Under t.node (told_table ts)
    under = under_table t.node ts h.0

    go : (b : Bool) → t.came ≡ b → find nat_cmp t.node (told_table ts ++ done_entry t) ≡ cond t.came (Some t.done) None
    go true came = rw came (find_behind t.node (told_table ts) ((t.node, t.done) ∷ []) under ∙ find_itself t.node t.done)
    go false came = rw came (find_behind t.node (told_table ts) [] under)
found (t ∷ ts) (suc i) d within h =
    let inside : i < length ts = omega (arith, within) in
    go t.came refl (h.0 i d inside) (found ts i d inside h.1)
  where
    go : (b : Bool) → t.came ≡ b → (get_or ts i d).node < t.node
        → find nat_cmp (get_or ts i d).node (told_table ts) ≡ cond (get_or ts i d).came (Some (get_or ts i d).done) None
        → find nat_cmp (get_or ts i d).node (told_table ts ++ done_entry t) ≡ cond (get_or ts i d).came (Some (get_or ts i d).done) None
    go true came lower ih = rw came (find_before (get_or ts i d).node (told_table ts) (t.node, t.done) lower ∙ ih)
    go false came lower ih = rw (came, append-nil (told_table ts)) ih

-- ---- who is known done

known_row : (t : Told) (p : ℕ) → (t.came ≡ false → IsClear t.done) → bit (unwrap_or (cond t.came (Some t.done) None) []) p ≡ bit t.done p
known_row t p clear = go t.came refl
  where
    go : (b : Bool) → t.came ≡ b → bit (unwrap_or (cond t.came (Some t.done) None) []) p ≡ bit t.done p
    go true came = rw came refl
    go false came = rw came (sym ((clear came).clear p))

all_of_nodes : (f : ℕ → Bool) (g : Told → Bool) (ts : List Told) → ((i : ℕ) (d : Told) → i < length ts → f (get_or ts i d).node ≡ g (get_or ts i d)) → list_all f (told_nodes ts) ≡ list_all g ts
all_of_nodes f g [] h = refl
all_of_nodes f g (t ∷ ts) h =
    ap (λ b. b && list_all f (told_nodes ts)) (h 0 t (omega arith))
    ∙ ap (λ b. g t && b) (all_of_nodes f g ts (λ i d within. h (suc i) d (omega (arith, within))))

-- all pass a test where as many pass it as there are
all_counted : (g : Told → Bool) (ts : List Told) → (count_by g ts == length ts) ≡ list_all g ts
all_counted g [] = refl
all_counted g (t ∷ ts) = go (g t) refl (all_counted g ts) (sum_by-cons (λ x. cond (g x) 1 0) t ts) (count_by-le-length g ts)
  where
    go : (b : Bool) → g t ≡ b → (count_by g ts == length ts) ≡ list_all g ts → count_by g (t ∷ ts) ≡ cond (g t) 1 0 + count_by g ts → count_by g ts ≤ length ts
        → (count_by g (t ∷ ts) == suc (length ts)) ≡ (g t && list_all g ts)
    go true is ih cons le =
        let one : count_by g (t ∷ ts) ≡ 1 + count_by g ts = cons ∙ ap (λ b. cond b 1 0 + count_by g ts) is in
        ap (λ n. n == suc (length ts)) one ∙ same (count_by g ts) (length ts) ∙ ih ∙ sym (ap (λ b. b && list_all g ts) is)
      where
        same : (a b : ℕ) → (1 + a == suc b) ≡ (a == b)
        same a b = grind (arith, nat_tests)
    go false is ih cons le =
        let none : count_by g (t ∷ ts) ≡ 0 + count_by g ts = cons ∙ ap (λ b. cond b 1 0 + count_by g ts) is in
        ap (λ n. n == suc (length ts)) none ∙ fewer (count_by g ts) (length ts) le ∙ sym (ap (λ b. b && list_all g ts) is)
      where
        fewer : (a b : ℕ) → a ≤ b → (0 + a == suc b) ≡ false
        fewer a b h = grind (arith, nat_tests)

-- every other member is known done where the count is that of the members
pub known_all : (ts : List Told) (known others : List ℕ) (p : ℕ) → AreTold ts known → told_nodes ts ≡ others → p < partition_count
    → (slice_index known p == length others) ≡ list_all (λ m. bit (unwrap_or (at (told_table ts) m) []) p) others
known_all ts known others p h same within =
    let falls = falls_of ts h.falls in
    let size : length others ≡ length ts = ap length (sym same) ∙ length-map ts (λ (t : Told). t.node) in
    ap (λ n. n == length others) (h.counts p within)
    ∙ ap (λ n. count_by (is_done_at p) ts == n) size
    ∙ all_counted (is_done_at p) ts
    ∙ sym (all_of_nodes (λ m. bit (unwrap_or (at (told_table ts) m) []) p) (is_done_at p) ts
    (λ i d inside. ap (λ o. bit (unwrap_or o []) p) (found ts i d inside falls) ∙ known_row (get_or ts i d) p (h.clear i d inside)))
    ∙ ap (list_all (λ m. bit (unwrap_or (at (told_table ts) m) []) p)) same

-- ---- one more Progress

pub nodes_telling : (ts : List Told) (i : ℕ) (d : Told) (row : List Bool) → told_nodes (set ts i (telling (get_or ts i d) row)) ≡ told_nodes ts
nodes_telling [] i d row = refl
nodes_telling (t ∷ ts) zero d row = refl
nodes_telling (t ∷ ts) (suc i) d row = ap (λ rest. t.node ∷ rest) (nodes_telling ts i d row)

clear_telling : (ts : List Told) (i : ℕ) (d : Told) (row : List Bool) → All (λ t. t.came ≡ false → IsClear t.done) ts → All (λ t. t.came ≡ false → IsClear t.done) (set ts i (telling (get_or ts i d) row))
clear_telling [] i d row h = h
clear_telling (t ∷ ts) zero d row h =
    All-cons (λ x. x.came ≡ false → IsClear x.done) (telling t row) ts (λ wrong. absurd (clash wrong)) (All-tail (λ x. x.came ≡ false → IsClear x.done) t ts h)
  where
    clash : true ≡ false → ⊥
    clash wrong = cc
clear_telling (t ∷ ts) (suc i) d row h =
    All-cons (λ x. x.came ≡ false → IsClear x.done) t (set ts i (telling (get_or ts i d) row)) (All-head (λ x. x.came ≡ false → IsClear x.done) t ts h)
    (clear_telling ts i d row (All-tail (λ x. x.came ≡ false → IsClear x.done) t ts h))

-- one that is known done is counted
pub is_counted : (ts : List Told) (known : List ℕ) (i p : ℕ) (d : Told) → AreTold ts known → i < length ts → p < partition_count → bit_number (bit (get_or ts i d).done p) ≤ slice_index known p
is_counted ts known i p d h inside within =
    let le : bit_number (bit (get_or ts i d).done p) ≤ count_by (is_done_at p) ts = get_or-le-sum_by (λ t. cond (is_done_at p t) 1 0) ts i d inside in
    omega (arith, h.counts p within, le)

pub told_telling : (ts : List Told) (known next : List ℕ) (i : ℕ) (d : Told) (row : List Bool) → AreTold ts known → i < length ts → length next ≡ partition_count
    → ((p : ℕ) → p < partition_count → slice_index next p + bit_number (bit (get_or ts i d).done p) ≡ slice_index known p + bit_number (bit row p))
    → AreTold (set ts i (telling (get_or ts i d) row)) next
told_telling ts known next i d row h inside size each = record {
  falls = subst IsDescending (sym (nodes_telling ts i d row)) h.falls;
  limit = omega (arith, length-set ts i (telling (get_or ts i d) row), h.limit);
  clear = clear_telling ts i d row h.clear;
  size = size;
  counts = λ p within.
      let moved : count_by (is_done_at p) (set ts i (telling (get_or ts i d) row)) + bit_number (bit (get_or ts i d).done p) ≡ count_by (is_done_at p) ts + bit_number (bit row p) =
      sum_by-set (λ t. cond (is_done_at p t) 1 0) ts i (telling (get_or ts i d) row) d inside in
      omega (arith, moved, each p within, h.counts p within);
}

pub table_heard : (ts : List Told) (known : List ℕ) (i : ℕ) (d : Told) (row : List Bool) → AreTold ts known → i < length ts
    → told_table (set ts i (telling (get_or ts i d) row)) ≡ table_with (told_table ts) (get_or (told_nodes ts) i 0) row
table_heard ts known i d row h inside =
    table_telling ts i d row inside (falls_of ts h.falls) ∙ ap (λ n. put nat_cmp n row (told_table ts)) (sym (node_of ts i d 0 inside))

-- ---- the place of a member

some_none : {X : Type 0} (x : X) → Some x ≡ None → ⊥
some_none x e = true≢false (ap is_some e)

none_passes : (p : Told → Bool) (xs : List Told) (d : Told) → position p xs ≡ None → (k : ℕ) → k < length xs → p (get_or xs k d) ≡ false
none_passes p xs d none k within = elim (cases_lt (position_or_len p xs) (length xs)) [
  | inl inside ↦ absurd (some_none (position_or_len p xs) (rw (lt-ltb (position_or_len p xs) (length xs) inside) at none))
  | inr past ↦ fails_before_first p xs k d (omega arith)
]

number_is : (a b : ℕ) → (a == b) ≡ true → a ≡ b
number_is a b e = grind (arith, nat_tests)

pub placed : (ts : List Told) (n i : ℕ) → position (λ t. t.node == n) ts ≡ Some i → (i < length ts) × (get_or (told_nodes ts) i 0 ≡ n)
placed ts n i found =
    let at = position-Some (λ t. t.node == n) ts i (silent_member n) found in (
      at.0,
      node_of ts i (silent_member n) 0 at.0
          ∙ number_is (get_or ts i (silent_member n)).node n at.1,
    )

-- a member of the list has a place in it
pub no_place : (ts : List Told) (n : ℕ) → Contains (told_nodes ts) n → position (λ t. t.node == n) ts ≡ None → ⊥
no_place ts n listed none =
    let inside : listed.0 < length ts = omega (arith, listed.1, length-map ts (λ (t : Told). t.node)) in
    true≢false
    (sym (ap (λ (m : ℕ). m == n) (sym (node_of ts listed.0 (silent_member n) n inside) ∙ listed.2) ∙ is_itself n)
    ∙ none_passes (λ t. t.node == n) ts (silent_member n) none listed.0 inside)

-- ---- before any Progress

silent_table : (ns : List ℕ) → told_table (map silent_member ns) ≡ []
silent_table [] = refl
silent_table (n ∷ ns) = rw (silent_table ns) refl

pub silent_nodes : (ns : List ℕ) → told_nodes (map silent_member ns) ≡ ns
silent_nodes [] = refl
silent_nodes (n ∷ ns) = ap (λ rest. n ∷ rest) (silent_nodes ns)

no_more : (n : ℕ) → 0 + n ≡ n
no_more n = omega arith

silent_count : (ns : List ℕ) (p : ℕ) → count_by (is_done_at p) (map silent_member ns) ≡ 0
silent_count [] p = refl
silent_count (n ∷ ns) p =
    sum_by-cons (λ t. cond (is_done_at p t) 1 0) (silent_member n) (map silent_member ns)
    ∙ ap (λ b. cond b 1 0 + count_by (is_done_at p) (map silent_member ns)) (clear_is_clear.clear p)
    ∙ no_more (count_by (is_done_at p) (map silent_member ns))
    ∙ silent_count ns p

silent_clear : (ns : List ℕ) → All (λ t. t.came ≡ false → IsClear t.done) (map silent_member ns)
silent_clear [] = λ k d within. absurd (omega (arith, within))
silent_clear (n ∷ ns) = All-cons (λ t. t.came ≡ false → IsClear t.done) (silent_member n) (map silent_member ns) (λ came. clear_is_clear) (silent_clear ns)

descending_without : (ids : List ℕ) (gone : ℕ) → IsDescending ids → IsDescending (without ids gone)
descending_without ids gone h = record { falls = AllPairs-filter (λ a b. b < a) (λ n. not (n == gone)) ids h.falls }

pub told_silent : (ms : List Member) (me : ℕ) → AreMembers ms → AreTold (map silent_member (others_among me ms)) (replicate partition_count 0)
told_silent ms me h =
    let ns = others_among me ms in
    record {
      falls = subst IsDescending (sym (silent_nodes ns)) (descending_without (ids_of ms) me h.descending);
      limit = omega (arith, length-map ns silent_member, length_without (ids_of ms) me, length-map ms (λ (m : Member). m.id), h.limit);
      clear = silent_clear ns;
      size = length-replicate {A = ℕ} partition_count 0;
      counts = λ p within. get_or-replicate {A = ℕ} partition_count p 0 0 within ∙ sym (silent_count ns p);
    }

pub table_silent : (ns : List ℕ) → told_table (map silent_member ns) ≡ []
table_silent ns = silent_table ns

-- what a node knows at first
pub first_told : (ms : List Member) (me : ℕ) (heard : List Told) (near known : List ℕ) → heard ≡ map silent_member (others_among me ms) → near ≡ others_among me ms → known ≡ replicate partition_count 0 → AreMembers ms
    → (told_nodes heard ≡ near) × AreTold heard known
first_told ms me heard near known h n k members = (ap told_nodes h ∙ silent_nodes (others_among me ms) ∙ sym n, rw (h, k) (told_silent ms me members))

pub first_known : (ms : List Member) (me : ℕ) (heard : List Told) (near : List ℕ) (own handed settled own_handed own_settled : List Bool)
    → heard ≡ map silent_member (others_among me ms) → near ≡ others_among me ms → own ≡ clear_row → handed ≡ clear_row → settled ≡ clear_row → own_handed ≡ clear_row → own_settled ≡ clear_row
    → ◌≡◌ {A = Known} (record { me = me; others = near; own = own; bits = record { done = told_table heard; handed = handed; settled = settled; own_handed = own_handed; own_settled = own_settled; learnt = clear_row } }) (nothing_known ms me)
first_known ms me heard near own handed settled own_handed own_settled h n o a b d e =
    let table : told_table heard ≡ [] = ap told_table h ∙ table_silent (others_among me ms) in
    rw (table, n, o, a, b, d, e) refl

take_others : (ms : List Member) (i : ℕ) (m : Member) (me : ℕ) → i < length ms → m ≡ get_or ms i m → others_among me (take (i + 1) ms) ≡ others_among me (take i ms) ++ without (m.id ∷ []) me
take_others ms i m me within read =
    ap (λ (xs : List Member). others_among me xs) (take_more ms i m within ∙ ap (λ (x : Member). take i ms ++ x ∷ []) (sym read))
    ∙ ap (λ ids. without ids me) (map-append (λ (x : Member). x.id) (take i ms) (m ∷ []))
    ∙ filter-append (λ n. not (n == me)) (ids_of (take i ms)) (m.id ∷ [])

-- ---- the list master

pub no_master : (me : ℕ) → 0 < me → false ≡ (0 == me)
no_master me some = grind (arith, nat_tests)

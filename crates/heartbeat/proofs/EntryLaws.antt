-- What holds of the entries of the nodes that are heard.
use Rattle.std.proofs.Common.{◌≡◌, ◌≢◌, ℕ, ◌+◌, ◌<◌, ◌≤◌, ◌==◌, ◌⊎◌, ◌||◌, ◌&&◌, not, nat_lt, Bool, true, false, cond, List, [], ◌∷◌, ◌++◌, map, reverse, length, take, drop, get_or, set, zero, suc, refl, sym, ap, ap₂, subst, ◌∙◌, inl, inr, arith, append_assoc, length-append, Contains, Option, Some}
use Rattle.std.specs.Prelude.{All, filter}
use Rattle.std.specs.List.{list_all}
use Rattle.std.specs.Ordering.{nat_cmp}
use Rattle.std.specs.FinMap.{put}
use Rattle.std.proofs.lemmas.Bool.{and_parts}
use Rattle.std.proofs.lemmas.Bool.Decides.{nat_tests}
use Rattle.std.proofs.lemmas.List.{append-nil, map-append, take-append-drop, length-map, take-map, get_or-map}
use Rattle.std.proofs.lemmas.List.Elements.{All-head, All-tail, All-cons, All-append, All-map, All-filter, All-weaker, filter-append, filter_passes}
use Rattle.std.proofs.lemmas.List.Filters.{length-filter_more, length-filter_both}
use Rattle.std.proofs.lemmas.List.Folds.{list_all-append}
use Rattle.std.proofs.lemmas.List.Kept.{AllPairs-cons}
use Rattle.std.proofs.lemmas.List.Sums.{AllPass-from_list_all}
use Rattle.cluster_types.specs.declared.member.Member.{Member}
use Rattle.cluster_types.specs.declared.member.Role.{Role}
use Rattle.cluster_types.specs.declared.cluster_key.ClusterKey.{ClusterKey}
use Rattle.cluster_types.specs.Distinct.{IsDescending, AreDistinct}
use Rattle.cluster_types.proofs.DistinctLaws.{descending_distinct, fresh_next}
use Rattle.cluster_types.specs.Members.{AreMembers, ids_of}
use Rattle.node_rules.specs.declared.beat.Beat.{Beat}
use Rattle.node_rules.specs.Hearing as hearing
use Rattle.node_rules.specs.Hearing.{Heard, older, heard_ids, neighbours_of, member_of, timeout, beat_heard, ticked, quieter, is_unchanged}
use Rattle.heartbeat.specs.Adjacent.{adjacent}
use Rattle.node_rules.specs.Keys.{same_key}
use Rattle.node_rules.specs.Tables.{table_with}
use Rattle.heartbeat.specs.declared.entries.Entry.{Entry}
use Rattle.heartbeat.specs.Entries.{table_by, heard_entry, table_of, is_entry_above, is_entry_below, with_one, still_heard, one_older, aged_entries, entry_names, names_from_above, names_from_below, member_in, Falls, AreHeardBy, of_itself}
use Rattle.partition_lists.proofs.NumberLaws.{lt_false, lt_true}
use Rattle.heartbeat.proofs.TableLaws.{all_below, filtered, lower, none_above, reversed, table_by-append, table_by-put}

-- ---- loops

-- what passes in the front is no more than what passes at all
pub filter_front : {X : Type 0} (p : X → Bool) (xs : List X) (i : ℕ) → length (filter p (take i xs)) ≤ length (filter p xs)
filter_front p xs i =
    let whole : filter p (take i xs) ++ filter p (drop i xs) ≡ filter p xs = sym (filter-append p (take i xs) (drop i xs)) ∙ ap (filter p) (take-append-drop i xs) in
    omega (arith, ap length whole, length-append (filter p (take i xs)) (filter p (drop i xs)))

-- where one passes, fewer passed before it than pass at all
pub filter_room : {X : Type 0} (p : X → Bool) (xs : List X) (i : ℕ) (x : X) → i < length xs → x ≡ get_or xs i x → p x ≡ true → length (filter p (take i xs)) + 1 ≤ length (filter p xs)
filter_room p xs i x within read pass =
    let one : p (get_or xs i x) ≡ true = ap p (sym read) ∙ pass in
    let count : length (filter p (take (i + 1) xs)) ≡ length (filter p (take i xs)) + cond true 1 0 = rw one at (length-filter_more p xs i x within) in
    omega (arith, filter_front p xs (i + 1), count)

pub filter_short : {X : Type 0} (p : X → Bool) (xs : List X) → length (filter p xs) ≤ length xs
filter_short p xs = omega (arith, length-filter_both p (λ x. not (p x)) (λ x. refl) xs)

-- ---- falling entries

falls_filter : (p : Entry → Bool) (es : List Entry) → Falls es → Falls (filter p es)
falls_filter p [] h = tt
falls_filter p (e ∷ es) h = go (p e) refl (falls_filter p es h.1)
  where
    go : (b : Bool) → p e ≡ b → Falls (filter p es) → Falls (filter p (e ∷ es))
    go true q ih = rw q (All-filter p (λ x. x.node < e.node) es h.0, ih)
    go false q ih = rw q ih

falls_grown : (es : List Entry) → Falls es → Falls (map one_older es)
falls_grown [] h = tt
falls_grown (e ∷ es) h = (All-map (λ x. x.node < e.node) one_older es h.0, falls_grown es h.1)

falls_append : (xs ys : List Entry) (k : ℕ) → Falls xs → Falls ys → All (λ x. k ≤ x.node) xs → All (λ y. y.node < k) ys → Falls (xs ++ ys)
falls_append [] ys k h i above below = i
falls_append (x ∷ xs) ys k h i above below =
    let here : k ≤ x.node = All-head (λ x. k ≤ x.node) x xs above in (
      All-append (λ y. y.node < x.node) xs ys h.0 (All-weaker (λ y. y.node < k) (λ y. y.node < x.node) (λ y lt. omega (arith, lt, here)) ys below),
      falls_append xs ys k h.1 i (All-tail (λ x. k ≤ x.node) x xs above) below,
    )

above_passes : (k : ℕ) (es : List Entry) → All (λ x. k < x.node) (filter (is_entry_above k) es)
above_passes k es = All-weaker (λ x. is_entry_above k x ≡ true) (λ x. k < x.node) (λ x h. grind (arith, nat_tests, h)) (filter (is_entry_above k) es) (filter_passes (is_entry_above k) es)

below_passes : (k : ℕ) (es : List Entry) → All (λ x. x.node < k) (filter (is_entry_below k) es)
below_passes k es = All-weaker (λ x. is_entry_below k x ≡ true) (λ x. x.node < k) (λ x h. grind (arith, nat_tests, h)) (filter (is_entry_below k) es) (filter_passes (is_entry_below k) es)

falls_with : (es : List Entry) (new : Entry) → Falls es → Falls (with_one es new)
falls_with es new h =
    falls_append (filter (is_entry_above new.node) es) (new ∷ filter (is_entry_below new.node) es) (new.node + 1)
    (falls_filter (is_entry_above new.node) es h)
    (below_passes new.node es, falls_filter (is_entry_below new.node) es h)
    (All-weaker (λ x. new.node < x.node) (λ x. new.node + 1 ≤ x.node) (λ x lt. omega (arith, lt)) _ (above_passes new.node es))
    (All-cons (λ y. y.node < new.node + 1) new _ (omega arith) (All-weaker (λ y. y.node < new.node) (λ y. y.node < new.node + 1) (λ y lt. omega (arith, lt)) _ (below_passes new.node es)))

-- ---- the entries stay such

-- above and below a node there are no more entries than there are
pub around : (k : ℕ) (es : List Entry) → length (filter (is_entry_above k) es) + length (filter (is_entry_below k) es) ≤ length es
around k [] = omega arith
around k (e ∷ es) = go (is_entry_above k e) (is_entry_below k e) refl refl (around k es)
  where
    go : (a b : Bool) → is_entry_above k e ≡ a → is_entry_below k e ≡ b → length (filter (is_entry_above k) es) + length (filter (is_entry_below k) es) ≤ length es → length (filter (is_entry_above k) (e ∷ es)) + length (filter (is_entry_below k) (e ∷ es)) ≤ length (e ∷ es)
    go true true p q ih = absurd (let no_way : ⊥ = grind (arith, nat_tests, p, q) in no_way)
    go true false p q ih = rw (p, q) (omega (arith, ih))
    go false true p q ih = rw (p, q) (omega (arith, ih))
    go false false p q ih = rw (p, q) (omega (arith, ih))

-- and fewer where the node itself is there
pub around_present : (k : ℕ) (es : List Entry) → Contains (map (λ e. e.node) es) k → length (filter (is_entry_above k) es) + length (filter (is_entry_below k) es) < length es
around_present k [] (i, within, same) = absurd (omega (arith, within))
around_present k (e ∷ es) found = go (is_entry_above k e) (is_entry_below k e) refl refl (around k es) (around_present k es)
  where
    tail_found : e.node ≢ k → Contains (e.node ∷ map (λ x. x.node) es) k → Contains (map (λ x. x.node) es) k
    tail_found other (zero, within, same) = absurd (other same)
    tail_found other (suc i, within, same) = (i, omega (arith, within), same)

    go : (a b : Bool) → is_entry_above k e ≡ a → is_entry_below k e ≡ b
        → length (filter (is_entry_above k) es) + length (filter (is_entry_below k) es) ≤ length es
        → (Contains (map (λ x. x.node) es) k → length (filter (is_entry_above k) es) + length (filter (is_entry_below k) es) < length es)
        → length (filter (is_entry_above k) (e ∷ es)) + length (filter (is_entry_below k) (e ∷ es)) < length (e ∷ es)
    go true true p q ih more = absurd (let no_way : ⊥ = grind (arith, nat_tests, p, q) in no_way)
    go true false p q ih more = rw (p, q) (omega (arith, more (tail_found (λ same. let no_way : ⊥ = grind (arith, nat_tests, p, same) in no_way) found)))
    go false true p q ih more = rw (p, q) (omega (arith, more (tail_found (λ same. let no_way : ⊥ = grind (arith, nat_tests, q, same) in no_way) found)))
    go false false p q ih more = rw (p, q) (omega (arith, ih))

pub length_with : (es : List Entry) (new : Entry) → length (with_one es new) ≡ length (filter (is_entry_above new.node) es) + length (filter (is_entry_below new.node) es) + 1
length_with es new = omega (arith, length-append (filter (is_entry_above new.node) es) (new ∷ filter (is_entry_below new.node) es))

pub heard_with : (me : ℕ) (es : List Entry) (new : Entry) → AreHeardBy me es → new.node ≢ me → length (filter (is_entry_above new.node) es) + length (filter (is_entry_below new.node) es) < 15 → AreHeardBy me (with_one es new)
heard_with me es new h other room = record {
  falls = falls_with es new h.falls;
  limit = omega (arith, length_with es new, room);
  others =
      All-append (λ x. x.node ≢ me) (filter (is_entry_above new.node) es) (new ∷ filter (is_entry_below new.node) es)
      (All-filter (is_entry_above new.node) (λ x. x.node ≢ me) es h.others)
      (All-cons (λ x. x.node ≢ me) new _ other (All-filter (is_entry_below new.node) (λ x. x.node ≢ me) es h.others));
}

pub heard_aged : (me : ℕ) (es : List Entry) → AreHeardBy me es → AreHeardBy me (aged_entries es)
heard_aged me es h = record {
  falls = falls_grown (filter still_heard es) (falls_filter still_heard es h.falls);
  limit = omega (arith, length-map (filter still_heard es) one_older, filter_short still_heard es, h.limit);
  others = All-map (λ x. x.node ≢ me) one_older (filter still_heard es) (All-filter still_heard (λ x. x.node ≢ me) es h.others);
}

-- ---- changes in place

-- the entry of a node that is heard already is overwritten
pub overwritten : (es : List Entry) (i : ℕ) (new d : Entry) → Falls es → i < length es → (get_or es i d).node ≡ new.node → set es i new ≡ with_one es new
overwritten [] i new d h within same = absurd (omega (arith, within))
overwritten (e ∷ es) zero new d h within same =
    let under : All (λ x. x.node < new.node) es = lower new.node e es h.0 (omega (arith, same)) in
    rw (lt_false new.node e.node (omega (arith, same)), lt_false e.node new.node (omega (arith, same)), none_above new.node es under, all_below new.node es under) refl
overwritten (e ∷ es) (suc i) new d h within same =
    let low : (get_or es i d).node < e.node = h.0 i d (omega (arith, within)) in
    let above : new.node < e.node = omega (arith, low, same) in
    rw (lt_true new.node e.node above, lt_false e.node new.node (omega (arith, above)))
    (ap (λ rest. e ∷ rest) (overwritten es i new d h.1 (omega (arith, within)) same))

-- where none is forgotten, each is one older
pub aged_each : (es : List Entry) → list_all still_heard es ≡ true
    → map one_older es ≡ aged_entries es
aged_each [] h = refl
aged_each (e ∷ es) h =
    let both = and_parts (still_heard e) (list_all still_heard es) h in
    rw both.0 (ap (λ rest. one_older e ∷ rest) (aged_each es both.1))

-- the first so many are one older
abbrev pub older_till : ℕ → List Entry → List Entry
older_till i es = map one_older (take i es) ++ drop i es

pub next_older : (es : List Entry) (i : ℕ) (d : Entry) → i < length es → get_or (older_till i es) i d ≡ get_or es i d
next_older [] i d within = absurd (omega (arith, within))
next_older (e ∷ es) zero d within = refl
next_older (e ∷ es) (suc i) d within = next_older es i d (omega (arith, within))

pub older_more : (es : List Entry) (i : ℕ) (d b : Entry) → i < length es
    → set (older_till i es) i (record (get_or (older_till i es) i d) { age = (get_or (older_till i es) i b).age + 1 }) ≡ older_till (suc i) es
older_more [] i d b within = absurd (omega (arith, within))
older_more (e ∷ es) zero d b within = refl
older_more (e ∷ es) (suc i) d b within = ap (λ rest. one_older e ∷ rest) (older_more es i d b (omega (arith, within)))

-- an entry that isn't forgotten has an age that a byte has room for, and so has one tick more
pub young : (es : List Entry) (i : ℕ) (d : Entry) → i < length es → list_all still_heard es ≡ true → (get_or (older_till i es) i d).age + 1 < timeout
young es i d within all =
    let pass : still_heard (get_or es i d) ≡ true = AllPass-from_list_all still_heard es all i d within in
    rw (next_older es i d within) (grind (arith, nat_tests, pass))

-- ---- what is heard_entry of them

-- the entry of a node is put into the table
pub shown_with : (es : List Entry) (new : Entry) → Falls es → table_of (with_one es new) ≡ table_with (table_of es) new.node (record { age = new.age; beat = new.beat })
shown_with es new h =
    table_by-append heard_entry (filter (is_entry_above new.node) es) (new ∷ filter (is_entry_below new.node) es)
    ∙ append_assoc (table_by heard_entry (filter (is_entry_below new.node) es)) (heard_entry new ∷ []) (table_by heard_entry (filter (is_entry_above new.node) es))
    ∙ sym (table_by-put heard_entry (λ e. refl) new.node (record { age = new.age; beat = new.beat }) es h)

pub shown_aged : (es : List Entry) → table_of (aged_entries es) ≡ hearing.aged (table_of es)
shown_aged [] = refl
shown_aged (e ∷ es) =
    go (still_heard e) refl
    ∙ ap (λ t. t ++ filter (λ x. nat_lt x.1.age timeout) (older (heard_entry e) ∷ [])) (shown_aged es)
    ∙ sym (filter-append (λ x. nat_lt x.1.age timeout) (map older (table_of es)) (older (heard_entry e) ∷ []))
    ∙ ap (filter (λ x. nat_lt x.1.age timeout)) (sym (map-append older (table_of es) (heard_entry e ∷ [])))
  where
    go : (b : Bool) → still_heard e ≡ b → table_of (aged_entries (e ∷ es)) ≡ table_of (aged_entries es) ++ filter (λ x. nat_lt x.1.age timeout) (older (heard_entry e) ∷ [])
    go true h = rw h refl
    go false h = rw h (sym (append-nil _))

pub shown_ids : (es : List Entry) → heard_ids (table_of es) ≡ map (λ e. e.node) es
shown_ids es = reversed heard_entry (λ e. e.0) es

-- ---- the neighbours

filter_both : (p q : Entry → Bool) (es : List Entry) → filter p (filter q es) ≡ filter q (filter p es)
filter_both p q [] = refl
filter_both p q (e ∷ es) = go (p e) (q e) refl refl (filter_both p q es)
  where
    go : (a b : Bool) → p e ≡ a → q e ≡ b → filter p (filter q es) ≡ filter q (filter p es) → filter p (filter q (e ∷ es)) ≡ filter q (filter p (e ∷ es))
    go true true h i ih = rw (h, i) (rw h (ap (λ rest. e ∷ rest) ih))
    go true false h i ih = rw (h, i) ih
    go false true h i ih = rw (h, i) (rw h ih)
    go false false h i ih = rw (h, i) ih

filter_twice : (p q : Entry → Bool) (es : List Entry) → filter (λ e. p e && q e) es ≡ filter p (filter q es)
filter_twice p q [] = refl
filter_twice p q (e ∷ es) = go (p e) (q e) refl refl (filter_twice p q es)
  where
    go : (a b : Bool) → p e ≡ a → q e ≡ b → filter (λ x. p x && q x) es ≡ filter p (filter q es) → filter (λ x. p x && q x) (e ∷ es) ≡ filter p (filter q (e ∷ es))
    go true true h i ih = rw (h, i) (rw h (ap (λ rest. e ∷ rest) ih))
    go true false h i ih = rw (h, i) ih
    go false true h i ih = rw (h, i) (rw h ih)
    go false false h i ih = rw (h, i) ih

-- with the node itself those that hear it are no more than those that are heard, and one
pub room_named : (me : ℕ) (es : List Entry) → length (filter (names_from_above me) es) + length (filter (names_from_below me) es) ≤ length es
room_named me es =
    omega (
      arith,
      ap length (filter_twice (is_entry_above me) (entry_names me) es),
      ap length (filter_twice (is_entry_below me) (entry_names me) es),
      around me (filter (entry_names me) es),
      filter_short (entry_names me) es,
    )

abbrev roled : Entry → ℕ × Role
roled e = (e.node, e.beat.role)

-- a node names itself, and so it stands among those that are named
named_with : (me : ℕ) (es : List Entry) (new : Entry) → entry_names me new ≡ true
    → filter (entry_names me) (with_one es new) ≡ filter (is_entry_above new.node) (filter (entry_names me) es) ++ new ∷ filter (is_entry_below new.node) (filter (entry_names me) es)
named_with me es new h =
    filter-append (entry_names me) (filter (is_entry_above new.node) es)
    (new ∷ filter (is_entry_below new.node) es)
    ∙ ap (λ t. filter (entry_names me) (filter (is_entry_above new.node) es) ++ t) front
    ∙ ap (λ t. t ++ new ∷ filter (is_entry_below new.node) (filter (entry_names me) es)) (filter_both (entry_names me) (is_entry_above new.node) es)
  where
    front : filter (entry_names me) (new ∷ filter (is_entry_below new.node) es) ≡ new ∷ filter (is_entry_below new.node) (filter (entry_names me) es)
    front = rw h (ap (λ t. new ∷ t) (filter_both (entry_names me) (is_entry_below new.node) es))

-- those above the node, the node itself, and those below it
pub named_apart : (me : ℕ) (role : Role) (es : List Entry)
    → entry_names me (of_itself me role) ≡ true
    → (map member_in (filter (names_from_above me) es) ++ member_in (of_itself me role) ∷ []) ++ map member_in (filter (names_from_below me) es) ≡ map member_in (filter (entry_names me) (with_one es (of_itself me role)))
named_apart me role es itself =
    append_assoc (map member_in (filter (names_from_above me) es)) (member_in (of_itself me role) ∷ []) (map member_in (filter (names_from_below me) es))
    ∙ ap₂ (λ (xs ys : List Entry). map member_in xs ++ member_in (of_itself me role) ∷ map member_in ys) (filter_twice (is_entry_above me) (entry_names me) es) (filter_twice (is_entry_below me) (entry_names me) es)
    ∙ sym (map-append member_in (filter (is_entry_above me) (filter (entry_names me) es)) (of_itself me role ∷ filter (is_entry_below me) (filter (entry_names me) es)))
    ∙ ap (map member_in) (sym (named_with me es (of_itself me role) itself))

pub shown_neighbours : (me : ℕ) (role : Role) (es : List Entry) → Falls es → entry_names me (of_itself me role) ≡ true
    → map member_in (filter (entry_names me) (with_one es (of_itself me role))) ≡ neighbours_of me role (table_of es)
shown_neighbours me role es h itself =
    ap (map member_in) (named_with me es (of_itself me role) itself)
    ∙ sym (reversed roled member_of (filter (is_entry_above me) (filter (entry_names me) es) ++ of_itself me role ∷ filter (is_entry_below me) (filter (entry_names me) es)))
    ∙ ap (λ t. reverse (map member_of t)) (
    table_by-append roled (filter (is_entry_above me) (filter (entry_names me) es)) (of_itself me role ∷ filter (is_entry_below me) (filter (entry_names me) es))
    ∙ append_assoc (table_by roled (filter (is_entry_below me) (filter (entry_names me) es))) ((me, role) ∷ []) (table_by roled (filter (is_entry_above me) (filter (entry_names me) es)))
    ∙ sym (table_by-put roled (λ e. refl) me role (filter (entry_names me) es) (falls_filter (entry_names me) es h))
    ∙ ap (put nat_cmp me role) (sym (filtered heard_entry (λ e. (e.0, e.1.beat.role)) (hearing.names me) es)))

ids_falling : (es : List Entry) → Falls es → IsDescending (ids_of (map member_in es))
ids_falling [] h = record { falls = λ i j d lower within. absurd (omega (arith, within)) }
ids_falling (e ∷ es) h = record {
  falls =
      AllPairs-cons (λ x y. y < x) e.node (ids_of (map member_in es))
      (All-map (λ y. y < e.node) (λ (m : Member). m.id) (map member_in es) (All-map (λ (m : Member). m.id < e.node) member_in es h.0))
      (ids_falling es h.1).falls;
}

pub nodes_falling : (es : List Entry) → Falls es → IsDescending (map (λ e. e.node) es)
nodes_falling [] h = record { falls = λ i j d lower within. absurd (omega (arith, within)) }
nodes_falling (e ∷ es) h = record {
  falls = AllPairs-cons (λ x y. y < x) e.node (map (λ x. x.node) es) (All-map (λ y. y < e.node) (λ x. x.node) es h.0) (nodes_falling es h.1).falls;
}

pub named_members : (me : ℕ) (es : List Entry) (new : Entry) → Falls es → length (filter (is_entry_above new.node) es) + length (filter (is_entry_below new.node) es) < 16 → entry_names me new ≡ true
    → AreMembers (map member_in (filter (entry_names me) (with_one es new)))
named_members me es new h room itself = record {
  some =
      omega (
        arith,
        length-map (filter (entry_names me) (with_one es new)) member_in,
        ap length (named_with me es new itself),
        length-append (filter (is_entry_above new.node) (filter (entry_names me) es)) (new ∷ filter (is_entry_below new.node) (filter (entry_names me) es)),
      );
  limit = omega (arith, length-map (filter (entry_names me) (with_one es new)) member_in, filter_short (entry_names me) (with_one es new), length_with es new, room);
  descending = ids_falling (filter (entry_names me) (with_one es new)) (falls_filter (entry_names me) (with_one es new) (falls_with es new h));
}

-- ---- what they show

and_true : (b : Bool) → b ≡ (b && true)
and_true true = refl
and_true false = refl

and_swap : (a b : Bool) → (a && b) ≡ (b && a)
and_swap true true = refl
and_swap true false = refl
and_swap false true = refl
and_swap false false = refl

pub shown_all : (me : ℕ) (es : List Entry) (key : ClusterKey) → list_all (λ e. not (entry_names me e) || same_key e.beat.view key) es ≡ hearing.all_show me (table_of es) key
shown_all me [] key = refl
shown_all me (e ∷ es) key =
    and_swap (not (entry_names me e) || same_key e.beat.view key) (list_all (λ x. not (entry_names me x) || same_key x.beat.view key) es)
    ∙ ap (λ b. b && (not (entry_names me e) || same_key e.beat.view key)) (shown_all me es key)
    ∙ ap (λ b. list_all shows (filter (hearing.names me) (table_of es)) && b) (last (entry_names me e) refl)
    ∙ sym (list_all-append shows (filter (hearing.names me) (table_of es)) (filter (hearing.names me) (heard_entry e ∷ [])))
    ∙ ap (list_all shows) (sym (filter-append (hearing.names me) (table_of es) (heard_entry e ∷ [])))
  where
    shows : ℕ × Heard → Bool
    shows x = same_key x.1.beat.view key

    last : (b : Bool) → entry_names me e ≡ b → (not (entry_names me e) || same_key e.beat.view key) ≡ list_all shows (filter (hearing.names me) (heard_entry e ∷ []))
    last true h = rw h (and_true (same_key e.beat.view key))
    last false h = rw h refl

-- ---- the node's own calls

pub heard_view : (me : ℕ) (role : Role) (set : Option (List Member)) (quiet : ℕ) (es : List Entry) (from : ℕ) (beat : Beat) → Falls es
    → adjacent me role (table_of (with_one es (record { node = from; age = 0; beat = beat }))) set quiet
    ≡ record (adjacent me role (table_of es) set quiet) { hearing = beat_heard (adjacent me role (table_of es) set quiet).hearing from beat }
heard_view me role set quiet es from beat h = ap (λ t. adjacent me role t set quiet) (shown_with es (record { node = from; age = 0; beat = beat }) h)

pub ticked_view : (me : ℕ) (role : Role) (set : Option (List Member)) (quiet : ℕ) (es : List Entry) (now : List Member)
    → now ≡ neighbours_of me role (table_of (aged_entries es))
    → adjacent me role (table_of (aged_entries es)) (Some now)
    (quieter quiet (is_unchanged set now))
    ≡ record (adjacent me role (table_of es) set quiet) { hearing = ticked me role (adjacent me role (table_of es) set quiet).hearing }
ticked_view me role set quiet es now same =
    rw same (ap (λ t. adjacent me role t (Some (neighbours_of me role t)) (quieter quiet (is_unchanged set (neighbours_of me role t)))) (shown_aged es))

pub room_of : (me : ℕ) (es : List Entry) (from : ℕ) → AreHeardBy me es → Contains (heard_ids (table_of es)) from ⊎ (length (heard_ids (table_of es)) < 15)
    → length (filter (is_entry_above from) es) + length (filter (is_entry_below from) es) < 15
room_of me es from h (inl found) = omega (arith, around_present from es (subst (λ ids. Contains ids from) (shown_ids es) found), h.limit)
room_of me es from h (inr few) = omega (arith, around from es, few, ap length (shown_ids es), length-map es (λ e. e.node))

falls_distinct : (es : List Entry) → Falls es → AreDistinct (map (λ e. e.node) es)
falls_distinct es h = descending_distinct (map (λ e. e.node) es) (nodes_falling es h)

pub fresh_node : (es : List Entry) (i : ℕ) (e : Entry) → i < length es → e ≡ get_or es i e → Falls es → ¬ (Contains (map (λ x. x.node) (take i es)) e.node)
fresh_node es i e within read h found =
    fresh_next (map (λ x. x.node) es) i e.node
    (omega (arith, length-map es (λ x. x.node), within))
    (ap (λ (x : Entry). x.node) read ∙ sym (get_or-map (λ (x : Entry). x.node) es i e e.node within))
    (falls_distinct es h)
    (subst (λ ids. Contains ids e.node) (sym (take-map (λ (x : Entry). x.node) i es)) found)

-- a node that hears itself names itself
pub itself_named : (me : ℕ) (role : Role) → entry_names me (of_itself me role) ≡ true
itself_named me role = rw (let same : (me == me) ≡ true = grind (arith, nat_tests) in same) refl

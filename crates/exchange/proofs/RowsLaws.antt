-- The rows of members: whose are missing, and that there is room for them.
use Rattle.std.proofs.Common.{◌≡◌, ◌≢◌, ℕ, ◌<◌, ◌≤◌, ◌==◌, ◌&&◌, not, Bool, true, false, cond, List, [], ◌∷◌, ◌++◌, length, map, filter, Option, Some, None, unwrap_or, Contains, inl, inr, refl, sym, ap, subst, ◌∙◌, arith}
use Rattle.std.specs.Prelude.{All, IsSome, find, is_none, option_map, slice_get}
use Rattle.std.specs.List.{list_all}
use Rattle.std.proofs.lemmas.List.{length-map, length-append, map-append}
use Rattle.std.proofs.lemmas.List.Elements.{All-append, All-cons, All-filter, All-head, All-tail}
use Rattle.cluster_types.specs.declared.member.Member.{Member}
use Rattle.cluster_types.specs.Distinct.{AreDistinct, without}
use Rattle.cluster_types.specs.Members.{ids_of}
use Rattle.cluster_types.proofs.DistinctLaws.{distinct_push, distinct_without, length_without}
use Rattle.partition_lists.proofs.InOrderLaws.{Has, DifferBy, has_at, index_of, unequal, from_equal, equal, each_has, distinct_differ}
use Rattle.node_rules.specs.Copies.{Row}
use Rattle.node_rules.specs.declared.member_row.MemberRow.{MemberRow}
use Rattle.node_rules.specs.Exchange.{first_missing}
use Rattle.node_rules.specs.Map.{lacks}
use Rattle.exchange.specs.Rows.{AreRowsOf, row_nodes}

-- ---- whose row is there

-- the row isn't there where each is another's
pub others_lack : (rows : List MemberRow) (n : ℕ) → list_all (λ r. not (r.node == n)) rows ≡ lacks rows n
others_lack [] n = refl
others_lack (r ∷ rows) n = go (r.node == n) refl (others_lack rows n)
  where
    go : (b : Bool) → (r.node == n) ≡ b → list_all (λ x. not (x.node == n)) rows ≡ lacks rows n → (not (r.node == n) && list_all (λ x. not (x.node == n)) rows) ≡ lacks (r ∷ rows) n
    go true is ih = rw is refl
    go false is ih = rw is ih

pub has_of_contains : (ns : List ℕ) (n : ℕ) → Contains ns n → Has ns n
has_of_contains ns n found = subst (Has ns) found.2 (has_at ns found.0 n found.1)

contains_of_has : (ns : List ℕ) (n : ℕ) → Has ns n → Contains ns n
contains_of_has ns n found = let at = index_of ns n found in (at.0, at.1, at.2 n)

-- a node whose row is there isn't lacking
there_not_lacking : (rows : List MemberRow) (n : ℕ) → Has (row_nodes rows) n → lacks rows n ≡ false
there_not_lacking [] n found = absurd found
there_not_lacking (r ∷ rows) n found = go (r.node == n) refl (there_not_lacking rows n)
  where
    later : (r.node == n) ≡ false → Has (row_nodes (r ∷ rows)) n → Has (row_nodes rows) n
    later is (inl same) = absurd (clash (sym (equal r.node n same) ∙ is))
      where
        clash : true ≡ false → ⊥
        clash wrong = cc
    later is (inr rest) = rest

    go : (b : Bool) → (r.node == n) ≡ b → (Has (row_nodes rows) n → lacks rows n ≡ false) → lacks (r ∷ rows) n ≡ false
    go true is ih = rw is refl
    go false is ih = rw is (ih (later is found))

-- and one whose row isn't there is
lacking_not_there : (rows : List MemberRow) (n : ℕ) → (Has (row_nodes rows) n → ⊥) → lacks rows n ≡ true
lacking_not_there [] n fresh = refl
lacking_not_there (r ∷ rows) n fresh =
    rw (unequal r.node n (λ same. fresh (inl same))) (lacking_not_there rows n (λ found. fresh (inr found)))

pub lacks_fresh : (rows : List MemberRow) (n : ℕ) → lacks rows n ≡ true → ¬ (Contains (row_nodes rows) n)
lacks_fresh rows n lacking found = clash (sym lacking ∙ there_not_lacking rows n (has_of_contains (row_nodes rows) n found))
  where
    clash : true ≡ false → ⊥
    clash wrong = cc

-- ---- room

has_without : (ys : List ℕ) (x z : ℕ) → Has ys z → z ≢ x → Has (without ys x) z
has_without [] x z found apart = absurd found
has_without (y ∷ ys) x z (inl same) apart = rw (unequal y x (λ is. apart (sym same ∙ is))) (inl same)
has_without (y ∷ ys) x z (inr later) apart = go (y == x) refl (has_without ys x z later apart)
  where
    go : (b : Bool) → (y == x) ≡ b → Has (without ys x) z → Has (without (y ∷ ys) x) z
    go true is ih = rw is ih
    go false is ih = rw is (inr ih)

shorter : (ys : List ℕ) (x : ℕ) → Has ys x → length (without ys x) < length ys
shorter [] x found = absurd found
shorter (y ∷ ys) x found = go (y == x) refl (shorter ys x)
  where
    later : (y == x) ≡ false → Has (y ∷ ys) x → Has ys x
    later is (inl same) = absurd (clash (sym (equal y x same) ∙ is))
      where
        clash : true ≡ false → ⊥
        clash wrong = cc
    later is (inr rest) = rest

    go : (b : Bool) → (y == x) ≡ b → (Has ys x → length (without ys x) < length ys) → length (without (y ∷ ys) x) < length (y ∷ ys)
    go true is ih = rw is (omega (arith, length_without ys x))
    go false is ih = rw is (omega (arith, ih (later is found)))

-- distinct numbers that are all among others are no more than these
no_more : (xs ys : List ℕ) → DifferBy (λ n. n) xs → ((z : ℕ) → Has xs z → Has ys z) → length xs ≤ length ys
no_more [] ys h into = omega arith
no_more (x ∷ xs) ys h into =
    omega (arith, shorter ys x (into x (inl refl)), no_more xs (without ys x) h.1 (λ z found. has_without ys x z (into z (inr found)) (each_has (λ y. y ≢ x) xs z h.0 found)))

listed_has : (rows : List MemberRow) (ids : List ℕ) → All (λ r. Contains ids r.node) rows → (z : ℕ) → Has (row_nodes rows) z → Has ids z
listed_has [] ids h z found = absurd found
listed_has (r ∷ rows) ids h z (inl same) = subst (Has ids) same (has_of_contains ids r.node (All-head (λ x. Contains ids x.node) r rows h))
listed_has (r ∷ rows) ids h z (inr later) = listed_has rows ids (All-tail (λ x. Contains ids x.node) r rows h) z later

map_itself : (ns : List ℕ) → map (λ n. n) ns ≡ ns
map_itself [] = refl
map_itself (n ∷ ns) = ap (λ rest. n ∷ rest) (map_itself ns)

-- there are no more rows than members
pub rows_fit : (ms : List Member) (rows : List MemberRow) → AreDistinct (row_nodes rows) → All (λ r. Contains (ids_of ms) r.node) rows → length rows ≤ length ms
rows_fit ms rows distinct listed =
    let differ = distinct_differ (λ (n : ℕ). n) (row_nodes rows) (subst AreDistinct (sym (map_itself (row_nodes rows))) distinct) in
    omega (arith, no_more (row_nodes rows) (ids_of ms) differ (listed_has rows (ids_of ms) listed), length-map rows (λ (r : MemberRow). r.node), length-map ms (λ (m : Member). m.id))

pub rows_limit : (me : ℕ) (ms : List Member) (rows : List MemberRow) (room : ℕ) → AreRowsOf me ms rows room → length rows ≤ 16
rows_limit me ms rows room h = omega (arith, rows_fit ms rows h.distinct h.listed, h.view.limit)

-- ---- one row more

pub nodes_more : (rows : List MemberRow) (n : ℕ) (row : Row) → row_nodes (rows ++ record { node = n; row = row } ∷ []) ≡ row_nodes rows ++ n ∷ []
nodes_more rows n row = map-append (λ (r : MemberRow). r.node) rows (record { node = n; row = row } ∷ [])

get_first : (ns : List ℕ) (n : ℕ) (more : List ℕ) → slice_get ns 0 ≡ Some n → slice_get (ns ++ more) 0 ≡ Some n
get_first [] n more h = absurd (wrong h)
  where
    wrong : None ≡ Some n → ⊥
    wrong no_way = cc
get_first (m ∷ ns) n more h = h

pub rows_more : (me : ℕ) (ms : List Member) (rows next : List MemberRow) (room after n : ℕ) (row : Row) → AreRowsOf me ms rows room → room ≤ after → Contains (ids_of ms) n → lacks rows n ≡ true
    → next ≡ rows ++ record { node = n; row = row } ∷ [] → AreRowsOf me ms next after
rows_more me ms rows next room after n row h wider member lacking is =
    subst (λ (rs : List MemberRow). AreRowsOf me ms rs after) (sym is) (record {
      view = h.view;
      own = subst (λ ns. slice_get ns 0 ≡ Some me) (sym (nodes_more rows n row)) (get_first (row_nodes rows) me (n ∷ []) h.own);
      distinct = subst AreDistinct (sym (nodes_more rows n row)) (distinct_push (row_nodes rows) n h.distinct (lacks_fresh rows n lacking));
      listed =
          All-append (λ r. Contains (ids_of ms) r.node) rows (record { node = n; row = row } ∷ []) h.listed
          (All-cons (λ r. Contains (ids_of ms) r.node) (record { node = n; row = row }) [] member (λ k d within. absurd (omega (arith, within))));
      room = omega (arith, h.room, wider);
    })

-- where a member's row isn't there, there is room for it
pub room_for : (me : ℕ) (ms : List Member) (rows : List MemberRow) (room n : ℕ) → AreRowsOf me ms rows room → Contains (ids_of ms) n → lacks rows n ≡ true → length rows < room
room_for me ms rows room n h member lacking =
    let grown = rows_more me ms rows (rows ++ record { node = n; row = [] } ∷ []) room room n [] h (omega arith) member lacking refl in
    omega (arith, rows_fit ms (rows ++ record { node = n; row = [] } ∷ []) grown.distinct grown.listed, length-append rows (record { node = n; row = [] } ∷ []), h.room)

-- ---- one row less

nodes_without : (rows : List MemberRow) (n : ℕ) → row_nodes (filter (λ r. not (r.node == n)) rows) ≡ without (row_nodes rows) n
nodes_without [] n = refl
nodes_without (r ∷ rows) n = go (r.node == n) refl (nodes_without rows n)
  where
    go : (b : Bool) → (r.node == n) ≡ b → row_nodes (filter (λ x. not (x.node == n)) rows) ≡ without (row_nodes rows) n → row_nodes (filter (λ x. not (x.node == n)) (r ∷ rows)) ≡ without (row_nodes (r ∷ rows)) n
    go true is ih = rw is ih
    go false is ih = rw is (ap (λ rest. r.node ∷ rest) ih)

own_kept : (ns : List ℕ) (me n : ℕ) → n ≢ me → slice_get ns 0 ≡ Some me → slice_get (without ns n) 0 ≡ Some me
own_kept [] me n apart h = absurd (wrong h)
  where
    wrong : None ≡ Some me → ⊥
    wrong no_way = cc
own_kept (m ∷ ns) me n apart h =
    let same : m ≡ me = ap (λ o. unwrap_or o me) h in
    rw (unequal m n (λ is. apart (sym is ∙ same))) h

pub rows_less : (me : ℕ) (ms : List Member) (rows next : List MemberRow) (room after n : ℕ) → AreRowsOf me ms rows room → room ≤ after → n ≢ me → next ≡ filter (λ r. not (r.node == n)) rows → AreRowsOf me ms next after
rows_less me ms rows next room after n h wider apart is =
    subst (λ (rs : List MemberRow). AreRowsOf me ms rs after) (sym is) (record {
      view = h.view;
      own = subst (λ ns. slice_get ns 0 ≡ Some me) (sym (nodes_without rows n)) (own_kept (row_nodes rows) me n apart h.own);
      distinct = subst AreDistinct (sym (nodes_without rows n)) (distinct_without (row_nodes rows) n h.distinct);
      listed = All-filter (λ r. not (r.node == n)) (λ r. Contains (ids_of ms) r.node) rows h.listed;
      room = omega (arith, h.room, wider);
    })

none_has : (ns : List ℕ) (n : ℕ) → Has (without ns n) n → ⊥
none_has [] n found = found
none_has (m ∷ ns) n found = go (m == n) refl (none_has ns n)
  where
    apart : (m == n) ≡ false → m ≢ n
    apart is same = clash (sym (equal m n same) ∙ is)
      where
        clash : true ≡ false → ⊥
        clash wrong = cc

    split : (m == n) ≡ false → (Has (without ns n) n → ⊥) → Has (m ∷ without ns n) n → ⊥
    split is ih (inl same) = apart is same
    split is ih (inr later) = ih later

    go : (b : Bool) → (m == n) ≡ b → (Has (without ns n) n → ⊥) → ⊥
    go true is ih = ih (subst (λ b. Has (cond (not b) (m ∷ without ns n) (without ns n)) n) is found)
    go false is ih = split is ih (subst (λ b. Has (cond (not b) (m ∷ without ns n) (without ns n)) n) is found)

some_found : (test : ℕ → Bool) (ns : List ℕ) (n : ℕ) → Has ns n → test n ≡ true → IsSome (find test ns)
some_found test [] n found h = absurd found
some_found test (m ∷ ns) n found h = go (test m) refl (some_found test ns n)
  where
    later : test m ≡ false → Has (m ∷ ns) n → Has ns n
    later is (inl same) = absurd (clash (sym h ∙ sym (ap test same) ∙ is))
      where
        clash : true ≡ false → ⊥
        clash wrong = cc
    later is (inr rest) = rest

    go : (b : Bool) → test m ≡ b → (Has ns n → test n ≡ true → IsSome (find test ns)) → IsSome (find test (m ∷ ns))
    go true is ih = rw is refl
    go false is ih = rw is (ih (later is found) h)

-- without the row of a member one is missing
pub less_is_missing : (ms : List Member) (rows next : List MemberRow) (n : ℕ) → Contains (ids_of ms) n → next ≡ filter (λ r. not (r.node == n)) rows → IsSome (first_missing next ms)
less_is_missing ms rows next n member is =
    subst (λ (rs : List MemberRow). IsSome (first_missing rs ms)) (sym is)
    (some_found (lacks (filter (λ r. not (r.node == n)) rows)) (ids_of ms) n (has_of_contains (ids_of ms) n member)
    (lacking_not_there (filter (λ r. not (r.node == n)) rows) n (λ found. none_has (row_nodes rows) n (subst (λ ns. Has ns n) (nodes_without rows n) found))))

-- where no row is missing a member's is there
pub full_is_there : (ms : List Member) (rows : List MemberRow) (n : ℕ) → first_missing rows ms ≡ None → Contains (ids_of ms) n → Contains (row_nodes rows) n
full_is_there ms rows n full member = go (lacks rows n) refl
  where
    wrong : (o : Option ℕ) → o ≡ None → IsSome o → ⊥
    wrong None is h = absurd (let bad : false ≡ true = h in cc)
    wrong (Some m) is h = absurd (let bad : Some m ≡ None = is in cc)

    there : (rs : List MemberRow) → lacks rs n ≡ false → Has (row_nodes rs) n
    there [] h = absurd (let bad : true ≡ false = h in cc)
    there (r ∷ rs) h = first (r.node == n) refl (there rs)
      where
        first : (b : Bool) → (r.node == n) ≡ b → (lacks rs n ≡ false → Has (row_nodes rs) n) → Has (row_nodes (r ∷ rs)) n
        first true is ih = inl (from_equal r.node n is)
        first false is ih = inr (ih (sym (ap (λ b. is_none (option_map (λ (x : MemberRow). x.row) (cond b (Some r) (find (λ x. x.node == n) rs)))) is) ∙ h))

    go : (b : Bool) → lacks rows n ≡ b → Contains (row_nodes rows) n
    go true is = absurd (wrong (first_missing rows ms) full (some_found (lacks rows) (ids_of ms) n (has_of_contains (ids_of ms) n member) is))
    go false is = contains_of_has (row_nodes rows) n (there rows is)

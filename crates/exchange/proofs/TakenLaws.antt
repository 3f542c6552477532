-- A row is taken out of the rows by its place among them.
use Rattle.std.proofs.Common.{◌≡◌, ◌≢◌, ℕ, zero, suc, ◌<◌, ◌==◌, nat_lt, not, Bool, true, false, cond, List, [], ◌∷◌, length, get_or, filter, Some, None, Contains, inl, inr, refl, sym, ap, subst, ◌∙◌, arith}
use Rattle.std.specs.List.{position, prefix_len, remove}
use Rattle.std.proofs.lemmas.Bool.Decides.{nat_tests}
use Rattle.std.proofs.lemmas.List.Quantifiers.{position-Some}
use Rattle.cluster_types.specs.Distinct.{AreDistinct}
use Rattle.partition_lists.proofs.InOrderLaws.{Has, Each, DifferBy, has_at, unequal, from_equal, equal, each_has, distinct_differ}
use Rattle.node_rules.specs.declared.member_row.MemberRow.{MemberRow}
use Rattle.node_rules.specs.Map.{row_of_member}
use Rattle.exchange.specs.Rows.{row_nodes}
use Rattle.exchange.proofs.RowsLaws.{has_of_contains}

-- whether the row is that of the node
abbrev pub is_of : ℕ → MemberRow → Bool
is_of n r = r.node == n

before_its_row : (rows : List MemberRow) (n : ℕ) → Has (row_nodes rows) n → prefix_len (λ r. not (is_of n r)) rows < length rows
before_its_row [] n found = absurd found
before_its_row (r ∷ rows) n found = go (r.node == n) refl (before_its_row rows n)
  where
    later : (r.node == n) ≡ false → Has (row_nodes (r ∷ rows)) n → Has (row_nodes rows) n
    later is (inl same) = absurd (clash (sym (equal r.node n same) ∙ is))
      where
        clash : true ≡ false → ⊥
        clash wrong = cc
    later is (inr rest) = rest

    go : (b : Bool) → (r.node == n) ≡ b → (Has (row_nodes rows) n → prefix_len (λ x. not (is_of n x)) rows < length rows) → prefix_len (λ x. not (is_of n x)) (r ∷ rows) < length (r ∷ rows)
    go true is ih = rw is (omega arith)
    go false is ih = rw is (omega (arith, ih (later is found)))

-- a row that is there has a place
pub position_there : (rows items : List MemberRow) (n : ℕ) → rows ≡ items → Contains (row_nodes items) n → None ≡ position (is_of n) rows → ⊥
position_there rows items n is found none = wrong (subst (λ (rs : List MemberRow). None ≡ position (is_of n) rs) is none ∙ ap (λ b. cond b (Some (prefix_len (λ r. not (is_of n r)) items)) None) within)
  where
    within : nat_lt (prefix_len (λ r. not (is_of n r)) items) (length items) ≡ true
    within = let below : prefix_len (λ r. not (is_of n r)) items < length items = before_its_row items n (has_of_contains (row_nodes items) n found) in grind (arith, nat_tests)

    wrong : None ≡ Some (prefix_len (λ r. not (is_of n r)) items) → ⊥
    wrong no_way = cc

all_kept : (rows : List MemberRow) (n : ℕ) → Each (λ y. y.node ≢ n) rows → rows ≡ filter (λ r. not (r.node == n)) rows
all_kept [] n h = refl
all_kept (r ∷ rows) n h = rw (unequal r.node n h.0) (ap (λ rest. r ∷ rest) (all_kept rows n h.1))

-- the row at a later place is that of another node than the first
other_first : (r : MemberRow) (rows : List MemberRow) (i n : ℕ) (d : MemberRow) → DifferBy (λ (x : MemberRow). x.node) (r ∷ rows) → i < length rows → (get_or rows i d).node ≡ n → r.node ≢ n
other_first r rows i n d h within is same = each_has (λ y. y.node ≢ r.node) rows (get_or rows i d) h.0 (has_at rows i d within) (is ∙ sym same)

removed : (rows : List MemberRow) (i n : ℕ) (d : MemberRow) → DifferBy (λ (x : MemberRow). x.node) rows → i < length rows → (get_or rows i d).node ≡ n → remove rows i ≡ filter (λ r. not (r.node == n)) rows
removed [] i n d h within is = absurd (omega (arith, within))
removed (r ∷ rows) zero n d h within is = rw (equal r.node n is) (all_kept rows n (subst (λ k. Each (λ y. y.node ≢ k) rows) is h.0))
removed (r ∷ rows) (suc i) n d h within is =
    rw (unequal r.node n (other_first r rows i n d h (omega (arith, within)) is))
    (ap (λ rest. r ∷ rest) (removed rows i n d h.1 (omega (arith, within)) is))

row_at : (rows : List MemberRow) (i n : ℕ) (d : MemberRow) → DifferBy (λ (x : MemberRow). x.node) rows → i < length rows → (get_or rows i d).node ≡ n → row_of_member rows n ≡ Some (get_or rows i d).row
row_at [] i n d h within is = absurd (omega (arith, within))
row_at (r ∷ rows) zero n d h within is = rw (equal r.node n is) refl
row_at (r ∷ rows) (suc i) n d h within is =
    rw (unequal r.node n (other_first r rows i n d h (omega (arith, within)) is))
    (row_at rows i n d h.1 (omega (arith, within)) is)

at_position : (rows : List MemberRow) (n i : ℕ) (d : MemberRow) → Some i ≡ position (is_of n) rows → (i < length rows) × ((get_or rows i d).node ≡ n)
at_position rows n i d is = let at = position-Some (is_of n) rows i d (sym is) in (at.0, from_equal (get_or rows i d).node n at.1)

-- without the row at the node's place there are the rows of the other nodes
pub position_removed : (rows items next : List MemberRow) (n i : ℕ) (d : MemberRow) → rows ≡ items → AreDistinct (row_nodes items) → Some i ≡ position (is_of n) rows → next ≡ remove items i → next ≡ filter (λ r. not (r.node == n)) items
position_removed rows items next n i d is distinct place taken =
    let at = at_position items n i d (place ∙ ap (λ (rs : List MemberRow). position (is_of n) rs) is) in
    taken ∙ removed items i n d (distinct_differ (λ (x : MemberRow). x.node) items distinct) at.0 at.1

-- the row at the node's place is the node's
pub position_row : (rows items : List MemberRow) (n i : ℕ) (d : MemberRow) → rows ≡ items → AreDistinct (row_nodes items) → Some i ≡ position (is_of n) rows → d ≡ get_or items i d → row_of_member items n ≡ Some d.row
position_row rows items n i d is distinct place d_is =
    let at = at_position items n i d (place ∙ ap (λ (rs : List MemberRow). position (is_of n) rs) is) in
    row_at items i n d (distinct_differ (λ (x : MemberRow). x.node) items distinct) at.0 at.1 ∙ ap (λ (r : MemberRow). Some r.row) (sym d_is)

-- Rows that are read from partition to partition.
use Rattle.std.proofs.Common.{◌≡◌, ◌≢◌, ℕ, zero, suc, ◌+◌, ◌<◌, ◌≤◌, ◌==◌, nat_lt, Bool, true, false, cond, List, [], ◌∷◌, length, get_or, take, replicate, Some, None, unwrap_or, refl, sym, ap, subst, ◌∙◌, arith}
use Rattle.std.specs.Prelude.{All, AllPairs, slice_get, slice_index, slice_index_or}
use Rattle.std.proofs.lemmas.Bool.Decides.{nat_tests}
use Rattle.std.proofs.lemmas.List.{get_or_read_under, length-take-le}
use Rattle.std.proofs.lemmas.Option.{slice_get_read, slice_get_within}
use Rattle.std.proofs.lemmas.List.Elements.{All-head, All-tail, All-weaker}
use Rattle.cluster_types.specs.declared.copy_state.CopyState.{CopyState}
use Rattle.cluster_types.specs.declared.copy_state.CopyState.TheVariants.{Empty}
use Rattle.cluster_types.specs.StateRows.{IsStateRow, state_of}
use Rattle.node_rules.specs.declared.member_row.MemberRow.{MemberRow}
use Rattle.exchange.specs.Rows.{ArePlaces, AreNextPlaces, IsNextIn, place_in}

abbrev pub Entry : Type 0
Entry = ℕ × CopyState

-- each entry's partition is below those after it
abbrev pub Rises : List Entry → Type 0
Rises [] = Unit {0}
Rises (e ∷ row) = All (λ x. e.0 < x.0) row × Rises row

rises_of : (row : List Entry) → AllPairs (λ d e. d.0 < e.0) row → Rises row
rises_of [] h = tt
rises_of (e ∷ row) h = (λ k d within. h 0 (suc k) d (omega arith) (omega (arith, within)), rises_of row (λ i j d lower within. h (suc i) (suc j) d (omega (arith, lower)) (omega (arith, within))))

lt_true : (a b : ℕ) → a < b → nat_lt a b ≡ true
lt_true a b h = grind (arith, nat_tests)

lt_false : (a b : ℕ) → b ≤ a → nat_lt a b ≡ false
lt_false a b h = grind (arith, nat_tests)

other : (a b : ℕ) → a ≢ b → (a == b) ≡ false
other a b h = grind (arith, nat_tests, h)

itself : (a b : ℕ) → a ≡ b → (a == b) ≡ true
itself a b h = grind (arith, nat_tests, h)

-- ---- above the partition

no_state : (row : List Entry) (p : ℕ) → All (λ x. p < x.0) row → state_of row p ≡ Empty
no_state [] p h = refl
no_state (e ∷ row) p h =
    let above : p < e.0 = All-head (λ x. p < x.0) e row h in
    rw (other e.0 p (λ same. let no_way : ⊥ = omega (arith, above, same) in no_way)) (no_state row p (All-tail (λ x. p < x.0) e row h))

no_place : (row : List Entry) (p : ℕ) → All (λ x. p < x.0) row → place_in (p + 1) row ≡ 0
no_place [] p h = refl
no_place (e ∷ row) p h =
    let above : p < e.0 = All-head (λ x. p < x.0) e row h in
    rw (lt_false e.0 (p + 1) (omega (arith, above))) refl

-- ---- at the place

-- the partition's entry stands at the place
record Hit (row : List Entry) (p : ℕ) (e : Entry) : Type 0 where
  pub state : state_of row p ≡ e.1
  pub next : place_in (p + 1) row ≡ place_in p row + 1

hit_at : (row : List Entry) (p : ℕ) (e : Entry) → Rises row → slice_get row (place_in p row) ≡ Some e → e.0 ≡ p → Hit row p e
hit_at [] p e h found same = absurd (wrong found)
  where
    wrong : None ≡ Some e → ⊥
    wrong no_way = cc
hit_at (x ∷ row) p e h found same = go (nat_lt x.0 p) refl (hit_at row p e h.1)
  where
    head : Some x ≡ Some e → x ≡ e
    head eq = ap (λ o. unwrap_or o x) eq

    go : (b : Bool) → nat_lt x.0 p ≡ b → (slice_get row (place_in p row) ≡ Some e → e.0 ≡ p → Hit row p e) → Hit (x ∷ row) p e
    go true low ih =
        let below : x.0 < p = grind (arith, nat_tests, low) in
        let read : slice_get row (place_in p row) ≡ Some e = sym (ap (λ b. slice_get (x ∷ row) (cond b (suc (place_in p row)) 0)) low) ∙ found in
        let rest = ih read same in
        record {
          state = rw (other x.0 p (λ eq. let no_way : ⊥ = omega (arith, below, eq) in no_way)) rest.state;
          next = rw (low, lt_true x.0 (p + 1) (omega (arith, below))) (ap suc rest.next ∙ (let one_more : suc (place_in p row + 1) ≡ suc (place_in p row) + 1 = omega arith in one_more));
        }
    go false low ih =
        let here : x ≡ e = head (sym (ap (λ b. slice_get (x ∷ row) (cond b (suc (place_in p row)) 0)) low) ∙ found) in
        let at : x.0 ≡ p = ap (λ (y : Entry). y.0) here ∙ same in
        record {
          state = rw (itself x.0 p at) (ap (λ (y : Entry). y.1) here);
          next = rw (low, lt_true x.0 (p + 1) (omega (arith, at))) (ap suc (no_place row p (All-weaker (λ y. x.0 < y.0) (λ y. p < y.0) (λ y lt. omega (arith, lt, at)) row h.0)));
        }

-- no entry of the partition stands at the place
record Miss (row : List Entry) (p : ℕ) : Type 0 where
  pub state : state_of row p ≡ Empty
  pub next : place_in (p + 1) row ≡ place_in p row

miss_at : (row : List Entry) (p : ℕ) → Rises row → ((e : Entry) → slice_get row (place_in p row) ≡ Some e → e.0 ≢ p) → Miss row p
miss_at [] p h none = record { state = refl; next = refl }
miss_at (x ∷ row) p h none = go (nat_lt x.0 p) refl (miss_at row p h.1)
  where
    go : (b : Bool) → nat_lt x.0 p ≡ b → (((e : Entry) → slice_get row (place_in p row) ≡ Some e → e.0 ≢ p) → Miss row p) → Miss (x ∷ row) p
    go true low ih =
        let below : x.0 < p = grind (arith, nat_tests, low) in
        let rest = ih (λ e read. none e (ap (λ b. slice_get (x ∷ row) (cond b (suc (place_in p row)) 0)) low ∙ read)) in
        record {
          state = rw (other x.0 p (λ eq. let no_way : ⊥ = omega (arith, below, eq) in no_way)) rest.state;
          next = rw (low, lt_true x.0 (p + 1) (omega (arith, below))) (ap suc rest.next);
        }
    go false low ih =
        let apart : x.0 ≢ p = none x (ap (λ b. slice_get (x ∷ row) (cond b (suc (place_in p row)) 0)) low) in
        let above : p < x.0 = grind (arith, nat_tests, low, apart) in
        let over : All (λ y. p < y.0) row = All-weaker (λ y. x.0 < y.0) (λ y. p < y.0) (λ y lt. omega (arith, lt, above)) row h.0 in
        record {
          state = rw (other x.0 p apart) (no_state row p over);
          next = rw (low, lt_false x.0 (p + 1) (omega (arith, above))) refl;
        }

pub hit_state : (row : List Entry) (p : ℕ) (e : Entry) → IsStateRow row → slice_get row (place_in p row) ≡ Some e → e.0 ≡ p → state_of row p ≡ e.1
hit_state row p e h found same = (hit_at row p e (rises_of row h.rising) found same).state

pub hit_next : (row : List Entry) (p : ℕ) (e : Entry) → IsStateRow row → slice_get row (place_in p row) ≡ Some e → e.0 ≡ p → place_in (p + 1) row ≡ place_in p row + 1
hit_next row p e h found same = (hit_at row p e (rises_of row h.rising) found same).next

pub miss_state : (row : List Entry) (p : ℕ) → IsStateRow row → ((e : Entry) → slice_get row (place_in p row) ≡ Some e → e.0 ≢ p) → state_of row p ≡ Empty
miss_state row p h none = (miss_at row p (rises_of row h.rising) none).state

pub miss_next : (row : List Entry) (p : ℕ) → IsStateRow row → ((e : Entry) → slice_get row (place_in p row) ≡ Some e → e.0 ≢ p) → place_in (p + 1) row ≡ place_in p row
miss_next row p h none = (miss_at row p (rises_of row h.rising) none).next

-- before the first partition nothing was read
pub first_place : (row : List Entry) → place_in 0 row ≡ 0
first_place [] = refl
first_place (e ∷ row) = rw (lt_false e.0 0 (omega arith)) refl

-- as many zeros
abbrev pub zeros : ℕ → List ℕ
zeros n = replicate n 0

all_zero : (m n k : ℕ) → ◌≡◌ {A = ℕ} (get_or (take n (zeros m)) k 0) 0
all_zero m zero k = refl
all_zero zero (suc n) k = refl
all_zero (suc m) (suc n) zero = refl
all_zero (suc m) (suc n) (suc k) = all_zero m n k

zeros_length : (m : ℕ) → length (zeros m) ≡ m
zeros_length zero = refl
zeros_length (suc m) = ap suc (zeros_length m)

pub first_places : (rows : List MemberRow) (n : ℕ) → n ≡ length rows → n ≤ 16 → ArePlaces 0 rows (take n (zeros 16))
first_places rows n n_is limit = record {
  size = length-take-le n (zeros 16) (omega (arith, limit, zeros_length 16)) ∙ n_is;
  at = λ k d within. all_zero 16 n k ∙ sym (first_place (slice_index_or rows k d).row);
}

-- ---- the entry that is read

lt_from : (a b : ℕ) → true ≡ nat_lt a b → a < b
lt_from a b h = grind (arith, nat_tests, h)

ge_from : (a b : ℕ) → false ≡ nat_lt a b → b ≤ a
ge_from a b h = grind (arith, nat_tests, h)

same_from : (a b : ℕ) → true ≡ (a == b) → a ≡ b
same_from a b h = grind (arith, nat_tests, h)

entry_there : (row : List Entry) (p place : ℕ) (e : Entry) → place ≡ place_in p row → true ≡ nat_lt place (length row) → e ≡ get_or row place e → slice_get row (place_in p row) ≡ Some e
entry_there row p place e at within is = ap (slice_get row) (sym at) ∙ slice_get_read row (length row) place e refl (lt_from place (length row) within) is

other_entry : (row : List Entry) (p place : ℕ) (e : Entry) → place ≡ place_in p row → true ≡ nat_lt place (length row) → e ≡ get_or row place e → false ≡ (e.0 == p) → (x : Entry) → slice_get row (place_in p row) ≡ Some x → x.0 ≢ p
other_entry row p place e at within is apart x found same = clash (sym (itself e.0 p (ap (λ (y : Entry). y.0) here ∙ same)) ∙ sym apart)
  where
    clash : true ≡ false → ⊥
    clash wrong = cc

    one : Some e ≡ Some x
    one = sym (entry_there row p place e at within is) ∙ found

    here : e ≡ x
    here = ap (λ o. unwrap_or o x) one

no_entry : (row : List Entry) (p place : ℕ) → place ≡ place_in p row → false ≡ nat_lt place (length row) → (x : Entry) → slice_get row (place_in p row) ≡ Some x → x.0 ≢ p
no_entry row p place at past x found same =
    let within = slice_get_within row (place_in p row) x found in
    let behind = ge_from place (length row) past in
    let no_way : ⊥ = omega (arith, at, within, behind) in no_way

pub read_state_there : (row : List Entry) (p place : ℕ) (e : Entry) → IsStateRow row → place ≡ place_in p row → true ≡ nat_lt place (length row) → e ≡ get_or row place e → true ≡ (e.0 == p) → e.1 ≡ state_of row p
read_state_there row p place e h at within is same = sym (hit_state row p e h (entry_there row p place e at within is) (same_from e.0 p same))

pub read_next_there : (row : List Entry) (p place : ℕ) (e : Entry) → IsStateRow row → place ≡ place_in p row → true ≡ nat_lt place (length row) → e ≡ get_or row place e → true ≡ (e.0 == p) → place + 1 ≡ place_in (p + 1) row
read_next_there row p place e h at within is same = ap (λ k. k + 1) at ∙ sym (hit_next row p e h (entry_there row p place e at within is) (same_from e.0 p same))

pub read_state_other : (row : List Entry) (p place : ℕ) (e : Entry) → IsStateRow row → place ≡ place_in p row → true ≡ nat_lt place (length row) → e ≡ get_or row place e → false ≡ (e.0 == p) → Empty ≡ state_of row p
read_state_other row p place e h at within is apart = sym (miss_state row p h (other_entry row p place e at within is apart))

pub read_next_other : (row : List Entry) (p place : ℕ) (e : Entry) → IsStateRow row → place ≡ place_in p row → true ≡ nat_lt place (length row) → e ≡ get_or row place e → false ≡ (e.0 == p) → place ≡ place_in (p + 1) row
read_next_other row p place e h at within is apart = at ∙ sym (miss_next row p h (other_entry row p place e at within is apart))

pub read_state_past : (row : List Entry) (p place : ℕ) → IsStateRow row → place ≡ place_in p row → false ≡ nat_lt place (length row) → Empty ≡ state_of row p
read_state_past row p place h at past = sym (miss_state row p h (no_entry row p place at past))

pub read_next_past : (row : List Entry) (p place : ℕ) → IsStateRow row → place ≡ place_in p row → false ≡ nat_lt place (length row) → place ≡ place_in (p + 1) row
read_next_past row p place h at past = at ∙ sym (miss_next row p h (no_entry row p place at past))

-- ---- partitions below the next one of which a row has an entry

none_below : (row : List Entry) (p next : ℕ) → p < next → IsNextIn next row (place_in p row) → (e : Entry) → slice_get row (place_in p row) ≡ Some e → e.0 ≢ p
none_below row p next below above e found same = let high = above e found in let no_way : ⊥ = omega (arith, below, high, same) in no_way

none_there : (rows : List MemberRow) (places : List ℕ) (p next k : ℕ) (d : MemberRow) → p < next → ArePlaces p rows places → AreNextPlaces next rows places → k < length rows
    → (e : Entry) → slice_get (slice_index_or rows k d).row (place_in p (slice_index_or rows k d).row) ≡ Some e → e.0 ≢ p
none_there rows places p next k d below read told within =
    none_below (slice_index_or rows k d).row p next below (subst (λ (place : ℕ). IsNextIn next (slice_index_or rows k d).row place) (read.at k d within) (told.next_in k d within))

-- the next partition stands at the same places
pub places_stay : (rows : List MemberRow) (places : List ℕ) (p next : ℕ) → p < next → ArePlaces p rows places → AreNextPlaces next rows places → ArePlaces (p + 1) rows places
places_stay rows places p next below read told = record {
  size = read.size;
  at = λ k d within.
      let row = (slice_index_or rows k d).row in
      read.at k d within ∙ sym (miss_next row p (told.rising k d within) (none_there rows places p next k d below read told within));
}

-- and the copy of each row is empty
pub untold_state : (rows : List MemberRow) (places : List ℕ) (p next k : ℕ) (d : MemberRow) → p < next → ArePlaces p rows places → AreNextPlaces next rows places → k < length rows
    → state_of (slice_index_or rows k d).row p ≡ Empty
untold_state rows places p next k d below read told within =
    miss_state (slice_index_or rows k d).row p (told.rising k d within) (none_there rows places p next k d below read told within)

-- ---- the next partition of which a row has an entry, row by row

-- what holds of each below a number, and of that one
one_more : (P : ℕ → Type 0) (i : ℕ) → ((k : ℕ) → k < i → P k) → P i → (k : ℕ) → k < i + 1 → P k
one_more P i below here k within = go (k == i) refl
  where
    go : (b : Bool) → (k == i) ≡ b → P k
    go true e = subst P (sym (same_from k i (sym e))) here
    go false e = below k (grind (arith, nat_tests, e, within))

row_at : (rows : List MemberRow) (i : ℕ) (r d : MemberRow) → i < length rows → r ≡ get_or rows i r → get_or rows i d ≡ r
row_at rows i r d within is = sym (get_or_read_under rows i (length rows) r d is within refl)

pub rising_more : (rows : List MemberRow) (i : ℕ) (r : MemberRow) → i < length rows → r ≡ get_or rows i r → IsStateRow r.row
    → ((k : ℕ) (d : MemberRow) → k < i → k < length rows → IsStateRow (slice_index_or rows k d).row) → (k : ℕ) (d : MemberRow) → k < i + 1 → k < length rows → IsStateRow (slice_index_or rows k d).row
rising_more rows i r inside is rising below k d within =
    one_more (λ (j : ℕ). j < length rows → IsStateRow (slice_index_or rows j d).row) i (λ j under. below j d under)
    (λ fits. subst (λ (x : MemberRow). IsStateRow x.row) (sym (row_at rows i r d inside is)) rising) k within

pub next_more : (rows : List MemberRow) (places : List ℕ) (i next own new : ℕ) (r : MemberRow) (entries : List Entry) → i < length rows → r ≡ get_or rows i r → entries ≡ r.row → new ≤ next → new ≤ own
    → IsNextIn own entries (slice_index places i)
    → ((k : ℕ) (d : MemberRow) → k < i → k < length rows → IsNextIn next (slice_index_or rows k d).row (slice_index places k))
    → (k : ℕ) (d : MemberRow) → k < i + 1 → k < length rows → IsNextIn new (slice_index_or rows k d).row (slice_index places k)
next_more rows places i next own new r entries inside is same low lower here below k d within =
    one_more (λ (j : ℕ). j < length rows → IsNextIn new (slice_index_or rows j d).row (slice_index places j)) i
    (λ j under fits e found. let above = below j d under fits e found in omega (arith, above, low))
    (λ fits e found.
    let read : slice_get entries (slice_index places i) ≡ Some e = ap (λ (row : List Entry). slice_get row (slice_index places i)) (same ∙ sym (ap (λ (x : MemberRow). x.row) (row_at rows i r d inside is))) ∙ found in
    let above = here e read in
    omega (arith, above, lower)) k within

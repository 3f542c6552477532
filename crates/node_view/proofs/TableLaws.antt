-- What stands at the place of a number in a table, and what a change at that place makes of the table.
use Rattle.std.proofs.Common.{◌≡◌, ℕ, zero, suc, ◌+◌, ◌<◌, ◌≤◌, Bool, true, false, cond, List, [], ◌∷◌, length, map, get_or, set, Some, None, Result, Ok, Err, MatchResult, refl, sym, ap, subst, ◌∙◌, arith}
use Rattle.std.specs.List.{insert}
use Rattle.std.specs.List.Sorted.{IsSearchInRange, IsBinarySearchResult, IsSortedBy}
use Rattle.std.specs.Cmp.{nat_cmp_is}
use Rattle.std.specs.Ordering.{is_lt, is_eq, nat_cmp}
use Rattle.std.specs.declared.cmp.Ordering.{Ordering}
use Rattle.std.specs.declared.cmp.Ordering.TheVariants.{Less, Equal, Greater}
use Rattle.std.specs.FinMap.Entries.{by_order, below_all, find-put, is_sorted-put}
use lib.Dec.{T}
use Rattle.std.proofs.lemmas.Cmp.{nat_cmp_total, ranked}
use Rattle.std.proofs.lemmas.List.Sorted.{searchable_from_sorted}
use Rattle.std.proofs.lemmas.Bool.{and_parts}
use Rattle.std.proofs.lemmas.Float.{T_from_true}
use Rattle.node_rules.specs.Tables.{at, table_with}
use Rattle.node_view.specs.Writes.{IsAscendingTable, IsGapFor, IsTablePlaceOf}

less : (o : Ordering) → is_lt o ≡ true → o ≡ Less
less Less h = refl
less Equal h = cc
less Greater h = cc

told : (b : Bool) → T b → b ≡ true
told true h = refl
told false h = absurd h

is_less : (a b : ℕ) → a < b → nat_cmp a b ≡ Less
is_less a b h = sym (nat_cmp_is a b Less h)

is_greater : (a b : ℕ) → b < a → nat_cmp a b ≡ Greater
is_greater a b h = sym (nat_cmp_is a b Greater h)

is_equal : (a b : ℕ) → a ≡ b → nat_cmp a b ≡ Equal
is_equal a b h = sym (nat_cmp_is a b Equal h)

module _ {X : Type 0} where
  all_above : (p : ℕ) (es : List (ℕ × X)) (j : ℕ) (d : ℕ × X) → below_all nat_cmp p es ≡ true → j < length es → p < (get_or es j d).0
  all_above p [] j d h within = absurd (omega arith)
  all_above p (e ∷ es) zero d h within = ranked p e.0 Less (sym (less _ (and_parts _ _ h).0))
  all_above p (e ∷ es) (suc j) d h within = all_above p es j d (and_parts _ _ h).1 (omega (arith, within))

  -- the numbers rise from place to place
  rises : (es : List (ℕ × X)) (i j : ℕ) (d : ℕ × X) → IsAscendingTable es → i < j → j < length es → (get_or es i d).0 < (get_or es j d).0
  rises [] i j d h lower within = absurd (omega arith)
  rises (e ∷ es) i zero d h lower within = absurd (omega arith)
  rises (e ∷ es) zero (suc j) d h lower within = all_above e.0 es j d (and_parts _ _ h).0 (omega (arith, within))
  rises (e ∷ es) (suc i) (suc j) d h lower within = rises es i j d (and_parts _ _ h).1 (omega (arith, lower)) (omega (arith, within))

  sorted : (es : List (ℕ × X)) → IsAscendingTable es
      → IsSortedBy (λ a b. is_lt (nat_cmp a.0 b.0)) es
  sorted es h i d low high = ap is_lt (is_greater (get_or es (i + 1) d).0 (get_or es i d).0 (rises es i (i + 1) d h (omega arith) high))

  -- what a binary search answers
  pub searched : (p : ℕ) (es : List (ℕ × X)) (r : Result ℕ ℕ) → IsAscendingTable es → IsSearchInRange r (length es) → IsBinarySearchResult (λ e. nat_cmp e.0 p) es r → MatchResult r (IsTablePlaceOf p es) (IsGapFor p es)
  searched p es (Ok i) h within equal = record { within = within; entry = λ d. ranked (get_or es i d).0 p Equal (sym (equal d)) }
  searched p es (Err i) h within split =
      let point = split (searchable_from_sorted nat_cmp_total (λ (e : ℕ × X). e.0) es p (sorted es h)) in
      record {
        within = within;
        below = λ j d before inside. ranked (get_or es j d).0 p Less (sym (point.0 j d (omega arith) before));
        above = λ j d upto inside. ranked (get_or es j d).0 p Greater (sym (point.1 j d upto inside));
      }

module _ {X : Type 0} (p : ℕ) where
  -- the entries before the place are below the number, those from it on above
  abbrev Before : List (ℕ × X) → ℕ → Type 0
  Before es i = (j : ℕ) (d : ℕ × X) → j < i → j < length es → (get_or es j d).0 < p

  abbrev From : List (ℕ × X) → ℕ → Type 0
  From es i = (j : ℕ) (d : ℕ × X) → i ≤ j → j < length es → p < (get_or es j d).0

  later : (e : ℕ × X) (es : List (ℕ × X)) (i : ℕ) → Before (e ∷ es) (suc i) → Before es i
  later e es i h j d before within = h (suc j) d (omega (arith, before)) (omega (arith, within))

  later_from : (e : ℕ × X) (es : List (ℕ × X)) (i : ℕ) → From (e ∷ es) (suc i) → From es i
  later_from e es i h j d upto within = h (suc j) d (omega (arith, upto)) (omega (arith, within))

  tail_from : (e : ℕ × X) (es : List (ℕ × X)) → From (e ∷ es) zero → From es zero
  tail_from e es h j d upto within = h (suc j) d (omega arith) (omega (arith, within))

  -- no entry at the place
  find_none : (es : List (ℕ × X)) (i : ℕ) → Before es i → From es i → at es p ≡ None
  find_none [] i b f = refl
  find_none (e ∷ es) zero b f = ap (λ o. cond (is_eq o) (Some e.1) (at es p)) (is_less p e.0 (f zero e (omega arith) (omega arith))) ∙ find_none es zero (λ j d before within. absurd (omega arith)) (tail_from e es f)
  find_none (e ∷ es) (suc i) b f = ap (λ o. cond (is_eq o) (Some e.1) (at es p)) (is_greater p e.0 (b zero e (omega arith) (omega arith))) ∙ find_none es i (later e es i b) (later_from e es i f)

  put_new : (v : X) (es : List (ℕ × X)) (i : ℕ) → i ≤ length es → Before es i → From es i → table_with es p v ≡ insert es i (p, v)
  put_new v [] zero within b f = refl
  put_new v [] (suc i) within b f = absurd (omega arith)
  put_new v (e ∷ es) zero within b f = ap (λ o. by_order o ((p, v) ∷ e ∷ es) ((e.0, v) ∷ es) (e ∷ table_with es p v)) (is_less p e.0 (f zero e (omega arith) (omega arith)))
  put_new v (e ∷ es) (suc i) within b f = ap (λ o. by_order o ((p, v) ∷ e ∷ es) ((e.0, v) ∷ es) (e ∷ table_with es p v)) (is_greater p e.0 (b zero e (omega arith) (omega arith))) ∙ ap (λ fs. e ∷ fs) (put_new v es i (omega (arith, within)) (later e es i b) (later_from e es i f))

  -- an entry at the place
  find_some : (es : List (ℕ × X)) (i : ℕ) (x : ℕ × X) → i < length es → x ≡ get_or es i x → x.0 ≡ p → Before es i → at es p ≡ Some x.1
  find_some [] i x within here same b = absurd (omega arith)
  find_some (e ∷ es) zero x within here same b = ap (λ o. cond (is_eq o) (Some e.1) (at es p)) (is_equal p e.0 (sym same ∙ ap (λ (y : ℕ × X). y.0) here)) ∙ ap (λ (y : ℕ × X). Some y.1) (sym here)
  find_some (e ∷ es) (suc i) x within here same b = ap (λ o. cond (is_eq o) (Some e.1) (at es p)) (is_greater p e.0 (b zero e (omega arith) (omega arith))) ∙ find_some es i x (omega (arith, within)) here same (later e es i b)

  put_old : (v : X) (es : List (ℕ × X)) (i : ℕ) (x : ℕ × X) → i < length es → x ≡ get_or es i x → x.0 ≡ p → Before es i → table_with es p v ≡ set es i (x.0, v)
  put_old v [] i x within here same b = absurd (omega arith)
  put_old v (e ∷ es) zero x within here same b = ap (λ o. by_order o ((p, v) ∷ e ∷ es) ((e.0, v) ∷ es) (e ∷ table_with es p v)) (is_equal p e.0 (sym same ∙ ap (λ (y : ℕ × X). y.0) here)) ∙ ap (λ (y : ℕ × X). (y.0, v) ∷ es) (sym here)
  put_old v (e ∷ es) (suc i) x within here same b = ap (λ o. by_order o ((p, v) ∷ e ∷ es) ((e.0, v) ∷ es) (e ∷ table_with es p v)) (is_greater p e.0 (b zero e (omega arith) (omega arith))) ∙ ap (λ fs. e ∷ fs) (put_old v es i x (omega (arith, within)) here same (later e es i b))

  before_place : (es : List (ℕ × X)) (i : ℕ) → IsAscendingTable es → IsTablePlaceOf p es i
      → Before es i
  before_place es i h here j d before within = subst (λ n. (get_or es j d).0 < n) (here.entry d) (rises es j i d h before here.within)

  its_number : (es : List (ℕ × X)) (i : ℕ) (x : ℕ × X) → IsTablePlaceOf p es i → x ≡ get_or es i x → x.0 ≡ p
  its_number es i x here is = ap (λ (y : ℕ × X). y.0) is ∙ here.entry x

  pub at_place : (es : List (ℕ × X)) (i : ℕ) (x : ℕ × X) → IsAscendingTable es → IsTablePlaceOf p es i → x ≡ get_or es i x → at es p ≡ Some x.1
  at_place es i x h here is = find_some es i x here.within is (its_number es i x here is) (before_place es i h here)

  pub put_place : (v : X) (es : List (ℕ × X)) (i : ℕ) (x : ℕ × X) → IsAscendingTable es → IsTablePlaceOf p es i → x ≡ get_or es i x → set es i (x.0, v) ≡ table_with es p v
  put_place v es i x h here is = sym (put_old v es i x here.within is (its_number es i x here is) (before_place es i h here))

  pub at_gap : (es : List (ℕ × X)) (i : ℕ) → IsGapFor p es i → at es p ≡ None
  at_gap es i gap = find_none es i gap.below gap.above

  pub put_gap : (v : X) (es : List (ℕ × X)) (i : ℕ) → IsGapFor p es i → insert es i (p, v) ≡ table_with es p v
  put_gap v es i gap = sym (put_new v es i gap.within gap.below gap.above)

  pub at_put : (v : X) (es : List (ℕ × X)) → at (table_with es p v) p ≡ Some v
  at_put v es = find-put nat_cmp nat_cmp_total p p v es ∙ ap (λ o. cond (is_eq o) (Some v) (at es p)) (is_equal p p refl)

  -- a table with an entry more or another one still rises
  pub put_ascends : (v : X) (es us : List (ℕ × X)) → IsAscendingTable es → us ≡ table_with es p v → IsAscendingTable us
  put_ascends v es us h is = subst (λ (ts : List (ℕ × X)). IsAscendingTable ts) (sym is) (told _ (is_sorted-put nat_cmp nat_cmp_total p v es (T_from_true _ h)))

-- ---- a table of what each entry gives

module _ {X Y : Type 0} (f : X → Y) where
  abbrev pub mapped : List (ℕ × X) → List (ℕ × Y)
  mapped es = map (λ (e : ℕ × X). (e.0, f e.1)) es

  pub at_mapped : (es : List (ℕ × X)) (p : ℕ) (x : X) → at es p ≡ Some x → at (mapped es) p ≡ Some (f x)
  at_mapped [] p x h = cc
  at_mapped (e ∷ es) p x h = go (is_eq (nat_cmp p e.0)) h (at_mapped es p x)
    where
      go : (b : Bool) → cond b (Some e.1) (at es p) ≡ Some x → (at es p ≡ Some x → at (mapped es) p ≡ Some (f x)) → cond b (Some (f e.1)) (at (mapped es) p) ≡ Some (f x)
      go true h ih = cc
      go false h ih = ih h

  pub none_mapped : (es : List (ℕ × X)) (p : ℕ) → at es p ≡ None → at (mapped es) p ≡ None
  none_mapped [] p h = refl
  none_mapped (e ∷ es) p h = go (is_eq (nat_cmp p e.0)) h (none_mapped es p)
    where
      go : (b : Bool) → cond b (Some e.1) (at es p) ≡ None → (at es p ≡ None → at (mapped es) p ≡ None) → cond b (Some (f e.1)) (at (mapped es) p) ≡ None
      go true h ih = cc
      go false h ih = ih h

  pub put_mapped : (es : List (ℕ × X)) (p : ℕ) (v : X) → mapped (table_with es p v) ≡ table_with (mapped es) p (f v)
  put_mapped [] p v = refl
  put_mapped (e ∷ es) p v = go (nat_cmp p e.0) (put_mapped es p v)
    where
      go : (o : Ordering) → mapped (table_with es p v) ≡ table_with (mapped es) p (f v)
          → mapped (by_order o ((p, v) ∷ e ∷ es) ((e.0, v) ∷ es) (e ∷ table_with es p v)) ≡ by_order o ((p, f v) ∷ (e.0, f e.1) ∷ mapped es) ((e.0, f v) ∷ mapped es) ((e.0, f e.1) ∷ table_with (mapped es) p (f v))
      go Less ih = refl
      go Equal ih = refl
      go Greater ih = ap (λ (t : List (ℕ × Y)). (e.0, f e.1) ∷ t) ih

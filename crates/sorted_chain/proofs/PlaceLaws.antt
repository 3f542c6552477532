-- What stands at the place of a key among entries, and what a change at that place makes of them.
use Rattle.std.proofs.Common.{◌≡◌, ℕ, zero, suc, ◌+◌, ◌<◌, ◌≤◌, Bool, true, false, cond, ◌&&◌, List, [], ◌∷◌, length, get_or, slice_get, set, drop, Some, None, ⊎_elim, refl, sym, ap, subst, ◌∙◌, arith, add-one}
use Rattle.std.specs.List.{insert}
use Rattle.std.specs.Cmp.{IsTotalOrder}
use Rattle.std.specs.Ordering.{is_lt, is_eq, ordering_reverse}
use Rattle.std.specs.declared.cmp.Ordering.{Ordering}
use Rattle.std.specs.declared.cmp.Ordering.TheVariants.{Less, Equal, Greater}
use Rattle.std.specs.FinMap.{find, put, nat_cmp-IsAntisymmetric, slice_cmp-IsAntisymmetric}
use Rattle.std.specs.FinMap.Entries.{by_order, below_all, is_sorted-put}
use lib.Dec.{T}
use Rattle.std.proofs.lemmas.Cmp.{nat_list_cmp_total}
use Rattle.std.proofs.lemmas.Bool.{cases_lt, false≢true}
use Rattle.std.proofs.lemmas.Option.{get_or_from_slice_get, slice_get_within}
use Rattle.sorted_chain.specs.Chain.{key_cmp, above, IsAscending}
use Rattle.sorted_chain.specs.Nodes.{HasPassed, IsBefore}
use Rattle.sorted_chain.specs.Places.{IsHere, IsGap}

total : IsTotalOrder key_cmp
total = nat_list_cmp_total

same_key : (x y : List ℕ) → key_cmp x y ≡ Equal → x ≡ y
same_key = slice_cmp-IsAntisymmetric nat_cmp-IsAntisymmetric

both : (a b : Bool) → (a && b) ≡ true → record { one : a ≡ true; other : b ≡ true }
both true b h = record { one = refl; other = h }
both false b h = absurd (false≢true h)

less : (o : Ordering) → is_lt o ≡ true → o ≡ Less
less Less h = refl
less Equal h = cc
less Greater h = cc

holds : (b : Bool) → b ≡ true → T b
holds true h = tt
holds false h = absurd (false≢true h)

told : (b : Bool) → T b → b ≡ true
told true h = refl
told false h = absurd h

pub flipped : (x y : List ℕ) (o : Ordering) → key_cmp x y ≡ o → key_cmp y x ≡ ordering_reverse o
flipped x y o h = total.antisymm y x ∙ ap ordering_reverse h

module _ {V : Type 0} where
  all_above : (x : List ℕ) (es : List (List ℕ × V)) (j : ℕ) (d : List ℕ × V) → below_all key_cmp x es ≡ true → j < length es → key_cmp x (get_or es j d).0 ≡ Less
  all_above x [] j d h within = absurd (omega arith)
  all_above x (e ∷ es) zero d h within = less _ (both _ _ h).one
  all_above x (e ∷ es) (suc j) d h within = all_above x es j d (both _ _ h).other (omega (arith, within))

  -- the keys rise from place to place
  rises : (es : List (List ℕ × V)) (i j : ℕ) (d : List ℕ × V) → IsAscending es → i < j → j < length es → key_cmp (get_or es i d).0 (get_or es j d).0 ≡ Less
  rises [] i j d h lower within = absurd (omega arith)
  rises (e ∷ es) i zero d h lower within = absurd (omega arith)
  rises (e ∷ es) zero (suc j) d h lower within = all_above e.0 es j d (both _ _ h).one (omega (arith, within))
  rises (e ∷ es) (suc i) (suc j) d h lower within = rises es i j d (both _ _ h).other (omega (arith, lower)) (omega (arith, within))

  -- the entries from one above the key on are above it
  above_at : (k : List ℕ) (es : List (List ℕ × V)) (i j : ℕ) (d e : List ℕ × V) → IsAscending es → slice_get es i ≡ Some e → key_cmp k e.0 ≡ Less → i ≤ j → j < length es → key_cmp k (get_or es j d).0 ≡ Less
  above_at k [] i j d e h at less upto within = absurd (omega arith)
  above_at k (x ∷ es) zero zero d e h at less upto within = let same : x ≡ e = cc in ap (λ (y : List ℕ × V). key_cmp k y.0) same ∙ less
  above_at k (x ∷ es) zero (suc j) d e h at less upto within =
      let same : x ≡ e = cc in
      total.trans k x.0 (get_or es j d).0 (ap (λ (y : List ℕ × V). key_cmp k y.0) same ∙ less) (all_above x.0 es j d (both _ _ h).one (omega (arith, within)))
  above_at k (x ∷ es) (suc i) zero d e h at less upto within = absurd (omega arith)
  above_at k (x ∷ es) (suc i) (suc j) d e h at less upto within = above_at k es i j d e (both _ _ h).other at less (omega (arith, upto)) (omega (arith, within))

-- what an entry tells of those before and after it
module _ {V : Type 0} (k : List ℕ) (es : List (List ℕ × V)) (i : ℕ) (e : List ℕ × V) (at : slice_get es i ≡ Some e) where
  -- from an entry above the key on, all are above it
  pub above_all : IsAscending es → key_cmp k e.0 ≡ Less → IsBefore k es i
  above_all h less j d upto inside = flipped k _ Less (above_at k es i j d e h at less upto inside)

  pub stops_at : key_cmp k e.0 ≡ Equal → IsHere k es i
  stops_at equal = record {
    within = slice_get_within es i e at;
    same = λ d. ap (λ (y : List ℕ × V). key_cmp y.0 k) (get_or_from_slice_get es i e d at) ∙ flipped k _ Equal equal;
  }

  -- up to an entry below the key, all are below it
  pub passes_all : IsAscending es → key_cmp k e.0 ≡ Greater → HasPassed k es (i + 1)
  passes_all h greater j d before inside =
      let within : i < length es = slice_get_within es i e at in
      let below : key_cmp e.0 k ≡ Less = flipped k _ Greater greater in
      let here : get_or es i d ≡ e = get_or_from_slice_get es i e d at in
      ⊎_elim
      (λ earlier.
      let less : key_cmp (get_or es j d).0 e.0 ≡ Less = ap (λ (y : List ℕ × V). key_cmp (get_or es j d).0 y.0) (sym here) ∙ rises es j i d h earlier within in
      total.trans (get_or es j d).0 e.0 k less below)
      (λ upto.
      let last : j ≡ i = omega (arith, before, upto) in
      ap (λ (n : ℕ). key_cmp (get_or es n d).0 k) last ∙ ap (λ (y : List ℕ × V). key_cmp y.0 k) here ∙ below)
      (cases_lt j i)

module _ {V : Type 0} (k : List ℕ) where
  -- the entries before the place are below the key, those from it on above
  abbrev Before : List (List ℕ × V) → ℕ → Type 0
  Before es i = (j : ℕ) (d : List ℕ × V) → j < i → j < length es → key_cmp k (get_or es j d).0 ≡ Greater

  abbrev From : List (List ℕ × V) → ℕ → Type 0
  From es i = (j : ℕ) (d : List ℕ × V) → i ≤ j → j < length es → key_cmp k (get_or es j d).0 ≡ Less

  later : (e : List ℕ × V) (es : List (List ℕ × V)) (i : ℕ) → Before (e ∷ es) (suc i) → Before es i
  later e es i h j d before within = h (suc j) d (omega (arith, before)) (omega (arith, within))

  later_from : (e : List ℕ × V) (es : List (List ℕ × V)) (i : ℕ) → From (e ∷ es) (suc i) → From es i
  later_from e es i h j d upto within = h (suc j) d (omega (arith, upto)) (omega (arith, within))

  tail_from : (e : List ℕ × V) (es : List (List ℕ × V)) → From (e ∷ es) zero → From es zero
  tail_from e es h j d upto within = h (suc j) d (omega arith) (omega (arith, within))

  -- no entry at the place
  find_none : (es : List (List ℕ × V)) (i : ℕ) → Before es i → From es i → find key_cmp k es ≡ None
  find_none [] i b f = refl
  find_none (e ∷ es) zero b f = ap (λ o. cond (is_eq o) (Some e.1) (find key_cmp k es)) (f zero e (omega arith) (omega arith)) ∙ find_none es zero (λ j d before within. absurd (omega arith)) (tail_from e es f)
  find_none (e ∷ es) (suc i) b f = ap (λ o. cond (is_eq o) (Some e.1) (find key_cmp k es)) (b zero e (omega arith) (omega arith)) ∙ find_none es i (later e es i b) (later_from e es i f)

  put_new : (v : V) (es : List (List ℕ × V)) (i : ℕ) → i ≤ length es → Before es i → From es i → put key_cmp k v es ≡ insert es i (k, v)
  put_new v [] zero within b f = refl
  put_new v [] (suc i) within b f = absurd (omega arith)
  put_new v (e ∷ es) zero within b f = ap (λ o. by_order o ((k, v) ∷ e ∷ es) ((e.0, v) ∷ es) (e ∷ put key_cmp k v es)) (f zero e (omega arith) (omega arith))
  put_new v (e ∷ es) (suc i) within b f = ap (λ o. by_order o ((k, v) ∷ e ∷ es) ((e.0, v) ∷ es) (e ∷ put key_cmp k v es)) (b zero e (omega arith) (omega arith)) ∙ ap (λ fs. e ∷ fs) (put_new v es i (omega (arith, within)) (later e es i b) (later_from e es i f))

  above_each : (es : List (List ℕ × V)) → From es zero → above (Some k) es ≡ es
  above_each [] f = refl
  above_each (e ∷ es) f = ap (λ o. cond (is_lt o) (e ∷ above (Some k) es) (above (Some k) es)) (f zero e (omega arith) (omega arith)) ∙ ap (λ fs. e ∷ fs) (above_each es (tail_from e es f))

  above_from : (es : List (List ℕ × V)) (i : ℕ) → Before es i → From es i → above (Some k) es ≡ drop i es
  above_from es zero b f = above_each es f
  above_from [] (suc i) b f = refl
  above_from (e ∷ es) (suc i) b f = ap (λ o. cond (is_lt o) (e ∷ above (Some k) es) (above (Some k) es)) (b zero e (omega arith) (omega arith)) ∙ above_from es i (later e es i b) (later_from e es i f)

  -- an entry at the place
  find_some : (es : List (List ℕ × V)) (i : ℕ) (x : List ℕ × V) → i < length es → x ≡ get_or es i x → key_cmp k x.0 ≡ Equal → Before es i → find key_cmp k es ≡ Some x.1
  find_some [] i x within at same b = absurd (omega arith)
  find_some (e ∷ es) zero x within at same b = ap (λ o. cond (is_eq o) (Some e.1) (find key_cmp k es)) (ap (λ (y : List ℕ × V). key_cmp k y.0) (sym at) ∙ same) ∙ ap (λ (y : List ℕ × V). Some y.1) (sym at)
  find_some (e ∷ es) (suc i) x within at same b = ap (λ o. cond (is_eq o) (Some e.1) (find key_cmp k es)) (b zero e (omega arith) (omega arith)) ∙ find_some es i x (omega (arith, within)) at same (later e es i b)

  put_old : (v : V) (es : List (List ℕ × V)) (i : ℕ) (x : List ℕ × V) → i < length es → x ≡ get_or es i x → key_cmp k x.0 ≡ Equal → Before es i → put key_cmp k v es ≡ set es i (x.0, v)
  put_old v [] i x within at same b = absurd (omega arith)
  put_old v (e ∷ es) zero x within at same b = ap (λ o. by_order o ((k, v) ∷ e ∷ es) ((e.0, v) ∷ es) (e ∷ put key_cmp k v es)) (ap (λ (y : List ℕ × V). key_cmp k y.0) (sym at) ∙ same) ∙ ap (λ (y : List ℕ × V). (y.0, v) ∷ es) (sym at)
  put_old v (e ∷ es) (suc i) x within at same b = ap (λ o. by_order o ((k, v) ∷ e ∷ es) ((e.0, v) ∷ es) (e ∷ put key_cmp k v es)) (b zero e (omega arith) (omega arith)) ∙ ap (λ fs. e ∷ fs) (put_old v es i x (omega (arith, within)) at same (later e es i b))

  -- the entry at the place isn't above the key
  above_past : (es : List (List ℕ × V)) (i : ℕ) → i < length es → ((d : List ℕ × V) → key_cmp k (get_or es i d).0 ≡ Equal) → Before es i → From es (suc i) → above (Some k) es ≡ drop (suc i) es
  above_past [] i within same b f = absurd (omega arith)
  above_past (e ∷ es) zero within same b f = ap (λ o. cond (is_lt o) (e ∷ above (Some k) es) (above (Some k) es)) (same e) ∙ above_each es (later_from e es zero f)
  above_past (e ∷ es) (suc i) within same b f = ap (λ o. cond (is_lt o) (e ∷ above (Some k) es) (above (Some k) es)) (b zero e (omega arith) (omega arith)) ∙ above_past es i (omega (arith, within)) same (later e es i b) (later_from e es (suc i) f)

  before_gap : (es : List (List ℕ × V)) (i : ℕ) → IsGap k es i → Before es i
  before_gap es i h j d before within = flipped _ k Less (h.below j d before within)

  from_gap : (es : List (List ℕ × V)) (i : ℕ) → IsGap k es i → From es i
  from_gap es i h j d upto within = flipped _ k Greater (h.above j d upto within)

  before_here : (es : List (List ℕ × V)) (i : ℕ) → IsAscending es → IsHere k es i → Before es i
  before_here es i h here j d before within = subst (λ x. key_cmp x (get_or es j d).0 ≡ Greater) (same_key _ k (here.same d)) (flipped (get_or es j d).0 (get_or es i d).0 Less (rises es j i d h before here.within))

  from_here : (es : List (List ℕ × V)) (i : ℕ) → IsAscending es → IsHere k es i → From es (suc i)
  from_here es i h here j d upto within = subst (λ x. key_cmp x (get_or es j d).0 ≡ Less) (same_key _ k (here.same d)) (rises es i j d h (omega arith) within)

  equal_here : (es : List (List ℕ × V)) (i : ℕ) (d : List ℕ × V) → IsHere k es i → key_cmp k (get_or es i d).0 ≡ Equal
  equal_here es i d here = flipped _ k Equal (here.same d)

  pub find_gap : (es : List (List ℕ × V)) (i : ℕ) → IsGap k es i → find key_cmp k es ≡ None
  find_gap es i h = find_none es i (before_gap es i h) (from_gap es i h)

  pub put_gap : (v : V) (es : List (List ℕ × V)) (i : ℕ) → IsGap k es i → put key_cmp k v es ≡ insert es i (k, v)
  put_gap v es i h = put_new v es i h.within (before_gap es i h) (from_gap es i h)

  pub above_gap : (es : List (List ℕ × V)) (i : ℕ) → IsGap k es i → above (Some k) es ≡ drop i es
  above_gap es i h = above_from es i (before_gap es i h) (from_gap es i h)

  pub find_here : (es : List (List ℕ × V)) (i : ℕ) (x : List ℕ × V) → IsAscending es → IsHere k es i → x ≡ get_or es i x → find key_cmp k es ≡ Some x.1
  find_here es i x h here at = find_some es i x here.within at (ap (λ (y : List ℕ × V). key_cmp k y.0) at ∙ equal_here es i x here) (before_here es i h here)

  pub put_here : (v : V) (es : List (List ℕ × V)) (i : ℕ) (x : List ℕ × V) → IsAscending es → IsHere k es i → x ≡ get_or es i x → put key_cmp k v es ≡ set es i (x.0, v)
  put_here v es i x h here at = put_old v es i x here.within at (ap (λ (y : List ℕ × V). key_cmp k y.0) at ∙ equal_here es i x here) (before_here es i h here)

  pub above_here : (es : List (List ℕ × V)) (i : ℕ) → IsAscending es → IsHere k es i → above (Some k) es ≡ drop (i + 1) es
  above_here es i h here = rw add-one (above_past es i here.within (λ d. equal_here es i d here) (before_here es i h here) (from_here es i h here))

  -- the entries with a key put among them still rise
  pub put_ascends : (v : V) (es : List (List ℕ × V)) → IsAscending es → IsAscending (put key_cmp k v es)
  put_ascends v es h = told _ (is_sorted-put key_cmp total k v es (holds _ h))

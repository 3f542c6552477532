-- What nodes hold: their entries, and what a change of a node makes of them.
use Rattle.std.proofs.Common.{◌≡◌, ℕ, zero, suc, ◌+◌, ◌<◌, List, [], ◌∷◌, length, get_or, slice_get, set, drop, map, Option, Some, None, IfSome, is_some, true, refl, sym, ap, subst, ◌∙◌, arith, add-one}
use Rattle.std.specs.List.{insert}
use Rattle.std.specs.FinMap.{find, put}
use Rattle.std.specs.declared.cmp.Ordering.{Ordering}
use Rattle.std.specs.declared.cmp.Ordering.TheVariants.{Less, Equal, Greater}
use Rattle.std.proofs.lemmas.List.{length-map, map-set}
use Rattle.std.proofs.lemmas.Option.{get_or_from_slice_get}
use Rattle.sorted_chain.specs.declared.linked_list.Node.{Node}
use Rattle.sorted_chain.specs.Chain.{key_cmp, has_key, IsAscending}
use Rattle.sorted_chain.specs.Nodes.{pay, pays, entries, full, IsFull, HasPassed, IsBefore}
use Rattle.sorted_chain.specs.Places.{IsHere, IsGap}
use Rattle.sorted_chain.proofs.LinkLaws.{item_at, map-get, map-get_none, map-insert}
use Rattle.sorted_chain.proofs.PlaceLaws.{above_all, stops_at, passes_all, find_here, put_here, put_gap}

module _ {V : Type 0} where
  entries-full : (es : List (List ℕ × V)) → entries (map full es) ≡ es
  entries-full [] = refl
  entries-full (e ∷ es) = ap (λ fs. e ∷ fs) (entries-full es)

  pub full_of : (ms : List (List ℕ × Option V)) (es : List (List ℕ × V)) → ms ≡ map full es → entries ms ≡ es
  full_of ms es h = ap entries h ∙ entries-full es

  pub is_full_of : (ms : List (List ℕ × Option V)) (es : List (List ℕ × V)) → ms ≡ map full es → IsFull ms
  is_full_of ms es h = h ∙ ap (map full) (sym (full_of ms es h))

  -- a node has an entry
  entry_of : (es : List (List ℕ × V)) (i : ℕ) (m : List ℕ × Option V) → slice_get (map full es) i ≡ Some m → (e : List ℕ × V) × ((slice_get es i ≡ Some e) × (full e ≡ m))
  entry_of [] i m h = cc
  entry_of (e ∷ es) zero m h = (e, (refl, cc))
  entry_of (e ∷ es) (suc i) m h = entry_of es i m h

  drop_at : (es : List (List ℕ × V)) (i : ℕ) (e : List ℕ × V) → slice_get es i ≡ Some e → drop i es ≡ e ∷ drop (suc i) es
  drop_at [] i e h = cc
  drop_at (x ∷ es) zero e h = let same : x ≡ e = cc in ap (λ y. y ∷ es) same
  drop_at (x ∷ es) (suc i) e h = drop_at es i e h

  drop_past : (es : List (List ℕ × V)) (i : ℕ) → slice_get es i ≡ None → drop i es ≡ []
  drop_past [] zero h = refl
  drop_past [] (suc i) h = refl
  drop_past (x ∷ es) zero h = cc
  drop_past (x ∷ es) (suc i) h = drop_past es i h

  entry_past : (es : List (List ℕ × V)) (i : ℕ) → slice_get (map full es) i ≡ None → slice_get es i ≡ None
  entry_past [] i h = refl
  entry_past (e ∷ es) zero h = cc
  entry_past (e ∷ es) (suc i) h = entry_past es i h

module _ {V : Type 0} (ns : List (Node V)) (f : IsFull (pays ns)) where
  abbrev es : List (List ℕ × V)
  es = entries (pays ns)

  pub count : length es ≡ length ns
  count = sym (length-map es full) ∙ sym (ap length f) ∙ length-map ns pay

  module _ (i : ℕ) (n : Node V) (at : slice_get ns i ≡ Some n) where
    entry_at : (e : List ℕ × V) × ((slice_get es i ≡ Some e) × (full e ≡ pay n))
    entry_at = entry_of es i (pay n) (ap (λ ms. slice_get ms i) (sym f) ∙ map-get pay ns i n at)

    module _ (k : List ℕ) where
      key_as : key_cmp k entry_at.0.0 ≡ key_cmp k n.key
      key_as = ap (λ (m : List ℕ × Option V). key_cmp k m.0) entry_at.1.1

      -- the value of the key's node
      pub found_at : IsAscending es → IsHere k es i → n.value ≡ find key_cmp k es
      found_at h here =
          let e = entry_at in
          ap (λ (m : List ℕ × Option V). m.1) (sym e.1.1) ∙ sym (find_here k es i e.0 h here (sym (get_or_from_slice_get es i e.0 e.0 e.1.0)))

    pub rest_at : (v : V) → n.value ≡ Some v → drop i es ≡ (n.key, v) ∷ drop (i + 1) es
    rest_at v has =
        let e = entry_at in
        let key : e.0.0 ≡ n.key = ap (λ (m : List ℕ × Option V). m.0) e.1.1 in
        let value : Some e.0.1 ≡ Some v = ap (λ (m : List ℕ × Option V). m.1) e.1.1 ∙ has in
        let same : e.0.1 ≡ v = cc in
        rw add-one (drop_at es i e.0 e.1.0 ∙ (λ j. (key j, same j) ∷ drop (suc i) es))

    pub no_blank : n.value ≡ None → ⊥
    no_blank blank = let value : Some entry_at.0.1 ≡ None = ap (λ (m : List ℕ × Option V). m.1) entry_at.1.1 ∙ blank in cc

  -- how a key goes beside that of one node
  module _ (k : List ℕ) (h : IsAscending es) (i : ℕ) (within : i < length es) (o : Ordering) (order : IfSome (slice_get ns i) (λ n. o ≡ key_cmp k n.key)) where
    node : (n : Node V) × (slice_get ns i ≡ Some n)
    node = item_at ns i (omega (arith, within, count))

    order_as : (w : Ordering) → o ≡ w → key_cmp k (entry_at i node.0 node.1).0.0 ≡ w
    order_as w is = key_as i node.0 node.1 k ∙ sym (subst (λ x. IfSome x (λ n. o ≡ key_cmp k n.key)) node.1 order) ∙ is

    pub before_at : o ≡ Less → IsBefore k es i
    before_at is = above_all k es i (entry_at i node.0 node.1).0 (entry_at i node.0 node.1).1.0 h (order_as Less is)

    pub here_at : o ≡ Equal → IsHere k es i
    here_at is = stops_at k es i (entry_at i node.0 node.1).0 (entry_at i node.0 node.1).1.0 (order_as Equal is)

    pub passed_at : o ≡ Greater → HasPassed k es (i + 1)
    passed_at is = passes_all k es i (entry_at i node.0 node.1).0 (entry_at i node.0 node.1).1.0 h (order_as Greater is)

  pub rest_past : (i : ℕ) → slice_get ns i ≡ None → drop i es ≡ []
  rest_past i past = drop_past es i (entry_past es i (ap (λ ms. slice_get ms i) (sym f) ∙ map-get_none pay ns i past))

-- an entry has the key
pub found : {V : Type 0} (k : List ℕ) (es : List (List ℕ × V)) (i : ℕ) → IsAscending es → IsHere k es i → has_key k es ≡ true
found k es i h here =
    let e = item_at es i here.within in
    ap is_some (find_here k es i e.0 h here (sym (get_or_from_slice_get es i e.0 e.0 e.1)))

module _ {V : Type 0} (k : List ℕ) (ns : List (List ℕ × Option V)) (f : IsFull ns) (i : ℕ) where
  -- the value of the key's node is replaced
  pub replaced : (v : V) (r : Option V) (ms : List (List ℕ × Option V)) → IsAscending (entries ns) → IsHere k (entries ns) i
      → IfSome (slice_get ns i) (λ e. (r ≡ e.1) × (ms ≡ set ns i (e.0, Some v)))
      → (r ≡ find key_cmp k (entries ns)) × (ms ≡ map full (put key_cmp k v (entries ns)))
  replaced v r ms h here p =
      let es : List (List ℕ × V) = entries ns in
      let e : (x : List ℕ × V) × (slice_get es i ≡ Some x) = item_at es i here.within in
      let at : slice_get ns i ≡ Some (full e.0) = ap (λ ms. slice_get ms i) f ∙ map-get full es i e.0 e.1 in
      let q : (r ≡ Some e.0.1) × (ms ≡ set ns i (e.0.0, Some v)) = subst (λ o. IfSome o (λ e. (r ≡ e.1) × (ms ≡ set ns i (e.0, Some v)))) at p in
      let read : e.0 ≡ get_or es i e.0 = sym (get_or_from_slice_get es i e.0 e.0 e.1) in (
        q.0 ∙ sym (find_here k es i e.0 h here read),
        q.1 ∙ ap (λ ls. set ls i (full (e.0.0, v))) f ∙ sym (map-set full es i (e.0.0, v)) ∙ ap (map full) (sym (put_here k v es i e.0 h here read)),
      )

  -- a node of the key is linked in
  pub linked_in : (v : V) (ms : List (List ℕ × Option V)) → IsGap k (entries ns) i → ms ≡ insert ns i (k, Some v) → ms ≡ map full (put key_cmp k v (entries ns))
  linked_in v ms gap h =
      let es : List (List ℕ × V) = entries ns in
      h ∙ ap (λ ls. insert ls i (full (k, v))) f ∙ sym (map-insert full es i (k, v) gap.within) ∙ ap (map full) (sym (put_gap k v es i gap))

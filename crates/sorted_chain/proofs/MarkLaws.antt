-- What the marks of nodes tell of them, and what becomes of the marks where nodes change.
use Rattle.std.proofs.Common.{◌≡◌, ℕ, zero, suc, ◌<◌, ◌≤◌, List, [], ◌∷◌, length, slice_get, set, map, Option, Some, IfSome, refl, sym, ap, subst, ◌∙◌, arith}
use Rattle.std.specs.List.{All, insert}
use Rattle.std.proofs.lemmas.List.{length-map}
use Rattle.std.proofs.lemmas.List.Elements.{All-cons, All-head, All-tail, All-set}
use Rattle.std.proofs.lemmas.Option.{get_or_from_slice_get, slice_get_within}
use Rattle.sorted_chain.specs.declared.boxes.Place.{Place}
use Rattle.sorted_chain.specs.declared.linked_list.Node.{Node}
use Rattle.sorted_chain.specs.declared.marks.Mark.{Mark}
use Rattle.sorted_chain.specs.Marks.{key_front, IsTwentyBytes, AreMarks}
use Rattle.sorted_chain.specs.Nodes.{pay, pays}
use Rattle.sorted_chain.proofs.LinkLaws.{item_at, map-get, map-insert, map-set_same}

All-insert : {X : Type 0} (P : X → Type 0) (xs : List X) (i : ℕ) (x : X) → i ≤ length xs → P x → All P xs → All P (insert xs i x)
All-insert P xs zero x w p h = All-cons P x xs p h
All-insert P [] (suc i) x w p h = absurd (omega (arith, w))
All-insert P (y ∷ xs) (suc i) x w p h = All-cons P y (insert xs i x) (All-head P y xs h) (All-insert P xs i x (omega (arith, w)) p (All-tail P y xs h))

module _ {V : Type 0} (ps : List Place) (ns : List (Node V)) (ms : List Mark) (h : AreMarks ps (pays ns) ms) where
  pub marks_count : length ms ≡ length ns
  marks_count = sym (length-map ms (λ (m : Mark). m.front)) ∙ ap length h.fronts ∙ length-map (pays ns) (λ (n : List ℕ × Option V). key_front n.0) ∙ length-map ns pay

  pub place_at : (i : ℕ) (m : Mark) → slice_get ms i ≡ Some m → slice_get ps i ≡ Some m.at
  place_at i m mark = ap (λ qs. slice_get qs i) (sym h.places) ∙ map-get (λ (m : Mark). m.at) ms i m mark

  module _ (i : ℕ) (n : Node V) (m : Mark) (at : slice_get ns i ≡ Some n) (mark : slice_get ms i ≡ Some m) where
    pub front_at : m.front ≡ key_front n.key
    front_at =
        let same : Some m.front ≡ Some (key_front n.key) = sym (map-get (λ (m : Mark). m.front) ms i m mark) ∙ ap (λ fs. slice_get fs i) h.fronts ∙ map-get (λ (n : List ℕ × Option V). key_front n.0) (pays ns) i (pay n) (map-get pay ns i n at) in
        cc

    pub key_at : IsTwentyBytes n.key
    key_at =
        let e : slice_get (pays ns) i ≡ Some (pay n) = map-get pay ns i n at in
        subst (λ (n : List ℕ × Option V). IsTwentyBytes n.0) (get_or_from_slice_get (pays ns) i (pay n) (pay n) e) (h.keys i (pay n) (slice_get_within (pays ns) i (pay n) e))

module _ {V : Type 0} (ps : List Place) (ns : List (List ℕ × Option V)) (ms : List Mark) (h : AreMarks ps ns ms) (i : ℕ) where
  -- a node was linked in, and marked
  pub marks_linked : (m : Mark) (n : List ℕ × Option V) (qs : List Place) (ls : List (List ℕ × Option V)) (os : List Mark) → i ≤ length ms → i ≤ length ns → IsTwentyBytes n.0 → m.front ≡ key_front n.0
      → qs ≡ insert ps i m.at → ls ≡ insert ns i n → os ≡ insert ms i m → AreMarks qs ls os
  marks_linked m n qs ls os v w key same e f g =
      subst (λ (x : List Place × List (List ℕ × Option V) × List Mark). AreMarks x.0 x.1 x.2) (λ j. (sym e j, sym f j, sym g j)) (record {
        places = map-insert (λ (m : Mark). m.at) ms i m v ∙ ap (λ qs. insert qs i m.at) h.places;
        fronts = map-insert (λ (m : Mark). m.front) ms i m v ∙ ap (λ fs. insert fs i m.front) h.fronts ∙ ap (insert (map (λ (n : List ℕ × Option V). key_front n.0) ns) i) same ∙ sym (map-insert (λ (n : List ℕ × Option V). key_front n.0) ns i n w);
        keys = All-insert (λ (n : List ℕ × Option V). IsTwentyBytes n.0) ns i n w key h.keys;
      })

  -- a node's value was replaced
  pub marks_kept : (v : V) (r : Option V) (qs : List Place) (ls : List (List ℕ × Option V)) → i < length ns → qs ≡ ps → IfSome (slice_get ns i) (λ e. (r ≡ e.1) × (ls ≡ set ns i (e.0, Some v))) → AreMarks qs ls ms
  marks_kept v r qs ls within same p =
      let e : (x : List ℕ × Option V) × (slice_get ns i ≡ Some x) = item_at ns i within in
      let q : (r ≡ e.0.1) × (ls ≡ set ns i (e.0.0, Some v)) = subst (λ o. IfSome o (λ e. (r ≡ e.1) × (ls ≡ set ns i (e.0, Some v)))) e.1 p in
      let key : IsTwentyBytes e.0.0 = subst (λ (n : List ℕ × Option V). IsTwentyBytes n.0) (get_or_from_slice_get ns i e.0 e.0 e.1) (h.keys i e.0 within) in
      record {
        places = h.places ∙ sym same;
        fronts = h.fronts ∙ sym (map-set_same (λ (n : List ℕ × Option V). key_front n.0) ns i e.0 (e.0.0, Some v) e.1 refl) ∙ ap (map (λ (n : List ℕ × Option V). key_front n.0)) (sym q.1);
        keys = subst (All (λ (n : List ℕ × Option V). IsTwentyBytes n.0)) (sym q.1) (All-set (λ (n : List ℕ × Option V). IsTwentyBytes n.0) ns i (e.0.0, Some v) key h.keys);
      }

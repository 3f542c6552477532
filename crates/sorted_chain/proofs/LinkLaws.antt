-- Lists of nodes and of their places.
use Rattle.std.proofs.Common.{◌≡◌, ℕ, zero, suc, ◌-◌, ◌<◌, ◌≤◌, List, [], ◌∷◌, length, map, set, drop, refl, sym, ap, ◌∙◌, subst, arith, sub-one}
use Rattle.std.specs.List.{insert, remove, slice_get}
use Rattle.std.specs.declared.option.Option.{Option}
use Rattle.std.proofs.lemmas.List.{nil_from_length}
use Rattle.std.specs.declared.option.Option.TheVariants.{None, Some}
use Rattle.sorted_chain.specs.declared.boxes.Place.{Place}
use Rattle.sorted_chain.specs.declared.linked_list.Node.{Node}
use Rattle.sorted_chain.specs.Nodes.{before_of, IsLinked, pays}

pub get_none : {X : Type 0} (xs : List X) → slice_get xs 0 ≡ None → xs ≡ []
get_none [] e = refl
get_none (x ∷ xs) e = cc

pub item_at : {X : Type 0} (xs : List X) (i : ℕ) → i < length xs → (x : X) × (slice_get xs i ≡ Some x)
item_at [] i within = absurd (omega (arith, within))
item_at (x ∷ xs) zero within = (x, refl)
item_at (x ∷ xs) (suc i) within = item_at xs i (omega (arith, within))

module _ {X Y : Type 0} (f : X → Y) where
  pub map-insert : (xs : List X) (i : ℕ) (x : X) → i ≤ length xs → map f (insert xs i x) ≡ insert (map f xs) i (f x)
  map-insert xs zero x h = refl
  map-insert [] (suc i) x h = absurd (omega arith)
  map-insert (y ∷ xs) (suc i) x h = ap (λ ys. f y ∷ ys) (map-insert xs i x (omega arith))

  -- the i-th changes to what has the same image
  pub map-set_same : (xs : List X) (i : ℕ) (x y : X) → slice_get xs i ≡ Some x → f y ≡ f x → map f (set xs i y) ≡ map f xs
  map-set_same [] i x y e h = refl
  map-set_same (z ∷ xs) zero x y e h = let s : z ≡ x = cc in ap (λ k. k ∷ map f xs) (h ∙ ap f (sym s))
  map-set_same (z ∷ xs) (suc i) x y e h = ap (λ ys. f z ∷ ys) (map-set_same xs i x y e h)

  pub map-get : (xs : List X) (i : ℕ) (x : X) → slice_get xs i ≡ Some x → slice_get (map f xs) i ≡ Some (f x)
  map-get [] i x e = cc
  map-get (z ∷ xs) zero x e = let s : z ≡ x = cc in ap (λ k. Some (f k)) s
  map-get (z ∷ xs) (suc i) x e = map-get xs i x e

  pub map-get_none : (xs : List X) (i : ℕ) → slice_get xs i ≡ None → slice_get (map f xs) i ≡ None
  map-get_none [] i e = refl
  map-get_none (z ∷ xs) zero e = cc
  map-get_none (z ∷ xs) (suc i) e = map-get_none xs i e

pub get-insert_below : {X : Type 0} (xs : List X) (i : ℕ) (x : X) → suc i ≤ length xs → slice_get (insert xs (suc i) x) i ≡ slice_get xs i
get-insert_below [] i x h = absurd (omega arith)
get-insert_below (y ∷ xs) zero x h = refl
get-insert_below (y ∷ xs) (suc i) x h = get-insert_below xs i x (omega arith)

some_of : {X : Type 0} (xs : List X) (i : ℕ) → suc i ≤ length xs → slice_get xs i ≡ None → ⊥
some_of [] i w e = absurd (omega arith)
some_of (x ∷ xs) zero w e = cc
some_of (x ∷ xs) (suc i) w e = some_of xs i (omega arith) e

pub behind_is : (ps : List Place) (i : ℕ) (at p : Place) → i ≤ length ps → before_of ps i ≡ Some at → slice_get (insert ps i p) (i - 1) ≡ Some at
behind_is ps zero at p w e = cc
behind_is ps (suc i) at p w e = rw sub-one (get-insert_below ps i p w ∙ e)

pub first_of : (ps : List Place) (i : ℕ) → i ≤ length ps → before_of ps i ≡ None → i ≡ 0
first_of ps zero w e = refl
first_of [] (suc i) w e = absurd (omega arith)
first_of (p ∷ ps) (suc i) w e = absurd (some_of (p ∷ ps) i w e)

pub both_none : {X Y : Type 0} (xs : List X) (ys : List Y) (i : ℕ) → length xs ≡ length ys → slice_get xs i ≡ None → slice_get ys i ≡ None
both_none xs [] i k e = refl
both_none [] (y ∷ ys) i k e = absurd (omega arith)
both_none (x ∷ xs) (y ∷ ys) zero k e = cc
both_none (x ∷ xs) (y ∷ ys) (suc i) k e = both_none xs ys i (omega arith) e

pub length_none : {X : Type 0} (xs : List X) (i : ℕ) → slice_get xs i ≡ None → length xs ≤ i
length_none [] i e = omega arith
length_none (x ∷ xs) zero e = cc
length_none (x ∷ xs) (suc i) e = omega (arith, length_none xs i e)

pub set-image : {X Y : Type 0} (f : X → Y) (xs : List X) (i : ℕ) (x : X) → map f (set xs i x) ≡ set (map f xs) i (f x)
set-image f [] i x = refl
set-image f (y ∷ xs) zero x = refl
set-image f (y ∷ xs) (suc i) x = ap (λ ys. f y ∷ ys) (set-image f xs i x)

pub len_pays : {V : Type 0} (ns : List (Node V)) → length (pays ns) ≡ length ns
len_pays [] = refl
len_pays (n ∷ ns) = ap suc (len_pays ns)

module _ {V : Type 0} where
  link_tail : (h : Option Place) (p : Place) (ps : List Place) (n : Node V) (ns : List (Node V)) → IsLinked h (p ∷ ps) (n ∷ ns) → IsLinked n.next ps ns
  link_tail h p ps n ns l = (l.1 0 n refl, λ i m e. l.1 (suc i) m e)

  each : (p : Place) (ps : List Place) (n : Node V) (ns : List (Node V)) → IsLinked n.next ps ns → (i : ℕ) (m : Node V) → slice_get (n ∷ ns) i ≡ Some m → m.next ≡ slice_get (p ∷ ps) (suc i)
  each p ps n ns l zero m f = let s : m ≡ n = cc in ap (λ (k : Node V). k.next) s ∙ l.0
  each p ps n ns l (suc i) m f = l.1 i m f

  link_cons : (h : Option Place) (p : Place) (ps : List Place) (n : Node V) (ns : List (Node V)) → h ≡ Some p → IsLinked n.next ps ns → IsLinked h (p ∷ ps) (n ∷ ns)
  link_cons h p ps n ns e l = (e, each p ps n ns l)

  pub linked_first : (h : Option Place) (p : Place) (ps : List Place) (m : Node V) (ns : List (Node V)) → IsLinked h ps ns → m.next ≡ slice_get ps 0 → IsLinked (Some p) (insert ps 0 p) (insert ns 0 m)
  linked_first h p ps m ns l e = link_cons (Some p) p ps m ns refl (e, l.1)

  pub linked_rest : (h : Option Place) (ps : List Place) (ns : List (Node V)) (n : Node V) → IsLinked h ps ns → length ps ≡ length ns → slice_get ns 0 ≡ Some n → IsLinked n.next (remove ps 0) (remove ns 0)
  linked_rest h ps [] n l k e = cc
  linked_rest h [] (m ∷ ns) n l k e = absurd (omega arith)
  linked_rest h (p ∷ ps) (m ∷ ns) n l k e = let s : m ≡ n = cc in subst (λ (x : Node V). IsLinked x.next ps ns) s (link_tail h p ps m ns l)

  abbrev led : Node V → Place → Node V
  led n p = record { key = n.key; value = n.value; next = Some p }

  linked_after : (h : Option Place) (ps : List Place) (ns : List (Node V)) (i : ℕ) (p : Place) (m n : Node V) → IsLinked h ps ns → length ps ≡ length ns → suc i ≤ length ns → m.next ≡ slice_get ps (suc i)
      → IsLinked h (insert ps (suc i) p) (set (insert ns (suc i) m) i (led n p))
  linked_after h ps [] i p m n l k w e = absurd (omega arith)
  linked_after h [] (x ∷ ns) i p m n l k w e = absurd (omega arith)
  linked_after h (q ∷ ps) (x ∷ ns) zero p m n l k w e =
      let t = link_tail h q ps x ns l in link_cons h q (p ∷ ps) (led n p) (m ∷ ns) l.0 (link_cons (Some p) p ps m ns refl (e, t.1))
  linked_after h (q ∷ ps) (x ∷ ns) (suc i) p m n l k w e =
      link_cons h q (insert ps (suc i) p) x (set (insert ns (suc i) m) i (led n p)) l.0 (linked_after x.next ps ns i p m n (link_tail h q ps x ns l) (omega arith) (omega arith) e)

  pub linked_behind : (h : Option Place) (ps : List Place) (ns : List (Node V)) (i : ℕ) (at p : Place) (m n : Node V) → IsLinked h ps ns → length ps ≡ length ns → i ≤ length ns → m.next ≡ slice_get ps i → before_of ps i ≡ Some at
      → IsLinked h (insert ps i p) (set (insert ns i m) (i - 1) (led n p))
  linked_behind h ps ns zero at p m n l k w e f = cc
  linked_behind h ps ns (suc i) at p m n l k w e f = rw sub-one (linked_after h ps ns i p m n l k w e)

  module _ (h : Option Place) (ps qs : List Place) (ns ms : List (Node V)) (i : ℕ) (p : Place) (m : Node V) (l : IsLinked h ps ns) (k : length ps ≡ length ns) (w : i ≤ length ns) (e : m.next ≡ slice_get ps i) (f : qs ≡ insert ps i p) (g : ms ≡ insert ns i m) where
    pub linked_none : before_of ps i ≡ None → IsLinked (Some p) qs ms
    linked_none b =
        let z : i ≡ 0 = first_of ps i (omega arith) b in
        subst (λ (x : List Place × List (Node V)). IsLinked (Some p) x.0 x.1) (λ j. (sym f j, sym g j))
        (subst (λ (x : ℕ). m.next ≡ slice_get ps x → IsLinked (Some p) (insert ps x p) (insert ns x m)) (sym z) (linked_first h p ps m ns l) e)

    pub linked_some : (at : Place) (n : Node V) → before_of ps i ≡ Some at → IsLinked h qs (set ms (i - 1) (led n p))
    linked_some at n b =
        subst (λ (x : List Place × List (Node V)). IsLinked h x.0 (set x.1 (i - 1) (led n p))) (λ j. (sym f j, sym g j)) (linked_behind h ps ns i at p m n l k w e b)

  module _ (h : Option Place) (ps qs : List Place) (ns ms : List (Node V)) (l : IsLinked h ps ns) (k : length ps ≡ length ns) where
    pub linked_popped : (n m : Node V) → slice_get ns 0 ≡ Some n → m ≡ n → qs ≡ drop 1 ps → ms ≡ drop 1 ns → IsLinked m.next qs ms
    linked_popped n m e s f g =
        subst (λ (x : Node V × List Place × List (Node V)). IsLinked x.0.next x.1 x.2) (λ j. (sym s j, sym f j, sym g j)) (linked_rest h ps ns n l k e)

    pub none_linked : h ≡ None → ns ≡ []
    none_linked e = nil_from_length ns (sym k ∙ ap length (get_none ps (sym l.0 ∙ e)))

-- The first of a list that none of it outdoes, as items are added at its end.
use Rattle.std.proofs.Common.{◌≡◌, ◌≢◌, ◌⊎◌, ◌&&◌, Bool, true, false, not, cond, List, [], ◌∷◌, ◌++◌, Option, Some, None, refl, sym, ap, ◌∙◌, inl, inr, append_assoc}
use Rattle.std.specs.Prelude.{find}
use Rattle.std.specs.List.{list_all}
use Rattle.std.proofs.Math.Path.{fun_ext}
use Rattle.std.proofs.lemmas.List.{append-nil}
use Rattle.cluster_types.proofs.BoolFacts.{and_left, and_right, not_true as was_false}

and_false : (a : Bool) → (a && false) ≡ false
and_false true = refl
and_false false = refl

module _ {X : Type 0} where
  find_stays : (p : X → Bool) (xs ys : List X) (u : X) → find p xs ≡ Some u → find p (xs ++ ys) ≡ Some u
  find_stays p [] ys u h = absurd (let wrong : None ≡ Some u = h in cc)
  find_stays p (x ∷ xs) ys u h = go (p x) refl h (find_stays p xs ys u)
    where
      go : (b : Bool) → p x ≡ b → cond (p x) (Some x) (find p xs) ≡ Some u → (find p xs ≡ Some u → find p (xs ++ ys) ≡ Some u) → cond (p x) (Some x) (find p (xs ++ ys)) ≡ Some u
      go true e i rest = rw e (rw e at i)
      go false e i rest = rw e (rest (rw e at i))

  find_at_end : (p : X → Bool) (xs : List X) (t : X) → find p xs ≡ None → p t ≡ true → find p (xs ++ t ∷ []) ≡ Some t
  find_at_end p [] t h e = rw e refl
  find_at_end p (x ∷ xs) t h e = go (p x) refl h (λ none. find_at_end p xs t none e)
    where
      go : (b : Bool) → p x ≡ b → cond (p x) (Some x) (find p xs) ≡ None → (find p xs ≡ None → find p (xs ++ t ∷ []) ≡ Some t) → cond (p x) (Some x) (find p (xs ++ t ∷ [])) ≡ Some t
      go true i j rest = absurd (let wrong : Some x ≡ None = rw i at j in cc)
      go false i j rest = rw i (rest (rw i at j))

  find_narrowed : (p q : X → Bool) (xs : List X) (u : X) → find p xs ≡ Some u → q u ≡ true → find (λ x. p x && q x) xs ≡ Some u
  find_narrowed p q [] u h e = absurd (let wrong : None ≡ Some u = h in cc)
  find_narrowed p q (x ∷ xs) u h e = go (p x) refl h (λ found. find_narrowed p q xs u found e)
    where
      go : (b : Bool) → p x ≡ b → cond (p x) (Some x) (find p xs) ≡ Some u → (find p xs ≡ Some u → find (λ y. p y && q y) xs ≡ Some u) → cond (p x && q x) (Some x) (find (λ y. p y && q y) xs) ≡ Some u
      go true i j rest =
          let here : Some x ≡ Some u = rw i at j in
          let same : x ≡ u = cc in
          let passes : q x ≡ true = ap q same ∙ e in
          rw (i, passes) here
      go false i j rest = rw i (rest (rw i at j))

  found_passes : (p : X → Bool) (xs : List X) (u : X) → find p xs ≡ Some u → p u ≡ true
  found_passes p [] u h = absurd (let wrong : None ≡ Some u = h in cc)
  found_passes p (x ∷ xs) u h = go (p x) refl h (found_passes p xs u)
    where
      go : (b : Bool) → p x ≡ b → cond (p x) (Some x) (find p xs) ≡ Some u → (find p xs ≡ Some u → p u ≡ true) → p u ≡ true
      go true i j rest =
          let here : Some x ≡ Some u = rw i at j in
          let same : x ≡ u = cc in
          ap p (sym same) ∙ i
      go false i j rest = rest (rw i at j)

-- `beats` orders the items by something, and tells whether the first has more of it
pub record IsStrict {X : Type 0} (beats : X → X → Bool) : Type 0 where
  pub itself : (a : X) → beats a a ≡ false
  pub one_way : (a b : X) → beats a b ≡ true → beats b a ≡ false
  pub through : (a b c : X) → beats a b ≡ false → beats b c ≡ false → beats a c ≡ false

module _ {X : Type 0} (beats : X → X → Bool) where
  abbrev pub is_best : List X → X → Bool
  is_best xs x = list_all (λ y. not (beats y x)) xs

  abbrev pub best : List X → Option X
  best xs = find (is_best xs) xs

  abbrev pub later_of : Option X → X → X
  later_of None t = t
  later_of (Some u) t = cond (beats t u) t u

  best_among_more : (xs : List X) (t x : X) → is_best (xs ++ t ∷ []) x ≡ (is_best xs x && not (beats t x))
  best_among_more [] t x = last (not (beats t x))
    where
      last : (b : Bool) → (b && true) ≡ b
      last true = refl
      last false = refl
  best_among_more (y ∷ ys) t x = ap (λ b. not (beats y x) && b) (best_among_more ys t x) ∙ apart (not (beats y x)) (is_best ys x) (not (beats t x))
    where
      apart : (a b c : Bool) → (a && (b && c)) ≡ ((a && b) && c)
      apart true b c = refl
      apart false b c = refl

  best_kept : (xs : List X) (t u : X) → best xs ≡ Some u → beats t u ≡ false → best (xs ++ t ∷ []) ≡ Some u
  best_kept xs t u h e =
      find_stays (is_best (xs ++ t ∷ [])) xs (t ∷ []) u
      (ap (λ (f : X → Bool). find f xs) (fun_ext (λ x. best_among_more xs t x))
      ∙ find_narrowed (is_best xs) (λ x. not (beats t x)) xs u h (rw e refl))

  module _ (strict : IsStrict beats) where
    none_left : (p : X → Bool) (xs : List X) (t u : X) → is_best xs u ≡ true → beats t u ≡ true → find (λ x. p x && not (beats t x)) xs ≡ None
    none_left p [] t u h e = refl
    none_left p (x ∷ xs) t u h e = go (beats t x) refl (none_left p xs t u (and_right (not (beats x u)) (is_best xs u) h) e)
      where
        lower : beats x u ≡ false
        lower = was_false (beats x u) (and_left (not (beats x u)) (is_best xs u) h)

        go : (b : Bool) → beats t x ≡ b → find (λ y. p y && not (beats t y)) xs ≡ None → cond (p x && not (beats t x)) (Some x) (find (λ y. p y && not (beats t y)) xs) ≡ None
        go true i rest = rw (i, and_false (p x)) rest
        go false i rest = absurd (let wrong : true ≡ false = sym e ∙ strict.through t x u i lower in cc)

    new_is_best : (xs : List X) (t u : X) → is_best xs u ≡ true → beats t u ≡ true → is_best xs t ≡ true
    new_is_best [] t u h e = refl
    new_is_best (x ∷ xs) t u h e =
        let lower : beats x u ≡ false = was_false (beats x u) (and_left (not (beats x u)) (is_best xs u) h) in
        let below : beats x t ≡ false = strict.through x u t lower (strict.one_way t u e) in
        rw below (new_is_best xs t u (and_right (not (beats x u)) (is_best xs u) h) e)

    best_new : (xs : List X) (t u : X) → best xs ≡ Some u → beats t u ≡ true → best (xs ++ t ∷ []) ≡ Some t
    best_new xs t u h e =
        let was : is_best xs u ≡ true = found_passes (is_best xs) xs u h in
        find_at_end (is_best (xs ++ t ∷ [])) xs t
        (ap (λ (f : X → Bool). find f xs) (fun_ext (λ x. best_among_more xs t x)) ∙ none_left (is_best xs) xs t u was e)
        (best_among_more xs t t ∙ rw (new_is_best xs t u was e, strict.itself t) refl)

    best_first : (t : X) → best (t ∷ []) ≡ Some t
    best_first t = rw (strict.itself t) refl

    best_after : (xs : List X) (t : X) (o : Option X) → best xs ≡ o → (o ≡ None → xs ≡ []) → best (xs ++ t ∷ []) ≡ Some (later_of o t)
    best_after xs t None h empty = rw (empty refl) (best_first t)
    best_after xs t (Some u) h empty = go (beats t u) refl
      where
        go : (b : Bool) → beats t u ≡ b → best (xs ++ t ∷ []) ≡ Some (cond (beats t u) t u)
        go true e = rw e (best_new xs t u h e)
        go false e = rw e (best_kept xs t u h e)

    -- some item is the best, unless there is none
    front_has_best : (front rest : List X) → (best front ≡ None → front ≡ []) → best (front ++ rest) ≡ None → front ++ rest ≡ []
    front_has_best front [] h = rw (append-nil front) h
    front_has_best front (x ∷ rest) h =
        rw (sym (append_assoc front (x ∷ []) rest))
        (front_has_best (front ++ x ∷ []) rest
        (λ none. absurd (let wrong : Some (later_of (best front) x) ≡ None = sym (best_after front x (best front) refl h) ∙ none in cc)))

    pub none_best : (xs : List X) → best xs ≡ None → xs ≡ []
    none_best xs h = front_has_best [] xs (λ e. refl) h

    -- with one more item at the end, that one is the best if it beats the best before
    pub best_more : (xs : List X) (t : X) → best (xs ++ t ∷ []) ≡ Some (later_of (best xs) t)
    best_more xs t = best_after xs t (best xs) refl (none_best xs)

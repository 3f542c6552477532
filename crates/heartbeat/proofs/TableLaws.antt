-- Entries in descending order, as a table in rising order.
use Rattle.std.proofs.Common.{◌≡◌, ℕ, ◌<◌, ◌≤◌, ◌==◌, nat_lt, Bool, true, false, List, [], ◌∷◌, ◌++◌, map, reverse, refl, sym, ap, ◌∙◌, arith, append_assoc}
use Rattle.std.specs.Prelude.{All, filter}
use Rattle.std.specs.Ordering.{nat_cmp}
use Rattle.std.specs.declared.cmp.Ordering.{Ordering}
use Rattle.std.specs.declared.cmp.Ordering.TheVariants.{Less, Equal, Greater}
use Rattle.std.specs.FinMap.{put}
use Rattle.std.specs.FinMap.Entries.{by_order}
use Rattle.std.proofs.lemmas.Bool.Decides.{nat_tests}
use Rattle.std.proofs.lemmas.List.{reverse-append, append-nil, map-append}
use Rattle.std.proofs.lemmas.List.Elements.{All-head, All-tail, filter-append}
use Rattle.heartbeat.specs.declared.entries.Entry.{Entry}
use Rattle.heartbeat.specs.Entries.{table_by, is_entry_above, is_entry_below, Falls}
use Rattle.partition_lists.proofs.NumberLaws.{Stand, lt_false, lt_true, stand}

-- ---- putting in

module _ {X : Type 0} where
  -- all keys are below that one
  abbrev pub Under : ℕ → List (ℕ × X) → Type 0
  Under k [] = Unit {0}
  Under k (e ∷ es) = (e.0 < k) × Under k es

  pub under_snoc : (k : ℕ) (t : List (ℕ × X)) (e : ℕ × X) → Under k t → e.0 < k → Under k (t ++ e ∷ [])
  under_snoc k [] e h i = (i, tt)
  under_snoc k (x ∷ t) e h i = (h.0, under_snoc k t e h.1 i)

  placed : (k : ℕ) (v : X) (x : ℕ × X) (t z : List (ℕ × X)) (o : Ordering) → put nat_cmp k v (t ++ z) ≡ put nat_cmp k v t ++ z
      → by_order o ((k, v) ∷ x ∷ t ++ z) ((x.0, v) ∷ t ++ z) (x ∷ put nat_cmp k v (t ++ z)) ≡ by_order o ((k, v) ∷ x ∷ t) ((x.0, v) ∷ t) (x ∷ put nat_cmp k v t) ++ z
  placed k v x t z Less h = refl
  placed k v x t z Equal h = refl
  placed k v x t z Greater h = ap (λ rest. x ∷ rest) h

  -- a key is put in before a greater last one
  pub put_before : (k : ℕ) (v : X) (t : List (ℕ × X)) (e : ℕ × X) → k < e.0 → put nat_cmp k v (t ++ e ∷ []) ≡ put nat_cmp k v t ++ e ∷ []
  put_before k v [] e h = rw (lt_true k e.0 h) refl
  put_before k v (x ∷ t) e h = placed k v x t (e ∷ []) (nat_cmp k x.0) (put_before k v t e h)

  -- a key is put in behind all lower ones
  pub put_behind : (k : ℕ) (v : X) (t u : List (ℕ × X)) → Under k t → put nat_cmp k v (t ++ u) ≡ t ++ put nat_cmp k v u
  put_behind k v [] u h = refl
  put_behind k v (x ∷ t) u h =
      let after : nat_lt k x.0 ≡ false = lt_false k x.0 (let le : x.0 ≤ k = omega (arith, h.0) in le) in
      let other : (k == x.0) ≡ false = grind (arith, nat_tests, h.0) in
      rw (after, other) (ap (λ rest. x ∷ rest) (put_behind k v t u h.1))

-- ---- entries

module _ {X : Type 0} (g : Entry → ℕ × X) where
  pub table_by-append : (xs ys : List Entry) → table_by g (xs ++ ys) ≡ table_by g ys ++ table_by g xs
  table_by-append [] ys = sym (append-nil (table_by g ys))
  table_by-append (x ∷ xs) ys = ap (λ t. t ++ g x ∷ []) (table_by-append xs ys) ∙ append_assoc (table_by g ys) (table_by g xs) (g x ∷ [])

  pub reversed : {Y : Type 0} (h : ℕ × X → Y) (es : List Entry) → reverse (map h (table_by g es)) ≡ map (λ e. h (g e)) es
  reversed h [] = refl
  reversed h (e ∷ es) =
      ap reverse (map-append h (table_by g es) (g e ∷ []))
      ∙ reverse-append (map h (table_by g es)) (h (g e) ∷ [])
      ∙ ap (λ rest. h (g e) ∷ rest) (reversed h es)

  pub filtered : {Y : Type 0} (f : ℕ × X → ℕ × Y) (p : ℕ × X → Bool) (es : List Entry) → map f (filter p (table_by g es)) ≡ table_by (λ e. f (g e)) (filter (λ e. p (g e)) es)
  filtered f p [] = refl
  filtered f p (e ∷ es) =
      ap (map f) (filter-append p (table_by g es) (g e ∷ []))
      ∙ map-append f (filter p (table_by g es)) (filter p (g e ∷ []))
      ∙ ap (λ t. t ++ map f (filter p (g e ∷ []))) (filtered f p es)
      ∙ last (p (g e)) refl
    where
      last : (b : Bool) → p (g e) ≡ b → table_by (λ e. f (g e)) (filter (λ e. p (g e)) es) ++ map f (filter p (g e ∷ [])) ≡ table_by (λ e. f (g e)) (filter (λ e. p (g e)) (e ∷ es))
      last true h = rw h refl
      last false h = rw h (append-nil _)

  under_tabled : ((e : Entry) → (g e).0 ≡ e.node) → (k : ℕ) (es : List Entry) → All (λ x. x.node < k) es → Under k (table_by g es)
  under_tabled same k [] h = tt
  under_tabled same k (e ∷ es) h = under_snoc k (table_by g es) (g e) (under_tabled same k es (All-tail (λ x. x.node < k) e es h)) (rw (same e) (All-head (λ x. x.node < k) e es h))

pub none_above : (k : ℕ) (es : List Entry) → All (λ x. x.node < k) es
    → filter (is_entry_above k) es ≡ []
none_above k [] h = refl
none_above k (e ∷ es) h =
    let low : e.node < k = All-head (λ x. x.node < k) e es h in
    rw (lt_false k e.node (omega (arith, low))) (none_above k es (All-tail (λ x. x.node < k) e es h))

pub all_below : (k : ℕ) (es : List Entry) → All (λ x. x.node < k) es
    → filter (is_entry_below k) es ≡ es
all_below k [] h = refl
all_below k (e ∷ es) h =
    let low : e.node < k = All-head (λ x. x.node < k) e es h in
    rw (lt_true e.node k low) (ap (λ rest. e ∷ rest) (all_below k es (All-tail (λ x. x.node < k) e es h)))

pub lower : (k : ℕ) (e : Entry) (es : List Entry) → All (λ x. x.node < e.node) es → e.node ≤ k → All (λ x. x.node < k) es
lower k e es h le i d within = omega (arith, h i d within, le)

-- what is put into a table stands between what is below and what is above
pub table_by-put : {X : Type 0} (g : Entry → ℕ × X) → ((e : Entry) → (g e).0 ≡ e.node) → (k : ℕ) (v : X) (es : List Entry) → Falls es
    → put nat_cmp k v (table_by g es) ≡ table_by g (filter (is_entry_below k) es) ++ (k, v) ∷ table_by g (filter (is_entry_above k) es)
table_by-put g same k v [] h = refl
table_by-put {X} g same k v (e ∷ es) h = go (stand k e.node) (table_by-put g same k v es h.1)
  where
    go : Stand k e.node → put nat_cmp k v (table_by g es) ≡ table_by g (filter (is_entry_below k) es) ++ (k, v) ∷ table_by g (filter (is_entry_above k) es) → put nat_cmp k v (table_by g es ++ g e ∷ []) ≡ table_by g (filter (is_entry_below k) (e ∷ es)) ++ (k, v) ∷ table_by g (filter (is_entry_above k) (e ∷ es))
    go (Stand.Below lt) ih =
        rw (lt_true k e.node lt, lt_false e.node k (omega (arith, lt)))
        (put_before k v (table_by g es) (g e) (rw (same e) lt)
        ∙ ap (λ t. t ++ g e ∷ []) ih
        ∙ append_assoc (table_by g (filter (is_entry_below k) es)) ((k, v) ∷ table_by g (filter (is_entry_above k) es)) (g e ∷ []))
    go (Stand.Same eq) ih =
        let under : All (λ x. x.node < k) es = lower k e es h.0 (omega (arith, eq)) in
        rw (lt_false k e.node (omega (arith, eq)), lt_false e.node k (omega (arith, eq)), none_above k es under, all_below k es under)
        (put_behind k v (table_by g es) (g e ∷ []) (under_tabled g same k es under) ∙ ap (λ t. table_by g es ++ t) here)
      where
        here : put nat_cmp k v (g e ∷ []) ≡ (k, v) ∷ []
        here =
            let is : (k == e.node) ≡ true = grind (arith, nat_tests, eq) in
            rw (same e) (rw (lt_false k e.node (let le : e.node ≤ k = omega (arith, eq) in le), is) (ap (λ n. (n, v) ∷ []) (sym eq)))
    go (Stand.Above lt) ih =
        let under : All (λ x. x.node < k) es = lower k e es h.0 (omega (arith, lt)) in
        rw (lt_false k e.node (omega (arith, lt)), lt_true e.node k lt, none_above k es under, all_below k es under)
        (ap (put nat_cmp k v) (sym (append-nil (table_by g es ++ g e ∷ [])))
        ∙ put_behind k v (table_by g es ++ g e ∷ []) [] (under_snoc k (table_by g es) (g e) (under_tabled g same k es under) (rw (same e) lt)))

-- Nodes of one group of a divided network aren't apart, and nodes of two groups are.
use Rattle.std.proofs.Common.{◌≡◌, ◌⊎◌, inl, inr, ℕ, suc, ◌+◌, ◌==◌, ◌||◌, nat_lt, not, Bool, true, false, cond, List, [], ◌∷◌, ◌++◌, length, Option, Some, None, refl, sym, ap, ap₂, subst, ◌∙◌, arith}
use Rattle.std.specs.List.{concat, list_any, position_or_len}
use Rattle.std.proofs.lemmas.Bool.Decides.{nat_tests}
use Rattle.cluster_types.specs.Groups as groups
use Rattle.cluster_types.specs.Groups.{apart, group_of}
use Rattle.journal_readings.specs.Lines.{has_node}
use Rattle.cluster_rules.proofs.KeptFacts.{num_same}
use Rattle.cluster_laws.proofs.At.{differ}
use Rattle.run_laws.specs.Tied.{Among}
use Rattle.calm_laws.specs.Flows.{Once}
use Rattle.calm_laws.proofs.Lists.{has_front}

-- ---- the place of a group

-- the place where the node stands in the first group, or one further on
later : Option ℕ → Option ℕ
later None = None
later (Some i) = Some (suc i)

place_of : (a : ℕ) (g : List ℕ) (gs : List (List ℕ)) → group_of (g ∷ gs) a ≡ cond (has_node g a) (Some 0) (later (group_of gs a))
unfolding later
place_of a g gs = go (has_node g a) (position_or_len (λ ids. list_any (λ m. m == a) ids) gs)
  where
    first : (k : ℕ) → nat_lt 0 (suc k) ≡ true
    first k = grind (arith, nat_tests)

    next : (i k : ℕ) → nat_lt (1 + i) (suc k) ≡ nat_lt i k
    next i k = grind (arith, nat_tests)

    deep : (c : Bool) (i : ℕ) → cond c (Some (1 + i)) None ≡ later (cond c (Some i) None)
    deep true i = ap Some (omega arith)
    deep false i = refl

    go : (b : Bool) (i : ℕ) → cond (nat_lt (cond (not b) (1 + i) 0) (suc (length gs))) (Some (cond (not b) (1 + i) 0)) None ≡ cond b (Some 0) (later (cond (nat_lt i (length gs)) (Some i) None))
    go true i = ap (λ (c : Bool). cond c (Some 0) None) (first (length gs))
    go false i = ap (λ (c : Bool). cond c (Some (1 + i)) None) (next i (length gs)) ∙ deep (nat_lt i (length gs)) i

differ_later : (a b : Option ℕ) → groups.differ (later a) (later b) ≡ groups.differ a b
unfolding later
differ_later None b = refl
differ_later (Some i) None = refl
differ_later (Some i) (Some j) = ap not (same i j)
  where
    same : (i j : ℕ) → (suc i == suc j) ≡ (i == j)
    same i j = grind (arith, nat_tests)

-- ---- who stands where

has_behind : (xs ys : List ℕ) (a : ℕ) → has_node ys a ≡ true → has_node (xs ++ ys) a ≡ true
has_behind [] ys a e = e
has_behind (x ∷ xs) ys a e = go (x == a) (has_behind xs ys a e)
  where
    go : (b : Bool) → has_node (xs ++ ys) a ≡ true → (b || has_node (xs ++ ys) a) ≡ true
    go true f = refl
    go false f = f

has_either : (xs ys : List ℕ) (a : ℕ) → has_node (xs ++ ys) a ≡ true → (has_node xs a ≡ true) ⊎ (has_node ys a ≡ true)
has_either [] ys a e = inr e
has_either (x ∷ xs) ys a e = go (x == a) e (has_either xs ys a)
  where
    go : (b : Bool) → (b || has_node (xs ++ ys) a) ≡ true → (has_node (xs ++ ys) a ≡ true → (has_node xs a ≡ true) ⊎ (has_node ys a ≡ true)) → ((b || has_node xs a) ≡ true) ⊎ (has_node ys a ≡ true)
    go true f rest = inl refl
    go false f rest = rest f

-- whoever stands in a group stands among all
pub in_groups : (gs : List (List ℕ)) (group : List ℕ) (a : ℕ) → Among gs group → has_node group a ≡ true → has_node (concat gs) a ≡ true
in_groups [] group a h e = absurd h
in_groups (g ∷ gs) group a (inl s) e = has_front g (concat gs) a (subst (λ (ns : List ℕ). has_node ns a ≡ true) (sym s) e)
in_groups (g ∷ gs) group a (inr h) e = has_behind g (concat gs) a (in_groups gs group a h e)

-- and whoever stands among all stands in a group
pub record Place (gs : List (List ℕ)) (a : ℕ) : Type 0 where
  pub group : List ℕ
  pub among : Among gs group
  pub here : has_node group a ≡ true

pub place : (gs : List (List ℕ)) (a : ℕ) → has_node (concat gs) a ≡ true → Place gs a
place [] a e = differ e refl
place (g ∷ gs) a e = go (has_either g (concat gs) a e) (place gs a)
  where
    go : (has_node g a ≡ true) ⊎ (has_node (concat gs) a ≡ true) → (has_node (concat gs) a ≡ true → Place gs a) → Place (g ∷ gs) a
    go (inl i) rest = record { group = g; among = inl refl; here = i }
    go (inr i) rest = let p : Place gs a = rest i in record { group = p.group; among = inr p.among; here = p.here }

once_front : (xs ys : List ℕ) (a : ℕ) → Once (xs ++ ys) → has_node xs a ≡ true → has_node ys a ≡ true → ⊥
once_front [] ys a o e f = differ e refl
once_front (x ∷ xs) ys a o e f = go (x == a) refl e (λ h. once_front xs ys a o.1 h f)
  where
    go : (b : Bool) → (x == a) ≡ b → (b || has_node xs a) ≡ true → (has_node xs a ≡ true → ⊥) → ⊥
    go true s h rest = differ (has_behind xs ys a f) (subst (λ (y : ℕ). has_node (xs ++ ys) y ≡ false) (num_same x a s) o.0)
    go false s h rest = rest h

once_behind : (xs ys : List ℕ) → Once (xs ++ ys) → Once ys
once_behind [] ys o = o
once_behind (x ∷ xs) ys o = once_behind xs ys o.1

-- who stands in a later group doesn't stand in the first
not_first : (g : List ℕ) (gs : List (List ℕ)) (a : ℕ) → Once (concat (g ∷ gs)) → has_node (concat gs) a ≡ true → has_node g a ≡ false
not_first g gs a o e = go (has_node g a) refl
  where
    go : (b : Bool) → has_node g a ≡ b → b ≡ false
    go true h = absurd (once_front g (concat gs) a o h e)
    go false h = refl

-- ---- together and apart

abbrev Both : List ℕ → List (List ℕ) → ℕ → ℕ → Bool → Bool → Bool
Both g gs a b x y = groups.differ (cond x (Some 0) (later (group_of gs a))) (cond y (Some 0) (later (group_of gs b)))

apart_is : (g : List ℕ) (gs : List (List ℕ)) (a b : ℕ) → apart (g ∷ gs) a b ≡ Both g gs a b (has_node g a) (has_node g b)
apart_is g gs a b = ap₂ groups.differ (place_of a g gs) (place_of b g gs)

pub together : (gs : List (List ℕ)) (group : List ℕ) (a b : ℕ) → Once (concat gs) → Among gs group → has_node group a ≡ true → has_node group b ≡ true → apart gs a b ≡ false
together [] group a b o h e f = absurd h
together (g ∷ gs) group a b o (inl s) e f =
    apart_is g gs a b ∙ ap₂ (Both g gs a b) (ap (λ (ns : List ℕ). has_node ns a) s ∙ e) (ap (λ (ns : List ℕ). has_node ns b) s ∙ f)
together (g ∷ gs) group a b o (inr h) e f =
    apart_is g gs a b
    ∙ ap₂ (Both g gs a b) (not_first g gs a o (in_groups gs group a h e)) (not_first g gs b o (in_groups gs group b h f))
    ∙ differ_later (group_of gs a) (group_of gs b)
    ∙ together gs group a b (once_behind g (concat gs) o) h e f

some_place : (gs : List (List ℕ)) (a : ℕ) → has_node (concat gs) a ≡ true → (i : ℕ) × (group_of gs a ≡ Some i)
unfolding later
some_place [] a e = differ e refl
some_place (g ∷ gs) a e = go (has_node g a) refl (has_either g (concat gs) a e) (some_place gs a)
  where
    go : (b : Bool) → has_node g a ≡ b → (has_node g a ≡ true) ⊎ (has_node (concat gs) a ≡ true) → (has_node (concat gs) a ≡ true → (i : ℕ) × (group_of gs a ≡ Some i)) → (i : ℕ) × (group_of (g ∷ gs) a ≡ Some i)
    go true s h rest = (0, place_of a g gs ∙ ap (λ (b : Bool). cond b (Some 0) (later (group_of gs a))) s)
    go false s (inl h) rest = differ h s
    go false s (inr h) rest = let p : (i : ℕ) × (group_of gs a ≡ Some i) = rest h in (suc p.0, place_of a g gs ∙ ap (λ (b : Bool). cond b (Some 0) (later (group_of gs a))) s ∙ ap later p.1)

first_apart : (gs : List (List ℕ)) (b : ℕ) → has_node (concat gs) b ≡ true → (groups.differ (Some 0) (later (group_of gs b)) ≡ true) × (groups.differ (later (group_of gs b)) (Some 0) ≡ true)
unfolding later
first_apart gs b e =
    let p : (i : ℕ) × (group_of gs b ≡ Some i) = some_place gs b e in
    (ap (λ (o : Option ℕ). groups.differ (Some 0) (later o)) p.1 ∙ zero_not p.0, ap (λ (o : Option ℕ). groups.differ (later o) (Some 0)) p.1 ∙ not_zero p.0)
  where
    zero_not : (i : ℕ) → not (0 == suc i) ≡ true
    zero_not i = grind (arith, nat_tests)

    not_zero : (i : ℕ) → not (suc i == 0) ≡ true
    not_zero i = grind (arith, nat_tests)

pub asunder : (gs : List (List ℕ)) (group : List ℕ) (a b : ℕ) → Once (concat gs) → Among gs group → has_node (concat gs) a ≡ true → has_node group a ≡ false → has_node group b ≡ true → apart gs a b ≡ true
asunder [] group a b o h all e f = absurd h
asunder (g ∷ gs) group a b o (inl s) all e f = go (has_either g (concat gs) a all)
  where
    not_here : has_node g a ≡ false
    not_here = ap (λ (ns : List ℕ). has_node ns a) s ∙ e

    go : (has_node g a ≡ true) ⊎ (has_node (concat gs) a ≡ true) → apart (g ∷ gs) a b ≡ true
    go (inl i) = differ i not_here
    go (inr i) = apart_is g gs a b ∙ ap₂ (Both g gs a b) not_here (ap (λ (ns : List ℕ). has_node ns b) s ∙ f) ∙ (first_apart gs a i).1
asunder (g ∷ gs) group a b o (inr h) all e f = go (has_node g a) refl (has_either g (concat gs) a all) (λ k. asunder gs group a b (once_behind g (concat gs) o) h k e f)
  where
    other : has_node (concat gs) b ≡ true
    other = in_groups gs group b h f

    go : (c : Bool) → has_node g a ≡ c → (has_node g a ≡ true) ⊎ (has_node (concat gs) a ≡ true) → (has_node (concat gs) a ≡ true → apart gs a b ≡ true) → apart (g ∷ gs) a b ≡ true
    go true i k rest = apart_is g gs a b ∙ ap₂ (Both g gs a b) i (not_first g gs b o other) ∙ (first_apart gs b other).0
    go false i (inl k) rest = differ k i
    go false i (inr k) rest =
        apart_is g gs a b ∙ ap₂ (Both g gs a b) i (not_first g gs b o other) ∙ differ_later (group_of gs a) (group_of gs b) ∙ rest k

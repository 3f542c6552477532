-- The first node whose copy was whole under the greatest key of all copies.
use Rattle.std.proofs.Common.{◌≡◌, ◌==◌, ◌&&◌, ◌<◌, ◌+◌, ◌⊎◌, inl, inr, ℕ, Bool, true, false, not, List, [], ◌∷◌, Some, find, get_or, length, take, refl, sym, ap, arith, ◌∙◌}
use Rattle.std.proofs.lemmas.List.Folds.{list_all_more}
use Rattle.std.specs.List.{list_all}
use Rattle.std.proofs.lemmas.Bool.{and_from, and_left, and_parts, and_right, not-true}
use Rattle.std.proofs.lemmas.Bool.Decides.{nat_tests}
use Rattle.std.proofs.lemmas.Option.{none-some}
use Rattle.std.proofs.Math.Path.{fun_ext}
use Rattle.cluster_types.specs.declared.cluster_key.ClusterKey.{ClusterKey}
use Rattle.cluster_types.specs.declared.copy_state.CopyState.{CopyState}
use Rattle.cluster_types.specs.declared.copy_state.CopyState.TheVariants.{Empty, Part, Whole}
use Rattle.cluster_types.specs.ClusterKeys.{key_lt, none}
use Rattle.cluster_types.specs.StateRows.{state_of}
use Rattle.partition_lists.specs.Acting.{is_whole, is_wholest_by, whole_key}
use Rattle.partition_state.specs.Copies.{is_copy_at_most, is_under, is_whole_under}

-- ---- keys

none_above : (k : ClusterKey) → key_lt k none ≡ false
none_above k = grind (arith, nat_tests)

past : (a b c : ClusterKey) → key_lt a c ≡ false → key_lt a b ≡ true → key_lt b c ≡ false
past a b c p q = grind (arith, nat_tests)

not_above_same : (key k x : ClusterKey) → ((key.round == k.round) && (key.principal == k.principal)) ≡ true → key_lt key x ≡ false → key_lt k x ≡ false
not_above_same key k x same p = grind (arith, nat_tests)

below_other : (key k j : ClusterKey) → ((key.round == k.round) && (key.principal == k.principal)) ≡ false → ((key.round == j.round) && (key.principal == j.principal)) ≡ true → key_lt key k ≡ false → key_lt k j ≡ true
below_other key k j other same p = grind (arith, nat_tests)

-- ---- the greatest key

-- none is above a greater key
pub at_most_more : (a b : ClusterKey) (copies : List (ℕ × CopyState)) → key_lt a b ≡ true → list_all (is_copy_at_most a) copies ≡ true → list_all (is_copy_at_most b) copies ≡ true
at_most_more a b [] above h = refl
at_most_more a b (c ∷ copies) above h =
    let both = and_parts (is_copy_at_most a c) (list_all (is_copy_at_most a) copies) h in
    and_from (is_copy_at_most b c) (list_all (is_copy_at_most b) copies)
    (ap not (past a b (whole_key c.1) (not-true (key_lt a (whole_key c.1)) both.0) above))
    (at_most_more a b copies above both.1)

not_above_itself : (k : ClusterKey) → key_lt k k ≡ false
not_above_itself k = grind (arith, nat_tests)

-- one copy more
pub greatest_more : (copies : List (ℕ × CopyState)) (i : ℕ) (c : ℕ × CopyState) (old new key : ClusterKey) → i < length copies → c ≡ get_or copies i c → key ≡ whole_key c.1
    → list_all (is_copy_at_most old) (take i copies) ≡ true → ((key_lt old key ≡ true) × (new ≡ key)) ⊎ ((key_lt old key ≡ false) × (new ≡ old)) → list_all (is_copy_at_most new) (take (i + 1) copies) ≡ true
greatest_more copies i c old new key within is of h which =
    list_all_more (is_copy_at_most new) copies i c within
    ∙ and_from (list_all (is_copy_at_most new) (take i copies)) (is_copy_at_most new (get_or copies i c)) (front which) (ap (is_copy_at_most new) (sym is) ∙ here which)
  where
    front : ((key_lt old key ≡ true) × (new ≡ key)) ⊎ ((key_lt old key ≡ false) × (new ≡ old)) → list_all (is_copy_at_most new) (take i copies) ≡ true
    front (inl (above, same)) = at_most_more old new (take i copies) (ap (key_lt old) same ∙ above) h
    front (inr (below, same)) = ap (λ (k : ClusterKey). list_all (is_copy_at_most k) (take i copies)) same ∙ h

    here : ((key_lt old key ≡ true) × (new ≡ key)) ⊎ ((key_lt old key ≡ false) × (new ≡ old)) → is_copy_at_most new c ≡ true
    here (inl (above, same)) = ap (λ (k : ClusterKey). not (key_lt new k)) (sym of ∙ sym same) ∙ ap not (not_above_itself new)
    here (inr (below, same)) = ap (λ (k : ClusterKey). not (key_lt k (whole_key c.1))) same ∙ ap (λ (k : ClusterKey). not (key_lt old k)) (sym of) ∙ ap not below

-- no node's copy is above it
state_at_most : (key : ClusterKey) (copies : List (ℕ × CopyState)) → list_all (is_copy_at_most key) copies ≡ true → (n : ℕ) → key_lt key (whole_key (state_of copies n)) ≡ false
state_at_most key [] h n = none_above key
state_at_most key (c ∷ copies) h n =
    let both = and_parts (is_copy_at_most key c) (list_all (is_copy_at_most key) copies) h in
    go (c.0 == n) refl (not-true (key_lt key (whole_key c.1)) both.0) (state_at_most key copies both.1 n)
  where
    go : (b : Bool) → (c.0 == n) ≡ b → key_lt key (whole_key c.1) ≡ false → key_lt key (whole_key (state_of copies n)) ≡ false → key_lt key (whole_key (state_of (c ∷ copies) n)) ≡ false
    go true e here later = rw e here
    go false e here later = rw e later

-- ---- the first under it

all_by : (test : ℕ → Bool) (l : List ℕ) → ((n : ℕ) → test n ≡ true) → list_all test l ≡ true
all_by test [] h = refl
all_by test (n ∷ l) h = and_from (test n) (list_all test l) (h n) (all_by test l h)

-- where one that passes the second test fails the first, not all pass the first
all_fails : (test passes : ℕ → Bool) (l : List ℕ) (n : ℕ) → find passes l ≡ Some n → ((x : ℕ) → passes x ≡ true → test x ≡ false) → list_all test l ≡ false
all_fails test passes [] n found h = absurd (none-some n found)
all_fails test passes (x ∷ l) n found h = go (passes x) refl (all_fails test passes l n)
  where
    go : (b : Bool) → passes x ≡ b → (find passes l ≡ Some n → ((y : ℕ) → passes y ≡ true → test y ≡ false) → list_all test l ≡ false) → (test x && list_all test l) ≡ false
    go true e later = and_left (test x) (list_all test l) (h x e)
    go false e later = and_right (test x) (list_all test l) (later (let next : find passes (x ∷ l) ≡ find passes l = rw e refl in sym next ∙ found) h)

-- a copy under the greatest key is above one that is whole under another
above_other : (key k : ClusterKey) (s : CopyState) → ((key.round == k.round) && (key.principal == k.principal)) ≡ false → key_lt key k ≡ false → is_whole_under key s ≡ true
    → not (key_lt k (whole_key s)) ≡ false
above_other key k Empty other low under = cc
above_other key k Part other low under = cc
above_other key k (Whole j writes) other low under = ap not (below_other key k j other under low)

-- where some copy is under the greatest key, the wholest are those under it
wholest_under : (key : ClusterKey) (state : ℕ → CopyState) (nodes : List ℕ) (n : ℕ) → ((m : ℕ) → key_lt key (whole_key (state m)) ≡ false) → find (is_under key state) nodes ≡ Some n
    → (m : ℕ) → is_wholest_by nodes state m ≡ is_under key state m
wholest_under key state nodes n at_most found m = go (state m) (at_most m)
  where
    not_above : CopyState → ℕ → Bool
    not_above s x = not (key_lt (whole_key s) (whole_key (state x)))

    whole : (k : ClusterKey) (writes : ℕ) (b : Bool) → ((key.round == k.round) && (key.principal == k.principal)) ≡ b → key_lt key k ≡ false → list_all (not_above (Whole k writes)) nodes ≡ b
    whole k writes true same low = all_by (not_above (Whole k writes)) nodes (λ x. ap not (not_above_same key k (whole_key (state x)) same (at_most x)))
    whole k writes false other low = all_fails (not_above (Whole k writes)) (is_under key state) nodes n found (λ x under. above_other key k (state x) other low under)

    go : (s : CopyState) → key_lt key (whole_key s) ≡ false → (is_whole s && list_all (not_above s) nodes) ≡ is_whole_under key s
    go Empty low = refl
    go Part low = refl
    go (Whole k writes) low = whole k writes ((key.round == k.round) && (key.principal == k.principal)) refl low

pub first_is_wholest : (key : ClusterKey) (copies : List (ℕ × CopyState)) (nodes : List ℕ) (n : ℕ) → list_all (is_copy_at_most key) copies ≡ true → find (is_under key (state_of copies)) nodes ≡ Some n
    → find (is_wholest_by nodes (state_of copies)) nodes ≡ Some n
first_is_wholest key copies nodes n at_most found =
    ap (λ (test : ℕ → Bool). find test nodes) (fun_ext (wholest_under key (state_of copies) nodes n (state_at_most key copies at_most) found)) ∙ found

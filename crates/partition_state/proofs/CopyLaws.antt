-- Copies as the rows tell them, and fewer nodes of a list.
use Rattle.std.proofs.Common.{◌≡◌, ◌≢◌, ℕ, ◌<◌, ◌≤◌, ◌==◌, Bool, true, false, not, List, [], ◌∷◌, length, take, Contains, refl, ◌∙◌, arith, length-take}
use Rattle.std.specs.Prelude.{filter}
use Rattle.std.proofs.Math.Path.{fun_ext}
use Rattle.std.proofs.lemmas.List.{get_or_default}
use Rattle.std.proofs.lemmas.List.Elements.{All-filter, All-contains}
use Rattle.std.proofs.lemmas.List.Filters.{length-filter_both}
use Rattle.cluster_types.specs.StateRows.{state_of}
use Rattle.node_rules.specs.declared.member_row.MemberRow.{MemberRow}
use Rattle.node_rules.specs.Map.{row_state_at}
use Rattle.partition_state.specs.Copies.{copies_at}

state_is : (rows : List MemberRow) (p n : ℕ) → state_of (copies_at rows p) n ≡ row_state_at rows p n
state_is [] p n = refl
state_is (r ∷ rows) p n = go (r.node == n) refl (state_is rows p n)
  where
    go : (b : Bool) → (r.node == n) ≡ b → state_of (copies_at rows p) n ≡ row_state_at rows p n → state_of (copies_at (r ∷ rows) p) n ≡ row_state_at (r ∷ rows) p n
    go true h ih = rw h refl
    go false h ih = rw h ih

-- the copies of the rows have the states that the rules read off the rows
pub states_are : (rows : List MemberRow) (p : ℕ) → state_of (copies_at rows p) ≡ row_state_at rows p
states_are rows p = fun_ext (λ n. state_is rows p n)

-- some of the first nodes of a list leave room for another
pub some_leave_room : (p : ℕ → Bool) (nodes : List ℕ) (i : ℕ) → i < length nodes → length nodes ≤ 16 → length (filter p (take i nodes)) < 16
some_leave_room p nodes i within limit =
    omega (arith, length-filter_both p (λ x. not (p x)) (λ x. refl) (take i nodes), length-take i nodes)

-- what isn't among the nodes isn't among some of them
pub fresh_among_some : (p : ℕ → Bool) (nodes : List ℕ) (x : ℕ) → ¬ (Contains nodes x) → ¬ (Contains (filter p nodes) x)
fresh_among_some p nodes x fresh found =
    All-contains (λ y. y ≢ x) (filter p nodes) x
    (All-filter p (λ y. y ≢ x) nodes (λ k d within same. fresh (k, within, get_or_default nodes k x d within ∙ same)))
    found
    refl

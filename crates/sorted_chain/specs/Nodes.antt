-- How the nodes of a list lie, and what they hold.
use Rattle.std.specs.Prelude.{◌≡◌, ◌<◌, ◌≤◌, ℕ, zero, suc, List, [], ◌∷◌, Option, Some, None, length, map, slice_get, slice_index_or}
use Rattle.std.specs.declared.cmp.Ordering.TheVariants.{Less, Greater}
use Rattle.sorted_chain.specs.declared.boxes.Place.{Place}
use Rattle.sorted_chain.specs.declared.linked_list.Node.{Node}
use Rattle.sorted_chain.specs.Chain.{key_cmp}
use Rattle.sorted_chain.specs.Places.{IsHere, IsGap}

-- the place behind which the i-th node is linked
abbrev pub before_of : List Place → ℕ → Option Place
before_of ps zero = None
before_of ps (suc i) = slice_get ps i

-- the head leads to the first node, and each node to the one after it
abbrev pub IsLinked : {V : Type 0} → Option Place → List Place → List (Node V) → Type 0
IsLinked {V} head ps ns =
    (head ≡ slice_get ps 0)
    × ((i : ℕ) (n : Node V) → slice_get ns i ≡ Some n → n.next ≡ slice_get ps (suc i))

-- what a node holds
abbrev pub pay : {V : Type 0} → Node V → List ℕ × Option V
pay n = (n.key, n.value)

abbrev pub pays : {V : Type 0} → List (Node V) → List (List ℕ × Option V)
pays = map pay

-- the entries of nodes that all have a value
abbrev pub with_entry : {V : Type 0} → List ℕ → Option V → List (List ℕ × V) → List (List ℕ × V)
with_entry k None es = es
with_entry k (Some v) es = (k, v) ∷ es

abbrev pub entries : {V : Type 0} → List (List ℕ × Option V) → List (List ℕ × V)
entries [] = []
entries (n ∷ ns) = with_entry n.0 n.1 (entries ns)

-- an entry as a node holds it
abbrev pub full : {V : Type 0} → List ℕ × V → List ℕ × Option V
full e = (e.0, Some e.1)

-- each node has a value
abbrev pub IsFull : {V : Type 0} → List (List ℕ × Option V) → Type 0
IsFull ns = ns ≡ map full (entries ns)

-- the keys before this place are below the key
abbrev pub HasPassed : {V : Type 0} → List ℕ → List (List ℕ × V) → ℕ → Type 0
HasPassed {V} k es n =
    (j : ℕ) (d : List ℕ × V) → j < n → j < length es → key_cmp (slice_index_or es j d).0 k ≡ Less

-- the keys from this place on are above the key
abbrev pub IsBefore : {V : Type 0} → List ℕ → List (List ℕ × V) → ℕ → Type 0
IsBefore {V} k es n =
    (j : ℕ) (d : List ℕ × V) → n ≤ j → j < length es
    → key_cmp (slice_index_or es j d).0 k ≡ Greater

-- the node of the key is the i-th and lies there
pub record IsNodeOf {V : Type 0} (k : List ℕ) (ps : List Place) (ns : List (Node V)) (i : ℕ)
    (at : Place) : Type 0 where
  pub here : IsHere k (entries (pays ns)) i
  pub at_is : slice_get ps i ≡ Some at

-- the key has no node, and its node would be the i-th and lie between the two places
pub record IsGapOf {V : Type 0} (k : List ℕ) (ps : List Place) (ns : List (Node V)) (i : ℕ)
    (before at : Option Place) : Type 0 where
  pub gap : IsGap k (entries (pays ns)) i
  pub before_is : before ≡ before_of ps i
  pub at_is : at ≡ slice_get ps i

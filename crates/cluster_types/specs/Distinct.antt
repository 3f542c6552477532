-- Lists of ids: in which no id stands twice, and in which each id is below those before it.
use Rattle.std.specs.Prelude.{◌≢◌, ◌==◌, ℕ, ◌<◌, ◌≤◌, ◌-◌, Bool, List, length, slice_index, take, filter, not, AllPairs, Contains}
use Rattle.std.specs.List.{list_any}

-- whether the number is one of those
abbrev pub contains : List ℕ → ℕ → Bool
contains ns n = list_any (λ m. m == n) ns

-- no id stands twice
pub record AreDistinct (ids : List ℕ) : Type 0 where
  pub differ : AllPairs (λ x y. x ≢ y) ids

-- the id at this place is the first that stood before
pub record IsFirstRepeat (ids : List ℕ) (place : ℕ) : Type 0 where
  pub in_list : place < length ids
  pub stood_before : Contains (take place ids) (slice_index ids place)
  pub distinct_before : AreDistinct (take place ids)

-- each id is below all ids before it
pub record IsDescending (ids : List ℕ) : Type 0 where
  pub falls : AllPairs (λ x y. y < x) ids

-- the id at this place is the first that isn't below the one before it
pub record IsFirstRise (ids : List ℕ) (place : ℕ) : Type 0 where
  pub after_first : 0 < place
  pub in_list : place < length ids
  pub not_below : slice_index ids (place - 1) ≤ slice_index ids place
  pub descending_before : IsDescending (take place ids)

-- the ids other than this one, in their order
abbrev pub without : List ℕ → ℕ → List ℕ
without ids gone = filter (λ n. not (n == gone)) ids

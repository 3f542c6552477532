-- The rows of a view's members, and how far each has been read.
use Rattle.std.specs.Prelude.{◌≡◌, ℕ, suc, ◌<◌, ◌≤◌, nat_lt, List, [], ◌∷◌, Some, All, Contains, map, length, cond, slice_get, slice_index, slice_index_or}
use Rattle.cluster_types.specs.declared.copy_state.CopyState.{CopyState}
use Rattle.cluster_types.specs.declared.member.Member.{Member}
use Rattle.cluster_types.specs.Distinct.{AreDistinct}
use Rattle.cluster_types.specs.Members.{AreMembers, ids_of}
use Rattle.cluster_types.specs.StateRows.{IsStateRow}
use Rattle.node_rules.specs.declared.member_row.MemberRow.{MemberRow}

-- whose rows they are
abbrev pub row_nodes : List MemberRow → List ℕ
row_nodes rows = map (λ r. r.node) rows

-- rows of members of the view, the node's own one first and none twice, and room for those of all
pub record AreRowsOf (me : ℕ) (members : List Member) (rows : List MemberRow) (capacity : ℕ)
    : Type 0 where
  pub view : AreMembers members
  pub own : slice_get (row_nodes rows) 0 ≡ Some me
  pub distinct : AreDistinct (row_nodes rows)
  pub listed : All (λ r. Contains (ids_of members) r.node) rows
  pub room : length members ≤ capacity

-- how many entries stand before the first that isn't below the partition
abbrev pub place_in : ℕ → List (ℕ × CopyState) → ℕ
place_in p [] = 0
place_in p (e ∷ row) = cond (nat_lt e.0 p) (suc (place_in p row)) 0

-- each row is read up to the partition
pub record ArePlaces (p : ℕ) (rows : List MemberRow) (places : List ℕ) : Type 0 where
  pub size : length places ≡ length rows
  pub at : (k : ℕ) (d : MemberRow) → k < length rows
      → slice_index places k ≡ place_in p (slice_index_or rows k d).row

-- the row has no entry below the partition from that place on: the one that stands there, if any, isn't below it
abbrev pub IsNextIn : ℕ → List (ℕ × CopyState) → ℕ → Type 0
IsNextIn next row place = (e : ℕ × CopyState) → slice_get row place ≡ Some e → next ≤ e.0

-- no row has an entry below the partition from the place on up to which it was read
pub record AreNextPlaces (next : ℕ) (rows : List MemberRow) (places : List ℕ) : Type 0 where
  pub rising : (k : ℕ) (d : MemberRow) → k < length rows → IsStateRow (slice_index_or rows k d).row
  pub next_in : (k : ℕ) (d : MemberRow) → k < length rows
      → IsNextIn next (slice_index_or rows k d).row (slice_index places k)

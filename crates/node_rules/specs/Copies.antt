-- What a node's store holds: a version for each digest, and a stamp for each copy that was whole.
use Rattle.std.specs.Prelude.{ℕ, zero, suc, ◌+◌, Bool, not, List, [], ◌∷◌}
use Rattle.std.specs.FinMap as map
use Rattle.conflict_order.specs.declared.policy.Policy.{Policy}
use Rattle.conflict_order.specs.declared.version.Version.{Version}
pub use Rattle.conflict_order.specs.Contents.{Content, content_code, joined}
use Rattle.cluster_types.specs.declared.copy_state.CopyState.{CopyState}
use Rattle.cluster_types.specs.declared.copy_state.CopyState.TheVariants.{Empty, Part, Whole}
pub use Rattle.cluster_types.specs.Copies.{Stamp, Stamps, stamps_code, is_of, digests_of, without_copy, state_with, state_of_copy}
pub use Rattle.node_rules.specs.Tables.{is_nil}

-- the states of those copies that aren't empty, in rising order of their partitions
abbrev pub Row : Type 0
Row = List (ℕ × CopyState)

-- what a node holds, which a stop keeps
pub record Store : Type 0 where
  pub content : Content
  pub stamps : Stamps
  -- how versions of one digest compare
  pub by : Policy

-- a store without records and stamps
abbrev pub empty_store : Policy → Store
empty_store by = record { content = map.empty; stamps = map.empty; by = by }

-- the digests that are held, in their order
abbrev pub digests : Content → List (List ℕ)
digests content = map.keys content

-- the store after a version came
abbrev pub storing : Store → List ℕ → Version → Store
storing s digest v = record s { content = joined s.by s.content digest v }

-- the store without a partition's copy and its stamp
abbrev pub dropping : Store → ℕ → Store
dropping s p = record s {
  content = without_copy s.content p;
  stamps = map.remove s.stamps p;
}

-- the store with this stamp for a partition's copy
abbrev pub stamping : Store → ℕ → Stamp → Store
stamping s p stamp = record s { stamps = map.insert s.stamps p stamp }

-- whether a record of the partition is held
abbrev pub holds_of : Content → ℕ → Bool
holds_of content p = not (is_nil (digests_of content p))

-- the state of a partition's copy
abbrev pub store_state : Store → ℕ → CopyState
store_state s p = state_of_copy s.content s.stamps p

-- a row's entries with the state of a lower partition before them
abbrev pub with_state : ℕ → CopyState → Row → Row
with_state p Empty row = row
with_state p Part row = (p, Part) ∷ row
with_state p (Whole key writes) row = (p, Whole key writes) ∷ row

-- the row of so many partitions from one on
unfoldable pub row_from : Store → ℕ → ℕ → Row
row_from s zero p = []
row_from s (suc n) p = with_state p (store_state s p) (row_from s n (p + 1))

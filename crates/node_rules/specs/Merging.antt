-- What records that come from another node make of what a node holds.
use Rattle.std.specs.Prelude.{Bool, List, [], ◌∷◌, ◌++◌, fold, if◌then◌else◌}
use Rattle.std.specs.FinMap as finite
use Rattle.conflict_order.specs.declared.policy.Policy.{Policy}
use Rattle.conflict_order.specs.Order.{is_newer}
pub use Rattle.conflict_order.specs.Contents.{Record}
use Rattle.cluster_types.specs.declared.cluster_key.ClusterKey.{ClusterKey}
use Rattle.cluster_types.specs.Partitions.{partition_of}
use Rattle.node_rules.specs.Copies.{Content, Store, Stamps, joined}
use Rattle.node_rules.specs.Stamps.{spoiled, changed_stamps}
use Rattle.node_rules.specs.Tables.{only_if}

-- whether the record is newer than what is held of it
abbrev pub is_newer_than_held : Policy → Content → Record → Bool
is_newer_than_held by content r = is_newer by r.1 (finite.get content r.0)

-- those of the records that are newer than what is held as they are come to, in their order
abbrev pub newer_records : Policy → Content → List Record → List Record
newer_records by content [] = []
newer_records by content (r ∷ rs) =
    only_if r (is_newer_than_held by content r)
    ++ newer_records by
    (if is_newer_than_held by content r then joined by content r.0 r.1 else content) rs

-- the content after these records came
abbrev pub joined_all : Policy → Content → List Record → Content
joined_all by content rs = fold (λ held r. joined by held r.0 r.1) content rs

-- the stamps after such a record came of another node, in a view of that key
abbrev pub spoiled_at : ClusterKey → Stamps → Record → Stamps
spoiled_at key stamps r =
    changed_stamps stamps (partition_of r.0) (spoiled key) (finite.get stamps (partition_of r.0))

-- the stamps after these records came
abbrev pub spoiled_all : ClusterKey → Stamps → List Record → Stamps
spoiled_all key stamps rs = fold (spoiled_at key) stamps rs

-- the store after these records came, all of which were newer
abbrev pub store_merged_all : Store → ClusterKey → List Record → Store
store_merged_all s key rs = record s {
  content = joined_all s.by s.content rs;
  stamps = spoiled_all key s.stamps rs;
}

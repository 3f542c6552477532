-- What a node holds of a record, and what was ever written of it.
use Rattle.std.specs.Prelude.{ℕ, ◌==◌, Bool, true, false, ◌&&◌, ◌||◌, if◌then◌else◌, List, [], ◌∷◌, fold, Option, Some, None, bytes_eq}
use Rattle.conflict_order.specs.declared.policy.Policy.{Policy}
use Rattle.conflict_order.specs.declared.version.Version.{Version}
use Rattle.conflict_order.specs.Join.{join}
use Rattle.cluster_types.specs.Partitions.{partition_of}
use Rattle.journal_lines.specs.declared.line.Line.{Line}
use Rattle.journal_lines.specs.declared.line.Line.TheVariants as line

-- the join of versions, nothing where there is none
abbrev pub join_all : Policy → List (Option Version) → Option Version
join_all by [] = None
join_all by (v ∷ vs) = join by v (join_all by vs)

-- what is joined so far with one version more, where it counts
abbrev pub joined_if : Bool → Policy → Option Version → Version → Option Version
joined_if true by held v = join by held (Some v)
joined_if false by held v = held

-- ---- what a node holds of a record

abbrev pub content_step : Policy → ℕ → List ℕ → Option Version → Line → Option Version
content_step by n d held (line.Apply m k t e v) = joined_if ((m == n) && bytes_eq e d) by held v
content_step by n d held (line.Merge m k e v) = joined_if ((m == n) && bytes_eq e d) by held v
content_step by n d held (line.Drop m k p) =
    if (m == n) && (p == partition_of d) then None else held
content_step by n d held _ = held

-- the join of the versions that the node's own writes and other nodes brought it, since it last dropped
-- its copy of the record's partition; a stop changes nothing
unfoldable pub content : Policy → ℕ → List ℕ → List Line → Option Version
content by n d lines = fold (content_step by n d) None lines

-- ---- whether it holds any record of a partition

abbrev pub copy_step : ℕ → ℕ → Bool → Line → Bool
copy_step n p holds (line.Apply m k t d v) = holds || ((m == n) && (partition_of d == p))
copy_step n p holds (line.Merge m k d v) = holds || ((m == n) && (partition_of d == p))
copy_step n p holds (line.Drop m k q) = if (m == n) && (q == p) then false else holds
copy_step n p holds _ = holds

-- whether some version of the partition came to the node since it last dropped its copy
unfoldable pub holds_any : ℕ → ℕ → List Line → Bool
holds_any n p lines = fold (copy_step n p) false lines

-- ---- what was ever written of a record

abbrev pub applied_step : Policy → List ℕ → Option Version → Line → Option Version
applied_step by d held (line.Apply m k t e v) = joined_if (bytes_eq e d) by held v
applied_step by d held _ = held

-- the join of all versions that were applied
unfoldable pub applied : Policy → List ℕ → List Line → Option Version
applied by d lines = fold (applied_step by d) None lines

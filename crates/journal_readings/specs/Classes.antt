-- Which members' copies are known to be equal, and which of them stands for the others.
use Rattle.std.specs.Prelude.{ℕ, ◌==◌, Bool, true, false, ◌&&◌, ◌||◌, not, List, filter, Option, Some, None, slice_get}
use Rattle.cluster_types.specs.declared.cluster_key.ClusterKey.{ClusterKey}
use Rattle.cluster_types.specs.declared.copy_state.CopyState.{CopyState}
use Rattle.cluster_types.specs.declared.copy_state.CopyState.TheVariants.{Empty, Part, Whole}
use Rattle.journal_lines.specs.declared.line.Line.{Line}
use Rattle.partition_lists.specs.Classes.{no_class, is_that}
use Rattle.journal_readings.specs.Lines.{same_key, has_node}
use Rattle.journal_readings.specs.Views.{succession_list}
use Rattle.journal_readings.specs.Rows.{row}

-- whether a copy has records
abbrev pub has_records : Option CopyState → Bool
has_records None = false
has_records (Some Empty) = false
has_records (Some Part) = true
has_records (Some (Whole k writes)) = true

-- whether two copies are whole by one view and have had the same writes of it
abbrev pub are_alike : Option CopyState → Option CopyState → Bool
are_alike (Some (Whole k a)) (Some (Whole l b)) = same_key k l && ((a == b) && not (a == no_class))
are_alike _ _ = false

-- whether the member m is in the class of the member n: a copy without records is in no class, one that isn't
-- known to be whole or whose writes aren't known is alone in its own, and all that are alike are in one
abbrev pub is_in_class_of : ℕ → ClusterKey → ℕ → ℕ → ℕ → List Line → Bool
is_in_class_of factor k p n m lines =
    ((m == n) && has_records (row factor k n p lines))
    || are_alike (row factor k n p lines) (row factor k m p lines)

-- the class of a member, in the order of the partition's list
unfoldable pub class_of : ℕ → ClusterKey → ℕ → ℕ → List Line → List ℕ
class_of factor k p n lines = filter (λ m. is_in_class_of factor k p n m lines)
    (succession_list k p lines)

-- whether the two are members of one class
abbrev pub are_in_one_class : ℕ → ClusterKey → ℕ → ℕ → ℕ → List Line → Bool
are_in_one_class factor k p n m lines =
    has_node (class_of factor k p n lines) n && has_node (class_of factor k p n lines) m

-- the first of the member's class in the partition's list
abbrev pub first_of_class : ℕ → ClusterKey → ℕ → ℕ → List Line → Option ℕ
first_of_class factor k p n lines = slice_get (class_of factor k p n lines) 0

-- whether the member n hands its records on to r: it is the first of its class, and r isn't in it
unfoldable pub hands_on : ℕ → ClusterKey → ℕ → ℕ → ℕ → List Line → Bool
hands_on factor k n r p lines =
    is_that (first_of_class factor k p n lines) n && not (has_node (class_of factor k p n lines) r)

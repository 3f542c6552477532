-- How many writes of the list master a whole copy has had.
use Rattle.std.specs.Prelude.{ℕ, ◌==◌, Bool, false, ◌&&◌, not, if◌then◌else◌, List, [], ◌∷◌, length, count_by, Option, Some, None, option_and_then}
use Rattle.std.specs.List.{list_any, list_all, range_with_len}
use Rattle.cluster_types.specs.declared.cluster_key.ClusterKey.{ClusterKey}
use Rattle.cluster_types.specs.Partitions.{partition_of}
use Rattle.cluster_types.specs.Distinct.{contains}
use Rattle.wire_messages.specs.declared.message.Message.{Message}
use Rattle.wire_messages.specs.declared.message.Message.TheVariants as message
use Rattle.journal_lines.specs.declared.line.Line.{Line}
use Rattle.journal_lines.specs.declared.line.Line.TheVariants as line
use Rattle.partition_lists.specs.Classes.{no_class}
use Rattle.journal_readings.specs.Lines.{same_key, is_enter, lines_after, fold_along}
use Rattle.journal_readings.specs.Views.{is_in_view, master}
use Rattle.journal_readings.specs.Messages.{arrival_between}

-- the numbers with one more, each once
abbrev pub with_new_number : Option ℕ → List ℕ → List ℕ
with_new_number None numbers = numbers
with_new_number (Some x) numbers = if contains numbers x then numbers else (x ∷ numbers)

-- ---- which writes the copy has had

-- the node's write of the partition in the view
abbrev pub is_apply_in : ClusterKey → ℕ → ℕ → Line → Bool
is_apply_in k n p (line.Apply m l t d v) = (m == n) && (same_key l k && (partition_of d == p))
is_apply_in k n p _ = false

-- a node's own writes are numbered from 1
abbrev pub own_numbers : ClusterKey → ℕ → ℕ → List Line → List ℕ
own_numbers k n p lines = range_with_len 1 (count_by (is_apply_in k n p) lines)

-- the number of a write of the partition in the view that is replicated
abbrev pub repl_number : ClusterKey → ℕ → Message → Option ℕ
repl_number k p (message.Repl l t nth d v) =
    if same_key l k && (partition_of d == p) then Some nth else None
repl_number k p _ = None

-- a write of the master reaches the node while the node is in the view
abbrev pub heard_step : ClusterKey → ℕ → ℕ → ℕ → List Line → List ℕ → Line → List ℕ
heard_step k n p master before numbers l =
    if is_in_view k n before
    then with_new_number (option_and_then (repl_number k p) (arrival_between master n before l))
    numbers
    else numbers

-- the numbers of the master's writes that reached the node so
abbrev pub heard_numbers : ClusterKey → ℕ → ℕ → ℕ → List Line → List ℕ
heard_numbers k n p master lines = fold_along (heard_step k n p master) [] [] lines

-- the numbers of those of the list master's writes in the view that the node has had
unfoldable pub numbers : ClusterKey → ℕ → ℕ → List Line → List ℕ
numbers k n p lines =
    if n == master k p lines then own_numbers k n p lines
    else heard_numbers k n p (master k p lines) lines

-- ---- whether nothing else came

-- another view's version of the partition comes to the node
abbrev pub is_foreign : ClusterKey → ℕ → ℕ → Line → Bool
is_foreign k n p (line.Apply m l t d v) = (m == n) && (not (same_key l k) && (partition_of d == p))
is_foreign k n p (line.Merge m l d v) = (m == n) && (not (same_key l k) && (partition_of d == p))
is_foreign k n p _ = false

abbrev pub has_foreign : ClusterKey → ℕ → ℕ → List Line → Bool
has_foreign k n p lines = list_any (is_foreign k n p) (lines_after (is_enter k n) lines)

-- ---- the count

-- whether the numbers, each once, are those from 1 to their count
abbrev pub has_no_gap : List ℕ → Bool
has_no_gap numbers = list_all (contains numbers) (range_with_len 1 (length numbers))

-- how many of the list master's writes in the view the node has had, where they are the first ones without a
-- gap and no other view's version came to the partition since the node entered the view
unfoldable pub count : ClusterKey → ℕ → ℕ → List Line → ℕ
count k n p lines =
    if has_no_gap (numbers k n p lines) && not (has_foreign k n p lines)
    then length (numbers k n p lines)
    else no_class

-- How a node stands to one partition, and the lines of settling that are due of that alone.
use Rattle.std.specs.Prelude.{◌≡◌, ℕ, zero, suc, ◌+◌, ◌&&◌, ◌||◌, Bool, true, false, cond, not, List, [], ◌∷◌, ◌++◌, length}
use Rattle.cluster_types.specs.declared.cluster_key.ClusterKey.{ClusterKey}
use Rattle.cluster_types.specs.Partitions.{partition_count}
use Rattle.cluster_types.specs.Rows.{bit}
use Rattle.journal_lines.specs.declared.line.Line.{Line}
use Rattle.journal_lines.specs.declared.line.Line.TheVariants as line
use Rattle.node_rules.specs.Copies.{holds_of}
use Rattle.node_rules.specs.Facts.{Facts, view_key, list_at}
use Rattle.node_rules.specs.Standing.{is_acting, is_master, is_own_replica, is_all_empty, are_all_done, is_done, has_settled_bit, knows_handed, has_handed}
use Rattle.node_rules.specs.Transactions.{is_busy}
use Rattle.node_rules.specs.Tables.{only_if}

-- how a node stands to a partition of its view
pub record Here : Type 0 where
  -- it is the acting master by the rows
  pub acting : Bool
  -- it is the list master
  pub master : Bool
  pub replica : Bool
  -- it knows the partition handed over
  pub handed : Bool
  -- it handed the partition over itself
  pub own_handed : Bool
  -- it has the settled bit
  pub settled : Bool
  -- it learnt the partition in its view
  pub learnt : Bool
  -- it is done there
  pub done : Bool
  -- it is done, and knows every other member done
  pub all_done : Bool
  -- a transaction is open there
  pub busy : Bool
  -- all copies were empty
  pub empty : Bool
  -- it holds a record there
  pub holds : Bool

-- how the node stands to the partition with that list
abbrev pub here : Facts → List ℕ → ℕ → Here
here f l p = record {
  acting = is_acting f l p;
  master = is_master f l;
  replica = is_own_replica f l;
  handed = knows_handed f p;
  own_handed = has_handed f p;
  settled = has_settled_bit f p;
  learnt = bit f.bits.learnt p;
  done = is_done f p;
  all_done = are_all_done f p;
  busy = is_busy f.transactions p;
  empty = is_all_empty f p;
  holds = holds_of f.store.content p;
}

-- whether it hands the partition over
abbrev pub hands : Here → Bool
hands h = h.acting && (not h.master && (not h.own_handed && (h.all_done && not h.busy)))

-- whether it settles the partition. One that hands it over is no list master, and settles nothing
abbrev pub settles : Here → Bool
settles h =
    h.master
    && (not h.empty && (not h.settled && (not h.busy && (h.handed || (h.acting && h.all_done)))))

-- whether it learns the partition, which was settled before or is now
abbrev pub learns : Here → Bool
learns h = (h.settled || settles h) && (h.replica && not h.learnt)

-- whether it drops its copy, where the partition was settled before or is now
abbrev pub drops : Here → Bool
drops h = (h.settled || settles h) && (h.done && (not h.replica && h.holds))

-- the lines of settling of a partition to which a node stands so
abbrev pub lines_here : ℕ → ClusterKey → ℕ → Here → List Line
lines_here me key p h =
    only_if (line.Handed me key p) (hands h)
    ++ (only_if (line.Settled me key p) (settles h)
    ++ (only_if (line.Learn me key p) (learns h) ++ only_if (line.Drop me key p) (drops h)))

-- the lines of settling of the partition, as the facts stand
abbrev pub part_lines : Facts → ℕ → List Line
part_lines f p = lines_here f.me (view_key f) p (here f (list_at f p) p)

-- the lines of so many partitions, from one on, all of the facts as they are before any of them
unfoldable pub lines_from : ℕ → ℕ → Facts → List Line
lines_from zero p f = []
lines_from (suc n) p f = part_lines f p ++ lines_from n (p + 1) f

-- the rows of what the node knows handed over and settled have a bit for each partition
pub record HasRows (f : Facts) : Type 0 where
  pub handed : length f.bits.handed ≡ partition_count
  pub settled : length f.bits.settled ≡ partition_count

-- the partition isn't settled, and the node has nothing there to hand over or to settle
pub record IsAsleep (h : Here) : Type 0 where
  pub unsettled : h.settled ≡ false
  pub kept : (h.acting && (not h.master && not h.own_handed)) ≡ false
  pub quiet : (h.master && not h.empty) ≡ false

-- the partition is settled, and the node has nothing left there to hand over, to learn or to drop
pub record IsOver (h : Here) : Type 0 where
  pub settled : h.settled ≡ true
  pub kept : (h.acting && (not h.master && not h.own_handed)) ≡ false
  pub learnt : (h.replica && not h.learnt) ≡ false
  pub dropped : (not h.replica && h.holds) ≡ false

-- those of so many numbers, from one on, that pass the test
unfoldable pub live_from : (ℕ → Bool) → ℕ → ℕ → List ℕ
live_from live zero p = []
live_from live (suc n) p = cond (live p) (p ∷ live_from live n (p + 1)) (live_from live n (p + 1))

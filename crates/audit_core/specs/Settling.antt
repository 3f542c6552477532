-- What is known of a view's partitions, and of its writes.
use Rattle.std.specs.Prelude.{◌≡◌, ℕ, ◌&&◌, ◌||◌, Bool, true, false, List, [], Option, Some, None, slice_get}
use Rattle.cluster_types.specs.declared.cluster_key.ClusterKey.{ClusterKey}
use Rattle.partition_lists.specs.Lists.{list}
use Rattle.partition_lists.specs.Classes.{is_that}
use Rattle.audit_core.specs.declared.judge.Judge.{Judge}
use Rattle.audit_state.specs.declared.views.View.{View}
use Rattle.audit_core.specs.Known.{kept_view}
use Rattle.audit_core.specs.NextFrames.{finished_in}
use Rattle.audit_core.specs.Steps.{ChangesView}
use Rattle.audit_core.specs.Wholes.{empty_in}
use Rattle.audit_state.specs.OpenWrites.{OpensWrite, open_of}
use Rattle.audit_state.specs.Written.{Stand, stand_in, stand_of}

-- the stand of the partition in the view; nothing is settled, open or to be tried where there is no
-- view
abbrev pub stand_from : Option View → ℕ → Stand
stand_from None p = stand_in None
stand_from (Some x) p = stand_of x p

abbrev pub stand_at : Judge → ClusterKey → ℕ → Stand
stand_at s k p = stand_from (kept_view s k) p

-- the partition of each write of the transaction that is open as one of the list master
abbrev pub open_from : Option View → ℕ → ℕ → List ℕ
open_from None n t = []
open_from (Some x) n t = open_of x n t

-- the list master of the partition in the view
abbrev pub master_from : Option View → ℕ → Option ℕ
master_from None p = None
master_from (Some x) p = slice_get (list x.ranks p) 0

-- whether the node is the list master of the partition in the view
abbrev pub is_master_in : Option View → ℕ → ℕ → Bool
is_master_in x n p = is_that (master_from x p) n

-- whether the partition is settled by the node, where it is the list master: it says so, or has
-- finished exchange in the view and no member had a record of the partition as it entered
abbrev pub is_settled_in : Judge → ℕ → ClusterKey → ℕ → Bool
is_settled_in s n k p =
    (stand_at s k p).settled || (finished_in (kept_view s k) n && empty_in s p (kept_view s k))

-- a write of the node's transaction comes to the partition, which is open where the node is the
-- list master
pub record TakesMasterWrite (k : ClusterKey) (n t p : ℕ) (old new : Judge) : Type 0 where
  pub passed : is_master_in (kept_view old k) n p ≡ false → new ≡ old
  pub opened : is_master_in (kept_view old k) n p ≡ true → ChangesView (OpensWrite n t p) k old new

-- What the other members told, in member order, and the table that it is.
use Rattle.std.specs.Prelude.{◌≡◌, ℕ, ◌<◌, ◌≤◌, Bool, true, false, cond, List, [], ◌∷◌, ◌++◌, All, map, length, count_by, slice_index}
use Rattle.cluster_types.specs.Distinct.{IsDescending}
use Rattle.cluster_types.specs.Partitions.{partition_count}
use Rattle.cluster_types.specs.Rows.{bit, IsClear}
use Rattle.node_rules.specs.Bits.{clear_row}
use Rattle.node_rules.specs.Tables.{Table}
use Rattle.progress.specs.declared.told.Told.{Told}

-- a member that told nothing
abbrev pub silent_member : ℕ → Told
silent_member n = record { node = n; came = false; done = clear_row }

-- the member once its Progress came
abbrev pub telling : Told → List Bool → Told
telling t done = record t { came = true; done = done }

-- whether the member is known done at the partition
abbrev pub is_done_at : ℕ → Told → Bool
is_done_at p t = bit t.done p

-- the members of these
abbrev pub told_nodes : List Told → List ℕ
told_nodes ts = map (λ t. t.node) ts

-- the entry of the member in the table, if its Progress came
abbrev pub done_entry : Told → Table (List Bool)
done_entry t = cond t.came ((t.node, t.done) ∷ []) []

-- the done rows as a table: in rising order, without those that told nothing
abbrev pub told_table : List Told → Table (List Bool)
told_table [] = []
told_table (t ∷ ts) = told_table ts ++ done_entry t

-- what is kept of the other members, and of each partition the number of those that are known done
pub record AreTold (heard : List Told) (known : List ℕ) : Type 0 where
  pub falls : IsDescending (told_nodes heard)
  pub limit : length heard ≤ 16
  -- a member that told nothing isn't known done anywhere
  pub clear : All (λ t. t.came ≡ false → IsClear t.done) heard
  pub size : length known ≡ partition_count
  pub counts : (p : ℕ) → p < partition_count → slice_index known p ≡ count_by (is_done_at p) heard

-- How many of the list master's writes a copy has had, by their numbers, and what becomes of its stamp: the key under
-- which it last was whole, with that count.
use Rattle.std.specs.Prelude.{ℕ, ◌==◌, nat_lt, Bool, if◌then◌else◌, List, [], ◌∷◌, length, nat_eq}
use Rattle.std.specs.Cmp.Lexicographic.{pointwise}
use Rattle.std.specs.List.{range_with_len}
use Rattle.cluster_types.specs.declared.cluster_key.ClusterKey.{ClusterKey}
use Rattle.cluster_types.specs.ClusterKeys.{same_key}
use Rattle.partition_lists.specs.Classes.{no_class}

-- a set of numbers, as their list in strictly rising order
abbrev pub Numbers : Type 0
Numbers = List ℕ

-- the set with a number more
abbrev pub with_number : Numbers → ℕ → Numbers
with_number [] n = n ∷ []
with_number (m ∷ ms) n =
    if n == m then m ∷ ms else (if nat_lt n m then n ∷ m ∷ ms else (m ∷ with_number ms n))

-- whether the numbers are exactly those from 1 to how many there are
abbrev pub have_no_gap : Numbers → Bool
have_no_gap numbers = pointwise nat_eq numbers (range_with_len 1 (length numbers))

-- n where the numbers are exactly 1 to n, and otherwise `no_class`
abbrev pub count_of : Numbers → ℕ
count_of numbers = if have_no_gap numbers then length numbers else no_class

-- a stamp of the view's key has the count as it now is, and another one stays
abbrev pub recounted : ClusterKey → ℕ → ClusterKey × ℕ → ClusterKey × ℕ
recounted key count stamp = if same_key stamp.0 key then (key, count) else stamp

-- a record of another view's key came into a copy: it equals none that was whole under its stamp
abbrev pub spoiled : ClusterKey → ClusterKey × ℕ → ClusterKey × ℕ
spoiled key stamp = if same_key stamp.0 key then stamp else (stamp.0, no_class)

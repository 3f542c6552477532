-- The map of a view: of each partition the list, and the member that acts for it.
use Rattle.std.specs.Prelude.{ℕ, Bool, false, not, List, find, Option, Some, None, unwrap_or}
use Rattle.std.specs.List.{list_any}
use Rattle.cluster_types.specs.declared.cluster_key.ClusterKey.{ClusterKey}
use Rattle.cluster_types.specs.declared.member.Member.{Member}
use Rattle.cluster_types.specs.ClusterKeys.{key_lt}
pub use Rattle.cluster_types.specs.Members.{with_roles}
use Rattle.journal_lines.specs.declared.line.Line.{Line}
use Rattle.journal_readings.specs.Views.{members, succession_list, first_of}
use Rattle.journal_readings.specs.Rows.{row, row_whole_key}

-- ---- the member that acts

-- whether the second key is there and above the first
abbrev pub has_key_above : ClusterKey → Option ClusterKey → Bool
has_key_above k None = false
has_key_above k (Some l) = key_lt k l

-- whether the copy is whole by a key, and no copy of these members by a greater one
abbrev pub is_newest_whole : ℕ → ClusterKey → ℕ → List Line → List ℕ → Option ClusterKey → Bool
is_newest_whole factor k p lines ids None = false
is_newest_whole factor k p lines ids (Some l) =
    not (list_any (λ m. has_key_above l (row_whole_key (row factor k m p lines))) ids)

-- of the members whose copies are whole the one with the greatest key, on a tie the first in the list; the
-- list master where no copy is whole
unfoldable pub acting : ℕ → ClusterKey → ℕ → List Line → ℕ
acting factor k p lines =
    unwrap_or (find
    (λ n.
    is_newest_whole factor k p lines (succession_list k p lines)
    (row_whole_key (row factor k n p lines)))
    (succession_list k p lines))
    (first_of (succession_list k p lines))

-- ---- the list as a map line shows it

-- the list of the partition, each member with its role
abbrev pub listed_members : ClusterKey → ℕ → List Line → List Member
listed_members k p lines = with_roles (members k lines) (succession_list k p lines)

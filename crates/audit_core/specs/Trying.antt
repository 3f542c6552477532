-- What is known behind a line while what it can have changed is tried.
use Rattle.std.specs.Prelude.{◌≡◌, ℕ, ◌==◌, ◌&&◌, ◌||◌, not, nat_eq, cond, slice_get, Bool, true, false, List, [], Option, Some, None, bytes_eq}
use Rattle.std.specs.HashMap as hash
use Rattle.std.specs.List.{list_any}
use Rattle.cluster_types.specs.ClusterKeys.{is_view_key}
use Rattle.cluster_types.specs.declared.cluster_key.ClusterKey.{ClusterKey}
use Rattle.cluster_types.specs.Partitions.{partition_of}
use Rattle.journal_lines.specs.declared.line.Line.{Line}
use Rattle.journal_readings.specs.Lines.{same_key, has_node, is_settled_line}
use Rattle.journal_readings.specs.Settled.{is_settled, has_open_write}
use Rattle.journal_readings.specs.Shape.{Shape}
use Rattle.journal_readings.specs.Views.{master}
use Rattle.audit_core.specs.declared.judge.Judge.{Judge}
use Rattle.audit_laws.specs.declared.law.Law.TheVariants as law
use Rattle.audit_core.specs.declared.verdict.Stop.{Stop}
use Rattle.audit_core.specs.declared.verdict.Stop.TheVariants as stop
use Rattle.audit_core.specs.Audits.{so_far}
use Rattle.audit_core.specs.Covering.{SeesCovers, cover_number}
use Rattle.audit_core.specs.Frames.{Both}
use Rattle.audit_core.specs.Holders.{content_now}
use Rattle.audit_core.specs.Known.{view_at, kept_view}
use Rattle.audit_core.specs.Sees.{SeesFrame, SeesStand, IsBound, AllJoin, HasNoDoubts, IsSuspect}
use Rattle.audit_core.specs.Stored.{SeesStores, IsRecordOf}
use Rattle.audit_state.specs.declared.copies.Cover.{Cover}
use Rattle.audit_state.specs.declared.nodes.Node.{Node}
use Rattle.audit_state.specs.declared.records.Records.{Records}
use Rattle.audit_state.specs.declared.views.View.{View}
use Rattle.audit_state.specs.Histories.{value_after}
use Rattle.audit_state.specs.Places.{placed, is_at_most}
use Rattle.audit_state.specs.Records.{record_digest}
use Rattle.audit_state.specs.Stores.{history_of}
use Rattle.audit_state.specs.Written.{Stand, stand_of, written_of}

-- ---- the lines

-- what is known of the first lines, this many, is what they say, but for what was tried
pub record SeesLines (s : Judge) (i : ℕ) : Type 0 where
  pub shape : Shape (so_far s i)
  pub frame : SeesFrame s (so_far s i)
  pub stores : SeesStores s i s.lines.now (so_far s i)

-- of each partition of a known view it is known whether a line settles it, and how many writes are
-- open
abbrev pub SeesStands : Judge → ℕ → Type 0
SeesStands s i = (k : ClusterKey) (p : ℕ) (x : View) → kept_view s k ≡ Some x
    → SeesStand (so_far s i) k p (stand_of x p)

-- of each it is known whether a line settles it
abbrev pub SeesSettled : Judge → ℕ → Type 0
SeesSettled s i = (k : ClusterKey) (p : ℕ) (x : View) → kept_view s k ≡ Some x
    → (stand_of x p).settled ≡ list_any (is_settled_line k (master k p (so_far s i)) p) (so_far s i)

-- the record of this number has the digest, and is one of the partition
pub record IsKnownRecord (s : Judge) (r p : ℕ) (d : List ℕ) : Type 0 where
  pub named : record_digest s.records r ≡ Some d
  pub part : partition_of d ≡ p

-- ---- what a replica holds

-- whether the node holds the version at the place
abbrev pub holds_just : Judge → ℕ → Option ℕ → ℕ → Bool
holds_just s r place n =
    is_at_most s.by (placed s.lines.now (content_now s n r)) (placed s.lines.now place)
    && is_at_most s.by (placed s.lines.now place) (placed s.lines.now (content_now s n r))

-- whether it does, where it is in the view
abbrev pub joins_at : Judge → ClusterKey → ℕ → Option ℕ → ℕ → Bool
joins_at s k r place n = not (is_view_key (view_at s n) k) || holds_just s r place n

-- a replica of a partition that is settled, and in which no write is open, parts from the fold
pub record IsParted (j : List Line) : Type 0 where
  pub key : ClusterKey
  pub digest : List ℕ
  pub bound : IsBound key (partition_of digest) j
  pub closed : has_open_write key (partition_of digest) j ≡ false
  pub parted : AllJoin key digest j → ⊥

-- memory ran out, or a replica parts from the fold
abbrev pub StopsParted : Stop → List Line → Type 0
StopsParted stop.NoMemory j = Unit {0}
StopsParted (stop.Breaks l) j = (l ≡ law.SettledJoin) × IsParted j

-- ---- what a node holds of a member's records

-- whether the node holds at least what the member held of the record after so many lines
abbrev pub covers_record : Judge → ℕ → ℕ → ℕ → ℕ → Bool
covers_record s n m of r =
    is_at_most s.by (placed s.lines.now (value_after (history_of s.stores m r) of))
    (placed s.lines.now (content_now s n r))

-- ---- what is to be tried, item by item

-- the partitions that a line settles in the view
abbrev pub settled_list : Option View → List ℕ
settled_list None = []
settled_list (Some x) = x.settled.items

abbrev pub settled_item : Option View → ℕ → Option ℕ
settled_item None i = None
settled_item (Some x) i = slice_get x.settled.items i

-- the records that were applied in it
abbrev pub written_item : Option View → ℕ → Option ℕ
written_item None i = None
written_item (Some x) i = slice_get x.written.items i

-- the records that changed at the node since it entered its view
abbrev pub changed_item : Option Node → ℕ → Option ℕ
changed_item None i = None
changed_item (Some node) i = slice_get node.stay.items i

-- ---- what was tried

-- those that were tried, and the record in the view
abbrev pub tried_with_record : (ClusterKey → List ℕ → Bool) → ClusterKey → List ℕ → ClusterKey
    → List ℕ → Bool
tried_with_record tried k d l e = tried l e || (same_key k l && bytes_eq d e)

-- those that were tried, and the record in that view, if it is one
abbrev pub tried_with_present : (ClusterKey → List ℕ → Bool) → Option ClusterKey → List ℕ
    → ClusterKey → List ℕ → Bool
tried_with_present tried None d = tried
tried_with_present tried (Some k) d = tried_with_record tried k d

-- whether that is the digest
abbrev pub is_digest : Option (List ℕ) → List ℕ → Bool
is_digest None e = false
is_digest (Some d) e = bytes_eq d e

-- those that were tried, and the records of these numbers in that view, if it is one
abbrev pub tried_with_records : (ClusterKey → List ℕ → Bool) → Records → Option ClusterKey → List ℕ
    → ClusterKey → List ℕ → Bool
tried_with_records tried records present numbers l e =
    tried l e
    || (is_view_key present l && list_any (λ r. is_digest (record_digest records r) e) numbers)

-- those that were tried, and the records of the partition in the view
abbrev pub tried_with_partition : (ClusterKey → List ℕ → Bool) → ClusterKey → ℕ → ClusterKey
    → List ℕ → Bool
tried_with_partition tried k p l e = tried l e || (same_key k l && (p == partition_of e))

-- those that were tried, and the records of these partitions in the view
abbrev pub tried_with_partitions : (ClusterKey → List ℕ → Bool) → ClusterKey → List ℕ → ClusterKey
    → List ℕ → Bool
tried_with_partitions tried k ps l e = tried l e || (same_key k l && has_node ps (partition_of e))

-- of a partition that is bound: nothing is to be tried where no write is open; and of the records
-- that were tried all join but those that are to be
pub record IsTriedOf (those : List ℕ → Bool) (s : Judge) (j : List Line) (k : ClusterKey) (p : ℕ)
    (x : Stand) : Type 0 where
  pub closed : x.open_writes ≡ 0 → HasNoDoubts x
  pub joined : x.untried ≡ false → (d : List ℕ) → partition_of d ≡ p → those d ≡ true
      → (IsSuspect s x d → ⊥) → AllJoin k d j

-- of each partition of a known view, where these records were tried
pub record IsTrying (s : Judge) (i : ℕ) (those : ClusterKey → List ℕ → Bool) : Type 0 where
  pub stands : SeesStands s i
  pub listed : (k : ClusterKey) (p : ℕ) (x : View) → kept_view s k ≡ Some x
      → has_node x.settled.items p ≡ (stand_of x p).settled
  pub unsettled : (k : ClusterKey) (p : ℕ) (x : View) → kept_view s k ≡ Some x
      → is_settled k p (so_far s i) ≡ false → HasNoDoubts (stand_of x p)
  pub tried : (k : ClusterKey) (p : ℕ) (x : View) → kept_view s k ≡ Some x
      → IsBound k p (so_far s i) → IsTriedOf (those k) s (so_far s i) k p (stand_of x p)
  pub covers : SeesCovers s i

-- ---- what trying leaves as it was

pub record SameButStands (old new : View) : Type 0 where
  pub rest : record new { partitions = old.partitions } ≡ old
  pub written : (p : ℕ) → written_of new p ≡ written_of old p

-- all but what is to be tried, and what nodes are known to hold of one another's records
pub record KeepsKnown (old new : Judge) : Type 0 where
  pub rest : record new { views = old.views; covers = old.covers } ≡ old
  pub views : (k : ClusterKey) → Both SameButStands (kept_view old k) (kept_view new k)

-- all but what nodes are known to hold of one another's records
abbrev pub KeepsStands : Judge → Judge → Type 0
KeepsStands old new = record new { covers = old.covers } ≡ old

-- what the node is known to hold of the member's records becomes this
abbrev pub NotesCover : ℕ → ℕ → ℕ → Cover → Judge → Judge → Type 0
NotesCover n m p c old new =
    (q : ℕ) → hash.get nat_eq new.covers q
    ≡ cond (nat_eq (cover_number n m p) q) (Some c) (hash.get nat_eq old.covers q)

-- ---- what a step of it says, by each number of lines by which the judge is known

-- each replica in the view holds the fold of the record
unfoldable pub JoinsRecord : Judge → ClusterKey → ℕ → ℕ → Type 0
JoinsRecord s k r p = (i : ℕ) (d : List ℕ) → SeesLines s i → IsKnownRecord s r p d
    → AllJoin k d (so_far s i)

-- some replica in it doesn't
unfoldable pub PartsRecord : Judge → ClusterKey → ℕ → ℕ → Type 0
PartsRecord s k r p = (i : ℕ) (d : List ℕ) → SeesLines s i → IsKnownRecord s r p d
    → AllJoin k d (so_far s i) → ⊥

-- the record is tried in the view
unfoldable pub TriesRecord : ClusterKey → ℕ → ℕ → Judge → Judge → Type 0
TriesRecord k r p old new =
    (i : ℕ) (d : List ℕ) (tried : ClusterKey → List ℕ → Bool) → SeesLines old i
    → IsKnownRecord old r p d → IsTrying old i tried
    → IsTrying new i (tried_with_record tried k d)

-- the record is tried in the node's view, where that isn't the other one
unfoldable pub TriesPresent : Option ClusterKey → Option ClusterKey → ℕ → ℕ → Judge → Judge → Type 0
TriesPresent present other r p old new =
    (i : ℕ) (d : List ℕ) (tried : ClusterKey → List ℕ → Bool) → SeesLines old i
    → IsKnownRecord old r p d → ((k : ClusterKey) → other ≡ Some k → tried k d ≡ true)
    → IsTrying old i tried → IsTrying new i (tried_with_present tried present d)

-- each of these records is one of the partition
abbrev pub AreRecordsOf : Records → List ℕ → ℕ → Type 0
AreRecordsOf records numbers p = (r : ℕ) → has_node numbers r ≡ true → IsRecordOf records r p

-- these records are tried in the node's view
unfoldable pub TriesRecords : Option ClusterKey → List ℕ → ℕ → Judge → Judge → Type 0
TriesRecords present numbers p old new =
    (i : ℕ) (tried : ClusterKey → List ℕ → Bool) → SeesLines old i
    → AreRecordsOf old.records numbers p → IsTrying old i tried
    → IsTrying new i (tried_with_records tried old.records present numbers)

-- each replica in the view holds the fold of each record of the partition, behind so many lines
unfoldable pub JoinsPartition : ℕ → ClusterKey → ℕ → Judge → Judge → Type 0
JoinsPartition i k p old new = SeesLines old i → SeesCovers old i
    → SeesCovers new i × ((d : List ℕ) → partition_of d ≡ p → AllJoin k d (so_far old i))

-- memory ran out, or some replica doesn't
unfoldable pub StopsAll : ℕ → ClusterKey → ℕ → Judge → Stop → Type 0
StopsAll i k p s stop.NoMemory = Unit {0}
StopsAll i k p s (stop.Breaks l) = SeesLines s i → SeesCovers s i
    → (l ≡ law.SettledJoin) × (d : List ℕ) × (partition_of d ≡ p) × (AllJoin k d (so_far s i) → ⊥)

-- all records of the partition are tried, behind so many lines
unfoldable pub TriesPartition : ℕ → ClusterKey → ℕ → Judge → Judge → Type 0
TriesPartition i k p old new = (tried : ClusterKey → List ℕ → Bool) → SeesLines old i
    → IsTrying old i tried → IsTrying new i (tried_with_partition tried k p)

-- all records of these partitions are tried, behind so many lines
unfoldable pub TriesPartitions : ℕ → ClusterKey → List ℕ → Judge → Judge → Type 0
TriesPartitions i k ps old new = (tried : ClusterKey → List ℕ → Bool) → SeesLines old i
    → IsTrying old i tried → IsTrying new i (tried_with_partitions tried k ps)

-- trying the record stops rightly
unfoldable pub StopsRecord : Judge → ℕ → ℕ → Stop → Type 0
StopsRecord s r p x =
    (i : ℕ) (d : List ℕ) (tried : ClusterKey → List ℕ → Bool) → SeesLines s i
    → IsKnownRecord s r p d → IsTrying s i tried → StopsParted x (so_far s i)

-- trying one of these records stops rightly
unfoldable pub StopsRecords : Judge → List ℕ → ℕ → Stop → Type 0
StopsRecords s numbers p x =
    (i : ℕ) (tried : ClusterKey → List ℕ → Bool) → SeesLines s i → AreRecordsOf s.records numbers p
    → IsTrying s i tried → StopsParted x (so_far s i)

-- trying stops rightly behind so many lines
unfoldable pub StopsTrying : Judge → ℕ → Stop → Type 0
StopsTrying s i x = (tried : ClusterKey → List ℕ → Bool) → SeesLines s i → IsTrying s i tried
    → StopsParted x (so_far s i)

-- What the auditor has of records, of what nodes hold and of what was written in views, is what the
-- lines say.
use Rattle.std.specs.Prelude.{◌≡◌, ℕ, ◌<◌, ◌≤◌, Bool, true, false, nat_eq, List, [], Option, Some, None, is_some, take, option_map, All, Contains, bytes_eq}
use Rattle.std.specs.List.{list_any}
use Rattle.std.specs.HashMap as hash
use Rattle.conflict_order.specs.declared.policy.Policy.{Policy}
use Rattle.conflict_order.specs.declared.version.Version.{Version}
use Rattle.cluster_types.specs.declared.cluster_key.ClusterKey.{ClusterKey}
use Rattle.cluster_types.specs.Partitions.{partition_of}
use Rattle.journal_lines.specs.declared.line.Line.{Line}
use Rattle.journal_lines.specs.declared.line.Line.TheVariants as line
use Rattle.journal_readings.specs.Lines.{has_node}
use Rattle.journal_readings.specs.Settings.{policy_of, nodes}
use Rattle.journal_readings.specs.Contents.{content, holds_any, applied}
use Rattle.journal_readings.specs.Entries.{applied_in}
use Rattle.audit_laws.specs.Lawful.{Lawful}
use Rattle.audit_state.specs.declared.copies.RecordChange.{RecordChange}
use Rattle.audit_core.specs.declared.judge.Judge.{Judge}
use Rattle.audit_state.specs.declared.records.Records.{Records}
use Rattle.audit_state.specs.declared.stores.Stores.{Stores}
use Rattle.audit_state.specs.declared.views.View.{View}
use Rattle.audit_state.specs.Histories.{AreBelow, value_after, value_now}
use Rattle.audit_core.specs.Holders.{AreHoldersCounted}
use Rattle.audit_core.specs.Known.{kept_view}
use Rattle.audit_state.specs.Places.{placed}
use Rattle.audit_state.specs.Records.{record_number, record_digest, newest_of, AreNumberedRecords}
use Rattle.audit_state.specs.Stores.{history_of, held_of, touched_of, holding_of, changes_of}
use Rattle.audit_state.specs.Written.{written_of}

-- ---- records by their numbers

-- the line brings a version of the record
abbrev pub brings : List ℕ → Line → Bool
brings d (line.Apply n k t e v) = bytes_eq e d
brings d (line.Merge n k e v) = bytes_eq e d
brings d _ = false

-- what is read of the record of a number, and nothing where there is none
abbrev pub read_of : (List ℕ → Option Version) → Option (List ℕ) → Option Version
read_of reading None = None
read_of reading (Some d) = reading d

pub record SeesRecords (s : Judge) (all j : List Line) : Type 0 where
  pub numbered : AreNumberedRecords s.records
  pub unbrought : (d : List ℕ) → record_number s.records d ≡ None → list_any (brings d) j ≡ false
  pub newest : (r : ℕ)
      → placed all (newest_of s.records r)
      ≡ read_of (λ d. applied (policy_of j) d j) (record_digest s.records r)
  pub holders : AreHoldersCounted s (nodes j)

-- ---- what nodes hold, now and before

-- what each node held after each number of lines up to i
pub record SeesContents (st : Stores) (rs : Records) (all : List Line) (by : Policy) (i : ℕ)
    : Type 0 where
  pub held : (n r a : ℕ) → a ≤ i
      → placed all (value_after (history_of st n r) a)
      ≡ read_of (λ d. content by n d (take a all)) (record_digest rs r)
  pub below : (n r : ℕ) → AreBelow i (history_of st n r)
  pub fresh : (n r : ℕ) → record_digest rs r ≡ None → history_of st n r ≡ []

-- no change of the record stands from the one number of lines on to the other
abbrev pub IsUnchanged : List RecordChange → ℕ → ℕ → ℕ → Type 0
IsUnchanged changes r a b =
    (x : RecordChange) → Contains changes x → x.number ≡ r → a ≤ x.line → x.line < b → ⊥

-- whether the record of the number is one of the partition
abbrev pub IsRecordOf : Records → ℕ → ℕ → Type 0
IsRecordOf rs r p = option_map partition_of (record_digest rs r) ≡ Some p

-- which records each copy has, and when they changed
pub record SeesCopies (st : Stores) (rs : Records) (all : List Line) (i : ℕ) : Type 0 where
  pub holding : (n p a : ℕ) → a ≤ i
      → is_some (value_after (holding_of st n p) a) ≡ holds_any n p (take a all)
  pub holding_below : (n p : ℕ) → AreBelow i (holding_of st n p)
  pub changes_below : (n p : ℕ) → All (λ x. x.line < i) (changes_of st n p)
  pub held : (n p r : ℕ) → IsRecordOf rs r p → is_some (value_now (history_of st n r)) ≡ true
      → has_node (held_of st n p) r ≡ true
  pub held_only : (n p r : ℕ) → has_node (held_of st n p) r ≡ true → IsRecordOf rs r p
  pub held_ever : (n p r : ℕ) → has_node (held_of st n p) r ≡ true
      → has_node (touched_of st n p) r ≡ true
  pub touched : (n p r : ℕ) → IsRecordOf rs r p → has_node (touched_of st n p) r ≡ false
      → history_of st n r ≡ []
  pub touched_only : (n p r : ℕ) → has_node (touched_of st n p) r ≡ true → IsRecordOf rs r p
  pub changes_only : (n p : ℕ) (x : RecordChange) → Contains (changes_of st n p) x
      → IsRecordOf rs x.number p
  pub changes : (n p r a b : ℕ) → IsRecordOf rs r p → a ≤ b → IsUnchanged (changes_of st n p) r a b
      → value_after (history_of st n r) a ≡ value_after (history_of st n r) b

-- ---- what was written in a view

-- the records that were applied in each view, and by their partitions
pub record SeesWritten (s : Judge) (all j : List Line) : Type 0 where
  pub applied : (k : ClusterKey) (x : View) (r : ℕ) → kept_view s k ≡ Some x
      → placed all (hash.get nat_eq x.applied r)
      ≡ read_of (λ d. applied_in (policy_of j) k d j) (record_digest s.records r)
  pub written : (k : ClusterKey) (x : View) (r : ℕ) → kept_view s k ≡ Some x
      → has_node x.written.items r ≡ is_some (hash.get nat_eq x.applied r)
  pub listed : (k : ClusterKey) (x : View) (r : ℕ) → kept_view s k ≡ Some x
      → is_some (hash.get nat_eq x.applied r) ≡ true
      → (p : ℕ) × IsRecordOf s.records r p × (has_node (written_of x p) r ≡ true)
  pub listed_only : (k : ClusterKey) (x : View) (p r : ℕ) → kept_view s k ≡ Some x
      → has_node (written_of x p) r ≡ true → IsRecordOf s.records r p

-- ---- all of it

pub record SeesStores (s : Judge) (i : ℕ) (all j : List Line) : Type 0 where
  pub records : SeesRecords s all j
  pub contents : SeesContents s.stores s.records all (policy_of j) i
  pub copies : SeesCopies s.stores s.records all i
  pub written : SeesWritten s all j

-- what is known after the first lines, this many, which keep the laws
pub record Knows (s : Judge) (i : ℕ) : Type 0 where
  pub lawful : Lawful (take i s.lines.now)
  pub policy : s.by ≡ policy_of (take i s.lines.now)
  pub stores : SeesStores s i s.lines.now (take i s.lines.now)

-- What holds of the scans that the client reads a partition with.
use Rattle.std.specs.Prelude.{◌≡◌, ℕ, suc, ◌<◌, ◌==◌, Bool, true, false, if◌then◌else◌, List, [], ◌∷◌, length, take, drop, Option, Some, None, slice_get, bytes_eq, All, AllPairs}
use Rattle.std.specs.declared.cmp.Ordering.TheVariants.{Less}
use Rattle.std.specs.List.{list_any}
use Rattle.std.specs.Ordering.{nat_cmp}
use Rattle.std.specs.Cmp.Lexicographic.{slice_cmp}
use Rattle.conflict_order.specs.declared.policy.Policy.{Policy}
use Rattle.conflict_order.specs.declared.version.Version.{Version}
use Rattle.conflict_order.specs.Contents.{Record}
use Rattle.cluster_types.specs.Endpoints.{client}
use Rattle.cluster_types.specs.declared.cluster_key.ClusterKey.{ClusterKey}
use Rattle.cluster_types.specs.Partitions.{partition_of}
use Rattle.wire_messages.specs.declared.message.Message.TheVariants as message
use Rattle.wire_messages.specs.declared.scan.ScanPage.{ScanPage}
use Rattle.journal_lines.specs.declared.line.Line.{Line}
use Rattle.journal_lines.specs.declared.line.Line.TheVariants as line
use Rattle.journal_readings.specs.Settings.{policy_of}
use Rattle.journal_readings.specs.Entries.{fold_of}
use Rattle.journal_readings.specs.Replies.{arrival_at, before_sending}

-- ---- records

-- the records of the scan that the first of the lines list
abbrev pub listed : ℕ → List Line → List Record
listed s [] = []
listed s (line.Record q d v ∷ ls) = if q == s then (d, v) ∷ listed s ls else []
listed s (_ ∷ ls) = []

-- the version that the records have of the digest
abbrev pub found : List Record → List ℕ → Option Version
found [] d = None
found (r ∷ rs) d = if bytes_eq r.0 d then Some r.1 else found rs d

-- the records are of the partition, in rising order of their digests
pub record AreOfPartition (p : ℕ) (rs : List Record) : Type 0 where
  pub rising : AllPairs (λ a b. slice_cmp nat_cmp a.0 b.0 ≡ Less) rs
  pub placed : All (λ r. partition_of r.0 ≡ p) rs

-- of each record of the partition they have what its fold in the view is, a tombstone too, and nothing where that is
-- nothing
abbrev pub AreFolds : Policy → ClusterKey → ℕ → List Line → List Record → Type 0
AreFolds by k p lines rs =
    (d : List ℕ) → partition_of d ≡ p → found rs d ≡ fold_of by k d lines

-- ---- pages

-- the line takes a page of the scan: another is to come, or it was the last
abbrev pub takes_page : ℕ → Line → Bool
takes_page s (line.Page q count) = q == s
takes_page s (line.Scanned q n k p count) = q == s
takes_page s _ = false

-- at that place a page reaches the client
abbrev pub Brings : List Line → ℕ → ℕ → ScanPage → Type 0
Brings j i m page =
    arrival_at j i ≡ Some (record { from = m; to = client; message = message.ScanPage page })

-- and is taken there: the line that says it stands directly behind
pub record PageTaken (j : List Line) (i s m : ℕ) (page : ScanPage) : Type 0 where
  pub brings : Brings j i m page
  pub scan : page.scan ≡ s
  pub behind : Line
  pub stands : slice_get j (suc i) ≡ Some behind
  pub takes : takes_page s behind ≡ true

abbrev pub is_rescan : ℕ → Line → Bool
is_rescan s (line.Rescan q) = q == s
is_rescan s _ = false

-- the first place is before the other, and the scan doesn't begin anew between them
pub record GoesOn (j : List Line) (s o i : ℕ) : Type 0 where
  pub earlier : o < i
  pub steady : list_any (is_rescan s) (drop o (take i j)) ≡ false

-- ---- a scan

-- the page that is taken at that place is one of node n in the view, and the records were those of the whole partition
-- as it was sent
pub record PageAgrees (j : List Line) (o m n p : ℕ) (k : ClusterKey) (page : ScanPage)
    (rs : List Record) : Type 0 where
  pub sender : m ≡ n
  pub key : page.key ≡ k
  pub before : List Line
  pub sent : before_sending j o ≡ Some before
  pub folds : AreFolds (policy_of j) k p before rs

-- the line directly before that place brings the scan's last page
pub record EndsWithPage (j : List Line) (i s n : ℕ) : Type 0 where
  pub arrival : ℕ
  pub directly : suc arrival ≡ i
  pub page : ScanPage
  pub brings : Brings j arrival n page
  pub scan : page.scan ≡ s
  pub last : page.more ≡ false

-- the client asked somebody for a page of the partition for the scan
pub record IsAsked (lines : List Line) (s p : ℕ) : Type 0 where
  pub place : ℕ
  pub receiver : ℕ
  pub asks : slice_get lines place ≡ Some (line.Scan s receiver p)

-- these records, which the line of that place has behind it, are the whole partition as it was in the view when each
-- page of theirs was sent
pub record IsWhole (j : List Line) (i s n p count : ℕ) (k : ClusterKey) (rs : List Record)
    : Type 0 where
  pub counted : length rs ≡ count
  pub placed : AreOfPartition p rs
  pub asked : IsAsked (take i j) s p
  pub ended : EndsWithPage j i s n
  pub agrees : (o m : ℕ) (page : ScanPage) → PageTaken j o s m page → GoesOn j s o i
      → PageAgrees j o m n p k page rs

-- a scan that comes to its end has the records of its partition at one moment: as the last page was sent, and as they
-- still were what they had been when each of the other pages was sent
pub record ScansAreWhole (j : List Line) : Type 0 where
  pub whole : (i s n p count : ℕ) (k : ClusterKey)
      → slice_get j i ≡ Some (line.Scanned s n k p count)
      → IsWhole j i s n p count k (listed s (drop (suc i) j))

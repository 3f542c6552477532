-- Pages that nodes cut from what they hold of a partition, one after another.
use Rattle.std.specs.Prelude.{◌≡◌, ℕ, List, [], ◌∷◌, None, map}
use Rattle.conflict_order.specs.Contents.{Record}
use Rattle.cluster_types.specs.declared.cluster_key.ClusterKey.{ClusterKey}
use Rattle.cluster_types.specs.Copies.{digests_of}
use Rattle.wire_messages.specs.declared.scan.ScanPage.{ScanPage}
use Rattle.node_rules.specs.Batches.{records_of}
use Rattle.node_rules.specs.Facts.{Facts, view_key}
use Rattle.node_rules.specs.Stamps.{applies_at}
use Rattle.request_rules.specs.declared.scanning.Scanning.{Scanning}
use Rattle.request_rules.specs.Pages.{page_of, scan_page}
use Rattle.request_rules.specs.Scans.{going_on, position}

-- the digests of the records
abbrev pub digests_in : List Record → List (List ℕ)
digests_in rs = map (λ r. r.0) rs

-- the records of the partition that the node holds, in rising order
abbrev pub records_held : Facts → ℕ → List Record
records_held f p = records_of f.store.content (digests_of f.store.content p)

-- the page of that scan, with so many records at most, that the node has for where the scan has come to
abbrev pub page_behind : Facts → ℕ → ℕ → ℕ → Scanning → ScanPage
page_behind f s p most x = scan_page f s p (position x) (page_of f p (position x) most)

-- the scan of that partition from its start
abbrev pub begun_at : ℕ → Scanning
begun_at p = record { partition = p; first = None; records = [] }

-- the scan once it has taken a page of that node in each of the states, one after another
abbrev pub having_read : ℕ → ℕ → ℕ → Scanning → List Facts → Scanning
having_read from s most x [] = x
having_read from s most x (f ∷ fs) =
    having_read from s most (going_on from (page_behind f s x.partition most x) x) fs

-- the node holds these records of the partition, and tells as much of them
pub record ShowsRecords (rs : List Record) (k : ClusterKey) (count p : ℕ) (f : Facts) : Type 0 where
  pub held : records_held f p ≡ rs
  pub key : view_key f ≡ k
  pub writes : applies_at f.writes p ≡ count

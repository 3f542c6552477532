-- The client's scans: a partition is read page by page, from one node in one view, as long as nothing is written there.
use Rattle.std.specs.Prelude.{◌≡◌, ℕ, ◌+◌, ◌==◌, ◌&&◌, Bool, true, false, nat_lt, List, [], ◌∷◌, ◌++◌, Option, Some, None, bytes_eq, map, take, drop, length, if◌then◌else◌}
use Rattle.conflict_order.specs.Contents.{Record}
use Rattle.cluster_types.specs.Endpoints.{client}
use Rattle.cluster_types.specs.ClusterKeys.{same_key}
use Rattle.journal_lines.specs.declared.line.Line.{Line}
use Rattle.journal_lines.specs.declared.line.Line.TheVariants as line
use Rattle.wire_messages.specs.declared.message.Message.TheVariants as message
use Rattle.wire_messages.specs.declared.scan.ScanPage.{ScanPage}
use Rattle.wire_messages.specs.declared.scan.ScanRefusal.{ScanRefusal}
use Rattle.node_rules.specs.Client.{Tables, node_for}
use Rattle.node_rules.specs.Effects.{Effects, nothing, lines_only, to_one}
use Rattle.request_rules.specs.declared.scanning.FirstPage.{FirstPage}
use Rattle.request_rules.specs.declared.scanning.Scanning.{Scanning}
use Rattle.request_rules.specs.declared.scanning.ScanStep.{ScanStep}
use Rattle.request_rules.specs.declared.scanning.ScanStep.TheVariants as step
use Rattle.request_rules.specs.ByNumber.{item_under, changing_item, without_number}
use Rattle.request_rules.specs.Requests.{Scans}

-- ---- what is known of a scan

-- the digest of the last of the records, if there are any
abbrev pub last_digest : List Record → Option (List ℕ)
last_digest [] = None
last_digest (r ∷ []) = Some r.0
last_digest (r ∷ q ∷ rs) = last_digest (q ∷ rs)

-- how far a scan has come: it has all records up to that digest, or it is at the partition's start
abbrev pub position : Scanning → Option (List ℕ)
position x = last_digest x.records

-- ---- what a page is to a scan

-- whether both are the start, or one digest
abbrev pub same_position : Option (List ℕ) → Option (List ℕ) → Bool
same_position None None = true
same_position None (Some b) = false
same_position (Some a) None = false
same_position (Some a) (Some b) = bytes_eq a b

-- what the page tells of itself
abbrev pub page_front : ℕ → ScanPage → FirstPage
page_front from page = record { from = from; key = page.key; writes = page.writes }

-- whether two pages are of one node, in one view, with as many writes
abbrev pub are_of_one_content : FirstPage → FirstPage → Bool
are_of_one_content a b = (a.from == b.from) && (same_key a.key b.key && (a.writes == b.writes))

-- whether the page can stand with the scan's first one, if there is one
abbrev pub stands_with : FirstPage → Option FirstPage → Bool
stands_with page None = true
stands_with page (Some first) = are_of_one_content first page

-- all records of the scan with those of the page
abbrev pub records_after : Scanning → ScanPage → List Record
records_after x page = x.records ++ page.records

-- the step of a page that goes on with the scan
abbrev pub step_on : Scanning → ScanPage → ScanStep
step_on x page =
    if page.more then step.More (length page.records) else step.Whole (records_after x page)

-- the step of a page that begins where the scan has come to
abbrev pub step_here : Scanning → ℕ → ScanPage → ScanStep
step_here x from page =
    if stands_with (page_front from page) x.first then step_on x page else step.Again

-- the step of a page from that node, if its scan is open
abbrev pub step_for : Option Scanning → ℕ → ScanPage → ScanStep
step_for None from page = step.Spent
step_for (Some x) from page =
    if same_position page.after (position x) then step_here x from page else step.Spent

-- what a page from that node is
abbrev pub scan_step : Scans → ℕ → ScanPage → ScanStep
scan_step ss from page = step_for (item_under ss.running page.scan) from page

-- the scan has the first so many of those records, and the page is the next part of them, with so many at most
pub record IsNextPage (rs : List Record) (so_far most from : ℕ) (x : Scanning) (page : ScanPage) : Type 0 where
  pub records : x.records ≡ take so_far rs
  pub begins : page.after ≡ position x
  pub one_content : stands_with (page_front from page) x.first ≡ true
  pub part : page.records ≡ take most (drop so_far rs)
  pub more : page.more ≡ nat_lt most (length (drop so_far rs))

-- ---- what changes

-- a scan of the partition begins, with the next number
abbrev pub with_new_scan : Scans → ℕ → Scans
with_new_scan ss p = record {
  given = ss.given + 1;
  running =
      ss.running ++ (ss.given + 1, record { partition = p; first = None; records = [] }) ∷ [];
}

-- what a line adds: an asking of a number that wasn't given yet begins its scan
abbrev pub note_scan : Scans → Line → Scans
note_scan ss (line.Scan s n p) = if nat_lt ss.given s then with_new_scan ss p else ss
note_scan ss _ = ss

-- the first page of a scan that has none yet
abbrev pub first_with : FirstPage → Option FirstPage → FirstPage
first_with page None = page
first_with page (Some first) = first

-- the scan with the records of a page from that node
abbrev pub going_on : ℕ → ScanPage → Scanning → Scanning
going_on from page x = record x {
  first = Some (first_with (page_front from page) x.first);
  records = records_after x page;
}

-- the scan at the partition's start again
abbrev pub begun_again : Scanning → Scanning
begun_again x = record x { first = None; records = [] }

-- a change of the scan of that number
abbrev pub changing_scan : Scans → ℕ → (Scanning → Scanning) → Scans
changing_scan ss s change = record ss { running = changing_item ss.running s change }

-- the scan of that number is closed
abbrev pub without_scan : Scans → ℕ → Scans
without_scan ss s = record ss { running = without_number ss.running s }

-- the page's step is taken
abbrev pub taking_step : Scans → ℕ → ScanPage → ScanStep → Scans
taking_step ss from page step.Spent = ss
taking_step ss from page step.Again = changing_scan ss page.scan begun_again
taking_step ss from page (step.More count) = changing_scan ss page.scan (going_on from page)
taking_step ss from page (step.Whole records) = without_scan ss page.scan

-- a page from that node reached the client
abbrev pub took_page : Scans → ℕ → ScanPage → Scans
took_page ss from page = taking_step ss from page (scan_step ss from page)

-- ---- what is due

-- the client asks that node for the page of the scan behind the position
abbrev pub page_asked_for : ℕ → ℕ → Option (List ℕ) → ℕ → Effects
page_asked_for s p after n = record {
  lines = line.Scan s n p ∷ [];
  sends = to_one n (message.ScanAsk s p after);
}

-- a scan begins at the node that the tables name, or at none
abbrev pub scanning_named : Scans → ℕ → Option ℕ → Effects
scanning_named ss p None = lines_only (line.NoMap p ∷ [])
scanning_named ss p (Some n) = page_asked_for (ss.given + 1) p None n

-- what is due where a scan of the partition is to begin: without a table none does
abbrev pub scanning : Tables → Scans → ℕ → Effects
scanning tables ss p = scanning_named ss p (node_for tables p)

-- the scan goes on at the node that the tables name
abbrev pub asked_on : ℕ → Scanning → Option ℕ → Effects
asked_on s x None = nothing
asked_on s x (Some n) = page_asked_for s x.partition (position x) n

-- the scan of that number, if it is open, goes on
abbrev pub scanning_on_if : Tables → ℕ → Option Scanning → Effects
scanning_on_if tables s None = lines_only (line.NoScan s ∷ [])
scanning_on_if tables s (Some x) = asked_on s x (node_for tables x.partition)

-- what is due where a scan is to go on, also where its last asking or its page was lost. A scan that is open went by a
-- table, so there is one
abbrev pub scanning_on : Tables → Scans → ℕ → Effects
scanning_on tables ss s = scanning_on_if tables s (item_under ss.running s)

-- the partition of the scan, if it is open
abbrev pub partition_of_scan : Option Scanning → ℕ
partition_of_scan None = 0
partition_of_scan (Some x) = x.partition

-- a line for each record of the scan
abbrev pub record_lines : ℕ → List Record → List Line
record_lines s rs = map (λ r. line.Record s r.0 r.1) rs

-- the lines of a page from that node, of a scan of that partition
abbrev pub page_lines : ℕ → ℕ → ScanPage → ScanStep → List Line
page_lines p from page step.Spent = line.Spent client ∷ []
page_lines p from page step.Again = line.Rescan page.scan ∷ []
page_lines p from page (step.More count) = line.Page page.scan count ∷ []
page_lines p from page (step.Whole rs) =
    line.Scanned page.scan from page.key p (length rs) ∷ record_lines page.scan rs

-- what is due of a ScanPage that reaches the client from that node
abbrev pub on_page : Scans → ℕ → ScanPage → List Line
on_page ss from page =
    page_lines (partition_of_scan (item_under ss.running page.scan)) from page
    (scan_step ss from page)

-- the refusal, where the scan is open
abbrev pub unscanned_if : ℕ → ScanRefusal → Option Scanning → List Line
unscanned_if s cause None = line.Spent client ∷ []
unscanned_if s cause (Some x) = line.Unscanned s cause ∷ []

-- what is due of a ScanNo that reaches the client. A scan that is open keeps its position
abbrev pub on_no_page : Scans → ℕ → ScanRefusal → List Line
on_no_page ss s cause = unscanned_if s cause (item_under ss.running s)

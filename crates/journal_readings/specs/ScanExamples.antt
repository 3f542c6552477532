-- Short journals of a scan. Their pages have one record, where those of a node have up to sixty-four.
use Rattle.std.specs.Prelude.{ℕ, suc, Bool, true, false, List, [], ◌∷◌, ◌++◌, replicate, Option, Some, None}
use Rattle.conflict_order.specs.Contents.{Record}
use Rattle.conflict_order.specs.declared.want.Action.TheVariants as action
use Rattle.conflict_order.specs.declared.version.Version.{Version}
use Rattle.wire_messages.specs.declared.message.Message.TheVariants as message
use Rattle.wire_messages.specs.declared.scan.ScanPage.{ScanPage}
use Rattle.wire_messages.specs.Spelling.{spelling}
use Rattle.journal_lines.specs.declared.line.Line.{Line}
use Rattle.journal_lines.specs.declared.line.Line.TheVariants as line
use Rattle.journal_readings.specs.Examples.{digest, second, key, version, one, alone}

-- a node that is alone writes two records of a partition
abbrev pub two_records : List Line
two_records =
    line.Node 1 None ∷ alone 1 (key 1 1) one (version 0 1 97)
    ++ line.Opened 1 (key 1 1) 2 second action.Put
    ∷ line.Apply 1 (key 1 1) 2 second (version 0 1 97) ∷ line.Done 1 (key 1 1) 2 ∷ []

-- the first of them is written anew
abbrev pub overwritten : List Line
overwritten =
    line.Opened 1 (key 1 1) 3 digest action.Put ∷ line.Apply 1 (key 1 1) 3 digest (version 0 2 98)
    ∷ line.Done 1 (key 1 1) 3 ∷ []

-- the page behind that position, as the partition had so many writes
abbrev pub page : Option (List ℕ) → ℕ → List Record → Bool → ScanPage
page after writes records more = record {
  key = key 1 1;
  scan = 1;
  after = after;
  writes = writes;
  records = records;
  more = more;
}

-- the first of two pages, with that version of the first record
abbrev pub first_page : ℕ → Version → ScanPage
first_page writes v = page None writes ((digest, v) ∷ []) true

abbrev pub last_page : ℕ → ScanPage
last_page writes = page (Some digest) writes ((second, version 0 1 97) ∷ []) false

-- the node sends the page, which comes
abbrev pub sent_page : ℕ → ScanPage → List Line
sent_page number p =
    line.Sent number 1 0 (spelling (message.ScanPage p)) ∷ line.Deliver number 1 0 ∷ []

-- the client asks for it before, by the message of that number
abbrev pub asked_page : ℕ → ScanPage → List Line
asked_page number p =
    line.Scan 1 1 4095 ∷ line.Sent number 0 1 (spelling (message.ScanAsk 1 4095 p.after))
    ∷ line.Deliver number 0 1 ∷ sent_page (suc number) p

-- the scan ends with two records
abbrev pub both_listed : Version → List Line
both_listed v =
    line.Scanned 1 1 (key 1 1) 4095 2 ∷ line.Record 1 digest v
    ∷ line.Record 1 second (version 0 1 97) ∷ []

-- ---- a scan that begins anew

-- a record is written behind the first page, so the second is of no use; then both are read
abbrev pub scanned_anew : List Line
scanned_anew =
    two_records ++ asked_page 1 (first_page 2 (version 0 1 97)) ++ line.Page 1 1 ∷ overwritten
    ++ asked_page 3 (last_page 3) ++ line.Rescan 1 ∷ asked_page 5 (first_page 3 (version 0 2 98))
    ++ line.Page 1 1 ∷ asked_page 7 (last_page 3) ++ both_listed (version 0 2 98)

-- ---- what goes wrong

-- the page behind the write is taken beside the one before it
abbrev pub mixed : List Line
mixed =
    two_records ++ asked_page 1 (first_page 2 (version 0 1 97)) ++ line.Page 1 1 ∷ overwritten
    ++ asked_page 3 (last_page 3) ++ both_listed (version 0 1 97)

-- both records, in one page
abbrev pub records_of_both : List Record
records_of_both = (digest, version 0 1 97) ∷ (second, version 0 1 97) ∷ []

abbrev pub both_sent : List Line
both_sent = two_records ++ asked_page 1 (page None 2 records_of_both false)

-- the second record isn't listed
abbrev pub lacking : List Line
lacking =
    both_sent ++ line.Scanned 1 1 (key 1 1) 4095 1 ∷ line.Record 1 digest (version 0 1 97) ∷ []

-- more records are counted than are listed
abbrev pub miscounted : List Line
miscounted =
    both_sent ++ line.Scanned 1 1 (key 1 1) 4095 3 ∷ line.Record 1 digest (version 0 1 97)
    ∷ line.Record 1 second (version 0 1 97) ∷ []

-- the records are listed in falling order
abbrev pub disordered : List Line
disordered =
    both_sent ++ line.Scanned 1 1 (key 1 1) 4095 2 ∷ line.Record 1 second (version 0 1 97)
    ∷ line.Record 1 digest (version 0 1 97) ∷ []

-- a digest of the first partition
abbrev pub elsewhere : List ℕ
elsewhere = replicate 20 0

-- a record of another partition is listed
abbrev pub foreign : List Line
foreign =
    both_sent ++ line.Scanned 1 1 (key 1 1) 4095 3 ∷ line.Record 1 elsewhere (version 0 1 97)
    ∷ line.Record 1 digest (version 0 1 97) ∷ line.Record 1 second (version 0 1 97) ∷ []

-- nobody asked for a page of the partition
abbrev pub unsought : List Line
unsought =
    two_records ++ sent_page 1 (page None 2 records_of_both false)
    ++ both_listed (version 0 1 97)

-- the scan ends with a page that isn't the last
abbrev pub unfinished : List Line
unfinished =
    two_records ++ asked_page 1 (page None 2 records_of_both true)
    ++ both_listed (version 0 1 97)

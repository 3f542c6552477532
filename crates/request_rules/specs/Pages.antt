-- Pages of a partition, which a node sends the client.
use Rattle.std.specs.Prelude.{ℕ, Bool, true, false, nat_lt, List, Option, Some, None, find, filter, take, length}
use Rattle.std.specs.Ordering.{nat_cmp, is_lt}
use Rattle.std.specs.Cmp.Lexicographic.{slice_cmp}
use Rattle.cluster_types.specs.Endpoints.{client}
use Rattle.cluster_types.specs.Copies.{is_of, digests_of}
use Rattle.journal_lines.specs.declared.refusal.Refusal.{Refusal}
use Rattle.journal_lines.specs.declared.refusal.Refusal.TheVariants as refusal
use Rattle.wire_messages.specs.declared.message.Message.{Message}
use Rattle.wire_messages.specs.declared.message.Message.TheVariants as message
use Rattle.wire_messages.specs.declared.scan.ScanPage.{ScanPage}
use Rattle.wire_messages.specs.declared.scan.ScanRefusal.{ScanRefusal}
use Rattle.wire_messages.specs.declared.scan.ScanRefusal.TheVariants as unserved
use Rattle.node_rules.specs.Batches.{records_of}
use Rattle.node_rules.specs.Effects.{Effects, sends_only, to_one}
use Rattle.node_rules.specs.Facts.{Facts, view_key, list_at}
use Rattle.node_rules.specs.Requests.{map_refusal}
use Rattle.node_rules.specs.Stamps.{applies_at}
use Rattle.node_rules.specs.Standing.{acts, named, knows_settled}
use Rattle.node_rules.specs.Transactions.{Transaction}
use Rattle.request_rules.specs.declared.scanning.Page.{Page}

-- ---- why a node has no page

-- the transaction, if there is one, is open on the partition
abbrev pub open_refusal : Option Transaction → Option ScanRefusal
open_refusal None = None
open_refusal (Some t) = Some (unserved.Open t.number)

-- the refusal of a node that acts, where it knows the partition settled or doesn't
abbrev pub settled_refusal : Facts → ℕ → Bool → Option ScanRefusal
settled_refusal f p true = open_refusal (find (λ t. is_of p t.digest) f.transactions.running)
settled_refusal f p false = Some unserved.NotSettled

-- the refusal of a node with a map, where it acts or doesn't
abbrev pub acting_scan_refusal : Facts → ℕ → Bool → Option ScanRefusal
acting_scan_refusal f p true = settled_refusal f p (knows_settled f p)
acting_scan_refusal f p false = Some (unserved.NotMaster (named f (list_at f p) p))

-- the refusal, by why the node has no map. A node that is up lacks its view or a row, and names no other cause
abbrev pub scan_refusal_after : Facts → ℕ → Option Refusal → Option ScanRefusal
scan_refusal_after f p None = acting_scan_refusal f p (acts f (list_at f p) p)
scan_refusal_after f p (Some (refusal.Exchanging m)) = Some (unserved.Exchanging m)
scan_refusal_after f p (Some refusal.NoView) = Some unserved.NoView
scan_refusal_after f p (Some refusal.Down) = Some unserved.NoView
scan_refusal_after f p (Some (refusal.NotMaster a)) = Some (unserved.NotMaster a)
scan_refusal_after f p (Some (refusal.Busy t)) = Some (unserved.Open t)

-- why a node that is up has no page of the partition: first what keeps it from having a map, then that it doesn't act
-- on the partition, then that it doesn't know the partition settled, and then the first transaction that is open on it
abbrev pub scan_refusal : Facts → ℕ → Option ScanRefusal
scan_refusal f p = scan_refusal_after f p (map_refusal f)

-- ---- a page

-- the most records of a page
abbrev pub page_limit : ℕ
page_limit = 64

-- those of the digests that are above the one, or all
abbrev pub digests_behind : Option (List ℕ) → List (List ℕ) → List (List ℕ)
digests_behind None ds = ds
digests_behind (Some d) ds = filter (λ e. is_lt (slice_cmp nat_cmp d e)) ds

-- the digests that the node holds of the partition above the one, in rising order
abbrev pub digests_left : Facts → ℕ → Option (List ℕ) → List (List ℕ)
digests_left f p after = digests_behind after (digests_of f.store.content p)

-- the page of at most so many records of those digests
abbrev pub page_from : Facts → List (List ℕ) → ℕ → Page
page_from f ds most = record {
  records = records_of f.store.content (take most ds);
  more = nat_lt most (length ds);
}

-- the least records of the partition above the digest that the node holds, at most so many
abbrev pub page_of : Facts → ℕ → Option (List ℕ) → ℕ → Page
page_of f p after most = page_from f (digests_left f p after) most

-- ---- what is due of an asking

-- the page of that scan as the client gets it, with how many writes of the partition the node applied in its view
abbrev pub scan_page : Facts → ℕ → ℕ → Option (List ℕ) → Page → ScanPage
scan_page f s p after page = record {
  key = view_key f;
  scan = s;
  after = after;
  writes = applies_at f.writes p;
  records = page.records;
  more = page.more;
}

-- the refusal, or a page where there is none
abbrev pub scan_answer : Facts → ℕ → ℕ → Option (List ℕ) → Option ScanRefusal → Message
scan_answer f s p after (Some cause) = message.ScanNo s cause
scan_answer f s p after None =
    message.ScanPage (scan_page f s p after (page_of f p after page_limit))

-- what is due of a ScanAsk: its answer goes to the client
abbrev pub on_scan_ask : Facts → ℕ → ℕ → Option (List ℕ) → Effects
on_scan_ask f s p after = sends_only (to_one client (scan_answer f s p after (scan_refusal f p)))

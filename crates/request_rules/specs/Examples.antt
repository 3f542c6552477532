-- Values of worked examples: two nodes whose views joined, a node that is alone, and the client.
use Rattle.std.specs.Prelude.{ℕ, List, [], ◌∷◌, ◌++◌, Option, Some, None, replicate, map, Bool, true, false}
use Rattle.std.specs.List.{range_with_len}
use Rattle.std.specs.FinMap as finite
use Rattle.conflict_order.specs.declared.version.Version.{Version}
use Rattle.conflict_order.specs.declared.version.Body.TheVariants.{Value}
use Rattle.conflict_order.specs.declared.want.Want.TheVariants as want
use Rattle.conflict_order.specs.declared.policy.Policy.TheVariants.{Time}
use Rattle.conflict_order.specs.Contents.{Record}
use Rattle.cluster_types.specs.declared.copy_state.CopyState.TheVariants.{Whole}
use Rattle.cluster_types.specs.Members.{plain_role, plain_member}
use Rattle.wire_messages.specs.declared.message.Message.{Message}
use Rattle.wire_messages.specs.declared.message.Message.TheVariants as message
use Rattle.wire_messages.specs.declared.reply.ReplyBody.TheVariants as reply
use Rattle.wire_messages.specs.declared.scan.ScanPage.{ScanPage}
use Rattle.node_rules.specs.declared.member_row.MemberRow.{MemberRow}
use Rattle.node_rules.specs.Copies.{empty_store}
use Rattle.node_rules.specs.Examples.{key, two, row_of}
use Rattle.node_rules.specs.Facts.{Facts, fresh}
use Rattle.node_rules.specs.Messages.{client}
use Rattle.request_rules.specs.declared.call.Call.{Call}
use Rattle.request_rules.specs.declared.passed.Passed.{Passed}
use Rattle.request_rules.specs.declared.taken.Asker.{Asker}
use Rattle.request_rules.specs.declared.taken.Outcome.TheVariants as outcome
use Rattle.request_rules.specs.Requests.{NodeRequests, Calls, Scans, no_requests}
use Rattle.request_rules.specs.Scans.{took_page}

-- a digest of partition 4095
abbrev pub last_digest : List ℕ
last_digest = 255 ∷ 255 ∷ replicate 18 0

-- the partition of that digest
abbrev pub last_partition : ℕ
last_partition = 4095

-- the version of that time and generation with that byte
abbrev pub version_of : ℕ → ℕ → Version
version_of generation byte = record { lut = 0; generation = generation; body = Value (byte ∷ []) }

-- ---- two nodes whose views joined

-- each was alone in a view of its own and wrote the digest there; node 1 wrote the byte 97, and node 2 the byte 98
abbrev pub joined_rows : List MemberRow
joined_rows =
    row_of 1 last_partition (Whole (key 1 1) 1) ∷ row_of 2 last_partition (Whole (key 1 2) 1) ∷ []

-- such a node in their common view, whose exchange it has finished
abbrev pub joined : ℕ → ℕ → ℕ → Facts
joined me other byte = record (fresh me plain_role (other ∷ []) 2 Time) {
  exchange =
      record {
        view = Some (record { key = key 2 2; members = two });
        rows = joined_rows;
        exchanged = true;
      };
  store = record (empty_store Time) {
    content = finite.insert finite.empty last_digest (version_of 1 byte);
  };
}

abbrev pub joined_one : Facts
joined_one = joined 1 2 97

abbrev pub joined_two : Facts
joined_two = joined 2 1 98

-- the read that node 1 passes on, and its message
abbrev pub passed_read : Passed
passed_read = record { digest = last_digest; want = want.Get; to = 2 }

abbrev pub proxy_of_read : Message
proxy_of_read = message.Proxy (key 2 2) 1 last_digest want.Get

-- node 1 after it passed the read on, and with nothing that waits
abbrev pub having_passed : NodeRequests
having_passed = record no_requests {
  passed = record { given = 1; waiting = (1, passed_read) ∷ [] };
}

abbrev pub having_reply : NodeRequests
having_reply = record no_requests { passed = record { given = 1; waiting = [] } }

-- node 1 as an asker
abbrev pub first_of_one : Asker
first_of_one = record { from = 1; number = 1 }

-- node 2 once it took the read up, and once it replied to it
abbrev pub having_read : NodeRequests
having_read = record no_requests {
  taken = record { asker = first_of_one; outcome = outcome.Open 1 } ∷ [];
}

abbrev pub having_replied : NodeRequests
having_replied = record no_requests {
  taken =
      record { asker = first_of_one; outcome = outcome.Kept (reply.Found (version_of 1 98)) } ∷ [];
}

-- node 2 as it waits for the answer of node 1 to the read
abbrev pub reading_two : Facts
reading_two = record joined_two {
  transactions = record {
    opened = 1;
    running =
        record {
          number = 1;
          digest = last_digest;
          want = want.Get;
          asked = 1 ∷ [];
          best = Some (version_of 1 98);
          awaiting = 1 ∷ [];
          applied = None;
        }
        ∷ [];
  };
}

-- ---- a node that is alone, and the client

-- node 1 in the view 1.1 of its own
abbrev pub alone : Facts
alone = record (fresh 1 plain_role [] 2 Time) {
  exchange =
      record {
        view = Some (record { key = key 1 1; members = plain_member 1 ∷ [] });
        rows = record { node = 1; row = [] } ∷ [];
        exchanged = true;
      };
}

-- the client's first request: a put of the byte 97
abbrev pub first_put : Call
first_put = record { digest = last_digest; want = want.Put (97 ∷ []) }

abbrev pub calls_with_put : Calls
calls_with_put = record { given = 1; waiting = (1, first_put) ∷ [] }

abbrev pub calls_without_put : Calls
calls_without_put = record { given = 1; waiting = [] }

-- so many requests of the client are open
abbrev pub open_calls : ℕ → Calls
open_calls n = record { given = n; waiting = map (λ q. (q, first_put)) (range_with_len 1 n) }

-- the client as an asker
abbrev pub first_of_client : Asker
first_of_client = record { from = client; number = 1 }

-- the node once it replied to that request
abbrev pub having_put : NodeRequests
having_put = record no_requests {
  taken = record { asker = first_of_client; outcome = outcome.Kept reply.Done } ∷ [];
}

-- ---- scans

-- the records with these last bytes of their digests, all with the first version of the byte 118
abbrev pub record_at : ℕ → Record
record_at n = (255 ∷ 255 ∷ (replicate 17 0 ++ n ∷ []), version_of 1 118)

abbrev pub records_at : ℕ → ℕ → List Record
records_at from count = map record_at (range_with_len from count)

-- the client's scan of that partition, before its first page came
abbrev pub scan_begun : Scans
scan_begun = record {
  given = 1;
  running =
      (1, record { partition = last_partition; first = None; records = [] }) ∷ [];
}

-- a page of node 1 in its view 1.1, which has had so many writes there
abbrev pub page_with : ℕ → Option (List ℕ) → List Record → Bool → ScanPage
page_with writes after records more = record {
  key = key 1 1;
  scan = 1;
  after = after;
  writes = writes;
  records = records;
  more = more;
}

-- the first page of 65 records, and the second
abbrev pub first_page : ℕ → ScanPage
first_page writes = page_with writes None (records_at 0 64) true

abbrev pub second_page : ℕ → ScanPage
second_page writes = page_with writes (Some (record_at 63).0) (records_at 64 1) false

-- the scan once the first page came
abbrev pub having_page : Scans
having_page = took_page scan_begun 1 (first_page 65)

-- What a line adds to what is kept of requests.
use Rattle.std.specs.Prelude.{ℕ, Bool, true, List, [], ◌∷◌, Option, Some, None, is_some}
use Rattle.conflict_order.specs.declared.want.Want.{Want}
use Rattle.cluster_types.specs.Changed.{at_number as changed_at}
use Rattle.journal_lines.specs.declared.line.Line.{Line}
use Rattle.journal_lines.specs.declared.line.Line.TheVariants as line
use Rattle.request_rules.specs.declared.taken.Asker.{Asker}
use Rattle.request_rules.specs.Calls.{note_call}
use Rattle.request_rules.specs.Passing.{note_passed}
use Rattle.request_rules.specs.Requests.{NodeRequests, Requests}
use Rattle.request_rules.specs.Scans.{note_scan}
use Rattle.request_rules.specs.TakenUp.{note_taken}

-- what a line of the node adds, with this asker and this want in hand
abbrev pub note_request : Option Asker → Option Want → NodeRequests → Line → NodeRequests
note_request a w r l = record { passed = note_passed w r.passed l; taken = note_taken a r.taken l }

-- what lines add, one after another
abbrev pub noted_requests : Option Asker → Option Want → NodeRequests → List Line → NodeRequests
noted_requests a w r [] = r
noted_requests a w r (l ∷ ls) = noted_requests a w (note_request a w r l) ls

-- the node for whose requests the line counts, if for any
abbrev pub node_of_request : Line → Option ℕ
node_of_request (line.Stop n) = Some n
node_of_request (line.Enter n key members) = Some n
node_of_request (line.Opened n key t d a) = Some n
node_of_request (line.Refused n d cause) = Some n
node_of_request (line.Value n key t d v) = Some n
node_of_request (line.Done n key t) = Some n
node_of_request (line.Proxy n key x d a to) = Some n
node_of_request (line.Proxied n key x b) = Some n
node_of_request (line.Unproxied n key x) = Some n
node_of_request _ = None

-- whether the line counts for the requests of a node or of the client
abbrev pub counts_for_requests : Line → Bool
counts_for_requests (line.Call q n d a) = true
counts_for_requests (line.Reply q n b) = true
counts_for_requests (line.Scan s n p) = true
counts_for_requests l = is_some (node_of_request l)

-- the line counts for the node's requests, if there is one
abbrev pub noted_at : Option Asker → Option Want → (ℕ → NodeRequests) → Option ℕ → Line
    → ℕ → NodeRequests
noted_at a w at None l = at
noted_at a w at (Some n) l = changed_at at n (note_request a w (at n) l)

-- what a line adds to all requests of a world. A page counts at the line that brings it to the client
abbrev pub requests_noted : Option Asker → Option Want → Requests → Line → Requests
requests_noted a w r l = record {
  at = noted_at a w r.at (node_of_request l) l;
  calls = note_call w r.calls l;
  scans = note_scan r.scans l;
}

-- what lines add, one after another
abbrev pub all_requests_noted : Option Asker → Option Want → Requests → List Line → Requests
all_requests_noted a w r [] = r
all_requests_noted a w r (l ∷ ls) = all_requests_noted a w (requests_noted a w r l) ls

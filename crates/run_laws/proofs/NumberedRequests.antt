-- Each number of a request that is passed on, of a request of the client and of a scan is given at a line: so they are few.
use Rattle.std.proofs.Common.{◌≡◌, ◌<◌, ◌≤◌, ℕ, ◌+◌, ◌==◌, nat_lt, Bool, true, false, cond, List, [], ◌∷◌, Option, Some, None, refl, sym, subst, arith}
use Rattle.std.specs.Prelude.{option_and_then}
use Rattle.journal_lines.specs.declared.line.Line.{Line}
use Rattle.journal_lines.specs.declared.line.Line.TheVariants as line
use Rattle.journal_readings.specs.Messages.{Arrival, arrived, arrived_cut}
use Rattle.wire_messages.specs.declared.message.Message.{Message}
use Rattle.wire_messages.specs.declared.message.Message.TheVariants as message
use Rattle.wire_messages.specs.declared.reply.ReplyBody.{ReplyBody}
use Rattle.wire_messages.specs.Decoding.{message_of}
use Rattle.cluster_types.specs.Endpoints.{client}
use Rattle.request_rules.specs.ByNumber.{without_number}
use Rattle.request_rules.specs.Calls.{replied_to}
use Rattle.request_rules.specs.Replies.{is_refusal}
use Rattle.request_rules.specs.Requests.{Calls, NodeRequests, Requests, Scans}
use Rattle.request_rules.specs.Scans.{with_new_scan}
use Rattle.cluster_rules.specs.Marks.{Mark, Begins, Writes, came, came_to_client, came_to_node, sent_by}
use Rattle.cluster_rules.specs.Network.{posting, posting_at}
use Rattle.cluster_rules.specs.Steps.{all_marks}
use Rattle.cluster_rules.specs.World.{World, changed_at}
use Rattle.key_laws.proofs.Frames.{at_each}
use Rattle.run_laws.specs.Fronts.{Front, world_of, front_after, front_after_all}
use Rattle.run_laws.specs.Taken.{first}
use Rattle.run_laws.specs.Worlds.{NumbersFew, RequestsBelow}
use Rattle.run_laws.proofs.Journal.{lines_of_taken, world_all}

-- no number is greater than that
record Upto (lines : ℕ) (r : Requests) : Type 0 where
  passed : (n : ℕ) → (r.at n).passed.given ≤ lines
  calls : r.calls.given ≤ lines
  scans : r.scans.given ≤ lines

later : (n lines : ℕ) → n ≤ lines → n ≤ lines + 1
later n lines le = omega (arith, le)

next : (n lines : ℕ) → n ≤ lines → n + 1 ≤ lines + 1
next n lines le = omega (arith, le)

none_upto : (lines : ℕ) → 0 ≤ lines + 1
none_upto lines = omega arith

-- one line more
still : (lines : ℕ) (r : Requests) → Upto lines r → Upto (lines + 1) r
still lines r h = record { passed = λ n. later _ lines (h.passed n); calls = later _ lines h.calls; scans = later _ lines h.scans }

-- one node's requests change
one_upto : (lines : ℕ) (r : Requests) (n : ℕ) (new : NodeRequests) → Upto lines r → new.passed.given ≤ lines + 1 → Upto (lines + 1) (record r { at = changed_at r.at n new })
one_upto lines r n new h le = record {
  passed = at_each (λ m (x : NodeRequests). x.passed.given ≤ lines + 1) r.at n new (λ m. later _ lines (h.passed m)) le;
  calls = later _ lines h.calls;
  scans = later _ lines h.scans;
}

came_same : (w : World) (x : Option Arrival) → (came w x).requests ≡ w.requests
came_same w None = refl
came_same w (Some x) = go (x.to == client)
  where
    at_client : (m : Message) → (came_to_client w m).requests ≡ w.requests
    at_client (message.MapTable t) = refl
    at_client _ = refl

    go : (b : Bool) → (cond b (came_to_client w x.message) (came_to_node w x)).requests ≡ w.requests
    go true = at_client x.message
    go false = refl

came_upto : (lines : ℕ) (w : World) (x : Option Arrival) → Upto lines w.requests → Upto (lines + 1) (came w x).requests
came_upto lines w x h = subst (Upto (lines + 1)) (sym (came_same w x)) (still lines w.requests h)

sent_upto : (lines : ℕ) (w : World) (a b : ℕ) (o : Option Message) → Upto lines w.requests → Upto (lines + 1) (sent_by w a b o).requests
sent_upto lines w a b None h = still lines w.requests h
sent_upto lines w a b (Some m) h = still lines w.requests h

replied_upto : (lines : ℕ) (cs : Calls) (q : ℕ) (b : ReplyBody) → cs.given ≤ lines → (replied_to cs q b).given ≤ lines + 1
replied_upto lines cs q b le = go (is_refusal b)
  where
    go : (c : Bool) → (cond c cs (record cs { waiting = without_number cs.waiting q })).given ≤ lines + 1
    go true = later _ lines le
    go false = later _ lines le

scan_upto : (lines : ℕ) (ss : Scans) (p : ℕ) (b : Bool) → ss.given ≤ lines → (cond b (with_new_scan ss p) ss).given ≤ lines + 1
scan_upto lines ss p true le = next _ lines le
scan_upto lines ss p false le = later _ lines le

abbrev Numbered : Front → Type 0
Numbered z = Upto z.lines (world_of z).requests

line_numbered : (z : Front) (l : Line) → Numbered z → Numbered (front_after z (Writes l))
line_numbered z (line.Stop n) h = one_upto z.lines (world_of z).requests n _ h (none_upto z.lines)
line_numbered z (line.Enter n k ms) h = one_upto z.lines (world_of z).requests n _ h (none_upto z.lines)
line_numbered z (line.Opened n k t d a) h = one_upto z.lines (world_of z).requests n _ h (later _ z.lines (h.passed n))
line_numbered z (line.Refused n d cause) h = one_upto z.lines (world_of z).requests n _ h (later _ z.lines (h.passed n))
line_numbered z (line.Value n k t d v) h = one_upto z.lines (world_of z).requests n _ h (later _ z.lines (h.passed n))
line_numbered z (line.Done n k t) h = one_upto z.lines (world_of z).requests n _ h (later _ z.lines (h.passed n))
line_numbered z (line.Proxy n k x d a to) h = one_upto z.lines (world_of z).requests n _ h (next _ z.lines (h.passed n))
line_numbered z (line.Proxied n k x b) h = one_upto z.lines (world_of z).requests n _ h (later _ z.lines (h.passed n))
line_numbered z (line.Unproxied n k x) h = one_upto z.lines (world_of z).requests n _ h (later _ z.lines (h.passed n))
line_numbered z (line.Call q n d a) h = record { passed = λ m. later _ z.lines (h.passed m); calls = next _ z.lines h.calls; scans = later _ z.lines h.scans }
line_numbered z (line.Reply q n b) h = record { passed = λ m. later _ z.lines (h.passed m); calls = replied_upto z.lines (world_of z).requests.calls q b h.calls; scans = later _ z.lines h.scans }
line_numbered z (line.Scan s n p) h = record { passed = λ m. later _ z.lines (h.passed m); calls = later _ z.lines h.calls; scans = scan_upto z.lines (world_of z).requests.scans p (nat_lt (world_of z).requests.scans.given s) h.scans }
line_numbered z (line.Deliver i a b) h = came_upto z.lines (world_of z) (option_and_then (arrived b) (posting_at (world_of z).network i)) h
line_numbered z (line.Repeat i a b) h = came_upto z.lines (world_of z) (option_and_then (arrived b) (posting_at (world_of z).network i)) h
line_numbered z (line.Cut i a b size) h = came_upto z.lines (world_of z) (option_and_then (arrived_cut b size) (posting_at (world_of z).network i)) h
line_numbered z (line.Sent i a b bytes) h = sent_upto z.lines (record (world_of z) { network = posting (world_of z).network i (record { from = a; to = b; bytes = bytes }) }) a b (message_of bytes) h
line_numbered z _ h = still z.lines (world_of z).requests h

all_numbered : (z : Front) (ms : List Mark) → Numbered z → Numbered (front_after_all z ms)
all_numbered z [] h = h
all_numbered z (Begins e ∷ ms) h = all_numbered (front_after z (Begins e)) ms h
all_numbered z (Writes l ∷ ms) h = all_numbered (front_after z (Writes l)) ms (line_numbered z l h)

below : (n lines limit : ℕ) → n ≤ lines → lines < limit → n < limit
below n lines limit le lt = omega (arith, le, lt)

none_given : 0 ≤ 0
none_given = omega arith

pub numbers_few : NumbersFew
numbers_few h ss t limit lt =
    let z : Front = front_after_all (first h) (all_marks ss) in
    let n : Numbered z = all_numbered (first h) (all_marks ss) (record { passed = λ m. none_given; calls = none_given; scans = none_given }) in
    let few : z.lines < limit = subst (λ (c : ℕ). c < limit) (sym (lines_of_taken h ss)) lt in
    subst (λ (w : World). RequestsBelow limit w.requests) (world_all (first h) (all_marks ss)) (record {
      passed = λ m. below _ z.lines limit (n.passed m) few;
      calls = below _ z.lines limit n.calls few;
      scans = below _ z.lines limit n.scans few;
    })

-- Steps of requests and scans that come and go as messages: a node passes a request on, takes up those of others, and shows a
-- page; the client asks, and takes replies and pages.
use Rattle.std.proofs.Common.{◌≡◌, ℕ, ◌==◌, Bool, true, false, List, [], ◌∷◌, length, map, Option, Some, None, refl, sym, ap, ◌∙◌, subst, inr, if◌then◌else◌}
use Rattle.conflict_order.specs.Contents.{Record}
use Rattle.conflict_order.specs.declared.policy.Policy.{Policy}
use Rattle.conflict_order.specs.declared.want.Want.{Want}
use Rattle.cluster_types.specs.declared.cluster_key.ClusterKey.{ClusterKey}
use Rattle.cluster_types.specs.Endpoints.{client}
use Rattle.cluster_types.specs.Partitions.{partition_count, partition_of}
use Rattle.journal_lines.specs.declared.line.Line.{Line}
use Rattle.journal_lines.specs.declared.line.Line.TheVariants as line
use Rattle.journal_lines.specs.declared.refusal.Refusal.{Refusal}
use Rattle.journal_lines.specs.declared.refusal.Refusal.TheVariants as refusal
use Rattle.journal_readings.specs.Messages.{Arrival}
use Rattle.wire_messages.specs.declared.message.Message.{Message}
use Rattle.wire_messages.specs.declared.message.Message.TheVariants as message
use Rattle.wire_messages.specs.declared.reply.ReplyBody.{ReplyBody}
use Rattle.wire_messages.specs.declared.scan.ScanPage.{ScanPage}
use Rattle.wire_messages.specs.declared.scan.ScanRefusal.{ScanRefusal}
use Rattle.wire_messages.specs.Keys.{IsKeyOrNone}
use Rattle.wire_messages.specs.Requests.{IsWant}
use Rattle.wire_messages.specs.Versions.{IsDigest}
use Rattle.wire_messages.proofs.DecodingLaws.{what_is_read}
use Rattle.node_rules.specs.Client.{Tables, node_for}
use Rattle.node_rules.specs.Effects.{lines_only, sends_only}
use Rattle.node_rules.specs.Exchange.{View}
use Rattle.node_rules.specs.Facts.{Facts, view_key, list_at}
use Rattle.node_rules.specs.Notes.{in_view}
use Rattle.node_rules.specs.Requests.{due_request, request_refusal}
use Rattle.node_rules.specs.StaleMessages.{stale}
use Rattle.request_rules.specs.declared.call.Call.{Call}
use Rattle.request_rules.specs.declared.call.CallStep.{CallStep}
use Rattle.request_rules.specs.declared.call.CallStep.TheVariants as call
use Rattle.request_rules.specs.declared.passed.Passed.{Passed}
use Rattle.request_rules.specs.declared.passed.ReplyStep.{ReplyStep}
use Rattle.request_rules.specs.declared.passed.ReplyStep.TheVariants as replied
use Rattle.request_rules.specs.declared.scanning.Scanning.{Scanning}
use Rattle.request_rules.specs.declared.scanning.ScanStep.{ScanStep}
use Rattle.request_rules.specs.declared.scanning.ScanStep.TheVariants as scan
use Rattle.request_rules.specs.declared.taken.Asker.{Asker}
use Rattle.request_rules.specs.declared.taken.Outcome.{Outcome}
use Rattle.request_rules.specs.declared.taken.Outcome.TheVariants as outcome
use Rattle.request_rules.specs.ByNumber.{ByNumber, item_under}
use Rattle.request_rules.specs.Calls.{call_step, called, called_again, calling_again_if, calling_named, is_full, reply_lines}
use Rattle.request_rules.specs.Dressing.{with_requests}
use Rattle.request_rules.specs.NodeMessages.{due_at_node_of, taking, taking_if}
use Rattle.request_rules.specs.Pages.{on_scan_ask, page_limit, page_of, scan_answer, scan_page, scan_refusal}
use Rattle.request_rules.specs.Passing.{on_proxy_reply, passed_on, passing, passing_again, passing_if, proxied_if, proxy_of, reply_step, waits_for}
use Rattle.request_rules.specs.Replies.{asker_of, want_in_message}
use Rattle.request_rules.specs.Requests.{Calls, NodeRequests, PassedOn, Scans}
use Rattle.request_rules.specs.Scans.{asked_on, page_asked_for, page_lines, partition_of_scan, position, record_lines, scan_step, scanning_named, scanning_on_if, unscanned_if}
use Rattle.request_rules.specs.TakenUp.{outcome_for}
use Rattle.cluster_rules.specs.DueEvents.{written}
use Rattle.cluster_rules.specs.Marks.{Writes, came, came_to_client, came_to_node}
use Rattle.cluster_rules.specs.RequestEvents.{due_at_client_from, due_passing, due_passing_again, due_calling, due_calling_again, due_scanning, due_scanning_on}
use Rattle.cluster_rules.specs.World.{World}
use Rattle.key_laws.proofs.DueViews.{view_known}
use Rattle.key_laws.proofs.RequestWire.{read_proxy, read_call, read_scan_ask, read_scan_page, read_scan_no}
use Rattle.run_laws.specs.Fronts.{Front, world_of, facts_at, front_after}
use Rattle.run_laws.specs.LineOk.{IsDeclared}
use Rattle.run_laws.specs.LineDue.{LineMay, LawOf}
use Rattle.run_laws.specs.Spelled.{AreReadInRange}
use Rattle.run_laws.specs.Steps.{Ended}
use Rattle.run_laws.proofs.Arrived.{Arrived, ended_at, nothing_go, spent_go, stale_go}
use Rattle.run_laws.proofs.Calmly.{Plainly, EachPlainly}
use Rattle.run_laws.proofs.DeliverSteps.{message_go, with_line}
use Rattle.run_laws.proofs.Dressed.{dressed_go, reply_plain}
use Rattle.run_laws.proofs.EventSteps.{Starts}
use Rattle.run_laws.proofs.NodeSteps.{NodeGo, Now, effects_go}
use Rattle.run_laws.proofs.Reading.{Alike}
use Rattle.run_laws.proofs.RequestSteps.{request_go}
use Rattle.run_laws.proofs.Turns.{LinesGo}

-- ---- a line, or a message, that changes no facts

-- one line of which nothing is asked, where no fact changes behind it
told_go : (z : Front) (n : ℕ) (l : Line) → Ended z → LineMay z l → Ended (front_after z (Writes l)) → (world_of (front_after z (Writes l))).network.sent ≡ (world_of z).network.sent → NodeGo z n (lines_only (l ∷ []))
told_go z n l h ok e net = record { due = (ok, tt); sent = net; sends = tt; ends = e }

-- messages alone
sends_alone : (z : Front) (n : ℕ) (ms : List (ℕ × Message)) → Ended z → EachPlainly z n ms → NodeGo z n (sends_only ms)
sends_alone z n ms h p = record { due = tt; sent = refl; sends = p; ends = h }

proxy_plain : (z : Front) (n to : ℕ) (key : ClusterKey) (x : ℕ) (d : List ℕ) (w : Want) → IsKeyOrNone key → Plainly z n (to, message.Proxy key x d w)
proxy_plain z n to key x d w k = record { plain = refl; read = read_proxy (Alike (message.Proxy key x d w)) key x d w k (λ i e q. inr (record { sort = 2; first = refl; second = refl })); due = tt }

call_plain : (z : Front) (n to q : ℕ) (d : List ℕ) (w : Want) → Plainly z n (to, message.Call q d w)
call_plain z n to q d w = record { plain = refl; read = read_call (Alike (message.Call q d w)) q d w (λ i e v. inr (record { sort = 2; first = refl; second = refl })); due = tt }

scan_ask_plain : (z : Front) (n to s p : ℕ) (after : Option (List ℕ)) → Plainly z n (to, message.ScanAsk s p after)
scan_ask_plain z n to s p after = record { plain = refl; read = read_scan_ask (Alike (message.ScanAsk s p after)) s p after (λ i j d. inr (record { sort = 2; first = refl; second = refl })); due = tt }

page_plain : (z : Front) (n to : ℕ) (page : ScanPage) → IsKeyOrNone page.key → Plainly z n (to, message.ScanPage page)
page_plain z n to page k = record { plain = refl; read = read_scan_page (Alike (message.ScanPage page)) page k (λ other e. inr (record { sort = 2; first = refl; second = refl })); due = tt }

no_page_plain : (z : Front) (n to s : ℕ) (cause : ScanRefusal) → Plainly z n (to, message.ScanNo s cause)
no_page_plain z n to s cause = record { plain = refl; read = read_scan_no (Alike (message.ScanNo s cause)) s cause (λ i c. inr (record { sort = 2; first = refl; second = refl })); due = tt }

-- ---- a request at a node, which may pass it on

-- what is known of the node at a front at which a request may begin
pub record Serves (by : Policy) (factor : ℕ) (z : Front) (f : Facts) (clock : ℕ) : Type 0 where
  pub law : LawOf by factor f
  pub now : Now z f
  pub ended : Ended z
  pub time : clock ≡ (world_of z).clocks f.me
  pub declared : (u : View) → f.exchange.view ≡ Some u → IsDeclared z f.me
  pub key : IsKeyOrNone (view_key f)

-- what the request wants is in hand, and keeps its ranges
pub record Wanted (z : Front) (d : List ℕ) (w : Want) : Type 0 where
  pub digest : IsDigest d
  pub fits : IsWant w
  pub in_hand : (world_of z).want ≡ Some w

plain_request : {by : Policy} {factor : ℕ} {z : Front} {f : Facts} {clock : ℕ} {d : List ℕ} {w : Want} → Serves by factor z f clock → Wanted z d w → AreReadInRange (due_request f clock d w).sends → NodeGo z f.me (due_request f clock d w)
plain_request {by} {factor} {z} {f} {clock} {d} {w} s q r = request_go by factor z f d w clock q.digest q.fits s.law s.now s.ended q.in_hand s.time s.declared r

pub passing_go : {by : Policy} {factor : ℕ} {z : Front} {f : Facts} {clock : ℕ} {d : List ℕ} {w : Want} (r : PassedOn) → Serves by factor z f clock → Wanted z d w → AreReadInRange (passing r f clock d w).sends → NodeGo z f.me (passing r f clock d w)
passing_go {by} {factor} {z} {f} {clock} {d} {w} r s q = go (request_refusal f (list_at f (partition_of d)) d)
  where
    to_other : (a : ℕ) (b : Bool) → AreReadInRange (if b then due_request f clock d w else passed_on r f d w a).sends → NodeGo z f.me (if b then due_request f clock d w else passed_on r f d w a)
    to_other a true read = plain_request s q read
    to_other a false read = record {
      due = ((s.now.owes, tt), tt);
      sent = refl;
      sends = (proxy_plain _ f.me a (view_key f) _ d w s.key, tt);
      ends = record { owes = s.ended.owes; stays = s.ended.stays; rests = s.ended.rests };
    }

    go : (o : Option Refusal) → AreReadInRange (passing_if r f clock d w o).sends → NodeGo z f.me (passing_if r f clock d w o)
    go None read = plain_request s q read
    go (Some refusal.Down) read = plain_request s q read
    go (Some refusal.NoView) read = plain_request s q read
    go (Some (refusal.Exchanging m)) read = plain_request s q read
    go (Some (refusal.NotMaster a)) read = to_other a (a == f.me) read
    go (Some (refusal.Busy x)) read = plain_request s q read

pub passing_again_go : (z : Front) (r : PassedOn) (f : Facts) → Ended z → IsKeyOrNone (view_key f) → NodeGo z f.me (passing_again r f)
passing_again_go z r f h k = go f.up
  where
    each : (ps : ByNumber Passed) → EachPlainly z f.me (map (λ (p : ℕ × Passed). (p.1.to, proxy_of (view_key f) p.0 p.1)) ps)
    each [] = tt
    each (p ∷ ps) = (proxy_plain z f.me p.1.to (view_key f) p.0 p.1.digest p.1.want k, each ps)

    go : (b : Bool) → NodeGo z f.me (if b then sends_only (map (λ (p : ℕ × Passed). (p.1.to, proxy_of (view_key f) p.0 p.1)) r.waiting) else lines_only (line.Down f.me ∷ []))
    go true = sends_alone z f.me _ h (each r.waiting)
    go false = told_go z f.me (line.Down f.me) h (h.owes, tt) (record { owes = h.owes; stays = h.stays; rests = h.rests }) refl

-- ---- a message that reaches a node

taking_go : {by : Policy} {factor : ℕ} {z : Front} {f : Facts} {clock : ℕ} {d : List ℕ} {w : Want} (a : Asker) (o : Option Outcome) → Serves by factor z f clock → Wanted z d w → AreReadInRange (taking_if f clock a d w o).sends → NodeGo z f.me (taking_if f clock a d w o)
taking_go {by} {factor} {z} {f} {clock} {d} {w} a None s q r = plain_request s q r
taking_go {by} {factor} {z} {f} {clock} {d} {w} a (Some (outcome.Open x)) s q r = nothing_go z f.me s.ended
taking_go {by} {factor} {z} {f} {clock} {d} {w} a (Some (outcome.Kept b)) s q r = sends_alone z f.me _ s.ended (reply_plain z f.me a.from (view_key f) a b s.key, tt)

proxy_reply_go : (z : Front) (r : PassedOn) (f : Facts) (from : ℕ) (key : ClusterKey) (x : ℕ) (b : ReplyBody) → Ended z → NodeGo z f.me (on_proxy_reply r f from key x b)
proxy_reply_go z r f from key x b h = go (in_view f key)
  where
    step : (s : ReplyStep) → NodeGo z f.me (proxied_if f x b s)
    step replied.Taken = told_go z f.me (line.Proxied f.me (view_key f) x b) h (h.owes, tt) (record { owes = h.owes; stays = h.stays; rests = h.rests }) refl
    step replied.Spent = spent_go z f h

    go : (c : Bool) → NodeGo z f.me (if c then proxied_if f x b (reply_step (waits_for from (item_under r.waiting x))) else stale f)
    go true = step (reply_step (waits_for from (item_under r.waiting x)))
    go false = stale_go z f h

scan_ask_go : (z : Front) (f : Facts) (s p : ℕ) (after : Option (List ℕ)) → Ended z → IsKeyOrNone (view_key f) → NodeGo z f.me (on_scan_ask f s p after)
scan_ask_go z f s p after h k = go (scan_refusal f p)
  where
    go : (o : Option ScanRefusal) → NodeGo z f.me (sends_only ((client, scan_answer f s p after o) ∷ []))
    go None = sends_alone z f.me _ h (page_plain z f.me client (scan_page f s p after (page_of f p after page_limit)) k, tt)
    go (Some cause) = sends_alone z f.me _ h (no_page_plain z f.me client s cause, tt)

-- the node at the front behind a message that changes no facts
serves : {by : Policy} {factor : ℕ} {z0 z : Front} {f : Facts} {clock from : ℕ} {m : Message} → Arrived by factor z0 z f clock from m → Ended z → facts_at z f.me ≡ f → z.owed ≡ None → Serves by factor z f clock
serves {by} {factor} {z0} {z} {f} {clock} {from} {m} a h is owes = record {
  law = a.law;
  now = record { is = is; stays = a.stays; owes = owes };
  ended = h;
  time = a.time;
  declared = a.declared;
  key = (view_known z.chronicle.traced f.me f a.keys).field;
}

-- what is due of a message at the node goes, before what requests add
pub message_at_go : {by : Policy} {factor : ℕ} {z0 z : Front} {f : Facts} {clock from : ℕ} (r : NodeRequests) (m : Message) → Arrived by factor z0 z f clock from m → (world_of z).want ≡ want_in_message m → AreReadInRange (due_at_node_of partition_count r f clock from m).sends → NodeGo z f.me (due_at_node_of partition_count r f clock from m)
message_at_go {by} {factor} {z0} {z} {f} {clock} {from} r (message.Proxy key x d w) a want read = go (in_view f key) read
  where
    h : Ended z
    h = ended_at a a.owes a.rests

    q : Wanted z d w
    q = let p = (what_is_read a.came.posting.bytes (message.Proxy key x d w) a.came.message).0 in record { digest = p.2; fits = p.3; in_hand = want }

    go : (b : Bool) → AreReadInRange (if b then taking r.taken f clock (record { from = from; number = x }) d w else stale f).sends → NodeGo z f.me (if b then taking r.taken f clock (record { from = from; number = x }) d w else stale f)
    go true read = taking_go (record { from = from; number = x }) (outcome_for r.taken (record { from = from; number = x })) (serves a h a.is a.owes) q read
    go false read = stale_go z f h
message_at_go {by} {factor} {z0} {z} {f} {clock} {from} r (message.ProxyReply key x b) a want read = proxy_reply_go z r.passed f from key x b (ended_at a a.owes a.rests)
message_at_go {by} {factor} {z0} {z} {f} {clock} {from} r (message.Call n d w) a want read =
    let p = (what_is_read a.came.posting.bytes (message.Call n d w) a.came.message).0 in
    taking_go (record { from = client; number = n }) (outcome_for r.taken (record { from = client; number = n })) (serves a (ended_at a a.owes a.rests) a.is a.owes) (record { digest = p.1; fits = p.2; in_hand = want }) read
message_at_go {by} {factor} {z0} {z} {f} {clock} {from} r (message.ScanAsk s p after) a want read = scan_ask_go z f s p after (ended_at a a.owes a.rests) (view_known z.chronicle.traced f.me f a.keys).field
message_at_go {by} {factor} {z0} {z} {f} {clock} {from} r (message.Heartbeat view promised hears role) a want read = message_go (message.Heartbeat view promised hears role) a read
message_at_go {by} {factor} {z0} {z} {f} {clock} {from} r (message.Propose k ms) a want read = message_go (message.Propose k ms) a read
message_at_go {by} {factor} {z0} {z} {f} {clock} {from} r (message.Accept k) a want read = message_go (message.Accept k) a read
message_at_go {by} {factor} {z0} {z} {f} {clock} {from} r (message.Refuse k promised) a want read = message_go (message.Refuse k promised) a read
message_at_go {by} {factor} {z0} {z} {f} {clock} {from} r (message.Commit k ms) a want read = message_go (message.Commit k ms) a read
message_at_go {by} {factor} {z0} {z} {f} {clock} {from} r (message.State k wants row) a want read = message_go (message.State k wants row) a read
message_at_go {by} {factor} {z0} {z} {f} {clock} {from} r (message.Batch b) a want read = message_go (message.Batch b) a read
message_at_go {by} {factor} {z0} {z} {f} {clock} {from} r (message.BatchAck k number) a want read = message_go (message.BatchAck k number) a read
message_at_go {by} {factor} {z0} {z} {f} {clock} {from} r (message.Progress k wants done handed settled) a want read = message_go (message.Progress k wants done handed settled) a read
message_at_go {by} {factor} {z0} {z} {f} {clock} {from} r (message.Repl k number nth d v) a want read = message_go (message.Repl k number nth d v) a read
message_at_go {by} {factor} {z0} {z} {f} {clock} {from} r (message.ReplAck k number) a want read = message_go (message.ReplAck k number) a read
message_at_go {by} {factor} {z0} {z} {f} {clock} {from} r (message.Ask k number d) a want read = message_go (message.Ask k number d) a read
message_at_go {by} {factor} {z0} {z} {f} {clock} {from} r (message.Answer k number v) a want read = message_go (message.Answer k number v) a read
message_at_go {by} {factor} {z0} {z} {f} {clock} {from} r message.MapAsk a want read = message_go message.MapAsk a read
message_at_go {by} {factor} {z0} {z} {f} {clock} {from} r (message.MapTable table) a want read = message_go (message.MapTable table) a read
message_at_go {by} {factor} {z0} {z} {f} {clock} {from} r (message.Reply k q b) a want read = message_go (message.Reply k q b) a read
message_at_go {by} {factor} {z0} {z} {f} {clock} {from} r (message.ScanPage page) a want read = message_go (message.ScanPage page) a read
message_at_go {by} {factor} {z0} {z} {f} {clock} {from} r (message.ScanNo s cause) a want read = message_go (message.ScanNo s cause) a read

-- the whole step of a message at the node
pub receiver_go : {by : Policy} {factor : ℕ} {z0 z : Front} {f : Facts} {clock from : ℕ} (r : NodeRequests) (m : Message) → Arrived by factor z0 z f clock from m → (world_of z).want ≡ want_in_message m → AreReadInRange (due_at_node_of partition_count r f clock from m).sends → NodeGo z f.me (with_requests r f (asker_of from m) (due_at_node_of partition_count r f clock from m))
receiver_go {by} {factor} {z0} {z} {f} {clock} {from} r m a want read = dressed_go z f.me r f (asker_of from m) _ (view_known z.chronicle.traced f.me f a.keys).field (message_at_go r m a want read)

-- ---- what a delivered request wants

-- what is in hand as the step of a delivery begins stays so behind the line that brings the message
pub came_want : (w : World) (o : Option Arrival) → (came w o).want ≡ w.want
came_want w None = refl
came_want w (Some x) = go (x.to == client)
  where
    at_client : (m : Message) → (came_to_client w m).want ≡ w.want
    at_client (message.MapTable t) = refl
    at_client _ = refl

    go : (b : Bool) → (if b then came_to_client w x.message else came_to_node w x).want ≡ w.want
    go true = at_client x.message
    go false = refl

-- ---- a message that reaches the client

one_told : (z : Front) (l : Line) → Ended z → LineMay z l → Ended (front_after z (Writes l)) → LinesGo z (l ∷ [])
one_told z l h ok e = record { due = (ok, tt); ends = e }

reply_go : (z : Front) (from q : ℕ) (b : ReplyBody) (s : CallStep) → Ended z → LinesGo z (reply_lines from q b s)
reply_go z from q b call.Closed h = one_told z (line.Reply q from b) h (h.owes, tt) (record { owes = h.owes; stays = h.stays; rests = h.rests })
reply_go z from q b call.Refused h = one_told z (line.Reply q from b) h (h.owes, tt) (record { owes = h.owes; stays = h.stays; rests = h.rests })
reply_go z from q b call.Spent h = one_told z (line.Spent client) h (h.owes, tt) (record { owes = h.owes; stays = h.stays; rests = h.rests })

records_go : (z : Front) (s : ℕ) (rs : List Record) → Ended z → LinesGo z (record_lines s rs)
records_go z s [] h = record { due = tt; ends = h }
records_go z s (r ∷ rs) h = with_line z (line.Record s r.0 r.1) (record_lines s rs) (h.owes, tt) (records_go (front_after z (Writes (line.Record s r.0 r.1))) s rs (record { owes = h.owes; stays = h.stays; rests = h.rests }))

page_go : (z : Front) (p from : ℕ) (page : ScanPage) (s : ScanStep) → Ended z → LinesGo z (page_lines p from page s)
page_go z p from page scan.Spent h = one_told z (line.Spent client) h (h.owes, tt) (record { owes = h.owes; stays = h.stays; rests = h.rests })
page_go z p from page scan.Again h = one_told z (line.Rescan page.scan) h (h.owes, tt) (record { owes = h.owes; stays = h.stays; rests = h.rests })
page_go z p from page (scan.More count) h = one_told z (line.Page page.scan count) h (h.owes, tt) (record { owes = h.owes; stays = h.stays; rests = h.rests })
page_go z p from page (scan.Whole rs) h =
    with_line z (line.Scanned page.scan from page.key p (length rs)) (record_lines page.scan rs) (h.owes, tt)
    (records_go (front_after z (Writes (line.Scanned page.scan from page.key p (length rs)))) page.scan rs (record { owes = h.owes; stays = h.stays; rests = h.rests }))

no_page_go : (z : Front) (s : ℕ) (cause : ScanRefusal) (o : Option Scanning) → Ended z → LinesGo z (unscanned_if s cause o)
no_page_go z s cause None h = one_told z (line.Spent client) h (h.owes, tt) (record { owes = h.owes; stays = h.stays; rests = h.rests })
no_page_go z s cause (Some x) h = one_told z (line.Unscanned s cause) h (h.owes, tt) (record { owes = h.owes; stays = h.stays; rests = h.rests })

pub client_from_go : (z : Front) (w : World) (from : ℕ) (m : Message) → Ended z → LinesGo z (due_at_client_from w from m)
client_from_go z w from (message.MapTable t) h = one_told z (line.Table t.key) h (h.owes, tt) (record { owes = h.owes; stays = h.stays; rests = h.rests })
client_from_go z w from (message.Reply key q b) h = reply_go z from q b (call_step (item_under w.requests.calls.waiting q) b) h
client_from_go z w from (message.ScanPage page) h = page_go z (partition_of_scan (item_under w.requests.scans.running page.scan)) from page (scan_step w.requests.scans from page) h
client_from_go z w from (message.ScanNo s cause) h = no_page_go z s cause (item_under w.requests.scans.running s) h
client_from_go z w from _ h = one_told z (line.Stale client) h (h.owes, tt) (record { owes = h.owes; stays = h.stays; rests = h.rests })

-- ---- requests and scans of the client

calling_to : (z : Front) (cs : Calls) (d : List ℕ) (w : Want) (o : Option ℕ) → Ended z → NodeGo z client (calling_named cs d w o)
calling_to z cs d w None h = told_go z client (line.NoMap (partition_of d)) h (h.owes, tt) (record { owes = h.owes; stays = h.stays; rests = h.rests }) refl
calling_to z cs d w (Some to) h = go (is_full cs)
  where
    go : (b : Bool) → NodeGo z client (if b then lines_only (line.CallFull ∷ []) else called cs d w to)
    go true = told_go z client line.CallFull h (h.owes, tt) (record { owes = h.owes; stays = h.stays; rests = h.rests }) refl
    go false = record { due = ((h.owes, tt), tt); sent = refl; sends = (call_plain _ client to _ d w, tt); ends = record { owes = h.owes; stays = h.stays; rests = h.rests } }

again_to : (z : Front) (tables : Tables) (q : ℕ) (o : Option Call) → Ended z → NodeGo z client (calling_again_if tables q o)
again_to z tables q None h = told_go z client (line.NoOpen q) h (h.owes, tt) (record { owes = h.owes; stays = h.stays; rests = h.rests }) refl
again_to z tables q (Some c) h = go (node_for tables (partition_of c.digest))
  where
    go : (o : Option ℕ) → NodeGo z client (called_again q c o)
    go None = nothing_go z client h
    go (Some to) = record { due = ((h.owes, tt), tt); sent = refl; sends = (call_plain _ client to q c.digest c.want, tt); ends = record { owes = h.owes; stays = h.stays; rests = h.rests } }

asked_to : (z : Front) (s p : ℕ) (after : Option (List ℕ)) (to : ℕ) → Ended z → NodeGo z client (page_asked_for s p after to)
asked_to z s p after to h = record { due = ((h.owes, tt), tt); sent = refl; sends = (scan_ask_plain _ client to s p after, tt); ends = record { owes = h.owes; stays = h.stays; rests = h.rests } }

scanning_to : (z : Front) (ss : Scans) (p : ℕ) (o : Option ℕ) → Ended z → NodeGo z client (scanning_named ss p o)
scanning_to z ss p None h = told_go z client (line.NoMap p) h (h.owes, tt) (record { owes = h.owes; stays = h.stays; rests = h.rests }) refl
scanning_to z ss p (Some to) h = asked_to z _ p None to h

scanning_on_to : (z : Front) (tables : Tables) (s : ℕ) (o : Option Scanning) → Ended z → NodeGo z client (scanning_on_if tables s o)
scanning_on_to z tables s None h = told_go z client (line.NoScan s) h (h.owes, tt) (record { owes = h.owes; stays = h.stays; rests = h.rests }) refl
scanning_on_to z tables s (Some x) h = go (node_for tables x.partition)
  where
    go : (o : Option ℕ) → NodeGo z client (asked_on s x o)
    go None = nothing_go z client h
    go (Some to) = asked_to z s x.partition (position x) to h

-- ---- the steps of the events, of a world whose messages and facts are those of the front

pub passing_at : {by : Policy} {factor : ℕ} {z : Front} (w : World) (n : ℕ) (d : List ℕ) (q : Want) → IsDigest d → IsWant q → Starts by factor z → (world_of z).want ≡ Some q → w.facts ≡ (world_of z).facts → w.clocks ≡ (world_of z).clocks → w.network.sent ≡ (world_of z).network.sent
    → AreReadInRange (passing (w.requests.at n).passed (w.facts n) (w.clocks n) d q).sends → LinesGo z (due_passing w n d q)
passing_at {by} {factor} {z} w n d q digest fits s want fs cs net read = subst (λ (m : ℕ). LinesGo z (written w.network m (passing (w.requests.at n).passed (w.facts n) (w.clocks n) d q))) me
    (effects_go z w.network (w.facts n).me _ (ap length net) (passing_go (w.requests.at n).passed node (record { digest = digest; fits = fits; in_hand = want }) read))
  where
    here : w.facts n ≡ facts_at z n
    here = ap (λ (f : ℕ → Facts). f n) fs

    me : (w.facts n).me ≡ n
    me = ap (λ (f : Facts). f.me) here ∙ (s.lawful.sound.nodes n).me

    node : Serves by factor z (w.facts n) (w.clocks n)
    node = record {
      law = subst (λ (f : Facts). LawOf by factor f) (sym here) (s.lawful.nodes n);
      now = record { is = ap (facts_at z) me ∙ sym here; stays = s.ended.stays (w.facts n).me; owes = s.ended.owes };
      ended = s.ended;
      time = ap (λ (c : ℕ → ℕ). c n) cs ∙ ap (world_of z).clocks (sym me);
      declared = λ u e. s.declared (w.facts n).me u (ap (λ (m : ℕ). (facts_at z m).exchange.view) me ∙ ap (λ (f : Facts). f.exchange.view) (sym here) ∙ e);
      key = subst (λ (f : Facts). IsKeyOrNone (view_key f)) (sym here) (view_known z.chronicle.traced n (facts_at z n) (s.lawful.sound.nodes n)).field;
    }

pub passing_again_at : {by : Policy} {factor : ℕ} {z : Front} (w : World) (n : ℕ) → Starts by factor z → w.facts ≡ (world_of z).facts → w.network.sent ≡ (world_of z).network.sent → LinesGo z (due_passing_again w n)
passing_again_at {by} {factor} {z} w n s fs net = subst (λ (m : ℕ). LinesGo z (written w.network m (passing_again (w.requests.at n).passed (w.facts n)))) (ap (λ (f : Facts). f.me) here ∙ (s.lawful.sound.nodes n).me)
    (effects_go z w.network (w.facts n).me _ (ap length net) (passing_again_go z (w.requests.at n).passed (w.facts n) s.ended (subst (λ (f : Facts). IsKeyOrNone (view_key f)) (sym here) (view_known z.chronicle.traced n (facts_at z n) (s.lawful.sound.nodes n)).field)))
  where
    here : w.facts n ≡ facts_at z n
    here = ap (λ (f : ℕ → Facts). f n) fs

pub calling_at : (z : Front) (w : World) (d : List ℕ) (q : Want) → Ended z → w.network.sent ≡ (world_of z).network.sent → LinesGo z (due_calling w d q)
calling_at z w d q h net = effects_go z w.network client _ (ap length net) (calling_to z w.requests.calls d q (node_for w.tables (partition_of d)) h)

pub calling_again_at : (z : Front) (w : World) (q : ℕ) → Ended z → w.network.sent ≡ (world_of z).network.sent → LinesGo z (due_calling_again w q)
calling_again_at z w q h net = effects_go z w.network client _ (ap length net) (again_to z w.tables q (item_under w.requests.calls.waiting q) h)

pub scanning_at : (z : Front) (w : World) (p : ℕ) → Ended z → w.network.sent ≡ (world_of z).network.sent → LinesGo z (due_scanning w p)
scanning_at z w p h net = effects_go z w.network client _ (ap length net) (scanning_to z w.requests.scans p (node_for w.tables p) h)

pub scanning_on_at : (z : Front) (w : World) (s : ℕ) → Ended z → w.network.sent ≡ (world_of z).network.sent → LinesGo z (due_scanning_on w s)
scanning_on_at z w s h net = effects_go z w.network client _ (ap length net) (scanning_on_to z w.tables s (item_under w.requests.scans.running s) h)

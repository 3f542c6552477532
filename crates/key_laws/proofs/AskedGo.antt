-- What is due of nodes that have requests of others, and of the client's requests and scans, is of the node's own lines, and
-- its messages of a view go between members of it.
use Rattle.std.proofs.Common.{◌≡◌, ℕ, ◌==◌, Bool, true, false, List, [], ◌∷◌, Option, Some, None, sym, subst, map, if◌then◌else◌}
use Rattle.conflict_order.specs.Contents.{Record}
use Rattle.conflict_order.specs.declared.want.Want.{Want}
use Rattle.cluster_types.specs.declared.cluster_key.ClusterKey.{ClusterKey}
use Rattle.cluster_types.specs.Endpoints.{client}
use Rattle.cluster_types.specs.Partitions.{partition_of}
use Rattle.journal_lines.specs.declared.line.Line.TheVariants as line
use Rattle.journal_lines.specs.declared.refusal.Refusal.{Refusal}
use Rattle.journal_lines.specs.declared.refusal.Refusal.TheVariants as refusal
use Rattle.journal_readings.specs.Messages.{Posting}
use Rattle.wire_messages.specs.declared.message.Message.{Message}
use Rattle.wire_messages.specs.declared.message.Message.TheVariants as message
use Rattle.wire_messages.specs.declared.reply.ReplyBody.{ReplyBody}
use Rattle.wire_messages.specs.declared.scan.ScanPage.{ScanPage}
use Rattle.wire_messages.specs.declared.scan.ScanRefusal.{ScanRefusal}
use Rattle.wire_messages.specs.Decoding.{message_of}
use Rattle.node_rules.specs.Client.{Tables, node_for}
use Rattle.node_rules.specs.Effects.{Effects, lines_only, sends_only}
use Rattle.node_rules.specs.Facts.{Facts, view_key, list_at}
use Rattle.node_rules.specs.Notes.{in_view}
use Rattle.node_rules.specs.Requests.{due_request, request_refusal}
use Rattle.node_rules.specs.StaleMessages.{stale}
use Rattle.request_rules.specs.declared.call.Call.{Call}
use Rattle.request_rules.specs.declared.call.CallStep.{CallStep}
use Rattle.request_rules.specs.declared.call.CallStep.TheVariants as call
use Rattle.request_rules.specs.declared.passed.Passed.{Passed}
use Rattle.request_rules.specs.declared.passed.ReplyStep.{ReplyStep}
use Rattle.request_rules.specs.declared.passed.ReplyStep.TheVariants as replied
use Rattle.request_rules.specs.declared.scanning.Scanning.{Scanning}
use Rattle.request_rules.specs.declared.scanning.ScanStep.{ScanStep}
use Rattle.request_rules.specs.declared.scanning.ScanStep.TheVariants as scan
use Rattle.request_rules.specs.declared.taken.Asker.{Asker}
use Rattle.request_rules.specs.declared.taken.Outcome.{Outcome}
use Rattle.request_rules.specs.declared.taken.Outcome.TheVariants as outcome
use Rattle.request_rules.specs.declared.taken.Taken.{Taken}
use Rattle.request_rules.specs.ByNumber.{ByNumber, item_under}
use Rattle.request_rules.specs.Calls.{call_step, called, called_again, calling, calling_again, calling_again_if, calling_named, is_full, reply_lines}
use Rattle.request_rules.specs.Dressing.{with_requests}
use Rattle.request_rules.specs.NodeMessages.{due_at_node_of, on_proxy, taking, taking_if}
use Rattle.request_rules.specs.Pages.{on_scan_ask, page_limit, page_of, scan_answer, scan_page, scan_refusal}
use Rattle.request_rules.specs.Passing.{on_proxy_reply, passed_on, passing, passing_again, passing_if, proxied_if, proxy_of, reply_step, waits_for}
use Rattle.request_rules.specs.Replies.{asker_of}
use Rattle.request_rules.specs.Requests.{Calls, NodeRequests, PassedOn, Scans}
use Rattle.request_rules.specs.Scans.{asked_on, page_asked_for, page_lines, partition_of_scan, position, record_lines, scan_step, scanning, scanning_named, scanning_on, scanning_on_if, unscanned_if}
use Rattle.request_rules.specs.TakenUp.{outcome_for}
use Rattle.cluster_rules.specs.DueEvents.{written}
use Rattle.cluster_rules.specs.Network.{Network}
use Rattle.cluster_rules.specs.NodeSteps.{AreOf}
use Rattle.cluster_rules.specs.RequestEvents.{due_at_client_from}
use Rattle.cluster_rules.specs.World.{World}
use Rattle.cluster_rules.proofs.OwnLines.{message_own, request_own}
use Rattle.key_laws.specs.Addressed.{GoesBetween}
use Rattle.key_laws.specs.Licences.{IsPromisedKey}
use Rattle.key_laws.specs.Sound.{NodeKeys, Sound}
use Rattle.key_laws.specs.Traced.{Traced, facts_of}
use Rattle.key_laws.proofs.Addressed.{NodeGoes}
use Rattle.key_laws.proofs.Directed.{Directed, AllGo}
use Rattle.key_laws.proofs.Dressed.{dressed_go, reply_goes}
use Rattle.key_laws.proofs.DueDirected.{Comes, SendsGo, written_go, message_go, request_go}
use Rattle.key_laws.proofs.DueViews.{view_known}
use Rattle.key_laws.proofs.Kept.{WasPosted}
use Rattle.key_laws.proofs.RequestWire.{read_proxy, read_call, read_scan_ask, read_scan_page, read_scan_no}

-- its lines are the node's own, and its messages go between members
pub record Goes (t : Traced) (n : ℕ) (e : Effects) : Type 0 where
  pub own : AreOf n e.lines
  pub sends : SendsGo t n e.sends

pub effects_go : (t : Traced) (n : ℕ) (net : Network) (e : Effects) → Goes t n e → AllGo t (written net n e)
effects_go t n net e h = written_go t n net e h.own h.sends

-- ---- requests that a node passes on

request_goes : (t : Traced) (f : Facts) (clock : ℕ) (d : List ℕ) (w : Want) → NodeKeys t f.me f → NodeGoes t f → Goes t f.me (due_request f clock d w)
request_goes t f clock d w h g = record { own = request_own f clock d w; sends = request_go t f clock d w h g }

proxy_goes : (t : Traced) (n to : ℕ) (key : ClusterKey) (x : ℕ) (d : List ℕ) (w : Want) → IsPromisedKey t key → SendsGo t n ((to, message.Proxy key x d w) ∷ [])
proxy_goes t n to key x d w k = (read_proxy (λ m. GoesBetween t n to m) key x d w k.field (λ i e q. tt), tt)

pub passing_goes : (t : Traced) (r : PassedOn) (f : Facts) (clock : ℕ) (d : List ℕ) (w : Want) → NodeKeys t f.me f → NodeGoes t f → Goes t f.me (passing r f clock d w)
passing_goes t r f clock d w h g = go (request_refusal f (list_at f (partition_of d)) d)
  where
    to_other : (a : ℕ) (b : Bool) → Goes t f.me (if b then due_request f clock d w else passed_on r f d w a)
    to_other a true = request_goes t f clock d w h g
    to_other a false = record { own = (tt, tt); sends = proxy_goes t f.me a (view_key f) _ d w (view_known t f.me f h) }

    go : (o : Option Refusal) → Goes t f.me (passing_if r f clock d w o)
    go None = request_goes t f clock d w h g
    go (Some refusal.Down) = request_goes t f clock d w h g
    go (Some refusal.NoView) = request_goes t f clock d w h g
    go (Some (refusal.Exchanging m)) = request_goes t f clock d w h g
    go (Some (refusal.NotMaster a)) = to_other a (a == f.me)
    go (Some (refusal.Busy x)) = request_goes t f clock d w h g

pub passing_again_goes : (t : Traced) (n : ℕ) (r : PassedOn) (f : Facts) → IsPromisedKey t (view_key f) → Goes t n (passing_again r f)
passing_again_goes t n r f k = go f.up
  where
    each : (ps : ByNumber Passed) → SendsGo t n (map (λ (p : ℕ × Passed). (p.1.to, proxy_of (view_key f) p.0 p.1)) ps)
    each [] = tt
    each (p ∷ ps) = ((proxy_goes t n p.1.to (view_key f) p.0 p.1.digest p.1.want k).0, each ps)

    go : (b : Bool) → Goes t n (if b then sends_only (map (λ (p : ℕ × Passed). (p.1.to, proxy_of (view_key f) p.0 p.1)) r.waiting) else lines_only (line.Down f.me ∷ []))
    go true = record { own = tt; sends = each r.waiting }
    go false = record { own = (tt, tt); sends = tt }

-- ---- messages that reach a node

taking_goes : (t : Traced) (f : Facts) (clock : ℕ) (a : Asker) (d : List ℕ) (w : Want) (o : Option Outcome) → NodeKeys t f.me f → NodeGoes t f → Goes t f.me (taking_if f clock a d w o)
taking_goes t f clock a d w None h g = request_goes t f clock d w h g
taking_goes t f clock a d w (Some (outcome.Open x)) h g = record { own = tt; sends = tt }
taking_goes t f clock a d w (Some (outcome.Kept b)) h g = record { own = tt; sends = reply_goes t f.me a.from (view_key f) a b (view_known t f.me f h) }

stale_goes : (t : Traced) (n : ℕ) (f : Facts) → Goes t n (stale f)
stale_goes t n f = record { own = (tt, tt); sends = tt }

on_proxy_goes : (t : Traced) (taken : List Taken) (f : Facts) (clock from : ℕ) (key : ClusterKey) (x : ℕ) (d : List ℕ) (w : Want) → NodeKeys t f.me f → NodeGoes t f → Goes t f.me (on_proxy taken f clock from key x d w)
on_proxy_goes t taken f clock from key x d w h g = go (in_view f key)
  where
    go : (b : Bool) → Goes t f.me (if b then taking taken f clock (record { from = from; number = x }) d w else stale f)
    go true = taking_goes t f clock (record { from = from; number = x }) d w (outcome_for taken (record { from = from; number = x })) h g
    go false = stale_goes t f.me f

on_proxy_reply_goes : (t : Traced) (n : ℕ) (r : PassedOn) (f : Facts) (from : ℕ) (key : ClusterKey) (x : ℕ) (b : ReplyBody) → Goes t n (on_proxy_reply r f from key x b)
on_proxy_reply_goes t n r f from key x b = go (in_view f key)
  where
    step : (s : ReplyStep) → Goes t n (proxied_if f x b s)
    step replied.Taken = record { own = (tt, tt); sends = tt }
    step replied.Spent = record { own = (tt, tt); sends = tt }

    go : (c : Bool) → Goes t n (if c then proxied_if f x b (reply_step (waits_for from (item_under r.waiting x))) else stale f)
    go true = step (reply_step (waits_for from (item_under r.waiting x)))
    go false = stale_goes t n f

on_scan_ask_goes : (t : Traced) (n : ℕ) (f : Facts) (s p : ℕ) (after : Option (List ℕ)) → IsPromisedKey t (view_key f) → Goes t n (on_scan_ask f s p after)
on_scan_ask_goes t n f s p after k = go (scan_refusal f p)
  where
    page : ScanPage
    page = scan_page f s p after (page_of f p after page_limit)

    go : (o : Option ScanRefusal) → Goes t n (sends_only ((client, scan_answer f s p after o) ∷ []))
    go None = record { own = tt; sends = (read_scan_page (λ m. GoesBetween t n client m) page k.field (λ other e. tt), tt) }
    go (Some cause) = record { own = tt; sends = (read_scan_no (λ m. GoesBetween t n client m) s cause (λ i c. tt), tt) }

-- what is due of a message at the node, before what requests add
message_at_goes : (n : ℕ) (t : Traced) (r : NodeRequests) (f : Facts) (clock from : ℕ) (m : Message) → Comes t f from m → Goes t f.me (due_at_node_of n r f clock from m)
message_at_goes n t r f clock from (message.Proxy key x d w) c = on_proxy_goes t r.taken f clock from key x d w c.keys c.goes
message_at_goes n t r f clock from (message.ProxyReply key x b) c = on_proxy_reply_goes t f.me r.passed f from key x b
message_at_goes n t r f clock from (message.Call q d w) c = taking_goes t f clock (record { from = client; number = q }) d w (outcome_for r.taken (record { from = client; number = q })) c.keys c.goes
message_at_goes n t r f clock from (message.ScanAsk s p after) c = on_scan_ask_goes t f.me f s p after (view_known t f.me f c.keys)
message_at_goes n t r f clock from (message.Heartbeat view promised hears role) c = record { own = message_own n f clock from (message.Heartbeat view promised hears role); sends = message_go n t f clock from _ c }
message_at_goes n t r f clock from (message.Propose k ms) c = record { own = message_own n f clock from (message.Propose k ms); sends = message_go n t f clock from _ c }
message_at_goes n t r f clock from (message.Accept k) c = record { own = message_own n f clock from (message.Accept k); sends = message_go n t f clock from _ c }
message_at_goes n t r f clock from (message.Refuse k promised) c = record { own = message_own n f clock from (message.Refuse k promised); sends = message_go n t f clock from _ c }
message_at_goes n t r f clock from (message.Commit k ms) c = record { own = message_own n f clock from (message.Commit k ms); sends = message_go n t f clock from _ c }
message_at_goes n t r f clock from (message.State k wants row) c = record { own = message_own n f clock from (message.State k wants row); sends = message_go n t f clock from _ c }
message_at_goes n t r f clock from (message.Batch b) c = record { own = message_own n f clock from (message.Batch b); sends = message_go n t f clock from _ c }
message_at_goes n t r f clock from (message.BatchAck k number) c = record { own = message_own n f clock from (message.BatchAck k number); sends = message_go n t f clock from _ c }
message_at_goes n t r f clock from (message.Progress k wants done handed settled) c = record { own = message_own n f clock from (message.Progress k wants done handed settled); sends = message_go n t f clock from _ c }
message_at_goes n t r f clock from (message.Repl k number nth d v) c = record { own = message_own n f clock from (message.Repl k number nth d v); sends = message_go n t f clock from _ c }
message_at_goes n t r f clock from (message.ReplAck k number) c = record { own = message_own n f clock from (message.ReplAck k number); sends = message_go n t f clock from _ c }
message_at_goes n t r f clock from (message.Ask k number d) c = record { own = message_own n f clock from (message.Ask k number d); sends = message_go n t f clock from _ c }
message_at_goes n t r f clock from (message.Answer k number v) c = record { own = message_own n f clock from (message.Answer k number v); sends = message_go n t f clock from _ c }
message_at_goes n t r f clock from message.MapAsk c = record { own = message_own n f clock from message.MapAsk; sends = message_go n t f clock from _ c }
message_at_goes n t r f clock from _ c = stale_goes t f.me f

-- the whole step of a message at the node
pub receiver_go : (n : ℕ) (t : Traced) (net : Network) (r : NodeRequests) (clock : ℕ) (p : Posting) (m : Message) → Sound t → Directed t → WasPosted t p → message_of p.bytes ≡ Some m
    → AllGo t (written net p.to (with_requests r (facts_of t p.to) (asker_of p.from m) (due_at_node_of n r (facts_of t p.to) clock p.from m)))
receiver_go n t net r clock p m s h posted e =
    let f : Facts = facts_of t p.to in
    let me : f.me ≡ p.to = (s.nodes p.to).me in
    let keys : NodeKeys t f.me f = subst (λ (a : ℕ). NodeKeys t a f) (sym me) (s.nodes p.to) in
    subst (λ (a : ℕ). AllGo t (written net a (with_requests r f (asker_of p.from m) (due_at_node_of n r f clock p.from m)))) me
    (dressed_go t f.me net r f (asker_of p.from m) (due_at_node_of n r f clock p.from m) (view_known t f.me f keys)
    (effects_go t f.me net (due_at_node_of n r f clock p.from m) (message_at_goes n t r f clock p.from m (record {
      sound = s;
      keys = keys;
      goes = h.nodes p.to;
      says = s.sent posted.place p m posted.stands e;
      between = subst (λ (a : ℕ). GoesBetween t p.from a m) (sym me) (h.sent posted.place p m posted.stands e);
    }))))

-- ---- messages that reach the client

reply_go : (t : Traced) (from q : ℕ) (b : ReplyBody) (s : CallStep) → AllGo t (reply_lines from q b s)
reply_go t from q b call.Closed = (tt, tt)
reply_go t from q b call.Refused = (tt, tt)
reply_go t from q b call.Spent = (tt, tt)

records_go : (t : Traced) (s : ℕ) (rs : List Record) → AllGo t (record_lines s rs)
records_go t s [] = tt
records_go t s (r ∷ rs) = (tt, records_go t s rs)

page_go : (t : Traced) (p from : ℕ) (page : ScanPage) (s : ScanStep) → AllGo t (page_lines p from page s)
page_go t p from page scan.Spent = (tt, tt)
page_go t p from page scan.Again = (tt, tt)
page_go t p from page (scan.More count) = (tt, tt)
page_go t p from page (scan.Whole rs) = (tt, records_go t page.scan rs)

no_page_go : (t : Traced) (s : ℕ) (cause : ScanRefusal) (o : Option Scanning) → AllGo t (unscanned_if s cause o)
no_page_go t s cause None = (tt, tt)
no_page_go t s cause (Some x) = (tt, tt)

pub client_from_go : (t : Traced) (w : World) (from : ℕ) (m : Message) → AllGo t (due_at_client_from w from m)
client_from_go t w from (message.MapTable table) = (tt, tt)
client_from_go t w from (message.Reply key q b) = reply_go t from q b (call_step (item_under w.requests.calls.waiting q) b)
client_from_go t w from (message.ScanPage page) = page_go t (partition_of_scan (item_under w.requests.scans.running page.scan)) from page (scan_step w.requests.scans from page)
client_from_go t w from (message.ScanNo s cause) = no_page_go t s cause (item_under w.requests.scans.running s)
client_from_go t w from _ = (tt, tt)

-- ---- requests and scans of the client

named_goes : (t : Traced) (n : ℕ) (cs : Calls) (d : List ℕ) (w : Want) (o : Option ℕ) → Goes t n (calling_named cs d w o)
named_goes t n cs d w None = record { own = (tt, tt); sends = tt }
named_goes t n cs d w (Some to) = go (is_full cs)
  where
    go : (b : Bool) → Goes t n (if b then lines_only (line.CallFull ∷ []) else called cs d w to)
    go true = record { own = (tt, tt); sends = tt }
    go false = record { own = (tt, tt); sends = (read_call (λ m. GoesBetween t n to m) _ d w (λ i e q. tt), tt) }

again_goes : (t : Traced) (n : ℕ) (tables : Tables) (q : ℕ) (o : Option Call) → Goes t n (calling_again_if tables q o)
again_goes t n tables q None = record { own = (tt, tt); sends = tt }
again_goes t n tables q (Some c) = go (node_for tables (partition_of c.digest))
  where
    go : (o : Option ℕ) → Goes t n (called_again q c o)
    go None = record { own = tt; sends = tt }
    go (Some to) = record { own = (tt, tt); sends = (read_call (λ m. GoesBetween t n to m) q c.digest c.want (λ i e w. tt), tt) }

asked_goes : (t : Traced) (n s p : ℕ) (after : Option (List ℕ)) (to : ℕ) → Goes t n (page_asked_for s p after to)
asked_goes t n s p after to = record { own = (tt, tt); sends = (read_scan_ask (λ m. GoesBetween t n to m) s p after (λ i j d. tt), tt) }

begins_goes : (t : Traced) (n : ℕ) (ss : Scans) (p : ℕ) (o : Option ℕ) → Goes t n (scanning_named ss p o)
begins_goes t n ss p None = record { own = (tt, tt); sends = tt }
begins_goes t n ss p (Some to) = asked_goes t n _ p None to

on_goes : (t : Traced) (n : ℕ) (tables : Tables) (s : ℕ) (o : Option Scanning) → Goes t n (scanning_on_if tables s o)
on_goes t n tables s None = record { own = (tt, tt); sends = tt }
on_goes t n tables s (Some x) = go (node_for tables x.partition)
  where
    go : (o : Option ℕ) → Goes t n (asked_on s x o)
    go None = record { own = tt; sends = tt }
    go (Some to) = asked_goes t n s x.partition (position x) to

pub calling_go : (t : Traced) (net : Network) (tables : Tables) (cs : Calls) (d : List ℕ) (w : Want) → AllGo t (written net client (calling tables cs d w))
calling_go t net tables cs d w = effects_go t client net _ (named_goes t client cs d w (node_for tables (partition_of d)))

pub calling_again_go : (t : Traced) (net : Network) (tables : Tables) (cs : Calls) (q : ℕ) → AllGo t (written net client (calling_again tables cs q))
calling_again_go t net tables cs q = effects_go t client net _ (again_goes t client tables q (item_under cs.waiting q))

pub scanning_go : (t : Traced) (net : Network) (tables : Tables) (ss : Scans) (p : ℕ) → AllGo t (written net client (scanning tables ss p))
scanning_go t net tables ss p = effects_go t client net _ (begins_goes t client ss p (node_for tables p))

pub scanning_on_go : (t : Traced) (net : Network) (tables : Tables) (ss : Scans) (q : ℕ) → AllGo t (written net client (scanning_on tables ss q))
scanning_on_go t net tables ss q = effects_go t client net _ (on_goes t client tables q (item_under ss.running q))

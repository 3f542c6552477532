-- What is due of nodes that have requests of others, and of the client's requests and scans, may stand.
use Rattle.std.proofs.Common.{◌≡◌, ℕ, ◌==◌, Bool, true, false, List, [], ◌∷◌, Option, Some, None, refl, sym, subst, map, if◌then◌else◌}
use Rattle.std.specs.Prelude.{length}
use Rattle.conflict_order.specs.Contents.{Record}
use Rattle.conflict_order.specs.declared.want.Want.{Want}
use Rattle.cluster_types.specs.declared.cluster_key.ClusterKey.{ClusterKey}
use Rattle.cluster_types.specs.Endpoints.{client}
use Rattle.cluster_types.specs.Partitions.{partition_of}
use Rattle.journal_lines.specs.declared.line.Line.TheVariants as line
use Rattle.journal_lines.specs.declared.refusal.Refusal.{Refusal}
use Rattle.journal_lines.specs.declared.refusal.Refusal.TheVariants as refusal
use Rattle.journal_readings.specs.Messages.{Posting, Arrival}
use Rattle.wire_messages.specs.declared.message.Message.{Message}
use Rattle.wire_messages.specs.declared.message.Message.TheVariants as message
use Rattle.wire_messages.specs.declared.reply.ReplyBody.{ReplyBody}
use Rattle.wire_messages.specs.declared.scan.ScanPage.{ScanPage}
use Rattle.wire_messages.specs.declared.scan.ScanRefusal.{ScanRefusal}
use Rattle.wire_messages.specs.Decoding.{message_of}
use Rattle.node_rules.specs.Client.{Tables, node_for}
use Rattle.node_rules.specs.Effects.{lines_only, sends_only}
use Rattle.node_rules.specs.Facts.{Facts, view_key, list_at}
use Rattle.node_rules.specs.Notes.{reached, in_view}
use Rattle.node_rules.specs.Requests.{due_request, request_refusal}
use Rattle.node_rules.specs.StaleMessages.{stale}
use Rattle.request_rules.specs.declared.call.Call.{Call}
use Rattle.request_rules.specs.declared.call.CallStep.{CallStep}
use Rattle.request_rules.specs.declared.call.CallStep.TheVariants as call
use Rattle.request_rules.specs.declared.passed.Passed.{Passed}
use Rattle.request_rules.specs.declared.passed.ReplyStep.{ReplyStep}
use Rattle.request_rules.specs.declared.passed.ReplyStep.TheVariants as replied
use Rattle.request_rules.specs.declared.scanning.Scanning.{Scanning}
use Rattle.request_rules.specs.declared.scanning.ScanStep.{ScanStep}
use Rattle.request_rules.specs.declared.scanning.ScanStep.TheVariants as scan
use Rattle.request_rules.specs.declared.taken.Asker.{Asker}
use Rattle.request_rules.specs.declared.taken.Outcome.{Outcome}
use Rattle.request_rules.specs.declared.taken.Outcome.TheVariants as outcome
use Rattle.request_rules.specs.declared.taken.Taken.{Taken}
use Rattle.request_rules.specs.ByNumber.{ByNumber, item_under}
use Rattle.request_rules.specs.Calls.{call_step, called, called_again, calling, calling_again, calling_again_if, calling_named, is_full, reply_lines}
use Rattle.request_rules.specs.Dressing.{with_requests}
use Rattle.request_rules.specs.NodeMessages.{due_at_node_of, on_proxy, taking, taking_if}
use Rattle.request_rules.specs.Pages.{on_scan_ask, page_limit, page_of, scan_answer, scan_page, scan_refusal}
use Rattle.request_rules.specs.Passing.{on_proxy_reply, passed_on, passing, passing_again, passing_if, proxied_if, proxy_of, reply_step, waits_for}
use Rattle.request_rules.specs.Replies.{asker_of}
use Rattle.request_rules.specs.Requests.{Calls, NodeRequests, PassedOn, Scans}
use Rattle.request_rules.specs.Scans.{asked_on, page_asked_for, page_lines, partition_of_scan, position, record_lines, scan_step, scanning, scanning_named, scanning_on, scanning_on_if, unscanned_if}
use Rattle.cluster_rules.specs.DueEvents.{written}
use Rattle.cluster_rules.specs.Marks.{Writes, came_to_node}
use Rattle.cluster_rules.specs.Network.{Network}
use Rattle.cluster_rules.specs.RequestEvents.{came_to_client_from, due_at_client_from}
use Rattle.cluster_rules.specs.World.{World}
use Rattle.key_laws.specs.Licences.{IsPromisedKey, Says, MaySendKey, LicensedMarks}
use Rattle.key_laws.specs.Sound.{NodeKeys, Sound}
use Rattle.key_laws.specs.Traced.{Traced, facts_of, traced_after}
use Rattle.key_laws.proofs.Dressed.{dressed_ok, reply_posts}
use Rattle.key_laws.proofs.DueMessages.{Came, message_ok, nothing_quiet, spent_quiet, stale_quiet}
use Rattle.key_laws.proofs.DueRequests.{request_quiet}
use Rattle.key_laws.proofs.DueViews.{view_known}
use Rattle.key_laws.proofs.Frames.{at_here}
use Rattle.key_laws.proofs.Growth.{says_grows, node_grows}
use Rattle.key_laws.proofs.Kept.{Keeps, WasPosted, kept_node}
use Rattle.key_laws.proofs.Quiet.{writes, Posts, posts_of, Quiet, quiet_ok}
use Rattle.key_laws.proofs.RequestWire.{read_proxy, read_call, read_scan_ask, read_scan_page, read_scan_no}

-- ---- requests that a node passes on

proxy_posts : (t : Traced) (n to : ℕ) (key : ClusterKey) (x : ℕ) (d : List ℕ) (w : Want) → IsPromisedKey t key → Posts t n ((to, message.Proxy key x d w) ∷ [])
proxy_posts t n to key x d w k = (posts_of t n _ (read_proxy (λ m. Says t n m × MaySendKey t n m) key x d w k.field (λ i e q. (k, tt))), tt)

passed_on_quiet : (t : Traced) (n : ℕ) (r : PassedOn) (f : Facts) (d : List ℕ) (w : Want) (to : ℕ) → IsPromisedKey t (view_key f) → Quiet t n (passed_on r f d w to)
passed_on_quiet t n r f d w to k = record { lines = (k, tt); posts = proxy_posts t n to (view_key f) _ d w k }

pub passing_quiet : (t : Traced) (n : ℕ) (r : PassedOn) (f : Facts) (clock : ℕ) (d : List ℕ) (w : Want) → NodeKeys t f.me f → Quiet t n (passing r f clock d w)
passing_quiet t n r f clock d w h = go (request_refusal f (list_at f (partition_of d)) d)
  where
    to_other : (a : ℕ) (b : Bool) → Quiet t n (if b then due_request f clock d w else passed_on r f d w a)
    to_other a true = request_quiet t n f clock d w h
    to_other a false = passed_on_quiet t n r f d w a (view_known t f.me f h)

    go : (o : Option Refusal) → Quiet t n (passing_if r f clock d w o)
    go None = request_quiet t n f clock d w h
    go (Some refusal.Down) = request_quiet t n f clock d w h
    go (Some refusal.NoView) = request_quiet t n f clock d w h
    go (Some (refusal.Exchanging m)) = request_quiet t n f clock d w h
    go (Some (refusal.NotMaster a)) = to_other a (a == f.me)
    go (Some (refusal.Busy x)) = request_quiet t n f clock d w h

pub passing_again_quiet : (t : Traced) (n : ℕ) (r : PassedOn) (f : Facts) → IsPromisedKey t (view_key f) → Quiet t n (passing_again r f)
passing_again_quiet t n r f k = go f.up
  where
    each : (ps : ByNumber Passed) → Posts t n (map (λ (p : ℕ × Passed). (p.1.to, proxy_of (view_key f) p.0 p.1)) ps)
    each [] = tt
    each (p ∷ ps) = ((proxy_posts t n p.1.to (view_key f) p.0 p.1.digest p.1.want k).0, each ps)

    go : (b : Bool) → Quiet t n (if b then sends_only (map (λ (p : ℕ × Passed). (p.1.to, proxy_of (view_key f) p.0 p.1)) r.waiting) else lines_only (line.Down f.me ∷ []))
    go true = record { lines = tt; posts = each r.waiting }
    go false = record { lines = (tt, tt); posts = tt }

-- ---- messages that reach a node

taking_quiet : (t : Traced) (n : ℕ) (f : Facts) (clock : ℕ) (a : Asker) (d : List ℕ) (w : Want) (o : Option Outcome) → NodeKeys t f.me f → Quiet t n (taking_if f clock a d w o)
taking_quiet t n f clock a d w None h = request_quiet t n f clock d w h
taking_quiet t n f clock a d w (Some (outcome.Open x)) h = nothing_quiet t n
taking_quiet t n f clock a d w (Some (outcome.Kept b)) h = record { lines = tt; posts = (reply_posts t n (view_key f) a b (view_known t f.me f h), tt) }

proxy_quiet : (t : Traced) (n : ℕ) (taken : List Taken) (f : Facts) (clock from : ℕ) (key : ClusterKey) (x : ℕ) (d : List ℕ) (w : Want) → NodeKeys t f.me f → Quiet t n (on_proxy taken f clock from key x d w)
proxy_quiet t n taken f clock from key x d w h = go (in_view f key)
  where
    go : (b : Bool) → Quiet t n (if b then taking taken f clock (record { from = from; number = x }) d w else stale f)
    go true = taking_quiet t n f clock (record { from = from; number = x }) d w _ h
    go false = stale_quiet t n f

proxy_reply_quiet : (t : Traced) (n : ℕ) (r : PassedOn) (f : Facts) (from : ℕ) (key : ClusterKey) (x : ℕ) (b : ReplyBody) → IsPromisedKey t (view_key f) → Quiet t n (on_proxy_reply r f from key x b)
proxy_reply_quiet t n r f from key x b k = go (in_view f key)
  where
    step : (s : ReplyStep) → Quiet t n (proxied_if f x b s)
    step replied.Taken = record { lines = (k, tt); posts = tt }
    step replied.Spent = spent_quiet t n f

    go : (c : Bool) → Quiet t n (if c then proxied_if f x b (reply_step (waits_for from (item_under r.waiting x))) else stale f)
    go true = step (reply_step (waits_for from (item_under r.waiting x)))
    go false = stale_quiet t n f

scan_ask_quiet : (t : Traced) (n : ℕ) (f : Facts) (s p : ℕ) (after : Option (List ℕ)) → IsPromisedKey t (view_key f) → Quiet t n (on_scan_ask f s p after)
scan_ask_quiet t n f s p after k = go (scan_refusal f p)
  where
    page : ScanPage
    page = scan_page f s p after (page_of f p after page_limit)

    go : (o : Option ScanRefusal) → Quiet t n (sends_only ((client, scan_answer f s p after o) ∷ []))
    go None = record { lines = tt; posts = (posts_of t n _ (read_scan_page (λ m. Says t n m × MaySendKey t n m) page k.field (λ other e. (subst (IsPromisedKey t) (sym e) k, tt))), tt) }
    go (Some cause) = record { lines = tt; posts = (posts_of t n _ (read_scan_no (λ m. Says t n m × MaySendKey t n m) s cause (λ i c. (tt, tt))), tt) }

-- what is due of a message at the node may stand, before what requests add
message_at_ok : (n : ℕ) (t : Traced) (net : Network) (r : NodeRequests) (f : Facts) (clock from : ℕ) (m : Message) → Came t f from m → LicensedMarks t (writes (written net f.me (due_at_node_of n r f clock from m)))
message_at_ok n t net r f clock from (message.Proxy key x d w) c = quiet_ok t f.me net _ c.sound (proxy_quiet t f.me r.taken f clock from key x d w c.keys)
message_at_ok n t net r f clock from (message.ProxyReply key x b) c = quiet_ok t f.me net _ c.sound (proxy_reply_quiet t f.me r.passed f from key x b (view_known t f.me f c.keys))
message_at_ok n t net r f clock from (message.Call q d w) c = quiet_ok t f.me net _ c.sound (taking_quiet t f.me f clock (record { from = client; number = q }) d w _ c.keys)
message_at_ok n t net r f clock from (message.ScanAsk s p after) c = quiet_ok t f.me net _ c.sound (scan_ask_quiet t f.me f s p after (view_known t f.me f c.keys))
message_at_ok n t net r f clock from (message.Heartbeat view promised hears role) c = message_ok n t net f clock from (message.Heartbeat view promised hears role) c
message_at_ok n t net r f clock from (message.Propose k ms) c = message_ok n t net f clock from (message.Propose k ms) c
message_at_ok n t net r f clock from (message.Accept k) c = message_ok n t net f clock from (message.Accept k) c
message_at_ok n t net r f clock from (message.Refuse k promised) c = message_ok n t net f clock from (message.Refuse k promised) c
message_at_ok n t net r f clock from (message.Commit k ms) c = message_ok n t net f clock from (message.Commit k ms) c
message_at_ok n t net r f clock from (message.State k wants row) c = message_ok n t net f clock from (message.State k wants row) c
message_at_ok n t net r f clock from (message.Batch b) c = message_ok n t net f clock from (message.Batch b) c
message_at_ok n t net r f clock from (message.BatchAck k number) c = message_ok n t net f clock from (message.BatchAck k number) c
message_at_ok n t net r f clock from (message.Progress k wants done handed settled) c = message_ok n t net f clock from (message.Progress k wants done handed settled) c
message_at_ok n t net r f clock from (message.Repl k number nth d v) c = message_ok n t net f clock from (message.Repl k number nth d v) c
message_at_ok n t net r f clock from (message.ReplAck k number) c = message_ok n t net f clock from (message.ReplAck k number) c
message_at_ok n t net r f clock from (message.Ask k number d) c = message_ok n t net f clock from (message.Ask k number d) c
message_at_ok n t net r f clock from (message.Answer k number v) c = message_ok n t net f clock from (message.Answer k number v) c
message_at_ok n t net r f clock from message.MapAsk c = message_ok n t net f clock from message.MapAsk c
message_at_ok n t net r f clock from (message.MapTable table) c = message_ok n t net f clock from (message.MapTable table) c
message_at_ok n t net r f clock from (message.Reply k q b) c = message_ok n t net f clock from (message.Reply k q b) c
message_at_ok n t net r f clock from (message.ScanPage page) c = message_ok n t net f clock from (message.ScanPage page) c
message_at_ok n t net r f clock from (message.ScanNo s cause) c = message_ok n t net f clock from (message.ScanNo s cause) c

-- the whole step of a message that reached the node
pub receiver_ok : (n : ℕ) (t : Traced) (net : Network) (r : NodeRequests) (clock : ℕ) (p : Posting) (m : Message) → Sound t → WasPosted t p → message_of p.bytes ≡ Some m
    → LicensedMarks (record { world = came_to_node t.world (record { from = p.from; to = p.to; message = m }); lists = t.lists; entered = t.entered }) (writes (written net p.to (with_requests r (facts_of t p.to) (asker_of p.from m) (due_at_node_of n r (facts_of t p.to) clock p.from m))))
receiver_ok n t net r clock p m s posted e =
    let f : Facts = facts_of t p.to in
    let x : Arrival = record { from = p.from; to = p.to; message = m } in
    let u : Traced = record { world = came_to_node t.world x; lists = t.lists; entered = t.entered } in
    let says : Says t p.from m = s.sent posted.place p m posted.stands e in
    let k : Keeps t u = kept_node t x says s in
    let me : f.me ≡ p.to = (s.nodes p.to).me in
    let keys : NodeKeys u f.me f = subst (λ (n : ℕ). NodeKeys u n f) (sym me) (node_grows t u k.grows p.to f (s.nodes p.to)) in
    subst (λ (a : ℕ). LicensedMarks u (writes (written net a (with_requests r f (asker_of p.from m) (due_at_node_of n r f clock p.from m))))) me
    (dressed_ok u f.me net r f (asker_of p.from m) (due_at_node_of n r f clock p.from m) k.sound (view_known u f.me f keys)
    (message_at_ok n u net r f clock p.from m (record {
      sound = k.sound;
      keys = keys;
      says = says_grows t u k.grows p.from m says;
      was_sent = record { number = posted.place; posting = p; stands = posted.stands; read = e };
      here = at_here t.world.facts p.to f.me (reached f p.from m) (sym me) (λ (g : Facts). g ≡ reached f p.from m) refl;
    })))

-- ---- messages that reach the client

reply_ok : (t : Traced) (from q : ℕ) (b : ReplyBody) (s : CallStep) → LicensedMarks t (writes (reply_lines from q b s))
reply_ok t from q b call.Closed = (tt, tt)
reply_ok t from q b call.Refused = (tt, tt)
reply_ok t from q b call.Spent = (tt, tt)

records_ok : (t : Traced) (s : ℕ) (rs : List Record) → LicensedMarks t (writes (record_lines s rs))
records_ok t s [] = tt
records_ok t s (r ∷ rs) = (tt, records_ok (traced_after t (Writes (line.Record s r.0 r.1))) s rs)

page_ok : (t : Traced) (p from : ℕ) (page : ScanPage) (s : ScanStep) → IsPromisedKey t page.key → LicensedMarks t (writes (page_lines p from page s))
page_ok t p from page scan.Spent k = (tt, tt)
page_ok t p from page scan.Again k = (tt, tt)
page_ok t p from page (scan.More count) k = (tt, tt)
page_ok t p from page (scan.Whole rs) k = (k, records_ok (traced_after t (Writes (line.Scanned page.scan from page.key p (length rs)))) page.scan rs)

no_page_ok : (t : Traced) (s : ℕ) (cause : ScanRefusal) (o : Option Scanning) → LicensedMarks t (writes (unscanned_if s cause o))
no_page_ok t s cause None = (tt, tt)
no_page_ok t s cause (Some x) = (tt, tt)

pub client_from_ok : (t : Traced) (w : World) (from : ℕ) (m : Message) → Says t from m → LicensedMarks (record { world = came_to_client_from t.world from m; lists = t.lists; entered = t.entered }) (writes (due_at_client_from w from m))
client_from_ok t w from (message.MapTable table) says = (record { bound = says.bound; field = says.field }, tt)
client_from_ok t w from (message.Reply key q b) says = reply_ok _ from q b (call_step (item_under w.requests.calls.waiting q) b)
client_from_ok t w from (message.ScanPage page) says = page_ok _ (partition_of_scan (item_under w.requests.scans.running page.scan)) from page (scan_step w.requests.scans from page) (record { bound = says.bound; field = says.field })
client_from_ok t w from (message.ScanNo s cause) says = no_page_ok _ s cause (item_under w.requests.scans.running s)
client_from_ok t w from _ says = (tt, tt)

-- ---- requests and scans of the client

calling_quiet : (t : Traced) (n : ℕ) (cs : Calls) (d : List ℕ) (w : Want) (o : Option ℕ) → Quiet t n (calling_named cs d w o)
calling_quiet t n cs d w None = record { lines = (tt, tt); posts = tt }
calling_quiet t n cs d w (Some to) = go (is_full cs)
  where
    go : (b : Bool) → Quiet t n (if b then lines_only (line.CallFull ∷ []) else called cs d w to)
    go true = record { lines = (tt, tt); posts = tt }
    go false = record { lines = (tt, tt); posts = (posts_of t n _ (read_call (λ m. Says t n m × MaySendKey t n m) _ d w (λ i e q. (tt, tt))), tt) }

again_quiet : (t : Traced) (n : ℕ) (tables : Tables) (q : ℕ) (o : Option Call) → Quiet t n (calling_again_if tables q o)
again_quiet t n tables q None = record { lines = (tt, tt); posts = tt }
again_quiet t n tables q (Some c) = go (node_for tables (partition_of c.digest))
  where
    go : (o : Option ℕ) → Quiet t n (called_again q c o)
    go None = nothing_quiet t n
    go (Some to) = record { lines = (tt, tt); posts = (posts_of t n _ (read_call (λ m. Says t n m × MaySendKey t n m) q c.digest c.want (λ i e q. (tt, tt))), tt) }

asked_quiet : (t : Traced) (n s p : ℕ) (after : Option (List ℕ)) (to : ℕ) → Quiet t n (page_asked_for s p after to)
asked_quiet t n s p after to = record { lines = (tt, tt); posts = (posts_of t n _ (read_scan_ask (λ m. Says t n m × MaySendKey t n m) s p after (λ i j d. (tt, tt))), tt) }

scanning_quiet : (t : Traced) (n : ℕ) (ss : Scans) (p : ℕ) (o : Option ℕ) → Quiet t n (scanning_named ss p o)
scanning_quiet t n ss p None = record { lines = (tt, tt); posts = tt }
scanning_quiet t n ss p (Some to) = asked_quiet t n _ p None to

scanning_on_quiet : (t : Traced) (n : ℕ) (tables : Tables) (s : ℕ) (o : Option Scanning) → Quiet t n (scanning_on_if tables s o)
scanning_on_quiet t n tables s None = record { lines = (tt, tt); posts = tt }
scanning_on_quiet t n tables s (Some x) = go (node_for tables x.partition)
  where
    go : (o : Option ℕ) → Quiet t n (asked_on s x o)
    go None = nothing_quiet t n
    go (Some to) = asked_quiet t n s x.partition (position x) to

pub calling_ok : (t : Traced) (net : Network) (tables : Tables) (cs : Calls) (d : List ℕ) (w : Want) → Sound t → LicensedMarks t (writes (written net client (calling tables cs d w)))
calling_ok t net tables cs d w s = quiet_ok t client net _ s (calling_quiet t client cs d w (node_for tables (partition_of d)))

pub calling_again_ok : (t : Traced) (net : Network) (tables : Tables) (cs : Calls) (q : ℕ) → Sound t → LicensedMarks t (writes (written net client (calling_again tables cs q)))
calling_again_ok t net tables cs q s = quiet_ok t client net _ s (again_quiet t client tables q (item_under cs.waiting q))

pub scanning_ok : (t : Traced) (net : Network) (tables : Tables) (ss : Scans) (p : ℕ) → Sound t → LicensedMarks t (writes (written net client (scanning tables ss p)))
scanning_ok t net tables ss p s = quiet_ok t client net _ s (scanning_quiet t client ss p (node_for tables p))

pub scanning_on_ok : (t : Traced) (net : Network) (tables : Tables) (ss : Scans) (q : ℕ) → Sound t → LicensedMarks t (writes (written net client (scanning_on tables ss q)))
scanning_on_ok t net tables ss q s = quiet_ok t client net _ s (scanning_on_quiet t client tables q (item_under ss.running q))

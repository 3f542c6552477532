-- The messages that a node makes due for requests that come and go as messages are read as they were sent, as far as a licence
-- reads them.
use Rattle.std.proofs.Common.{ℕ, ◌+◌, ◌<◌, ◌^◌, ◌==◌, Bool, true, false, List, [], ◌∷◌, Option, Some, None, refl, if◌then◌else◌}
use Rattle.conflict_order.specs.declared.want.Want.{Want}
use Rattle.cluster_types.specs.declared.cluster_key.ClusterKey.{ClusterKey}
use Rattle.cluster_types.specs.Endpoints.{client}
use Rattle.cluster_types.specs.Partitions.{partition_count, partition_of}
use Rattle.journal_lines.specs.declared.refusal.Refusal.{Refusal}
use Rattle.journal_lines.specs.declared.refusal.Refusal.TheVariants as refusal
use Rattle.wire_messages.specs.declared.message.Message.{Message}
use Rattle.wire_messages.specs.declared.message.Message.TheVariants as message
use Rattle.wire_messages.specs.declared.reply.ReplyBody.{ReplyBody}
use Rattle.wire_messages.specs.declared.scan.ScanRefusal.{ScanRefusal}
use Rattle.wire_messages.specs.Proper.{IsProper}
use Rattle.wire_messages.specs.Requests.{IsWant}
use Rattle.wire_messages.specs.Versions.{IsDigest}
use Rattle.node_rules.specs.Effects.{sends_only}
use Rattle.node_rules.specs.Facts.{Facts, view_key, list_at}
use Rattle.node_rules.specs.Notes.{in_view}
use Rattle.node_rules.specs.Requests.{due_request, request_refusal}
use Rattle.node_rules.specs.StaleMessages.{stale}
use Rattle.request_rules.specs.declared.passed.ReplyStep.{ReplyStep}
use Rattle.request_rules.specs.declared.passed.ReplyStep.TheVariants as replied
use Rattle.request_rules.specs.declared.taken.Asker.{Asker}
use Rattle.request_rules.specs.declared.taken.Outcome.{Outcome}
use Rattle.request_rules.specs.declared.taken.Outcome.TheVariants as outcome
use Rattle.request_rules.specs.ByNumber.{item_under}
use Rattle.request_rules.specs.NodeMessages.{due_at_node_of, taking, taking_if}
use Rattle.request_rules.specs.Pages.{on_scan_ask, scan_answer, scan_refusal}
use Rattle.request_rules.specs.Passing.{on_proxy_reply, passed_on, passing, passing_if, proxied_if, reply_step, waits_for}
use Rattle.request_rules.specs.Replies.{reply_to}
use Rattle.request_rules.specs.Requests.{NodeRequests, PassedOn}
use Rattle.request_rules.specs.TakenUp.{outcome_for}
use Rattle.cluster_laws.proofs.At.{differ}
use Rattle.run_laws.specs.Spelled.{AreReadInRange}
use Rattle.run_laws.proofs.RangedSends.{StoodFacts, request_read, message_read}

-- what a node that stands so may be asked at that time of its clock
pub record MayBeAsked (lines : ℕ) (f : Facts) (clock : ℕ) : Type 0 where
  pub few : lines + 1 < 2 ^ 32
  pub time : clock < 2 ^ 64
  pub stood : StoodFacts lines f

plain_reads : {lines : ℕ} {f : Facts} {clock : ℕ} (d : List ℕ) (w : Want) → MayBeAsked lines f clock → IsDigest d → IsWant w → AreReadInRange (due_request f clock d w).sends
plain_reads {lines} {f} {clock} d w h digest fits = request_read lines f clock d w h.few h.time digest fits h.stood

-- ---- a request at a node, which may pass it on

pub passing_reads : {lines : ℕ} {f : Facts} {clock : ℕ} (r : PassedOn) (d : List ℕ) (w : Want) → MayBeAsked lines f clock → IsDigest d → IsWant w → AreReadInRange (passing r f clock d w).sends
passing_reads {lines} {f} {clock} r d w h digest fits = go (request_refusal f (list_at f (partition_of d)) d)
  where
    to_other : (a : ℕ) (b : Bool) → AreReadInRange (if b then due_request f clock d w else passed_on r f d w a).sends
    to_other a true = plain_reads d w h digest fits
    to_other a false = ((λ e. differ e refl), tt)

    go : (o : Option Refusal) → AreReadInRange (passing_if r f clock d w o).sends
    go None = plain_reads d w h digest fits
    go (Some refusal.Down) = plain_reads d w h digest fits
    go (Some refusal.NoView) = plain_reads d w h digest fits
    go (Some (refusal.Exchanging m)) = plain_reads d w h digest fits
    go (Some (refusal.NotMaster a)) = to_other a (a == f.me)
    go (Some (refusal.Busy x)) = plain_reads d w h digest fits

-- ---- a message at a node

reply_reads : (to : ℕ) (key : ClusterKey) (a : Asker) (b : ReplyBody) → AreReadInRange ((to, reply_to key a b) ∷ [])
reply_reads to key a b = go (a.from == client)
  where
    go : (c : Bool) → AreReadInRange ((to, if c then message.Reply key a.number b else message.ProxyReply key a.number b) ∷ [])
    go true = ((λ e. differ e refl), tt)
    go false = ((λ e. differ e refl), tt)

taking_reads : {lines : ℕ} {f : Facts} {clock : ℕ} (d : List ℕ) (w : Want) (a : Asker) (o : Option Outcome) → MayBeAsked lines f clock → IsDigest d → IsWant w → AreReadInRange (taking_if f clock a d w o).sends
taking_reads {lines} {f} {clock} d w a None h digest fits = plain_reads d w h digest fits
taking_reads {lines} {f} {clock} d w a (Some (outcome.Open x)) h digest fits = tt
taking_reads {lines} {f} {clock} d w a (Some (outcome.Kept b)) h digest fits = reply_reads a.from (view_key f) a b

proxy_reply_reads : (r : PassedOn) (f : Facts) (from : ℕ) (key : ClusterKey) (x : ℕ) (b : ReplyBody) → AreReadInRange (on_proxy_reply r f from key x b).sends
proxy_reply_reads r f from key x b = go (in_view f key)
  where
    step : (s : ReplyStep) → AreReadInRange (proxied_if f x b s).sends
    step replied.Taken = tt
    step replied.Spent = tt

    go : (c : Bool) → AreReadInRange (if c then proxied_if f x b (reply_step (waits_for from (item_under r.waiting x))) else stale f).sends
    go true = step (reply_step (waits_for from (item_under r.waiting x)))
    go false = tt

scan_ask_reads : (f : Facts) (s p : ℕ) (after : Option (List ℕ)) → AreReadInRange (on_scan_ask f s p after).sends
scan_ask_reads f s p after = go (scan_refusal f p)
  where
    go : (o : Option ScanRefusal) → AreReadInRange (sends_only ((client, scan_answer f s p after o) ∷ [])).sends
    go None = ((λ e. differ e refl), tt)
    go (Some cause) = ((λ e. differ e refl), tt)

pub message_at_reads : {lines : ℕ} {f : Facts} {clock : ℕ} (r : NodeRequests) (from : ℕ) (m : Message) → IsProper m → MayBeAsked lines f clock → AreReadInRange (due_at_node_of partition_count r f clock from m).sends
message_at_reads {lines} {f} {clock} r from (message.Proxy key x d w) p h = go (in_view f key)
  where
    a : Asker
    a = record { from = from; number = x }

    go : (b : Bool) → AreReadInRange (if b then taking r.taken f clock (record { from = from; number = x }) d w else stale f).sends
    go true = taking_reads d w a (outcome_for r.taken a) h p.2 p.3
    go false = tt
message_at_reads {lines} {f} {clock} r from (message.ProxyReply key x b) p h = proxy_reply_reads r.passed f from key x b
message_at_reads {lines} {f} {clock} r from (message.Call q d w) p h = taking_reads d w (record { from = client; number = q }) (outcome_for r.taken (record { from = client; number = q })) h p.1 p.2
message_at_reads {lines} {f} {clock} r from (message.ScanAsk s q after) p h = scan_ask_reads f s q after
message_at_reads {lines} {f} {clock} r from (message.Heartbeat view promised hears role) p h = message_read lines f clock from (message.Heartbeat view promised hears role) h.few h.time p h.stood
message_at_reads {lines} {f} {clock} r from (message.Propose k ms) p h = message_read lines f clock from (message.Propose k ms) h.few h.time p h.stood
message_at_reads {lines} {f} {clock} r from (message.Accept k) p h = message_read lines f clock from (message.Accept k) h.few h.time p h.stood
message_at_reads {lines} {f} {clock} r from (message.Refuse k promised) p h = message_read lines f clock from (message.Refuse k promised) h.few h.time p h.stood
message_at_reads {lines} {f} {clock} r from (message.Commit k ms) p h = message_read lines f clock from (message.Commit k ms) h.few h.time p h.stood
message_at_reads {lines} {f} {clock} r from (message.State k wants row) p h = message_read lines f clock from (message.State k wants row) h.few h.time p h.stood
message_at_reads {lines} {f} {clock} r from (message.Batch b) p h = message_read lines f clock from (message.Batch b) h.few h.time p h.stood
message_at_reads {lines} {f} {clock} r from (message.BatchAck k number) p h = message_read lines f clock from (message.BatchAck k number) h.few h.time p h.stood
message_at_reads {lines} {f} {clock} r from (message.Progress k wants done handed settled) p h = message_read lines f clock from (message.Progress k wants done handed settled) h.few h.time p h.stood
message_at_reads {lines} {f} {clock} r from (message.Repl k number nth d v) p h = message_read lines f clock from (message.Repl k number nth d v) h.few h.time p h.stood
message_at_reads {lines} {f} {clock} r from (message.ReplAck k number) p h = message_read lines f clock from (message.ReplAck k number) h.few h.time p h.stood
message_at_reads {lines} {f} {clock} r from (message.Ask k number d) p h = message_read lines f clock from (message.Ask k number d) h.few h.time p h.stood
message_at_reads {lines} {f} {clock} r from (message.Answer k number v) p h = message_read lines f clock from (message.Answer k number v) h.few h.time p h.stood
message_at_reads {lines} {f} {clock} r from message.MapAsk p h = message_read lines f clock from message.MapAsk h.few h.time p h.stood
message_at_reads {lines} {f} {clock} r from _ p h = tt

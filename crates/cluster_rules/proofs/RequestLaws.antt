-- What is kept of requests is what lines make of it, and what is in hand of them is the event's.
use Rattle.std.proofs.Common.{◌≡◌, ℕ, ◌==◌, Bool, true, false, List, Option, Some, None, refl, ap, ◌∙◌}
use Rattle.std.specs.Prelude.{if◌then◌else◌, option_and_then, option_map}
use Rattle.std.proofs.Math.Path.{fun_ext}
use Rattle.wire_messages.specs.declared.message.Message.{Message}
use Rattle.wire_messages.specs.declared.message.Message.TheVariants as message
use Rattle.wire_messages.specs.Decoding.{message_of}
use Rattle.journal_lines.specs.declared.line.Line.{Line}
use Rattle.journal_lines.specs.declared.line.Line.TheVariants as line
use Rattle.journal_lines.specs.declared.refusal.Refusal.{Refusal}
use Rattle.node_rules.specs.Facts.{Facts}
use Rattle.node_rules.specs.Messages.{client, due_message_of}
use Rattle.node_rules.specs.Notes.{noted}
use Rattle.request_rules.specs.declared.taken.Asker.{Asker}
use Rattle.request_rules.specs.LineNotes.{requests_noted}
use Rattle.request_rules.specs.Replies.{asker_of, want_in_message}
use Rattle.request_rules.specs.Requests.{Requests}
use Rattle.journal_readings.specs.Messages.{Arrival, Posting, arrived, arrived_cut}
use Rattle.cluster_rules.specs.Marks.{after_line, arrival_under, came, came_to_client, came_to_node, sent_by}
use Rattle.cluster_rules.specs.Network.{posting, posting_at}
use Rattle.cluster_rules.specs.World.{World, changed_at}
use Rattle.cluster_rules.proofs.KeptFacts.{num_same}

-- ---- lines

came_requests : (w : World) (x : Option Arrival) → (came w x).requests ≡ w.requests
came_requests w None = refl
came_requests w (Some x) = go (x.to == client)
  where
    at_client : (m : Message) → (came_to_client w m).requests ≡ w.requests
    at_client (message.MapTable t) = refl
    at_client m = refl

    go : (b : Bool) → (if b then came_to_client w x.message else came_to_node w x).requests ≡ w.requests
    go true = at_client x.message
    go false = refl

sent_requests : (w : World) (a b : ℕ) (m : Option Message) → (sent_by w a b m).requests ≡ w.requests
sent_requests w a b None = refl
sent_requests w a b (Some m) = refl

-- each line makes of the requests what their rules do
pub line_requests : (w : World) (l : Line) → (after_line w l).requests ≡ requests_noted w.asker w.want w.requests l
line_requests w (line.Deliver i a b) = came_requests w (option_and_then (arrived b) (posting_at w.network i))
line_requests w (line.Repeat i a b) = came_requests w (option_and_then (arrived b) (posting_at w.network i))
line_requests w (line.Cut i a b size) = came_requests w (option_and_then (arrived_cut b size) (posting_at w.network i))
line_requests w (line.Sent i a b bytes) = sent_requests (record w { network = posting w.network i (record { from = a; to = b; bytes = bytes }) }) a b (message_of bytes)
line_requests w l = refl

-- a function with the value that it has
same_at : {A : Type 0} (f : ℕ → A) (n : ℕ) → changed_at f n (f n) ≡ f
same_at {A} f n = fun_ext (λ m. go m (n == m) refl)
  where
    go : (m : ℕ) (b : Bool) → (n == m) ≡ b → (if b then f n else f m) ≡ f m
    go m true e = ap f (num_same n m e)
    go m false e = refl

-- a refusal where nobody asks by a message
pub unasked : (w : World) (n : ℕ) (d : List ℕ) (cause : Refusal) → w.asker ≡ None → after_line w (line.Refused n d cause) ≡ w
unasked w n d cause none =
    ap (λ (rs : Requests). record w { requests = rs })
    (ap (λ (a : Option Asker). requests_noted a w.want w.requests (line.Refused n d cause)) none
    ∙ ap (λ at. record w.requests { at = at }) (same_at w.requests.at n))

-- ---- what is in hand

-- what a message brings, once it is read
brings : {A : Type 0} (w : World) (i : ℕ) (p : Posting) (m : Message) (f : Arrival → Option A) → posting_at w.network i ≡ Some p → message_of p.bytes ≡ Some m
    → option_and_then f (arrival_under w.network i) ≡ f (record { from = p.from; to = p.to; message = m })
brings w i p m f stands is =
    ap (λ (o : Option Posting). option_and_then f (option_and_then (λ q. arrived q.to q) o)) stands
    ∙ ap (λ (o : Option Message). option_and_then f (option_map (λ x. record { from = p.from; to = p.to; message = x }) o)) is

-- nothing comes under a number that wasn't given
pub nothing_under : {A : Type 0} (w : World) (i : ℕ) (f : Arrival → Option A) → posting_at w.network i ≡ None → option_and_then f (arrival_under w.network i) ≡ None
nothing_under w i f none = ap (λ (o : Option Posting). option_and_then f (option_and_then (λ q. arrived q.to q) o)) none

pub want_of_arrival : (w : World) (i : ℕ) (p : Posting) (m : Message) → posting_at w.network i ≡ Some p → message_of p.bytes ≡ Some m
    → option_and_then (λ x. want_in_message x.message) (arrival_under w.network i) ≡ want_in_message m
want_of_arrival w i p m stands is = brings w i p m (λ x. want_in_message x.message) stands is

pub asker_of_arrival : (w : World) (i : ℕ) (p : Posting) (m : Message) → posting_at w.network i ≡ Some p → message_of p.bytes ≡ Some m
    → option_and_then (λ x. asker_of x.from x.message) (arrival_under w.network i) ≡ asker_of p.from m
asker_of_arrival w i p m stands is = brings w i p m (λ x. asker_of x.from x.message) stands is

-- no transaction is opened by a message yet, so what it wants counts for nothing
pub want_unread : (n : ℕ) (f g : Facts) (clock from : ℕ) (m : Message) → noted (want_in_message m) g (due_message_of n f clock from m).lines ≡ noted None g (due_message_of n f clock from m).lines
want_unread n f g clock from (message.Proxy key number d w) = refl
want_unread n f g clock from (message.Call number d w) = refl
want_unread n f g clock from m = refl

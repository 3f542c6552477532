-- What of a node's facts goes line by line: messages that come or are sent leave it as it is.
use Rattle.std.proofs.Common.{◌≡◌, ℕ, ◌==◌, Bool, true, false, cond, not, List, [], ◌∷◌, Option, Some, None, refl, ap, ◌∙◌, arith}
use Rattle.std.proofs.lemmas.Bool.Decides.{nat_tests}
use Rattle.std.specs.Prelude.{fold, option_and_then, if◌then◌else◌}
use Rattle.std.specs.FinMap as finite
use Rattle.conflict_order.specs.declared.policy.Policy.{Policy}
use Rattle.conflict_order.specs.declared.version.Version.{Version}
use Rattle.conflict_order.specs.declared.want.Want.{Want}
use Rattle.cluster_types.specs.declared.cluster_key.ClusterKey.{ClusterKey}
use Rattle.cluster_types.specs.declared.member.Role.{Role}
use Rattle.wire_messages.specs.declared.message.Message.{Message}
use Rattle.wire_messages.specs.declared.message.Message.TheVariants as message
use Rattle.wire_messages.specs.Decoding.{message_of}
use Rattle.journal_lines.specs.declared.line.Line.{Line}
use Rattle.journal_lines.specs.declared.line.Line.TheVariants as line
use Rattle.partition_lists.specs.Classes.{is_that}
use Rattle.node_rules.specs.Agreement as agreement
use Rattle.node_rules.specs.Agreement.{Agreement, Proposal, accepted_by}
use Rattle.node_rules.specs.Copies.{Content, Row, joined, is_of}
use Rattle.node_rules.specs.Exchange.{View}
use Rattle.node_rules.specs.Facts.{Facts, list_at}
use Rattle.node_rules.specs.Notes as notes
use Rattle.node_rules.specs.Notes.{note, reached, sent, in_view}
use Rattle.node_rules.specs.Messages.{client}
use Rattle.cluster_rules.specs.Marks.{Mark, Begins, Writes, node_of_line, after_line, after_all, by_node, came, came_to_client, sent_by, lines_among, came_to_node}
use Rattle.journal_readings.specs.Messages.{Arrival, arrived, arrived_cut}
use Rattle.cluster_rules.specs.Network.{posting_at, posting}
use Rattle.cluster_rules.specs.World.{World, changed_at, new_if}

-- the part of a node's facts that only its own lines change, if any
pub record Kept : Type 0 where
  pub me : ℕ
  pub factor : ℕ
  pub role : Role
  pub up : Bool
  pub promised : ClusterKey
  pub last : ClusterKey
  pub view : Option View
  pub by : Policy
  pub content : Content

abbrev pub kept_of : Facts → Kept
kept_of f = record {
  me = f.me;
  factor = f.factor;
  role = f.role;
  up = f.up;
  promised = f.agreement.promised;
  last = f.agreement.last;
  view = f.exchange.view;
  by = f.store.by;
  content = f.store.content;
}

-- what a line of the node makes of it
abbrev pub own_step : Kept → Line → Kept
own_step k (line.Stop n) = record k { up = false; view = None }
own_step k (line.Start n) = record k { up = true }
own_step k (line.Quiesce n) = record k { role = record { rack = k.role.rack; quiesced = true } }
own_step k (line.Unquiesce n) = record k { role = record { rack = k.role.rack; quiesced = false } }
own_step k (line.Promise n key) = record k { promised = key }
own_step k (line.Enter n key ms) = record k { last = key; view = Some (record { key = key; members = ms }) }
own_step k (line.Apply n key t d v) = record k { content = joined k.by k.content d v }
own_step k (line.Merge n key d v) = record k { content = joined k.by k.content d v }
own_step k (line.Drop n key p) = record k { content = finite.retain_keys k.content (λ d. not (is_of p d)) }
own_step k _ = k

-- whether the line is one of the node that counts in its facts
abbrev pub is_own : ℕ → Line → Bool
is_own n l = is_that (node_of_line l) n

-- what a line of any node makes of it
abbrev pub kept_step : ℕ → Kept → Line → Kept
kept_step n k l = cond (is_own n l) (own_step k l) k

-- ---- a line of the node

noted_kept : (q : Option Want) (f : Facts) (l : Line) → kept_of (note q f l) ≡ own_step (kept_of f) l
noted_kept q f (line.Tick n) = refl
noted_kept q f l = refl

-- ---- messages

-- of an agreement the two keys
record SameKeys (a b : Agreement) : Type 0 where
  promised : a.promised ≡ b.promised
  last : a.last ≡ b.last

with_agreement : (f : Facts) (a : Agreement) → SameKeys a f.agreement → kept_of (record f { agreement = a }) ≡ kept_of f
with_agreement f a h = ap (λ p. record (kept_of f) { promised = p; last = a.last }) h.promised ∙ ap (λ l. record (kept_of f) { last = l }) h.last

accepting_same : (a : Agreement) (from : ℕ) (b : Bool) → SameKeys (if b then record a { proposal = accepted_by a.proposal from } else a) a
accepting_same a from true = record { promised = refl; last = refl }
accepting_same a from false = record { promised = refl; last = refl }

refused_same : (a : Agreement) (key : ClusterKey) (b : Bool) → SameKeys (agreement.seeing (if b then record a { proposal = None } else a) key) a
refused_same a key true = record { promised = refl; last = refl }
refused_same a key false = record { promised = refl; last = refl }

proposed_same : (a : Agreement) (p : Proposal) (b : Bool) → SameKeys (if b then a else record a { proposal = Some p }) a
proposed_same a p true = record { promised = refl; last = refl }
proposed_same a p false = record { promised = refl; last = refl }

row_same : (f : Facts) (from : ℕ) (row : Row) (b : Bool) → kept_of (notes.row_came f from row b) ≡ kept_of f
row_same f from row true = refl
row_same f from row false = refl

batch_same : (f : Facts) (from number : ℕ) (b : Bool) → kept_of (notes.batch_acked f from number b) ≡ kept_of f
batch_same f from number true = refl
batch_same f from number false = refl

progress_same : (f : Facts) (from : ℕ) (done handed settled : List Bool) (b : Bool) → kept_of (notes.progress_came f from done handed settled b) ≡ kept_of f
progress_same f from done handed settled true = refl
progress_same f from done handed settled false = refl

counted_same : (f : Facts) (key : ClusterKey) (l : List ℕ) (p nth : ℕ) (b : Bool) → kept_of (notes.write_counted_if f key l p nth b) ≡ kept_of f
counted_same f key l p nth true = refl
counted_same f key l p nth false = refl

write_same : (f : Facts) (from : ℕ) (key : ClusterKey) (nth p : ℕ) (b : Bool) → kept_of (notes.write_came f from key nth p b) ≡ kept_of f
write_same f from key nth p true = counted_same f key (list_at f p) p nth _
write_same f from key nth p false = refl

ack_same : (f : Facts) (from number : ℕ) (b : Bool) → kept_of (notes.write_acked f from number b) ≡ kept_of f
ack_same f from number true = refl
ack_same f from number false = refl

answer_same : (f : Facts) (from number : ℕ) (v : Option Version) (b : Bool) → kept_of (notes.answer_came f from number v b) ≡ kept_of f
answer_same f from number v true = refl
answer_same f from number v false = refl

reached_kept : (f : Facts) (from : ℕ) (m : Message) → kept_of (reached f from m) ≡ kept_of f
reached_kept f from (message.Accept key) = with_agreement f _ (accepting_same f.agreement from _)
reached_kept f from (message.Refuse key promised) = with_agreement f _ (refused_same f.agreement promised _)
reached_kept f from (message.State key wants row) = row_same f from row (in_view f key)
reached_kept f from (message.BatchAck key number) = batch_same f from number (in_view f key)
reached_kept f from (message.Progress key wants done handed settled) = progress_same f from done handed settled (in_view f key)
reached_kept f from (message.Repl key t nth digest v) = write_same f from key nth _ (in_view f key)
reached_kept f from (message.ReplAck key t) = ack_same f from t (in_view f key)
reached_kept f from (message.Answer key t v) = answer_same f from t v (in_view f key)
reached_kept f from m = refl

sent_kept : (f : Facts) (to : ℕ) (m : Message) → kept_of (sent f to m) ≡ kept_of f
sent_kept f to (message.Propose key members) = with_agreement f _ (proposed_same f.agreement _ _)
sent_kept f to m = refl

-- ---- a line of the world

pub num_same : (n m : ℕ) → (n == m) ≡ true → n ≡ m
num_same n m e = grind (arith, nat_tests)

-- a change of one node that leaves this part leaves that of every node
one_same : (fs : ℕ → Facts) (m : ℕ) (new : Facts) (n : ℕ) → kept_of new ≡ kept_of (fs m) → kept_of (changed_at fs m new n) ≡ kept_of (fs n)
one_same fs m new n e = go (m == n) refl
  where
    go : (b : Bool) → (m == n) ≡ b → kept_of (new_if new fs n b) ≡ kept_of (fs n)
    go true s = e ∙ ap (λ k. kept_of (fs k)) (num_same m n s)
    go false s = refl

client_same : (w : World) (m : Message) (n : ℕ) → kept_of ((came_to_client w m).facts n) ≡ kept_of (w.facts n)
client_same w (message.MapTable t) n = refl
client_same w m n = refl

came_same : (w : World) (x : Option Arrival) (n : ℕ) → kept_of ((came w x).facts n) ≡ kept_of (w.facts n)
came_same w None n = refl
came_same w (Some x) n = go (x.to == client)
  where
    go : (b : Bool) → kept_of ((if b then came_to_client w x.message else came_to_node w x).facts n) ≡ kept_of (w.facts n)
    go true = client_same w x.message n
    go false = one_same w.facts x.to (reached (w.facts x.to) x.from x.message) n (reached_kept (w.facts x.to) x.from x.message)

sent_same : (w : World) (a b : ℕ) (m : Option Message) (n : ℕ) → kept_of ((sent_by w a b m).facts n) ≡ kept_of (w.facts n)
sent_same w a b None n = refl
sent_same w a b (Some m) n = one_same w.facts a (sent (w.facts a) b m) n (sent_kept (w.facts a) b m)

own_kept : (w : World) (m : ℕ) (l : Line) (n : ℕ) → kept_of ((by_node w m l).facts n) ≡ cond (m == n) (own_step (kept_of (w.facts n)) l) (kept_of (w.facts n))
own_kept w m l n = go (m == n) refl
  where
    go : (b : Bool) → (m == n) ≡ b → kept_of (new_if (note w.want (w.facts m) l) w.facts n b) ≡ cond b (own_step (kept_of (w.facts n)) l) (kept_of (w.facts n))
    go true s = noted_kept w.want (w.facts m) l ∙ ap (λ k. own_step (kept_of (w.facts k)) l) (num_same m n s)
    go false s = refl

line_kept : (w : World) (l : Line) (n : ℕ) → kept_of ((after_line w l).facts n) ≡ kept_step n (kept_of (w.facts n)) l
line_kept w (line.Deliver i a b) n = came_same w (option_and_then (arrived b) (posting_at w.network i)) n
line_kept w (line.Repeat i a b) n = came_same w (option_and_then (arrived b) (posting_at w.network i)) n
line_kept w (line.Cut i a b size) n = came_same w (option_and_then (arrived_cut b size) (posting_at w.network i)) n
line_kept w (line.Sent i a b bytes) n = sent_same (record w { network = posting w.network i (record { from = a; to = b; bytes = bytes }) }) a b (message_of bytes) n
line_kept w (line.Tick m) n = own_kept w m (line.Tick m) n
line_kept w (line.Stop m) n = own_kept w m (line.Stop m) n
line_kept w (line.Start m) n = own_kept w m (line.Start m) n
line_kept w (line.Quiesce m) n = own_kept w m (line.Quiesce m) n
line_kept w (line.Unquiesce m) n = own_kept w m (line.Unquiesce m) n
line_kept w (line.Promise m k) n = own_kept w m (line.Promise m k) n
line_kept w (line.Enter m k ms) n = own_kept w m (line.Enter m k ms) n
line_kept w (line.Exchanged m k) n = own_kept w m (line.Exchanged m k) n
line_kept w (line.Opened m k t d a) n = own_kept w m (line.Opened m k t d a) n
line_kept w (line.Value m k t d v) n = own_kept w m (line.Value m k t d v) n
line_kept w (line.Apply m k t d v) n = own_kept w m (line.Apply m k t d v) n
line_kept w (line.Done m k t) n = own_kept w m (line.Done m k t) n
line_kept w (line.Aborted m k t) n = own_kept w m (line.Aborted m k t) n
line_kept w (line.Doubt m k t) n = own_kept w m (line.Doubt m k t) n
line_kept w (line.Merge m k d v) n = own_kept w m (line.Merge m k d v) n
line_kept w (line.Handed m k p) n = own_kept w m (line.Handed m k p) n
line_kept w (line.Settled m k p) n = own_kept w m (line.Settled m k p) n
line_kept w (line.Learn m k p) n = own_kept w m (line.Learn m k p) n
line_kept w (line.Drop m k p) n = own_kept w m (line.Drop m k p) n
line_kept w l n = refl

-- that part of the node after marks is what their lines make of it
pub marks_kept : (ms : List Mark) (w : World) (n : ℕ) → kept_of ((after_all w ms).facts n) ≡ fold (kept_step n) (kept_of (w.facts n)) (lines_among ms)
marks_kept [] w n = refl
marks_kept (Begins e ∷ ms) w n = marks_kept ms _ n
marks_kept (Writes l ∷ ms) w n = marks_kept ms (after_line w l) n ∙ ap (λ k. fold (kept_step n) k (lines_among ms)) (line_kept w l n)

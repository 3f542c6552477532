-- What a message makes of a node's stance: nothing but what the rules of agreement say.
use Rattle.std.proofs.Common.{◌≡◌, ℕ, Bool, true, false, List, [], ◌∷◌, map, Option, Some, None, refl, sym, ap, ◌∙◌, if◌then◌else◌}
use Rattle.conflict_order.specs.declared.want.Want.{Want}
use Rattle.conflict_order.specs.declared.version.Version.{Version}
use Rattle.cluster_types.specs.declared.cluster_key.ClusterKey.{ClusterKey}
use Rattle.cluster_types.specs.declared.member.Member.{Member}
use Rattle.cluster_types.specs.ClusterKeys.{key_lt}
use Rattle.cluster_types.specs.Partitions.{partition_of}
use Rattle.wire_messages.specs.declared.message.Message.{Message}
use Rattle.wire_messages.specs.declared.message.Message.TheVariants as message
use Rattle.journal_lines.specs.declared.line.Line.{Line}
use Rattle.journal_lines.specs.declared.line.Line.TheVariants as line
use Rattle.node_rules.specs.Agreement as agreement
use Rattle.node_rules.specs.Agreement.{Proposal, proposes, without_missing, promising}
use Rattle.node_rules.specs.Copies.{Row, is_nil}
use Rattle.node_rules.specs.Entering.{ending, closing, entering}
use Rattle.node_rules.specs.Exchange.{is_single}
use Rattle.node_rules.specs.Facts.{Facts, list_at, view_key}
use Rattle.node_rules.specs.Messages as due
use Rattle.node_rules.specs.Messages.{due_message_of}
use Rattle.node_rules.specs.Notes as notes
use Rattle.node_rules.specs.Notes.{note, noted, reached, sent, all_sent, in_view}
use Rattle.node_rules.specs.Transactions.{Transaction, Write}
use Rattle.node_rules.proofs.NoteLaws.{noted-append}
use Rattle.node_rules.specs.Tables.{only_if}
use Rattle.cluster_laws.proofs.At.{differ}
use Rattle.key_laws.proofs.Order.{lt_below, at_most_lt, below_at_most}
use Rattle.calm_laws.specs.Acts.{Gets, as_read, acted}
use Rattle.calm_laws.specs.Group.{kind}
use Rattle.calm_laws.specs.Stances.{Stance, stance_of, enters_view, enters_if, counts, turned}
use Rattle.calm_laws.proofs.KindLaws.{NoneOf, none_read}
use Rattle.calm_laws.proofs.Sent.{asks, message_none}
use Rattle.calm_laws.proofs.Words.{Each, Ends, Words, agrees, message_words}
use Rattle.node_rules.specs.Effects.{lines_and_sends, lines_only, nothing, sends_only, to_one}
use Rattle.node_rules.specs.StaleMessages.{stale}
use Rattle.node_rules.specs.VoteMessages.{commit_effects}
use Rattle.cluster_types.specs.ClusterKeys as keys

-- ---- what leaves it

-- the line leaves every stance
abbrev pub Calm : Line → Type 0
Calm l = (q : Option Want) (f : Facts) → stance_of (note q f l) ≡ stance_of f

pub calm_words : Words Calm
calm_words = record {
  stale = λ n q f. refl;
  spent = λ n q f. refl;
  merge = λ n k d v q f. refl;
}

calm_ends : Ends Calm
calm_ends = record {
  value = λ n k t d v q f. refl;
  apply = λ n k t d v q f. refl;
  done = λ n k t q f. refl;
}

pub noted_calm : (q : Option Want) (f : Facts) (ls : List Line) → Each Calm ls → stance_of (noted q f ls) ≡ stance_of f
noted_calm q f [] h = refl
noted_calm q f (l ∷ ls) h = noted_calm q (note q f l) ls h.1 ∙ h.0 q f

sent_calm : (f : Facts) (to : ℕ) (m : Message) → asks (kind m) ≡ false → stance_of (sent f to m) ≡ stance_of f
sent_calm f to (message.Propose key members) h = differ refl h
sent_calm f to (message.Batch b) h = refl
sent_calm f to m h = refl

pub all_sent_calm : (f : Facts) (ms : List (ℕ × Message)) → NoneOf asks ms → stance_of (all_sent f ms) ≡ stance_of f
all_sent_calm f [] h = refl
all_sent_calm f (m ∷ ms) h = all_sent_calm (sent f m.0 m.1) ms h.1 ∙ sent_calm f m.0 m.1 h.0

-- ---- an entry

ending_calm : (a : ℕ) (k : ClusterKey) (number : ℕ) (o : Option Write) → Calm (ending a k number o)
ending_calm a k number None = λ q f. refl
ending_calm a k number (Some w) = λ q f. refl

closing_calm : (a : ℕ) (k : ClusterKey) (ts : List Transaction) → Each Calm (map (λ (t : Transaction). ending a k t.number t.applied) ts)
closing_calm a k [] = tt
closing_calm a k (t ∷ ts) = (ending_calm a k t.number t.applied, closing_calm a k ts)

exchanging_calm : (a : ℕ) (k : ClusterKey) (b : Bool) → Each Calm (only_if (line.Exchanged a k) b)
exchanging_calm a k true = (λ q f. refl, tt)
exchanging_calm a k false = tt

pub entering_turns : (f g : Facts) (k : ClusterKey) (ms : List Member) → stance_of (noted None g (entering f k ms)) ≡ enters_view (stance_of g) k ms
entering_turns f g k ms =
    let closed : Facts = noted None g (closing f) in
    ap (λ (h : Facts). stance_of h) (noted-append None g (closing f) (line.Enter f.me k ms ∷ only_if (line.Exchanged f.me k) (is_single ms)))
    ∙ noted_calm None (note None closed (line.Enter f.me k ms)) (only_if (line.Exchanged f.me k) (is_single ms)) (exchanging_calm f.me k (is_single ms))
    ∙ ap (λ (s : Stance). enters_view s k ms) (noted_calm None g (closing f) (closing_calm f.me (view_key f) f.transactions.running))

-- ---- what reaches the node

row_calm : (f : Facts) (from : ℕ) (row : Row) (b : Bool) → stance_of (notes.row_came f from row b) ≡ stance_of f
row_calm f from row true = refl
row_calm f from row false = refl

batch_calm : (f : Facts) (from number : ℕ) (b : Bool) → stance_of (notes.batch_acked f from number b) ≡ stance_of f
batch_calm f from number true = refl
batch_calm f from number false = refl

progress_calm : (f : Facts) (from : ℕ) (done handed settled : List Bool) (b : Bool) → stance_of (notes.progress_came f from done handed settled b) ≡ stance_of f
progress_calm f from done handed settled true = refl
progress_calm f from done handed settled false = refl

counted_calm : (f : Facts) (key : ClusterKey) (l : List ℕ) (p nth : ℕ) (b : Bool) → stance_of (notes.write_counted_if f key l p nth b) ≡ stance_of f
counted_calm f key l p nth true = refl
counted_calm f key l p nth false = refl

write_calm : (f : Facts) (from : ℕ) (key : ClusterKey) (nth p : ℕ) (b : Bool) → stance_of (notes.write_came f from key nth p b) ≡ stance_of f
write_calm f from key nth p true = counted_calm f key (list_at f p) p nth _
write_calm f from key nth p false = refl

ack_calm : (f : Facts) (from number : ℕ) (b : Bool) → stance_of (notes.write_acked f from number b) ≡ stance_of f
ack_calm f from number true = refl
ack_calm f from number false = refl

answer_calm : (f : Facts) (from number : ℕ) (v : Option Version) (b : Bool) → stance_of (notes.answer_came f from number v b) ≡ stance_of f
answer_calm f from number v true = refl
answer_calm f from number v false = refl

reached_turns : (f : Facts) (from : ℕ) (m : Message) → agrees m ≡ false → stance_of (reached f from m) ≡ turned f.me (stance_of f) from m
reached_turns f from (message.Propose key ms) h = differ refl h
reached_turns f from (message.Accept key) h = differ refl h
reached_turns f from (message.Commit key ms) h = differ refl h
reached_turns f from (message.State key wants row) h = row_calm f from row (in_view f key)
reached_turns f from (message.BatchAck key number) h = batch_calm f from number (in_view f key)
reached_turns f from (message.Progress key wants done handed settled) h = progress_calm f from done handed settled (in_view f key)
reached_turns f from (message.Repl key t nth digest v) h = write_calm f from key nth (partition_of digest) (in_view f key)
reached_turns f from (message.ReplAck key t) h = ack_calm f from t (in_view f key)
reached_turns f from (message.Answer key t v) h = answer_calm f from t v (in_view f key)
reached_turns f from m h = refl

-- ---- what is due

voted : (f : Facts) (from : ℕ) (key : ClusterKey) (b : Bool) → key_lt key f.agreement.promised ≡ b
    → stance_of (noted None f (if b then sends_only (to_one from (message.Refuse key f.agreement.promised)) else lines_and_sends (only_if (line.Promise f.me key) (keys.key_lt f.agreement.promised key)) (to_one from (message.Accept key))).lines) ≡ record (stance_of f) { agreement = agreement.voting f.agreement key }
voted f from key true e =
    sym (ap (λ (b : Bool). record (stance_of f) { agreement = (if b then promising f.agreement key else f.agreement) }) (at_most_lt f.agreement.promised key (below_at_most (lt_below key f.agreement.promised e))))
voted f from key false e = go (key_lt f.agreement.promised key)
  where
    go : (b : Bool) → stance_of (noted None f (only_if (line.Promise f.me key) b)) ≡ record (stance_of f) { agreement = (if b then promising f.agreement key else f.agreement) }
    go true = refl
    go false = refl

committed : (f g : Facts) (p : Proposal) (b : Bool) → stance_of (noted None g (if b then commit_effects f p else nothing).lines) ≡ enters_if (stance_of g) p.key p.members b
committed f g p true = entering_turns f g p.key p.members
committed f g p false = refl

counted : (f g : Facts) (from : ℕ) (key : ClusterKey) (o : Option Proposal) (b : Bool) → stance_of (noted None g (due.accept_effects f from key o b).lines) ≡ counts (stance_of g) from o b
counted f g from key None b = refl
counted f g from key (Some p) false = refl
counted f g from key (Some p) true = committed f g p (is_nil (without_missing p from).missing)

entered : (f : Facts) (key : ClusterKey) (ms : List Member) (b : Bool) → stance_of (noted None f (if b then lines_only (entering f key ms) else stale f).lines) ≡ enters_if (stance_of f) key ms b
entered f key ms true = entering_turns f f key ms
entered f key ms false = refl

due_turns : (n : ℕ) (c : ℕ) (f : Facts) (from : ℕ) (m : Message) → stance_of (noted None (reached f from m) (due_message_of n f c from m).lines) ≡ turned f.me (stance_of f) from m
due_turns n c f from (message.Propose key ms) = voted f from key (key_lt key f.agreement.promised) refl
due_turns n c f from (message.Accept key) = counted f (reached f from (message.Accept key)) from key f.agreement.proposal (proposes f.agreement.proposal key)
due_turns n c f from (message.Commit key ms) = entered f key ms (due.may_enter_view f key ms)
due_turns n c f from m = go (agrees m) refl
  where
    go : (b : Bool) → agrees m ≡ b → stance_of (noted None (reached f from m) (due_message_of n f c from m).lines) ≡ turned f.me (stance_of f) from m
    go true e = differ e refl
    go false e = noted_calm None (reached f from m) (due_message_of n f c from m).lines (message_words Calm calm_words n f c from m e (λ is n k q f. refl) (λ is. calm_ends)) ∙ reached_turns f from m e

-- a node's stance goes by the rules of agreement alone
pub acted_turns : (n c : ℕ) (f : Facts) (from : ℕ) (m : Message) → stance_of (acted n c f (Gets from m)) ≡ turned f.me (stance_of f) from m
acted_turns n c f from m =
    all_sent_calm (noted None (reached f from m) (due_message_of n f c from m).lines) (as_read (due_message_of n f c from m).sends) (none_read asks (due_message_of n f c from m).sends (message_none n f c from m))
    ∙ due_turns n c f from m

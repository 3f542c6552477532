-- What messages and a tick that bring into no view make of a node's exchange.
use Rattle.std.proofs.Common.{◌≡◌, ℕ, Bool, true, false, List, [], ◌∷◌, Option, None, refl, sym, ap, ◌∙◌, if◌then◌else◌}
use Rattle.conflict_order.specs.declared.want.Want.{Want}
use Rattle.conflict_order.specs.declared.version.Version.{Version}
use Rattle.cluster_types.specs.declared.cluster_key.ClusterKey.{ClusterKey}
use Rattle.cluster_types.specs.Partitions.{partition_of}
use Rattle.wire_messages.specs.declared.message.Message.{Message}
use Rattle.wire_messages.specs.declared.message.Message.TheVariants as message
use Rattle.journal_lines.specs.declared.line.Line.{Line}
use Rattle.journal_lines.specs.declared.line.Line.TheVariants as line
use Rattle.node_rules.specs.Agreement.{Proposal, next_key}
use Rattle.node_rules.specs.Copies.{Row}
use Rattle.node_rules.specs.Facts.{Facts, list_at, view_key}
use Rattle.node_rules.specs.Messages as due
use Rattle.node_rules.specs.Messages.{due_message_of, finishes}
use Rattle.node_rules.specs.Notes as notes
use Rattle.node_rules.specs.Notes.{after_ages, all_sent, in_view, note, noted, reached, sent, neighbours}
use Rattle.node_rules.specs.Settling.{settling_due}
use Rattle.node_rules.specs.Tick.{propose_with, proposal_effects, state}
use Rattle.node_rules.specs.Tables.{only_if}
use Rattle.cluster_laws.proofs.At.{differ}
use Rattle.key_laws.proofs.DueViews.{AllOfView, OfView, settling_of_view}
use Rattle.calm_laws.specs.Acts.{Gets, Ticks, acted, as_read}
use Rattle.calm_laws.specs.Exchanges.{finished_if, taken_if, took}
use Rattle.calm_laws.specs.Group.{kind}
use Rattle.calm_laws.specs.Laws.{is_to_propose}
use Rattle.calm_laws.specs.Turns.{is_agreeing}
use Rattle.calm_laws.proofs.Ticking.{proposed, progressing, tick_facts, tick_list}
use Rattle.calm_laws.proofs.Words.{Each, Ends, Words, agrees, is_state, message_words}
use Rattle.node_rules.specs.Effects.{lines_and_sends, nothing, to_one}
use Rattle.node_rules.specs.StaleMessages.{stale}
use Rattle.node_rules.specs.Agreement as agreement

-- the line leaves every exchange
abbrev Still : Line → Type 0
Still l = (q : Option Want) (f : Facts) → (note q f l).exchange ≡ f.exchange

still_words : Words Still
still_words = record {
  stale = λ n q f. refl;
  spent = λ n q f. refl;
  merge = λ n k d v q f. refl;
}

still_ends : Ends Still
still_ends = record {
  value = λ n k t d v q f. refl;
  apply = λ n k t d v q f. refl;
  done = λ n k t q f. refl;
}

noted_still : (q : Option Want) (f : Facts) (ls : List Line) → Each Still ls → (noted q f ls).exchange ≡ f.exchange
noted_still q f [] h = refl
noted_still q f (l ∷ ls) h = noted_still q (note q f l) ls h.1 ∙ h.0 q f

sent_still : (f : Facts) (to : ℕ) (m : Message) → (sent f to m).exchange ≡ f.exchange
sent_still f to (message.Propose key members) = refl
sent_still f to (message.Batch b) = refl
sent_still f to m = refl

pub all_sent_still : (f : Facts) (ms : List (ℕ × Message)) → (all_sent f ms).exchange ≡ f.exchange
all_sent_still f [] = refl
all_sent_still f (m ∷ ms) = all_sent_still (sent f m.0 m.1) ms ∙ sent_still f m.0 m.1

-- ---- messages

batch_still : (f : Facts) (from number : ℕ) (b : Bool) → (notes.batch_acked f from number b).exchange ≡ f.exchange
batch_still f from number true = refl
batch_still f from number false = refl

progress_still : (f : Facts) (from : ℕ) (done handed settled : List Bool) (b : Bool) → (notes.progress_came f from done handed settled b).exchange ≡ f.exchange
progress_still f from done handed settled true = refl
progress_still f from done handed settled false = refl

counted_still : (f : Facts) (key : ClusterKey) (l : List ℕ) (p nth : ℕ) (b : Bool) → (notes.write_counted_if f key l p nth b).exchange ≡ f.exchange
counted_still f key l p nth true = refl
counted_still f key l p nth false = refl

write_still : (f : Facts) (from : ℕ) (key : ClusterKey) (nth p : ℕ) (b : Bool) → (notes.write_came f from key nth p b).exchange ≡ f.exchange
write_still f from key nth p true = counted_still f key (list_at f p) p nth _
write_still f from key nth p false = refl

ack_still : (f : Facts) (from number : ℕ) (b : Bool) → (notes.write_acked f from number b).exchange ≡ f.exchange
ack_still f from number true = refl
ack_still f from number false = refl

answer_still : (f : Facts) (from number : ℕ) (v : Option Version) (b : Bool) → (notes.answer_came f from number v b).exchange ≡ f.exchange
answer_still f from number v true = refl
answer_still f from number v false = refl

reached_still : (f : Facts) (from : ℕ) (m : Message) → is_state m ≡ false → (reached f from m).exchange ≡ f.exchange
reached_still f from (message.State key wants row) h = differ refl h
reached_still f from (message.BatchAck key number) h = batch_still f from number (in_view f key)
reached_still f from (message.Progress key wants done handed settled) h = progress_still f from done handed settled (in_view f key)
reached_still f from (message.Repl key t nth digest v) h = write_still f from key nth (partition_of digest) (in_view f key)
reached_still f from (message.ReplAck key t) h = ack_still f from t (in_view f key)
reached_still f from (message.Answer key t v) h = answer_still f from t v (in_view f key)
reached_still f from m h = refl

ended : (f g : Facts) (k : ClusterKey) (b : Bool) → (noted None g (only_if (line.Exchanged f.me k) b)).exchange ≡ finished_if g.exchange b
ended f g k true = refl
ended f g k false = refl

row_taken : (f : Facts) (from : ℕ) (row : Row) (wants b : Bool) → (noted None (notes.row_came f from row b) (if b then lines_and_sends (only_if (line.Exchanged f.me (view_key f)) (finishes f (notes.row_came f from row b))) (if wants then to_one from (state f false) else []) else stale f).lines).exchange ≡ taken_if f.exchange from row b
row_taken f from row wants true = ended f (notes.row_came f from row true) (view_key f) (finishes f (notes.row_came f from row true))
row_taken f from row wants false = refl

state_takes : (n : ℕ) (c : ℕ) (f : Facts) (from : ℕ) (m : Message) → agrees m ≡ false → (noted None (reached f from m) (due_message_of n f c from m).lines).exchange ≡ took f.exchange from m
state_takes n c f from (message.State key wants row) h = row_taken f from row wants (in_view f key)
state_takes n c f from m h = go (is_state m) refl
  where
    same : (m : Message) → is_state m ≡ false → took f.exchange from m ≡ f.exchange
    same (message.State key wants row) e = differ refl e
    same _ e = refl

    go : (b : Bool) → is_state m ≡ b → (noted None (reached f from m) (due_message_of n f c from m).lines).exchange ≡ took f.exchange from m
    go true e = differ e refl
    go false e = noted_still None (reached f from m) (due_message_of n f c from m).lines (message_words Still still_words n f c from m h (λ i n k q g. differ i e) (λ i. still_ends)) ∙ reached_still f from m e ∙ sym (same m e)

pub free_agrees : (m : Message) → is_agreeing (kind m) ≡ false → agrees m ≡ false
free_agrees (message.Propose key ms) e = differ refl e
free_agrees (message.Accept key) e = differ refl e
free_agrees (message.Commit key ms) e = differ refl e
free_agrees _ e = refl

-- a message that isn't of agreement changes an exchange by its row alone
pub acted_takes : (n c : ℕ) (f : Facts) (from : ℕ) (m : Message) → is_agreeing (kind m) ≡ false → (acted n c f (Gets from m)).exchange ≡ took f.exchange from m
acted_takes n c f from m free = all_sent_still (noted None (reached f from m) (due_message_of n f c from m).lines) (as_read (due_message_of n f c from m).sends) ∙ state_takes n c f from m (free_agrees m free)

-- ---- a tick

of_view_still : (a : ℕ) (k : ClusterKey) (l : Line) → OfView a k l → Still l
of_view_still a k (line.Opened n l number d w) e = λ q f. refl
of_view_still a k (line.Value n l number d v) e = λ q f. refl
of_view_still a k (line.Apply n l number d v) e = λ q f. refl
of_view_still a k (line.Done n l number) e = λ q f. refl
of_view_still a k (line.Merge n l d v) e = λ q f. refl
of_view_still a k (line.Handed n l p) e = λ q f. refl
of_view_still a k (line.Settled n l p) e = λ q f. refl
of_view_still a k (line.Learn n l p) e = λ q f. refl
of_view_still a k (line.Drop n l p) e = λ q f. refl
of_view_still a k _ e = absurd e

all_of_view_still : (a : ℕ) (k : ClusterKey) (ls : List Line) → AllOfView a k ls → Each Still ls
all_of_view_still a k [] h = tt
all_of_view_still a k (l ∷ ls) h = (of_view_still a k l h.0, all_of_view_still a k ls h.1)

-- a tick that proposes nothing adds no line of its own
pub rests_proposed : (f : Facts) → (after_ages f).agreement.proposal ≡ None → is_to_propose (after_ages f) ≡ false → proposed f ≡ after_ages f
rests_proposed f none e =
    ap (λ (o : Option Proposal). noted None (after_ages f) (propose_with (after_ages f) o).lines) none
    ∙ ap (λ (b : Bool). noted None (after_ages f) (if b then proposal_effects (after_ages f) (next_key (after_ages f).me (after_ages f).agreement) (neighbours (after_ages f)) (agreement.others_among (after_ages f).me (neighbours (after_ages f))) else nothing).lines) e

-- and leaves the exchange
pub rests_exchange : (n c : ℕ) (f : Facts) → f.up ≡ true → (after_ages f).agreement.proposal ≡ None → is_to_propose (after_ages f) ≡ false → (acted n c f Ticks).exchange ≡ f.exchange
rests_exchange n c f up none e =
    ap (λ (g : Facts). g.exchange) (tick_facts n c f up)
    ∙ all_sent_still (progressing n f) (as_read (tick_list n f))
    ∙ noted_still None (proposed f) (settling_due n (proposed f)) (all_of_view_still (proposed f).me (view_key (proposed f)) (settling_due n (proposed f)) (settling_of_view n (proposed f)))
    ∙ ap (λ (g : Facts). g.exchange) (rests_proposed f none e)

-- and so do the lines of settling
pub settled_exchange : (n : ℕ) (f : Facts) → (after_ages f).agreement.proposal ≡ None → is_to_propose (after_ages f) ≡ false → (progressing n f).exchange ≡ f.exchange
settled_exchange n f none e =
    noted_still None (proposed f) (settling_due n (proposed f)) (all_of_view_still (proposed f).me (view_key (proposed f)) (settling_due n (proposed f)) (settling_of_view n (proposed f)))
    ∙ ap (λ (g : Facts). g.exchange) (rests_proposed f none e)

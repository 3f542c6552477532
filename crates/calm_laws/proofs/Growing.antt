-- Bits grow with each message that isn't of agreement, and with each tick that proposes nothing.
use Rattle.std.proofs.Common.{◌≡◌, ℕ, zero, suc, ◌||◌, Bool, true, false, List, [], ◌∷◌, Option, None, refl, sym, ap, subst, ◌∙◌}
use Rattle.conflict_order.specs.declared.want.Want.{Want}
use Rattle.conflict_order.specs.declared.version.Version.{Version}
use Rattle.cluster_types.specs.declared.cluster_key.ClusterKey.{ClusterKey}
use Rattle.cluster_types.specs.Partitions.{partition_of}
use Rattle.cluster_types.specs.Rows.{bit}
use Rattle.wire_messages.specs.declared.message.Message.{Message}
use Rattle.wire_messages.specs.declared.message.Message.TheVariants as message
use Rattle.journal_lines.specs.declared.line.Line.{Line}
use Rattle.journal_lines.specs.declared.line.Line.TheVariants as line
use Rattle.node_rules.specs.Bits.{Bits, or_rows, with_bit}
use Rattle.node_rules.specs.Copies.{Row}
use Rattle.node_rules.specs.Facts.{Facts, list_at, view_key}
use Rattle.node_rules.specs.Messages.{due_message_of}
use Rattle.node_rules.specs.Notes as notes
use Rattle.node_rules.specs.Notes.{after_ages, all_sent, in_view, note, noted, reached, sent}
use Rattle.node_rules.specs.Settling.{settling_due}
use Rattle.cluster_laws.proofs.At.{differ}
use Rattle.key_laws.proofs.DueViews.{AllOfView, OfView, settling_of_view}
use Rattle.calm_laws.specs.Acts.{Gets, Ticks, acted, as_read}
use Rattle.calm_laws.specs.Group.{kind}
use Rattle.calm_laws.specs.Laws.{is_to_propose}
use Rattle.calm_laws.specs.Progresses.{BitsGrow}
use Rattle.calm_laws.specs.Turns.{is_agreeing}
use Rattle.calm_laws.proofs.Taking.{free_agrees, rests_proposed}
use Rattle.calm_laws.proofs.Ticking.{proposed, progressing, tick_facts, tick_list}
use Rattle.calm_laws.proofs.Words.{Each, Ends, Words, message_words}

-- ---- rows of bits

pub bit_stays : (row : List Bool) (p q : ℕ) → bit row q ≡ true → bit (with_bit row p) q ≡ true
bit_stays [] p q e = e
bit_stays (b ∷ row) zero zero e = refl
bit_stays (b ∷ row) zero (suc q) e = e
bit_stays (b ∷ row) (suc p) zero e = e
bit_stays (b ∷ row) (suc p) (suc q) e = bit_stays row p q e

pub bit_joined : (row more : List Bool) (q : ℕ) → bit row q ≡ true → bit (or_rows row more) q ≡ true
bit_joined [] [] q e = e
bit_joined [] (c ∷ more) q e = none q e
  where
    none : (q : ℕ) → bit [] q ≡ true → bit (c ∷ more) q ≡ true
    none zero e = differ e refl
    none (suc q) e = differ e refl
bit_joined (b ∷ row) [] q e = e
bit_joined (b ∷ row) (c ∷ more) zero e = ap (λ (x : Bool). x || c) e
bit_joined (b ∷ row) (c ∷ more) (suc q) e = bit_joined row more q e

pub bits_same : (b c : Bits) → c ≡ b → BitsGrow b c
bits_same b c e = subst (λ (x : Bits). BitsGrow b x) (sym e) (record { handed = λ p i. i; settled = λ p i. i; learnt = λ p i. i })

pub bits_on : (b c d : Bits) → BitsGrow b c → BitsGrow c d → BitsGrow b d
bits_on b c d g h = record { handed = λ p i. h.handed p (g.handed p i); settled = λ p i. h.settled p (g.settled p i); learnt = λ p i. h.learnt p (g.learnt p i) }

-- ---- lines

abbrev Grown : Line → Type 0
Grown l = (q : Option Want) (f : Facts) → BitsGrow f.bits (note q f l).bits

grown_words : Words Grown
grown_words = record {
  stale = λ n q f. bits_same f.bits f.bits refl;
  spent = λ n q f. bits_same f.bits f.bits refl;
  merge = λ n k d v q f. bits_same f.bits f.bits refl;
}

grown_ends : Ends Grown
grown_ends = record {
  value = λ n k t d v q f. bits_same f.bits f.bits refl;
  apply = λ n k t d v q f. bits_same f.bits f.bits refl;
  done = λ n k t q f. bits_same f.bits f.bits refl;
}

noted_grown : (q : Option Want) (f : Facts) (ls : List Line) → Each Grown ls → BitsGrow f.bits (noted q f ls).bits
noted_grown q f [] h = bits_same f.bits f.bits refl
noted_grown q f (l ∷ ls) h = bits_on f.bits (note q f l).bits (noted q (note q f l) ls).bits (h.0 q f) (noted_grown q (note q f l) ls h.1)

sent_bits : (f : Facts) (to : ℕ) (m : Message) → (sent f to m).bits ≡ f.bits
sent_bits f to (message.Propose key members) = refl
sent_bits f to (message.Batch b) = refl
sent_bits f to m = refl

pub all_sent_bits : (f : Facts) (ms : List (ℕ × Message)) → (all_sent f ms).bits ≡ f.bits
all_sent_bits f [] = refl
all_sent_bits f (m ∷ ms) = all_sent_bits (sent f m.0 m.1) ms ∙ sent_bits f m.0 m.1

-- ---- messages

pub row_bits : (f : Facts) (from : ℕ) (row : Row) (b : Bool) → (notes.row_came f from row b).bits ≡ f.bits
row_bits f from row true = refl
row_bits f from row false = refl

pub batch_bits : (f : Facts) (from number : ℕ) (b : Bool) → (notes.batch_acked f from number b).bits ≡ f.bits
batch_bits f from number true = refl
batch_bits f from number false = refl

pub counted_bits : (f : Facts) (key : ClusterKey) (l : List ℕ) (p nth : ℕ) (b : Bool) → (notes.write_counted_if f key l p nth b).bits ≡ f.bits
counted_bits f key l p nth true = refl
counted_bits f key l p nth false = refl

pub write_bits : (f : Facts) (from : ℕ) (key : ClusterKey) (nth p : ℕ) (b : Bool) → (notes.write_came f from key nth p b).bits ≡ f.bits
write_bits f from key nth p true = counted_bits f key (list_at f p) p nth _
write_bits f from key nth p false = refl

pub ack_bits : (f : Facts) (from number : ℕ) (b : Bool) → (notes.write_acked f from number b).bits ≡ f.bits
ack_bits f from number true = refl
ack_bits f from number false = refl

pub answer_bits : (f : Facts) (from number : ℕ) (v : Option Version) (b : Bool) → (notes.answer_came f from number v b).bits ≡ f.bits
answer_bits f from number v true = refl
answer_bits f from number v false = refl

pub progress_bits : (f : Facts) (from : ℕ) (done handed settled : List Bool) (b : Bool) → BitsGrow f.bits (notes.progress_came f from done handed settled b).bits
progress_bits f from done handed settled true = record { handed = λ p e. bit_joined f.bits.handed handed p e; settled = λ p e. bit_joined f.bits.settled settled p e; learnt = λ p e. e }
progress_bits f from done handed settled false = bits_same f.bits f.bits refl

pub reached_grow : (f : Facts) (from : ℕ) (m : Message) → BitsGrow f.bits (reached f from m).bits
reached_grow f from (message.State key wants row) = bits_same f.bits (notes.row_came f from row (in_view f key)).bits (row_bits f from row (in_view f key))
reached_grow f from (message.BatchAck key number) = bits_same f.bits (notes.batch_acked f from number (in_view f key)).bits (batch_bits f from number (in_view f key))
reached_grow f from (message.Progress key wants done handed settled) = progress_bits f from done handed settled (in_view f key)
reached_grow f from (message.Repl key t nth digest v) = bits_same f.bits (notes.write_came f from key nth (partition_of digest) (in_view f key)).bits (write_bits f from key nth (partition_of digest) (in_view f key))
reached_grow f from (message.ReplAck key t) = bits_same f.bits (notes.write_acked f from t (in_view f key)).bits (ack_bits f from t (in_view f key))
reached_grow f from (message.Answer key t v) = bits_same f.bits (notes.answer_came f from t v (in_view f key)).bits (answer_bits f from t v (in_view f key))
reached_grow f from m = bits_same f.bits f.bits refl

pub acted_grow : (n c : ℕ) (f : Facts) (from : ℕ) (m : Message) → is_agreeing (kind m) ≡ false → BitsGrow f.bits (acted n c f (Gets from m)).bits
acted_grow n c f from m free =
    let g : Facts = noted None (reached f from m) (due_message_of n f c from m).lines in
    bits_on f.bits (reached f from m).bits (acted n c f (Gets from m)).bits (reached_grow f from m)
    (subst (λ (b : Bits). BitsGrow (reached f from m).bits b) (sym (all_sent_bits g (as_read (due_message_of n f c from m).sends)))
    (noted_grown None (reached f from m) (due_message_of n f c from m).lines (message_words Grown grown_words n f c from m (free_agrees m free) (λ e n k q g. bits_same g.bits g.bits refl) (λ e. grown_ends))))

-- ---- a tick

of_view_grown : (a : ℕ) (k : ClusterKey) (l : Line) → OfView a k l → Grown l
of_view_grown a k (line.Opened n l number d w) e = λ q f. bits_same f.bits f.bits refl
of_view_grown a k (line.Value n l number d v) e = λ q f. bits_same f.bits f.bits refl
of_view_grown a k (line.Apply n l number d v) e = λ q f. bits_same f.bits f.bits refl
of_view_grown a k (line.Done n l number) e = λ q f. bits_same f.bits f.bits refl
of_view_grown a k (line.Merge n l d v) e = λ q f. bits_same f.bits f.bits refl
of_view_grown a k (line.Handed n l p) e = λ q f. record { handed = λ q i. bit_stays f.bits.handed p q i; settled = λ q i. i; learnt = λ q i. i }
of_view_grown a k (line.Settled n l p) e = λ q f. record { handed = λ q i. i; settled = λ q i. bit_stays f.bits.settled p q i; learnt = λ q i. i }
of_view_grown a k (line.Learn n l p) e = λ q f. record { handed = λ q i. i; settled = λ q i. i; learnt = λ q i. bit_stays f.bits.learnt p q i }
of_view_grown a k (line.Drop n l p) e = λ q f. bits_same f.bits f.bits refl
of_view_grown a k _ e = absurd e

all_of_view_grown : (a : ℕ) (k : ClusterKey) (ls : List Line) → AllOfView a k ls → Each Grown ls
all_of_view_grown a k [] h = tt
all_of_view_grown a k (l ∷ ls) h = (of_view_grown a k l h.0, all_of_view_grown a k ls h.1)

pub rests_grow : (n c : ℕ) (f : Facts) → f.up ≡ true → (after_ages f).agreement.proposal ≡ None → is_to_propose (after_ages f) ≡ false → BitsGrow f.bits (acted n c f Ticks).bits
rests_grow n c f up none e =
    let g : Facts = proposed f in
    subst (λ (b : Bits). BitsGrow f.bits b) (sym (ap (λ (h : Facts). h.bits) (tick_facts n c f up) ∙ all_sent_bits (progressing n f) (as_read (tick_list n f))))
    (bits_on f.bits (proposed f).bits (progressing n f).bits (bits_same f.bits (proposed f).bits (ap (λ (h : Facts). h.bits) (rests_proposed f none e)))
    (noted_grown None (proposed f) (settling_due n (proposed f)) (all_of_view_grown (proposed f).me (view_key (proposed f)) (settling_due n (proposed f)) (settling_of_view n (proposed f)))))

-- Who hears that all is done knows it from then on; and who knows all settled does so from then on.
use Rattle.std.proofs.Common.{◌≡◌, ℕ, zero, suc, ◌+◌, ◌<◌, ◌==◌, ◌||◌, ◌&&◌, Bool, true, false, cond, List, [], ◌∷◌, Option, Some, None, refl, sym, ap, subst, ◌∙◌, ◌⊎◌, inl, inr}
use Rattle.std.specs.FinMap.Entries.{find-put}
use Rattle.std.specs.Ordering.{nat_cmp}
use Rattle.std.proofs.lemmas.Cmp.{nat_cmp_total}
use Rattle.conflict_order.specs.declared.want.Want.{Want}
use Rattle.cluster_types.specs.declared.cluster_key.ClusterKey.{ClusterKey}
use Rattle.cluster_types.specs.Partitions.{partition_of}
use Rattle.cluster_types.specs.Rows.{bit}
use Rattle.wire_messages.specs.declared.message.Message.{Message}
use Rattle.wire_messages.specs.declared.message.Message.TheVariants as message
use Rattle.journal_lines.specs.declared.line.Line.{Line}
use Rattle.partition_lists.proofs.InOrderLaws.{equal}
use Rattle.node_rules.specs.declared.member_row.MemberRow.{MemberRow}
use Rattle.node_rules.specs.Bits.{Bits, progressing}
use Rattle.node_rules.specs.Facts.{Facts, members_of_view}
use Rattle.node_rules.specs.Map.{all_empty}
use Rattle.node_rules.specs.Messages.{due_message_of}
use Rattle.node_rules.specs.Notes as notes
use Rattle.node_rules.specs.Notes.{in_view, note, noted, reached}
use Rattle.cluster_types.specs.Members.{ids_of}
use Rattle.node_rules.specs.Exchange.{View, members_of}
use Rattle.node_rules.specs.Standing.{is_all_empty, knows_all_settled, knows_settled}
use Rattle.node_rules.specs.Tables.{at, table_with}
use Rattle.cluster_laws.proofs.At.{differ}
use Rattle.calm_laws.specs.Acts.{Gets, acted, as_read}
use Rattle.calm_laws.specs.Group.{kind}
use Rattle.calm_laws.specs.Progresses.{BitsGrow, FullProgress, KnowsDone}
use Rattle.calm_laws.specs.Turns.{is_agreeing}
use Rattle.calm_laws.proofs.Growing.{ack_bits, all_sent_bits, answer_bits, batch_bits, row_bits, write_bits}
use Rattle.calm_laws.proofs.Hears.{ties}
use Rattle.calm_laws.proofs.Taking.{free_agrees}
use Rattle.calm_laws.proofs.Words.{Each, Ends, Words, message_words}

-- ---- bits after a message

abbrev Bitless : Line → Type 0
Bitless l = (q : Option Want) (f : Facts) → (note q f l).bits ≡ f.bits

bitless_words : Words Bitless
bitless_words = record { stale = λ n q f. refl; spent = λ n q f. refl; merge = λ n k d v q f. refl }

bitless_ends : Ends Bitless
bitless_ends = record { value = λ n k t d v q f. refl; apply = λ n k t d v q f. refl; done = λ n k t q f. refl }

noted_bitless : (q : Option Want) (f : Facts) (ls : List Line) → Each Bitless ls → (noted q f ls).bits ≡ f.bits
noted_bitless q f [] h = refl
noted_bitless q f (l ∷ ls) h = noted_bitless q (note q f l) ls h.1 ∙ h.0 q f

-- a message that isn't of agreement changes bits as it arrives alone
pub acted_bits : (n c : ℕ) (f : Facts) (from : ℕ) (m : Message) → is_agreeing (kind m) ≡ false → (acted n c f (Gets from m)).bits ≡ (reached f from m).bits
acted_bits n c f from m free =
    all_sent_bits (noted None (reached f from m) (due_message_of n f c from m).lines) (as_read (due_message_of n f c from m).sends)
    ∙ noted_bitless None (reached f from m) (due_message_of n f c from m).lines (message_words Bitless bitless_words n f c from m (free_agrees m free) (λ e n k q g. refl) (λ e. bitless_ends))

-- ---- who is known to be done

done_put : (n x from : ℕ) (b : Bits) (done handed settled : List Bool) → ((p : ℕ) → p < n → bit done p ≡ true) → (x ≡ from) ⊎ KnowsDone n x b → KnowsDone n x (progressing b from done handed settled)
done_put n x from b done handed settled full h = go (x == from) refl h
  where
    looked : at (table_with b.done from done) x ≡ cond (x == from) (Some done) (at b.done x)
    looked = find-put nat_cmp nat_cmp_total x from done b.done ∙ ap (λ (c : Bool). cond c (Some done) (at b.done x)) (ties x from)

    go : (c : Bool) → (x == from) ≡ c → (x ≡ from) ⊎ KnowsDone n x b → KnowsDone n x (progressing b from done handed settled)
    go true e h = record { row = done; told = looked ∙ ap (λ (c : Bool). cond c (Some done) (at b.done x)) e; full = full }
    go false e (inl i) = differ (equal x from i) e
    go false e (inr k) = record { row = k.row; told = looked ∙ ap (λ (c : Bool). cond c (Some done) (at b.done x)) e ∙ k.told; full = k.full }

done_came : (n x : ℕ) (f : Facts) (from : ℕ) (done handed settled : List Bool) (b : Bool) → ((p : ℕ) → p < n → bit done p ≡ true) → KnowsDone n x f.bits → KnowsDone n x (notes.progress_came f from done handed settled b).bits
done_came n x f from done handed settled true full h = done_put n x from f.bits done handed settled full (inr h)
done_came n x f from done handed settled false full h = h

done_reached : (n x : ℕ) (f : Facts) (from : ℕ) (m : Message) → FullProgress n m → KnowsDone n x f.bits → KnowsDone n x (reached f from m).bits
done_reached n x f from (message.State key wants row) full h = subst (KnowsDone n x) (sym (row_bits f from row (in_view f key))) h
done_reached n x f from (message.BatchAck key number) full h = subst (KnowsDone n x) (sym (batch_bits f from number (in_view f key))) h
done_reached n x f from (message.Progress key wants done handed settled) full h = done_came n x f from done handed settled (in_view f key) full h
done_reached n x f from (message.Repl key t nth digest v) full h = subst (KnowsDone n x) (sym (write_bits f from key nth (partition_of digest) (in_view f key))) h
done_reached n x f from (message.ReplAck key t) full h = subst (KnowsDone n x) (sym (ack_bits f from t (in_view f key))) h
done_reached n x f from (message.Answer key t v) full h = subst (KnowsDone n x) (sym (answer_bits f from t v (in_view f key))) h
done_reached n x f from m full h = h

-- who knows it does so after each message that tells that all is done
pub done_kept : (n c x : ℕ) (f : Facts) (from : ℕ) (m : Message) → (most : ℕ) → is_agreeing (kind m) ≡ false → FullProgress most m → KnowsDone most x f.bits → KnowsDone most x (acted n c f (Gets from m)).bits
done_kept n c x f from m most free full h = subst (KnowsDone most x) (sym (acted_bits n c f from m free)) (done_reached most x f from m full h)

-- and who hears it of a node in its view knows it
pub done_told : (n c x : ℕ) (f : Facts) (most : ℕ) (key : ClusterKey) (wants : Bool) (done handed settled : List Bool) → in_view f key ≡ true → ((p : ℕ) → p < most → bit done p ≡ true)
    → KnowsDone most x (acted n c f (Gets x (message.Progress key wants done handed settled))).bits
done_told n c x f most key wants done handed settled here full =
    subst (KnowsDone most x) (sym (acted_bits n c f x (message.Progress key wants done handed settled) refl))
    (subst (λ (b : Bool). KnowsDone most x (notes.progress_came f x done handed settled b).bits) (sym here) (done_put most x x f.bits done handed settled full (inl refl)))

-- ---- who knows all settled

pub or_grows : (a b c : Bool) → (a ≡ true → b ≡ true) → (a || c) ≡ true → (b || c) ≡ true
or_grows true b c g e = ap (λ (x : Bool). x || c) (g refl)
or_grows false true c g e = refl
or_grows false false c g e = e

settled_grows : (f g : Facts) → BitsGrow f.bits g.bits → g.exchange.view ≡ f.exchange.view → g.exchange.rows ≡ f.exchange.rows → g.exchange.exchanged ≡ f.exchange.exchanged → (p : ℕ) → knows_settled f p ≡ true → knows_settled g p ≡ true
settled_grows f g grow view rows over p e =
    ap (λ (o : Option View). bit g.bits.settled p || (g.exchange.exchanged && all_empty (ids_of (members_of o)) g.exchange.rows p)) view
    ∙ ap (λ (rs : List MemberRow). bit g.bits.settled p || (g.exchange.exchanged && all_empty (ids_of (members_of_view f)) rs p)) rows
    ∙ ap (λ (b : Bool). bit g.bits.settled p || (b && is_all_empty f p)) over
    ∙ or_grows (bit f.bits.settled p) (bit g.bits.settled p) (f.exchange.exchanged && is_all_empty f p) (grow.settled p) e

and_both : (a b c d : Bool) → (a ≡ true → c ≡ true) → (b ≡ true → d ≡ true) → (a && b) ≡ true → (c && d) ≡ true
and_both true b c d f g e = ap (λ (x : Bool). x && d) (f refl) ∙ g e
and_both false b c d f g e = differ e refl

-- who knows it does so as long as its bits grow and its exchange stays
pub all_settled_grows : (f g : Facts) → BitsGrow f.bits g.bits → g.exchange.view ≡ f.exchange.view → g.exchange.rows ≡ f.exchange.rows → g.exchange.exchanged ≡ f.exchange.exchanged → (n p : ℕ) → knows_all_settled f n p ≡ true → knows_all_settled g n p ≡ true
unfolding knows_all_settled
all_settled_grows f g grow view rows over zero p e = refl
all_settled_grows f g grow view rows over (suc n) p e =
    and_both (knows_settled f p) (knows_all_settled f n (p + 1)) (knows_settled g p) (knows_all_settled g n (p + 1)) (settled_grows f g grow view rows over p) (all_settled_grows f g grow view rows over n (p + 1)) e

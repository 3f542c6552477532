-- The tie over a message that is sent.
use Rattle.std.proofs.Common.{◌≡◌, ℕ, zero, suc, ◌+◌, ◌-◌, ◌<◌, Bool, true, false, List, [], ◌∷◌, ◌++◌, length, Option, Some, None, refl, sym, ap, ◌∙◌, subst, arith, ⊎_elim}
use Rattle.std.specs.Prelude.{option_map, nat_lt, slice_get, if◌then◌else◌}
use Rattle.std.proofs.lemmas.Bool.{ltb-true, lt-ltb}
use Rattle.wire_messages.specs.declared.message.Batch.{Batch}
use Rattle.wire_messages.specs.declared.message.Message.{Message}
use Rattle.wire_messages.specs.declared.message.Message.TheVariants as message
use Rattle.wire_messages.specs.Decoding.{message_of}
use Rattle.node_rules.specs.Agreement.{Agreement, Proposal}
use Rattle.node_rules.specs.Notes.{sent}
use Rattle.cluster_rules.specs.Marks.{posted_by, sent_by}
use Rattle.journal_readings.specs.Messages.{Posting}
use Rattle.cluster_rules.specs.Network.{Network, posting_at, posting}
use Rattle.cluster_rules.specs.World.{changed_at}
use Rattle.cluster_laws.specs.Changed.{at_number, at_key}
use Rattle.cluster_laws.specs.Changes as changes
use Rattle.cluster_laws.specs.Changes.{sends_packet, sends_message}
use Rattle.cluster_laws.specs.Ground.{Ground}
use Rattle.cluster_laws.specs.Picture.{Packet, Picture}
use Rattle.cluster_laws.proofs.At.{numbers, changed_here, changed_other, number_cases}
use Rattle.run_laws.specs.Fronts.{Front, world_of, facts_at, packet_of, Ties, Tied}
use Rattle.run_laws.specs.LineOk.{BatchOk, SendOk, SendOkIf, SentOk}
use Rattle.run_laws.proofs.Arrivals.{TiedTo, with_other, stay_in, closing_in}
use Rattle.run_laws.proofs.Moves.{same_tie, unmoved, in_view, facts_only, with_stay}
use Rattle.run_laws.proofs.Opened.{batch_tied}

-- ---- packets

pub last_here : {A : Type 0} (xs : List A) (x : A) → slice_get (xs ++ x ∷ []) (length xs) ≡ Some x
last_here [] x = refl
last_here (y ∷ xs) x = last_here xs x

last_other : {A : Type 0} (xs : List A) (x : A) (q : ℕ) → (q ≡ length xs → ⊥) → slice_get (xs ++ x ∷ []) q ≡ slice_get xs q
last_other [] x zero h = absurd (h refl)
last_other [] x (suc q) h = refl
last_other (y ∷ xs) x zero h = refl
last_other (y ∷ xs) x (suc q) h = last_other xs x q (λ e. h (ap suc e))

none_past : {A : Type 0} (xs : List A) → slice_get xs (length xs) ≡ None
none_past [] = refl
none_past (y ∷ xs) = none_past xs

one_back : (n : ℕ) → n + 1 - 1 ≡ n
one_back n = omega arith

positive : (n : ℕ) → nat_lt 0 (n + 1) ≡ true
positive n = lt-ltb 0 (n + 1) (omega arith)

posted_here : (net : Network) (p : Posting) → posting_at (posting net (length net.sent + 1) p) (length net.sent + 1) ≡ Some p
posted_here net p = ap (λ (holds : Bool). if holds then slice_get (posting net (length net.sent + 1) p).sent ((length net.sent + 1) - 1) else None) (positive (length net.sent)) ∙ ap (slice_get (net.sent ++ p ∷ [])) (one_back (length net.sent)) ∙ last_here net.sent p

-- no message has the next number yet
pub none_yet : (net : Network) → posting_at net (length net.sent + 1) ≡ None
none_yet net = ap (λ (holds : Bool). if holds then slice_get net.sent ((length net.sent + 1) - 1) else None) (positive (length net.sent)) ∙ ap (slice_get net.sent) (one_back (length net.sent)) ∙ none_past net.sent

not_last : (n j : ℕ) → 0 < j → (n + 1 ≡ j → ⊥) → j - 1 ≡ n → ⊥
not_last n j p h e = h (omega (arith, p, e))

pub posted_other : (net : Network) (p : Posting) (j : ℕ) → (length net.sent + 1 ≡ j → ⊥) → posting_at (posting net (length net.sent + 1) p) j ≡ posting_at net j
posted_other net p j h = go (nat_lt 0 j) refl
  where
    go : (b : Bool) → nat_lt 0 j ≡ b → (if b then slice_get (posting net (length net.sent + 1) p).sent (j - 1) else None) ≡ (if b then slice_get net.sent (j - 1) else None)
    go false e = refl
    go true e = last_other net.sent p (j - 1) (not_last (length net.sent) j (ltb-true 0 j e) h)

packets_with : (net : Network) (p : Posting) (packet : ℕ → Option Packet) → ((i : ℕ) → packet i ≡ option_map packet_of (posting_at net i)) → (j : ℕ)
    → at_number packet (length net.sent + 1) (Some (packet_of p)) j ≡ option_map packet_of (posting_at (posting net (length net.sent + 1) p) j)
packets_with net p packet h j = ⊎_elim
    (λ e. subst (λ (i : ℕ). at_number packet (length net.sent + 1) (Some (packet_of p)) i ≡ option_map packet_of (posting_at (posting net (length net.sent + 1) p) i)) e
    (changed_here numbers packet (length net.sent + 1) (Some (packet_of p)) ∙ sym (ap (option_map packet_of) (posted_here net p))))
    (λ z. changed_other numbers packet (length net.sent + 1) (Some (packet_of p)) j z ∙ h j ∙ ap (option_map packet_of) (sym (posted_other net p j z)))
    (number_cases (length net.sent + 1) j)

-- ---- the sender

proposed_last : (a : Agreement) (p : Proposal) (b : Bool) → (if b then a else record a { proposal = Some p }).last ≡ a.last
proposed_last a p true = refl
proposed_last a p false = refl

abbrev Sends : Front → Picture → ℕ → ℕ → Message → Type 0
Sends z w a b m = Ties (changed_at (world_of z).facts a (sent (facts_at z a) b m)) (world_of z).clocks z.closing (world_of z).network z.owed w.node (sends_message a b (Some m) w.stay) w.packet w.owed

says_nothing : (z : Front) (w : Picture) (a : ℕ) → Tied z w → Ties (changed_at (world_of z).facts a (facts_at z a)) (world_of z).clocks z.closing (world_of z).network z.owed w.node w.stay w.packet w.owed
says_nothing z w a t = facts_only (world_of z).facts (world_of z).clocks z.closing z.closing (world_of z).network z.owed w.node w.stay w.packet w.owed a (facts_at z a) (unmoved a z.closing) (t.nodes a) t

batch_sent : (z : Front) (w : Picture) (a r : ℕ) (b : Batch) → Tied z w → BatchOk z a r b → Sends z w a r (message.Batch b)
batch_sent z w a r b t ok = with_stay (world_of z).facts (world_of z).clocks z.closing z.closing (world_of z).network z.owed w.node w.stay w.packet w.owed a (sent (facts_at z a) r (message.Batch b)) (at_key (w.stay a) b.key (changes.stay_after_batch r b (w.stay a b.key))) (unmoved a z.closing)
    (in_view (sent (facts_at z a) r (message.Batch b)) (w.node a) (w.stay a) b.key (changes.stay_after_batch r b (w.stay a b.key)) ((world_of z).clocks a) (z.closing a) ok.stands.view
    (record { view = (t.nodes a).seen.view; last = (t.nodes a).seen.last; content = (t.nodes a).seen.content; stamp = (t.nodes a).seen.stamp }) (t.nodes a).clock
    (batch_tied (facts_at z a) (w.stay a b.key) r b (record { item = ok.item; there = ok.there }) (stay_in (facts_at z a) (w.node a) (w.stay a) ((world_of z).clocks a) (z.closing a) b.key (t.nodes a) ok.stands.view))
    (closing_in (facts_at z a) (w.node a) (w.stay a) ((world_of z).clocks a) (z.closing a) b.key (t.nodes a) ok.stands.view)) t

sender_tied : (G : Ground) (z : Front) (w : Picture) (a r : ℕ) (m : Message) → Tied z w → SendOk G z a r m → Sends z w a r m
sender_tied G z w a r (message.Batch b) t ok = batch_sent z w a r b t ok
sender_tied G z w a r (message.Propose k ms) t ok = facts_only (world_of z).facts (world_of z).clocks z.closing z.closing (world_of z).network z.owed w.node w.stay w.packet w.owed a (sent (facts_at z a) r (message.Propose k ms)) (unmoved a z.closing)
    (same_tie (facts_at z a) (sent (facts_at z a) r (message.Propose k ms)) (w.node a) (w.stay a) ((world_of z).clocks a) (z.closing a) (with_other (facts_at z a) _ _ _ _ (proposed_last (facts_at z a).agreement _ _)) (t.nodes a)) t
sender_tied G z w a r _ t ok = says_nothing z w a t

pub posted_tied : (G : Ground) (z : Front) (w : Picture) (i a b : ℕ) (bytes : List ℕ) → Tied z w → SentOk G z i a b bytes
    → TiedTo (posted_by (world_of z) i (record { from = a; to = b; bytes = bytes })) z.closing z.owed (sends_packet i (record { from = a; to = b; size = length bytes; message = message_of bytes }) w)
posted_tied G z w i a b bytes t ok = subst (λ (j : ℕ). TiedTo (posted_by (world_of z) j (record { from = a; to = b; bytes = bytes })) z.closing z.owed (sends_packet j (record { from = a; to = b; size = length bytes; message = message_of bytes }) w)) (sym ok.number) (go (message_of bytes) refl ok.says)
  where
    p : Posting
    p = record { from = a; to = b; bytes = bytes }

    next : ℕ
    next = length (world_of z).network.sent + 1

    new : (j : ℕ) → at_number w.packet (length (world_of z).network.sent + 1) (Some (packet_of (record { from = a; to = b; bytes = bytes }))) j
        ≡ option_map packet_of (posting_at (posting (world_of z).network (length (world_of z).network.sent + 1) (record { from = a; to = b; bytes = bytes })) j)
    new = packets_with (world_of z).network (record { from = a; to = b; bytes = bytes }) w.packet t.packets

    go : (m : Option Message) → message_of bytes ≡ m → SendOkIf G z a b m
        → TiedTo (sent_by (record (world_of z) { network = posting (world_of z).network (length (world_of z).network.sent + 1) (record { from = a; to = b; bytes = bytes }) }) a b m) z.closing z.owed
        (record w { packet = at_number w.packet (length (world_of z).network.sent + 1) (Some (packet_of (record { from = a; to = b; bytes = bytes }))); stay = sends_message a b m w.stay })
    go None e s = record { nodes = t.nodes; packets = new; owing = t.owing }
    go (Some m) e s = let r : Sends z w a b m = sender_tied G z w a b m t s in record { nodes = r.nodes; packets = new; owing = r.owing }

-- Who is heard, who stands in a list and who sends a heartbeat is declared.
use Rattle.std.proofs.Common.{◌≡◌, ℕ, zero, suc, ◌==◌, Bool, true, false, List, [], ◌∷◌, ◌++◌, length, Option, Some, None, refl, sym, ap, ◌∙◌, subst}
use Rattle.std.specs.Prelude.{option_map, option_and_then, slice_get, nat_le, if◌then◌else◌}
use Rattle.cluster_types.specs.declared.cluster_key.ClusterKey.{ClusterKey}
use Rattle.cluster_types.specs.declared.member.Member.{Member}
use Rattle.cluster_types.specs.declared.member.Role.{Role}
use Rattle.cluster_types.specs.Partitions.{partition_of}
use Rattle.journal_lines.specs.declared.line.Line.{Line}
use Rattle.journal_lines.specs.declared.line.Line.TheVariants as line
use Rattle.wire_messages.specs.declared.message.Message.{Message}
use Rattle.wire_messages.specs.declared.message.Message.TheVariants as message
use Rattle.wire_messages.specs.Decoding.{message_of}
use Rattle.node_rules.specs.Exchange.{is_member}
use Rattle.node_rules.specs.Facts.{Facts, list_at}
use Rattle.node_rules.specs.Map.{list_master}
use Rattle.node_rules.specs.Hearing.{Heard}
use Rattle.node_rules.specs.Keys.{same_key}
use Rattle.node_rules.specs.Notes as notes
use Rattle.node_rules.specs.Notes.{neighbours, reached, sent, in_view}
use Rattle.node_rules.specs.Tables.{Table, contains}
use Rattle.cluster_rules.specs.Marks.{Writes, after_line, came, came_to_client, sent_by, came_to_node}
use Rattle.journal_readings.specs.Messages.{Posting, Arrival, arrived, arrived_cut}
use Rattle.cluster_rules.specs.Network.{posting_at, posting}
use Rattle.cluster_rules.specs.World.{World, changed_at}
use Rattle.cluster_rules.proofs.AllowedLaws.{nodes_stay}
use Rattle.cluster_laws.proofs.At.{number_same, some_same, no_some}
use Rattle.key_laws.specs.Traced as traced
use Rattle.key_laws.proofs.Frames.{at_each}
use Rattle.key_laws.proofs.Kept.{WasPosted, was_posted}
use Rattle.key_laws.proofs.NamedLines.{Ids, heard_put, heard_aged, AllMembers, neighbours_are, member_is}
use Rattle.node_rules.specs.Messages.{client}
use Rattle.run_laws.specs.Fronts.{Front, world_of, facts_at, front_after}
use Rattle.run_laws.specs.LineOk.{IsDeclared}
use Rattle.run_laws.specs.LineDue.{SendDueIf, LineDue, DeclaredLaw}
use Rattle.run_laws.specs.Tied.{Each}
use Rattle.key_laws.specs.Traced.{with_list}

-- as the law says it
ids_from : (P : ℕ → Type 0) (es : Table Heard) → Each (λ (e : ℕ × Heard). P e.0) es → Ids P es
ids_from P [] h = tt
ids_from P (e ∷ es) h = (h.0, ids_from P es h.1)

-- ---- who is heard

abbrev Hears : (ℕ → Type 0) → World → Type 0
Hears P w = (n : ℕ) → Ids P (w.facts n).hearing.heard

one : (P : ℕ → Type 0) (w : World) (n : ℕ) (g : Facts) → Hears P w → Ids P g.hearing.heard → (m : ℕ) → Ids P (changed_at w.facts n g m).hearing.heard
one P w n g h x = at_each (λ (m : ℕ) (f : Facts). Ids P f.hearing.heard) w.facts n g h x

-- a message of another kind says nothing of who is heard
reached_hears : (P : ℕ → Type 0) (f : Facts) (from : ℕ) (m : Message) → ((view promised : ClusterKey) (hears : List ℕ) (role : Role) → m ≡ message.Heartbeat view promised hears role → P from) → Ids P f.hearing.heard → Ids P (reached f from m).hearing.heard
reached_hears P f from (message.Heartbeat view promised hears role) b h = heard_put (λ n r. P n) from _ f.hearing.heard (b view promised hears role refl) h
reached_hears P f from (message.State k wants row) b h = by_bool (in_view f k)
  where
    by_bool : (q : Bool) → Ids P (notes.row_came f from row q).hearing.heard
    by_bool true = h
    by_bool false = h
reached_hears P f from (message.BatchAck k number) b h = by_bool (in_view f k)
  where
    by_bool : (q : Bool) → Ids P (notes.batch_acked f from number q).hearing.heard
    by_bool true = h
    by_bool false = h
reached_hears P f from (message.Progress k wants done handed settled) b h = by_bool (in_view f k)
  where
    by_bool : (q : Bool) → Ids P (notes.progress_came f from done handed settled q).hearing.heard
    by_bool true = h
    by_bool false = h
reached_hears P f from (message.Repl k t nth d v) b h = by_bool (in_view f k)
  where
    counted : (l : List ℕ) (p : ℕ) (q : Bool)
        → Ids P (notes.write_counted_if f k l p nth q).hearing.heard
    counted l p true = h
    counted l p false = h

    by_bool : (q : Bool) → Ids P (notes.write_came f from k nth (partition_of d) q).hearing.heard
    by_bool true = counted (list_at f (partition_of d)) (partition_of d) (from == list_master (list_at f (partition_of d)))
    by_bool false = h
reached_hears P f from (message.ReplAck k t) b h = by_bool (in_view f k)
  where
    by_bool : (q : Bool) → Ids P (notes.write_acked f from t q).hearing.heard
    by_bool true = h
    by_bool false = h
reached_hears P f from (message.Answer k t v) b h = by_bool (in_view f k)
  where
    by_bool : (q : Bool) → Ids P (notes.answer_came f from t v q).hearing.heard
    by_bool true = h
    by_bool false = h
reached_hears P f from _ b h = h

sent_hears : (P : ℕ → Type 0) (f : Facts) (to : ℕ) (m : Message) → Ids P f.hearing.heard → Ids P (sent f to m).hearing.heard
sent_hears P f to (message.Propose k ms) h = h
sent_hears P f to (message.Batch b) h = h
sent_hears P f to _ h = h

abbrev BeatsFrom : (ℕ → Type 0) → Posting → Type 0
BeatsFrom P p = (view promised : ClusterKey) (hears : List ℕ) (role : Role) → message_of p.bytes ≡ Some (message.Heartbeat view promised hears role) → P p.from

came_hears : (P : ℕ → Type 0) (w : World) (b : ℕ) (p : Posting) → BeatsFrom P p → Hears P w → Hears P (came w (arrived b p))
came_hears P w b p beat h = go (message_of p.bytes) refl
  where
    at_client : (m : Message) → Hears P (came_to_client w m)
    at_client (message.MapTable t) = h
    at_client _ = h

    go : (o : Option Message) → message_of p.bytes ≡ o → Hears P (came w (option_map (λ m. record { from = p.from; to = b; message = m }) o))
    go None e = h
    go (Some m) e = by_end (b == client)
      where
        by_end : (q : Bool) → Hears P (if q then came_to_client w m else came_to_node w (record { from = p.from; to = b; message = m }))
        by_end true = at_client m
        by_end false = one P w b (reached (w.facts b) p.from m) h (reached_hears P (w.facts b) p.from m (λ v q hs r i. beat v q hs r (e ∙ ap Some i)) (h b))

arrival_hears : (P : ℕ → Type 0) (w : World) (b : ℕ) (o : Option Posting) → ((p : Posting) → o ≡ Some p → BeatsFrom P p) → Hears P w → Hears P (came w (option_and_then (arrived b) o))
arrival_hears P w b None beat h = h
arrival_hears P w b (Some p) beat h = came_hears P w b p (beat p refl) h

cut_hears : (P : ℕ → Type 0) (w : World) (b size : ℕ) (o : Option Posting) → ((p : Posting) → o ≡ Some p → BeatsFrom P p) → Hears P w → Hears P (came w (option_and_then (arrived_cut b size) o))
cut_hears P w b size None beat h = h
cut_hears P w b size (Some p) beat h = go (nat_le (length p.bytes) size)
  where
    go : (q : Bool) → Hears P (came w (if q then arrived b p else None))
    go true = came_hears P w b p (beat p refl) h
    go false = h

posted_hears : (P : ℕ → Type 0) (w : World) (a b : ℕ) (o : Option Message) → Hears P w → Hears P (sent_by w a b o)
posted_hears P w a b None h = h
posted_hears P w a b (Some m) h = one P w a (sent (w.facts a) b m) h (sent_hears P (w.facts a) b m (h a))

hears_line : (z : Front) (l : Line) → DeclaredLaw z → Hears (IsDeclared z) (after_line (world_of z) l)
hears_line z l h = go l
  where
    hs : Hears (IsDeclared z) (world_of z)
    hs n = ids_from (IsDeclared z) (facts_at z n).hearing.heard (h.heard n)

    beats_at : (i : ℕ) (p : Posting) → posting_at (world_of z).network i ≡ Some p → BeatsFrom (IsDeclared z) p
    beats_at i p e v q hs r m = let w : WasPosted z.chronicle.traced p = was_posted z.chronicle.traced i p e in h.beats w.place p v q hs r w.stands m

    go : (l : Line) → Hears (IsDeclared z) (after_line (world_of z) l)
    go (line.Deliver i a b) = arrival_hears (IsDeclared z) (world_of z) b (posting_at (world_of z).network i) (beats_at i) hs
    go (line.Repeat i a b) = arrival_hears (IsDeclared z) (world_of z) b (posting_at (world_of z).network i) (beats_at i) hs
    go (line.Cut i a b size) = cut_hears (IsDeclared z) (world_of z) b size (posting_at (world_of z).network i) (beats_at i) hs
    go (line.Sent i a b bytes) = posted_hears (IsDeclared z) (record (world_of z) { network = _ }) a b (message_of bytes) hs
    go (line.Tick n) = one (IsDeclared z) (world_of z) n _ hs (heard_aged (λ n r. IsDeclared z n) (facts_at z n).hearing.heard (hs n))
    go (line.Stop n) = one (IsDeclared z) (world_of z) n _ hs tt
    go (line.Start n) = one (IsDeclared z) (world_of z) n _ hs (hs n)
    go (line.Quiesce n) = one (IsDeclared z) (world_of z) n _ hs (hs n)
    go (line.Unquiesce n) = one (IsDeclared z) (world_of z) n _ hs (hs n)
    go (line.Promise n k) = one (IsDeclared z) (world_of z) n _ hs (hs n)
    go (line.Enter n k ms) = one (IsDeclared z) (world_of z) n _ hs (hs n)
    go (line.Exchanged n k) = one (IsDeclared z) (world_of z) n _ hs (hs n)
    go (line.Opened n k t d a) = one (IsDeclared z) (world_of z) n _ hs (hs n)
    go (line.Value n k t d v) = one (IsDeclared z) (world_of z) n _ hs (hs n)
    go (line.Apply n k t d v) = one (IsDeclared z) (world_of z) n _ hs (hs n)
    go (line.Done n k t) = one (IsDeclared z) (world_of z) n _ hs (hs n)
    go (line.Aborted n k t) = one (IsDeclared z) (world_of z) n _ hs (hs n)
    go (line.Doubt n k t) = one (IsDeclared z) (world_of z) n _ hs (hs n)
    go (line.Merge n k d v) = one (IsDeclared z) (world_of z) n _ hs (hs n)
    go (line.Handed n k p) = one (IsDeclared z) (world_of z) n _ hs (hs n)
    go (line.Settled n k p) = one (IsDeclared z) (world_of z) n _ hs (hs n)
    go (line.Learn n k p) = one (IsDeclared z) (world_of z) n _ hs (hs n)
    go (line.Drop n k p) = one (IsDeclared z) (world_of z) n _ hs (hs n)
    go _ = hs

-- ---- lists

lists_line : (z : Front) (l : Line) → (facts_me : (n : ℕ) → (facts_at z n).me ≡ n) → LineDue z l → DeclaredLaw z → (k : ClusterKey) (ms : List Member) (m : ℕ) → traced.lists_after z.chronicle.traced l k ≡ Some ms → is_member ms m ≡ true → IsDeclared z m
lists_line z (line.Promise n j) me ok h k ms m e i = go (j.principal == n) refl e
  where
    listed : (b : Bool) → (j.principal == n) ≡ true → (if b then Some (neighbours (facts_at z n)) else z.chronicle.traced.lists k) ≡ Some ms → IsDeclared z m
    listed true p q = member_is (IsDeclared z) ms m (subst (λ (xs : List Member). AllMembers (IsDeclared z) xs) (some_same q) (neighbours_are (IsDeclared z) (facts_at z n).me (facts_at z n).role (facts_at z n).hearing.heard (subst (IsDeclared z) (sym (me n)) (ok.1 (number_same j.principal n p))) (ids_from (IsDeclared z) (facts_at z n).hearing.heard (h.heard n)))) i
    listed false p q = h.lists k ms m q i

    go : (b : Bool) → (j.principal == n) ≡ b → (if b then with_list z.chronicle.traced.lists j (neighbours (facts_at z n)) else z.chronicle.traced.lists) k ≡ Some ms → IsDeclared z m
    go true p q = listed (same_key j k) p q
    go false p q = h.lists k ms m q i
lists_line z l me ok h k ms m e i = h.lists k ms m e i

-- ---- heartbeats

more : {A : Type 0} (xs : List A) (x y : A) (i : ℕ) (P : A → Type 0) → (slice_get xs i ≡ Some y → P y) → P x → slice_get (xs ++ x ∷ []) i ≡ Some y → P y
more {A} [] x y zero P old new e = subst P (some_same e) new
more {A} [] x y (suc i) P old new e = no_some e
more {A} (z ∷ xs) x y zero P old new e = old e
more {A} (z ∷ xs) x y (suc i) P old new e = more xs x y i P old new e

came_sent : (w : World) (x : Option Arrival) → (came w x).network.sent ≡ w.network.sent
came_sent w None = refl
came_sent w (Some x) = go (x.to == client)
  where
    at_client : (m : Message) → (came_to_client w m).network.sent ≡ w.network.sent
    at_client (message.MapTable t) = refl
    at_client _ = refl

    go : (q : Bool) → (if q then came_to_client w x.message else came_to_node w x).network.sent ≡ w.network.sent
    go true = at_client x.message
    go false = refl

beats_line : (z : Front) (l : Line) → LineDue z l → DeclaredLaw z → (i : ℕ) (p : Posting) → slice_get (after_line (world_of z) l).network.sent i ≡ Some p → BeatsFrom (IsDeclared z) p
beats_line z (line.Sent j a b bytes) ok h i p e = more (world_of z).network.sent (record { from = a; to = b; bytes = bytes }) p i (BeatsFrom (IsDeclared z)) (λ q v w hs r m. h.beats i p v w hs r q m) (λ v w hs r m. subst (SendDueIf z a b) m ok.1.says) (sym (ap (λ (xs : List Posting). slice_get xs i) (net_of (message_of bytes))) ∙ e)
  where
    net_of : (o : Option Message) → (sent_by (record (world_of z) { network = posting (world_of z).network j (record { from = a; to = b; bytes = bytes }) }) a b o).network.sent ≡ (world_of z).network.sent ++ record { from = a; to = b; bytes = bytes } ∷ []
    net_of None = refl
    net_of (Some m) = refl
beats_line z (line.Deliver j a b) ok h i p e = λ v w hs r m. h.beats i p v w hs r (sym (ap (λ (xs : List Posting). slice_get xs i) (came_sent (world_of z) (option_and_then (arrived b) (posting_at (world_of z).network j)))) ∙ e) m
beats_line z (line.Repeat j a b) ok h i p e = λ v w hs r m. h.beats i p v w hs r (sym (ap (λ (xs : List Posting). slice_get xs i) (came_sent (world_of z) (option_and_then (arrived b) (posting_at (world_of z).network j)))) ∙ e) m
beats_line z (line.Cut j a b size) ok h i p e = λ v w hs r m. h.beats i p v w hs r (sym (ap (λ (xs : List Posting). slice_get xs i) (came_sent (world_of z) (option_and_then (arrived_cut b size) (posting_at (world_of z).network j)))) ∙ e) m
beats_line z l ok h i p e = λ v w hs r m. h.beats i p v w hs r e m

-- ---- all of it

pub declared_line : (z : Front) (l : Line) → ((n : ℕ) → (facts_at z n).me ≡ n) → LineDue z l → DeclaredLaw z → DeclaredLaw (front_after z (Writes l))
declared_line z l me ok h = record {
  lists = λ k ms m e i. on m (lists_line z l me ok h k ms m e i);
  heard = λ n. all_on _ (hears_line z l h n);
  beats = λ i p v q hs r e m. on p.from (beats_line z l ok h i p e v q hs r m);
}
  where
    on : (m : ℕ) → IsDeclared z m → IsDeclared (front_after z (Writes l)) m
    on m d = ap (λ (ns : List ℕ). contains ns m) (nodes_stay (Writes l ∷ []) (world_of z)) ∙ d

    all_on : (es : Table Heard) → Ids (IsDeclared z) es → Each (λ (e : ℕ × Heard). IsDeclared (front_after z (Writes l)) e.0) es
    all_on [] d = tt
    all_on (e ∷ es) d = (on e.0 d.0, all_on es d.1)

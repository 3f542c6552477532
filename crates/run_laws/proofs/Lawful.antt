-- What holds at every line goes over each line that is due.
use Rattle.std.proofs.Common.{◌≡◌, ◌⊎◌, ℕ, ◌==◌, Bool, true, false, cond, ◌&&◌, List, [], ◌∷◌, length, Option, Some, None, refl, sym, ap, ◌∙◌, subst, ⊎_elim}
use Rattle.std.specs.Prelude.{slice_get, option_map, option_and_then, nat_le, if◌then◌else◌}
use Rattle.conflict_order.specs.declared.policy.Policy.{Policy}
use Rattle.cluster_types.specs.declared.cluster_key.ClusterKey.{ClusterKey}
use Rattle.cluster_types.specs.ClusterKeys.{key_lt, IsBelow}
use Rattle.cluster_types.specs.declared.member.Member.{Member}
use Rattle.journal_lines.specs.declared.line.Line.{Line}
use Rattle.journal_lines.specs.declared.line.Line.TheVariants as line
use Rattle.wire_messages.specs.declared.message.Batch.{Batch}
use Rattle.wire_messages.specs.declared.message.Message.{Message}
use Rattle.node_rules.specs.Transactions.{Transaction}
use Rattle.node_rules.specs.Messages.{client}
use Rattle.run_laws.specs.Tied.{key_in}
use Rattle.wire_messages.specs.declared.message.Message.TheVariants as message
use Rattle.wire_messages.specs.Decoding.{message_of}
use Rattle.wire_messages.proofs.DecodingLaws.{what_is_read}
use Rattle.node_rules.specs.Copies.{Row}
use Rattle.node_rules.specs.Facts.{Facts, list_at}
use Rattle.node_rules.specs.Keys.{same_key}
use Rattle.node_rules.specs.Notes.{reached, sent, request_want}
use Rattle.cluster_types.specs.Partitions.{partition_of}
use Rattle.cluster_rules.specs.Marks.{Begins, Writes, after_line, came, came_to_client, sent_by, came_to_node}
use Rattle.cluster_rules.specs.declared.event.Event.{Event}
use Rattle.journal_readings.specs.Messages.{Posting, arrived, arrived_cut}
use Rattle.cluster_rules.specs.Network.{posting_at}
use Rattle.cluster_rules.specs.World.{World, changed_at}
use Rattle.cluster_rules.proofs.KeptFacts.{Kept, kept_of, own_step, is_own, marks_kept}
use Rattle.cluster_laws.proofs.At.{number_same, key_same, or_cases, differ, some_same}
use Rattle.key_laws.specs.Licences.{OkLine}
use Rattle.key_laws.specs.Order.{KeyAtMost}
use Rattle.key_laws.specs.Sound.{Grows}
use Rattle.key_laws.specs.Traced.{Traced, facts_of}
use Rattle.key_laws.specs.Traced as traced
use Rattle.key_laws.proofs.Frames.{at_each}
use Rattle.key_laws.proofs.Kept.{Keeps, kept_line, kept_begun}
use Rattle.key_laws.proofs.KeptNodes.{entered_as}
use Rattle.key_laws.proofs.KeptNodes.{Lawful as KeyLawful}
use Rattle.key_laws.proofs.Order.{at_most_trans, at_most_eq, below_at_most, lt_below, below_lt, not_below}
use Rattle.run_laws.specs.Chronicle.{Chronicle, Longer, Rowed, RowOk, IsRowOf, MayEnterFirst}
use Rattle.run_laws.specs.Chronicle as chronicle
use Rattle.run_laws.specs.Fronts.{Front, world_of, facts_at, front_after}
use Rattle.run_laws.specs.LineDue.{EnterDue, SendDueIf, LineDue, LineMay, LawOf, LawfulFront}
use Rattle.run_laws.proofs.Carried.{taken_sent}
use Rattle.run_laws.proofs.Declared.{declared_line}
use Rattle.run_laws.proofs.NodeLaws.{stopped_law, entered_law, exchanged_law, opened_law, closed_law, applied_law, handed_law, settled_law, reached_law, sent_law}
use Rattle.run_laws.proofs.Rows.{enter_long, rowed_line, beside}

-- ---- each node's law

abbrev Laws : Policy → ℕ → World → Type 0
Laws by factor w = (n : ℕ) → LawOf by factor (w.facts n)

one : (by : Policy) (factor : ℕ) (w : World) (n : ℕ) (g : Facts) → Laws by factor w → LawOf by factor g → (m : ℕ) → LawOf by factor (changed_at w.facts n g m)
one by factor w n g h x = at_each (λ (m : ℕ) (f : Facts). LawOf by factor f) w.facts n g h x

came_laws : (by : Policy) (factor : ℕ) (w : World) (b : ℕ) (p : Posting) → Laws by factor w → Laws by factor (came w (arrived b p))
came_laws by factor w b p h = go (message_of p.bytes) refl
  where
    at_client : (m : Message) → Laws by factor (came_to_client w m)
    at_client (message.MapTable t) = h
    at_client _ = h

    go : (o : Option Message) → message_of p.bytes ≡ o → Laws by factor (came w (option_map (λ m. record { from = p.from; to = b; message = m }) o))
    go None e = h
    go (Some m) e = by_end (b == client)
      where
        by_end : (q : Bool) → Laws by factor (if q then came_to_client w m else came_to_node w (record { from = p.from; to = b; message = m }))
        by_end true = at_client m
        by_end false = one by factor w b (reached (w.facts b) p.from m) h (reached_law by factor (w.facts b) p.from m (what_is_read p.bytes m e).0 (h b))

arrival_laws : (by : Policy) (factor : ℕ) (w : World) (b : ℕ) (o : Option Posting) → Laws by factor w → Laws by factor (came w (option_and_then (arrived b) o))
arrival_laws by factor w b None h = h
arrival_laws by factor w b (Some p) h = came_laws by factor w b p h

cut_laws : (by : Policy) (factor : ℕ) (w : World) (b size : ℕ) (o : Option Posting) → Laws by factor w → Laws by factor (came w (option_and_then (arrived_cut b size) o))
cut_laws by factor w b size None h = h
cut_laws by factor w b size (Some p) h = go (nat_le (length p.bytes) size)
  where
    go : (q : Bool) → Laws by factor (came w (if q then arrived b p else None))
    go true = came_laws by factor w b p h
    go false = h

sent_laws : (by : Policy) (factor : ℕ) (w : World) (a b : ℕ) (o : Option Message) → ((x : Batch) → o ≡ Some (message.Batch x) → key_in (w.facts a).exchange.view ≡ Some x.key) → Laws by factor w → Laws by factor (sent_by w a b o)
sent_laws by factor w a b None keyed h = h
sent_laws by factor w a b (Some m) keyed h = one by factor w a (sent (w.facts a) b m) h (sent_law by factor (w.facts a) b m (λ x e. keyed x (ap Some e)) (h a))

batch_keyed : (z : Front) (a b : ℕ) (o : Option Message) → SendDueIf z a b o → (x : Batch) → o ≡ Some (message.Batch x) → key_in (facts_at z a).exchange.view ≡ Some x.key
batch_keyed z a b o ok x e = (subst (SendDueIf z a b) e ok).stands.view

laws_line : (by : Policy) (factor : ℕ) (z : Front) (l : Line) → LineDue z l → Laws by factor (world_of z) → Laws by factor (after_line (world_of z) l)
laws_line by factor z (line.Deliver i a b) ok h = arrival_laws by factor (world_of z) b (posting_at (world_of z).network i) h
laws_line by factor z (line.Repeat i a b) ok h = arrival_laws by factor (world_of z) b (posting_at (world_of z).network i) h
laws_line by factor z (line.Cut i a b size) ok h = cut_laws by factor (world_of z) b size (posting_at (world_of z).network i) h
laws_line by factor z (line.Sent i a b bytes) ok h = sent_laws by factor (record (world_of z) { network = _ }) a b (message_of bytes) (batch_keyed z a b (message_of bytes) ok.1.says) h
laws_line by factor z (line.Tick n) ok h = one by factor (world_of z) n _ h (h n)
laws_line by factor z (line.Stop n) ok h = one by factor (world_of z) n _ h (stopped_law by factor (facts_at z n) (h n))
laws_line by factor z (line.Start n) ok h = one by factor (world_of z) n _ h (h n)
laws_line by factor z (line.Quiesce n) ok h = one by factor (world_of z) n _ h (h n)
laws_line by factor z (line.Unquiesce n) ok h = one by factor (world_of z) n _ h (h n)
laws_line by factor z (line.Promise n k) ok h = one by factor (world_of z) n _ h (h n)
laws_line by factor z (line.Enter n k ms) ok h = one by factor (world_of z) n _ h (entered_law by factor (facts_at z n) k ms (h n))
laws_line by factor z (line.Exchanged n k) ok h = one by factor (world_of z) n _ h (exchanged_law by factor (facts_at z n) k ok.1.none ok.1.stands.view (h n))
laws_line by factor z (line.Opened n k t d a) ok h = one by factor (world_of z) n _ h (opened_law by factor (facts_at z n) (list_at (facts_at z n) (partition_of d)) t d (request_want (world_of z).want a) ok.1.opens.number (h n))
laws_line by factor z (line.Value n k t d v) ok h = one by factor (world_of z) n _ h (closed_law by factor (facts_at z n) t (h n))
laws_line by factor z (line.Apply n k t d v) ok h = one by factor (world_of z) n _ h (applied_law by factor (facts_at z n) k t d v (λ y e. ap (λ (x : Transaction). x.digest) (some_same (sym e ∙ ok.1.applies.resolves.running)) ∙ ok.1.applies.resolves.digest) (h n))
laws_line by factor z (line.Done n k t) ok h = one by factor (world_of z) n _ h (closed_law by factor (facts_at z n) t (h n))
laws_line by factor z (line.Aborted n k t) ok h = one by factor (world_of z) n _ h (closed_law by factor (facts_at z n) t (h n))
laws_line by factor z (line.Doubt n k t) ok h = one by factor (world_of z) n _ h (closed_law by factor (facts_at z n) t (h n))
laws_line by factor z (line.Merge n k d v) ok h = one by factor (world_of z) n _ h (h n)
laws_line by factor z (line.Handed n k p) ok h = one by factor (world_of z) n _ h (handed_law by factor (facts_at z n) p (h n))
laws_line by factor z (line.Settled n k p) ok h = one by factor (world_of z) n _ h (settled_law by factor (facts_at z n) p (h n))
laws_line by factor z (line.Learn n k p) ok h = one by factor (world_of z) n _ h (h n)
laws_line by factor z (line.Drop n k p) ok h = one by factor (world_of z) n _ h (h n)
laws_line by factor z _ ok h = h

-- ---- entries and last keys

abbrev is_entering : Line → Bool
is_entering (line.Enter n k ms) = true
is_entering _ = false

own_last : (k : Kept) (l : Line) → is_entering l ≡ false → (own_step k l).last ≡ k.last
own_last k (line.Enter n j ms) e = differ refl e
own_last k l e = refl

last_stays : (w : World) (l : Line) (n : ℕ) → is_entering l ≡ false → ((after_line w l).facts n).agreement.last ≡ (w.facts n).agreement.last
last_stays w l n e = ap (λ (k : Kept). k.last) (marks_kept (Writes l ∷ []) w n) ∙ go (is_own n l)
  where
    go : (b : Bool) → (cond b (own_step (kept_of (w.facts n)) l) (kept_of (w.facts n))).last ≡ (w.facts n).agreement.last
    go true = own_last (kept_of (w.facts n)) l e
    go false = refl

abbrev Visited : Traced → Type 0
Visited t = (n : ℕ) (k : ClusterKey) → t.entered n k ≡ true
    → KeyAtMost k (facts_of t n).agreement.last

visited_enter : (t : Traced) (n : ℕ) (k : ClusterKey) (ms : List Member) → key_lt (facts_of t n).agreement.last k ≡ true → Visited t → Visited (traced.traced_after t (Writes (line.Enter n k ms)))
visited_enter t n k ms lt h m j e = subst (KeyAtMost j) (sym (ap (λ (x : Kept). x.last) (marks_kept (Writes (line.Enter n k ms) ∷ []) t.world m))) (go (n == m) refl (or_cases _ (t.entered m j) e))
  where
    go : (b : Bool) → (n == m) ≡ b → ((b && same_key k j) ≡ true) ⊎ (t.entered m j ≡ true) → KeyAtMost j (cond b (own_step (kept_of (facts_of t m)) (line.Enter n k ms)) (kept_of (facts_of t m))).last
    go true i c = ⊎_elim (λ x. at_most_eq (sym (key_same k j x))) (λ y. at_most_trans (h m j y) (below_at_most (lt_below _ k (ap (λ (q : ℕ). key_lt (facts_of t q).agreement.last k) (sym (number_same n m i)) ∙ lt)))) c
    go false i c = ⊎_elim (λ x. differ x refl) (λ y. h m j y) c

visited_line : (z : Front) (l : Line) → LineDue z l → Visited z.chronicle.traced → Visited (traced.traced_after z.chronicle.traced (Writes l))
visited_line z (line.Enter n k ms) ok h = visited_enter z.chronicle.traced n k ms ok.1.above h
visited_line z l ok h = λ m j e. subst (KeyAtMost j) (sym (last_stays (world_of z) l m refl))
    (h m j e)

-- ---- what grows

long_line : (z : Front) (l : Line) → LineDue z l → Grows z.chronicle.traced (traced.traced_after z.chronicle.traced (Writes l)) → Longer z.chronicle (chronicle.chronicle_after z.chronicle (Writes l))
long_line z (line.Enter n k ms) ok g = enter_long z.chronicle n k ms ok.1.first
long_line z l ok g = record { entered = g.entered; lists = g.lists; rows = λ n k e. refl }

row_said : (z : Front) (a b : ℕ) (o : Option Message) → SendDueIf z a b o → (k : ClusterKey) (wants : Bool) (row : Row) → o ≡ Some (message.State k wants row) → IsRowOf z.chronicle a k row
row_said z a b o ok k wants row e = (subst (SendDueIf z a b) e ok).row

row_ok : (z : Front) (l : Line) → LineDue z l → RowOk z.chronicle (Writes l)
row_ok z (line.Enter n k ms) ok = ok.1.first
row_ok z (line.Sent i a b bytes) ok = row_said z a b (message_of bytes) ok.1.says
row_ok z _ ok = tt

-- ---- all of it

pub record Onward (by : Policy) (factor : ℕ) (z y : Front) : Type 0 where
  pub lawful : LawfulFront by factor y
  pub longer : Longer z.chronicle y.chronicle

pub lawful_line : (by : Policy) (factor : ℕ) (z : Front) (l : Line) → OkLine z.chronicle.traced l → LineDue z l → LawfulFront by factor z → Onward by factor z (front_after z (Writes l))
lawful_line by factor z l key ok h =
    let kept : Keeps z.chronicle.traced (traced.traced_after z.chronicle.traced (Writes l)) = kept_line z.chronicle.traced l key h.sound in
    let long : Longer z.chronicle (chronicle.chronicle_after z.chronicle (Writes l)) = long_line z l ok kept.grows in
    record {
      lawful = record {
        sound = kept.sound;
        rowed = rowed_line z.chronicle l (λ n. (h.sound.nodes n).me) long (row_ok z l ok) h.rowed;
        nodes = laws_line by factor z l ok h.nodes;
        visited = visited_line z l ok h.visited;
        declared = declared_line z l (λ n. (h.sound.nodes n).me) ok h.declared;
      };
      longer = long;
    }

pub lawful_begun : (by : Policy) (factor : ℕ) (z : Front) (e : Event) → LawfulFront by factor z → Onward by factor z (front_after z (Begins e))
lawful_begun by factor z e h =
    let kept : Keeps z.chronicle.traced (traced.traced_after z.chronicle.traced (Begins e)) = kept_begun z.chronicle.traced e h.sound in
    let long : Longer z.chronicle (chronicle.chronicle_after z.chronicle (Begins e)) = record { entered = kept.grows.entered; lists = kept.grows.lists; rows = λ n k i. refl } in
    record {
      lawful = record {
        sound = kept.sound;
        rowed = begun_rowed e;
        nodes = h.nodes;
        visited = h.visited;
        declared = record { lists = h.declared.lists; heard = h.declared.heard; beats = λ i p v q hs r s. h.declared.beats i p v q hs r (sym (ap (λ (xs : List Posting). slice_get xs i) (taken_sent (world_of z).network e)) ∙ s) };
      };
      longer = long;
    }
  where
    begun_rowed : (e : Event) → Rowed (chronicle.chronicle_after z.chronicle (Begins e))
    begun_rowed e = let kept : Keeps z.chronicle.traced (traced.traced_after z.chronicle.traced (Begins e)) = kept_begun z.chronicle.traced e h.sound in
        beside z.chronicle (chronicle.chronicle_after z.chronicle (Begins e)) (record { entered = kept.grows.entered; lists = kept.grows.lists; rows = λ n k i. refl }) refl (sym (taken_sent (world_of z).network e)) h.rowed

-- ---- an entry, by the laws of keys

entry_due : (by : Policy) (factor : ℕ) (z : Front) (n : ℕ) (k : ClusterKey) (ms : List Member) → LawfulFront by factor z → OkLine z.chronicle.traced (line.Enter n k ms) → EnterDue z n k ms
entry_due by factor z n k ms h key =
    let ok : KeyLawful z.chronicle.traced n k ms = entered_as z.chronicle.traced n k ms h.sound key in
    record { first = record { first = not_yet (z.chronicle.traced.entered n k) refl ok.above; list = ok.list; among = ok.among }; above = below_lt _ k ok.above }
  where
    not_yet : (b : Bool) → z.chronicle.traced.entered n k ≡ b → IsBelow (facts_at z n).agreement.last k → b ≡ false
    not_yet true e lt = absurd (not_below lt (h.visited n k e))
    not_yet false e lt = refl

pub strengthened : (by : Policy) (factor : ℕ) (z : Front) (l : Line) → LawfulFront by factor z → OkLine z.chronicle.traced l → LineMay z l → LineDue z l
strengthened by factor z (line.Enter n k ms) h key ok = (ok.0, entry_due by factor z n k ms h key)
strengthened by factor z l h key ok = ok

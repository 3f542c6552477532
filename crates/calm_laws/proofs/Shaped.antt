-- Each line and each message leaves a target for each other member, and a place for each partition in the row of what
-- was learnt.
use Rattle.std.proofs.Common.{◌≡◌, ◌⊎◌, inl, inr, ℕ, zero, suc, ◌==◌, ◌||◌, Bool, true, false, List, [], ◌∷◌, map, Option, Some, None, refl, ap, subst, ◌∙◌}
use Rattle.std.specs.Prelude.{option_and_then, if◌then◌else◌}
use Rattle.conflict_order.specs.declared.want.Want.{Want}
use Rattle.cluster_types.specs.declared.cluster_key.ClusterKey.{ClusterKey}
use Rattle.cluster_types.specs.Partitions.{partition_of}
use Rattle.cluster_types.specs.Rows.{bit}
use Rattle.wire_messages.specs.declared.message.Batch.{Batch}
use Rattle.wire_messages.specs.declared.message.Message.{Message}
use Rattle.wire_messages.specs.declared.message.Message.TheVariants as message
use Rattle.wire_messages.specs.Decoding.{message_of}
use Rattle.journal_lines.specs.declared.line.Line.{Line}
use Rattle.journal_lines.specs.declared.line.Line.TheVariants as line
use Rattle.node_rules.specs.Batches as batches
use Rattle.node_rules.specs.Batches.{Target, Targets, acked_out}
use Rattle.node_rules.specs.Bits.{clear_row, or_rows, with_bit}
use Rattle.node_rules.specs.Copies.{Content}
use Rattle.node_rules.specs.Facts.{Facts, list_at}
use Rattle.node_rules.specs.Notes as notes
use Rattle.node_rules.specs.Notes.{in_view, note, reached, sent}
use Rattle.node_rules.specs.Standing.{others}
use Rattle.node_rules.specs.Tables.{changed_if}
use Rattle.journal_readings.specs.Messages.{Arrival, arrived, arrived_cut}
use Rattle.cluster_rules.specs.Marks.{Mark, Begins, Writes, after_all, after_line, came, came_to_client, came_to_node, sent_by}
use Rattle.cluster_rules.specs.Network.{posting, posting_at}
use Rattle.cluster_rules.specs.Steps.{all_marks}
use Rattle.cluster_rules.specs.World.{World, changed_at, new_if, opened}
use Rattle.cluster_laws.proofs.At.{differ}
use Rattle.run_laws.proofs.NodeLaws.{clear_length, set_length}
use Rattle.node_rules.specs.Messages.{client}
use Rattle.calm_laws.specs.Onward.{MayTake}
use Rattle.calm_laws.specs.Shaped.{Shaped, Within}

-- ---- targets

abbrev nodes_of : Targets → List ℕ
nodes_of ts = map (λ (t : Target). t.node) ts

changing_nodes : (ts : Targets) (n : ℕ) (change : Target → Target) → ((t : Target) → (change t).node ≡ t.node) → nodes_of (batches.change_target ts n change) ≡ nodes_of ts
changing_nodes [] n change same = refl
changing_nodes (t ∷ ts) n change same = ap (λ (ns : List ℕ). (changed_if change t (t.node == n)).node ∷ ns) (changing_nodes ts n change same) ∙ ap (λ (k : ℕ). k ∷ nodes_of ts) (go (t.node == n))
  where
    go : (b : Bool) → (changed_if change t b).node ≡ t.node
    go true = same t
    go false = refl

changing_shape : (f : Facts) (n : ℕ) (change : Target → Target) → ((t : Target) → (change t).node ≡ t.node) → (nodes_of f.batches ≡ others f) ⊎ (f.batches ≡ []) → (nodes_of (batches.change_target f.batches n change) ≡ others f) ⊎ (batches.change_target f.batches n change ≡ [])
changing_shape f n change same (inl e) = inl (changing_nodes f.batches n change same ∙ e)
changing_shape f n change same (inr e) = inr
    (ap (λ (ts : Targets). batches.change_target ts n change) e)

target_nodes : (pending : ℕ → List ℕ → Bool) (content : Content) (ns : List ℕ) → nodes_of (batches.targets_of pending content ns) ≡ ns
target_nodes pending content [] = refl
target_nodes pending content (n ∷ ns) = ap (λ (ms : List ℕ). n ∷ ms) (target_nodes pending content ns)

acked_node : (t : Target) (number : ℕ) (o : Option Batch) → (acked_out t number o).node ≡ t.node
acked_node t number None = refl
acked_node t number (Some b) = go (b.number == number)
  where
    go : (c : Bool) → (Rattle.std.specs.Prelude.if◌then◌else◌ c (batches.without_batch t b) t).node ≡ t.node
    go true = refl
    go false = refl

-- ---- rows of bits

within_self : (xs : List Bool) → Within xs xs
within_self [] = tt
within_self (x ∷ xs) = ((λ e. e), within_self xs)

within_set : (xs ys : List Bool) (p : ℕ) → Within xs ys → Within (with_bit xs p) (with_bit ys p)
within_set [] ys zero h = tt
within_set [] ys (suc p) h = tt
within_set (x ∷ xs) [] p h = absurd h
within_set (x ∷ xs) (y ∷ ys) zero h = ((λ e. refl), h.1)
within_set (x ∷ xs) (y ∷ ys) (suc p) h = (h.0, within_set xs ys p h.1)

within_or : (xs ys zs : List Bool) → Within xs ys → Within xs (or_rows ys zs)
within_or [] ys zs h = tt
within_or (x ∷ xs) [] zs h = absurd h
within_or (x ∷ xs) (y ∷ ys) [] h = h
within_or (x ∷ xs) (y ∷ ys) (z ∷ zs) h = ((λ e. ap (λ (b : Bool). b || z) (h.0 e)), within_or xs ys zs h.1)

-- what is set in the one is set in the other
pub within_bit : (xs ys : List Bool) (p : ℕ) → Within xs ys → bit xs p ≡ true → bit ys p ≡ true
within_bit [] ys p h e = differ e (none p)
  where
    none : (p : ℕ) → bit [] p ≡ false
    none zero = refl
    none (suc p) = refl
within_bit (x ∷ xs) [] p h e = absurd h
within_bit (x ∷ xs) (y ∷ ys) zero h e = h.0 e
within_bit (x ∷ xs) (y ∷ ys) (suc p) h e = within_bit xs ys p h.1 e

-- ---- one node

note_shaped : (q : Option Want) (f : Facts) (l : Line) → Shaped f → Shaped (note q f l)
note_shaped q f (line.Stop n) h = record { targets = inr refl; learnt = clear_length; own = within_self clear_row }
note_shaped q f (line.Enter n k ms) h = record { targets = inr refl; learnt = clear_length; own = within_self clear_row }
note_shaped q f (line.Exchanged n k) h = record { targets = inl (target_nodes (notes.is_for f) f.store.content (others f)); learnt = h.learnt; own = h.own }
note_shaped q f (line.Learn n k p) h = record { targets = h.targets; learnt = set_length f.bits.learnt p true ∙ h.learnt; own = h.own }
note_shaped q f (line.Handed n k p) h = record { targets = h.targets; learnt = h.learnt; own = within_set f.bits.own_handed f.bits.handed p h.own }
note_shaped q f l h = record { targets = h.targets; learnt = h.learnt; own = h.own }

counted_shaped : (f : Facts) (k : ClusterKey) (l : List ℕ) (p nth : ℕ) (b : Bool) → Shaped f → Shaped (notes.write_counted_if f k l p nth b)
counted_shaped f k l p nth true h = record { targets = h.targets; learnt = h.learnt; own = h.own }
counted_shaped f k l p nth false h = h

reached_shaped : (f : Facts) (from : ℕ) (m : Message) → Shaped f → Shaped (reached f from m)
reached_shaped f from (message.State k wants row) h = go (in_view f k)
  where
    go : (b : Bool) → Shaped (notes.row_came f from row b)
    go true = record { targets = h.targets; learnt = h.learnt; own = h.own }
    go false = h
reached_shaped f from (message.BatchAck k number) h = go (in_view f k)
  where
    go : (b : Bool) → Shaped (notes.batch_acked f from number b)
    go true = record { targets = changing_shape f from (λ t. acked_out t number t.out) (λ t. acked_node t number t.out) h.targets; learnt = h.learnt; own = h.own }
    go false = h
reached_shaped f from (message.Progress k wants done handed settled) h = go (in_view f k)
  where
    go : (b : Bool) → Shaped (notes.progress_came f from done handed settled b)
    go true = record { targets = h.targets; learnt = h.learnt; own = within_or f.bits.own_handed f.bits.handed handed h.own }
    go false = h
reached_shaped f from (message.Repl k t nth d v) h = go (in_view f k)
  where
    go : (b : Bool) → Shaped (notes.write_came f from k nth (partition_of d) b)
    go true = counted_shaped f k (list_at f (partition_of d)) (partition_of d) nth _ h
    go false = h
reached_shaped f from (message.ReplAck k t) h = go (in_view f k)
  where
    go : (b : Bool) → Shaped (notes.write_acked f from t b)
    go true = record { targets = h.targets; learnt = h.learnt; own = h.own }
    go false = h
reached_shaped f from (message.Answer k t v) h = go (in_view f k)
  where
    go : (b : Bool) → Shaped (notes.answer_came f from t v b)
    go true = record { targets = h.targets; learnt = h.learnt; own = h.own }
    go false = h
reached_shaped f from m h = record { targets = h.targets; learnt = h.learnt; own = h.own }

sent_shaped : (f : Facts) (to : ℕ) (m : Message) → Shaped f → Shaped (sent f to m)
sent_shaped f to (message.Batch b) h = record { targets = changing_shape f to (λ (t : Target). record t { out = Some b; batches = b.number }) (λ t. refl) h.targets; learnt = h.learnt; own = h.own }
sent_shaped f to m h = record { targets = h.targets; learnt = h.learnt; own = h.own }

-- ---- all of them

abbrev AllShaped : World → Type 0
AllShaped w = (m : ℕ) → Shaped (w.facts m)

at_shaped : (f : ℕ → Facts) (n : ℕ) (new : Facts) → Shaped new → ((m : ℕ) → Shaped (f m)) → (m : ℕ) → Shaped (changed_at f n new m)
at_shaped f n new h all m = go (n == m)
  where
    go : (b : Bool) → Shaped (new_if new f m b)
    go true = h
    go false = all m

node_shaped : (w : World) (n : ℕ) (l : Line) → AllShaped w → AllShaped (Rattle.cluster_rules.specs.Marks.by_node w n l)
node_shaped w n l h = at_shaped w.facts n (note w.want (w.facts n) l) (note_shaped w.want (w.facts n) l (h n)) h

came_shaped : (w : World) (o : Option Arrival) → AllShaped w → AllShaped (came w o)
came_shaped w None h = h
came_shaped w (Some x) h = go (x.to == client)
  where
    at_client : (m : Message) → AllShaped (came_to_client w m)
    at_client (message.MapTable t) = h
    at_client m = h

    go : (b : Bool) → AllShaped (if b then came_to_client w x.message else came_to_node w x)
    go true = at_client x.message
    go false = at_shaped w.facts x.to (reached (w.facts x.to) x.from x.message) (reached_shaped (w.facts x.to) x.from x.message (h x.to)) h

posted_shaped : (w : World) (a b : ℕ) (o : Option Message) → AllShaped w → AllShaped (sent_by w a b o)
posted_shaped w a b None h = h
posted_shaped w a b (Some m) h = at_shaped w.facts a (sent (w.facts a) b m) (sent_shaped (w.facts a) b m (h a)) h

line_shaped : (w : World) (l : Line) → AllShaped w → AllShaped (after_line w l)
line_shaped w (line.Deliver i a b) h = came_shaped w (option_and_then (arrived b) (posting_at w.network i)) h
line_shaped w (line.Repeat i a b) h = came_shaped w (option_and_then (arrived b) (posting_at w.network i)) h
line_shaped w (line.Cut i a b size) h = came_shaped w (option_and_then (arrived_cut b size) (posting_at w.network i)) h
line_shaped w (line.Sent i a b bytes) h = posted_shaped (record w { network = posting w.network i (record { from = a; to = b; bytes = bytes }) }) a b (message_of bytes) h
line_shaped w (line.Tick n) h = node_shaped w n (line.Tick n) h
line_shaped w (line.Stop n) h = node_shaped w n (line.Stop n) h
line_shaped w (line.Start n) h = node_shaped w n (line.Start n) h
line_shaped w (line.Quiesce n) h = node_shaped w n (line.Quiesce n) h
line_shaped w (line.Unquiesce n) h = node_shaped w n (line.Unquiesce n) h
line_shaped w (line.Promise n k) h = node_shaped w n (line.Promise n k) h
line_shaped w (line.Enter n k ms) h = node_shaped w n (line.Enter n k ms) h
line_shaped w (line.Exchanged n k) h = node_shaped w n (line.Exchanged n k) h
line_shaped w (line.Opened n k t d a) h = node_shaped w n (line.Opened n k t d a) h
line_shaped w (line.Value n k t d v) h = node_shaped w n (line.Value n k t d v) h
line_shaped w (line.Apply n k t d v) h = node_shaped w n (line.Apply n k t d v) h
line_shaped w (line.Done n k t) h = node_shaped w n (line.Done n k t) h
line_shaped w (line.Aborted n k t) h = node_shaped w n (line.Aborted n k t) h
line_shaped w (line.Doubt n k t) h = node_shaped w n (line.Doubt n k t) h
line_shaped w (line.Merge n k d v) h = node_shaped w n (line.Merge n k d v) h
line_shaped w (line.Handed n k p) h = node_shaped w n (line.Handed n k p) h
line_shaped w (line.Settled n k p) h = node_shaped w n (line.Settled n k p) h
line_shaped w (line.Learn n k p) h = node_shaped w n (line.Learn n k p) h
line_shaped w (line.Drop n k p) h = node_shaped w n (line.Drop n k p) h
line_shaped w l h = h

marks_shaped : (ms : List Mark) (w : World) → AllShaped w → AllShaped (after_all w ms)
marks_shaped [] w h = h
marks_shaped (Begins e ∷ ms) w h = marks_shaped ms
    (Rattle.cluster_rules.specs.Marks.event_begun w e) h
marks_shaped (Writes l ∷ ms) w h = marks_shaped ms (after_line w l) (line_shaped w l h)

-- so it is in every world that steps lead to
pub shaped : {w : World} → MayTake w [] → (m : ℕ) → Shaped (w.facts m)
shaped may m = subst (λ (u : World). Shaped (u.facts m)) may.leads (marks_shaped (all_marks may.before) (opened may.header) (λ n. record { targets = inr refl; learnt = clear_length; own = within_self clear_row }) m)

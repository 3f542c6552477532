-- No tick and no message opens a transaction: in rounds each open transaction is one of those that were open.
use Rattle.std.proofs.Common.{◌≡◌, inl, inr, ℕ, zero, suc, ◌+◌, ◌==◌, not, Bool, true, false, cond, List, [], ◌∷◌, ◌++◌, map, filter, Option, Some, None, refl, sym, ap, subst, ◌∙◌}
use Rattle.std.specs.Prelude.{find, if◌then◌else◌, option_and_then}
use Rattle.std.proofs.lemmas.Grind.{flat_map-append}
use Rattle.conflict_order.specs.declared.want.Want.{Want}
use Rattle.cluster_types.specs.Partitions.{partition_of}
use Rattle.wire_messages.specs.declared.message.Message.{Message}
use Rattle.wire_messages.specs.declared.message.Message.TheVariants as message
use Rattle.wire_messages.specs.Decoding.{message_of}
use Rattle.journal_lines.specs.declared.line.Line.{Line}
use Rattle.journal_lines.specs.declared.line.Line.TheVariants as line
use Rattle.journal_readings.specs.Messages.{Arrival, Posting, arrived, arrived_cut}
use Rattle.journal_readings.proofs.AlongLaws.{some_same}
use Rattle.node_rules.specs.Effects.{Effects}
use Rattle.node_rules.specs.Facts.{Facts, list_at}
use Rattle.node_rules.specs.Messages.{due_message_of, client}
use Rattle.node_rules.specs.Notes as notes
use Rattle.node_rules.specs.Notes.{in_view, note, reached, sent}
use Rattle.node_rules.specs.Tables.{changed_if}
use Rattle.node_rules.specs.Tick.{tick_of}
use Rattle.node_rules.specs.Transactions.{Transaction, Transactions, acknowledged, answered, awaits_ack, awaits_answer, changing, without_transaction}
use Rattle.cluster_rules.specs.declared.event.Event.{Event}
use Rattle.cluster_rules.specs.declared.event.Event.TheVariants as event
use Rattle.cluster_rules.specs.DueEvents.{arriving, delivery, due_arrival, due_at_client, due_of, is_blocked, sent_lines, written}
use Rattle.cluster_rules.specs.Marks.{Begins, Mark, Writes, after_all, after_line, event_begun, by_node, came, came_to_client, sent_by, came_to_node}
use Rattle.cluster_rules.specs.Network.{Network, flying_at, has_place, landed, posting, posting_at}
use Rattle.cluster_rules.specs.Steps.{Step, all_marks, flow, flows, marks_of, play, play_all, round, rounds}
use Rattle.cluster_rules.specs.World.{World, changed_at, new_if, up_nodes}
use Rattle.cluster_rules.proofs.MarkLaws.{rounds_follow}
use Rattle.run_laws.specs.Tied.{Among}
use Rattle.calm_laws.specs.Flows.{world_at}
use Rattle.calm_laws.proofs.Own.{OwnLine, OwnLines, message_own, tick_own}

-- ---- lines of rounds

-- the line opens no transaction, and doesn't divide the network
abbrev pub Unopened : Line → Type 0
Unopened (line.Opened n k t d a) = ⊥
Unopened (line.Groups groups) = ⊥
Unopened l = Unit {0}

-- each of the lines is another than one that opens a transaction or divides the network
abbrev pub QuietLines : List Line → Type 0
QuietLines [] = Unit {0}
QuietLines (l ∷ ls) = Unopened l × QuietLines ls

abbrev pub QuietMarks : List Mark → Type 0
QuietMarks [] = Unit {0}
QuietMarks (Begins e ∷ ms) = QuietMarks ms
QuietMarks (Writes l ∷ ms) = Unopened l × QuietMarks ms

quiet_append : (ls ms : List Line) → QuietLines ls → QuietLines ms → QuietLines (ls ++ ms)
quiet_append [] ms h i = i
quiet_append (l ∷ ls) ms h i = (h.0, quiet_append ls ms h.1 i)

marks_append : (ms ns : List Mark) → QuietMarks ms → QuietMarks ns → QuietMarks (ms ++ ns)
marks_append [] ns h i = i
marks_append (Begins e ∷ ms) ns h i = marks_append ms ns h i
marks_append (Writes l ∷ ms) ns h i = (h.0, marks_append ms ns h.1 i)

own_unopened : (a : ℕ) (l : Line) → OwnLine a l → Unopened l
own_unopened a (line.Opened n k t d x) h = h
own_unopened a (line.Groups groups) h = h
own_unopened a l h = tt

own_quiet : (a : ℕ) (ls : List Line) → OwnLines a ls → QuietLines ls
own_quiet a [] h = tt
own_quiet a (l ∷ ls) h = (own_unopened a l h.0, own_quiet a ls h.1)

sents_quiet : (ms : List (ℕ × Message)) (a s fl : ℕ) → QuietLines (sent_lines a s fl ms)
sents_quiet [] a s fl = tt
sents_quiet (m ∷ ms) a s fl = (tt, go (has_place fl) (λ k. sents_quiet ms a (s + 1) k))
  where
    go : (b : Bool) → ((k : ℕ) → QuietLines (sent_lines a (s + 1) k ms)) → QuietLines ((if b then [] else line.Full (s + 1) ∷ []) ++ sent_lines a (s + 1) (if b then fl + 1 else fl) ms)
    go true rest = rest (fl + 1)
    go false rest = (tt, rest fl)

written_quiet : (net : Network) (a : ℕ) (e : Effects) → (m : ℕ) → OwnLines m e.lines → QuietLines (written net a e)
written_quiet net a e m h = quiet_append e.lines _ (own_quiet m e.lines h) (sents_quiet e.sends a _ _)

client_quiet : (m : Message) → QuietLines (due_at_client m)
client_quiet (message.MapTable t) = (tt, tt)
client_quiet m = (tt, tt)

-- the event is one of a round
abbrev IsOfRound : Event → Type 0
IsOfRound (event.Tick a) = Unit {0}
IsOfRound (event.Deliver i) = Unit {0}
IsOfRound e = ⊥

due_quiet : (n : ℕ) (w : World) (e : Event) → IsOfRound e → QuietLines (due_of n w e)
due_quiet n w (event.Tick a) h = written_quiet w.network a (tick_of n (w.facts a)) (w.facts a).me (tick_own n (w.facts a))
due_quiet n w (event.Deliver i) h = start (flying_at w.network i)
  where
    net : Network
    net = landed w.network i

    at_end : (p : Posting) (m : Message) (b : Bool) → QuietLines (if b then due_at_client m else written net p.to (due_message_of n (w.facts p.to) (w.clocks p.to) p.from m))
    at_end p m true = client_quiet m
    at_end p m false = written_quiet net p.to (due_message_of n (w.facts p.to) (w.clocks p.to) p.from m) (w.facts p.to).me (message_own n (w.facts p.to) (w.clocks p.to) p.from m)

    arrives : (p : Posting) (o : Option Message) → QuietLines (due_arrival n w net p o)
    arrives p None = tt
    arrives p (Some m) = at_end p m (p.to == client)

    opens : (p : Posting) (b : Bool) → QuietLines (if b then line.Blocked i ∷ [] else line.Deliver i p.from p.to ∷ arriving n w net p)
    opens p true = (tt, tt)
    opens p false = (tt, arrives p (message_of p.bytes))

    start : (o : Option Posting) → QuietLines (delivery w i (λ q. line.Deliver i q.from q.to ∷ arriving n w net q) o)
    start None = (tt, tt)
    start (Some p) = opens p (is_blocked w p)
due_quiet n w e h = absurd h

lines_marks : (ls : List Line) → QuietLines ls → QuietMarks (map Writes ls)
lines_marks [] h = tt
lines_marks (l ∷ ls) h = (h.0, lines_marks ls h.1)

quiet_joined : (ss ts : List Step) → QuietMarks (all_marks ss) → QuietMarks (all_marks ts) → QuietMarks (all_marks (ss ++ ts))
quiet_joined ss ts h i = subst QuietMarks (sym (flat_map-append marks_of ss ts)) (marks_append (all_marks ss) (all_marks ts) h i)

play_quiet : (n : ℕ) (e : Event) (w : World) → IsOfRound e → QuietMarks (all_marks (play n e w).steps)
play_quiet n e w h = marks_append (map Writes (due_of n w e)) [] (lines_marks (due_of n w e) (due_quiet n w e h)) tt

ticks_quiet : (n : ℕ) (ns : List ℕ) (w : World) → QuietMarks (all_marks (play_all n (map event.Tick ns) w).steps)
ticks_quiet n [] w = tt
ticks_quiet n (a ∷ ns) w = quiet_joined (play n (event.Tick a) w).steps _ (play_quiet n (event.Tick a) w tt) (ticks_quiet n ns (play n (event.Tick a) w).world)

deliveries_quiet : (n : ℕ) (is : List ℕ) (w : World) → QuietMarks (all_marks (play_all n (map event.Deliver is) w).steps)
deliveries_quiet n [] w = tt
deliveries_quiet n (i ∷ is) w = quiet_joined (play n (event.Deliver i) w).steps _ (play_quiet n (event.Deliver i) w tt) (deliveries_quiet n is (play n (event.Deliver i) w).world)

flows_quiet : (n k : ℕ) (w : World) → QuietMarks (all_marks (flows n k w).steps)
flows_quiet n zero w = tt
flows_quiet n (suc k) w = quiet_joined (flow n w).steps _ (deliveries_quiet n w.network.flying w) (flows_quiet n k (flow n w).world)

round_quiet : (n : ℕ) (w : World) → QuietMarks (all_marks (round n w).steps)
round_quiet n w = quiet_joined (play_all n (map event.Tick (up_nodes w)) w).steps _ (ticks_quiet n (up_nodes w) w) (flows_quiet n 4 (play_all n (map event.Tick (up_nodes w)) w).world)

pub rounds_quiet : (n k : ℕ) (w : World) → QuietMarks (all_marks (rounds n k w).steps)
unfolding rounds
rounds_quiet n zero w = tt
rounds_quiet n (suc k) w = quiet_joined (round n w).steps _ (round_quiet n w) (rounds_quiet n k (round n w).world)

-- ---- groups

pub came_groups : (w : World) (x : Option Arrival) → (came w x).network.groups ≡ w.network.groups
came_groups w None = refl
came_groups w (Some x) = go (x.to == client)
  where
    at_client : (m : Message) → (came_to_client w m).network.groups ≡ w.network.groups
    at_client (message.MapTable table) = refl
    at_client m = refl

    go : (b : Bool) → (if b then came_to_client w x.message else came_to_node w x).network.groups ≡ w.network.groups
    go true = at_client x.message
    go false = refl

pub sent_groups : (w : World) (a b : ℕ) (m : Option Message) → (sent_by w a b m).network.groups ≡ w.network.groups
sent_groups w a b None = refl
sent_groups w a b (Some m) = refl

line_groups : (w : World) (l : Line) → Unopened l → (after_line w l).network.groups ≡ w.network.groups
line_groups w (line.Groups groups) u = absurd u
line_groups w (line.Deliver i a b) u = came_groups w (option_and_then (arrived b) (posting_at w.network i))
line_groups w (line.Repeat i a b) u = came_groups w (option_and_then (arrived b) (posting_at w.network i))
line_groups w (line.Cut i a b size) u = came_groups w (option_and_then (arrived_cut b size) (posting_at w.network i))
line_groups w (line.Sent i a b bytes) u = sent_groups (record w { network = posting w.network i (record { from = a; to = b; bytes = bytes }) }) a b (message_of bytes)
line_groups w l u = refl

pub begun_groups : (w : World) (e : Event) → (event_begun w e).network.groups ≡ w.network.groups
begun_groups w (event.Deliver i) = refl
begun_groups w e = refl

marks_groups : (ms : List Mark) (w : World) → QuietMarks ms → (after_all w ms).network.groups ≡ w.network.groups
marks_groups [] w q = refl
marks_groups (Begins e ∷ ms) w q = marks_groups ms (event_begun w e) q ∙ begun_groups w e
marks_groups (Writes l ∷ ms) w q = marks_groups ms (after_line w l) q.1 ∙ line_groups w l q.0

-- rounds leave the network divided as it is
pub groups_stay : (n k : ℕ) (w : World) → (world_at n w k).network.groups ≡ w.network.groups
groups_stay n k w = ap (λ (u : World). u.network.groups) (sym (rounds_follow n k w).leads) ∙ marks_groups (all_marks (rounds n k w).steps) w (rounds_quiet n k w)

-- ---- open transactions

-- each open transaction is on such a digest
abbrev pub RunsOn : (List ℕ → Type 0) → List Transaction → Type 0
RunsOn S ts = (y : Transaction) → Among ts y → S y.digest

abbrev pub AllRunOn : (List ℕ → Type 0) → World → Type 0
AllRunOn S w = (m : ℕ) → RunsOn S (w.facts m).transactions.running

-- a transaction that the line opens is on such a digest, and the line doesn't divide the network
abbrev pub OpensOn : (List ℕ → Type 0) → Line → Type 0
OpensOn S (line.Opened n k t d a) = S d
OpensOn S (line.Groups groups) = ⊥
OpensOn S l = Unit {0}

-- each of the lines among the marks is such a one
abbrev pub MarksOpenOn : (List ℕ → Type 0) → List Mark → Type 0
MarksOpenOn S [] = Unit {0}
MarksOpenOn S (Begins e ∷ ms) = MarksOpenOn S ms
MarksOpenOn S (Writes l ∷ ms) = OpensOn S l × MarksOpenOn S ms

unopened_on : (S : List ℕ → Type 0) (l : Line) → Unopened l → OpensOn S l
unopened_on S (line.Opened n k t d a) h = absurd h
unopened_on S (line.Groups groups) h = absurd h
unopened_on S l h = tt

-- marks of which none opens a transaction are such ones
pub quiet_on : (S : List ℕ → Type 0) (ms : List Mark) → QuietMarks ms → MarksOpenOn S ms
quiet_on S [] h = tt
quiet_on S (Begins e ∷ ms) h = quiet_on S ms h
quiet_on S (Writes l ∷ ms) h = (unopened_on S l h.0, quiet_on S ms h.1)

module _ (S : List ℕ → Type 0) where
  opening_runs : (xs : List Transaction) (x : Transaction) → S x.digest → RunsOn S xs → RunsOn S (xs ++ x ∷ [])
  opening_runs [] x s h y (inl e) = subst (λ (z : Transaction). S z.digest) e s
  opening_runs [] x s h y (inr i) = absurd i
  opening_runs (z ∷ xs) x s h y (inl e) = h y (inl e)
  opening_runs (z ∷ xs) x s h y (inr i) = opening_runs xs x s (λ v j. h v (inr j)) y i

  changing_runs : (ts : Transactions) (number : ℕ) (change : Transaction → Transaction) → ((y : Transaction) → (change y).digest ≡ y.digest) → RunsOn S ts.running → RunsOn S (changing ts number change).running
  changing_runs ts number change same h = go ts.running h
    where
      one : (x : Transaction) (b : Bool) → S x.digest → S (changed_if change x b).digest
      one x true s = subst S (sym (same x)) s
      one x false s = s

      go : (xs : List Transaction) → RunsOn S xs → RunsOn S (map (λ t. changed_if change t (t.number == number)) xs)
      go [] h y i = absurd i
      go (x ∷ xs) h y (inl e) = subst (λ (z : Transaction). S z.digest) e (one x (x.number == number) (h x (inl refl)))
      go (x ∷ xs) h y (inr i) = go xs (λ z j. h z (inr j)) y i

  closing_runs : (ts : Transactions) (number : ℕ) → RunsOn S ts.running → RunsOn S (without_transaction ts number).running
  closing_runs ts number h = go ts.running h
    where
      kept : (x : Transaction) (xs : List Transaction) (b : Bool) → RunsOn S (x ∷ xs) → RunsOn S (filter (λ t. not (t.number == number)) xs)
          → RunsOn S (cond b (x ∷ filter (λ t. not (t.number == number)) xs) (filter (λ t. not (t.number == number)) xs))
      kept x xs true h rest y (inl e) = h y (inl e)
      kept x xs true h rest y (inr i) = rest y i
      kept x xs false h rest y i = rest y i

      go : (xs : List Transaction) → RunsOn S xs → RunsOn S (filter (λ t. not (t.number == number)) xs)
      go [] h y i = absurd i
      go (x ∷ xs) h y i = kept x xs (not (x.number == number)) h (go xs (λ z j. h z (inr j))) y i

  abbrev FactsRun : Facts → Type 0
  FactsRun f = RunsOn S f.transactions.running

  note_runs : (q : Option Want) (f : Facts) (l : Line) → OpensOn S l → FactsRun f → FactsRun (note q f l)
  note_runs q f (line.Opened n k t d a) u h = opening_runs f.transactions.running _ u h
  note_runs q f (line.Groups groups) u h = absurd u
  note_runs q f (line.Stop n) u h = λ y i. absurd i
  note_runs q f (line.Enter n k ms) u h = λ y i. absurd i
  note_runs q f (line.Value n k t d v) u h = closing_runs f.transactions t h
  note_runs q f (line.Done n k t) u h = closing_runs f.transactions t h
  note_runs q f (line.Aborted n k t) u h = closing_runs f.transactions t h
  note_runs q f (line.Doubt n k t) u h = closing_runs f.transactions t h
  note_runs q f (line.Apply n k t d v) u h = changing_runs f.transactions t _ (λ y. refl) h
  note_runs q f l u h = h

  reached_runs : (f : Facts) (from : ℕ) (m : Message) → FactsRun f → FactsRun (reached f from m)
  reached_runs f from (message.State k wants row) h = go (in_view f k)
    where
      go : (b : Bool) → FactsRun (notes.row_came f from row b)
      go true = h
      go false = h
  reached_runs f from (message.BatchAck k number) h = go (in_view f k)
    where
      go : (b : Bool) → FactsRun (notes.batch_acked f from number b)
      go true = h
      go false = h
  reached_runs f from (message.Progress k wants done handed settled) h = go (in_view f k)
    where
      go : (b : Bool) → FactsRun (notes.progress_came f from done handed settled b)
      go true = h
      go false = h
  reached_runs f from (message.Repl k t nth d v) h = go (in_view f k)
    where
      counted : (l : List ℕ) (p : ℕ) (b : Bool) → FactsRun (notes.write_counted_if f k l p nth b)
      counted l p true = h
      counted l p false = h

      go : (b : Bool) → FactsRun (notes.write_came f from k nth (partition_of d) b)
      go true = counted (list_at f (partition_of d)) (partition_of d) _
      go false = h
  reached_runs f from (message.ReplAck k t) h = go (in_view f k)
    where
      same : (y : Transaction) (b : Bool) → (changed_if (acknowledged from) y b).digest ≡ y.digest
      same y true = refl
      same y false = refl

      go : (b : Bool) → FactsRun (notes.write_acked f from t b)
      go true = changing_runs f.transactions t _ (λ y. same y (awaits_ack y from)) h
      go false = h
  reached_runs f from (message.Answer k t v) h = go (in_view f k)
    where
      same : (y : Transaction) (b : Bool) → (changed_if (answered f.store.by from v) y b).digest ≡ y.digest
      same y true = refl
      same y false = refl

      go : (b : Bool) → FactsRun (notes.answer_came f from t v b)
      go true = changing_runs f.transactions t _ (λ y. same y (awaits_answer y from)) h
      go false = h
  reached_runs f from m h = h

  sent_runs : (f : Facts) (to : ℕ) (m : Message) → FactsRun f → FactsRun (sent f to m)
  sent_runs f to (message.Batch b) h = h
  sent_runs f to m h = h

  -- ---- the world

  at_runs : (f : ℕ → Facts) (n : ℕ) (new : Facts) → FactsRun new → ((m : ℕ) → FactsRun (f m)) → (m : ℕ) → FactsRun (changed_at f n new m)
  at_runs f n new h all m = go (n == m)
    where
      go : (b : Bool) → FactsRun (new_if new f m b)
      go true = h
      go false = all m

  node_runs : (w : World) (n : ℕ) (l : Line) → OpensOn S l → AllRunOn S w → AllRunOn S (by_node w n l)
  node_runs w n l u h = at_runs w.facts n (note w.want (w.facts n) l) (note_runs w.want (w.facts n) l u (h n)) h

  came_runs : (w : World) (o : Option Arrival) → AllRunOn S w → AllRunOn S (came w o)
  came_runs w None h = h
  came_runs w (Some x) h = go (x.to == client)
    where
      at_client : (m : Message) → AllRunOn S (came_to_client w m)
      at_client (message.MapTable t) = h
      at_client m = h

      go : (b : Bool) → AllRunOn S (if b then came_to_client w x.message else came_to_node w x)
      go true = at_client x.message
      go false = at_runs w.facts x.to (reached (w.facts x.to) x.from x.message) (reached_runs (w.facts x.to) x.from x.message (h x.to)) h

  posted_runs : (w : World) (a b : ℕ) (o : Option Message) → AllRunOn S w → AllRunOn S (sent_by w a b o)
  posted_runs w a b None h = h
  posted_runs w a b (Some m) h = at_runs w.facts a (sent (w.facts a) b m) (sent_runs (w.facts a) b m (h a)) h

  -- a line that opens none on another digest leaves it so
  pub line_runs : (w : World) (l : Line) → OpensOn S l → AllRunOn S w → AllRunOn S (after_line w l)
  line_runs w (line.Deliver i a b) u h = came_runs w (option_and_then (arrived b) (posting_at w.network i)) h
  line_runs w (line.Repeat i a b) u h = came_runs w (option_and_then (arrived b) (posting_at w.network i)) h
  line_runs w (line.Cut i a b size) u h = came_runs w (option_and_then (arrived_cut b size) (posting_at w.network i)) h
  line_runs w (line.Sent i a b bytes) u h = posted_runs (record w { network = posting w.network i (record { from = a; to = b; bytes = bytes }) }) a b (message_of bytes) h
  line_runs w (line.Opened n k t d a) u h = node_runs w n (line.Opened n k t d a) u h
  line_runs w (line.Groups groups) u h = absurd u
  line_runs w (line.Tick n) u h = node_runs w n (line.Tick n) u h
  line_runs w (line.Stop n) u h = node_runs w n (line.Stop n) u h
  line_runs w (line.Start n) u h = node_runs w n (line.Start n) u h
  line_runs w (line.Quiesce n) u h = node_runs w n (line.Quiesce n) u h
  line_runs w (line.Unquiesce n) u h = node_runs w n (line.Unquiesce n) u h
  line_runs w (line.Promise n k) u h = node_runs w n (line.Promise n k) u h
  line_runs w (line.Enter n k ms) u h = node_runs w n (line.Enter n k ms) u h
  line_runs w (line.Exchanged n k) u h = node_runs w n (line.Exchanged n k) u h
  line_runs w (line.Value n k t d v) u h = node_runs w n (line.Value n k t d v) u h
  line_runs w (line.Apply n k t d v) u h = node_runs w n (line.Apply n k t d v) u h
  line_runs w (line.Done n k t) u h = node_runs w n (line.Done n k t) u h
  line_runs w (line.Aborted n k t) u h = node_runs w n (line.Aborted n k t) u h
  line_runs w (line.Doubt n k t) u h = node_runs w n (line.Doubt n k t) u h
  line_runs w (line.Merge n k d v) u h = node_runs w n (line.Merge n k d v) u h
  line_runs w (line.Handed n k p) u h = node_runs w n (line.Handed n k p) u h
  line_runs w (line.Settled n k p) u h = node_runs w n (line.Settled n k p) u h
  line_runs w (line.Learn n k p) u h = node_runs w n (line.Learn n k p) u h
  line_runs w (line.Drop n k p) u h = node_runs w n (line.Drop n k p) u h
  line_runs w l u h = h

-- the open transaction of a number is one of them
pub found_among : (ts : List Transaction) (t : ℕ) (y : Transaction) → find (λ (x : Transaction). x.number == t) ts ≡ Some y → Among ts y
found_among [] t y e = cc
found_among (x ∷ xs) t y e = go (x.number == t) e (found_among xs t y)
  where
    go : (b : Bool) → (if b then Some x else find (λ (x : Transaction). x.number == t) xs) ≡ Some y → (find (λ (x : Transaction). x.number == t) xs ≡ Some y → Among xs y) → Among (x ∷ xs) y
    go true e rest = inl (some_same e)
    go false e rest = inr (rest e)

-- What a tick sends stays due while its messages go out: batches and proposals change their sender's facts.
use Rattle.std.proofs.Common.{◌≡◌, ◌⊎◌, ℕ, ◌+◌, ◌==◌, Bool, true, false, cond, not, ◌&&◌, ◌||◌, List, [], ◌∷◌, ◌++◌, length, Option, Some, None, refl, sym, ap, ap₂, ◌∙◌, subst, inl, inr}
use Rattle.std.specs.Prelude.{option_map, if◌then◌else◌}
use Rattle.std.specs.List.{list_any}
use Rattle.std.specs.FinMap as finite
use Rattle.cluster_types.specs.declared.cluster_key.ClusterKey.{ClusterKey}
use Rattle.cluster_types.specs.Partitions.{partition_of}
use Rattle.cluster_types.specs.Rows.{bit}
use Rattle.partition_lists.specs.Lists.{list, replicas}
use Rattle.journal_lines.specs.declared.line.Line.{Line}
use Rattle.journal_lines.specs.declared.line.Line.TheVariants as line
use Rattle.wire_messages.specs.declared.message.Batch.{Batch}
use Rattle.wire_messages.specs.declared.message.Message.{Message}
use Rattle.wire_messages.specs.declared.message.Message.TheVariants as message
use Rattle.wire_messages.specs.Decoding.{message_of}
use Rattle.wire_messages.specs.Spelling.{spelling}
use Rattle.node_rules.specs.Batches as batches
use Rattle.node_rules.specs.Batches.{Target, Targets, target, is_pending}
use Rattle.node_rules.specs.Bits.{Bits}
use Rattle.node_rules.specs.Copies.{Store, is_of}
use Rattle.node_rules.specs.Exchange.{Exchange, members_of}
use Rattle.node_rules.specs.Facts.{Facts}
use Rattle.node_rules.specs.Notes.{sent}
use Rattle.node_rules.specs.Tables.{contains, changed_if}
use Rattle.node_rules.specs.Transactions.{Transactions, transaction}
use Rattle.cluster_rules.specs.DueEvents.{sent_lines}
use Rattle.cluster_rules.specs.Marks.{Writes, sent_by}
use Rattle.cluster_rules.specs.Network.{posting_at, posting, has_place}
use Rattle.cluster_laws.proofs.At.{differ, no_some}
use Rattle.run_laws.specs.Chronicle.{Longer}
use Rattle.run_laws.specs.Fronts.{Front, world_of, facts_at, front_after}
use Rattle.run_laws.specs.LineOk.{StandsInView, Came, BatchOk, NewBatch}
use Rattle.run_laws.specs.LineDue.{SendDue, SendDueIf, AllDue}
use Rattle.run_laws.specs.Steps.{RestsWith, Ended}
use Rattle.run_laws.specs.Tied.{Each, key_in}
use Rattle.run_laws.proofs.Calmly.{Calm, calm_itself, send_calm, full_calm, sent_length, came_posted}
use Rattle.run_laws.proofs.Opened.{target_sent}
use Rattle.run_laws.proofs.Reading.{Alike, ReadsWell, well_cases, alike_due}
use Rattle.run_laws.proofs.Turns.{after_lines, Elsewhere, elsewhere_on, ended_but, here, away}

-- ---- facts before and after

pub record Soft (f g : Facts) : Type 0 where
  pub exchange : g.exchange ≡ f.exchange
  pub store : g.store ≡ f.store
  pub bits : g.bits ≡ f.bits
  pub transactions : g.transactions ≡ f.transactions
  pub factor : g.factor ≡ f.factor
  pub pending : (p : ℕ) → is_pending g.batches p ≡ is_pending f.batches p

soft_itself : (f : Facts) → Soft f f
soft_itself f = record { exchange = refl; store = refl; bits = refl; transactions = refl; factor = refl; pending = λ p. refl }

soft_on : (f g h : Facts) → Soft f g → Soft g h → Soft f h
soft_on f g h a b = record {
  exchange = b.exchange ∙ a.exchange;
  store = b.store ∙ a.store;
  bits = b.bits ∙ a.bits;
  transactions = b.transactions ∙ a.transactions;
  factor = b.factor ∙ a.factor;
  pending = λ p. b.pending p ∙ a.pending p;
}

pending_sent : (ts : Targets) (r : ℕ) (b : Batch) (p : ℕ) → is_pending (batches.sending ts r b) p ≡ is_pending ts p
pending_sent [] r b p = refl
pending_sent (t ∷ ts) r b p = ap₂ (λ (x y : Bool). x || y) (go (t.node == r)) (pending_sent ts r b p)
  where
    go : (q : Bool) → list_any (is_of p) (changed_if (λ (y : Target). record y { out = Some b; batches = b.number }) t q).pending ≡ list_any (is_of p) t.pending
    go true = refl
    go false = refl

sent_soft : (f : Facts) (r : ℕ) (m : Message) → Soft f (sent f r m)
sent_soft f r (message.Batch b) = record { exchange = refl; store = refl; bits = refl; transactions = refl; factor = refl; pending = pending_sent f.batches r b }
sent_soft f r (message.Propose k ms) = record { exchange = refl; store = refl; bits = refl; transactions = refl; factor = refl; pending = λ p. refl }
sent_soft f r _ = soft_itself f

-- ---- fronts before and after

pub record Softly (z y : Front) (n : ℕ) : Type 0 where
  pub facts : Soft (facts_at z n) (facts_at y n)
  pub elsewhere : Elsewhere n z y
  pub closing : y.closing n ≡ z.closing n
  pub owed : y.owed ≡ z.owed
  pub nodes : (world_of y).nodes ≡ (world_of z).nodes
  pub longer : Longer z.chronicle y.chronicle
  pub came : (from to : ℕ) (m : Message) → Came z from to m → Came y from to m

softly_on : (n : ℕ) (x y z : Front) → Softly x y n → Softly y z n → Softly x z n
softly_on n x y z a b = record {
  facts = soft_on _ _ _ a.facts b.facts;
  elsewhere = elsewhere_on n x y z a.elsewhere b.elsewhere;
  closing = b.closing ∙ a.closing;
  owed = b.owed ∙ a.owed;
  nodes = b.nodes ∙ a.nodes;
  longer = record {
    entered = λ m k e. b.longer.entered m k (a.longer.entered m k e);
    lists = λ k ms e. b.longer.lists k ms (a.longer.lists k ms e);
    rows = λ m k e. b.longer.rows m k (a.longer.entered m k e) ∙ a.longer.rows m k e;
  };
  came = λ f t m c. b.came f t m (a.came f t m c);
}

calmly : (n : ℕ) (z y : Front) → Calm z y → Softly z y n
calmly n z y c = record { facts = subst (λ (g : Facts). Soft (facts_at z n) g) (sym (c.facts n)) (soft_itself (facts_at z n)); elsewhere = record { facts = λ m e. c.facts m; closing = λ m e. c.closing m }; closing = c.closing n; owed = c.owed; nodes = c.nodes; longer = c.longer; came = c.came }

-- ---- what a tick sends

abbrev pub is_batch : Message → Bool
is_batch (message.Batch b) = true
is_batch _ = false

-- a message of a tick that is no batch
abbrev pub is_told : Message → Bool
is_told (message.Heartbeat view promised hears role) = true
is_told (message.Propose k ms) = true
is_told (message.State k wants row) = true
is_told (message.Progress k wants done handed settled) = true
is_told (message.Repl k t nth d v) = true
is_told (message.Ask k t d) = true
is_told _ = false

stands_soft : (z y : Front) (n : ℕ) (k : ClusterKey) → Softly z y n → StandsInView z n k
    → StandsInView y n k
stands_soft z y n k c s = record { view = ap (λ (e : Exchange). key_in e.view) c.facts.exchange ∙ s.view; stays = c.closing ∙ s.stays }

told_soft : (z y : Front) (n r : ℕ) (m : Message) → is_told m ≡ true → Softly z y n → SendDue z n r m → SendDue y n r m
told_soft z y n r (message.State k wants row) t c ok = record {
  stands = stands_soft z y n k c ok.stands;
  row = record { entered = c.longer.entered n k ok.row.entered; members = ok.row.members; list = c.longer.lists k ok.row.members ok.row.list; among = ok.row.among; same = ok.row.same ∙ sym (c.longer.rows n k ok.row.entered) };
}
told_soft z y n r (message.Progress k wants done handed settled) t c ok = record {
  stands = stands_soft z y n k c ok.stands;
  done = λ p e. ap₂ (λ (x : Exchange) (b : Bool). x.exchanged && not b) c.facts.exchange (c.facts.pending p) ∙ ok.done p e;
  handed = λ p e. ap (λ (b : Bits). bit b.handed p) c.facts.bits ∙ ok.handed p e;
  settled = λ p e. ap (λ (b : Bits). bit b.settled p) c.facts.bits ∙ ok.settled p e;
}
told_soft z y n r (message.Repl k u nth d v) t c ok = record {
  stands = stands_soft z y n k c ok.stands;
  item = ok.item;
  running = ap (λ (ts : Transactions). transaction ts u) c.facts.transactions ∙ ok.running;
  digest = ok.digest;
  applied = ok.applied;
  replica = ap₂ (λ (e : Exchange) (q : ℕ). contains (replicas (list (members_of e.view) (partition_of d)) q) r) c.facts.exchange c.facts.factor ∙ ok.replica;
  other = ok.other;
}
told_soft z y n r (message.Ask k u d) t c ok = record {
  stands = stands_soft z y n k c ok.stands;
  item = ok.item;
  running = ap (λ (ts : Transactions). transaction ts u) c.facts.transactions ∙ ok.running;
  digest = ok.digest;
}
told_soft z y n r (message.Heartbeat view promised hears role) t c ok = ap (λ (ns : List ℕ). contains ns n) c.nodes ∙ ok
told_soft z y n r (message.Propose k ms) t c ok = tt
told_soft z y n r (message.Batch b) t c ok = differ t refl
told_soft z y n r (message.BatchAck k number) t c ok = differ t refl
told_soft z y n r (message.ReplAck k u) t c ok = differ t refl
told_soft z y n r (message.Answer k u v) t c ok = differ t refl
told_soft z y n r _ t c ok = tt

batch_soft : (z y : Front) (n r : ℕ) (b : Batch) → Softly z y n → target (facts_at y n).batches r ≡ target (facts_at z n).batches r → BatchOk z n r b → BatchOk y n r b
batch_soft z y n r b c same ok = record {
  stands = stands_soft z y n b.key c ok.stands;
  exchanged = ap (λ (e : Exchange). e.exchanged) c.facts.exchange ∙ ok.exchanged;
  item = ok.item;
  there = same ∙ ok.there;
  batch = held ok.batch;
}
  where
    held : (ok.item.out ≡ Some b) ⊎ NewBatch (facts_at z n) ok.item b → (ok.item.out ≡ Some b) ⊎ NewBatch (facts_at y n) ok.item b
    held (inl e) = inl e
    held (inr new) = inr (record { none = new.none; number = new.number; held = λ d v a. ap (λ (s : Store). finite.get s.content d) c.facts.store ∙ new.held d v a; pending = new.pending })

-- one of a tick's messages
pub record Softs (z : Front) (n : ℕ) (s : ℕ × Message) : Type 0 where
  pub read : ReadsWell s.1
  pub due : SendDue z n s.0 s.1
  pub kind : (is_told s.1 ≡ true) ⊎ (is_batch s.1 ≡ true)
  pub exact : is_batch s.1 ≡ true → message_of (spelling s.1) ≡ Some s.1

-- two batches to one node are the same
abbrev pub Apart : ℕ × Message → ℕ × Message → Type 0
Apart s q = is_batch s.1 ≡ true → is_batch q.1 ≡ true → (s.0 == q.0) ≡ true → s.1 ≡ q.1

abbrev pub EachSoftly : Front → ℕ → List (ℕ × Message) → Type 0
EachSoftly z n [] = Unit {0}
EachSoftly z n (s ∷ ss) = Softs z n s × Each (Apart s) ss × EachSoftly z n ss

-- ---- a message goes out

posts_soft : (z : Front) (n i r : ℕ) (m : Message) → i ≡ length (world_of z).network.sent + 1 → ReadsWell m → Softly z (front_after z (Writes (line.Sent i n r (spelling m)))) n
posts_soft z n i r m num read = record {
  facts = go (message_of (spelling m));
  elsewhere = record { facts = λ j e. moves (message_of (spelling m)) j e; closing = λ j e. refl };
  closing = refl;
  owed = refl;
  nodes = nodes_of (message_of (spelling m));
  longer = record { entered = λ a k e. e; lists = λ k ms e. e; rows = λ a k e. refl };
  came = λ from to x c. record { number = c.number; posting = c.posting; sent = net_of (message_of (spelling m)) c.number ∙ subst (λ (j : ℕ). posting_at (posting (world_of z).network j (record { from = n; to = r; bytes = spelling m })) c.number ≡ Some c.posting) (sym num) (came_posted z (record { from = n; to = r; bytes = spelling m }) c.number c.posting c.sent); ends = c.ends; message = c.message };
}
  where
    go : (o : Option Message) → Soft (facts_at z n) ((sent_by (record (world_of z) { network = posting (world_of z).network i (record { from = n; to = r; bytes = spelling m }) }) n r o).facts n)
    go None = soft_itself (facts_at z n)
    go (Some x) = subst (λ (g : Facts). Soft (facts_at z n) g) (sym (here (world_of z).facts n _)) (sent_soft (facts_at z n) r x)

    moves : (o : Option Message) (j : ℕ) → (n == j) ≡ false → (sent_by (record (world_of z) { network = posting (world_of z).network i (record { from = n; to = r; bytes = spelling m }) }) n r o).facts j ≡ facts_at z j
    moves None j e = refl
    moves (Some x) j e = away (world_of z).facts n _ j e

    nodes_of : (o : Option Message) → (sent_by (record (world_of z) { network = posting (world_of z).network i (record { from = n; to = r; bytes = spelling m }) }) n r o).nodes ≡ (world_of z).nodes
    nodes_of None = refl
    nodes_of (Some x) = refl

    net_of : (o : Option Message) (j : ℕ) → posting_at (sent_by (record (world_of z) { network = posting (world_of z).network i (record { from = n; to = r; bytes = spelling m }) }) n r o).network j ≡ posting_at (posting (world_of z).network i (record { from = n; to = r; bytes = spelling m })) j
    net_of None j = refl
    net_of (Some x) j = refl

-- how the sender's facts change: by the batch that is sent, and otherwise not in what is handed on
record Went (z y : Front) (n : ℕ) (s : ℕ × Message) : Type 0 where
  batch : (c : Batch) → s.1 ≡ message.Batch c → facts_at y n ≡ sent (facts_at z n) s.0 (message.Batch c)
  others : is_batch s.1 ≡ false → (facts_at y n).batches ≡ (facts_at z n).batches

light_batches : (f : Facts) (r : ℕ) (x : Message) → is_batch x ≡ false → (sent f r x).batches ≡ f.batches
light_batches f r (message.Batch b) e = differ refl e
light_batches f r (message.Propose k ms) e = refl
light_batches f r _ e = refl

no_batch : (m x : Message) → Alike m x → is_batch m ≡ false → is_batch x ≡ false
no_batch m x (inl e) h = ap is_batch (sym e) ∙ h
no_batch m (message.Batch b) (inr s) h = no_some s.second
no_batch m _ (inr s) h = refl

posts_went : (z : Front) (n i r : ℕ) (m : Message) → ReadsWell m → (is_batch m ≡ true → message_of (spelling m) ≡ Some m) → Went z (front_after z (Writes (line.Sent i n r (spelling m)))) n (r, m)
posts_went z n i r m w exact = record {
  batch = λ c e. ap (λ (o : Option Message). (sent_by (record (world_of z) { network = posting (world_of z).network i (record { from = n; to = r; bytes = spelling m }) }) n r o).facts n) (exact (ap is_batch e))
      ∙ here (world_of z).facts n _ ∙ ap (sent (facts_at z n) r) e;
  others = λ e. well_cases m (λ (o : Option Message). ((sent_by (record (world_of z) { network = posting (world_of z).network i (record { from = n; to = r; bytes = spelling m }) }) n r o).facts n).batches ≡ (facts_at z n).batches) w refl
      (λ x a. ap (λ (f : Facts). f.batches) (here (world_of z).facts n _) ∙ light_batches (facts_at z n) r x (no_batch m x a e));
}

-- another batch behind it
batch_behind : (z y : Front) (n : ℕ) (s : ℕ × Message) (r : ℕ) (b : Batch) → Softly z y n → Went z y n s → Apart s (r, message.Batch b) → BatchOk z n r b → BatchOk y n r b
batch_behind z y n (q, message.Batch c) r b soft went apart ok = go (q == r) refl
  where
    go : (e : Bool) → (q == r) ≡ e → BatchOk y n r b
    go false e = batch_soft z y n r b soft (ap (λ (f : Facts). target f.batches r) (went.batch c refl) ∙ target_sent (facts_at z n).batches q c r ∙ ap (λ (x : Bool). cond x (option_map (λ (t : Target). record t { out = Some c; batches = c.number }) (target (facts_at z n).batches r)) (target (facts_at z n).batches r)) e) ok
    go true e = record {
      stands = stands_soft z y n b.key soft ok.stands;
      exchanged = ap (λ (x : Exchange). x.exchanged) soft.facts.exchange ∙ ok.exchanged;
      item = record ok.item { out = Some b; batches = b.number };
      there = ap (λ (f : Facts). target f.batches r) (went.batch c refl) ∙ target_sent (facts_at z n).batches q c r ∙ ap (λ (x : Bool). cond x (option_map (λ (t : Target). record t { out = Some c; batches = c.number }) (target (facts_at z n).batches r)) (target (facts_at z n).batches r)) e
          ∙ ap (option_map (λ (t : Target). record t { out = Some c; batches = c.number })) ok.there ∙ ap (λ (x : Batch). Some (record ok.item { out = Some x; batches = x.number })) (same_batch c b (apart refl refl e));
      batch = inl refl;
    }
      where
        same_batch : (c b : Batch) → message.Batch c ≡ message.Batch b → c ≡ b
        same_batch c b i = ap (batch_in c) i
          where
            batch_in : Batch → Message → Batch
            batch_in x (message.Batch y) = y
            batch_in x _ = x
batch_behind z y n (q, m) r b soft went apart ok = batch_soft z y n r b soft (ap (λ (ts : Targets). target ts r) (went.others refl)) ok

one_behind : (z y : Front) (n : ℕ) (s q : ℕ × Message) → Softly z y n → Went z y n s → Apart s q → Softs z n q → Softs y n q
one_behind z y n s (r, message.Batch b) soft is apart h = record { read = h.read; due = batch_behind z y n s r b soft is apart h.due; kind = h.kind; exact = h.exact }
one_behind z y n s (r, m) soft is apart h = record { read = h.read; due = go h.kind; kind = h.kind; exact = h.exact }
  where
    go : (is_told m ≡ true) ⊎ (is_batch m ≡ true) → SendDue y n r m
    go (inl t) = told_soft z y n r m t soft h.due
    go (inr t) = differ t refl

all_behind : (z y : Front) (n : ℕ) (s : ℕ × Message) (ss : List (ℕ × Message)) → Softly z y n → Went z y n s → Each (Apart s) ss → EachSoftly z n ss → EachSoftly y n ss
all_behind z y n s [] soft is apart h = tt
all_behind z y n s (q ∷ ss) soft is apart h = (one_behind z y n s q soft is apart.0 h.0, h.1, all_behind z y n s ss soft is apart.1 h.2)

softs_calm : (z y : Front) (n : ℕ) (ss : List (ℕ × Message)) → Calm z y → EachSoftly z n ss → EachSoftly y n ss
softs_calm z y n [] c h = tt
softs_calm z y n (s ∷ ss) c h = (record { read = h.0.read; due = send_calm z y n s.0 s.1 c h.0.due; kind = h.0.kind; exact = h.0.exact }, h.1, softs_calm z y n ss c h.2)

pub record SoftGo (z : Front) (n : ℕ) (ls : List Line) : Type 0 where
  pub due : AllDue z ls
  pub soft : Softly z (after_lines z ls) n

pub softly_go : (z : Front) (n before flying : ℕ) (ss : List (ℕ × Message)) → z.owed ≡ None → before ≡ length (world_of z).network.sent → EachSoftly z n ss → SoftGo z n (sent_lines n before flying ss)
softly_go z n before flying [] o num h = record { due = tt; soft = calmly n z z (calm_itself z) }
softly_go z n before flying (s ∷ ss) o num h =
    let y : Front = front_after z (Writes (line.Sent (before + 1) n s.0 (spelling s.1))) in
    let c : Softly z y n = posts_soft z n (before + 1) s.0 s.1 (ap (λ (i : ℕ). i + 1) num) h.0.read in
    let rest : SoftGo y n ((if has_place flying then [] else line.Full (before + 1) ∷ []) ++ sent_lines n (before + 1) (if has_place flying then flying + 1 else flying) ss) =
    go y (c.owed ∙ o) (all_behind z y n s ss c (posts_went z n (before + 1) s.0 s.1 h.0.read h.0.exact) h.1 h.2) (ap (λ (i : ℕ). i + 1) num ∙ sym (sent_length z n (before + 1) s.0 (spelling s.1))) (λ x b f. softly_go x n b f ss) (has_place flying) in
    record {
      due = ((o, record { number = ap (λ (i : ℕ). i + 1) num; says = well_cases s.1 (SendDueIf z n s.0) h.0.read tt (λ x a. alike_due z n s.0 s.1 x a h.0.due) }), rest.due);
      soft = softly_on n z y _ c rest.soft;
    }
  where
    go : (y : Front) → y.owed ≡ None → EachSoftly y n ss → before + 1 ≡ length (world_of y).network.sent → ((x : Front) (b f : ℕ) → x.owed ≡ None → b ≡ length (world_of x).network.sent → EachSoftly x n ss → SoftGo x n (sent_lines n b f ss))
        → (b : Bool) → SoftGo y n ((if b then [] else line.Full (before + 1) ∷ []) ++ sent_lines n (before + 1) (if b then flying + 1 else flying) ss)
    go y o k e all true = all y (before + 1) (flying + 1) o e k
    go y o k e all false =
        let x : Front = front_after y (Writes (line.Full (before + 1))) in
        let rest : SoftGo x n (sent_lines n (before + 1) flying ss) = all x (before + 1) flying o e (softs_calm y x n ss (full_calm y (before + 1)) k) in
        record { due = ((o, tt), rest.due); soft = softly_on n y x _ (calmly n y x (full_calm y (before + 1))) rest.soft }

pub softly_ended : (z y : Front) (n : ℕ) → Softly z y n → Ended z → Ended y
softly_ended z y n c h = ended_but n z y c.elsewhere h (c.owed ∙ h.owes) (c.closing ∙ h.stays n)
    (subst (λ (e : Exchange). RestsWith e (facts_at y n).transactions.running) (sym c.facts.exchange) (subst (λ (ts : Transactions). RestsWith (facts_at z n).exchange ts.running) (sym c.facts.transactions) (h.rests n)))

-- ---- lists of a tick's messages

not_batch : {C : Type 0} (m : Message) → is_told m ≡ true → is_batch m ≡ true → C
not_batch (message.Batch b) i j = differ i refl
not_batch _ i j = differ j refl

apart_told : (s : ℕ × Message) (ss : List (ℕ × Message)) → is_told s.1 ≡ true → Each (Apart s) ss
apart_told s [] t = tt
apart_told s (q ∷ ss) t = ((λ b c e. not_batch s.1 t b), apart_told s ss t)

-- messages that are no batches, before others
pub told_before : (z : Front) (n : ℕ) (a b : List (ℕ × Message)) → Each (λ (s : ℕ × Message). (is_told s.1 ≡ true) × ReadsWell s.1 × SendDue z n s.0 s.1) a → EachSoftly z n b → EachSoftly z n (a ++ b)
told_before z n [] b h k = k
told_before z n (s ∷ a) b h k = (record { read = h.0.1; due = h.0.2; kind = inl h.0.0; exact = λ e. not_batch s.1 h.0.0 e }, apart_told s (a ++ b) h.0.0, told_before z n a b h.1 k)

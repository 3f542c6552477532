-- What a node may send stays so while messages go out that change no facts.
use Rattle.std.proofs.Common.{◌≡◌, ◌⊎◌, ℕ, suc, ◌+◌, ◌==◌, Bool, true, false, List, [], ◌∷◌, ◌++◌, length, Option, Some, None, refl, sym, ap, ◌∙◌, subst, arith, inl, inr, if◌then◌else◌}
use Rattle.std.specs.FinMap as finite
use Rattle.conflict_order.specs.Join.{AtMost}
use Rattle.cluster_types.specs.declared.cluster_key.ClusterKey.{ClusterKey}
use Rattle.cluster_types.specs.Partitions.{partition_of}
use Rattle.cluster_types.specs.Rows.{bit}
use Rattle.partition_lists.specs.Lists.{replicas}
use Rattle.journal_lines.specs.declared.line.Line.{Line}
use Rattle.journal_lines.specs.declared.line.Line.TheVariants as line
use Rattle.wire_messages.specs.declared.message.Batch.{Batch}
use Rattle.wire_messages.specs.declared.message.Message.{Message}
use Rattle.wire_messages.specs.declared.message.Message.TheVariants as message
use Rattle.wire_messages.specs.Decoding.{message_of}
use Rattle.wire_messages.specs.Spelling.{spelling}
use Rattle.node_rules.specs.Batches.{Target, target}
use Rattle.node_rules.specs.Facts.{Facts, list_at}
use Rattle.node_rules.specs.Map.{list_master}
use Rattle.node_rules.specs.Notes.{sent}
use Rattle.node_rules.specs.Stamps.{numbers_at}
use Rattle.node_rules.specs.Standing.{is_done}
use Rattle.node_rules.specs.Tables.{contains}
use Rattle.node_rules.specs.Transactions.{transaction}
use Rattle.cluster_rules.specs.DueEvents.{sent_lines}
use Rattle.cluster_rules.specs.Marks.{Writes, sent_by}
use Rattle.journal_readings.specs.Messages.{Posting}
use Rattle.cluster_rules.specs.Network.{posting_at, posting, has_place, landed}
use Rattle.cluster_rules.specs.World.{new_if}
use Rattle.cluster_laws.proofs.At.{number_same, differ, some_same, no_some}
use Rattle.run_laws.specs.Chronicle.{Longer}
use Rattle.run_laws.specs.Fronts.{Front, world_of, facts_at, front_after}
use Rattle.run_laws.specs.LineOk.{StandsInView, Came, NewBatch}
use Rattle.run_laws.specs.LineDue.{SendDue, SendDueIf, AllDue}
use Rattle.run_laws.specs.Tied.{key_in}
use Rattle.run_laws.proofs.Carried.{posting_same}
use Rattle.run_laws.proofs.Posted.{none_yet, posted_other}
use Rattle.run_laws.proofs.Reading.{sort_of, Alike, ReadsWell, well_cases, alike_due, same_test}
use Rattle.run_laws.proofs.Turns.{after_lines}

-- no facts change, and what grows has grown
pub record Calm (z y : Front) : Type 0 where
  pub facts : (m : ℕ) → facts_at y m ≡ facts_at z m
  pub closing : (m : ℕ) → y.closing m ≡ z.closing m
  pub owed : y.owed ≡ z.owed
  pub nodes : (world_of y).nodes ≡ (world_of z).nodes
  pub longer : Longer z.chronicle y.chronicle
  pub came : (from to : ℕ) (m : Message) → Came z from to m → Came y from to m

pub calm_itself : (z : Front) → Calm z z
calm_itself z = record { facts = λ m. refl; closing = λ m. refl; owed = refl; nodes = refl; longer = record { entered = λ n k e. e; lists = λ k ms e. e; rows = λ n k e. refl }; came = λ f t m c. c }

pub calm_on : (x y z : Front) → Calm x y → Calm y z → Calm x z
calm_on x y z a b = record {
  facts = λ m. b.facts m ∙ a.facts m;
  closing = λ m. b.closing m ∙ a.closing m;
  owed = b.owed ∙ a.owed;
  nodes = b.nodes ∙ a.nodes;
  longer = record {
    entered = λ n k e. b.longer.entered n k (a.longer.entered n k e);
    lists = λ k ms e. b.longer.lists k ms (a.longer.lists k ms e);
    rows = λ n k e. b.longer.rows n k (a.longer.entered n k e) ∙ a.longer.rows n k e;
  };
  came = λ f t m c. b.came f t m (a.came f t m c);
}

-- ---- what may be sent

stands_calm : (z y : Front) (n : ℕ) (k : ClusterKey) → Calm z y → StandsInView z n k
    → StandsInView y n k
stands_calm z y n k c s = record { view = ap (λ (f : Facts). key_in f.exchange.view) (c.facts n) ∙ s.view; stays = c.closing n ∙ s.stays }

batch_calm : (z y : Front) (n r : ℕ) (b : Batch) (item : Target) → Calm z y → (item.out ≡ Some b) ⊎ NewBatch (facts_at z n) item b → (item.out ≡ Some b) ⊎ NewBatch (facts_at y n) item b
batch_calm z y n r b item c (inl e) = inl e
batch_calm z y n r b item c (inr new) = inr (record { none = new.none; number = new.number; held = λ d v a. ap (λ (f : Facts). finite.get f.store.content d) (c.facts n) ∙ new.held d v a; pending = new.pending })

pub send_calm : (z y : Front) (n r : ℕ) (m : Message) → Calm z y → SendDue z n r m → SendDue y n r m
send_calm z y n r (message.State k wants row) c ok = record {
  stands = stands_calm z y n k c ok.stands;
  row = record { entered = c.longer.entered n k ok.row.entered; members = ok.row.members; list = c.longer.lists k ok.row.members ok.row.list; among = ok.row.among; same = ok.row.same ∙ sym (c.longer.rows n k ok.row.entered) };
}
send_calm z y n r (message.Batch b) c ok = record {
  stands = stands_calm z y n b.key c ok.stands;
  exchanged = ap (λ (f : Facts). f.exchange.exchanged) (c.facts n) ∙ ok.exchanged;
  item = ok.item;
  there = ap (λ (f : Facts). target f.batches r) (c.facts n) ∙ ok.there;
  batch = batch_calm z y n r b ok.item c ok.batch;
}
send_calm z y n r (message.BatchAck k number) c ok = record {
  stands = stands_calm z y n k c ok.stands;
  batch = ok.batch;
  named = ok.named;
  came = c.came r n (message.Batch ok.batch) ok.came;
  held = λ d v a. subst (λ (f : Facts). AtMost f.store.by (Some v) (finite.get f.store.content d)) (sym (c.facts n)) (ok.held d v a);
}
send_calm z y n r (message.Progress k wants done handed settled) c ok = record {
  stands = stands_calm z y n k c ok.stands;
  done = λ p e. ap (λ (f : Facts). is_done f p) (c.facts n) ∙ ok.done p e;
  handed = λ p e. ap (λ (f : Facts). bit f.bits.handed p) (c.facts n) ∙ ok.handed p e;
  settled = λ p e. ap (λ (f : Facts). bit f.bits.settled p) (c.facts n) ∙ ok.settled p e;
}
send_calm z y n r (message.Repl k t nth d v) c ok = record {
  stands = stands_calm z y n k c ok.stands;
  item = ok.item;
  running = ap (λ (f : Facts). transaction f.transactions t) (c.facts n) ∙ ok.running;
  digest = ok.digest;
  applied = ok.applied;
  replica = ap (λ (f : Facts). contains (replicas (list_at f (partition_of d)) f.factor) r) (c.facts n) ∙ ok.replica;
  other = ok.other;
}
send_calm z y n r (message.ReplAck k t) c ok = record {
  stands = stands_calm z y n k c ok.stands;
  nth = ok.nth;
  digest = ok.digest;
  version = ok.version;
  came = c.came r n (message.Repl k t ok.nth ok.digest ok.version) ok.came;
  counted = subst (λ (f : Facts). r ≡ list_master (list_at f (partition_of ok.digest)) → contains (numbers_at f.writes (partition_of ok.digest)) ok.nth ≡ true) (sym (c.facts n)) ok.counted;
  held = subst (λ (f : Facts). AtMost f.store.by (Some ok.version) (finite.get f.store.content ok.digest)) (sym (c.facts n)) ok.held;
}
send_calm z y n r (message.Ask k t d) c ok = record {
  stands = stands_calm z y n k c ok.stands;
  item = ok.item;
  running = ap (λ (f : Facts). transaction f.transactions t) (c.facts n) ∙ ok.running;
  digest = ok.digest;
}
send_calm z y n r (message.Answer k t v) c ok = record {
  stands = stands_calm z y n k c ok.stands;
  digest = ok.digest;
  came = c.came r n (message.Ask k t ok.digest) ok.came;
  held = ok.held ∙ ap (λ (f : Facts). finite.get f.store.content ok.digest) (sym (c.facts n));
}
send_calm z y n r (message.Heartbeat view promised hears role) c ok = ap (λ (ns : List ℕ). contains ns n) c.nodes ∙ ok
send_calm z y n r _ c ok = tt

-- ---- messages that change no facts of their sender

abbrev pub is_plain : Message → Bool
is_plain (message.Propose k ms) = false
is_plain (message.Batch b) = false
is_plain _ = true

plain_sent : (f : Facts) (r : ℕ) (m : Message) → is_plain m ≡ true → sent f r m ≡ f
plain_sent f r (message.Propose k ms) e = differ e refl
plain_sent f r (message.Batch b) e = differ e refl
plain_sent f r _ e = refl

-- one may be sent, is read as it is, and changes nothing
pub record Plainly (z : Front) (n : ℕ) (s : ℕ × Message) : Type 0 where
  pub plain : is_plain s.1 ≡ true
  pub read : ReadsWell s.1
  pub due : SendDue z n s.0 s.1

abbrev pub EachPlainly : Front → ℕ → List (ℕ × Message) → Type 0
EachPlainly z n [] = Unit {0}
EachPlainly z n (s ∷ ss) = Plainly z n s × EachPlainly z n ss

pub plainly_calm : (z y : Front) (n : ℕ) (ss : List (ℕ × Message)) → Calm z y → EachPlainly z n ss → EachPlainly y n ss
plainly_calm z y n [] c h = tt
plainly_calm z y n (s ∷ ss) c h = (record { plain = h.0.plain; read = h.0.read; due = send_calm z y n s.0 s.1 c h.0.due }, plainly_calm z y n ss c h.1)

pub came_posted : (z : Front) (p : Posting) (j : ℕ) (q : Posting) → posting_at (world_of z).network j ≡ Some q → posting_at (posting (world_of z).network (length (world_of z).network.sent + 1) p) j ≡ Some q
came_posted z p j q e = posted_other (world_of z).network p j (λ i. no_some (sym (none_yet (world_of z).network) ∙ ap (posting_at (world_of z).network) i ∙ e)) ∙ e

plain_alike : (m x : Message) → Alike m x → is_plain m ≡ true → is_plain x ≡ true
plain_alike m x a p = same_test is_plain m x a sorts p
  where
    not_one : (a : Message) (c : ℕ) → sort_of a ≡ Some c → is_plain a ≡ true → c ≡ 1 → ⊥
    not_one (message.Heartbeat v q hs r) c e p i = absurd (omega (arith, some_same e, i))
    not_one (message.Propose k ms) c e p i = differ p refl
    not_one (message.Accept k) c e p i = absurd (omega (arith, some_same e, i))
    not_one (message.Refuse k q) c e p i = absurd (omega (arith, some_same e, i))
    not_one (message.Commit k ms) c e p i = absurd (omega (arith, some_same e, i))
    not_one message.MapAsk c e p i = absurd (omega (arith, some_same e, i))
    not_one (message.MapTable t) c e p i = absurd (omega (arith, some_same e, i))
    not_one (message.Proxy k number d w) c e p i = absurd (omega (arith, some_same e, i))
    not_one (message.ProxyReply k number b) c e p i = absurd (omega (arith, some_same e, i))
    not_one (message.Call number d w) c e p i = absurd (omega (arith, some_same e, i))
    not_one (message.Reply k number b) c e p i = absurd (omega (arith, some_same e, i))
    not_one (message.ScanAsk s q after) c e p i = absurd (omega (arith, some_same e, i))
    not_one (message.ScanPage page) c e p i = absurd (omega (arith, some_same e, i))
    not_one (message.ScanNo s cause) c e p i = absurd (omega (arith, some_same e, i))
    not_one _ c e p i = no_some e

    sorts : (a b : Message) (c : ℕ) → sort_of a ≡ Some c → sort_of b ≡ Some c → is_plain a ≡ true → is_plain b ≡ true
    sorts a (message.Propose k ms) c e f p = absurd (not_one a c e p (sym (some_same f)))
    sorts a (message.Batch b) c e f p = no_some f
    sorts a _ c e f p = refl

sent_calm : (z : Front) (n i r : ℕ) (m : Message) → i ≡ length (world_of z).network.sent + 1 → is_plain m ≡ true → ReadsWell m → Calm z (front_after z (Writes (line.Sent i n r (spelling m))))
sent_calm z n i r m num plain read = record {
  facts = λ j. well_cases m (λ (o : Option Message). (sent_by (record (world_of z) { network = posting (world_of z).network i (record { from = n; to = r; bytes = spelling m }) }) n r o).facts j ≡ facts_at z j) read refl
      (λ x a. same x (plain_alike m x a plain) j (n == j) refl);
  closing = λ j. refl;
  owed = refl;
  nodes = nodes_of (message_of (spelling m));
  longer = record { entered = λ a k e. e; lists = λ k ms e. e; rows = λ a k e. refl };
  came = λ from to x c. record { number = c.number; posting = c.posting; sent = net_of (message_of (spelling m)) c.number ∙ subst (λ (j : ℕ). posting_at (posting (world_of z).network j p) c.number ≡ Some c.posting) (sym num) (came_posted z p c.number c.posting c.sent); ends = c.ends; message = c.message };
}
  where
    p : Posting
    p = record { from = n; to = r; bytes = spelling m }

    same : (x : Message) → is_plain x ≡ true → (j : ℕ) (b : Bool) → (n == j) ≡ b → new_if (sent (facts_at z n) r x) (world_of z).facts j b ≡ facts_at z j
    same x p j true e = plain_sent (facts_at z n) r x p ∙ ap (facts_at z) (number_same n j e)
    same x p j false e = refl

    nodes_of : (o : Option Message) → (sent_by (record (world_of z) { network = posting (world_of z).network i (record { from = n; to = r; bytes = spelling m }) }) n r o).nodes ≡ (world_of z).nodes
    nodes_of None = refl
    nodes_of (Some x) = refl

    net_of : (o : Option Message) (j : ℕ) → posting_at (sent_by (record (world_of z) { network = posting (world_of z).network i (record { from = n; to = r; bytes = spelling m }) }) n r o).network j ≡ posting_at (posting (world_of z).network i (record { from = n; to = r; bytes = spelling m })) j
    net_of None j = refl
    net_of (Some x) j = refl

pub full_calm : (z : Front) (i : ℕ) → Calm z (front_after z (Writes (line.Full i)))
full_calm z i = record {
  facts = λ j. refl;
  closing = λ j. refl;
  owed = refl;
  nodes = refl;
  longer = record { entered = λ a k e. e; lists = λ k ms e. e; rows = λ a k e. refl };
  came = λ from to x c. record { number = c.number; posting = c.posting; sent = posting_same (landed (world_of z).network i) (world_of z).network refl c.number ∙ c.sent; ends = c.ends; message = c.message };
}

pub record SendsGo (z : Front) (ls : List Line) : Type 0 where
  pub due : AllDue z ls
  pub calm : Calm z (after_lines z ls)

pub sent_length : (z : Front) (n i r : ℕ) (bytes : List ℕ) → length (world_of (front_after z (Writes (line.Sent i n r bytes)))).network.sent ≡ length (world_of z).network.sent + 1
sent_length z n i r bytes = go (message_of bytes)
  where
    last : (xs : List Posting) (x : Posting) → length (xs ++ x ∷ []) ≡ length xs + 1
    last [] x = refl
    last (y ∷ xs) x = ap suc (last xs x) ∙ next (length xs)
      where
        next : (a : ℕ) → suc (a + 1) ≡ suc a + 1
        next a = omega arith

    go : (o : Option Message) → length (sent_by (record (world_of z) { network = posting (world_of z).network i (record { from = n; to = r; bytes = bytes }) }) n r o).network.sent ≡ length (world_of z).network.sent + 1
    go None = last (world_of z).network.sent _
    go (Some m) = last (world_of z).network.sent _

pub sends_go : (z : Front) (n before flying : ℕ) (ss : List (ℕ × Message)) → z.owed ≡ None → before ≡ length (world_of z).network.sent → EachPlainly z n ss → SendsGo z (sent_lines n before flying ss)
sends_go z n before flying [] o num h = record { due = tt; calm = calm_itself z }
sends_go z n before flying (s ∷ ss) o num h =
    let y : Front = front_after z (Writes (line.Sent (before + 1) n s.0 (spelling s.1))) in
    let c : Calm z y = sent_calm z n (before + 1) s.0 s.1 (ap (λ (i : ℕ). i + 1) num) h.0.plain h.0.read in
    let rest : SendsGo y ((if has_place flying then [] else line.Full (before + 1) ∷ []) ++ sent_lines n (before + 1) (if has_place flying then flying + 1 else flying) ss) =
    go y c (ap (λ (i : ℕ). i + 1) num ∙ sym (sent_length z n (before + 1) s.0 (spelling s.1))) (λ x b f. sends_go x n b f ss) (has_place flying) in
    record {
      due = ((o, record { number = ap (λ (i : ℕ). i + 1) num; says = well_cases s.1 (SendDueIf z n s.0) h.0.read tt (λ x a. alike_due z n s.0 s.1 x a h.0.due) }), rest.due);
      calm = calm_on z y _ c rest.calm;
    }
  where
    go : (y : Front) → Calm z y → before + 1 ≡ length (world_of y).network.sent → ((x : Front) (b f : ℕ) → x.owed ≡ None → b ≡ length (world_of x).network.sent → EachPlainly x n ss → SendsGo x (sent_lines n b f ss)) → (b : Bool) → SendsGo y ((if b then [] else line.Full (before + 1) ∷ []) ++ sent_lines n (before + 1) (if b then flying + 1 else flying) ss)
    go y c e all true = all y (before + 1) (flying + 1) (c.owed ∙ o) e (plainly_calm z y n ss c h.1)
    go y c e all false =
        let x : Front = front_after y (Writes (line.Full (before + 1))) in
        let rest : SendsGo x (sent_lines n (before + 1) flying ss) = all x (before + 1) flying (c.owed ∙ o) e (plainly_calm z x n ss (calm_on z y x c (full_calm y (before + 1))) h.1) in
        record { due = ((c.owed ∙ o, tt), rest.due); calm = calm_on y x _ (full_calm y (before + 1)) rest.calm }

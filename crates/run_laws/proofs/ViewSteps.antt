-- Messages of the view: rows, acknowledgements, progress, writes, questions and answers.
use Rattle.std.proofs.Common.{◌≡◌, ℕ, ◌≤◌, ◌==◌, Bool, true, false, cond, not, ◌&&◌, is_some, List, [], length, ◌∷◌, Option, Some, None, refl, sym, ap, ◌∙◌, subst, ⊎_elim}
use Rattle.std.specs.Prelude.{find, option_map, if◌then◌else◌}
use Rattle.std.specs.FinMap as finite
use Rattle.std.proofs.lemmas.Bool.{cases_lt}
use Rattle.std.proofs.lemmas.List.{get_or_past}
use Rattle.conflict_order.specs.declared.policy.Policy.{Policy}
use Rattle.conflict_order.specs.declared.version.Version.{Version}
use Rattle.cluster_types.specs.declared.cluster_key.ClusterKey.{ClusterKey}
use Rattle.cluster_types.specs.Partitions.{partition_count, partition_of}
use Rattle.cluster_types.specs.Rows.{bit}
use Rattle.journal_lines.specs.declared.line.Line.TheVariants as line
use Rattle.wire_messages.specs.declared.message.Message.TheVariants as message
use Rattle.node_rules.specs.Batches.{out_to, has_number}
use Rattle.node_rules.specs.Copies.{is_nil}
use Rattle.node_rules.specs.Effects.{lines_only, to_each, nothing, sends_only, to_one}
use Rattle.node_rules.specs.Exchange.{View, exchange_key}
use Rattle.node_rules.specs.Facts.{Facts, view_key, list_at}
use Rattle.node_rules.specs.Messages as due
use Rattle.node_rules.specs.Messages.{finishes, merging, ack_of, answer_of}
use Rattle.node_rules.specs.Notes as notes
use Rattle.node_rules.specs.Notes.{note, reached, in_view}
use Rattle.node_rules.specs.Standing.{is_done, knows_all_settled}
use Rattle.node_rules.specs.Tables.{changed_if, only_if}
use Rattle.node_rules.specs.Tick.{done_from, progress_message}
use Rattle.node_rules.specs.Transactions as transactions
use Rattle.node_rules.specs.Transactions.{Transaction, Transactions, Write, transaction, awaits_ack, awaits_answer, is_last_awaited, answered}
use Rattle.node_rules.proofs.Partitions.{done_tells, done_length}
use Rattle.cluster_rules.specs.Marks.{Writes}
use Rattle.cluster_laws.proofs.At.{number_same, number_here, and_left, differ, some_same, no_some}
use Rattle.wire_messages.proofs.DecodingLaws.{what_is_read, read_back}
use Rattle.wire_messages.specs.Keys.{IsKeyField}
use Rattle.key_laws.specs.Sound.{Entered, ViewStands}
use Rattle.run_laws.proofs.NodeLaws.{reached_law}
use Rattle.run_laws.proofs.Reading.{ReadsWell}
use Rattle.run_laws.proofs.Reading.{reads_itself}
use Rattle.run_laws.specs.Fronts.{Front, world_of, facts_at, front_after}
use Rattle.run_laws.specs.LineOk.{StandsInView}
use Rattle.run_laws.specs.LineDue.{LawOf, SendDue}
use Rattle.run_laws.specs.Steps.{Rests, Ended}
use Rattle.run_laws.proofs.Arrivals.{viewed}
use Rattle.run_laws.proofs.Arrived.{Arrived, ended_at, nothing_go, stale_go, spent_go, each_plain}
use Rattle.run_laws.proofs.Calmly.{EachPlainly}
use Rattle.run_laws.proofs.NodeSteps.{NodeGo, Now, stands_in}
use Rattle.run_laws.specs.Spelled.{AreReadInRange}
use Rattle.run_laws.proofs.ResolvingSteps.{own_ends, view_rests, resolving_go}
use Rattle.run_laws.proofs.Standing.{ViewAt, view_at}
use Rattle.run_laws.proofs.Tables.{changing_at}
use Rattle.run_laws.proofs.Turns.{ended_but, here, away}
use Rattle.node_rules.specs.Resolving.{resolving}
use Rattle.node_rules.specs.StaleMessages.{spent, stale}

-- ---- the view of a message

-- the view that the test found, under its key
pub record Viewed (f : Facts) (k : ClusterKey) : Type 0 where
  pub view : View
  pub is : f.exchange.view ≡ Some view
  pub key : view.key ≡ k
  pub named : view_key f ≡ k

pub view_of : (f : Facts) (k : ClusterKey) → in_view f k ≡ true → Viewed f k
view_of f k e = let v : ViewAt f.exchange.view k = view_at f.exchange.view k (viewed f k e) in record { view = v.view; is = v.is; key = v.key; named = ap exchange_key v.is ∙ v.key }

-- ---- an acknowledgement of a batch

pub batch_ack_go : {by : Policy} {factor : ℕ} {z0 z : Front} {f : Facts} {clock from : ℕ} {k : ClusterKey} {number : ℕ} → Arrived by factor z0 z f clock from (message.BatchAck k number) → NodeGo z f.me (due.due_batch_ack f from k number)
batch_ack_go {by} {factor} {z0} {z} {f} {clock} {from} {k} {number} a = go (in_view f k) refl
  where
    rests : (b : Bool) → Rests (notes.batch_acked f from number b)
    rests true = a.rests
    rests false = a.rests

    ends : Ended z
    ends = ended_at a a.owes (rests (in_view f k))

    unspent : (b : Bool) → NodeGo z f.me (if b then nothing else spent f)
    unspent true = nothing_go z f.me ends
    unspent false = spent_go z f ends

    go : (b : Bool) → in_view f k ≡ b → NodeGo z f.me (if b then (if has_number (out_to f.batches from) number then nothing else spent f) else stale f)
    go true e = unspent (has_number (out_to f.batches from) number)
    go false e = stale_go z f ends

-- ---- a progress

past_done : (f : Facts) (p : ℕ) → partition_count ≤ p → bit (done_from f partition_count 0) p ≡ false
past_done f p le = get_or_past (done_from f partition_count 0) p false (subst (λ (n : ℕ). n ≤ p) (sym (done_length f partition_count 0)) le)

done_is : (f : Facts) (p : ℕ) → bit (done_from f partition_count 0) p ≡ true → is_done f p ≡ true
done_is f p e = ⊎_elim (λ lt. sym (done_tells f partition_count p lt) ∙ e) (λ ge. differ e (past_done f p ge)) (cases_lt p partition_count)

pub progress_due : (z : Front) (g : Facts) (v : View) (wants : Bool) (r : ℕ) → Now z g → g.exchange.view ≡ Some v → SendDue z g.me r (progress_message partition_count g wants)
progress_due z g v wants r w i = record {
  stands = stands_in z g v w i;
  done = λ p e. ap (λ (x : Facts). is_done x p) w.is ∙ done_is g p e;
  handed = λ p e. ap (λ (x : Facts). bit x.bits.handed p) w.is ∙ e;
  settled = λ p e. ap (λ (x : Facts). bit x.bits.settled p) w.is ∙ e;
}

pub progress_reads : (g : Facts) (wants : Bool) → IsKeyField (view_key g) → length g.bits.handed ≡ partition_count → length g.bits.settled ≡ partition_count → ReadsWell (progress_message partition_count g wants)
progress_reads g wants key x y = reads_itself _ (read_back (progress_message partition_count g wants) (key, record { size = done_length g partition_count 0 }, record { size = x }, record { size = y }))

progress_plain : (z : Front) (g : Facts) (v : View) (wants : Bool) (ns : List ℕ) → Now z g → g.exchange.view ≡ Some v → IsKeyField (view_key g) → length g.bits.handed ≡ partition_count → length g.bits.settled ≡ partition_count → AreReadInRange (to_each ns (progress_message partition_count g wants)) → EachPlainly z g.me (to_each ns (progress_message partition_count g wants))
progress_plain z g v wants ns w i key x y read = each_plain z g.me (progress_message partition_count g wants) ns refl (λ r. progress_due z g v wants r w i) (λ q. progress_reads g wants key x y) read

pub progress_go : {by : Policy} {factor : ℕ} {z0 z : Front} {f : Facts} {clock from : ℕ} {k : ClusterKey} {wants : Bool} {done handed settled : List Bool} → Arrived by factor z0 z f clock from (message.Progress k wants done handed settled)
    → AreReadInRange (due.due_progress partition_count f (reached f from (message.Progress k wants done handed settled)) from k wants).sends → NodeGo z f.me (due.due_progress partition_count f (reached f from (message.Progress k wants done handed settled)) from k wants)
progress_go {by} {factor} {z0} {z} {f} {clock} {from} {k} {wants} {done} {handed} {settled} a read = go (in_view f k) refl a.is read
  where
    rests : (b : Bool) → Rests (notes.progress_came f from done handed settled b)
    rests true = a.rests
    rests false = a.rests

    ends : Ended z
    ends = ended_at a a.owes (rests (in_view f k))

    key_of_view : Viewed f k → IsKeyField (view_key f)
    key_of_view v = let x : Entered z.chronicle.traced f.me f.agreement.last v.view = subst (ViewStands z.chronicle.traced f.me f.agreement.last) v.is a.keys.view in
        subst IsKeyField (v.key ∙ sym v.named) (a.listed v.view.key v.view.members x.list).key

    law_now : in_view f k ≡ true → LawOf by factor (notes.progress_came f from done handed settled true)
    law_now e = subst (λ (b : Bool). LawOf by factor (notes.progress_came f from done handed settled b)) e
        (reached_law by factor f from (message.Progress k wants done handed settled) (what_is_read a.came.posting.bytes (message.Progress k wants done handed settled) a.came.message).0 a.law)

    answers : (g : Facts) (v : View) (b : Bool) → Now z g → g.exchange.view ≡ Some v → IsKeyField (view_key g) → LawOf by factor g → g.me ≡ f.me → AreReadInRange (if b then sends_only (to_one from (progress_message partition_count g false)) else nothing).sends → NodeGo z f.me (if b then sends_only (to_one from (progress_message partition_count g false)) else nothing)
    answers g v false w i key law me r = nothing_go z f.me ends
    answers g v true w i key law me r = record { due = tt; sent = refl; sends = subst (λ (n : ℕ). EachPlainly z n (to_each (from ∷ []) (progress_message partition_count g false))) me (progress_plain z g v false (from ∷ []) w i key law.handed_places law.settled_places r); ends = ends }

    go : (b : Bool) → in_view f k ≡ b → facts_at z f.me ≡ notes.progress_came f from done handed settled b → AreReadInRange (if b then (if wants && knows_all_settled (notes.progress_came f from done handed settled b) partition_count 0 then sends_only (to_one from (progress_message partition_count (notes.progress_came f from done handed settled b) false)) else nothing) else stale f).sends
        → NodeGo z f.me (if b then (if wants && knows_all_settled (notes.progress_came f from done handed settled b) partition_count 0 then sends_only (to_one from (progress_message partition_count (notes.progress_came f from done handed settled b) false)) else nothing) else stale f)
    go true e is r = let v : Viewed f k = view_of f k e in
        answers (notes.progress_came f from done handed settled true) v.view (wants && knows_all_settled (notes.progress_came f from done handed settled true) partition_count 0) (record { is = is; stays = a.stays; owes = a.owes }) v.is (key_of_view v) (law_now e) refl r
    go false e is r = stale_go z f ends

-- ---- a question

pub ask_go : {by : Policy} {factor : ℕ} {z0 z : Front} {f : Facts} {clock from : ℕ} {k : ClusterKey} {t : ℕ} {d : List ℕ} → Arrived by factor z0 z f clock from (message.Ask k t d) → AreReadInRange (due.due_ask f from k t d).sends → NodeGo z f.me (due.due_ask f from k t d)
ask_go {by} {factor} {z0} {z} {f} {clock} {from} {k} {t} {d} a read = go (in_view f k) refl read
  where
    ends : Ended z
    ends = ended_at a a.owes a.rests

    go : (b : Bool) → in_view f k ≡ b → AreReadInRange (if b then sends_only (to_one from (message.Answer k t (finite.get f.store.content d))) else stale f).sends → NodeGo z f.me (if b then sends_only (to_one from (message.Answer k t (finite.get f.store.content d))) else stale f)
    go true e r = let v : Viewed f k = view_of f k e in record {
      due = tt;
      sent = refl;
      sends = (
        record {
          plain = refl;
          read = reads_itself _ (r.0 refl);
          due = record {
            stands = subst (λ (j : ClusterKey). StandsInView z f.me j) v.named (stands_in z f v.view (record { is = a.is; stays = a.stays; owes = a.owes }) v.is);
            digest = d;
            came = a.came;
            held = ap (λ (g : Facts). finite.get g.store.content d) (sym a.is);
          };
        },
        tt,
      );
      ends = ends;
    }
    go false e r = stale_go z f ends

-- ---- an acknowledgement of a write

found_number : (xs : List Transaction) (t : ℕ) (y : Transaction) → find (λ (x : Transaction). x.number == t) xs ≡ Some y → y.number ≡ t
found_number [] t y e = no_some e
found_number (x ∷ xs) t y e = go (x.number == t) refl e (found_number xs t y)
  where
    go : (b : Bool) → (x.number == t) ≡ b → (if b then Some x else find (λ (x : Transaction). x.number == t) xs) ≡ Some y → (find (λ (x : Transaction). x.number == t) xs ≡ Some y → y.number ≡ t) → y.number ≡ t
    go true i q rest = ap (λ (z : Transaction). z.number) (sym (some_same q)) ∙ number_same x.number t i
    go false i q rest = rest q

-- the transaction after a change that its test allows
changed_is : (ts : Transactions) (t : ℕ) (c : Transaction → Transaction) (test : Transaction → Bool) (y : Transaction) → ((x : Transaction) → (c x).number ≡ x.number) → transaction ts t ≡ Some y → test y ≡ true
    → transaction (transactions.changing ts t (λ x. changed_if c x (test x))) t ≡ Some (c y)
changed_is ts t c test y keeps e h = changing_at ts t (λ x. changed_if c x (test x)) t (λ x. kept x (test x))
    ∙ ap (λ (b : Bool). cond b (option_map (λ x. changed_if c x (test x)) (transaction ts t)) (transaction ts t)) (number_here t)
    ∙ ap (option_map (λ x. changed_if c x (test x))) e ∙ ap (λ (b : Bool). Some (changed_if c y b)) h
  where
    kept : (x : Transaction) (b : Bool) → (changed_if c x b).number ≡ x.number
    kept x true = keeps x
    kept x false = refl

nil_is : (xs : List ℕ) → is_nil xs ≡ true → xs ≡ []
nil_is [] e = refl
nil_is (x ∷ xs) e = differ e refl

some_is : (o : Option Write) → is_some o ≡ true → (w : Write) × (o ≡ Some w)
some_is None e = differ e refl
some_is (Some w) e = (w, refl)

pub repl_ack_go : {by : Policy} {factor : ℕ} {z0 z : Front} {f : Facts} {clock from : ℕ} {k : ClusterKey} {t : ℕ} → Arrived by factor z0 z f clock from (message.ReplAck k t) → NodeGo z f.me (due.due_repl_ack f from k t)
repl_ack_go {by} {factor} {z0} {z} {f} {clock} {from} {k} {t} a = go (in_view f k) refl a.is
  where
    g : Facts
    g = notes.write_acked f from t true

    go : (b : Bool) → in_view f k ≡ b → facts_at z f.me ≡ notes.write_acked f from t b → NodeGo z f.me (if b then ack_of f from (transaction f.transactions t) else stale f)
    go false e is = stale_go z f (ended_but f.me z0 z a.elsewhere a.before a.owes a.stays (subst (λ (x : Facts). Rests x) (sym is) a.rests))
    go true e is = opens (transaction f.transactions t) refl
      where
        v : Viewed f k
        v = view_of f k e

        ends : Ended z
        ends = ended_but f.me z0 z a.elsewhere a.before a.owes a.stays (subst (λ (x : Facts). Rests x) (sym is) (view_rests f.exchange f.transactions.running (notes.write_acked f from t true).transactions.running v.view v.is a.rests))

        w : Now z (notes.write_acked f from t true)
        w = record { is = is; stays = a.stays; owes = a.owes }

        last : (y : Transaction) → transaction f.transactions t ≡ Some y → awaits_ack y from ≡ true → (b : Bool) → is_last_awaited y from ≡ b → NodeGo z f.me (lines_only (only_if (line.Done f.me (view_key f) y.number) b))
        last y i h false j = nothing_go z f.me ends
        last y i h true j = let wrote : (x : Write) × (y.applied ≡ Some x) = some_is y.applied (and_left (is_some y.applied) _ h) in record {
          due = (
            (
              a.owes,
              record {
                stands = stands_in z (notes.write_acked f from t true) v.view w v.is;
                item = transactions.acknowledged from y;
                write = wrote.0;
                running = ap (λ (x : Facts). transaction x.transactions y.number) is ∙ ap (transaction (notes.write_acked f from t true).transactions) (found_number f.transactions.running t y i) ∙ changed_is f.transactions t (transactions.acknowledged from) (λ x. awaits_ack x from) y (λ x. refl) i h;
                applied = wrote.1;
                acked = nil_is _ j;
              },
            ),
            tt,
          );
          sent = refl;
          sends = tt;
          ends = own_ends z (front_after z (Writes (line.Done f.me (view_key f) y.number))) (notes.write_acked f from t true) (notes.closed (notes.write_acked f from t true) y.number) v.view w v.is ends refl refl (λ m x. away (world_of z).facts f.me _ m x) (here (world_of z).facts f.me _ ∙ ap (λ (x : Facts). notes.closed x y.number) is) refl;
        }

        awaited : (y : Transaction) → transaction f.transactions t ≡ Some y → (b : Bool) → awaits_ack y from ≡ b → NodeGo z f.me (if b then lines_only (only_if (line.Done f.me (view_key f) y.number) (is_last_awaited y from)) else spent f)
        awaited y i true h = last y i h (is_last_awaited y from) refl
        awaited y i false h = spent_go z f ends

        opens : (o : Option Transaction) → transaction f.transactions t ≡ o → NodeGo z f.me (ack_of f from o)
        opens None i = spent_go z f ends
        opens (Some y) i = awaited y i (awaits_ack y from) refl

-- ---- an answer

pub answer_go : {by : Policy} {factor : ℕ} {z0 z : Front} {f : Facts} {clock from : ℕ} {k : ClusterKey} {t : ℕ} {o : Option Version} → Arrived by factor z0 z f clock from (message.Answer k t o) → AreReadInRange (due.due_answer f clock from k t o).sends → NodeGo z f.me (due.due_answer f clock from k t o)
answer_go {by} {factor} {z0} {z} {f} {clock} {from} {k} {t} {o} a read = go (in_view f k) refl a.is read
  where
    go : (b : Bool) → in_view f k ≡ b → facts_at z f.me ≡ notes.answer_came f from t o b → AreReadInRange (if b then answer_of f clock from o (transaction f.transactions t) else stale f).sends → NodeGo z f.me (if b then answer_of f clock from o (transaction f.transactions t) else stale f)
    go false e is r = stale_go z f (ended_but f.me z0 z a.elsewhere a.before a.owes a.stays (subst (λ (x : Facts). Rests x) (sym is) a.rests))
    go true e is r = opens (transaction f.transactions t) refl r
      where
        v : Viewed f k
        v = view_of f k e

        ts : Transactions
        ts = transactions.answering f.store.by f.transactions from t o

        ends : Ended z
        ends = ended_but f.me z0 z a.elsewhere a.before a.owes a.stays (subst (λ (x : Facts). Rests x) (sym is) (view_rests f.exchange f.transactions.running (notes.answer_came f from t o true).transactions.running v.view v.is a.rests))

        last : (y : Transaction) → transaction f.transactions t ≡ Some y → awaits_answer y from ≡ true → (b : Bool) → is_last_awaited y from ≡ b → AreReadInRange (if b then resolving f clock (list_at f (partition_of (transactions.answered f.store.by from o y).digest)) (transactions.answered f.store.by from o y) else nothing).sends → NodeGo z f.me (if b then resolving f clock (list_at f (partition_of (transactions.answered f.store.by from o y).digest)) (transactions.answered f.store.by from o y) else nothing)
        last y i h false j q = nothing_go z f.me ends
        last y i h true j q = resolving_go z f (transactions.answering f.store.by f.transactions from t o) (transactions.answered f.store.by from o y) clock v.view (record { is = is; stays = a.stays; owes = a.owes }) v.is ends
            (ap (transaction (transactions.answering f.store.by f.transactions from t o)) (found_number f.transactions.running t y i) ∙ changed_is f.transactions t (transactions.answered f.store.by from o) (λ x. awaits_answer x from) y (λ x. refl) i h)
            (unapplied y.applied (and_left (not (is_some y.applied)) _ h)) (nil_is _ j) a.time (a.declared v.view v.is) q
          where
            unapplied : (w : Option Write) → not (is_some w) ≡ true → w ≡ None
            unapplied None i = refl
            unapplied (Some w) i = differ i refl

        awaited : (y : Transaction) → transaction f.transactions t ≡ Some y → (b : Bool) → awaits_answer y from ≡ b → AreReadInRange (if b then (if is_last_awaited y from then resolving f clock (list_at f (partition_of (answered f.store.by from o y).digest)) (answered f.store.by from o y) else nothing) else spent f).sends → NodeGo z f.me (if b then (if is_last_awaited y from then resolving f clock (list_at f (partition_of (answered f.store.by from o y).digest)) (answered f.store.by from o y) else nothing) else spent f)
        awaited y i true h q = last y i h (is_last_awaited y from) refl q
        awaited y i false h q = spent_go z f ends

        opens : (x : Option Transaction) → transaction f.transactions t ≡ x → AreReadInRange (answer_of f clock from o x).sends → NodeGo z f.me (answer_of f clock from o x)
        opens None i q = spent_go z f ends
        opens (Some y) i q = awaited y i (awaits_answer y from) refl q

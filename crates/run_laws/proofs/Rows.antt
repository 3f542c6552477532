-- Each row that a node keeps is the one with which its sender entered.
use Rattle.std.proofs.Common.{◌≡◌, ℕ, ◌==◌, Bool, true, false, List, [], ◌∷◌, Option, Some, None, refl, sym, ap, ◌∙◌, subst, ⊎_elim}
use Rattle.std.specs.Prelude.{slice_get, option_map, option_and_then, if◌then◌else◌, ◌++◌}
use Rattle.std.proofs.lemmas.Bool.{or_left as or_sooner}
use Rattle.cluster_types.specs.declared.cluster_key.ClusterKey.{ClusterKey}
use Rattle.cluster_types.specs.declared.member.Member.{Member}
use Rattle.journal_lines.specs.declared.line.Line.{Line}
use Rattle.journal_lines.specs.declared.line.Line.TheVariants as line
use Rattle.wire_messages.specs.declared.message.Message.{Message}
use Rattle.wire_messages.specs.declared.message.Message.TheVariants as message
use Rattle.wire_messages.specs.Decoding.{message_of}
use Rattle.node_rules.specs.Copies.{Row}
use Rattle.node_rules.specs.Exchange.{View, is_view}
use Rattle.node_rules.specs.Facts.{Facts, list_at}
use Rattle.node_rules.specs.Map.{lacks, list_master}
use Rattle.node_rules.specs.Keys.{same_key}
use Rattle.node_rules.specs.Notes.{note, reached, sent, own_row, entered, stopped, row_came, batch_acked, progress_came, write_came, write_counted_if, write_acked, answer_came, in_view}
use Rattle.node_rules.specs.declared.member_row.MemberRow.{MemberRow}
use Rattle.cluster_rules.specs.Marks.{Writes, came, sent_by, posted_by, came_to_client, came_to_node}
use Rattle.journal_readings.specs.Messages.{Posting, Arrival, arrived, arrived_cut}
use Rattle.cluster_rules.specs.Network.{posting, posting_at}
use Rattle.cluster_rules.specs.World.{with_facts}
use Rattle.cluster_laws.specs.Changed.{at_stay, at_key}
use Rattle.cluster_laws.proofs.At.{key_same, differ, no_some, some_same, changed_each, changed_here, numbers, number_here, keys, and_both}
use Rattle.key_laws.specs.Traced.{facts_of}
use Rattle.key_laws.proofs.Frames.{at_each}
use Rattle.key_laws.proofs.Kept.{WasPosted, was_posted, more}
use Rattle.key_laws.proofs.KeptNodes.{or_later}
use Rattle.node_rules.specs.Messages.{client}
use Rattle.run_laws.specs.Tied.{Each}
use Rattle.run_laws.specs.Chronicle.{Chronicle, Longer, chronicle_after, IsRowOf, Rowed, MayEnterFirst, RowOk}

-- ---- what can't become false

pub row_on : (c d : Chronicle) → Longer c d → (a : ℕ) (k : ClusterKey) (row : Row) → IsRowOf c a k row → IsRowOf d a k row
row_on c d l a k row h = record {
  entered = l.entered a k h.entered;
  members = h.members;
  list = l.lists k h.members h.list;
  among = h.among;
  same = h.same ∙ sym (l.rows a k h.entered);
}

pub rows_on : (c d : Chronicle) → Longer c d → (k : ClusterKey) (rs : List MemberRow) → Each (λ (r : MemberRow). IsRowOf c r.node k r.row) rs → Each (λ (r : MemberRow). IsRowOf d r.node k r.row) rs
rows_on c d l k [] h = tt
rows_on c d l k (r ∷ rs) h = (row_on c d l r.node k r.row h.0, rows_on c d l k rs h.1)

-- ---- the facts of one node

-- the rows that a node keeps in its view
abbrev Keeps : Chronicle → Facts → Type 0
Keeps c f = (v : View) → f.exchange.view ≡ Some v → Each (λ (r : MemberRow). IsRowOf c r.node v.key r.row) f.exchange.rows

rows_with : (c : Chronicle) (k : ClusterKey) (rs : List MemberRow) (from : ℕ) (row : Row) (b : Bool) → IsRowOf c from k row → Each (λ (r : MemberRow). IsRowOf c r.node k r.row) rs → Each (λ (r : MemberRow). IsRowOf c r.node k r.row) (if b then rs ++ record { node = from; row = row } ∷ [] else rs)
rows_with c k [] from row true s h = (s, tt)
rows_with c k (r ∷ rs) from row true s h = (h.0, rows_with c k rs from row true s h.1)
rows_with c k rs from row false s h = h

state_keeps : (c : Chronicle) (f : Facts) (from : ℕ) (k : ClusterKey) (row : Row) → IsRowOf c from k row → Keeps c f → Keeps c (row_came f from row (in_view f k))
state_keeps c f from k row s h = go (in_view f k) refl
  where
    go : (b : Bool) → in_view f k ≡ b → Keeps c (row_came f from row b)
    go false i v e = h v e
    go true i v e = rows_with c v.key f.exchange.rows from row (lacks f.exchange.rows from)
        (subst (λ (q : ClusterKey). IsRowOf c from q row) (sym (key_same v.key k (sym (ap (λ (o : Option View). is_view o k) e) ∙ i))) s) (h v e)

-- a message leaves the rows, unless it carries one
counted_keeps : (c : Chronicle) (f : Facts) (k : ClusterKey) (l : List ℕ) (p nth : ℕ) (b : Bool) → Keeps c f → Keeps c (write_counted_if f k l p nth b)
counted_keeps c f k l p nth true h = h
counted_keeps c f k l p nth false h = h

write_keeps : (c : Chronicle) (f : Facts) (from : ℕ) (k : ClusterKey) (nth p : ℕ) (b : Bool) → Keeps c f → Keeps c (write_came f from k nth p b)
write_keeps c f from k nth p true h = counted_keeps c f k (list_at f p) p nth (from == list_master (list_at f p)) h
write_keeps c f from k nth p false h = h

by_test : (c : Chronicle) (f g : Facts) (pick : Bool → Facts) (b : Bool) → pick true ≡ g → pick false ≡ f → Keeps c g → Keeps c f → Keeps c (pick b)
by_test c f g pick true i j x y = subst (Keeps c) (sym i) x
by_test c f g pick false i j x y = subst (Keeps c) (sym j) y

reached_keeps : (c : Chronicle) (f : Facts) (from : ℕ) (m : Message) → ((k : ClusterKey) (wants : Bool) (row : Row) → m ≡ message.State k wants row → IsRowOf c from k row) → Keeps c f → Keeps c (reached f from m)
reached_keeps c f from (message.State k wants row) s h = state_keeps c f from k row (s k wants row refl) h
reached_keeps c f from (message.BatchAck k number) s h = by_test c f _ (batch_acked f from number) (in_view f k) refl refl h h
reached_keeps c f from (message.Progress k wants d x y) s h = by_test c f _ (progress_came f from d x y) (in_view f k) refl refl h h
reached_keeps c f from (message.Repl k t nth d v) s h = write_keeps c f from k nth _ (in_view f k) h
reached_keeps c f from (message.ReplAck k t) s h = by_test c f _ (write_acked f from t) (in_view f k) refl refl h h
reached_keeps c f from (message.Answer k t v) s h = by_test c f _ (answer_came f from t v) (in_view f k) refl refl h h
reached_keeps c f from m s h = h

sent_keeps : (c : Chronicle) (f : Facts) (to : ℕ) (m : Message) → Keeps c f → Keeps c (sent f to m)
sent_keeps c f to (message.Propose k ms) h = h
sent_keeps c f to (message.Batch b) h = h
sent_keeps c f to m h = h

-- ---- the world

-- the chronicle with these facts of one node
abbrev moved : Chronicle → ℕ → Facts → Chronicle
moved c n new = record { traced = record { world = with_facts c.traced.world n new; lists = c.traced.lists; entered = c.traced.entered }; rows = c.rows }

same_long : (c d : Chronicle) → c.traced.entered ≡ d.traced.entered → c.traced.lists ≡ d.traced.lists → c.rows ≡ d.rows → Longer c d
same_long c d e l r = record {
  entered = λ n k h. subst (λ (es : ℕ → ClusterKey → Bool). es n k ≡ true) e h;
  lists = λ k ms h. subst (λ ls. ls k ≡ Some ms) l h;
  rows = λ n k h. ap (λ (rs : ℕ → ClusterKey → Row). rs n k) (sym r);
}

keeps_on : (c d : Chronicle) → Longer c d → (f : Facts) → Keeps c f → Keeps d f
keeps_on c d l f h v e = rows_on c d l v.key f.exchange.rows (h v e)

rowed_moved : (c : Chronicle) (n : ℕ) (new : Facts) → Rowed c → Keeps c new → Rowed (moved c n new)
rowed_moved c n new h k =
    let l : Longer c (moved c n new) = same_long c (moved c n new) refl refl refl in
    record {
      kept = at_each (λ (m : ℕ) (f : Facts). Keeps (moved c n new) f) c.traced.world.facts n new (λ m. keeps_on c (moved c n new) l (facts_of c.traced m) (h.kept m)) (keeps_on c (moved c n new) l new k);
      sent = λ i p k w row e r. row_on c (moved c n new) l p.from k row (h.sent i p k w row e r);
    }

-- what stands beside facts and messages doesn't count; lists grow
pub beside : (c d : Chronicle) → Longer c d → c.traced.world.facts ≡ d.traced.world.facts → c.traced.world.network.sent ≡ d.traced.world.network.sent → Rowed c → Rowed d
beside c d l fs ss h = record {
  kept = λ n. subst (λ (facts : ℕ → Facts). Keeps d (facts n)) fs (keeps_on c d l (facts_of c.traced n) (h.kept n));
  sent = λ i p k w row e r. row_on c d l p.from k row (h.sent i p k w row (subst (λ (xs : List Posting). slice_get xs i ≡ Some p) (sym ss) e) r);
}

-- ---- arrivals

arrives_at : (c : Chronicle) (x : Arrival) → ((k : ClusterKey) (wants : Bool) (row : Row) → x.message ≡ message.State k wants row → IsRowOf c x.from k row) → Rowed c
    → (b : Bool) → Rowed (record { traced = record { world = (if b then came_to_client c.traced.world x.message else came_to_node c.traced.world x); lists = c.traced.lists; entered = c.traced.entered }; rows = c.rows })
arrives_at c x s h false = rowed_moved c x.to _ h (reached_keeps c (facts_of c.traced x.to) x.from x.message s (h.kept x.to))
arrives_at c x s h true = client_only x.message
  where
    client_only : (m : Message) → Rowed (record { traced = record { world = came_to_client c.traced.world m; lists = c.traced.lists; entered = c.traced.entered }; rows = c.rows })
    client_only (message.MapTable t) = beside c _ (same_long c _ refl refl refl) refl refl h
    client_only m = h

comes : (c : Chronicle) (b : ℕ) (p : Posting) → WasPosted c.traced p → Rowed c
    → Rowed (record { traced = record { world = came c.traced.world (arrived b p); lists = c.traced.lists; entered = c.traced.entered }; rows = c.rows })
comes c b p w h = go (message_of p.bytes) refl
  where
    go : (o : Option Message) → message_of p.bytes ≡ o → Rowed (record { traced = record { world = came c.traced.world (option_map (λ m. record { from = p.from; to = b; message = m }) o); lists = c.traced.lists; entered = c.traced.entered }; rows = c.rows })
    go None e = h
    go (Some m) e = arrives_at c (record { from = p.from; to = b; message = m }) (λ k wants row i. h.sent w.place p k wants row w.stands (e ∙ ap (λ (z : Message). Some z) i)) h (b == client)

arrival_rowed : (c : Chronicle) (i b : ℕ) → Rowed c → Rowed (record { traced = record { world = came c.traced.world (option_and_then (arrived b) (posting_at c.traced.world.network i)); lists = c.traced.lists; entered = c.traced.entered }; rows = c.rows })
arrival_rowed c i b h = go (posting_at c.traced.world.network i) refl
  where
    go : (o : Option Posting) → posting_at c.traced.world.network i ≡ o → Rowed (record { traced = record { world = came c.traced.world (option_and_then (arrived b) o); lists = c.traced.lists; entered = c.traced.entered }; rows = c.rows })
    go None e = h
    go (Some p) e = comes c b p (was_posted c.traced i p e) h

cut_rowed : (c : Chronicle) (i b size : ℕ) → Rowed c → Rowed (record { traced = record { world = came c.traced.world (option_and_then (arrived_cut b size) (posting_at c.traced.world.network i)); lists = c.traced.lists; entered = c.traced.entered }; rows = c.rows })
cut_rowed c i b size h = go (posting_at c.traced.world.network i) refl
  where
    long : (p : Posting) → WasPosted c.traced p → (q : Bool) → Rowed (record { traced = record { world = came c.traced.world (if q then arrived b p else None); lists = c.traced.lists; entered = c.traced.entered }; rows = c.rows })
    long p w true = comes c b p w h
    long p w false = h

    go : (o : Option Posting) → posting_at c.traced.world.network i ≡ o → Rowed (record { traced = record { world = came c.traced.world (option_and_then (arrived_cut b size) o); lists = c.traced.lists; entered = c.traced.entered }; rows = c.rows })
    go None e = h
    go (Some p) e = long p (was_posted c.traced i p e) _

-- ---- a message is sent

abbrev posted_in : Chronicle → ℕ → Posting → Chronicle
posted_in c i p = record { traced = record { world = record c.traced.world { network = posting c.traced.world.network i p }; lists = c.traced.lists; entered = c.traced.entered }; rows = c.rows }

posted_rowed : (c : Chronicle) (i : ℕ) (p : Posting) → ((k : ClusterKey) (wants : Bool) (row : Row) → message_of p.bytes ≡ Some (message.State k wants row) → IsRowOf c p.from k row) → Rowed c → Rowed (posted_in c i p)
posted_rowed c i p s h =
    let l : Longer c (posted_in c i p) = same_long c (posted_in c i p) refl refl refl in
    record {
      kept = λ n. keeps_on c (posted_in c i p) l (facts_of c.traced n) (h.kept n);
      sent = λ j q k w row e r. row_on c (posted_in c i p) l q.from k row (⊎_elim (λ old. h.sent j q k w row old r) (λ z. subst (λ (x : Posting). IsRowOf c x.from k row) (sym z) (s k w row (subst (λ (x : Posting). message_of x.bytes ≡ Some (message.State k w row)) z r))) (more c.traced.world.network.sent p q j e));
    }

sent_rowed : (c : Chronicle) (i : ℕ) (p : Posting) → ((k : ClusterKey) (wants : Bool) (row : Row) → message_of p.bytes ≡ Some (message.State k wants row) → IsRowOf c p.from k row) → Rowed c
    → Rowed (record { traced = record { world = posted_by c.traced.world i p; lists = c.traced.lists; entered = c.traced.entered }; rows = c.rows })
sent_rowed c i p s h = go (message_of p.bytes)
  where
    first : Rowed (posted_in c i p)
    first = posted_rowed c i p s h

    go : (o : Option Message) → Rowed (record { traced = record { world = sent_by (posted_in c i p).traced.world p.from p.to o; lists = c.traced.lists; entered = c.traced.entered }; rows = c.rows })
    go None = first
    go (Some m) = rowed_moved (posted_in c i p) p.from _ first (sent_keeps (posted_in c i p) (facts_of c.traced p.from) p.to m (first.kept p.from))

-- ---- an entry

each_place : (P : ℕ → ClusterKey → Row → Type 0) (f : ℕ → ClusterKey → Row) (n : ℕ) (k : ClusterKey) (new : Row)
    → P n k new → ((m : ℕ) (j : ClusterKey) → P m j (f m j)) → (m : ℕ) (j : ClusterKey) → P m j (at_stay f n k new m j)
each_place P f n k new here old m = changed_each numbers (λ (m : ℕ) (g : ClusterKey → Row). (j : ClusterKey) → P m j (g j)) f n (at_key (f n) k new)
    (changed_each keys (P n) (f n) k new here (λ j _. old n j)) (λ m _. old m) m

pub enter_long : (c : Chronicle) (n : ℕ) (k : ClusterKey) (ms : List Member) → MayEnterFirst c n k ms → Longer c (chronicle_after c (Writes (line.Enter n k ms)))
enter_long c n k ms ok = record {
  entered = λ m j e. or_later _ (c.traced.entered m j) e;
  lists = λ j qs e. e;
  rows = λ m j e. each_place (λ (x : ℕ) (y : ClusterKey) (r : Row). c.traced.entered x y ≡ true → r ≡ c.rows x y) c.rows n k (own_row (facts_of c.traced n)) (λ z. differ z ok.first) (λ x y z. refl) m j e;
}

pub row_here : (f : ℕ → ClusterKey → Row) (n : ℕ) (k : ClusterKey) (new : Row) → at_stay f n k new n k ≡ new
row_here f n k new = ap (λ (g : ClusterKey → Row). g k) (changed_here numbers f n (at_key (f n) k new)) ∙ changed_here keys (f n) k new

enter_rowed : (c : Chronicle) (n : ℕ) (k : ClusterKey) (ms : List Member) → (facts_of c.traced n).me ≡ n → MayEnterFirst c n k ms → Rowed c → Rowed (chronicle_after c (Writes (line.Enter n k ms)))
enter_rowed c n k ms me ok h =
    let d : Chronicle = chronicle_after c (Writes (line.Enter n k ms)) in
    let l : Longer c d = enter_long c n k ms ok in
    let f : Facts = facts_of c.traced n in
    let own : IsRowOf d n k (own_row f) = record {
      entered = or_sooner _ (c.traced.entered n k) (and_both (n == n) (same_key k k) (number_here n) (keys.here k));
      members = ms;
      list = ok.list;
      among = ok.among;
      same = sym (row_here c.rows n k (own_row f));
    } in
    record {
      kept = at_each (λ (m : ℕ) (g : Facts). Keeps d g) c.traced.world.facts n (entered f k ms (own_row f)) (λ m. keeps_on c d l (facts_of c.traced m) (h.kept m))
          (λ v e. (subst (λ (x : View). IsRowOf d f.me x.key (own_row f)) (some_same e) (subst (λ (x : ℕ). IsRowOf d x k (own_row f)) (sym me) own), tt));
      sent = λ i p q w row e r. row_on c d l p.from q row (h.sent i p q w row e r);
    }

-- ---- all lines

stop_keeps : (c : Chronicle) (f : Facts) → Keeps c (stopped f)
stop_keeps c f v e = no_some e

-- the facts of one node are these, and what doesn't count is other than before
moved_on : (c d : Chronicle) (n : ℕ) (new : Facts) → Longer c d → (moved c n new).traced.world.facts ≡ d.traced.world.facts → c.traced.world.network.sent ≡ d.traced.world.network.sent → Rowed c → Keeps c new → Rowed d
moved_on c d n new g fs ss h k = beside (moved c n new) d (record { entered = g.entered; lists = g.lists; rows = g.rows }) fs ss (rowed_moved c n new h k)

-- lists after a promise
pub rowed_line : (c : Chronicle) (l : Line) → ((n : ℕ) → (facts_of c.traced n).me ≡ n) → Longer c (chronicle_after c (Writes l)) → RowOk c (Writes l) → Rowed c → Rowed (chronicle_after c (Writes l))
rowed_line c (line.Deliver i a b) me g ok h = arrival_rowed c i b h
rowed_line c (line.Repeat i a b) me g ok h = arrival_rowed c i b h
rowed_line c (line.Cut i a b size) me g ok h = cut_rowed c i b size h
rowed_line c (line.Sent i a b bytes) me g ok h = sent_rowed c i (record { from = a; to = b; bytes = bytes }) ok h
rowed_line c (line.Enter n k ms) me g ok h = enter_rowed c n k ms (me n) ok h
rowed_line c (line.Stop n) me g ok h = moved_on c _ n (stopped (facts_of c.traced n)) g refl refl h (stop_keeps c (facts_of c.traced n))
rowed_line c (line.Promise n k) me g ok h =
    let f : Facts = note c.traced.world.want (facts_of c.traced n) (line.Promise n k) in
    beside (moved c n f) (chronicle_after c (Writes (line.Promise n k))) (record { entered = g.entered; lists = g.lists; rows = g.rows }) refl refl (rowed_moved c n f h (h.kept n))
rowed_line c (line.Tick n) me g ok h = rowed_moved c n _ h (h.kept n)
rowed_line c (line.Start n) me g ok h = rowed_moved c n _ h (h.kept n)
rowed_line c (line.Quiesce n) me g ok h = rowed_moved c n _ h (h.kept n)
rowed_line c (line.Unquiesce n) me g ok h = rowed_moved c n _ h (h.kept n)
rowed_line c (line.Exchanged n k) me g ok h = rowed_moved c n _ h (h.kept n)
rowed_line c (line.Opened n k t d a) me g ok h = moved_on c _ n (note c.traced.world.want (facts_of c.traced n) (line.Opened n k t d a)) g refl refl h (h.kept n)
rowed_line c (line.Value n k t d v) me g ok h = moved_on c _ n (note c.traced.world.want (facts_of c.traced n) (line.Value n k t d v)) g refl refl h (h.kept n)
rowed_line c (line.Apply n k t d v) me g ok h = rowed_moved c n _ h (h.kept n)
rowed_line c (line.Done n k t) me g ok h = moved_on c _ n (note c.traced.world.want (facts_of c.traced n) (line.Done n k t)) g refl refl h (h.kept n)
rowed_line c (line.Aborted n k t) me g ok h = rowed_moved c n _ h (h.kept n)
rowed_line c (line.Doubt n k t) me g ok h = rowed_moved c n _ h (h.kept n)
rowed_line c (line.Merge n k d v) me g ok h = rowed_moved c n _ h (h.kept n)
rowed_line c (line.Handed n k p) me g ok h = rowed_moved c n _ h (h.kept n)
rowed_line c (line.Settled n k p) me g ok h = rowed_moved c n _ h (h.kept n)
rowed_line c (line.Learn n k p) me g ok h = rowed_moved c n _ h (h.kept n)
rowed_line c (line.Drop n k p) me g ok h = rowed_moved c n _ h (h.kept n)
rowed_line c l me g ok h = beside c _ g refl refl h

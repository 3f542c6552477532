-- Messages that carry rows and records: a State, a write and a batch.
use Rattle.std.proofs.Common.{◌≡◌, ℕ, ◌==◌, Bool, true, false, cond, not, ◌&&◌, ◌||◌, is_none, List, [], ◌∷◌, Option, Some, None, refl, sym, ap, ap₂, ◌∙◌, subst, arith, inr}
use Rattle.std.specs.Prelude.{nat_lt, if◌then◌else◌}
use Rattle.std.specs.FinMap as finite
use Rattle.conflict_order.specs.declared.policy.Policy.{Policy}
use Rattle.conflict_order.specs.declared.version.Version.{Version}
use Rattle.conflict_order.specs.Join.{AtMost, join}
use Rattle.conflict_order.specs.Order.{is_newer}
use Rattle.conflict_order.proofs.JoinLaws.{join_right, join_not_newer}
use Rattle.cluster_types.specs.declared.cluster_key.ClusterKey.{ClusterKey}
use Rattle.cluster_types.specs.Partitions.{partition_of}
use Rattle.journal_lines.specs.declared.line.Line.TheVariants as line
use Rattle.wire_messages.specs.declared.message.Message.TheVariants as message
use Rattle.node_rules.specs.Copies.{Row}
use Rattle.node_rules.specs.Effects.{to_each, lines_and_sends, to_one}
use Rattle.node_rules.specs.Exchange.{View, Exchange, first_missing, members_of, with_row}
use Rattle.node_rules.specs.Facts.{Facts, view_key, members_of_view, list_at}
use Rattle.node_rules.specs.Map.{list_master}
use Rattle.node_rules.specs.Messages as due
use Rattle.node_rules.specs.Messages.{finishes, merging, merging_all}
use Rattle.node_rules.specs.Notes as notes
use Rattle.node_rules.specs.Notes.{note, noted, reached, in_view}
use Rattle.node_rules.specs.Stamps.{with_number, numbers_at}
use Rattle.node_rules.specs.Tables.{contains, only_if}
use Rattle.node_rules.specs.Tick.{own_row_in, state}
use Rattle.node_rules.specs.declared.member_row.MemberRow.{MemberRow}
use Rattle.cluster_rules.specs.Marks.{Writes}
use Rattle.cluster_laws.proofs.At.{number_same, number_here, and_left, and_right, differ, some_same, no_some, digests}
use Rattle.wire_messages.proofs.DecodingLaws.{what_is_read, read_back}
use Rattle.run_laws.proofs.Reading.{reads_itself}
use Rattle.run_laws.specs.Chronicle.{IsRowOf}
use Rattle.run_laws.specs.Fronts.{Front, world_of, facts_at, front_after, owed_if}
use Rattle.run_laws.specs.LineDue.{LawOf}
use Rattle.run_laws.specs.Steps.{RestsWith, Rests}
use Rattle.run_laws.specs.Tied.{Each, key_in}
use Rattle.run_laws.proofs.Arrived.{Arrived, stale_go}
use Rattle.run_laws.proofs.Calmly.{EachPlainly}
use Rattle.run_laws.proofs.NodeSteps.{NodeGo}
use Rattle.run_laws.specs.Spelled.{AreReadInRange}
use Rattle.run_laws.proofs.ResolvingSteps.{view_rests}
use Rattle.run_laws.proofs.Rows.{rows_on}
use Rattle.run_laws.proofs.Sending.{own_said}
use Rattle.run_laws.proofs.Tables.{entry_or, joined_at}
use Rattle.run_laws.proofs.Turns.{elsewhere_on, ended_but, here, away}
use Rattle.run_laws.proofs.ViewSteps.{Viewed, view_of}
use Rattle.node_rules.specs.StaleMessages.{stale}

-- ---- a State

-- the node's own row is the one with which it entered
pub own_row_is : {by : Policy} {factor : ℕ} (z : Front) (f : Facts) (v : View) → LawOf by factor f → f.exchange.view ≡ Some v → Each (λ (r : MemberRow). IsRowOf z.chronicle r.node v.key r.row) f.exchange.rows → IsRowOf z.chronicle f.me v.key (own_row_in f)
own_row_is z f v law i rows = own_said z.chronicle v.key f.exchange.rows f.me (law.own v i) rows

state_answer : {by : Policy} {factor : ℕ} (z : Front) (f g : Facts) (from : ℕ) (k : ClusterKey) (v : Viewed f k) → LawOf by factor f → Each (λ (r : MemberRow). IsRowOf z.chronicle r.node v.view.key r.row) f.exchange.rows
    → key_in (facts_at z f.me).exchange.view ≡ Some (view_key f) → z.closing f.me ≡ false → (wants : Bool) → AreReadInRange (if wants then to_one from (state f false) else []) → EachPlainly z f.me (if wants then to_one from (state f false) else [])
state_answer z f g from k v law rows view stays false read = tt
state_answer z f g from k v law rows view stays true read = (
  record {
    plain = refl;
    read = reads_itself _ (read.0 refl);
    due = record { stands = record { view = view; stays = stays }; row = subst (λ (j : ClusterKey). IsRowOf z.chronicle f.me j (own_row_in f)) (v.key ∙ sym v.named) (own_row_is z f v.view law v.is rows) };
  },
  tt,
)

pub state_go : {by : Policy} {factor : ℕ} {z0 z : Front} {f : Facts} {clock from : ℕ} {k : ClusterKey} {wants : Bool} {row : Row} → Arrived by factor z0 z f clock from (message.State k wants row)
    → AreReadInRange (due.due_state f (reached f from (message.State k wants row)) from k wants).sends → NodeGo z f.me (due.due_state f (reached f from (message.State k wants row)) from k wants)
state_go {by} {factor} {z0} {z} {f} {clock} {from} {k} {wants} {row} a read = go (in_view f k) refl a.is read
  where
    go : (b : Bool) → in_view f k ≡ b → facts_at z f.me ≡ notes.row_came f from row b → AreReadInRange (if b then lines_and_sends (only_if (line.Exchanged f.me (view_key f)) (finishes f (notes.row_came f from row b))) (if wants then to_one from (state f false) else []) else stale f).sends → NodeGo z f.me (if b then lines_and_sends (only_if (line.Exchanged f.me (view_key f)) (finishes f (notes.row_came f from row b))) (if wants then to_one from (state f false) else []) else stale f)
    go false e is r = stale_go z f (ended_but f.me z0 z a.elsewhere a.before a.owes a.stays (subst (λ (x : Facts). Rests x) (sym is) a.rests))
    go true e is r = over (finishes f (notes.row_came f from row true)) refl
      where
        v : Viewed f k
        v = view_of f k e

        g : Facts
        g = notes.row_came f from row true

        none_is : (o : Option ℕ) → is_none o ≡ true → o ≡ None
        none_is None i = refl
        none_is (Some x) i = differ i refl

        not_is : (b : Bool) → not b ≡ true → b ≡ false
        not_is b i = grind arith

        view_here : key_in (facts_at z f.me).exchange.view ≡ Some (view_key f)
        view_here = ap (λ (x : Facts). key_in x.exchange.view) is ∙ ap key_in v.is ∙ ap Some (v.key ∙ sym v.named)

        -- not the last row
        misses : finishes f (notes.row_came f from row true) ≡ false → (u : View) → f.exchange.view ≡ Some u → first_missing (with_row f.exchange.rows from row) u.members ≡ None → f.exchange.exchanged ≡ true
        misses i u j none = by_flag f.exchange.exchanged refl
          where
            by_flag : (b : Bool) → f.exchange.exchanged ≡ b → b ≡ true
            by_flag true q = refl
            by_flag false q = differ (ap₂ (λ (x : Option ℕ) (y : Bool). is_none x && not y) (ap (λ (o : Option View). first_missing (with_row f.exchange.rows from row) (members_of o)) j ∙ none) q) i

        over : (b : Bool) → finishes f (notes.row_came f from row true) ≡ b → NodeGo z f.me (record { lines = only_if (line.Exchanged f.me (view_key f)) b; sends = (if wants then to_one from (state f false) else []) })
        over false i = record {
          due = tt;
          sent = refl;
          sends = state_answer z f g from k v a.law (a.rowed v.view v.is) view_here a.stays wants r;
          ends = ended_but f.me z0 z a.elsewhere a.before a.owes a.stays (subst (λ (x : Facts). Rests x) (sym is) (record { idle = λ none. no_some (sym none ∙ v.is); over = misses i }));
        }
        over true i = record {
          due = (
            (
              a.owes,
              record {
                stands = record { view = view_here; stays = a.stays };
                first = ap (λ (x : Facts). x.exchange.exchanged) is ∙ not_is f.exchange.exchanged (and_right _ _ i);
                none = ap (λ (x : Facts). first_missing x.exchange.rows (members_of_view x)) is ∙ none_is _ (and_left _ _ i);
              },
            ),
            tt,
          );
          sent = refl;
          sends = state_answer (front_after z (Writes (line.Exchanged f.me (view_key f)))) f g from k v a.law
              (rows_on z.chronicle (front_after z (Writes (line.Exchanged f.me (view_key f)))).chronicle (record { entered = λ n k e. e; lists = λ k ms e. e; rows = λ n k e. refl }) v.view.key f.exchange.rows (a.rowed v.view v.is))
              (ap (λ (x : Facts). key_in x.exchange.view) (here (world_of z).facts f.me _) ∙ view_here) a.stays wants r;
          ends = ended_but f.me z0 (front_after z (Writes (line.Exchanged f.me (view_key f)))) (elsewhere_on f.me z0 z _ a.elsewhere (record { facts = λ m x. away (world_of z).facts f.me _ m x; closing = λ m x. refl })) a.before a.owes a.stays
              (subst (λ (x : Facts). Rests x) (sym (here (world_of z).facts f.me _ ∙ ap (λ (x : Facts). notes.exchanged x (view_key f)) is)) (record { idle = λ none. no_some (sym none ∙ v.is); over = λ u j none. refl }));
        }

-- ---- a record is merged

-- what is newer isn't held; what isn't newer is at most what is held
pub held_at_least : (by : Policy) (o : Option Version) (v : Version) → is_newer by v o ≡ false → AtMost by (Some v) o
held_at_least by o v e = subst (AtMost by (Some v)) (join_not_newer by o v e) (join_right o (Some v))

pub merged_holds : (f : Facts) (k : ClusterKey) (d : List ℕ) (v : Version) → AtMost f.store.by (Some v) (finite.get (notes.merged f k d v).store.content d)
merged_holds f k d v = subst (AtMost f.store.by (Some v)) (sym (joined_at f.store.by f.store.content d v d ∙ ap (λ (b : Bool). cond b (join f.store.by (finite.get f.store.content d) (Some v)) (finite.get f.store.content d)) (digests.here d))) (join_right (finite.get f.store.content d) (Some v))

has_number : (ns : List ℕ) (n : ℕ) → contains (with_number ns n) n ≡ true
has_number [] n = ap (λ (b : Bool). b || false) (number_here n)
has_number (m ∷ ms) n = go (n == m) (nat_lt n m) refl (has_number ms n)
  where
    right_true : (b : Bool) → (b || true) ≡ true
    right_true true = refl
    right_true false = refl

    go : (a b : Bool) → (n == m) ≡ a → contains (with_number ms n) n ≡ true → contains (if a then m ∷ ms else (if b then n ∷ m ∷ ms else (m ∷ with_number ms n))) n ≡ true
    go true b i h = ap (λ (x : Bool). x || contains ms n) (ap (λ (x : ℕ). x == n) (sym (number_same n m i)) ∙ number_here n)
    go false true i h = ap (λ (x : Bool). x || contains (m ∷ ms) n) (number_here n)
    go false false i h = ap (λ (x : Bool). (m == n) || x) h ∙ right_true (m == n)

-- ---- a write

-- the facts after a write of the view, whoever sent it
abbrev wrote_facts : Facts → ℕ → ClusterKey → ℕ → List ℕ → Facts
wrote_facts f from k nth d = notes.write_came f from k nth (partition_of d) true

-- what a write leaves, where it counts and where it doesn't
record Leaves (f g : Facts) : Type 0 where
  me : g.me ≡ f.me
  exchange : g.exchange ≡ f.exchange
  transactions : g.transactions ≡ f.transactions
  content : g.store.content ≡ f.store.content
  by : g.store.by ≡ f.store.by

leaves_write : (f : Facts) (from : ℕ) (k : ClusterKey) (nth : ℕ) (d : List ℕ) → Leaves f (wrote_facts f from k nth d)
leaves_write f from k nth d = go (from == list_master (list_at f (partition_of d)))
  where
    go : (b : Bool) → Leaves f (notes.write_counted_if f k (list_at f (partition_of d)) (partition_of d) nth b)
    go true = record { me = refl; exchange = refl; transactions = refl; content = refl; by = refl }
    go false = record { me = refl; exchange = refl; transactions = refl; content = refl; by = refl }

counts_write : (f : Facts) (from : ℕ) (k : ClusterKey) (nth : ℕ) (d : List ℕ) → from ≡ list_master (list_at (wrote_facts f from k nth d) (partition_of d)) → contains (numbers_at (wrote_facts f from k nth d).writes (partition_of d)) nth ≡ true
counts_write f from k nth d e = go (from == list_master (list_at f (partition_of d))) refl e
  where
    go : (b : Bool) → (from == list_master (list_at f (partition_of d))) ≡ b → from ≡ list_master (list_at (notes.write_counted_if f k (list_at f (partition_of d)) (partition_of d) nth b) (partition_of d))
        → contains (numbers_at (notes.write_counted_if f k (list_at f (partition_of d)) (partition_of d) nth b).writes (partition_of d)) nth ≡ true
    go true i q = ap (λ (ns : List ℕ). contains ns nth) (entry_or f.writes.numbers (partition_of d) (with_number (numbers_at f.writes (partition_of d)) nth) (partition_of d) []
        ∙ ap (λ (b : Bool). cond b (with_number (numbers_at f.writes (partition_of d)) nth) (numbers_at f.writes (partition_of d))) (number_here (partition_of d))) ∙ has_number (numbers_at f.writes (partition_of d)) nth
    go false i q = differ (ap (λ (m : ℕ). from == m) (sym q) ∙ number_here from) i

pub repl_go : {by : Policy} {factor : ℕ} {z0 z : Front} {f : Facts} {clock from : ℕ} {k : ClusterKey} {t nth : ℕ} {d : List ℕ} {v : Version} → Arrived by factor z0 z f clock from (message.Repl k t nth d v)
    → AreReadInRange (due.due_repl f from k t d v).sends
    → NodeGo z f.me (due.due_repl f from k t d v)
repl_go {by} {factor} {z0} {z} {f} {clock} {from} {k} {t} {nth} {d} {v} a read = go (in_view f k) refl a.is a.owes read
  where
    go : (b : Bool) → in_view f k ≡ b → facts_at z f.me ≡ notes.write_came f from k nth (partition_of d) b → z.owed ≡ owed_if f f.me k d v b None → AreReadInRange (if b then lines_and_sends (merging f d v) (to_one from (message.ReplAck k t)) else stale f).sends → NodeGo z f.me (if b then lines_and_sends (merging f d v) (to_one from (message.ReplAck k t)) else stale f)
    go false e is o r = stale_go z f (ended_but f.me z0 z a.elsewhere a.before o a.stays (subst (λ (x : Facts). Rests x) (sym is) a.rests))
    go true e is o r = newer (is_newer f.store.by v (finite.get f.store.content d)) refl o
      where
        u : Viewed f k
        u = view_of f k e

        g : Facts
        g = wrote_facts f from k nth d

        l : Leaves f (wrote_facts f from k nth d)
        l = leaves_write f from k nth d

        rests : Rests (wrote_facts f from k nth d)
        rests = subst (λ (x : Exchange). RestsWith x (wrote_facts f from k nth d).transactions.running) (sym l.exchange) (view_rests f.exchange f.transactions.running (wrote_facts f from k nth d).transactions.running u.view u.is a.rests)

        view_here : key_in (facts_at z f.me).exchange.view ≡ Some k
        view_here = ap (λ (x : Facts). key_in x.exchange.view) is ∙ ap (λ (x : Exchange). key_in x.view) l.exchange ∙ ap key_in u.is ∙ ap Some u.key

        counted : from ≡ list_master (list_at (facts_at z f.me) (partition_of d)) → contains (numbers_at (facts_at z f.me).writes (partition_of d)) nth ≡ true
        counted = subst (λ (x : Facts). from ≡ list_master (list_at x (partition_of d)) → contains (numbers_at x.writes (partition_of d)) nth ≡ true) (sym is) (counts_write f from k nth d)

        -- the merge, and behind it the acknowledgement
        y : Front
        y = front_after z (Writes (line.Merge f.me k d v))

        merged_is : facts_at (front_after z (Writes (line.Merge f.me k d v))) f.me ≡ notes.merged (wrote_facts f from k nth d) k d v
        merged_is = here (world_of z).facts f.me _ ∙ ap (λ (x : Facts). notes.merged x k d v) is

        by_merge : z.owed ≡ Some (record { node = f.me; key = k; digest = d; version = v }) → NodeGo z f.me (record { lines = line.Merge f.me k d v ∷ []; sends = to_each (from ∷ []) (message.ReplAck k t) })
        by_merge o = record {
          due = (
            record {
              stands = record { view = view_here; stays = a.stays };
              from = from;
              brings = inr (record { number = t; nth = nth; came = a.came; counted = counted });
              owed = λ x i. some_same (sym i ∙ o);
              declared = a.declared u.view u.is;
            },
            tt,
          );
          sent = refl;
          sends = (
            record {
              plain = refl;
              read = reads_itself _ (read_back (message.ReplAck k t) ((what_is_read a.came.posting.bytes (message.Repl k t nth d v) a.came.message).0.0, (what_is_read a.came.posting.bytes (message.Repl k t nth d v) a.came.message).0.1));
              due = record {
                stands = record { view = ap (λ (x : Facts). key_in x.exchange.view) merged_is ∙ ap (λ (x : Exchange). key_in x.view) l.exchange ∙ ap key_in u.is ∙ ap Some u.key; stays = a.stays };
                nth = nth;
                digest = d;
                version = v;
                came = record { number = a.came.number; posting = a.came.posting; sent = a.came.sent; ends = a.came.ends; message = a.came.message };
                counted = subst (λ (x : Facts). from ≡ list_master (list_at x (partition_of d)) → contains (numbers_at x.writes (partition_of d)) nth ≡ true) (sym merged_is) (counts_write f from k nth d);
                held = subst (λ (x : Facts). AtMost x.store.by (Some v) (finite.get x.store.content d)) (sym merged_is) (merged_holds (wrote_facts f from k nth d) k d v);
              };
            },
            tt,
          );
          ends = ended_but f.me z0 (front_after z (Writes (line.Merge f.me k d v))) (elsewhere_on f.me z0 z _ a.elsewhere (record { facts = λ m x. away (world_of z).facts f.me _ m x; closing = λ m x. refl })) a.before refl a.stays
              (subst (λ (x : Facts). Rests x) (sym merged_is) rests);
        }

        newer : (b : Bool) → is_newer f.store.by v (finite.get f.store.content d) ≡ b → z.owed ≡ (if b then Some (record { node = f.me; key = k; digest = d; version = v }) else None)
            → NodeGo z f.me (record { lines = only_if (line.Merge f.me (view_key f) d v) b; sends = to_each (from ∷ []) (message.ReplAck k t) })
        newer true i o = subst (λ (j : ClusterKey). NodeGo z f.me (record { lines = line.Merge f.me j d v ∷ []; sends = to_each (from ∷ []) (message.ReplAck k t) })) (sym u.named) (by_merge o)
        newer false i o = record {
          due = tt;
          sent = refl;
          sends = (
            record {
              plain = refl;
              read = reads_itself _ (read_back (message.ReplAck k t) ((what_is_read a.came.posting.bytes (message.Repl k t nth d v) a.came.message).0.0, (what_is_read a.came.posting.bytes (message.Repl k t nth d v) a.came.message).0.1));
              due = record {
                stands = record { view = view_here; stays = a.stays };
                nth = nth;
                digest = d;
                version = v;
                came = a.came;
                counted = counted;
                held = subst (λ (x : Facts). AtMost x.store.by (Some v) (finite.get x.store.content d)) (sym is) (subst (λ (p : Policy). AtMost p (Some v) (finite.get (wrote_facts f from k nth d).store.content d)) (sym l.by) (subst (λ c. AtMost f.store.by (Some v) (finite.get c d)) (sym l.content) (held_at_least f.store.by (finite.get f.store.content d) v i)));
              };
            },
            tt,
          );
          ends = ended_but f.me z0 z a.elsewhere a.before o a.stays (subst (λ (x : Facts). Rests x) (sym is) rests);
        }

-- A transaction whose best version is known is resolved: a read answers, and a write is applied and goes to the other replicas.
use Rattle.std.proofs.Common.{◌≡◌, ℕ, ◌==◌, Bool, true, false, cond, ◌||◌, List, [], ◌∷◌, Option, Some, None, refl, sym, ap, ◌∙◌, subst, arith}
use Rattle.std.specs.Prelude.{option_map}
use Rattle.conflict_order.specs.declared.version.Version.{Version}
use Rattle.conflict_order.specs.declared.version.Body.{Body}
use Rattle.conflict_order.specs.declared.version.Body.TheVariants as body
use Rattle.conflict_order.specs.declared.want.Want.{Want}
use Rattle.conflict_order.specs.declared.want.Want.TheVariants as want
use Rattle.conflict_order.specs.Next.{next}
use Rattle.cluster_types.specs.Partitions.{partition_of}
use Rattle.partition_lists.specs.Lists.{replicas}
use Rattle.journal_lines.specs.declared.line.Line.TheVariants as line
use Rattle.wire_messages.specs.Decoding.{message_of}
use Rattle.wire_messages.specs.Spelling.{spelling}
use Rattle.wire_messages.specs.Requests.{IsWant}
use Rattle.wire_messages.specs.Versions.{IsBody}
use Rattle.node_rules.specs.Copies.{is_nil}
use Rattle.node_rules.specs.Effects.{to_each}
use Rattle.node_rules.specs.Exchange.{View, Exchange}
use Rattle.node_rules.specs.Facts.{Facts, view_key, list_at}
use Rattle.node_rules.specs.Notes as notes
use Rattle.node_rules.specs.Notes.{next_nth}
use Rattle.node_rules.specs.Resolving.{repl, writing, resolving, resolving_want}
use Rattle.node_rules.specs.Standing.{other_replicas}
use Rattle.node_rules.specs.Tables.{contains, only_if}
use Rattle.node_rules.specs.Transactions as transactions
use Rattle.node_rules.specs.Transactions.{Transaction, Transactions, Write, transaction}
use Rattle.cluster_rules.specs.Marks.{Writes}
use Rattle.cluster_laws.proofs.At.{number_here, no_some}
use Rattle.cluster_laws.proofs.Lists.{in_without}
use Rattle.run_laws.proofs.Reading.{reads_itself}
use Rattle.run_laws.specs.Fronts.{Front, world_of, facts_at, front_after}
use Rattle.run_laws.specs.LineOk.{IsDeclared, Resolves}
use Rattle.run_laws.specs.LineDue.{LineMay}
use Rattle.run_laws.specs.Steps.{RestsWith, Rests, Ended}
use Rattle.run_laws.proofs.Calmly.{EachPlainly, Plainly}
use Rattle.run_laws.proofs.NodeSteps.{NodeGo, Now, stands_in}
use Rattle.run_laws.specs.Spelled.{AreReadInRange}
use Rattle.run_laws.proofs.Tables.{changing_at}
use Rattle.run_laws.proofs.Words.{not_itself}
use Rattle.run_laws.proofs.Turns.{ended_but, here, away}

-- ---- a node in its view

pub view_rests : (e : Exchange) (xs ys : List Transaction) (v : View) → e.view ≡ Some v → RestsWith e xs → RestsWith e ys
view_rests e xs ys v i h = record { idle = λ none. no_some (sym none ∙ i); over = h.over }

-- a node's own line that leaves its exchange
pub own_ends : (z y : Front) (f g : Facts) (v : View) → Now z f → f.exchange.view ≡ Some v → Ended z → y.owed ≡ z.owed → y.closing ≡ z.closing → ((m : ℕ) → (f.me == m) ≡ false → facts_at y m ≡ facts_at z m) → facts_at y f.me ≡ g → g.exchange ≡ f.exchange → Ended y
own_ends z y f g v w i h o c fs is e = ended_but f.me z y (record { facts = fs; closing = λ m x. ap (λ (q : ℕ → Bool). q m) c }) h (o ∙ w.owes) (ap (λ (q : ℕ → Bool). q f.me) c ∙ w.stays)
    (subst (λ (x : Facts). Rests x) (sym is) (subst (λ (x : Exchange). RestsWith x g.transactions.running) (sym e) (view_rests f.exchange f.transactions.running g.transactions.running v i (subst (λ (x : Facts). Rests x) w.is (h.rests f.me)))))

-- ---- a write that is applied

-- the facts with the write
abbrev written_facts : Facts → Transactions → Transaction → Version → Facts
written_facts f ts t v = notes.write_applied (record f { transactions = ts }) (view_key f) (list_at f (partition_of t.digest)) t.number t.digest v

applied_is : (f : Facts) (ts : Transactions) (t : Transaction) (v : Version) → transaction ts t.number ≡ Some t
    → transaction (written_facts f ts t v).transactions t.number ≡ Some (transactions.with_write v (next_nth f (partition_of t.digest)) (other_replicas f (list_at f (partition_of t.digest))) t)
applied_is f ts t v e = changing_at ts t.number (transactions.with_write v (next_nth f (partition_of t.digest)) (other_replicas f (list_at f (partition_of t.digest)))) t.number (λ x. refl)
    ∙ ap (λ (b : Bool). cond b (option_map (transactions.with_write v (next_nth f (partition_of t.digest)) (other_replicas f (list_at f (partition_of t.digest)))) (transaction ts t.number)) (transaction ts t.number)) (number_here t.number)
    ∙ ap (option_map (transactions.with_write v (next_nth f (partition_of t.digest)) (other_replicas f (list_at f (partition_of t.digest))))) e

-- the front behind the write
record Wrote (z : Front) (f : Facts) (ts : Transactions) (t : Transaction) (v : Version) (y : Front) : Type 0 where
  now : Now y (written_facts f ts t v)
  ends : Ended y
  sent : (world_of y).network.sent ≡ (world_of z).network.sent

wrote : (z : Front) (f : Facts) (ts : Transactions) (t : Transaction) (v : Version) (u : View) → Now z (record f { transactions = ts }) → f.exchange.view ≡ Some u → Ended z → Wrote z f ts t v (front_after z (Writes (line.Apply f.me (view_key f) t.number t.digest v)))
wrote z f ts t v u w i h = record {
  now = record { is = is; stays = w.stays; owes = w.owes };
  ends = own_ends z (front_after z (Writes (line.Apply f.me (view_key f) t.number t.digest v))) (record f { transactions = ts }) (written_facts f ts t v) u w i h refl refl (λ m e. away (world_of z).facts f.me _ m e) is refl;
  sent = refl;
}
  where
    is : facts_at (front_after z (Writes (line.Apply f.me (view_key f) t.number t.digest v))) f.me ≡ written_facts f ts t v
    is = here (world_of z).facts f.me _ ∙ ap (λ (x : Facts). notes.write_applied x (view_key f) (list_at x (partition_of t.digest)) t.number t.digest v) w.is

repl_plain : (y : Front) (f : Facts) (ts : Transactions) (t : Transaction) (v : Version) (u : View) (r : ℕ) → Now y (written_facts f ts t v) → f.exchange.view ≡ Some u → transaction ts t.number ≡ Some t
    → contains (other_replicas f (list_at f (partition_of t.digest))) r ≡ true → message_of (spelling (repl f t (record { version = v; nth = next_nth f (partition_of t.digest) }))) ≡ Some (repl f t (record { version = v; nth = next_nth f (partition_of t.digest) }))
    → Plainly y f.me (r, repl f t (record { version = v; nth = next_nth f (partition_of t.digest) }))
repl_plain y f ts t v u r w i e c read = record {
  plain = refl;
  read = reads_itself _ read;
  due = record {
    stands = stands_in y (written_facts f ts t v) u w i;
    item = transactions.with_write v (next_nth f (partition_of t.digest)) (other_replicas f (list_at f (partition_of t.digest))) t;
    running = ap (λ (x : Facts). transaction x.transactions t.number) w.is ∙ applied_is f ts t v e;
    digest = refl;
    applied = refl;
    replica = ap (λ (x : Facts). contains (replicas (list_at x (partition_of t.digest)) x.factor) r) w.is ∙ in_without (replicas (list_at f (partition_of t.digest)) f.factor) f.me r c;
    other = not_itself (replicas (list_at f (partition_of t.digest)) f.factor) f.me r c;
  };
}

repls_plain : (y : Front) (f : Facts) (ts : Transactions) (t : Transaction) (v : Version) (u : View) (rs : List ℕ) → Now y (written_facts f ts t v) → f.exchange.view ≡ Some u → transaction ts t.number ≡ Some t
    → ((r : ℕ) → contains rs r ≡ true → contains (other_replicas f (list_at f (partition_of t.digest))) r ≡ true)
    → AreReadInRange (to_each rs (repl f t (record { version = v; nth = next_nth f (partition_of t.digest) }))) → EachPlainly y f.me (to_each rs (repl f t (record { version = v; nth = next_nth f (partition_of t.digest) })))
repls_plain y f ts t v u [] w i e c read = tt
repls_plain y f ts t v u (r ∷ rs) w i e c read = (repl_plain y f ts t v u r w i e (c r (sooner (r == r) (contains rs r) (number_here r))) (read.0 refl), repls_plain y f ts t v u rs w i e (λ q s. c q (later (r == q) (contains rs q) s)) read.1)
  where
    sooner : (a b : Bool) → a ≡ true → (a || b) ≡ true
    sooner a b e = grind arith

    later : (a b : Bool) → b ≡ true → (a || b) ≡ true
    later a b e = grind arith

writing_go : (z : Front) (f : Facts) (ts : Transactions) (t : Transaction) (v : Version) (u : View) → Now z (record f { transactions = ts }) → f.exchange.view ≡ Some u → Ended z → transaction ts t.number ≡ Some t
    → LineMay z (line.Apply f.me (view_key f) t.number t.digest v) → AreReadInRange (writing f (list_at f (partition_of t.digest)) t v).sends
    → NodeGo z f.me (writing f (list_at f (partition_of t.digest)) t v)
writing_go z f ts t v u w i h run ok read = go (other_replicas f (list_at f (partition_of t.digest))) refl read
  where
    first : Wrote z f ts t v
        (front_after z (Writes (line.Apply f.me (view_key f) t.number t.digest v)))
    first = wrote z f ts t v u w i h

    go : (rs : List ℕ) → other_replicas f (list_at f (partition_of t.digest)) ≡ rs → AreReadInRange (to_each rs (repl f t (record { version = v; nth = next_nth f (partition_of t.digest) })))
        → NodeGo z f.me (record { lines = line.Apply f.me (view_key f) t.number t.digest v ∷ only_if (line.Done f.me (view_key f) t.number) (is_nil rs); sends = to_each rs (repl f t (record { version = v; nth = next_nth f (partition_of t.digest) })) })
    go [] e r = record {
      due = (
        ok,
        (
          (
            first.now.owes,
            record {
              stands = stands_in (front_after z (Writes (line.Apply f.me (view_key f) t.number t.digest v))) (written_facts f ts t v) u first.now i;
              item = transactions.with_write v (next_nth f (partition_of t.digest)) (other_replicas f (list_at f (partition_of t.digest))) t;
              write = record { version = v; nth = next_nth f (partition_of t.digest) };
              running = ap (λ (x : Facts). transaction x.transactions t.number) first.now.is ∙ applied_is f ts t v run;
              applied = refl;
              acked = e;
            },
          ),
          tt,
        ),
      );
      sent = refl;
      sends = tt;
      ends = own_ends (front_after z (Writes (line.Apply f.me (view_key f) t.number t.digest v))) (front_after (front_after z (Writes (line.Apply f.me (view_key f) t.number t.digest v))) (Writes (line.Done f.me (view_key f) t.number))) (written_facts f ts t v) (notes.closed (written_facts f ts t v) t.number) u first.now i first.ends refl refl
          (λ m x. away (world_of (front_after z (Writes (line.Apply f.me (view_key f) t.number t.digest v)))).facts f.me _ m x) (here (world_of (front_after z (Writes (line.Apply f.me (view_key f) t.number t.digest v)))).facts f.me _ ∙ ap (λ (x : Facts). notes.closed x t.number) first.now.is) refl;
    }
    go (x ∷ rs) e r = record {
      due = (ok, tt);
      sent = refl;
      sends = repls_plain (front_after z (Writes (line.Apply f.me (view_key f) t.number t.digest v))) f ts t v u (x ∷ rs) first.now i run (λ q s. ap (λ (xs : List ℕ). contains xs q) e ∙ s) r;
      ends = first.ends;
    }

next_body : (o : Option Version) (c : ℕ) (b : Body) → next o c b ≡ next o c (next o c b).body
unfolding next
next_body None c b = refl
next_body (Some v) c b = refl

body_of_next : (o : Option Version) (c : ℕ) (b : Body) → (next o c b).body ≡ b
unfolding next
body_of_next None c b = refl
body_of_next (Some v) c b = refl

pub resolving_go : (z : Front) (f : Facts) (ts : Transactions) (t : Transaction) (clock : ℕ) (u : View) → Now z (record f { transactions = ts }) → f.exchange.view ≡ Some u → Ended z → transaction ts t.number ≡ Some t → t.applied ≡ None → t.awaiting ≡ []
    → clock ≡ (world_of z).clocks f.me → IsDeclared z f.me → AreReadInRange (resolving f clock (list_at f (partition_of t.digest)) t).sends → NodeGo z f.me (resolving f clock (list_at f (partition_of t.digest)) t)
resolving_go z f ts t clock u w i h run none all time declared read = go t.want refl read
  where
    resolves : Resolves z f.me (view_key f) t.number t.digest t
    resolves = record { stands = stands_in z (record f { transactions = ts }) u w i; running = ap (λ (x : Facts). transaction x.transactions t.number) w.is ∙ run; digest = refl; unapplied = none; answered = all }

    body_is : (b : Body) → (IsWant t.want → IsBody b) → IsWant t.want → IsBody (next t.best clock b).body
    body_is b fits h = subst IsBody (sym (body_of_next t.best clock b)) (fits h)

    applies : (b : Body) → (IsWant t.want → IsBody b) → LineMay z (line.Apply f.me (view_key f) t.number t.digest (next t.best clock b))
    applies b fits = (w.owes, record { applies = record { item = t; resolves = resolves; next = next_body t.best clock b ∙ ap (λ (c : ℕ). next t.best c (next t.best clock b).body) time; declared = declared }; body = body_is b fits })

    go : (q : Want) → t.want ≡ q → AreReadInRange (resolving_want f clock (list_at f (partition_of t.digest)) t q).sends → NodeGo z f.me (resolving_want f clock (list_at f (partition_of t.digest)) t q)
    go want.Get e r = record {
      due = ((w.owes, record { item = t; resolves = resolves; best = refl }), tt);
      sent = refl;
      sends = tt;
      ends = own_ends z (front_after z (Writes (line.Value f.me (view_key f) t.number t.digest t.best))) (record f { transactions = ts }) (notes.closed (record f { transactions = ts }) t.number) u w i h refl refl (λ m x. away (world_of z).facts f.me _ m x)
          (here (world_of z).facts f.me _ ∙ ap (λ (x : Facts). notes.closed x t.number) w.is) refl;
    }
    go (want.Put bytes) e r = writing_go z f ts t (next t.best clock (body.Value bytes)) u w i h run (applies (body.Value bytes) (λ h. subst IsWant e h)) r
    go want.Del e r = writing_go z f ts t (next t.best clock body.Tombstone) u w i h run (applies body.Tombstone (λ h. tt)) r

-- A request: it is refused, or its transaction opens, and asks or is resolved at once.
use Rattle.std.proofs.Common.{◌≡◌, ℕ, ◌+◌, ◌<◌, ◌==◌, Bool, true, false, cond, List, [], ◌∷◌, Option, Some, None, refl, sym, ap, ap₂, ◌∙◌, subst, arith}
use Rattle.std.specs.Prelude.{find, if◌then◌else◌}
use Rattle.conflict_order.specs.declared.policy.Policy.{Policy}
use Rattle.conflict_order.specs.declared.want.Want.{Want}
use Rattle.conflict_order.specs.Action.{action_of}
use Rattle.cluster_types.specs.Partitions.{partition_of}
use Rattle.journal_lines.specs.declared.line.Line.{Line}
use Rattle.journal_lines.specs.declared.line.Line.TheVariants as line
use Rattle.journal_lines.specs.declared.refusal.Refusal.{Refusal}
use Rattle.wire_messages.specs.declared.message.Message.TheVariants as message
use Rattle.wire_messages.specs.Requests.{IsWant}
use Rattle.wire_messages.specs.Versions.{IsDigest}
use Rattle.node_rules.specs.Effects.{Effects, to_each}
use Rattle.node_rules.specs.Exchange.{View, first_missing}
use Rattle.node_rules.specs.Facts.{Facts, view_key, list_at}
use Rattle.node_rules.specs.Notes as notes
use Rattle.node_rules.specs.Notes.{opening_transaction, request_want}
use Rattle.node_rules.specs.Requests.{view_refusal, exchange_refusal, busy_refusal, acting_refusal, refusal_after, request_refusal, asking, opening_effects, request_if, due_request}
use Rattle.node_rules.specs.Standing.{acts}
use Rattle.node_rules.specs.Transactions as transactions
use Rattle.node_rules.specs.Transactions.{Transaction, Transactions, transaction, transaction_on}
use Rattle.cluster_rules.specs.Marks.{Writes}
use Rattle.cluster_laws.proofs.At.{number_here, no_some}
use Rattle.run_laws.proofs.Reading.{reads_itself}
use Rattle.run_laws.specs.Fronts.{Front, world_of, facts_at, front_after}
use Rattle.run_laws.specs.LineOk.{IsDeclared}
use Rattle.run_laws.specs.LineDue.{LineMay, LawOf}
use Rattle.run_laws.specs.Steps.{Ended}
use Rattle.run_laws.proofs.Calmly.{EachPlainly}
use Rattle.run_laws.proofs.NodeSteps.{NodeGo, Now, stands_in}
use Rattle.run_laws.specs.Spelled.{AreReadInRange}
use Rattle.run_laws.proofs.Opened.{found_last}
use Rattle.run_laws.proofs.ResolvingSteps.{own_ends, resolving_go}
use Rattle.run_laws.proofs.Turns.{here, away}
use Rattle.journal_lines.specs.declared.refusal.Refusal.TheVariants as refusal

-- ---- what isn't refused

pub record Accepts (f : Facts) (d : List ℕ) : Type 0 where
  pub view : View
  pub is : f.exchange.view ≡ Some view
  pub acts : acts f (list_at f (partition_of d)) (partition_of d) ≡ true
  pub free : transaction_on f.transactions d ≡ None

pub accepts : (f : Facts) (d : List ℕ) → request_refusal f (list_at f (partition_of d)) d ≡ None → Accepts f d
accepts f d e = up f.up e
  where
    l : List ℕ
    l = list_at f (partition_of d)

    busy : (v : View) → f.exchange.view ≡ Some v → acts f (list_at f (partition_of d)) (partition_of d) ≡ true → (o : Option Transaction) → transaction_on f.transactions d ≡ o → busy_refusal o ≡ None → Accepts f d
    busy v i a None j q = record { view = v; is = i; acts = a; free = j }
    busy v i a (Some t) j q = no_some (sym q)

    acting : (v : View) → f.exchange.view ≡ Some v → (b : Bool) → acts f (list_at f (partition_of d)) (partition_of d) ≡ b → acting_refusal f (list_at f (partition_of d)) d b ≡ None → Accepts f d
    acting v i true a q = busy v i a (transaction_on f.transactions d) refl q
    acting v i false a q = no_some (sym q)

    rows : (v : View) → f.exchange.view ≡ Some v → (o : Option ℕ) → refusal_after f (list_at f (partition_of d)) d (exchange_refusal o) ≡ None → Accepts f d
    rows v i None q = acting v i (acts f (list_at f (partition_of d)) (partition_of d)) refl q
    rows v i (Some m) q = no_some (sym q)

    view : (o : Option View) → f.exchange.view ≡ o → refusal_after f (list_at f (partition_of d)) d (view_refusal f o) ≡ None → Accepts f d
    view None i q = no_some (sym q)
    view (Some v) i q = rows v i (first_missing f.exchange.rows v.members) q

    up : (b : Bool) → refusal_after f (list_at f (partition_of d)) d (if b then view_refusal f f.exchange.view else Some refusal.Down) ≡ None → Accepts f d
    up true q = view f.exchange.view refl q
    up false q = no_some (sym q)

-- ---- a transaction opens

above : (n : ℕ) → n < n + 1
above n = omega arith

new_runs : (by : Policy) (factor : ℕ) (f : Facts) (y : Transaction) → LawOf by factor f → y.number ≡ f.transactions.opened + 1 → transaction (transactions.opening f.transactions y) y.number ≡ Some y
new_runs by factor f y law e = found_last f.transactions.running y y.number (law.counted y.number (subst (λ (n : ℕ). f.transactions.opened < n) (sym e) (above f.transactions.opened)))
    ∙ ap (λ (b : Bool). cond b (Some y) (find (λ (x : Transaction). x.number == y.number) f.transactions.running)) (number_here y.number)

asks_plain : (y : Front) (f : Facts) (ts : Transactions) (t : Transaction) (u : View) (rs : List ℕ) → Now y (record f { transactions = ts }) → f.exchange.view ≡ Some u → transaction ts t.number ≡ Some t
    → AreReadInRange (to_each rs (message.Ask (view_key f) t.number t.digest)) → EachPlainly y f.me (to_each rs (message.Ask (view_key f) t.number t.digest))
asks_plain y f ts t u [] w i e read = tt
asks_plain y f ts t u (r ∷ rs) w i e read = (
  record {
    plain = refl;
    read = reads_itself _ (read.0 refl);
    due = record { stands = stands_in y (record f { transactions = ts }) u w i; item = t; running = ap (λ (x : Facts). transaction x.transactions t.number) w.is ∙ e; digest = refl };
  },
  asks_plain y f ts t u rs w i e read.1,
)

asking_go : (y : Front) (f : Facts) (ts : Transactions) (t : Transaction) (clock : ℕ) (u : View) → Now y (record f { transactions = ts }) → f.exchange.view ≡ Some u → Ended y → transaction ts t.number ≡ Some t → t.applied ≡ None
    → clock ≡ (world_of y).clocks f.me → IsDeclared y f.me → (rs : List ℕ) → t.awaiting ≡ rs → AreReadInRange (asking f clock (list_at f (partition_of t.digest)) t rs).sends → NodeGo y f.me (asking f clock (list_at f (partition_of t.digest)) t rs)
asking_go y f ts t clock u w i h run none time declared [] e read = resolving_go y f ts t clock u w i h run none e time declared read
asking_go y f ts t clock u w i h run none time declared (r ∷ rs) e read = record { due = tt; sent = refl; sends = asks_plain y f ts t u (r ∷ rs) w i run read; ends = h }

-- lines and then what goes from the front behind them
then_go : (z : Front) (n : ℕ) (l : Line) (e : Effects) → LineMay z l → (world_of (front_after z (Writes l))).network.sent ≡ (world_of z).network.sent → NodeGo (front_after z (Writes l)) n e → NodeGo z n (record { lines = l ∷ e.lines; sends = e.sends })
then_go z n l e ok net g = record { due = (ok, g.due); sent = g.sent ∙ net; sends = g.sends; ends = g.ends }

opening_go : (by : Policy) (factor : ℕ) (z : Front) (f : Facts) (d : List ℕ) (w : Want) (clock : ℕ) → IsDigest d → IsWant w → LawOf by factor f → Now z f → Ended z → (world_of z).want ≡ Some w → clock ≡ (world_of z).clocks f.me → IsDeclared z f.me → Accepts f d
    → AreReadInRange (opening_effects f clock (list_at f (partition_of d)) (opening_transaction f (list_at f (partition_of d)) (f.transactions.opened + 1) d w)).sends
    → NodeGo z f.me (opening_effects f clock (list_at f (partition_of d)) (opening_transaction f (list_at f (partition_of d)) (f.transactions.opened + 1) d w))
opening_go by factor z f d w clock digest fits law now h want time declared ok read = then_go z f.me (line.Opened f.me (view_key f) (f.transactions.opened + 1) d (action_of w)) (asking f clock (list_at f (partition_of d)) t t.awaiting) (
  now.owes,
  record {
    opens = record {
      stands = stands_in z f ok.view now ok.is;
      number = ap (λ (x : Facts). x.transactions.opened + 1) (sym now.is);
      acts = ap (λ (x : Facts). acts x (list_at x (partition_of d)) (partition_of d)) now.is ∙ ok.acts;
      free = ap (λ (x : Facts). transaction_on x.transactions d) now.is ∙ ok.free;
    };
    digest = digest;
    wanted = λ a. subst (λ (q : Option Want). IsWant (request_want q a)) (sym want) fits;
  },
) refl
    (asking_go y f (transactions.opening f.transactions t) t clock ok.view next ok.is ends (new_runs by factor f t law refl) refl time declared t.awaiting refl read)
  where
    t : Transaction
    t = opening_transaction f (list_at f (partition_of d)) (f.transactions.opened + 1) d w

    y : Front
    y = front_after z
        (Writes (line.Opened f.me (view_key f) (f.transactions.opened + 1) d (action_of w)))

    is : facts_at (front_after z (Writes (line.Opened f.me (view_key f) (f.transactions.opened + 1) d (action_of w)))) f.me ≡ record f { transactions = transactions.opening f.transactions (opening_transaction f (list_at f (partition_of d)) (f.transactions.opened + 1) d w) }
    is = here (world_of z).facts f.me _ ∙ ap₂ (λ (x : Facts) (q : Option Want). notes.transaction_opened x (list_at x (partition_of d)) (f.transactions.opened + 1) d (request_want q (action_of w))) now.is want

    next : Now (front_after z (Writes (line.Opened f.me (view_key f) (f.transactions.opened + 1) d (action_of w)))) (record f { transactions = transactions.opening f.transactions (opening_transaction f (list_at f (partition_of d)) (f.transactions.opened + 1) d w) })
    next = record { is = is; stays = now.stays; owes = now.owes }

    ends : Ended (front_after z (Writes (line.Opened f.me (view_key f) (f.transactions.opened + 1) d (action_of w))))
    ends = own_ends z (front_after z (Writes (line.Opened f.me (view_key f) (f.transactions.opened + 1) d (action_of w)))) f (record f { transactions = transactions.opening f.transactions (opening_transaction f (list_at f (partition_of d)) (f.transactions.opened + 1) d w) }) ok.view now ok.is h refl refl
        (λ m x. away (world_of z).facts f.me _ m x) is refl

-- ---- a request

pub request_go : (by : Policy) (factor : ℕ) (z : Front) (f : Facts) (d : List ℕ) (w : Want) (clock : ℕ) → IsDigest d → IsWant w → LawOf by factor f → Now z f → Ended z → (world_of z).want ≡ Some w → clock ≡ (world_of z).clocks f.me
    → ((u : View) → f.exchange.view ≡ Some u → IsDeclared z f.me) → AreReadInRange (due_request f clock d w).sends → NodeGo z f.me (due_request f clock d w)
request_go by factor z f d w clock digest fits law now h want time declared read = go (request_refusal f (list_at f (partition_of d)) d) refl read
  where
    go : (o : Option Refusal) → request_refusal f (list_at f (partition_of d)) d ≡ o → AreReadInRange (request_if f clock (list_at f (partition_of d)) d w o).sends → NodeGo z f.me (request_if f clock (list_at f (partition_of d)) d w o)
    go (Some cause) e r = record { due = ((now.owes, tt), tt); sent = refl; sends = tt; ends = record { owes = h.owes; stays = h.stays; rests = h.rests } }
    go None e r = let ok : Accepts f d = accepts f d e in opening_go by factor z f d w clock digest fits law now h want time (declared ok.view ok.is) ok r

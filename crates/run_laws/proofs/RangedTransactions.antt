-- Transactions keep their ranges.
use Rattle.std.proofs.Common.{ℕ, ◌+◌, ◌<◌, ◌≤◌, ◌^◌, ◌==◌, Bool, true, false, not, List, Option, Some, None, subst, arith, ⊎_elim}
use Rattle.std.specs.Prelude.{min, max}
use Rattle.conflict_order.specs.declared.policy.Policy.{Policy}
use Rattle.conflict_order.specs.declared.version.Body.{Body}
use Rattle.conflict_order.specs.declared.version.Version.{Version}
use Rattle.conflict_order.specs.Next.{next, last_generation}
use Rattle.wire_messages.specs.Versions.{IsBody, IsVersion, IsOptionVersion}
use Rattle.node_rules.specs.Tables.{changed_if}
use Rattle.node_rules.specs.Transactions as transactions
use Rattle.node_rules.specs.Transactions.{Transaction, Transactions, Write, awaits_answer, awaits_ack}
use Rattle.run_laws.specs.Ranges.{FitsApplied, FitsTransaction, FitsTransactions}
use Rattle.run_laws.proofs.Among.{Of, among_map, among_filter, among_last}
use Rattle.run_laws.proofs.RangedCopies.{join_fits}

more : (a lines : ℕ) → a ≤ lines → a ≤ lines + 1
more a lines le = omega (arith, le)

applied_more : (lines : ℕ) (o : Option Write) → FitsApplied lines o → FitsApplied (lines + 1) o
applied_more lines None h = tt
applied_more lines (Some w) h = record { above = h.above; nth = more w.nth lines h.nth; version = h.version }

pub transaction_more : (lines : ℕ) (y : Transaction) → FitsTransaction lines y → FitsTransaction (lines + 1) y
transaction_more lines y h = record { above = h.above; number = more y.number lines h.number; digest = h.digest; want = h.want; best = h.best; applied = applied_more lines y.applied h.applied }

pub transactions_more : (lines : ℕ) (ts : Transactions) → FitsTransactions lines ts → FitsTransactions (lines + 1) ts
transactions_more lines ts h = record { opened = more ts.opened lines h.opened; running = λ y a. transaction_more lines y (h.running y a) }

pub none_fit : (lines : ℕ) → FitsTransactions lines transactions.no_transactions
none_fit lines = record { opened = omega arith; running = λ y a. absurd a }

pub opening_fits : (lines : ℕ) (ts : Transactions) (y : Transaction) → FitsTransaction (lines + 1) y → FitsTransactions lines ts → FitsTransactions (lines + 1) (transactions.opening ts y)
opening_fits lines ts y new h = record {
  opened = next_one ts.opened h.opened;
  running = λ x a. ⊎_elim (λ r. transaction_more lines x (h.running x r)) (λ e. subst (FitsTransaction (lines + 1)) e new) (among_last ts.running y x a);
}
  where
    next_one : (a : ℕ) → a ≤ lines → a + 1 ≤ lines + 1
    next_one a le = omega (arith, le)

pub closing_fits : (lines : ℕ) (ts : Transactions) (t : ℕ) → FitsTransactions lines ts → FitsTransactions lines (transactions.without_transaction ts t)
closing_fits lines ts t h = record { opened = h.opened; running = λ y a. h.running y (among_filter (λ (x : Transaction). not (x.number == t)) ts.running y a).there }

pub changing_fits : (lines : ℕ) (ts : Transactions) (t : ℕ) (c : Transaction → Transaction) → ((x : Transaction) → FitsTransaction lines x → FitsTransaction lines (c x)) → FitsTransactions lines ts → FitsTransactions lines (transactions.changing ts t c)
changing_fits lines ts t c f h = record {
  opened = h.opened;
  running = λ y a. let o : Of (λ (x : Transaction). changed_if c x (x.number == t)) ts.running y = among_map (λ (x : Transaction). changed_if c x (x.number == t)) ts.running y a in
      subst (FitsTransaction lines) o.made (go o.from (h.running o.from o.there) (o.from.number == t));
}
  where
    go : (x : Transaction) → FitsTransaction lines x → (b : Bool) → FitsTransaction lines (changed_if c x b)
    go x r true = f x r
    go x r false = r

pub with_write_fits : (lines : ℕ) (v : Version) (nth : ℕ) (ns : List ℕ) (x : Transaction) → 0 < nth → nth ≤ lines → IsVersion v → FitsTransaction lines x → FitsTransaction lines (transactions.with_write v nth ns x)
with_write_fits lines v nth ns x above le fits h = record { above = h.above; number = h.number; digest = h.digest; want = h.want; best = h.best; applied = record { above = above; nth = le; version = fits } }

pub answering_fits : (lines : ℕ) (by : Policy) (ts : Transactions) (from t : ℕ) (v : Option Version) → IsOptionVersion v → FitsTransactions lines ts → FitsTransactions lines (transactions.answering by ts from t v)
answering_fits lines by ts from t v fits h = changing_fits lines ts t (λ x. changed_if (transactions.answered by from v) x (awaits_answer x from)) (λ x r. go x r (awaits_answer x from)) h
  where
    go : (x : Transaction) → FitsTransaction lines x → (b : Bool) → FitsTransaction lines (changed_if (transactions.answered by from v) x b)
    go x r true = record { above = r.above; number = r.number; digest = r.digest; want = r.want; best = join_fits by x.best v r.best fits; applied = r.applied }
    go x r false = r

pub acknowledging_fits : (lines : ℕ) (ts : Transactions) (from t : ℕ) → FitsTransactions lines ts → FitsTransactions lines (transactions.acknowledging ts from t)
acknowledging_fits lines ts from t h = changing_fits lines ts t (λ x. changed_if (transactions.acknowledged from) x (awaits_ack x from)) (λ x r. go x r (awaits_ack x from)) h
  where
    go : (x : Transaction) → FitsTransaction lines x → (b : Bool) → FitsTransaction lines (changed_if (transactions.acknowledged from) x b)
    go x r true = record { above = r.above; number = r.number; digest = r.digest; want = r.want; best = r.best; applied = r.applied }
    go x r false = r

-- ---- the version that a write makes

pub next_fits : (best : Option Version) (clock : ℕ) (b : Body) → IsOptionVersion best → clock < 2 ^ 64 → IsBody b → IsVersion (next best clock b)
unfolding next
next_fits None clock b h lt body = record { lut = lt; written = omega arith; generation = omega arith; body = body }
next_fits (Some v) clock b h lt body = record { lut = later clock v.lut lt h.lut; written = above v.generation; generation = capped v.generation; body = body }
  where
    later : (a c : ℕ) → a < 2 ^ 64 → c < 2 ^ 64 → max a c < 2 ^ 64
    later a c x y = omega (arith, x, y)

    above : (g : ℕ) → 0 < min (g + 1) last_generation
    above g = omega arith

    capped : (g : ℕ) → min (g + 1) last_generation < 2 ^ 32
    capped g = omega arith

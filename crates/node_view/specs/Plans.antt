-- What a planned step of a view makes of the facts.
use Rattle.std.specs.Prelude.{ℕ, ◌+◌, Bool, true, false, if◌then◌else◌, List, [], Option, Some, None, fold}
use Rattle.conflict_order.specs.declared.version.Version.{Version}
use Rattle.conflict_order.specs.declared.want.Want.{Want}
use Rattle.cluster_types.specs.Partitions.{partition_count, partition_of}
use Rattle.node_rules.specs.Batches.{acking}
use Rattle.node_rules.specs.Bits.{progressing}
use Rattle.node_rules.specs.Copies.{is_nil, Row}
use Rattle.node_rules.specs.Exchange.{with_row}
use Rattle.node_rules.specs.Facts.{Facts, view_key, list_at}
use Rattle.node_rules.specs.Merging.{store_merged_all}
use Rattle.node_rules.specs.Notes.{write_applied, closed, write_counted_if, dropped, exchanged, handed, learnt, merged, settled}
use Rattle.node_rules.specs.Transactions as rules
use Rattle.node_rules.specs.ViewNotes.{stamped_from}
use Rattle.node_view.specs.declared.here.Settling.{Settling}
use Rattle.node_view.specs.declared.view_step.Counted.{Counted}
use Rattle.node_view.specs.declared.view_step.Outcome.{Outcome}
use Rattle.node_view.specs.declared.view_step.Outcome.TheVariants as outcome
use Rattle.node_view.specs.declared.view_step.Replicated.{Replicated}
use Rattle.node_view.specs.declared.view_step.ViewStep.{ViewStep}
use Rattle.node_view.specs.declared.view_step.ViewStep.TheVariants as step
use Rattle.node_view.specs.declared.view_step.Writing.{Writing}

-- ---- choices

-- the one where the test holds
abbrev pub some_if : {X : Type 0} → Bool → X → Option X
some_if true x = Some x
some_if false x = None

-- the facts with the change where the test holds
abbrev pub changed_where : Bool → (Facts → Facts) → Facts → Facts
changed_where true change f = change f
changed_where false change f = f

-- ---- rows

-- copies that are empty everywhere are stamped, once the exchange is finished
abbrev pub with_stamps : Facts → Bool → Facts
with_stamps f false = f
with_stamps f true = record f {
  store = record f.store { stamps = stamped_from f (view_key f) f.store.stamps partition_count 0 };
}

-- a row came
abbrev pub facts_with_row : Facts → ℕ → Row → Facts
facts_with_row f from row = record f {
  exchange = record f.exchange { rows = with_row f.exchange.rows from row };
}

-- ---- settling

-- what a tick does about one partition
abbrev pub settled_at : Facts → Settling → Facts
settled_at f s =
    changed_where s.drops (λ g. dropped g s.partition) (changed_where s.learns
    (λ g. learnt g (view_key f) (list_at f s.partition) s.partition)
    (changed_where s.settles (λ g. settled g s.partition)
    (changed_where s.hands (λ g. handed g s.partition) f)))

-- what a tick does about partitions, in their order
abbrev pub settled_by : Facts → List Settling → Facts
settled_by f ss = fold settled_at f ss

-- ---- transactions

-- the transaction wrote that version, and is closed where nobody is to acknowledge it
abbrev pub wrote : Facts → ℕ → List ℕ → Writing → Facts
wrote f number digest w =
    if is_nil w.to
    then closed
    (write_applied f (view_key f) (list_at f (partition_of digest)) number digest w.version)
    number
    else write_applied f (view_key f) (list_at f (partition_of digest)) number digest w.version

-- the transaction on that digest was resolved
abbrev pub with_outcome : Facts → ℕ → List ℕ → Outcome → Facts
with_outcome f number digest outcome.Read = closed f number
with_outcome f number digest (outcome.Write w) = wrote f number digest w

-- the same, where it was
abbrev pub with_outcome_if : Facts → ℕ → List ℕ → Option Outcome → Facts
with_outcome_if f number digest None = f
with_outcome_if f number digest (Some o) = with_outcome f number digest o

-- the digest of the open transaction
abbrev pub transaction_digest : Option rules.Transaction → List ℕ
transaction_digest None = []
transaction_digest (Some t) = t.digest

-- an answer came
abbrev pub with_answer : Facts → ℕ → ℕ → Option Version → Facts
with_answer f from number v = record f {
  transactions = rules.answering f.store.by f.transactions from number v;
}

-- a transaction opened
abbrev pub with_opened : Facts → List ℕ → Want → Option Version → List ℕ → Facts
with_opened f digest w best asked = record f {
  transactions =
      rules.opening f.transactions
      (rules.new_transaction (f.transactions.opened + 1) digest w best asked);
}

-- ---- writes of other nodes

-- the write counts, where it has a number
abbrev pub with_count : Facts → ℕ → Option Counted → Facts
with_count f p None = f
with_count f p (Some c) = write_counted_if f (view_key f) (list_at f p) p c.nth true

-- the version came, where it was newer
abbrev pub with_newer : Facts → List ℕ → Option Version → Facts
with_newer f digest None = f
with_newer f digest (Some v) = merged f (view_key f) digest v

-- a write of another node came
abbrev pub replicated : Facts → Replicated → Facts
replicated f r = with_newer (with_count f (partition_of r.digest) r.counted) r.digest r.newer

-- ---- all steps

-- the facts after the step
abbrev pub view_taken : Facts → ViewStep → Facts
view_taken f (step.Row from row) = facts_with_row f from row
view_taken f (step.LastRow l) = exchanged (facts_with_row f l.from l.row) (view_key f)
view_taken f (step.Merged m) = record f { store = store_merged_all f.store (view_key f) m.newer }
view_taken f (step.BatchAcked from number) = record f { batches = acking f.batches from number }
view_taken f (step.Progressed p) = record f {
  bits = progressing f.bits p.from p.done p.handed p.settled;
}
view_taken f (step.Replicated r) = replicated f r
view_taken f (step.WriteAcked from number) = record f {
  transactions = rules.acknowledging f.transactions from number;
}
view_taken f (step.Done number) = closed f number
view_taken f (step.Answered from number v) = with_answer f from number v
view_taken f (step.Resolved from number v o) =
    with_outcome (with_answer f from number v) number
    (transaction_digest (rules.transaction f.transactions number)) o
view_taken f (step.Opened digest w best asked o) =
    with_outcome_if (with_opened f digest w best asked) (f.transactions.opened + 1) digest o

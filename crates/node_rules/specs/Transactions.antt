-- The transactions that are open at a node.
use Rattle.std.specs.Prelude.{ℕ, ◌+◌, ◌==◌, ◌&&◌, Bool, false, not, if◌then◌else◌, List, [], ◌∷◌, ◌++◌, Option, Some, None, find, filter, map, is_some, bytes_eq}
use Rattle.std.specs.List.{list_any}
use Rattle.conflict_order.specs.declared.policy.Policy.{Policy}
use Rattle.conflict_order.specs.declared.version.Version.{Version}
use Rattle.conflict_order.specs.declared.want.Want.{Want}
pub use Rattle.conflict_order.specs.Contents.{Write}
use Rattle.conflict_order.specs.Join.{join}
use Rattle.cluster_types.specs.Distinct.{without}
use Rattle.node_rules.specs.Copies.{is_of}
use Rattle.node_rules.specs.Tables.{changed_if, contains, is_nil}

-- a request that was accepted and isn't closed
pub record Transaction : Type 0 where
  pub number : ℕ
  pub digest : List ℕ
  pub want : Want
  -- whom it asked, in list order
  pub asked : List ℕ
  -- the join of what the node held as it opened and of the first answers of those that were asked
  pub best : Option Version
  -- before the write is applied those of the asked whose answer is missing, and afterwards those whose
  -- acknowledgement is; in list order
  pub awaiting : List ℕ
  pub applied : Option Write

-- the transactions of a view
pub record Transactions : Type 0 where
  -- how many the view has had
  pub opened : ℕ
  -- those that are open, in rising order of their numbers
  pub running : List Transaction

-- a request that is accepted now, where the node holds that version and asks those
abbrev pub new_transaction : ℕ → List ℕ → Want → Option Version → List ℕ → Transaction
new_transaction number digest want held asked = record {
  number = number;
  digest = digest;
  want = want;
  asked = asked;
  best = held;
  awaiting = asked;
  applied = None;
}

-- none was opened
abbrev pub no_transactions : Transactions
no_transactions = record { opened = 0; running = [] }

-- the open transaction of that number
abbrev pub transaction : Transactions → ℕ → Option Transaction
transaction ts number = find (λ t. t.number == number) ts.running

-- the transaction that is open on the digest
abbrev pub transaction_on : Transactions → List ℕ → Option Transaction
transaction_on ts digest = find (λ t. bytes_eq t.digest digest) ts.running

-- whether a transaction is open on the partition
abbrev pub is_busy : Transactions → ℕ → Bool
is_busy ts p = list_any (λ t. is_of p t.digest) ts.running

-- one more is opened
abbrev pub opening : Transactions → Transaction → Transactions
opening ts t = record { opened = ts.opened + 1; running = ts.running ++ t ∷ [] }

-- one is closed
abbrev pub without_transaction : Transactions → ℕ → Transactions
without_transaction ts number = record ts {
  running = filter (λ t. not (t.number == number)) ts.running;
}

-- a change of one
abbrev pub changing : Transactions → ℕ → (Transaction → Transaction) → Transactions
changing ts number change = record ts {
  running = map (λ t. changed_if change t (t.number == number)) ts.running;
}

-- the write is applied, and these are to acknowledge it
abbrev pub with_write : Version → ℕ → List ℕ → Transaction → Transaction
with_write v nth awaiting t = record t {
  applied = Some (record { version = v; nth = nth });
  awaiting = awaiting;
}

-- whether an answer of that node is awaited
abbrev pub awaits_answer : Transaction → ℕ → Bool
awaits_answer t from = not (is_some t.applied) && contains t.awaiting from

-- whether an acknowledgement of that node is awaited
abbrev pub awaits_ack : Transaction → ℕ → Bool
awaits_ack t from = is_some t.applied && contains t.awaiting from

-- an answer came from a node that is awaited
abbrev pub answered : Policy → ℕ → Option Version → Transaction → Transaction
answered by from v t = record t { best = join by t.best v; awaiting = without t.awaiting from }

-- an acknowledgement came
abbrev pub acknowledged : ℕ → Transaction → Transaction
acknowledged from t = record t { awaiting = without t.awaiting from }

-- an Answer came: it counts where it is awaited
abbrev pub answering : Policy → Transactions → ℕ → ℕ → Option Version → Transactions
answering by ts from number v =
    changing ts number (λ t. changed_if (answered by from v) t (awaits_answer t from))

-- a ReplAck came: it counts where it is awaited
abbrev pub acknowledging : Transactions → ℕ → ℕ → Transactions
acknowledging ts from number =
    changing ts number (λ t. changed_if (acknowledged from) t (awaits_ack t from))

-- whether the node is the only one that is awaited
abbrev pub is_last_awaited : Transaction → ℕ → Bool
is_last_awaited t from = is_nil (without t.awaiting from)

-- whether an acknowledgement of that node ends the transaction, if it is open: it is the only one that is awaited
abbrev pub ends_by_ack : Option Transaction → ℕ → Bool
ends_by_ack None from = false
ends_by_ack (Some t) from = awaits_ack t from && is_last_awaited t from

-- one is closed where the test holds
abbrev pub closing_if : Transactions → ℕ → Bool → Transactions
closing_if ts number b = if b then without_transaction ts number else ts

-- the number of each open transaction, and whether its write is applied
abbrev pub ends : Transactions → List (ℕ × Bool)
ends ts = map (λ t. (t.number, is_some t.applied)) ts.running

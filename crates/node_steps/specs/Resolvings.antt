-- A transaction of which all answers are there, and how it is resolved.
use Rattle.std.specs.Prelude.{◌≡◌, ℕ, ◌+◌, List, [], ◌∷◌, Option, Some, None, true, IsSome, IfSome}
use Rattle.std.specs.FinMap as finite
use Rattle.conflict_order.specs.declared.version.Version.{Version}
use Rattle.conflict_order.specs.declared.version.Body.TheVariants as body
use Rattle.conflict_order.specs.declared.want.Want.{Want}
use Rattle.conflict_order.specs.declared.want.Want.TheVariants as want
use Rattle.conflict_order.specs.Next.{next}
use Rattle.cluster_types.specs.Partitions.{partition_of}
use Rattle.wire_messages.specs.declared.message.Message.{Message}
use Rattle.wire_messages.specs.declared.message.Message.TheVariants as message
use Rattle.node_rules.specs.Effects.{Effects}
use Rattle.node_rules.specs.Facts.{Facts, list_at}
use Rattle.node_rules.specs.Requests.{asking, opening_effects}
use Rattle.node_rules.specs.Standing.{asked}
use Rattle.node_rules.specs.Notes as notes
use Rattle.node_rules.specs.Resolving as rules
use Rattle.node_rules.specs.Exchange.{members_of}
use Rattle.partition_lists.specs.Lists.{list, replicas}
use Rattle.cluster_types.specs.Distinct.{without}
use Rattle.node_view.specs.Views.{Viewed}
use Rattle.node_rules.specs.Transactions.{Transaction, awaits_answer, is_last_awaited, new_transaction, transaction}
use Rattle.node_view.specs.declared.view_step.ViewStep.{ViewStep}
use Rattle.node_view.specs.declared.view_step.ViewStep.TheVariants as step
use Rattle.node_view.specs.declared.view_step.Outcome.{Outcome}
use Rattle.node_view.specs.declared.view_step.Outcome.TheVariants as outcome
use Rattle.node_view.specs.declared.view_step.Writing.{Writing}
use Rattle.node_steps.specs.declared.resolving.Resolving.{Resolving}

-- the answer of that node is the last that the open transaction awaits
pub record AwaitsLast (f : Facts) (from number : ℕ) : Type 0 where
  pub open_one : IsSome (transaction f.transactions number)
  pub awaited : IfSome (transaction f.transactions number) (λ t. awaits_answer t from ≡ true)
  pub last : IfSome (transaction f.transactions number) (λ t. is_last_awaited t from ≡ true)

-- the transaction, at that time of the node's clock
abbrev pub resolving_of : ℕ → Transaction → Resolving
resolving_of clock t = record {
  transaction = t.number;
  digest = t.digest;
  want = t.want;
  best = t.best;
  clock = clock;
}

-- as a transaction of the rules, which awaits nobody
abbrev pub transaction_of : Resolving → Transaction
transaction_of r = new_transaction r.transaction r.digest r.want r.best []

-- what is due of it
abbrev pub due_outcome : Facts → Resolving → Effects
due_outcome f r = rules.resolving f r.clock (list_at f (partition_of r.digest)) (transaction_of r)

-- what is due of it as it opens and asks those nodes
abbrev pub due_asking : Facts → Resolving → List ℕ → Effects
due_asking f r asked = asking f r.clock (list_at f (partition_of r.digest)) (transaction_of r) asked

-- what is due of a write that makes that version
abbrev pub due_write : Facts → ℕ → List ℕ → Version → Effects
due_write f number digest v =
    rules.writing f (list_at f (partition_of digest))
    (new_transaction number digest want.Del None []) v

-- the version that a Repl carries
abbrev pub repl_version : Message → Option Version
repl_version (message.Repl key number nth digest v) = Some v
repl_version _ = None

-- the other replicas of the partition, in list order
abbrev pub others_at : Viewed → ℕ → List ℕ
others_at v p = without (replicas (list (members_of v.exchange.view) p) v.factor) v.me

-- the write of that version
abbrev pub writing_of : Viewed → ℕ → List ℕ → Version → Writing
writing_of w clock digest v = record {
  clock = clock;
  version = v;
  kept = v;
  to = others_at w (partition_of digest);
}

-- how that want is met
abbrev pub outcome_of : Viewed → Resolving → Want → Outcome
outcome_of f r want.Get = outcome.Read
outcome_of f r (want.Put bytes) =
    outcome.Write (writing_of f r.clock r.digest (next r.best r.clock (body.Value bytes)))
outcome_of f r want.Del =
    outcome.Write (writing_of f r.clock r.digest (next r.best r.clock body.Tombstone))

-- the same where it opens and asks those nodes: with nobody to ask it is resolved at once
abbrev pub outcome_if_resolved : Viewed → Resolving → List ℕ → Option Outcome
outcome_if_resolved v r [] = Some (outcome_of v r r.want)
outcome_if_resolved v r (n ∷ ns) = None

-- ---- opening

-- what opens of a request, at that time of the node's clock
abbrev pub opening_of : Facts → ℕ → List ℕ → Want → Resolving
opening_of f clock digest w = record {
  transaction = f.transactions.opened + 1;
  digest = digest;
  want = w;
  best = finite.get f.store.content digest;
  clock = clock;
}

-- whom it asks
abbrev pub asked_for : Facts → List ℕ → List ℕ
asked_for f digest = asked f (list_at f (partition_of digest)) (partition_of digest)

-- what is due of it
abbrev pub due_opening : Facts → ℕ → List ℕ → Want → Effects
due_opening f clock digest w =
    opening_effects f clock (list_at f (partition_of digest))
    (notes.opening_transaction f (list_at f (partition_of digest)) (f.transactions.opened + 1)
    digest w)

-- the step by which it opens in that view
abbrev pub opened_step : Facts → Viewed → ℕ → List ℕ → Want → ViewStep
opened_step f v clock digest w =
    step.Opened digest w (finite.get f.store.content digest) (asked_for f digest)
    (outcome_if_resolved v (opening_of f clock digest w) (asked_for f digest))

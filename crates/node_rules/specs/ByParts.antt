-- The facts of a node after a step, by its parts: what changes, and what stays.
use Rattle.std.specs.Prelude.{ℕ, ◌+◌, ◌&&◌, Bool, List, [], ◌∷◌, Option, Some, None, if◌then◌else◌, filter_map, fold, option_map}
use Rattle.conflict_order.specs.declared.version.Version.{Version}
use Rattle.conflict_order.specs.declared.version.Body.TheVariants as body
use Rattle.conflict_order.specs.declared.want.Want.{Want}
use Rattle.conflict_order.specs.declared.want.Want.TheVariants as want
use Rattle.conflict_order.specs.Next.{next}
use Rattle.cluster_types.specs.declared.cluster_key.ClusterKey.{ClusterKey}
use Rattle.cluster_types.specs.declared.member.Member.{Member}
use Rattle.cluster_types.specs.Partitions.{partition_of}
use Rattle.journal_lines.specs.declared.refusal.Refusal.{Refusal}
use Rattle.wire_messages.specs.declared.message.Batch.{Batch}
use Rattle.node_rules.specs.Agreement as agreement
use Rattle.node_rules.specs.Batches.{Targets, next_batch, sending}
use Rattle.node_rules.specs.Copies.{Content}
use Rattle.node_rules.specs.Exchange.{is_single}
use Rattle.node_rules.specs.Facts.{Facts, view_key, list_at}
use Rattle.node_rules.specs.Notes.{noted, after_ages, own_row, entered, exchanged, transaction_opened, closed, write_applied, merged, opening_transaction}
use Rattle.node_rules.specs.Settling.{settling_due}
use Rattle.node_rules.specs.Standing.{other_replicas}
use Rattle.node_rules.specs.Tick.{propose}
use Rattle.node_rules.specs.Transactions.{Transaction, answered, awaits_answer, is_last_awaited}
use Rattle.node_rules.specs.Tables.{is_nil}

-- ---- views

-- the exchange is finished under that key where the test holds
abbrev pub exchanged_if : Facts → ClusterKey → Bool → Facts
exchanged_if f key b = if b then exchanged f key else f

-- a view was entered, whose exchange is finished at once where it has one member
abbrev pub view_entered : Facts → ClusterKey → List Member → Facts
view_entered f key members =
    exchanged_if (entered f key members (own_row f)) key (is_single members)

-- a view that is proposed to nobody else was promised and entered
abbrev pub entered_alone : Facts → ClusterKey → List Member → Facts
entered_alone f key members =
    view_entered (record f { agreement = agreement.promising f.agreement key }) key members

-- ---- transactions and records

-- the transaction is closed where the test holds
abbrev pub closed_if : Facts → ℕ → Bool → Facts
closed_if f number b = if b then closed f number else f

-- the version was merged where the test says that it is newer
abbrev pub merged_if : Facts → ClusterKey → List ℕ → Version → Bool → Facts
merged_if f key digest v newer = if newer then merged f key digest v else f

-- the transaction wrote this version, and is closed where no other replica is to acknowledge it
abbrev pub with_applied_write : Facts → List ℕ → Transaction → Version → Facts
with_applied_write f l t v =
    closed_if (write_applied f (view_key f) l t.number t.digest v) t.number
    (is_nil (other_replicas f l))

-- the transaction was resolved by that want, at this time of the node's clock
abbrev pub resolved_by : Facts → ℕ → List ℕ → Transaction → Want → Facts
resolved_by f clock l t want.Get = closed f t.number
resolved_by f clock l t (want.Put bytes) =
    with_applied_write f l t (next t.best clock (body.Value bytes))
resolved_by f clock l t want.Del = with_applied_write f l t (next t.best clock body.Tombstone)

-- the transaction was resolved: a read is closed, and a write is applied. The list is that of its partition
abbrev pub resolved : Facts → ℕ → List ℕ → Transaction → Facts
resolved f clock l t = resolved_by f clock l t t.want

-- the transaction, if it is open, was resolved by this answer where no other is awaited
abbrev pub resolved_with : Facts → ℕ → ℕ → Option Version → Option Transaction → Facts
resolved_with f clock from v None = f
resolved_with f clock from v (Some t) =
    if awaits_answer t from && is_last_awaited t from
    then resolved f clock (list_at f (partition_of t.digest)) (answered f.store.by from v t)
    else f

-- the transaction has opened: with nobody to ask it was resolved at once
abbrev pub asked_or_resolved : Facts → ℕ → List ℕ → Transaction → List ℕ → Facts
asked_or_resolved f clock l t [] = resolved f clock l t
asked_or_resolved f clock l t (n ∷ ns) = f

-- a request on the digest, whose partition has that list, was refused or has opened its transaction
abbrev pub requested : Facts → ℕ → List ℕ → List ℕ → Want → Option Refusal → Facts
requested f clock l digest w (Some cause) = f
requested f clock l digest w None =
    asked_or_resolved (transaction_opened f l (f.transactions.opened + 1) digest w) clock l
    (opening_transaction f l (f.transactions.opened + 1) digest w)
    (opening_transaction f l (f.transactions.opened + 1) digest w).awaiting

-- ---- a tick

-- the batches that a tick sends, each with its receiver, in member order
abbrev pub batches_due : ClusterKey → Content → Targets → List (ℕ × Batch)
batches_due key content targets =
    filter_map (λ t. option_map (λ b. (t.node, b)) (next_batch key content t)) targets

-- these batches were sent
abbrev pub sending_all : Targets → List (ℕ × Batch) → Targets
sending_all targets bs = fold (λ ts b. sending ts b.0 b.1) targets bs

-- the facts of which the later parts of a tick are due: a view may have been entered
abbrev pub proposed_facts : Facts → Facts
proposed_facts f = noted None (after_ages f) (propose (after_ages f)).lines

-- the facts of which a tick's last part is due, of so many partitions
abbrev pub settled_facts : ℕ → Facts → Facts
settled_facts n f = noted None (proposed_facts f) (settling_due n (proposed_facts f))

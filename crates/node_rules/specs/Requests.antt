-- What is due of a node at a request, at a stop and at a start, and what it tells of its map.
use Rattle.std.specs.Prelude.{ℕ, ◌+◌, Bool, true, false, List, [], ◌∷◌, ◌++◌, Option, Some, None, Result, Ok, Err, if◌then◌else◌}
use Rattle.conflict_order.specs.declared.want.Want.{Want}
use Rattle.conflict_order.specs.Action.{action_of}
use Rattle.cluster_types.specs.declared.map_view.MapEntry.{MapEntry}
use Rattle.cluster_types.specs.Partitions.{partition_of}
use Rattle.journal_lines.specs.declared.line.Line.TheVariants as line
use Rattle.journal_lines.specs.declared.refusal.Refusal.{Refusal}
use Rattle.journal_lines.specs.declared.refusal.Refusal.TheVariants as refusal
use Rattle.wire_messages.specs.declared.message.Message.TheVariants as message
use Rattle.node_rules.specs.Effects.{Effects, lines_only, sends_only, to_each, followed_by}
use Rattle.node_rules.specs.Entering.{closing}
use Rattle.node_rules.specs.Exchange.{View, first_missing}
use Rattle.node_rules.specs.Facts.{Facts, view_key, list_at}
use Rattle.node_rules.specs.Map.{entry_of}
use Rattle.node_rules.specs.Notes.{opening_transaction}
use Rattle.node_rules.specs.Resolving.{resolving}
use Rattle.node_rules.specs.Standing.{acts, named}
use Rattle.node_rules.specs.Transactions.{Transaction, transaction_on}

-- ---- refusals

-- the exchange waits for that member
abbrev pub exchange_refusal : Option ℕ → Option Refusal
exchange_refusal None = None
exchange_refusal (Some m) = Some (refusal.Exchanging m)

-- the refusal of a node that is up, in that view
abbrev pub view_refusal : Facts → Option View → Option Refusal
view_refusal f None = Some refusal.NoView
view_refusal f (Some v) = exchange_refusal (first_missing f.exchange.rows v.members)

-- why the node has no map: it is stopped, it has no view, or it lacks a member's row, of which the
-- first in member order is named
abbrev pub map_refusal : Facts → Option Refusal
map_refusal f = if f.up then view_refusal f f.exchange.view else Some refusal.Down

-- the refusal where that transaction is open on the digest
abbrev pub busy_refusal : Option Transaction → Option Refusal
busy_refusal None = None
busy_refusal (Some t) = Some (refusal.Busy t.number)

-- the refusal of a node with a map, where the test says whether it acts
abbrev pub acting_refusal : Facts → List ℕ → List ℕ → Bool → Option Refusal
acting_refusal f l digest true = busy_refusal (transaction_on f.transactions digest)
acting_refusal f l digest false = Some (refusal.NotMaster (named f l (partition_of digest)))

-- the first refusal, or what follows where there is none
abbrev pub refusal_after : Facts → List ℕ → List ℕ → Option Refusal → Option Refusal
refusal_after f l digest (Some cause) = Some cause
refusal_after f l digest None = acting_refusal f l digest (acts f l (partition_of digest))

-- why the node refuses a request on the digest, whose partition has that list: first what keeps it
-- from having a map, then that it doesn't act on the partition, then that a transaction is open on the digest
abbrev pub request_refusal : Facts → List ℕ → List ℕ → Option Refusal
request_refusal f l digest = refusal_after f l digest (map_refusal f)

-- ---- the map

-- the entry where nothing refuses it
abbrev pub entry_if : Facts → ℕ → Option Refusal → Result MapEntry Refusal
entry_if f p (Some cause) = Err cause
entry_if f p None = Ok (entry_of (list_at f p) f.exchange.rows p)

-- who serves the partition, or why the node can't tell
abbrev pub map_entry : Facts → ℕ → Result MapEntry Refusal
map_entry f p = entry_if f p (map_refusal f)

-- ---- a request

-- nobody is asked, and the transaction is resolved at once; or each of those is asked in list order
abbrev pub asking : Facts → ℕ → List ℕ → Transaction → List ℕ → Effects
asking f clock l t [] = resolving f clock l t
asking f clock l t (n ∷ ns) =
    sends_only (to_each (n ∷ ns) (message.Ask (view_key f) t.number t.digest))

-- the transaction opens
abbrev pub opening_effects : Facts → ℕ → List ℕ → Transaction → Effects
opening_effects f clock l t =
    followed_by
    (lines_only (line.Opened f.me (view_key f) t.number t.digest (action_of t.want) ∷ []))
    (asking f clock l t t.awaiting)

-- the request where nothing refuses it
abbrev pub request_if : Facts → ℕ → List ℕ → List ℕ → Want → Option Refusal → Effects
request_if f clock l digest w (Some cause) = lines_only (line.Refused f.me digest cause ∷ [])
request_if f clock l digest w None =
    opening_effects f clock l (opening_transaction f l (f.transactions.opened + 1) digest w)

-- a request on a digest whose partition has that list: the first refusal, or the view's next transaction
abbrev pub request_at : Facts → ℕ → List ℕ → List ℕ → Want → Effects
request_at f clock l digest w = request_if f clock l digest w (request_refusal f l digest)

-- what is due of a request at this time of the node's clock
abbrev pub due_request : Facts → ℕ → List ℕ → Want → Effects
due_request f clock digest w = request_at f clock (list_at f (partition_of digest)) digest w

-- ---- a stop and a start

-- a stop closes all transactions; a stopped node stays so
abbrev pub due_stop : Facts → Effects
due_stop f =
    if f.up
    then lines_only (closing f ++ line.Stop f.me ∷ [])
    else lines_only (line.Down f.me ∷ [])

-- a start; an up node stays so
abbrev pub due_start : Facts → Effects
due_start f =
    if f.up then lines_only (line.Up f.me ∷ []) else lines_only (line.Start f.me ∷ [])

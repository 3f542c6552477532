-- What is due of a node at a tick, part by part. The number of partitions is an argument.
use Rattle.std.specs.Prelude.{ℕ, zero, suc, ◌+◌, ◌==◌, ◌&&◌, ◌||◌, Bool, true, false, not, List, [], ◌∷◌, Option, Some, None, filter, filter_map, flat_map, unwrap_or, if◌then◌else◌}
use Rattle.cluster_types.specs.declared.cluster_key.ClusterKey.{ClusterKey}
use Rattle.cluster_types.specs.declared.member.Member.{Member}
use Rattle.cluster_types.specs.MembersEqual.{same_members}
use Rattle.cluster_types.specs.Partitions.{partition_count}
use Rattle.journal_lines.specs.declared.line.Line.TheVariants as line
use Rattle.wire_messages.specs.declared.message.Batch.{Batch}
use Rattle.wire_messages.specs.declared.message.Message.{Message}
use Rattle.wire_messages.specs.declared.message.Message.TheVariants as message
use Rattle.node_rules.specs.Agreement as agreement
use Rattle.node_rules.specs.Agreement.{Proposal, next_key, has_round}
use Rattle.node_rules.specs.Batches.{next_batch}
use Rattle.node_rules.specs.Copies.{Row}
use Rattle.node_rules.specs.Effects.{Effects, nothing, lines_only, sends_only, to_each, followed_by}
use Rattle.node_rules.specs.Entering.{entering}
use Rattle.node_rules.specs.Exchange.{View}
use Rattle.node_rules.specs.Facts.{Facts, view_key}
use Rattle.node_rules.specs.Hearing.{heard_ids, all_show, is_greatest, quiet_ticks}
use Rattle.node_rules.specs.Map.{lacks, row_of_member}
use Rattle.node_rules.specs.Notes.{noted, neighbours}
use Rattle.node_rules.specs.Resolving.{repl}
use Rattle.node_rules.specs.Settling.{settling_due}
use Rattle.node_rules.specs.Standing.{others, is_done, knows_all_settled}
use Rattle.node_rules.specs.Transactions.{Transaction, Write}

-- what is due of the facts as they are
abbrev pub Part : Type 0
Part = Facts → Effects

-- parts in order, each of the facts with the lines of those before it
abbrev pub parts_in_order : List Part → Part
parts_in_order [] f = nothing
parts_in_order (part ∷ parts) f = followed_by (part f)
    (parts_in_order parts (noted None f (part f).lines))

-- ---- beat

-- a heartbeat to every other declared node, in rising order
abbrev pub beat : Part
beat f =
    sends_only (to_each f.peers
    (message.Heartbeat (view_key f) f.agreement.promised (heard_ids f.hearing.heard) f.role))

-- ---- propose

-- whether the node has no view, or the neighbours aren't its view's members
abbrev pub differs_from : List Member → Option View → Bool
differs_from set None = true
differs_from set (Some v) = not (same_members set v.members)

-- whether the neighbours are to agree on a view: the node has none, they aren't its members, or
-- another neighbour shows another view than the node's own
abbrev pub wants_view : Facts → Bool
wants_view f =
    differs_from (neighbours f) f.exchange.view || not (all_show f.me f.hearing.heard (view_key f))

-- whether the node is a candidate: the greatest of its neighbours, who have been the same for long
-- enough and are to agree on a view
abbrev pub is_candidate : Facts → Bool
is_candidate f =
    is_greatest f.me (neighbours f) && ((f.hearing.quiet == quiet_ticks) && wants_view f)

-- a proposal goes again to each member that hasn't accepted it
abbrev pub propose_again : Proposal → Effects
propose_again p = sends_only (to_each p.missing (message.Propose p.key p.members))

-- what is sent for a proposal, where there is one
abbrev pub proposal_sends : Option Proposal → List (ℕ × Message)
proposal_sends None = []
proposal_sends (Some p) = (propose_again p).sends

-- a new view is promised; without other members it is entered at once, and otherwise it is proposed
-- to each of them
abbrev pub proposal_effects : Facts → ClusterKey → List Member → List ℕ → Effects
proposal_effects f key set [] = lines_only (line.Promise f.me key ∷ entering f key set)
proposal_effects f key set (n ∷ ns) = record {
  lines = line.Promise f.me key ∷ [];
  sends = to_each (n ∷ ns) (message.Propose key set);
}

-- that proposal again, and without one a new one where the node is a candidate
abbrev pub propose_with : Facts → Option Proposal → Effects
propose_with f (Some p) = propose_again p
propose_with f None =
    if is_candidate f && has_round f.agreement
    then proposal_effects f (next_key f.me f.agreement) (neighbours f)
    (agreement.others_among f.me (neighbours f))
    else nothing

-- the proposal again, or a candidate's new one, as long as there is a round for it
abbrev pub propose : Part
propose f = propose_with f f.agreement.proposal

-- ---- rows

-- the node's own row of the view
abbrev pub own_row_in : Facts → Row
own_row_in f = unwrap_or (row_of_member f.exchange.rows f.me) []

-- the message that carries the node's own row
abbrev pub state : Facts → Bool → Message
state f wants = message.State (view_key f) wants (own_row_in f)

-- in a view, the node's row to each member whose row it lacks, which it wants
abbrev pub rows : Part
rows f = sends_only (to_each (filter (lacks f.exchange.rows) (others f)) (state f true))

-- ---- transactions

-- what is sent again for a transaction, where that write is applied
abbrev pub sends_again : Facts → Transaction → Option Write → List (ℕ × Message)
sends_again f t None = to_each t.awaiting (message.Ask (view_key f) t.number t.digest)
sends_again f t (Some w) = to_each t.awaiting (repl f t w)

-- for each open transaction, in rising order, an Ask to each that hasn't answered, or a Repl to each
-- that hasn't acknowledged, in list order
abbrev pub transactions : Part
transactions f = sends_only (flat_map (λ t. sends_again f t t.applied) f.transactions.running)

-- ---- batches

-- the message of a batch, if there is one
abbrev pub batch_to : ℕ → Option Batch → Option (ℕ × Message)
batch_to to None = None
batch_to to (Some b) = Some (to, message.Batch b)

-- for each other member, in member order, the batch that is out to it again, or a new one where
-- something is pending
abbrev pub batches : Part
batches f =
    sends_only
    (filter_map (λ t. batch_to t.node (next_batch (view_key f) f.store.content t)) f.batches)

-- ---- settling

-- hand-over, settling, learning and dropping, of so many partitions
abbrev pub settlings : ℕ → Part
settlings n f = lines_only (settling_due n f)

-- ---- progress

-- the done row of so many partitions, from one on
unfoldable pub done_from : Facts → ℕ → ℕ → List Bool
done_from f zero p = []
done_from f (suc n) p = is_done f p ∷ done_from f n (p + 1)

-- the message that tells of so many partitions how far they have come
abbrev pub progress_message : ℕ → Facts → Bool → Message
progress_message n f wants =
    message.Progress (view_key f) wants (done_from f n 0) f.bits.handed f.bits.settled

-- after the exchange, as long as some partition isn't known settled, how far they have come, to each
-- other member in member order
abbrev pub progress : ℕ → Part
progress n f =
    if f.exchange.exchanged && not (knows_all_settled f n 0)
    then sends_only (to_each (others f) (progress_message n f true))
    else nothing

-- ---- the tick

-- the line of the tick, with which ages and quiet ticks rise
abbrev pub tick : Part
tick f = lines_only (line.Tick f.me ∷ [])

-- the parts of a tick in their order
abbrev pub parts : ℕ → List Part
parts n = tick ∷ beat ∷ propose ∷ rows ∷ transactions ∷ batches ∷ settlings n ∷ progress n ∷ []

-- a tick with so many partitions; a stopped node stays so
abbrev pub tick_of : ℕ → Facts → Effects
tick_of n f = if f.up then parts_in_order (parts n) f else lines_only (line.Down f.me ∷ [])

-- what is due of a tick
abbrev pub due_tick : Facts → Effects
due_tick f = tick_of partition_count f

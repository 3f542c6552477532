-- What is due of a node that a message of agreement reaches.
use Rattle.std.specs.Prelude.{ℕ, Bool, true, false, List, Option, Some, None, if◌then◌else◌}
use Rattle.cluster_types.specs.declared.cluster_key.ClusterKey.{ClusterKey}
use Rattle.cluster_types.specs.declared.member.Member.{Member}
use Rattle.cluster_types.specs.ClusterKeys as keys
use Rattle.journal_lines.specs.declared.line.Line.TheVariants as line
use Rattle.wire_messages.specs.declared.message.Message.TheVariants as message
use Rattle.node_rules.specs.Agreement as agreement
use Rattle.node_rules.specs.Agreement.{Proposal, proposes, without_missing, others_among}
use Rattle.node_rules.specs.Effects.{Effects, nothing, lines_only, sends_only, lines_and_sends, to_each, to_one}
use Rattle.node_rules.specs.Entering.{entering}
use Rattle.node_rules.specs.Facts.{Facts}
use Rattle.node_rules.specs.Tables.{is_nil, only_if}
use Rattle.node_rules.specs.StaleMessages.{stale}

-- Propose: refused with the promised key where its key is below that; otherwise the key is promised
-- where it is above, and accepted
abbrev pub due_propose : Facts → ℕ → ClusterKey → Effects
due_propose f from key =
    if keys.key_lt key f.agreement.promised
    then sends_only (to_one from (message.Refuse key f.agreement.promised))
    else lines_and_sends
    (only_if (line.Promise f.me key) (keys.key_lt f.agreement.promised key))
    (to_one from (message.Accept key))

-- the proposal's view is entered, and a Commit goes to each other member in member order
abbrev pub commit_effects : Facts → Proposal → Effects
commit_effects f p =
    lines_and_sends (entering f p.key p.members)
    (to_each (others_among f.me p.members) (message.Commit p.key p.members))

-- an Accept, where the test says whether its key is the proposal's
abbrev pub accept_effects : Facts → ℕ → ClusterKey → Option Proposal → Bool → Effects
accept_effects f from key (Some p) true =
    if is_nil (without_missing p from).missing then commit_effects f p else nothing
accept_effects f from key (Some p) false = stale f
accept_effects f from key None b = stale f

-- Accept: stale where its key isn't proposed; once all other members have accepted, the view is
-- entered and a Commit goes to each of them in member order
abbrev pub due_accept : Facts → ℕ → ClusterKey → Effects
due_accept f from key = accept_effects f from key f.agreement.proposal
    (proposes f.agreement.proposal key)

-- Refuse: stale where its key isn't proposed
abbrev pub due_refuse : Facts → ClusterKey → Effects
due_refuse f key = if proposes f.agreement.proposal key then nothing else stale f

-- whether the node enters a committed view: its key is the promised one and above the last, and the
-- node is a member
abbrev pub may_enter_view : Facts → ClusterKey → List Member → Bool
may_enter_view f key ms = agreement.may_enter f.me f.agreement key ms

-- Commit: the view is entered, or the message is stale
abbrev pub due_commit : Facts → ClusterKey → List Member → Effects
due_commit f key ms =
    if may_enter_view f key ms then lines_only (entering f key ms) else stale f

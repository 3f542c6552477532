-- What the calls answer.
use Rattle.std.specs.Prelude.{◌≡◌, ℕ, Bool, true, false, List, [], Option, Some, None}
use Rattle.cluster_types.specs.declared.cluster_key.ClusterKey.{ClusterKey}
use Rattle.cluster_types.specs.declared.member.Member.{Member}
use Rattle.node_rules.specs.Agreement as rules
use Rattle.node_rules.specs.Agreement.{Agreement, refuses, proposes, is_accepted_with, may_enter, next_key, enters_alone, still_proposing, ticking}
use Rattle.node_rules.specs.Exchange.{is_member}
use Rattle.clustering.specs.declared.steps.ProposalStep.{ProposalStep}
use Rattle.clustering.specs.declared.steps.ProposalStep.TheVariants as proposal
use Rattle.clustering.specs.declared.steps.Vote.{Vote}
use Rattle.clustering.specs.declared.steps.Vote.TheVariants as vote
use Rattle.clustering.specs.declared.steps.AcceptStep.{AcceptStep}
use Rattle.clustering.specs.declared.steps.AcceptStep.TheVariants as accept
use Rattle.clustering.specs.declared.steps.RefuseStep.{RefuseStep}
use Rattle.clustering.specs.declared.steps.RefuseStep.TheVariants as refuse
use Rattle.clustering.specs.declared.steps.CommitStep.{CommitStep}
use Rattle.clustering.specs.declared.steps.CommitStep.TheVariants as commit

-- a proposal is sent to the members that haven't accepted it
abbrev pub sent_of : Option rules.Proposal → ProposalStep
sent_of None = proposal.Nothing
sent_of (Some p) = proposal.Send p.key p.members p.missing

-- the view is entered where the test holds, and else the proposal is sent, if there is one
abbrev pub entered_or_sent : Bool → ClusterKey → List Member → Option rules.Proposal → ProposalStep
entered_or_sent true key set p = proposal.Enter key set
entered_or_sent false key set p = sent_of p

-- a tick: a new proposal without other members is entered, and a proposal that stands afterwards is sent
abbrev pub tick_answer : ℕ → Agreement → List Member → Bool → ProposalStep
tick_answer me a set candidate =
    entered_or_sent (enters_alone me (still_proposing a set) set candidate) (next_key me a) set
    (ticking me a set candidate).proposal

-- a refusal where the test holds
abbrev pub vote_if : Bool → ClusterKey → ClusterKey → Vote
vote_if true key promised = vote.Refuse key promised
vote_if false key promised = vote.Accept key

-- a Propose of a key below the promised one is refused, and every other one accepted
abbrev pub vote_of : Agreement → ClusterKey → Vote
vote_of a key = vote_if (refuses a key) key a.promised

-- the members of a proposal
abbrev pub proposed_members : Option rules.Proposal → List Member
proposed_members None = []
proposed_members (Some p) = p.members

-- an Accept counts where its key is proposed, and with the last one the view is entered
abbrev pub accept_if : Bool → Bool → ClusterKey → List Member → AcceptStep
accept_if false accepted key members = accept.Stale
accept_if true false key members = accept.Waiting
accept_if true true key members = accept.Enter key members

-- an Accept of the key by that member
abbrev pub accept_of : Agreement → ℕ → ClusterKey → AcceptStep
accept_of a from key =
    accept_if (proposes a.proposal key) (is_accepted_with a.proposal from) key
    (proposed_members a.proposal)

-- a view that is entered with an Accept has the node among its members
abbrev pub IsEnteredBy : ℕ → AcceptStep → Type 0
IsEnteredBy me (accept.Enter key members) = is_member members me ≡ true
IsEnteredBy me _ = Unit {0}

-- a Refuse stops the proposal where the test holds
abbrev pub refuse_if : Bool → RefuseStep
refuse_if true = refuse.Stopped
refuse_if false = refuse.Stale

-- a Refuse of the key: it stops a proposal of that key alone
abbrev pub refuse_of : Agreement → ClusterKey → RefuseStep
refuse_of a key = refuse_if (proposes a.proposal key)

-- the view is entered where the test holds
abbrev pub commit_if : Bool → ClusterKey → List Member → CommitStep
commit_if true key members = commit.Enter key members
commit_if false key members = commit.Stale

-- a Commit of a view
abbrev pub commit_of : ℕ → Agreement → ClusterKey → List Member → CommitStep
commit_of me a key members = commit_if (may_enter me a key members) key members

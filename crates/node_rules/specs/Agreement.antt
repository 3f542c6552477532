-- The agreement on the next view: what was promised, what was entered, and what is proposed.
use Rattle.std.specs.Prelude.{ℕ, ◌+◌, ◌^◌, ◌&&◌, max, nat_lt, Bool, true, false, List, [], ◌∷◌, Option, Some, None, is_none, if◌then◌else◌}
use Rattle.cluster_types.specs.declared.cluster_key.ClusterKey.{ClusterKey}
use Rattle.cluster_types.specs.declared.member.Member.{Member}
use Rattle.cluster_types.specs.ClusterKeys as keys
use Rattle.cluster_types.specs.ClusterKeys.{key_lt}
use Rattle.cluster_types.specs.Distinct.{without}
use Rattle.cluster_types.specs.Members.{ids_of}
use Rattle.cluster_types.specs.MembersEqual.{same_members}
use Rattle.node_rules.specs.Keys.{same_key}
use Rattle.node_rules.specs.Exchange.{is_member}
use Rattle.node_rules.specs.Tables.{is_nil}

-- a view that the node proposes
pub record Proposal : Type 0 where
  pub key : ClusterKey
  pub members : List Member
  -- the other members that haven't accepted it, in member order
  pub missing : List ℕ

-- how far the node has come in agreeing on views
pub record Agreement : Type 0 where
  -- the key that was promised last
  pub promised : ClusterKey
  -- the key that was entered last
  pub last : ClusterKey
  pub proposal : Option Proposal
  -- the greatest round of the promised keys that others told since the start
  pub seen : ℕ

-- nothing promised and nothing entered
abbrev pub no_agreement : Agreement
no_agreement = record { promised = keys.none; last = keys.none; proposal = None; seen = 0 }

-- after a start these two keys are left
abbrev pub agreement_of : ClusterKey → ClusterKey → Agreement
agreement_of promised last = record { promised = promised; last = last; proposal = None; seen = 0 }

-- the members' ids but the node's own, in member order
abbrev pub others_among : ℕ → List Member → List ℕ
others_among me members = without (ids_of members) me

-- a proposal that nobody has accepted
abbrev pub proposal_of : ℕ → ClusterKey → List Member → Proposal
proposal_of me key members = record {
  key = key;
  members = members;
  missing = others_among me members;
}

-- whether the proposal is of that key
abbrev pub proposes : Option Proposal → ClusterKey → Bool
proposes None key = false
proposes (Some p) key = same_key p.key key

-- the node promised that key: a proposal of another key is given up
abbrev pub promising : Agreement → ClusterKey → Agreement
promising a key = record a {
  promised = key;
  proposal = if proposes a.proposal key then a.proposal else None;
}

-- the node entered the view of that key
abbrev pub agreement_entered : Agreement → ClusterKey → Agreement
agreement_entered a key = record a { last = key; proposal = None }

-- a promised key of another node was seen
abbrev pub seeing : Agreement → ClusterKey → Agreement
seeing a key = record a { seen = max a.seen key.round }

-- after a stop only the two keys are left
abbrev pub stopping : Agreement → Agreement
stopping a = record a { proposal = None; seen = 0 }

-- the member accepted
abbrev pub without_missing : Proposal → ℕ → Proposal
without_missing p from = record p { missing = without p.missing from }

-- the proposal, where there is one, after the member accepted it
abbrev pub accepted_by : Option Proposal → ℕ → Option Proposal
accepted_by None from = None
accepted_by (Some p) from = Some (without_missing p from)

-- an Accept of that key came from a member: it counts where the key is proposed
abbrev pub accepting : Agreement → ℕ → ClusterKey → Agreement
accepting a from key =
    if proposes a.proposal key then record a { proposal = accepted_by a.proposal from } else a

-- a Refuse of that key came: where the key is proposed, the proposal is given up
abbrev pub refused : Agreement → ClusterKey → Agreement
refused a key = if proposes a.proposal key then record a { proposal = None } else a

-- a Propose was sent: its view is proposed from the first one on
abbrev pub proposing : Agreement → ℕ → ClusterKey → List Member → Agreement
proposing a me key members =
    if proposes a.proposal key
    then a
    else record a { proposal = Some (proposal_of me key members) }

-- the greatest round among the promised key and all keys that were seen since the start
abbrev pub seen_round : Agreement → ℕ
seen_round a = max a.promised.round a.seen

-- the key of a new proposal
abbrev pub next_key : ℕ → Agreement → ClusterKey
next_key me a = record { round = seen_round a + 1; principal = me }

-- whether there is a round for a new proposal
abbrev pub has_round : Agreement → Bool
has_round a = nat_lt (seen_round a + 1) (2 ^ 48)

-- whether the proposal is of just these members
abbrev pub proposes_set : Option Proposal → List Member → Bool
proposes_set None set = false
proposes_set (Some p) set = same_members p.members set

-- a tick at which the neighbours are these: a proposal of other members is given up
abbrev pub still_proposing : Agreement → List Member → Agreement
still_proposing a set = record a {
  proposal = if proposes_set a.proposal set then a.proposal else None;
}

-- ---- what the messages and a tick do

-- whether a Propose of the key is refused: the node has promised a greater one
abbrev pub refuses : Agreement → ClusterKey → Bool
refuses a key = key_lt key a.promised

-- a Propose of the key came: it is promised where it is above the promised one
abbrev pub voting : Agreement → ClusterKey → Agreement
voting a key = if key_lt a.promised key then promising a key else a

-- whether every other member has accepted the proposal, that one counted
abbrev pub is_accepted_with : Option Proposal → ℕ → Bool
is_accepted_with None from = false
is_accepted_with (Some p) from = is_nil (without_missing p from).missing

-- an Accept of that key came from a member: with the last one of a proposal its view is entered
abbrev pub counting : Agreement → ℕ → ClusterKey → Agreement
counting a from key =
    if proposes a.proposal key && is_accepted_with a.proposal from
    then agreement_entered (accepting a from key) key
    else accepting a from key

-- whether a committed view is entered: its key is the promised one and above the last, and the node is a member
abbrev pub may_enter : ℕ → Agreement → ClusterKey → List Member → Bool
may_enter me a key members = same_key key a.promised && (key_lt a.last key && is_member members me)

-- a Commit came: its view is entered, or nothing changes
abbrev pub committing : ℕ → Agreement → ClusterKey → List Member → Agreement
committing me a key members = if may_enter me a key members then agreement_entered a key else a

-- a Refuse of that key came, with the key that its sender promised
abbrev pub refusing : Agreement → ClusterKey → ClusterKey → Agreement
refusing a key promised = seeing (refused a key) promised

-- whether a node proposes anew: it proposes nothing, is a candidate, and there is a round
abbrev pub proposes_anew : Agreement → Bool → Bool
proposes_anew a candidate = is_none a.proposal && (candidate && has_round a)

-- whether a new proposal is entered at once: it has no other members
abbrev pub enters_alone : ℕ → Agreement → List Member → Bool → Bool
enters_alone me a set candidate = proposes_anew a candidate && is_nil (others_among me set)

-- a view of that key and these members is proposed to the others; without others it is entered at once
abbrev pub proposing_to : ℕ → Agreement → ClusterKey → List Member → List ℕ → Agreement
proposing_to me a key set [] = agreement_entered (promising a key) key
proposing_to me a key set (n ∷ ns) = proposing (promising a key) me key set

-- a candidate proposes these members, where it proposes nothing and there is a round
abbrev pub proposing_anew : ℕ → Agreement → List Member → Bool → Agreement
proposing_anew me a set candidate =
    if proposes_anew a candidate
    then proposing_to me a (next_key me a) set (others_among me set)
    else a

-- a tick at which the neighbours are these, and the node is a candidate or not
abbrev pub ticking : ℕ → Agreement → List Member → Bool → Agreement
ticking me a set candidate = proposing_anew me (still_proposing a set) set candidate

-- How a node stands to views: its agreement, the view that it is in, and how long it has been quiet.
use Rattle.std.specs.Prelude.{ℕ, Bool, true, false, List, [], ◌∷◌, Option, Some, None}
use Rattle.cluster_types.specs.declared.cluster_key.ClusterKey.{ClusterKey}
use Rattle.cluster_types.specs.declared.member.Member.{Member}
use Rattle.wire_messages.specs.declared.message.Message.{Message}
use Rattle.wire_messages.specs.declared.message.Message.TheVariants as message
use Rattle.node_rules.specs.Agreement as agreement
use Rattle.node_rules.specs.Agreement.{Agreement, Proposal, proposes, without_missing, may_enter, next_key, others_among}
use Rattle.node_rules.specs.Copies.{is_nil}
use Rattle.node_rules.specs.Exchange.{View}
use Rattle.node_rules.specs.Facts.{Facts}

pub record Stance : Type 0 where
  pub agreement : Agreement
  pub view : Option View
  pub quiet : ℕ

abbrev pub stance_of : Facts → Stance
stance_of f = record { agreement = f.agreement; view = f.exchange.view; quiet = f.hearing.quiet }

-- the node enters a view
abbrev pub enters_view : Stance → ClusterKey → List Member → Stance
enters_view s key ms = record {
  agreement = agreement.agreement_entered s.agreement key;
  view = Some (record { key = key; members = ms });
  quiet = 0;
}

abbrev pub enters_if : Stance → ClusterKey → List Member → Bool → Stance
enters_if s key ms true = enters_view s key ms
enters_if s key ms false = s

-- an Accept of a member, where that proposal stood, and the test says whether it is of it
abbrev pub counts : Stance → ℕ → Option Proposal → Bool → Stance
counts s from None b = s
counts s from (Some p) false = s
counts s from (Some p) true = enters_if s p.key p.members (is_nil (without_missing p from).missing)

-- what a message makes of it
abbrev pub turned : ℕ → Stance → ℕ → Message → Stance
turned me s from (message.Heartbeat view promised hears role) = record s {
  agreement = agreement.seeing s.agreement promised;
}
turned me s from (message.Propose key ms) = record s {
  agreement = agreement.voting s.agreement key;
}
turned me s from (message.Accept key) =
    counts (record s { agreement = agreement.accepting s.agreement from key }) from
    s.agreement.proposal (proposes s.agreement.proposal key)
turned me s from (message.Refuse key promised) = record s {
  agreement = agreement.refusing s.agreement key promised;
}
turned me s from (message.Commit key ms) = enters_if s key ms (may_enter me s.agreement key ms)
turned me s from _ = s

-- ---- a tick

-- a new view is promised, and entered at once where there are no others
abbrev pub promises_to : Stance → ClusterKey → List Member → List ℕ → Stance
promises_to s key set [] =
    enters_view (record s { agreement = agreement.promising s.agreement key }) key set
promises_to s key set (n ∷ ns) = record s { agreement = agreement.promising s.agreement key }

-- and is proposed to the others
abbrev pub proposes_to : ℕ → Stance → ClusterKey → List Member → List ℕ → Stance
proposes_to me s key set [] =
    enters_view (record s { agreement = agreement.promising s.agreement key }) key set
proposes_to me s key set (n ∷ ns) = record s {
  agreement = agreement.proposing (agreement.promising s.agreement key) me key set;
}

abbrev pub promises_if : ℕ → Stance → List Member → Bool → Stance
promises_if me s set true = promises_to s (next_key me s.agreement) set (others_among me set)
promises_if me s set false = s

abbrev pub proposes_if : ℕ → Stance → List Member → Bool → Stance
proposes_if me s set true = proposes_to me s (next_key me s.agreement) set (others_among me set)
proposes_if me s set false = s

-- the lines of a tick, where that proposal stands, and the test says whether a new one is made otherwise
abbrev pub promises : ℕ → Stance → List Member → Option Proposal → Bool → Stance
promises me s set None b = promises_if me s set b
promises me s set (Some p) b = s

-- the tick
abbrev pub ticks : ℕ → Stance → List Member → Option Proposal → Bool → Stance
ticks me s set None b = proposes_if me s set b
ticks me s set (Some p) b = s

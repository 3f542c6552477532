-- What the helpers of a tick and of an Accept make of the keys.
use Rattle.std.specs.Prelude.{ℕ, Bool, true, false, List, [], ◌∷◌, Option, Some, None, if◌then◌else◌}
use Rattle.cluster_types.specs.declared.member.Member.{Member}
use Rattle.node_rules.specs.Agreement as rules
use Rattle.node_rules.specs.Agreement.{Agreement, agreement_entered, proposing_to}
use Rattle.node_rules.specs.Copies.{is_nil}
use Rattle.clustering.specs.declared.stage.Keys.{Keys}
use Rattle.clustering.specs.declared.stage.Proposing.{Proposing}
use Rattle.clustering.specs.declared.steps.ProposalStep.{ProposalStep}
use Rattle.clustering.specs.Agreeing.{Agreeing}
use Rattle.clustering.specs.Answers.{entered_or_sent}
use Rattle.clustering.specs.Stages.{agreement_with, stage_proposal}

-- the node of these keys has come as far as this
abbrev pub agreeing_with : Keys → Agreement → Agreeing
agreeing_with k a = record { me = k.me; agreement = a }

-- the view of the promised key was entered
abbrev pub entered_from : Keys → Agreeing
entered_from k = agreeing_with k (agreement_entered (agreement_with k None) k.promised)

-- these members are proposed to those others under the promised key
abbrev pub agreeing_if_alone : Keys → List Member → List ℕ → Agreeing
agreeing_if_alone k set to =
    agreeing_with k (proposing_to k.me (agreement_with k None) k.promised set to)

-- what is said of that
abbrev pub answer_if_alone : Keys → List Member → List ℕ → ProposalStep
answer_if_alone k set to =
    entered_or_sent (is_nil to) k.promised set (Some (rules.proposal_of k.me k.promised set))

-- the proposal's view is entered where all have accepted it
abbrev pub agreeing_if_accepted : Proposing → Bool → Agreeing
agreeing_if_accepted s accepted =
    agreeing_with s.keys
    (if accepted
    then agreement_entered (agreement_with s.keys (Some (stage_proposal s))) s.keys.promised
    else agreement_with s.keys (Some (stage_proposal s)))

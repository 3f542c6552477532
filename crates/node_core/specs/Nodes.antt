-- A node's fields as the rules know them.
use Rattle.std.specs.Prelude.{◌≡◌, All, Contains, IsSome, option_map}
use Rattle.std.specs.Option.{ForSome}
use Rattle.node_rules.specs.Facts.{Facts}
use Rattle.node_rules.specs.Hearing.{heard_ids}
use Rattle.node_rules.specs.Steps.{Planning}
use Rattle.node_steps.specs.declared.planned.Planned.{Planned}
use Rattle.node_core.specs.declared.node.Node.TheInside.{Inside}
use Rattle.node_steps.specs.Fits.{FitsPlanned}
use Rattle.node_core.specs.Peers.{ArePeers, IsFactor}
use Rattle.node_steps.specs.Plans.{next_of, taken}
use Rattle.node_steps.specs.Ranges.{HasRanges}
use Rattle.node_view.specs.Views.{IsNodeInView, store_of}
use Rattle.node_steps.specs.Grounds.{facts_with}

-- what a node knows
abbrev pub node_facts : Inside → Facts
node_facts n =
    facts_with n.me n.peers n.factor n.role n.up n.hearing.hearing n.agree.agreement
    (store_of n.store) (option_map (λ v. v.value) n.view)

-- what a node knows now, and after the step that it planned
abbrev pub planning_of : Inside → Planning
planning_of n = record { now = node_facts n; next = next_of (node_facts n) n.planned }

-- the parts of a node agree with each other
pub record PartsAgree (n : Inside) : Type 0 where
  pub peers : ArePeers n.me n.peers
  pub factor : IsFactor n.factor
  pub hearing : n.hearing.me ≡ n.me
  pub heard : All (λ m. Contains n.peers m) (heard_ids n.hearing.hearing.heard)
  pub role : n.hearing.role ≡ n.role
  pub agree : n.agree.me ≡ n.me
  pub by : n.store.by ≡ n.by
  pub view : ForSome n.view (λ v. IsNodeInView (node_facts n) v.value n.store)
  pub in_one : ForSome n.view (λ v. IsSome v.value.exchange.view)
  pub ranges : HasRanges (node_facts n)

-- the step was planned from these facts, and what a node sends after it has a spelling
pub record IsPlannedFrom (f : Facts) (p : Planned) : Type 0 where
  pub fits : FitsPlanned f p
  pub ranges : HasRanges (taken f p)

-- the planned step, if there is one, fits what the node knows
abbrev pub FitsPlan : Inside → Type 0
FitsPlan n = ForSome n.planned (IsPlannedFrom (node_facts n))

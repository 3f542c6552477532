-- What the parts of a tick see of a node, as the rules know it.
use Rattle.std.specs.Prelude.{◌≡◌, ℕ, List, [], Bool, true, Option, Some, None, IsSome}
use Rattle.std.specs.Borrow.{Bor}
use Rattle.std.specs.Option.{ForSome}
use Rattle.conflict_order.specs.declared.policy.Policy.TheVariants.{Time}
use Rattle.cluster_types.specs.Members.{plain_role}
use Rattle.cluster_types.specs.declared.member.Role.{Role}
use Rattle.clustering.specs.Agreeing.{Agreeing}
use Rattle.heartbeat.specs.Adjacent.{Adjacent}
use Rattle.node_rules.specs.Agreement.{Agreement}
use Rattle.node_rules.specs.Copies.{Store}
use Rattle.node_rules.specs.Facts.{Facts, fresh}
use Rattle.node_rules.specs.Hearing.{Hearing}
use Rattle.node_steps.specs.declared.ground.Ground.TheInside as ground
use Rattle.node_view.specs.declared.view.View.{View}
use Rattle.node_steps.specs.Ranges.{HasRanges}
use Rattle.node_view.specs.Views.{IsViewOf, Viewed, store_of, with_view}

-- what facts have of that view, or of none; all else in these is of no node
abbrev pub of_view : Option Viewed → Facts
of_view view = with_view (fresh 0 plain_role [] 0 Time) view

-- the facts with that view or with none, field by field: what no view has is seen of the facts alone
abbrev pub with_view_fields : Facts → Option Viewed → Facts
with_view_fields f view = record f {
  exchange = (of_view view).exchange;
  writes = (of_view view).writes;
  transactions = (of_view view).transactions;
  batches = (of_view view).batches;
  bits = (of_view view).bits;
}

-- a node of these parts, in that view or in none
abbrev pub facts_with : ℕ → List ℕ → ℕ → Role → Bool → Hearing → Agreement → Store → Option Viewed
    → Facts
facts_with me peers factor role up hearing agreement store view =
    with_view_fields (record (fresh me role peers factor store.by)
    { peers = peers; up = up; hearing = hearing; agreement = agreement; store = store }) view

-- the view that is lent, if one is
abbrev pub lent : Option (Bor View) → Option Viewed
lent None = None
lent (Some v) = Some v.now

-- what the parts of a tick see, of a node that runs
abbrev pub ground_facts : ground.Inside → Facts
ground_facts g =
    facts_with g.me g.peers.now g.factor g.role Bool.true g.hearing.now.hearing
    g.agree.now.agreement (store_of g.store.now) (lent g.view)

-- what the parts of a tick see agrees: of a node in that view, where it is in one
pub record AgreesOnGround (g : ground.Inside) : Type 0 where
  pub hearing : g.hearing.now.me ≡ g.me
  pub agree : g.agree.now.me ≡ g.me
  pub view : ForSome g.view (λ v. IsViewOf (ground_facts g) v.now)
  pub in_one : ForSome g.view (λ v. IsSome v.now.exchange.view)
  pub ranges : HasRanges (ground_facts g)

-- the node with that hearing and agreement, in that view or in none
abbrev pub grounded : Facts → Adjacent → Agreeing → Option (Bor View) → Facts
grounded f hearing agree view =
    with_view_fields (record f { hearing = hearing.hearing; agreement = agree.agreement })
    (lent view)

-- that hearing, agreement and view are those of the node, which runs
pub record IsGroundOf (f : Facts) (hearing : Adjacent) (agree : Agreeing) (view : Option (Bor View))
    : Type 0 where
  pub up : f.up ≡ true
  pub hearing_of : hearing.me ≡ f.me
  pub agree_of : agree.me ≡ f.me
  pub view_of : ForSome view (λ v. IsViewOf (grounded f hearing agree view) v.now)
  pub in_one : ForSome view (λ v. IsSome v.now.exchange.view)
  pub ranges : HasRanges (grounded f hearing agree view)

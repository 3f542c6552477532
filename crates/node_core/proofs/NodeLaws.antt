-- A node and the view that it is in.
use Rattle.std.proofs.Common.{◌≡◌, ◌<◌, ◌^◌, ℕ, true, List, Option, Some, None, IsSome, refl, ap, subst, ◌∙◌}
use Rattle.std.specs.Global.{Box}
use Rattle.cluster_types.specs.declared.member.Role.{Role}
use Rattle.node_rules.specs.Notes.{started, with_role}
use Rattle.node_rules.specs.Steps.{Planning, unplanned}
use Rattle.node_view.specs.declared.list_cache.ListCache.{ListCache}
use Rattle.node_view.specs.declared.view.View.{View}
use Rattle.node_rules.specs.Facts.{Facts}
use Rattle.node_view.specs.declared.view_step.ViewStep.{ViewStep}
use Rattle.node_view.specs.declared.view_step.ViewStep.TheVariants as step
use Rattle.node_view.specs.Views.{IsViewOf, Viewed}
use Rattle.std.specs.Option.{ForSome}
use Rattle.node_view.specs.Rooms as view_rooms
use Rattle.node_steps.specs.Viewing as viewing
use Rattle.node_core.specs.declared.node.Node.TheInside.{Inside}
use Rattle.node_steps.specs.declared.planned.Planned.{Planned}
use Rattle.node_steps.specs.declared.planned.Planned.TheVariants as planned
use Rattle.std.specs.Prelude.{option_map}
use Rattle.node_steps.specs.Fits.{FitsPlanned}
use Rattle.node_core.specs.Nodes.{PartsAgree, FitsPlan, IsPlannedFrom, node_facts, planning_of}
use Rattle.node_steps.specs.Grounds.{of_view}
use Rattle.node_steps.specs.Plans.{next_of, taken}
use Rattle.node_steps.specs.Ranges.{HasRanges}
use Rattle.node_steps.proofs.RangeLaws.{role_ranges, started_ranges}
use Rattle.node_core.specs.Rooms.{HasRoomForPlan}
use Rattle.node_steps.specs.Rooms.{HasRoomForStep, NeedsNoRoom}
use Rattle.node_steps.proofs.SeenLaws.{none_for, some_for, node_unseen}

-- a node with another plan is the same node
agrees_planned : (n : Inside) (p : Option Planned) → PartsAgree n
    → PartsAgree (record n { planned = p })
agrees_planned n p h = record {
  peers = h.peers;
  factor = h.factor;
  hearing = h.hearing;
  heard = h.heard;
  role = h.role;
  agree = h.agree;
  by = h.by;
  view = h.view;
  in_one = h.in_one;
  ranges = h.ranges;
}

view_without_room : (v : Viewed) (spare : List ℕ) (s : ViewStep) → viewing.NeedsNoRoom s → view_rooms.HasRoomIn v spare s
view_without_room v spare (step.Row from row) h = tt
view_without_room v spare (step.LastRow l) h = tt
view_without_room v spare (step.Merged m) h = absurd h
view_without_room v spare (step.BatchAcked from number) h = tt
view_without_room v spare (step.Progressed p) h = tt
view_without_room v spare (step.Replicated r) h = absurd h
view_without_room v spare (step.WriteAcked from number) h = tt
view_without_room v spare (step.Done number) h = tt
view_without_room v spare (step.Answered from number w) h = tt
view_without_room v spare (step.Resolved from number w o) h = absurd h
view_without_room v spare (step.Opened digest w best asked o) h = absurd h

without_room : (v : Viewed) (spare : List ℕ) (p : Planned) → NeedsNoRoom p
    → HasRoomForStep v spare p
without_room v spare planned.Nothing h = tt
without_room v spare (planned.Tick t) h = tt
without_room v spare (planned.Agreed agree entered) h = tt
without_room v spare (planned.Heard from beat) h = tt
without_room v spare (planned.View s) h = view_without_room v spare s.value h
without_room v spare planned.Stopped h = tt

abbrev pub IsNode : Inside → Type 0
IsNode n = PartsAgree n × FitsPlan n × HasRoomForPlan n

-- what was planned is given up
pub given_up : (n : Inside) → PartsAgree n → IsNode (record n { planned = None })
given_up n h = (agrees_planned n None h, none_for (IsPlannedFrom (node_facts n)), none_for (λ p. ForSome n.view (λ v. HasRoomForStep v.value n.store.spare p)))

-- other lists are kept
pub listed : (n : Inside) (lists : ListCache) → IsNode n → IsNode (record n { lists = lists })
listed n lists h = (
  record {
    peers = h.0.peers;
    factor = h.0.factor;
    hearing = h.0.hearing;
    heard = h.0.heard;
    role = h.0.role;
    agree = h.0.agree;
    by = h.0.by;
    view = h.0.view;
    in_one = h.0.in_one;
    ranges = h.0.ranges;
  },
  h.1,
  h.2,
)

-- a step is planned that fits and needs no room
pub planned_so : (n : Inside) (p : Planned) → PartsAgree n → FitsPlanned (node_facts n) p → HasRanges (taken (node_facts n) p) → NeedsNoRoom p → IsNode (record n { planned = Some p })
planned_so n p h fits ranges room =
    let made : IsPlannedFrom (node_facts n) p = record { fits = fits; ranges = ranges } in (
      agrees_planned n (Some p) h,
      some_for (IsPlannedFrom (node_facts n)) p made,
      some_for (λ q. ForSome n.view (λ v. HasRoomForStep v.value n.store.spare q)) p (λ v e. without_room v.value n.store.spare p room),
    )

-- the node has another role
pub with_other_role : (n : Inside) (role : Role) → role.rack < 2 ^ 8 → PartsAgree n
    → n.planned ≡ None
    → IsNode (record n { role = role; hearing = record n.hearing { role = role } })
with_other_role n role rack h unplanned = (
  record {
    peers = h.peers;
    factor = h.factor;
    hearing = h.hearing;
    heard = h.heard;
    role = refl;
    agree = h.agree;
    by = h.by;
    view = λ v e. node_unseen (node_facts n) (with_role (node_facts n) role) v.value n.store (h.view v e);
    in_one = h.in_one;
    ranges = role_ranges (node_facts n) role rack h.ranges;
  },
  λ p e. cc,
  λ p e. cc,
)

-- the node runs
pub that_runs : (n : Inside) → PartsAgree n → n.planned ≡ None → IsNode (record n { up = true })
that_runs n h unplanned = (
  record {
    peers = h.peers;
    factor = h.factor;
    hearing = h.hearing;
    heard = h.heard;
    role = h.role;
    agree = h.agree;
    by = h.by;
    view = λ v e. node_unseen (node_facts n) (started (node_facts n)) v.value n.store (h.view v e);
    in_one = h.in_one;
    ranges = started_ranges (node_facts n) h.ranges;
  },
  λ p e. cc,
  λ p e. cc,
)

-- a node that is in a view has one
pub in_view : (n : Inside) (v : Box View) → PartsAgree n → n.view ≡ Some v → IsViewOf (node_facts n) v.value
in_view n v h e = (h.view v e).view

-- ---- what is seen of a node

pub none_planned : (f : Facts) (o : Option Planned) → next_of f o ≡ None → o ≡ None
none_planned f None e = refl
none_planned f (Some p) e = cc

-- a node of which nothing is planned
pub is_unplanned : (n : Inside) (old : Facts) → planning_of n ≡ unplanned old → n.planned ≡ None
is_unplanned n old h = none_planned (node_facts n) n.planned (ap (λ (p : Planning). p.next) h)

pub unplanned_view : (n : Inside) (new : Facts) → n.planned ≡ None → node_facts n ≡ new → planning_of n ≡ unplanned new
unplanned_view n new none same =
    ap (λ (o : Option Planned). let p : Planning = record { now = node_facts n; next = next_of (node_facts n) o } in p) none ∙ ap unplanned same

-- the node that is seen has no plan
pub has_no_plan : (n : Inside) (seen : Planning) → planning_of n ≡ seen → seen.next ≡ None → n.planned ≡ None
has_no_plan n seen is none = none_planned (node_facts n) n.planned (ap (λ (p : Planning). p.next) is ∙ none)

-- a node that is in no view isn't in one
pub in_no_view : (n : Inside) → n.view ≡ None → IsSome (node_facts n).exchange.view → ⊥
in_no_view n e some =
    let none : IsSome (of_view (option_map (λ (w : Box View). w.value) None)).exchange.view =
    subst (λ (o : Option (Box View)). IsSome (of_view (option_map (λ (w : Box View). w.value) o)).exchange.view) e some in
    cc

-- A node that makes room for a transaction.
use Rattle.std.proofs.Common.{◌≡◌, Option, Some, None, refl, sym, ap, ap₂, subst, ◌∙◌}
use Rattle.std.specs.Global.{Box}
use Rattle.std.specs.Option.{ForSome}
use Rattle.std.specs.Prelude.{IsSome, option_map}
use Rattle.record_store.specs.Store as held
use Rattle.record_store.specs.Store.{HoldsTheSame}
use Rattle.node_rules.specs.Exchange.{Exchange}
use Rattle.node_rules.specs.Facts.{Facts}
use Rattle.node_rules.specs.Steps.{planning}
use Rattle.node_view.specs.declared.view_step.ViewStep.{ViewStep}
use Rattle.node_view.specs.declared.view.View.{View}
use Rattle.node_view.specs.Fits.{FitsStep}
use Rattle.node_view.specs.Plans as plans
use Rattle.node_view.specs.Rooms as view_rooms
use Rattle.node_view.specs.Views.{IsNodeInView, IsSame, Viewed, store_of}
use Rattle.node_core.specs.declared.node.Node.TheInside.{Inside}
use Rattle.node_steps.specs.declared.planned.Planned.{Planned}
use Rattle.node_steps.specs.declared.planned.Planned.TheVariants as planned
use Rattle.node_core.specs.Nodes.{PartsAgree, IsPlannedFrom, node_facts, planning_of}
use Rattle.node_steps.specs.Grounds.{facts_with}
use Rattle.node_steps.specs.Ranges.{HasRanges}
use Rattle.node_steps.specs.Rooms.{HasRoomForStep}
use Rattle.node_core.proofs.NodeLaws.{IsNode, in_view}
use Rattle.node_steps.proofs.SeenLaws.{some_for}
use Rattle.node_steps.proofs.ViewLaws.{exchange_is}
use Rattle.node_steps.proofs.WritingLaws.{node_alike}

-- ---- room is made

-- the node with other room in its store and its view, and with that plan
abbrev pub with_room : Inside → held.StoreWithRoom → Box View → Option Planned → Inside
with_room n s w p = record n { store = s; view = Some w; planned = p }

pub facts_with_room : (n : Inside) (v w : Box View) (s : held.StoreWithRoom) (p : Option Planned) → n.view ≡ Some v → IsSame v.value w.value → HoldsTheSame n.store s
    → node_facts (with_room n s w p) ≡ node_facts n
facts_with_room n v w s p e same holds =
    let with_parts : Option Viewed → Facts = λ o. facts_with n.me n.peers n.factor n.role n.up n.hearing.hearing n.agree.agreement (store_of n.store) o in
    let alike : node_facts (with_room n s w p) ≡ with_parts (Some v.value) =
    rw (same.alike.exchange, same.alike.writes, same.alike.transactions, same.alike.batches, same.alike.bits, holds.versions, holds.stamps, holds.policy) refl in
    alike ∙ ap (λ (o : Option (Box View)). with_parts (option_map (λ (x : Box View). x.value) o)) (sym e)

agrees_with_room : (n : Inside) (v w : Box View) (s : held.StoreWithRoom) (p : Option Planned) → PartsAgree n → n.view ≡ Some v → IsSame v.value w.value → HoldsTheSame n.store s → PartsAgree (with_room n s w p)
agrees_with_room n v w s p h e same holds =
    let facts = facts_with_room n v w s p e same holds in
    let m : Inside = with_room n s w p in
    record {
      peers = h.peers;
      factor = h.factor;
      hearing = h.hearing;
      heard = h.heard;
      role = h.role;
      agree = h.agree;
      by = holds.policy ∙ h.by;
      view = some_for (λ (x : Box View). IsNodeInView (node_facts m) x.value s) w
          (subst (λ (f : Facts). IsNodeInView f w.value s) (sym facts) (node_alike (node_facts n) v.value w.value n.store s same holds (h.view v e)));
      in_one = some_for (λ (x : Box View). IsSome x.value.exchange.view) w (subst (λ (x : Exchange). IsSome x.view) (sym same.alike.exchange) (h.in_one v e));
      ranges = subst HasRanges (sym facts) h.ranges;
    }

-- nothing is planned yet
pub room_alone : (n : Inside) (v w : Box View) (s : held.StoreWithRoom) → PartsAgree n → n.planned ≡ None → n.view ≡ Some v → IsSame v.value w.value → HoldsTheSame n.store s
    → IsNode (with_room n s w n.planned)
room_alone n v w s h unplanned e same holds = (
  agrees_with_room n v w s n.planned h e same holds,
  λ p i. cc,
  λ p i. cc,
)

-- the node is in the view that it has
pub in_its_view : (n : Inside) (v : Box View) → PartsAgree n → n.view ≡ Some v → IsSome (node_facts n).exchange.view
in_its_view n v h e = subst (λ (x : Exchange). IsSome x.view) (exchange_is (node_facts n) v.value (in_view n v h e).viewed) (h.in_one v e)

-- a step is planned for which there is room
pub room_and_step : (n : Inside) (v w : Box View) (s : held.StoreWithRoom) (p : Box ViewStep) → PartsAgree n → n.view ≡ Some v → IsSame v.value w.value → HoldsTheSame n.store s
    → FitsStep (node_facts n) p.value → HasRanges (plans.view_taken (node_facts n) p.value) → view_rooms.HasRoomIn w.value s.spare p.value → IsNode (with_room n s w (Some (planned.View p)))
room_and_step n v w s p h e same holds fits ranges room =
    let m : Inside = with_room n s w (Some (planned.View p)) in
    let facts = facts_with_room n v w s (Some (planned.View p)) e same holds in
    let made : IsPlannedFrom (node_facts n) (planned.View p) = record { fits = record { step = fits; in_one = in_its_view n v h e }; ranges = ranges } in (
      agrees_with_room n v w s (Some (planned.View p)) h e same holds,
      some_for (IsPlannedFrom (node_facts m)) (planned.View p) (subst (λ (f : Facts). IsPlannedFrom f (planned.View p)) (sym facts) made),
      some_for (λ (q : Planned). ForSome (Some w) (λ (x : Box View). HasRoomForStep x.value s.spare q)) (planned.View p)
          (some_for (λ (x : Box View). HasRoomForStep x.value s.spare (planned.View p)) w room),
    )

pub step_planned : (n : Inside) (v w : Box View) (s : held.StoreWithRoom) (p : Box ViewStep) (f g : Facts) → n.view ≡ Some v → IsSame v.value w.value → HoldsTheSame n.store s
    → node_facts n ≡ f → plans.view_taken f p.value ≡ g → planning_of (with_room n s w (Some (planned.View p))) ≡ planning f g
step_planned n v w s p f g e same holds is taken =
    ap₂ planning (facts_with_room n v w s (Some (planned.View p)) e same holds ∙ is)
    (ap (λ (x : Facts). plans.view_taken x p.value) (facts_with_room n v w s (Some (planned.View p)) e same holds ∙ is) ∙ taken)

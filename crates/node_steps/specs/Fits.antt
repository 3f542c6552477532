-- What a planned step says of the facts that it was planned from. Its commit goes by that, beside the room.
use Rattle.std.specs.Prelude.{◌≡◌, ◌≢◌, ℕ, Contains, Option, Some, IsSome, option_map}
use Rattle.std.specs.Global.{Box}
use Rattle.std.specs.Option.{ForSome}
use Rattle.heartbeat.specs.Adjacent.{HasRoomFor}
use Rattle.clustering.specs.Agreeing.{Agreeing}
use Rattle.node_rules.specs.ByParts.{batches_due}
use Rattle.node_rules.specs.Facts.{Facts, view_key}
use Rattle.node_view.specs.declared.view.View.{View}
use Rattle.node_view.specs.declared.view_step.ViewStep.{ViewStep}
use Rattle.node_view.specs.Fits.{AreNext, AreSettlings}
use Rattle.node_view.specs.Fits as view
use Rattle.node_view.specs.Plans as plans
use Rattle.node_view.specs.Views.{BecomesNodeOf, IsViewOf, Viewed, with_view}
use Rattle.record_store.specs.Store as held
use Rattle.node_steps.specs.declared.planned.Planned.{Planned}
use Rattle.node_steps.specs.declared.planned.Planned.TheVariants as planned
use Rattle.node_steps.specs.declared.planned.Ticked.{Ticked}
use Rattle.node_steps.specs.Plans.{with_aged_hearing, agreed}
use Rattle.node_steps.specs.Ranges.{HasRanges}

-- a view that is entered is the node's
pub record IsNewView (f : Facts) (v : Viewed) : Type 0 where
  pub view : IsViewOf (with_view f (Some v)) v
  pub in_one : IsSome v.exchange.view

-- the same, where one is
abbrev pub FitsEntered : Facts → Option (Box View) → Type 0
FitsEntered f entered = ForSome entered (λ v. IsNewView f v.value)

-- the facts of which the later parts of a planned tick are due
abbrev pub ticked_facts : Facts → Ticked → Facts
ticked_facts f t = agreed (with_aged_hearing f) t.agree.agreement
    (option_map (λ v. v.value) t.entered)

-- the tick is the node's: it enters a view of its own, and settles and sends what is due
pub record FitsTick (f : Facts) (t : Ticked) : Type 0 where
  pub agree : t.agree.me ≡ f.me
  pub entered : FitsEntered f t.entered
  pub ranges : HasRanges (ticked_facts f t)
  pub settlings : AreSettlings (ticked_facts f t) t.settlings.items
  pub batches : t.batches.items
      ≡ batches_due (view_key (ticked_facts f t)) f.store.content (ticked_facts f t).batches
  pub next : AreNext (ticked_facts f t).exchange.exchanged (view_key (ticked_facts f t))
      (ticked_facts f t).batches t.batches.items

-- the agreement is the node's, and so is the view
pub record FitsAgreed (f : Facts) (agree : Agreeing) (entered : Option (Box View)) : Type 0 where
  pub agree_of : agree.me ≡ f.me
  pub view : FitsEntered f entered

-- there is a place for the heartbeat of another node
pub record FitsBeat (f : Facts) (from : ℕ) : Type 0 where
  pub other : from ≢ f.me
  pub peer : Contains f.peers from
  pub room : HasRoomFor from f.hearing

-- the step of a view is one of the node's, which is in one
pub record FitsView (f : Facts) (s : ViewStep) : Type 0 where
  pub step : view.FitsStep f s
  pub in_one : IsSome f.exchange.view

-- the step was planned from these facts
abbrev pub FitsPlanned : Facts → Planned → Type 0
FitsPlanned f (planned.Tick t) = FitsTick f t.value
FitsPlanned f (planned.Agreed agree entered) = FitsAgreed f agree.value entered
FitsPlanned f (planned.Heard from beat) = FitsBeat f from
FitsPlanned f (planned.View s) = FitsView f s.value
FitsPlanned f _ = Unit {0}

-- the view and the store that were before the step, and those after it
pub record HasStepped (old : Option (Box View)) (before : held.StoreWithRoom) (s : ViewStep)
    (new : Option (Box View)) (after : held.StoreWithRoom) : Type 0 where
  pub in_one : IsSome new
  pub becomes : (v w : Box View) → old ≡ Some v → new ≡ Some w
      → (f : Facts) → BecomesNodeOf f v.value before (plans.view_taken f s) w.value after

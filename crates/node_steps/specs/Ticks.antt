-- A tick, part by part, as it is planned.
use Rattle.std.specs.Prelude.{◌≡◌, ℕ, List, [], ◌∷◌, Option, None, IsSome, option_map}
use Rattle.std.specs.Global.{Box}
use Rattle.std.specs.Option.{ForSome}
use Rattle.cluster_types.specs.declared.cluster_key.ClusterKey.{ClusterKey}
use Rattle.cluster_types.specs.declared.member.Member.{Member}
use Rattle.cluster_types.specs.Partitions.{partition_count}
use Rattle.clustering.specs.Agreeing.{Agreeing}
use Rattle.clustering.specs.Answers.{tick_answer}
use Rattle.clustering.specs.declared.steps.ProposalStep.{ProposalStep}
use Rattle.clustering.specs.declared.steps.ProposalStep.TheVariants as proposal
use Rattle.heartbeat.specs.Adjacent.{Adjacent}
use Rattle.node_rules.specs.Agreement.{ticking}
use Rattle.node_rules.specs.ByParts.{batches_due}
use Rattle.node_rules.specs.Facts.{Facts, view_key}
use Rattle.node_rules.specs.Notes.{neighbours, noted}
use Rattle.node_rules.specs.Settling.{settling_due}
use Rattle.node_rules.specs.Tick.{Part, batches, is_candidate, progress, rows, settlings, transactions}
use Rattle.node_steps.specs.declared.planned.Ticked.{Ticked}
use Rattle.node_view.specs.declared.view.View.{View}
use Rattle.node_steps.specs.Plans as plans
use Rattle.node_view.specs.Fits.{AreNext, AreSettlings}
use Rattle.node_view.specs.Plans.{settled_by}
use Rattle.node_view.specs.Views.{IsEntered}

-- the parts after the agreement
abbrev pub later_parts : ℕ → List Part
later_parts n = rows ∷ transactions ∷ batches ∷ settlings n ∷ progress n ∷ []

-- the facts of which these are due: a view may have been entered
abbrev pub agreed : Facts → Adjacent → Agreeing → Option (Box View) → Facts
agreed f hearing agree entered =
    plans.agreed (record f { hearing = hearing.hearing }) agree.agreement
    (option_map (λ v. v.value) entered)

-- a tick of the neighbours leads to that agreement and says that of the proposal
pub record IsProposed (f : Facts) (agree : Agreeing) (answer : ProposalStep) : Type 0 where
  pub agreement : agree.agreement ≡ ticking f.me f.agreement (neighbours f) (is_candidate f)
  pub answered : answer ≡ tick_answer f.me f.agreement (neighbours f) (is_candidate f)

-- that view is entered by a node of these facts
pub record HasEntered (f : Facts) (key : ClusterKey) (members : List Member)
    (entered : Option (Box View)) : Type 0 where
  pub some : IsSome entered
  pub view : ForSome entered (λ v. IsEntered f key members v.value)

-- a view is entered exactly where the proposal says so
abbrev pub EntersBy : Facts → ProposalStep → Option (Box View) → Type 0
EntersBy f (proposal.Enter key members) entered = HasEntered f key members entered
EntersBy f (proposal.Send key members to) entered = entered ≡ None
EntersBy f proposal.Nothing entered = entered ≡ None

-- what the later parts plan of a tick
pub record TicksFrom (f : Facts) (hearing : Adjacent) (agree : Agreeing)
    (entered : Option (Box View)) (t : Ticked) : Type 0 where
  pub agreed_on : t.agree ≡ agree
  pub view : t.entered ≡ entered
  pub batches : t.batches.items ≡ batches_due (view_key (agreed f hearing agree entered))
      f.store.content (agreed f hearing agree entered).batches
  pub next : AreNext (agreed f hearing agree entered).exchange.exchanged
      (view_key (agreed f hearing agree entered)) (agreed f hearing agree entered).batches
      t.batches.items
  pub due : AreSettlings (agreed f hearing agree entered) t.settlings.items
  pub settled : settled_by (agreed f hearing agree entered) t.settlings.items
      ≡ noted None (agreed f hearing agree entered)
      (settling_due partition_count (agreed f hearing agree entered))

use Rattle.std.proofs.Common.{◌≡◌, ◌++◌, ◌∷◌, [], ℕ, List, Option, true, Contains, sym, ap, ap₂, subst, ◌∙◌}
use Rattle.std.specs.Global.{Box}
use Rattle.cluster_types.specs.declared.member.Member.{Member}
use Rattle.cluster_types.specs.Members.{ids_of}
use Rattle.cluster_types.specs.Partitions.{partition_count}
use Rattle.clustering.specs.Agreeing.{Agreeing}
use Rattle.clustering.specs.declared.steps.ProposalStep.{ProposalStep}
use Rattle.heartbeat.specs.Adjacent.{Adjacent}
use Rattle.journal_lines.specs.declared.line.Line.{Line}
use Rattle.journal_lines.specs.declared.line.Line.TheVariants as line
use Rattle.node_rules.specs.Effects as rules
use Rattle.node_rules.specs.Facts.{Facts}
use Rattle.node_rules.specs.Hearing.{neighbours_of, ticked}
use Rattle.node_rules.specs.Notes.{after_ages, neighbours}
use Rattle.node_rules.specs.Steps.{Planning, after_tick, planning}
use Rattle.node_rules.specs.Tick as tick
use Rattle.node_rules.specs.Tick.{due_tick, parts_in_order, propose}
use Rattle.node_view.specs.declared.view.View.{View}
use Rattle.node_steps.specs.declared.effects.Effects.{Effects}
use Rattle.node_steps.specs.declared.planned.Planned.TheVariants as planned
use Rattle.node_steps.specs.declared.planned.Ticked.{Ticked}
use Rattle.node_steps.specs.Counts.{HaveNumbers}
use Rattle.node_steps.specs.Fits.{FitsAgreed, FitsTick}
use Rattle.node_core.specs.Nodes.{node_facts}
use Rattle.node_steps.specs.Grounds.{lent}
use Rattle.node_steps.specs.Plans.{taken}
use Rattle.node_steps.specs.Ranges.{HasRanges}
use Rattle.node_steps.specs.Spelled.{then_effects, spelled}
use Rattle.node_steps.specs.Ticks.{IsProposed, TicksFrom, agreed, later_parts}
use Rattle.node_core.proofs.PlannedTickLaws.{IsTicking, beats_so, candidate_so, entered_fits, later_count, later_fit, on_err, pending_so, proposed_so, stands_so, taken_fits, tick_fits, tick_told, ticked_is}
use Rattle.node_core.proofs.CopyLaws.{heard_so}
use Rattle.node_steps.proofs.CandidateLaws.{itself_among}
use Rattle.node_steps.proofs.RangeLaws.{keys_of, ranges_agreed}
use Rattle.node_steps.proofs.TickingLaws.{agreeing_with, ground_in_own, ground_own, lent_view}
use Rattle.node_core.proofs.node.Node.tick.Goals as goal

pub ground-before-requires : goal.ground-before-requires
ground-before-requires c =
    let f : Facts = c.give_up.new.self.now in
    let hearing : Adjacent = c.tick-set.new.self in
    let heard : hearing ≡ record { me = f.me; role = f.role; hearing = ticked f.me f.role f.hearing } =
    heard_so c.self.inside c.give_up.new.self c.copy-hearing.result hearing c.self.view_is c.self.invariant.0.hearing c.self.invariant.0.role c.copy-hearing.ensures c.tick-set.ensures.ticked in
    let ranges : HasRanges f = subst (λ (p : Planning). HasRanges p.now) c.self.view_is c.self.invariant.0.ranges in
    let up : f.up ≡ true = ap (λ (p : Planning). p.now.up) c.give_up.ensures ∙ c.requires.up in
    ground_in_own f hearing c.self.inside.agree c.own_view.result c.own_view.ensures.some c.own_view.ensures.none c.own_view.ensures.view up
    (ap (λ (x : Adjacent). x.me) heard) (c.self.invariant.0.agree ∙ ap (λ (p : Planning). p.now.me) c.self.view_is)
    (ranges_agreed f hearing.hearing c.self.inside.agree.agreement ranges (keys_of (node_facts c.self.inside) c.self.invariant.0.ranges))

pub on_tick-agree-requires : goal.on_tick-agree-requires
on_tick-agree-requires c =
    let f : Facts = c.give_up.new.self.now in
    let hearing : Adjacent = c.tick-set.new.self in
    let heard : hearing ≡ record { me = f.me; role = f.role; hearing = ticked f.me f.role f.hearing } =
    heard_so c.self.inside c.give_up.new.self c.copy-hearing.result hearing c.self.view_is c.self.invariant.0.hearing c.self.invariant.0.role c.copy-hearing.ensures c.tick-set.ensures.ticked in
    let ranges : HasRanges f = subst (λ (p : Planning). HasRanges p.now) c.self.view_is c.self.invariant.0.ranges in
    let set : c.tick-set.result ≡ neighbours (after_ages f) = c.tick-set.ensures.set ∙ ap (λ (x : Adjacent). neighbours_of x.me x.role x.hearing.heard) heard in
    let own : c.copy.result.me ≡ f.me = ap (λ (x : Agreeing). x.me) c.copy.ensures ∙ c.self.invariant.0.agree ∙ ap (λ (p : Planning). p.now.me) c.self.view_is in
    subst (λ (n : ℕ). Contains (ids_of c.tick-set.result) n) (sym own)
    (subst (λ (ms : List Member). Contains (ids_of ms) f.me) (sym set) (itself_among f.me f.role (ticked f.me f.role f.hearing).heard))

pub propose-requires : goal.propose-requires
propose-requires c =
    let f : Facts = c.give_up.new.self.now in
    let hearing : Adjacent = c.tick-set.new.self in
    let heard : hearing ≡ record { me = f.me; role = f.role; hearing = ticked f.me f.role f.hearing } =
    heard_so c.self.inside c.give_up.new.self c.copy-hearing.result hearing c.self.view_is c.self.invariant.0.hearing c.self.invariant.0.role c.copy-hearing.ensures c.tick-set.ensures.ticked in
    let ranges : HasRanges f = subst (λ (p : Planning). HasRanges p.now) c.self.view_is c.self.invariant.0.ranges in
    let agreed_on : c.self.inside.agree.agreement ≡ f.agreement = ap (λ (p : Planning). p.now.agreement) c.self.view_is in
    let seen : c.ground-before.result ≡ agreeing_with f hearing.hearing c.self.inside.agree.agreement =
    c.ground-before.ensures ∙ ground_own f hearing.hearing c.self.inside.agree.agreement (lent c.own_view.result) (lent_view f c.own_view.result c.own_view.ensures.none c.own_view.ensures.view) in
    let set : c.tick-set.result ≡ neighbours (after_ages f) = c.tick-set.ensures.set ∙ ap (λ (x : Adjacent). neighbours_of x.me x.role x.hearing.heard) heard in
    let own : c.copy.result.me ≡ f.me = ap (λ (x : Agreeing). x.me) c.copy.ensures ∙ c.self.invariant.0.agree ∙ ap (λ (p : Planning). p.now.me) c.self.view_is in
    let proposed : IsProposed (after_ages f) c.on_tick-agree.result.0 c.on_tick-agree.result.1 =
    proposed_so f c.copy.result c.on_tick-agree.result.0 c.on_tick-agree.result.1 c.tick-set.result c.is_candidate-candidate.result own
    (ap (λ (x : Agreeing). x.agreement) c.copy.ensures ∙ agreed_on) set
    (c.is_candidate-candidate.ensures ∙ candidate_so f c.ground-before.result hearing c.self.inside.agree.agreement seen heard)
    c.on_tick-agree.ensures.agree c.on_tick-agree.ensures.answer in
    proposed

pub plan_rest-requires-clause-counts : goal.plan_rest-requires-clause-counts
plan_rest-requires-clause-counts c =
    let f : Facts = c.give_up.new.self.now in
    let hearing : Adjacent = c.tick-set.new.self in
    let heard : hearing ≡ record { me = f.me; role = f.role; hearing = ticked f.me f.role f.hearing } =
    heard_so c.self.inside c.give_up.new.self c.copy-hearing.result hearing c.self.view_is c.self.invariant.0.hearing c.self.invariant.0.role c.copy-hearing.ensures c.tick-set.ensures.ticked in
    let ranges : HasRanges f = subst (λ (p : Planning). HasRanges p.now) c.self.view_is c.self.invariant.0.ranges in
    let agreed_on : c.self.inside.agree.agreement ≡ f.agreement = ap (λ (p : Planning). p.now.agreement) c.self.view_is in
    let seen : c.ground-before.result ≡ agreeing_with f hearing.hearing c.self.inside.agree.agreement =
    c.ground-before.ensures ∙ ground_own f hearing.hearing c.self.inside.agree.agreement (lent c.own_view.result) (lent_view f c.own_view.result c.own_view.ensures.none c.own_view.ensures.view) in
    let set : c.tick-set.result ≡ neighbours (after_ages f) = c.tick-set.ensures.set ∙ ap (λ (x : Adjacent). neighbours_of x.me x.role x.hearing.heard) heard in
    let own : c.copy.result.me ≡ f.me = ap (λ (x : Agreeing). x.me) c.copy.ensures ∙ c.self.invariant.0.agree ∙ ap (λ (p : Planning). p.now.me) c.self.view_is in
    let proposed : IsProposed (after_ages f) c.on_tick-agree.result.0 c.on_tick-agree.result.1 =
    proposed_so f c.copy.result c.on_tick-agree.result.0 c.on_tick-agree.result.1 c.tick-set.result c.is_candidate-candidate.result own
    (ap (λ (x : Agreeing). x.agreement) c.copy.ensures ∙ agreed_on) set
    (c.is_candidate-candidate.ensures ∙ candidate_so f c.ground-before.result hearing c.self.inside.agree.agreement seen heard)
    c.on_tick-agree.ensures.agree c.on_tick-agree.ensures.answer in
    let agree : Agreeing = c.on_tick-agree.result.0 in
    let answer : ProposalStep = c.on_tick-agree.result.1 in
    let entered : Option (Box View) = c.in_ok-entered.entered in
    let h : IsTicking f hearing agree answer entered = record {
      heard = heard;
      agrees = ap (λ (x : Agreeing). x.me) c.on_tick-agree.ensures.agree ∙ own;
      proposed = proposed;
      enters = c.in_ok-entered.ensures.view;
    } in
    let back : c.give_up.new.self ≡ c.propose.new.self = sym c.propose.ensures.same in
    let numbers : HaveNumbers f = subst (λ (p : Planning). HaveNumbers p.now) (sym c.give_up.ensures) c.requires.counts in
    subst (λ (p : Planning). HaveNumbers (agreed p.now hearing agree entered)) back (later_count f hearing agree answer entered h numbers)

pub plan_rest-requires-clause-view : goal.plan_rest-requires-clause-view
plan_rest-requires-clause-view c =
    let f : Facts = c.give_up.new.self.now in
    let hearing : Adjacent = c.tick-set.new.self in
    let heard : hearing ≡ record { me = f.me; role = f.role; hearing = ticked f.me f.role f.hearing } =
    heard_so c.self.inside c.give_up.new.self c.copy-hearing.result hearing c.self.view_is c.self.invariant.0.hearing c.self.invariant.0.role c.copy-hearing.ensures c.tick-set.ensures.ticked in
    let ranges : HasRanges f = subst (λ (p : Planning). HasRanges p.now) c.self.view_is c.self.invariant.0.ranges in
    let agreed_on : c.self.inside.agree.agreement ≡ f.agreement = ap (λ (p : Planning). p.now.agreement) c.self.view_is in
    let seen : c.ground-before.result ≡ agreeing_with f hearing.hearing c.self.inside.agree.agreement =
    c.ground-before.ensures ∙ ground_own f hearing.hearing c.self.inside.agree.agreement (lent c.own_view.result) (lent_view f c.own_view.result c.own_view.ensures.none c.own_view.ensures.view) in
    let set : c.tick-set.result ≡ neighbours (after_ages f) = c.tick-set.ensures.set ∙ ap (λ (x : Adjacent). neighbours_of x.me x.role x.hearing.heard) heard in
    let own : c.copy.result.me ≡ f.me = ap (λ (x : Agreeing). x.me) c.copy.ensures ∙ c.self.invariant.0.agree ∙ ap (λ (p : Planning). p.now.me) c.self.view_is in
    let proposed : IsProposed (after_ages f) c.on_tick-agree.result.0 c.on_tick-agree.result.1 =
    proposed_so f c.copy.result c.on_tick-agree.result.0 c.on_tick-agree.result.1 c.tick-set.result c.is_candidate-candidate.result own
    (ap (λ (x : Agreeing). x.agreement) c.copy.ensures ∙ agreed_on) set
    (c.is_candidate-candidate.ensures ∙ candidate_so f c.ground-before.result hearing c.self.inside.agree.agreement seen heard)
    c.on_tick-agree.ensures.agree c.on_tick-agree.ensures.answer in
    let agree : Agreeing = c.on_tick-agree.result.0 in
    let answer : ProposalStep = c.on_tick-agree.result.1 in
    let entered : Option (Box View) = c.in_ok-entered.entered in
    let h : IsTicking f hearing agree answer entered = record {
      heard = heard;
      agrees = ap (λ (x : Agreeing). x.me) c.on_tick-agree.ensures.agree ∙ own;
      proposed = proposed;
      enters = c.in_ok-entered.ensures.view;
    } in
    let back : c.give_up.new.self ≡ c.propose.new.self = sym c.propose.ensures.same in
    subst (λ (p : Planning). FitsAgreed p.now agree entered) back (entered_fits f hearing agree answer entered h)

pub plan_rest-requires-clause-ranges : goal.plan_rest-requires-clause-ranges
plan_rest-requires-clause-ranges c =
    let f : Facts = c.give_up.new.self.now in
    let hearing : Adjacent = c.tick-set.new.self in
    let heard : hearing ≡ record { me = f.me; role = f.role; hearing = ticked f.me f.role f.hearing } =
    heard_so c.self.inside c.give_up.new.self c.copy-hearing.result hearing c.self.view_is c.self.invariant.0.hearing c.self.invariant.0.role c.copy-hearing.ensures c.tick-set.ensures.ticked in
    let ranges : HasRanges f = subst (λ (p : Planning). HasRanges p.now) c.self.view_is c.self.invariant.0.ranges in
    let agreed_on : c.self.inside.agree.agreement ≡ f.agreement = ap (λ (p : Planning). p.now.agreement) c.self.view_is in
    let seen : c.ground-before.result ≡ agreeing_with f hearing.hearing c.self.inside.agree.agreement =
    c.ground-before.ensures ∙ ground_own f hearing.hearing c.self.inside.agree.agreement (lent c.own_view.result) (lent_view f c.own_view.result c.own_view.ensures.none c.own_view.ensures.view) in
    let set : c.tick-set.result ≡ neighbours (after_ages f) = c.tick-set.ensures.set ∙ ap (λ (x : Adjacent). neighbours_of x.me x.role x.hearing.heard) heard in
    let own : c.copy.result.me ≡ f.me = ap (λ (x : Agreeing). x.me) c.copy.ensures ∙ c.self.invariant.0.agree ∙ ap (λ (p : Planning). p.now.me) c.self.view_is in
    let proposed : IsProposed (after_ages f) c.on_tick-agree.result.0 c.on_tick-agree.result.1 =
    proposed_so f c.copy.result c.on_tick-agree.result.0 c.on_tick-agree.result.1 c.tick-set.result c.is_candidate-candidate.result own
    (ap (λ (x : Agreeing). x.agreement) c.copy.ensures ∙ agreed_on) set
    (c.is_candidate-candidate.ensures ∙ candidate_so f c.ground-before.result hearing c.self.inside.agree.agreement seen heard)
    c.on_tick-agree.ensures.agree c.on_tick-agree.ensures.answer in
    let agree : Agreeing = c.on_tick-agree.result.0 in
    let answer : ProposalStep = c.on_tick-agree.result.1 in
    let entered : Option (Box View) = c.in_ok-entered.entered in
    let h : IsTicking f hearing agree answer entered = record {
      heard = heard;
      agrees = ap (λ (x : Agreeing). x.me) c.on_tick-agree.ensures.agree ∙ own;
      proposed = proposed;
      enters = c.in_ok-entered.ensures.view;
    } in
    let back : c.give_up.new.self ≡ c.propose.new.self = sym c.propose.ensures.same in
    subst (λ (p : Planning). HasRanges (agreed p.now hearing agree entered)) back (later_fit f hearing agree answer entered h ranges)

pub plan-requires-clause-fits : goal.plan-requires-clause-fits
plan-requires-clause-fits c =
    let f : Facts = c.give_up.new.self.now in
    let hearing : Adjacent = c.tick-set.new.self in
    let heard : hearing ≡ record { me = f.me; role = f.role; hearing = ticked f.me f.role f.hearing } =
    heard_so c.self.inside c.give_up.new.self c.copy-hearing.result hearing c.self.view_is c.self.invariant.0.hearing c.self.invariant.0.role c.copy-hearing.ensures c.tick-set.ensures.ticked in
    let ranges : HasRanges f = subst (λ (p : Planning). HasRanges p.now) c.self.view_is c.self.invariant.0.ranges in
    let agreed_on : c.self.inside.agree.agreement ≡ f.agreement = ap (λ (p : Planning). p.now.agreement) c.self.view_is in
    let seen : c.ground-before.result ≡ agreeing_with f hearing.hearing c.self.inside.agree.agreement =
    c.ground-before.ensures ∙ ground_own f hearing.hearing c.self.inside.agree.agreement (lent c.own_view.result) (lent_view f c.own_view.result c.own_view.ensures.none c.own_view.ensures.view) in
    let set : c.tick-set.result ≡ neighbours (after_ages f) = c.tick-set.ensures.set ∙ ap (λ (x : Adjacent). neighbours_of x.me x.role x.hearing.heard) heard in
    let own : c.copy.result.me ≡ f.me = ap (λ (x : Agreeing). x.me) c.copy.ensures ∙ c.self.invariant.0.agree ∙ ap (λ (p : Planning). p.now.me) c.self.view_is in
    let proposed : IsProposed (after_ages f) c.on_tick-agree.result.0 c.on_tick-agree.result.1 =
    proposed_so f c.copy.result c.on_tick-agree.result.0 c.on_tick-agree.result.1 c.tick-set.result c.is_candidate-candidate.result own
    (ap (λ (x : Agreeing). x.agreement) c.copy.ensures ∙ agreed_on) set
    (c.is_candidate-candidate.ensures ∙ candidate_so f c.ground-before.result hearing c.self.inside.agree.agreement seen heard)
    c.on_tick-agree.ensures.agree c.on_tick-agree.ensures.answer in
    let agree : Agreeing = c.on_tick-agree.result.0 in
    let answer : ProposalStep = c.on_tick-agree.result.1 in
    let entered : Option (Box View) = c.in_ok-entered.entered in
    let h : IsTicking f hearing agree answer entered = record {
      heard = heard;
      agrees = ap (λ (x : Agreeing). x.me) c.on_tick-agree.ensures.agree ∙ own;
      proposed = proposed;
      enters = c.in_ok-entered.ensures.view;
    } in
    let back : c.give_up.new.self ≡ c.propose.new.self = sym c.propose.ensures.same in
    let t : Ticked = c.in_ok-tick.tick.value in
    let made : TicksFrom c.propose.new.self.now hearing agree entered t = subst (λ (x : Ticked). TicksFrom c.propose.new.self.now hearing agree entered x) (sym c.in_ok-tick.ensures.ok) c.in_ok-ticked.ensures.ticked in
    let from : TicksFrom f hearing agree entered t = subst (λ (p : Planning). TicksFrom p.now hearing agree entered t) c.propose.ensures.same made in
    subst (λ (p : Planning). FitsTick p.now t) back (tick_fits f hearing agree answer entered t h from ranges)

pub plan-requires-clause-ranges : goal.plan-requires-clause-ranges
plan-requires-clause-ranges c =
    let f : Facts = c.give_up.new.self.now in
    let hearing : Adjacent = c.tick-set.new.self in
    let heard : hearing ≡ record { me = f.me; role = f.role; hearing = ticked f.me f.role f.hearing } =
    heard_so c.self.inside c.give_up.new.self c.copy-hearing.result hearing c.self.view_is c.self.invariant.0.hearing c.self.invariant.0.role c.copy-hearing.ensures c.tick-set.ensures.ticked in
    let ranges : HasRanges f = subst (λ (p : Planning). HasRanges p.now) c.self.view_is c.self.invariant.0.ranges in
    let agreed_on : c.self.inside.agree.agreement ≡ f.agreement = ap (λ (p : Planning). p.now.agreement) c.self.view_is in
    let seen : c.ground-before.result ≡ agreeing_with f hearing.hearing c.self.inside.agree.agreement =
    c.ground-before.ensures ∙ ground_own f hearing.hearing c.self.inside.agree.agreement (lent c.own_view.result) (lent_view f c.own_view.result c.own_view.ensures.none c.own_view.ensures.view) in
    let set : c.tick-set.result ≡ neighbours (after_ages f) = c.tick-set.ensures.set ∙ ap (λ (x : Adjacent). neighbours_of x.me x.role x.hearing.heard) heard in
    let own : c.copy.result.me ≡ f.me = ap (λ (x : Agreeing). x.me) c.copy.ensures ∙ c.self.invariant.0.agree ∙ ap (λ (p : Planning). p.now.me) c.self.view_is in
    let proposed : IsProposed (after_ages f) c.on_tick-agree.result.0 c.on_tick-agree.result.1 =
    proposed_so f c.copy.result c.on_tick-agree.result.0 c.on_tick-agree.result.1 c.tick-set.result c.is_candidate-candidate.result own
    (ap (λ (x : Agreeing). x.agreement) c.copy.ensures ∙ agreed_on) set
    (c.is_candidate-candidate.ensures ∙ candidate_so f c.ground-before.result hearing c.self.inside.agree.agreement seen heard)
    c.on_tick-agree.ensures.agree c.on_tick-agree.ensures.answer in
    let agree : Agreeing = c.on_tick-agree.result.0 in
    let answer : ProposalStep = c.on_tick-agree.result.1 in
    let entered : Option (Box View) = c.in_ok-entered.entered in
    let h : IsTicking f hearing agree answer entered = record {
      heard = heard;
      agrees = ap (λ (x : Agreeing). x.me) c.on_tick-agree.ensures.agree ∙ own;
      proposed = proposed;
      enters = c.in_ok-entered.ensures.view;
    } in
    let back : c.give_up.new.self ≡ c.propose.new.self = sym c.propose.ensures.same in
    let t : Ticked = c.in_ok-tick.tick.value in
    let made : TicksFrom c.propose.new.self.now hearing agree entered t = subst (λ (x : Ticked). TicksFrom c.propose.new.self.now hearing agree entered x) (sym c.in_ok-tick.ensures.ok) c.in_ok-ticked.ensures.ticked in
    let from : TicksFrom f hearing agree entered t = subst (λ (p : Planning). TicksFrom p.now hearing agree entered t) c.propose.ensures.same made in
    let numbers : HaveNumbers f = subst (λ (p : Planning). HaveNumbers p.now) (sym c.give_up.ensures) c.requires.counts in
    subst (λ (p : Planning). HasRanges (taken p.now (planned.Tick c.in_ok-tick.tick))) back
    (taken_fits f hearing agree answer entered t h from (stands_so f c.own_view.result c.own_view.ensures.some c.own_view.ensures.none)
    (pending_so f c.own_view.result c.own_view.ensures.none c.own_view.ensures.view) numbers ranges)

pub returns-clause-effects : goal.returns-clause-effects
returns-clause-effects c =
    let f : Facts = c.give_up.new.self.now in
    let hearing : Adjacent = c.tick-set.new.self in
    let heard : hearing ≡ record { me = f.me; role = f.role; hearing = ticked f.me f.role f.hearing } =
    heard_so c.self.inside c.give_up.new.self c.copy-hearing.result hearing c.self.view_is c.self.invariant.0.hearing c.self.invariant.0.role c.copy-hearing.ensures c.tick-set.ensures.ticked in
    let ranges : HasRanges f = subst (λ (p : Planning). HasRanges p.now) c.self.view_is c.self.invariant.0.ranges in
    let agreed_on : c.self.inside.agree.agreement ≡ f.agreement = ap (λ (p : Planning). p.now.agreement) c.self.view_is in
    let seen : c.ground-before.result ≡ agreeing_with f hearing.hearing c.self.inside.agree.agreement =
    c.ground-before.ensures ∙ ground_own f hearing.hearing c.self.inside.agree.agreement (lent c.own_view.result) (lent_view f c.own_view.result c.own_view.ensures.none c.own_view.ensures.view) in
    let set : c.tick-set.result ≡ neighbours (after_ages f) = c.tick-set.ensures.set ∙ ap (λ (x : Adjacent). neighbours_of x.me x.role x.hearing.heard) heard in
    let own : c.copy.result.me ≡ f.me = ap (λ (x : Agreeing). x.me) c.copy.ensures ∙ c.self.invariant.0.agree ∙ ap (λ (p : Planning). p.now.me) c.self.view_is in
    let proposed : IsProposed (after_ages f) c.on_tick-agree.result.0 c.on_tick-agree.result.1 =
    proposed_so f c.copy.result c.on_tick-agree.result.0 c.on_tick-agree.result.1 c.tick-set.result c.is_candidate-candidate.result own
    (ap (λ (x : Agreeing). x.agreement) c.copy.ensures ∙ agreed_on) set
    (c.is_candidate-candidate.ensures ∙ candidate_so f c.ground-before.result hearing c.self.inside.agree.agreement seen heard)
    c.on_tick-agree.ensures.agree c.on_tick-agree.ensures.answer in
    let agree : Agreeing = c.on_tick-agree.result.0 in
    let answer : ProposalStep = c.on_tick-agree.result.1 in
    let entered : Option (Box View) = c.in_ok-entered.entered in
    let h : IsTicking f hearing agree answer entered = record {
      heard = heard;
      agrees = ap (λ (x : Agreeing). x.me) c.on_tick-agree.ensures.agree ∙ own;
      proposed = proposed;
      enters = c.in_ok-entered.ensures.view;
    } in
    let back : c.give_up.new.self ≡ c.propose.new.self = sym c.propose.ensures.same in
    let up : f.up ≡ true = ap (λ (p : Planning). p.now.up) c.give_up.ensures ∙ c.requires.up in
    let told : List Line → List (ℕ × List ℕ) → Effects = λ (ls : List Line) (ss : List (ℕ × List ℕ)). record { lines = ls; sends = ss } in
    let first : told c.push.new.self c.new-out.result.sends ≡ told (line.Tick f.me ∷ []) [] =
    ap₂ (λ (ls : List Line) (e : Effects). told ls e.sends)
    (c.in_ok-push.ensures.ok ∙ ap (λ (e : Effects). e.lines ++ line.Tick c.self.inside.me ∷ []) c.new-out.ensures ∙ ap (λ (p : Planning). line.Tick p.now.me ∷ []) c.self.view_is)
    c.new-out.ensures in
    let beats : tick.beat c.ground-before.result ≡ tick.beat (after_ages f) = beats_so f c.ground-before.result hearing c.self.inside.agree.agreement seen agreed_on heard in
    let beaten : c.beat.new.out ≡ then_effects (told (line.Tick f.me ∷ []) []) (tick.beat (after_ages f)) =
    c.in_ok-beat.ensures
    ∙ ap₂ (λ (o : Effects) (e : rules.Effects). then_effects o e) first beats in
    let proposes : c.propose.new.out ≡ then_effects (then_effects (told (line.Tick f.me ∷ []) []) (tick.beat (after_ages f))) (propose (after_ages f)) =
    c.in_ok-entered.ensures.effects ∙ ap (λ (o : Effects). then_effects o (propose (after_ages f))) beaten in
    c.plan.ensures.same ∙ c.in_ok-ticked.ensures.lines
    ∙ ap₂ (λ (o : Effects) (p : Planning). then_effects o (parts_in_order (later_parts partition_count) (agreed p.now hearing agree entered))) proposes c.propose.ensures.same
    ∙ tick_told f hearing agree answer entered up h ranges
    ∙ ap (λ (p : Planning). spelled (due_tick p.now)) c.give_up.ensures

pub returns-clause-planned : goal.returns-clause-planned
returns-clause-planned c =
    let f : Facts = c.give_up.new.self.now in
    let hearing : Adjacent = c.tick-set.new.self in
    let heard : hearing ≡ record { me = f.me; role = f.role; hearing = ticked f.me f.role f.hearing } =
    heard_so c.self.inside c.give_up.new.self c.copy-hearing.result hearing c.self.view_is c.self.invariant.0.hearing c.self.invariant.0.role c.copy-hearing.ensures c.tick-set.ensures.ticked in
    let ranges : HasRanges f = subst (λ (p : Planning). HasRanges p.now) c.self.view_is c.self.invariant.0.ranges in
    let agreed_on : c.self.inside.agree.agreement ≡ f.agreement = ap (λ (p : Planning). p.now.agreement) c.self.view_is in
    let seen : c.ground-before.result ≡ agreeing_with f hearing.hearing c.self.inside.agree.agreement =
    c.ground-before.ensures ∙ ground_own f hearing.hearing c.self.inside.agree.agreement (lent c.own_view.result) (lent_view f c.own_view.result c.own_view.ensures.none c.own_view.ensures.view) in
    let set : c.tick-set.result ≡ neighbours (after_ages f) = c.tick-set.ensures.set ∙ ap (λ (x : Adjacent). neighbours_of x.me x.role x.hearing.heard) heard in
    let own : c.copy.result.me ≡ f.me = ap (λ (x : Agreeing). x.me) c.copy.ensures ∙ c.self.invariant.0.agree ∙ ap (λ (p : Planning). p.now.me) c.self.view_is in
    let proposed : IsProposed (after_ages f) c.on_tick-agree.result.0 c.on_tick-agree.result.1 =
    proposed_so f c.copy.result c.on_tick-agree.result.0 c.on_tick-agree.result.1 c.tick-set.result c.is_candidate-candidate.result own
    (ap (λ (x : Agreeing). x.agreement) c.copy.ensures ∙ agreed_on) set
    (c.is_candidate-candidate.ensures ∙ candidate_so f c.ground-before.result hearing c.self.inside.agree.agreement seen heard)
    c.on_tick-agree.ensures.agree c.on_tick-agree.ensures.answer in
    let agree : Agreeing = c.on_tick-agree.result.0 in
    let answer : ProposalStep = c.on_tick-agree.result.1 in
    let entered : Option (Box View) = c.in_ok-entered.entered in
    let h : IsTicking f hearing agree answer entered = record {
      heard = heard;
      agrees = ap (λ (x : Agreeing). x.me) c.on_tick-agree.ensures.agree ∙ own;
      proposed = proposed;
      enters = c.in_ok-entered.ensures.view;
    } in
    let back : c.give_up.new.self ≡ c.propose.new.self = sym c.propose.ensures.same in
    let t : Ticked = c.in_ok-tick.tick.value in
    let made : TicksFrom c.propose.new.self.now hearing agree entered t = subst (λ (x : Ticked). TicksFrom c.propose.new.self.now hearing agree entered x) (sym c.in_ok-tick.ensures.ok) c.in_ok-ticked.ensures.ticked in
    let from : TicksFrom f hearing agree entered t = subst (λ (p : Planning). TicksFrom p.now hearing agree entered t) c.propose.ensures.same made in
    let up : f.up ≡ true = ap (λ (p : Planning). p.now.up) c.give_up.ensures ∙ c.requires.up in
    c.plan.ensures.planned
    ∙ ap (λ (p : Planning). planning p.now (taken p.now (planned.Tick c.in_ok-tick.tick))) c.propose.ensures.same
    ∙ ap (planning f) (ticked_is f hearing agree answer entered t up h from ranges)
    ∙ ap (λ (p : Planning). planning p.now (after_tick p.now)) c.give_up.ensures

pub returns-in_err-tick-clause-err : goal.returns-in_err-tick-clause-err
returns-in_err-tick-clause-err c = on_err c.from_residual-in_err-tick.result _ (c.propose.ensures.same ∙ c.give_up.ensures)

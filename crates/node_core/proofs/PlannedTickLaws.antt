-- A planned tick: what it tells and what it changes is what the rules say.
use Rattle.std.proofs.Common.{◌≡◌, ◌≢◌, ◌<◌, ◌&&◌, ◌^◌, ℕ, ◌+◌, nat_lt, Bool, true, false, List, [], ◌∷◌, Option, Some, None, is_none, is_some, IsSome, All, inr, refl, sym, ap, ap₂, subst, ◌∙◌, arith, Result, Ok, Err, OnErr}
use Rattle.std.specs.Borrow.{Bor}
use Rattle.std.specs.Global.{Box}
use Rattle.std.specs.Option.{ForSome}
use Rattle.std.specs.Prelude.{IfSome, if◌then◌else◌}
use Rattle.std.proofs.lemmas.Bool.Decides.{nat_tests}
use Rattle.std.proofs.lemmas.List.Elements.{All-nil}
use Rattle.cluster_types.specs.declared.cluster_key.ClusterKey.{ClusterKey}
use Rattle.cluster_types.specs.declared.member.Member.{Member}
use Rattle.cluster_types.specs.declared.member.Role.{Role}
use Rattle.cluster_types.specs.Partitions.{partition_count}
use Rattle.clustering.specs.Agreeing.{Agreeing, with_agreement}
use Rattle.clustering.specs.Answers.{entered_or_sent, sent_of, tick_answer}
use Rattle.clustering.specs.declared.steps.ProposalStep as answers
use Rattle.emigrate.specs.Going.{AreHeld}
use Rattle.heartbeat.specs.Adjacent.{Adjacent}
use Rattle.journal_lines.specs.declared.line.Line.TheVariants as line
use Rattle.wire_messages.specs.declared.message.Batch.{Batch}
use Rattle.wire_messages.specs.Keys.{IsKeyField}
use Rattle.wire_messages.specs.Nodes.{IsId}
use Rattle.wire_messages.specs.Proper.{IsBatch}
use Rattle.node_rules.specs.Agreement as agreement
use Rattle.node_rules.specs.Agreement.{Agreement, Proposal, enters_alone, has_round, next_key, promising, proposes_anew, seen_round, still_proposing, ticking, others_among, proposing_to}
use Rattle.node_rules.specs.Batches.{Targets}
use Rattle.node_rules.specs.ByParts.{batches_due, entered_alone, proposed_facts, sending_all, settled_facts}
use Rattle.node_rules.specs.Copies.{Content, is_nil}
use Rattle.node_rules.specs.Effects as rules
use Rattle.node_rules.specs.Exchange.{is_member, is_single}
use Rattle.node_rules.specs.Facts.{Facts, view_key}
use Rattle.node_rules.specs.Hearing.{Hearing, ticked, without_quiet}
use Rattle.node_rules.specs.Notes.{after_ages, neighbours, noted}
use Rattle.node_rules.specs.Settling.{settling_due}
use Rattle.node_rules.specs.Steps.{after_tick}
use Rattle.node_rules.specs.Tick as tick
use Rattle.node_rules.specs.Tick.{due_tick, parts_in_order, is_candidate, propose, parts}
use Rattle.node_rules.proofs.TickParts.{alone_is, among_others_is, up_is}
use Rattle.node_view.specs.declared.here.Settling.{Settling}
use Rattle.node_view.specs.declared.view.View.{View}
use Rattle.node_view.specs.Counts.{greatest_count}
use Rattle.node_view.specs.Fits.{AreNext, AreSettlings}
use Rattle.node_view.specs.Plans.{settled_at, settled_by, with_stamps}
use Rattle.node_view.specs.Views.{IsEntered, IsViewOf, Viewed, view_at_entry, with_view}
use Rattle.node_steps.specs.declared.effects.Effects.{Effects}
use Rattle.node_steps.specs.declared.planned.Ticked.{Ticked}
use Rattle.node_steps.specs.Counts.{HaveNumbers}
use Rattle.node_steps.specs.Fits.{FitsAgreed, FitsEntered, FitsTick, IsNewView, ticked_facts}
use Rattle.node_steps.specs.Plans as plans
use Rattle.node_steps.specs.Plans.{with_sent}
use Rattle.node_steps.specs.Ranges.{HasRanges}
use Rattle.node_steps.specs.Spelled.{then_effects, spelled}
use Rattle.node_steps.specs.Ticks.{EntersBy, IsProposed, TicksFrom, agreed, later_parts}
use Rattle.node_core.proofs.EnteringLaws.{agreed_alike, entered_is, entered_view, ranges_entered}
use Rattle.node_steps.proofs.MemberLaws.{is_listed}
use Rattle.node_core.proofs.ProposeLaws.{answer_twice, still_twice, ticking_twice}
use Rattle.node_steps.proofs.CandidateLaws.{itself_among}
use Rattle.node_steps.proofs.SeenLaws.{none_for, view_unseen}
use Rattle.node_steps.proofs.RangeLaws.{HasKeys, kept_keys, keys_of, ranges_agreed}
use Rattle.node_steps.proofs.SettledLaws.{kept_all}
use Rattle.node_steps.proofs.SpelledLaws.{told_twice}
use Rattle.node_steps.proofs.StepRanges.{due_batches_fit, sent_ranges, settled_ranges}
use Rattle.node_steps.proofs.TickingLaws.{parts_apart, settled_apart_from}
use Rattle.node_rules.specs.Effects.{lines_only}

-- a tick of the node as it is planned
pub record IsTicking (f : Facts) (hearing : Adjacent) (agree : Agreeing) (answer : answers.ProposalStep) (entered : Option (Box View)) : Type 0 where
  pub heard : hearing ≡ record { me = f.me; role = f.role; hearing = ticked f.me f.role f.hearing }
  pub agrees : agree.me ≡ f.me
  pub proposed : IsProposed (after_ages f) agree answer
  pub enters : EntersBy (after_ages f) answer entered

-- ---- whether a view is entered

-- whether the node enters a view alone
abbrev alone : Facts → Bool
alone f = enters_alone f.me f.agreement (neighbours f) (is_candidate f)

-- what the node proposes, and whether it enters that alone
pub data Enters (f : Facts) (a : Agreement) (entered : Option (Box View)) : Type 0 where
  nobody : alone f ≡ false → entered ≡ None → Enters f a entered
  one : (v : Box View) → alone f ≡ true → entered ≡ Some v → a ≡ agreement.agreement_entered (promising f.agreement (next_key f.me f.agreement)) (next_key f.me f.agreement)
      → IsEntered f (next_key f.me f.agreement) (neighbours f) v.value → Enters f a entered

-- the agreement of a node that enters a view alone
entering_alone : (me : ℕ) (a : Agreement) (set : List Member) (anew : Bool) (ns : List ℕ) → ns ≡ agreement.others_among me set → (anew && is_nil ns) ≡ true
    → (if anew then proposing_to me a (next_key me a) set (others_among me set) else a) ≡ agreement.agreement_entered (promising a (next_key me a))
    (next_key me a)
entering_alone me a set false ns same e = cc
entering_alone me a set true (n ∷ ns) same e = cc
entering_alone me a set true [] same e = ap (λ (to : List ℕ). agreement.proposing_to me a (next_key me a) set to) (sym same)

sent_none : (f : Facts) (o : Option Proposal) (entered : Option (Box View)) → EntersBy f (sent_of o) entered → entered ≡ None
sent_none f None entered h = h
sent_none f (Some p) entered h = h

by_some : (a : Agreement) (f : Facts) (entered o : Option (Box View)) → entered ≡ o → IsSome o → alone f ≡ true
    → a ≡ agreement.agreement_entered (promising f.agreement (next_key f.me f.agreement)) (next_key f.me f.agreement)
    → ForSome o (λ v. IsEntered f (next_key f.me f.agreement) (neighbours f) v.value) → Enters f a entered
by_some a f entered None same some is onward view = cc
by_some a f entered (Some v) same some is onward view = Enters.one v is same onward (view v refl)

enters_by : (f : Facts) (a : Agreement) (entered : Option (Box View)) (b : Bool) (o : Option Proposal) → alone f ≡ b
    → a ≡ (if proposes_anew f.agreement (is_candidate f) then proposing_to f.me f.agreement (next_key f.me f.agreement) (neighbours f) (others_among f.me (neighbours f)) else f.agreement)
    → EntersBy f (entered_or_sent b (next_key f.me f.agreement) (neighbours f) o) entered → Enters f a entered
enters_by f a entered false o is onward h = Enters.nobody is (sent_none f o entered h)
enters_by f a entered true o is onward h =
    by_some a f entered entered refl h.some is
    (onward ∙ entering_alone f.me f.agreement (neighbours f) (proposes_anew f.agreement (is_candidate f)) (agreement.others_among f.me (neighbours f)) refl is) h.view

-- a proposal of the neighbours is as it was
still : (f : Facts) → still_proposing (after_ages f).agreement (neighbours (after_ages f)) ≡ (after_ages f).agreement
still f = still_twice f.agreement (neighbours (after_ages f))

pub how_enters : (f : Facts) (hearing : Adjacent) (agree : Agreeing) (answer : answers.ProposalStep) (entered : Option (Box View))
    → IsTicking f hearing agree answer entered → Enters (after_ages f) agree.agreement entered
how_enters f hearing agree answer entered h =
    let g : Facts = after_ages f in
    let set : List Member = neighbours g in
    let b : Bool = is_candidate g in
    enters_by g agree.agreement entered (alone g) (if proposes_anew g.agreement b then proposing_to g.me g.agreement (next_key g.me g.agreement) set (others_among g.me set) else g.agreement).proposal refl
    (h.proposed.agreement ∙ ap (λ (a : Agreement). (if proposes_anew a b then proposing_to g.me a (next_key g.me a) set (others_among g.me set) else a)) (still f))
    (subst (λ (x : answers.ProposalStep). EntersBy g x entered)
    (h.proposed.answered ∙ ap (λ (a : Agreement). entered_or_sent (enters_alone g.me a set b) (next_key g.me g.agreement) set (if proposes_anew a b then proposing_to g.me a (next_key g.me a) set (others_among g.me set) else a).proposal) (still f))
    h.enters)

-- ---- the facts of the later parts

with_own : (f g : Facts) → f ≡ g → f ≡ record g { agreement = f.agreement }
with_own f g same = subst (λ (x : Facts). f ≡ record x { agreement = f.agreement }) same refl

-- the node is one of the neighbours
pub among_itself : (f : Facts) → is_member (neighbours f) f.me ≡ true
among_itself f = is_listed (neighbours f) f.me (itself_among f.me f.role f.hearing.heard)

-- the facts in the view that is entered
pub entered_facts : (f : Facts) (hearing : Adjacent) (agree : Agreeing) (v : Box View) → hearing.hearing ≡ (after_ages f).hearing
    → agree.agreement ≡ agreement.agreement_entered (promising (after_ages f).agreement (next_key f.me (after_ages f).agreement)) (next_key f.me (after_ages f).agreement)
    → IsEntered (after_ages f) (next_key f.me (after_ages f).agreement) (neighbours (after_ages f)) v.value
    → agreed f hearing agree (Some v) ≡ entered_alone (after_ages f) (next_key f.me (after_ages f).agreement) (neighbours (after_ages f))
entered_facts f hearing agree v heard onward view =
    let g : Facts = after_ages f in
    let key : ClusterKey = next_key f.me g.agreement in
    let h : Facts = record g { agreement = promising g.agreement key } in
    ap₂ (λ (x : Hearing) (a : Agreement). plans.agreed (record f { hearing = x }) a (Some v.value)) heard onward
    ∙ agreed_alike h (agreement.agreement_entered h.agreement key) (view_at_entry g key (neighbours g)) v.value view.alike
    ∙ entered_is h key (neighbours g) (among_itself g)

pub later_are : (f : Facts) (hearing : Adjacent) (agree : Agreeing) (answer : answers.ProposalStep) (entered : Option (Box View))
    → IsTicking f hearing agree answer entered → proposed_facts f ≡ record (agreed f hearing agree entered) { agreement = (proposed_facts f).agreement }
later_are f hearing agree answer entered h = go (how_enters f hearing agree answer entered h)
  where
    go : Enters (after_ages f) agree.agreement entered → proposed_facts f ≡ record (agreed f hearing agree entered) { agreement = (proposed_facts f).agreement }
    go (Enters.nobody is none) =
        among_others_is (after_ages f) is
        ∙ ap₂ (λ (x : Adjacent) (o : Option (Box View)). record (agreed f x agree o) { agreement = (proposed_facts f).agreement }) (sym h.heard) (sym none)
    go (Enters.one v is some onward view) =
        with_own (proposed_facts f) (agreed f hearing agree entered)
        (alone_is (after_ages f) is ∙ sym (entered_facts f hearing agree v (ap (λ (x : Adjacent). x.hearing) h.heard) onward view)
        ∙ ap (λ (o : Option (Box View)). agreed f hearing agree o) (sym some))

-- a view that is entered is so a tick later
pub entered_aged : (f : Facts) (key : ClusterKey) (ms : List Member) (v : Viewed) → IsEntered f key ms v → IsEntered (after_ages f) key ms v
entered_aged f key ms v h = record {
  alike = h.alike;
  watch = (view_unseen (with_view f (Some v)) (after_ages f) v (entered_view f key ms v h).view).watch;
}

-- ---- what the agreement tells

next_fits : (me : ℕ) (a : Agreement) → IsId me → has_round a ≡ true → IsKeyField (next_key me a)
next_fits me a id room = above (seen_round a) room
  where
    above : (seen : ℕ) → nat_lt (seen + 1) (2 ^ 48) ≡ true → IsKeyField (record { round = seen + 1; principal = me })
    above seen low = record {
      view = record { above_none = omega arith; below_limit = grind (arith, nat_tests); led = id.positive };
      fits = id.fits;
    }

pub still_keys : (a : Agreement) (set : List Member) → HasKeys a → HasKeys (still_proposing a set)
still_keys a set h = record { promised = h.promised; proposed = kept_keys (agreement.proposes_set a.proposal set) a.proposal h.proposed }

proposing_keys : (me : ℕ) (a : Agreement) (key : ClusterKey) (set : List Member) (ns : List ℕ) → IsKeyField key → HasKeys a → HasKeys (agreement.proposing_to me a key set ns)
proposing_keys me a key set [] k h = record { promised = inr k; proposed = none_for (λ p. IsKeyField p.key) }
proposing_keys me a key set (n ∷ ns) k h = go (agreement.proposes (promising a key).proposal key)
  where
    go : (b : Bool) → HasKeys (if b then promising a key else record (promising a key) { proposal = Some (agreement.proposal_of me key set) })
    go true = record { promised = inr k; proposed = kept_keys (agreement.proposes a.proposal key) a.proposal h.proposed }
    go false = record {
      promised = inr k;
      proposed = λ p e. let same : agreement.proposal_of me key set ≡ p = cc in subst (λ (x : Proposal). IsKeyField x.key) same k;
    }

anew_keys : (me : ℕ) (a : Agreement) (set : List Member) (x y z : Bool) → has_round a ≡ z → IsId me → HasKeys a → HasKeys (if x && (y && z) then proposing_to me a (next_key me a) set (others_among me set) else a)
anew_keys me a set true true true room id h = proposing_keys me a (next_key me a) set (agreement.others_among me set) (next_fits me a id room) h
anew_keys me a set true true false room id h = h
anew_keys me a set true false z room id h = h
anew_keys me a set false y z room id h = h

pub ticking_keys : (me : ℕ) (a : Agreement) (set : List Member) (candidate : Bool) → IsId me → HasKeys a → HasKeys (ticking me a set candidate)
ticking_keys me a set candidate id h =
    anew_keys me (still_proposing a set) set (is_none (still_proposing a set).proposal) candidate (has_round a) refl id (still_keys a set h)

-- a node that enters a view alone has a round for it
round_for : (x y z w : Bool) → ((x && (y && z)) && w) ≡ true → z ≡ true
round_for true true true w e = refl
round_for true true false w e = cc
round_for true false z w e = cc
round_for false y z w e = cc

-- ---- the facts keep their ranges

pub later_fit : (f : Facts) (hearing : Adjacent) (agree : Agreeing) (answer : answers.ProposalStep) (entered : Option (Box View))
    → IsTicking f hearing agree answer entered → HasRanges f → HasRanges (agreed f hearing agree entered)
later_fit f hearing agree answer entered h r = go (how_enters f hearing agree answer entered h)
  where
    keys : HasKeys agree.agreement
    keys = subst HasKeys (sym h.proposed.agreement)
        (ticking_keys f.me (after_ages f).agreement (neighbours (after_ages f)) (is_candidate (after_ages f)) r.me (still_keys f.agreement (neighbours (after_ages f)) (keys_of f r)))

    go : Enters (after_ages f) agree.agreement entered → HasRanges (agreed f hearing agree entered)
    go (Enters.nobody is none) =
        subst (λ (o : Option (Box View)). HasRanges (agreed f hearing agree o)) (sym none) (ranges_agreed f hearing.hearing agree.agreement r keys)
    go (Enters.one v is some onward view) =
        let heard : Facts = record f { hearing = hearing.hearing } in
        let key : ClusterKey = next_key f.me (after_ages f).agreement in
        let set : List Member = neighbours (after_ages f) in
        let k : IsKeyField key = next_fits f.me (after_ages f).agreement r.me (round_for (is_none (after_ages f).agreement.proposal) (is_candidate (after_ages f)) (has_round f.agreement) (is_nil (agreement.others_among f.me set)) is) in
        subst (λ (o : Option (Box View)). HasRanges (agreed f hearing agree o)) (sym some)
        (subst HasRanges (sym (agreed_alike heard agree.agreement (view_at_entry heard key set) v.value view.alike))
        (ranges_entered heard agree.agreement key set (ranges_agreed f hearing.hearing f.agreement r (keys_of f r)) keys k))

pub later_count : (f : Facts) (hearing : Adjacent) (agree : Agreeing) (answer : answers.ProposalStep) (entered : Option (Box View))
    → IsTicking f hearing agree answer entered → HaveNumbers f → HaveNumbers (agreed f hearing agree entered)
later_count f hearing agree answer entered h n = go (how_enters f hearing agree answer entered h)
  where
    first : (heard : Facts) (key : ClusterKey) (set : List Member) (b : Bool) → HaveNumbers (with_stamps (with_view (record heard { hearing = without_quiet heard.hearing; agreement = agree.agreement }) (Some (view_at_entry heard key set))) b)
    first heard key set true = record { transactions = omega arith; batches = All-nil (λ t. t.batches < greatest_count); applies = λ p. omega arith }
    first heard key set false = record { transactions = omega arith; batches = All-nil (λ t. t.batches < greatest_count); applies = λ p. omega arith }

    go : Enters (after_ages f) agree.agreement entered → HaveNumbers (agreed f hearing agree entered)
    go (Enters.nobody is none) =
        subst (λ (o : Option (Box View)). HaveNumbers (agreed f hearing agree o)) (sym none) (record { transactions = n.transactions; batches = n.batches; applies = n.applies })
    go (Enters.one v is some onward view) =
        let heard : Facts = record f { hearing = hearing.hearing } in
        let key : ClusterKey = next_key f.me (after_ages f).agreement in
        let set : List Member = neighbours (after_ages f) in
        subst (λ (o : Option (Box View)). HaveNumbers (agreed f hearing agree o)) (sym some)
        (subst HaveNumbers (sym (agreed_alike heard agree.agreement (view_at_entry heard key set) v.value view.alike)) (first heard key set (is_single set)))

-- the facts are of a node in a view, or of one in none
pub data StandsIn (f : Facts) : Type 0 where
  inside : IsSome f.exchange.view → StandsIn f
  outside : with_view f None ≡ f → StandsIn f

abbrev pub HoldsPending : Facts → Type 0
HoldsPending f = AreHeld f.store.content f.batches

later_held : (f : Facts) (hearing : Adjacent) (agree : Agreeing) (answer : answers.ProposalStep) (entered : Option (Box View))
    → IsTicking f hearing agree answer entered → HoldsPending f → HoldsPending (agreed f hearing agree entered)
later_held f hearing agree answer entered h held = go (how_enters f hearing agree answer entered h)
  where
    first : (heard : Facts) (key : ClusterKey) (set : List Member) (b : Bool) → HoldsPending (with_stamps (with_view (record heard { hearing = without_quiet heard.hearing; agreement = agree.agreement }) (Some (view_at_entry heard key set))) b)
    first heard key set true = record { held = λ k d within. absurd (omega (arith, within)) }
    first heard key set false = record { held = λ k d within. absurd (omega (arith, within)) }

    go : Enters (after_ages f) agree.agreement entered → HoldsPending (agreed f hearing agree entered)
    go (Enters.nobody is none) = subst (λ (o : Option (Box View)). HoldsPending (agreed f hearing agree o)) (sym none) held
    go (Enters.one v is some onward view) =
        let heard : Facts = record f { hearing = hearing.hearing } in
        let key : ClusterKey = next_key f.me (after_ages f).agreement in
        let set : List Member = neighbours (after_ages f) in
        subst (λ (o : Option (Box View)). HoldsPending (agreed f hearing agree o)) (sym some)
        (subst HoldsPending (sym (agreed_alike heard agree.agreement (view_at_entry heard key set) v.value view.alike)) (first heard key set (is_single set)))

later_stands : (f : Facts) (hearing : Adjacent) (agree : Agreeing) (answer : answers.ProposalStep) (entered : Option (Box View))
    → IsTicking f hearing agree answer entered → StandsIn f → StandsIn (agreed f hearing agree entered)
later_stands f hearing agree answer entered h stands = go (how_enters f hearing agree answer entered h)
  where
    before : StandsIn f → StandsIn (agreed f hearing agree None)
    before (StandsIn.inside some) = StandsIn.inside some
    before (StandsIn.outside is) = StandsIn.outside (ap (λ (g : Facts). record g { hearing = hearing.hearing; agreement = agree.agreement }) is)

    first : (heard : Facts) (w : Viewed) (b : Bool) → IsSome w.exchange.view → StandsIn (with_stamps (with_view heard (Some w)) b)
    first heard w true in_one = StandsIn.inside in_one
    first heard w false in_one = StandsIn.inside in_one

    go : Enters (after_ages f) agree.agreement entered → StandsIn (agreed f hearing agree entered)
    go (Enters.nobody is none) = subst (λ (o : Option (Box View)). StandsIn (agreed f hearing agree o)) (sym none) (before stands)
    go (Enters.one v is some onward view) =
        subst (λ (o : Option (Box View)). StandsIn (agreed f hearing agree o)) (sym some)
        (first (record f { hearing = without_quiet hearing.hearing; agreement = agree.agreement }) v.value v.value.exchange.exchanged
        (entered_view (after_ages f) (next_key f.me (after_ages f).agreement) (neighbours (after_ages f)) v.value view).in_one)

-- ---- the plan fits

pub entered_fits : (f : Facts) (hearing : Adjacent) (agree : Agreeing) (answer : answers.ProposalStep) (entered : Option (Box View))
    → IsTicking f hearing agree answer entered → FitsAgreed f agree entered
entered_fits f hearing agree answer entered h = record { agree_of = h.agrees; view = go (how_enters f hearing agree answer entered h) }
  where
    new : (v : Viewed) → IsNewView (after_ages f) v → IsNewView f v
    new v n = record { view = view_unseen (with_view (after_ages f) (Some v)) f v n.view; in_one = n.in_one }

    go : Enters (after_ages f) agree.agreement entered → FitsEntered f entered
    go (Enters.nobody is none) = λ v e. cc
    go (Enters.one w is some onward view) = λ v e.
        let same : w ≡ v = cc in
        subst (λ (x : Box View). IsNewView f x.value) same
        (new w.value (entered_view (after_ages f) (next_key f.me (after_ages f).agreement) (neighbours (after_ages f)) w.value view))

planned_facts : (f : Facts) (hearing : Adjacent) (agree : Agreeing) (entered : Option (Box View)) (t : Ticked)
    → hearing ≡ record { me = f.me; role = f.role; hearing = ticked f.me f.role f.hearing } → TicksFrom f hearing agree entered t
    → ticked_facts f t ≡ agreed f hearing agree entered
planned_facts f hearing agree entered t heard from =
    ap₂ (λ (x : Adjacent) (y : Agreeing). agreed f x y t.entered) (sym heard) from.agreed_on ∙ ap (λ (o : Option (Box View)). agreed f hearing agree o) from.view

pub tick_fits : (f : Facts) (hearing : Adjacent) (agree : Agreeing) (answer : answers.ProposalStep) (entered : Option (Box View)) (t : Ticked)
    → IsTicking f hearing agree answer entered → TicksFrom f hearing agree entered t → HasRanges f → FitsTick f t
tick_fits f hearing agree answer entered t h from r =
    let same : ticked_facts f t ≡ agreed f hearing agree entered = planned_facts f hearing agree entered t h.heard from in
    let back : agreed f hearing agree entered ≡ ticked_facts f t = sym same in
    record {
      agree = ap (λ (x : Agreeing). x.me) from.agreed_on ∙ h.agrees;
      entered = subst (λ (o : Option (Box View)). FitsEntered f o) (sym from.view) (entered_fits f hearing agree answer entered h).view;
      ranges = subst HasRanges back (later_fit f hearing agree answer entered h r);
      settlings = subst (λ (g : Facts). AreSettlings g t.settlings.items) back from.due;
      batches = from.batches ∙ ap (λ (g : Facts). batches_due (view_key g) f.store.content g.batches) back;
      next = subst (λ (g : Facts). AreNext g.exchange.exchanged (view_key g) g.batches t.batches.items) back from.next;
    }

-- ---- what is planned

content_kept : (f : Facts) (hearing : Adjacent) (agree : Agreeing) (entered : Option (Box View)) → (agreed f hearing agree entered).store.content ≡ f.store.content
content_kept f hearing agree None = refl
content_kept f hearing agree (Some v) = go v.value.exchange.exchanged
  where
    go : (b : Bool) → (with_stamps (with_view (record f { hearing = without_quiet hearing.hearing; agreement = agree.agreement }) (Some v.value)) b).store.content ≡ f.store.content
    go true = refl
    go false = refl

onward_kept : (f : Facts) (hearing : Adjacent) (agree : Agreeing) (entered : Option (Box View)) → (agreed f hearing agree entered).agreement ≡ agree.agreement
onward_kept f hearing agree None = refl
onward_kept f hearing agree (Some v) = go v.value.exchange.exchanged
  where
    go : (b : Bool) → (with_stamps (with_view (record f { hearing = without_quiet hearing.hearing; agreement = agree.agreement }) (Some v.value)) b).agreement ≡ agree.agreement
    go true = refl
    go false = refl

settled_agreement : (f : Facts) (ss : List Settling) → (settled_by f ss).agreement ≡ f.agreement
settled_agreement f [] = refl
settled_agreement f (s ∷ ss) =
    settled_agreement (settled_at f s) ss ∙ kept_all (λ (g : Facts). g.agreement) f s (λ g. refl) (λ g. refl) (λ g. refl) (λ g. refl)

-- what the plan changes is what the tick does
pub ticked_is : (f : Facts) (hearing : Adjacent) (agree : Agreeing) (answer : answers.ProposalStep) (entered : Option (Box View)) (t : Ticked)
    → f.up ≡ true → IsTicking f hearing agree answer entered → TicksFrom f hearing agree entered t → HasRanges f
    → plans.tick_taken f t ≡ after_tick f
ticked_is f hearing agree answer entered t up h from r =
    let g : Facts = agreed f hearing agree entered in
    let s : Facts = settled_by g t.settlings.items in
    let a : Agreement = (proposed_facts f).agreement in
    let now : Agreement = ticking f.me f.agreement (neighbours (after_ages f)) (is_candidate (after_ages f)) in
    let fit : HasRanges g = later_fit f hearing agree answer entered h r in
    let later : proposed_facts f ≡ record g { agreement = a } = later_are f hearing agree answer entered h in
    let settled : settled_facts partition_count f ≡ record s { agreement = a } =
    ap (λ (x : Facts). noted None x (settling_due partition_count x)) later
    ∙ settled_apart_from g a (record { handed = fit.bits.handed; settled = fit.bits.settled })
    ∙ ap (λ (x : Facts). record x { agreement = a }) (sym from.settled) in
    let sent : batches_due (view_key g) g.store.content g.batches ≡ t.batches.items =
    ap (λ (c : Content). batches_due (view_key g) c g.batches) (content_kept f hearing agree entered) ∙ sym from.batches in
    let onward : now ≡ s.agreement =
    sym (settled_agreement g t.settlings.items ∙ onward_kept f hearing agree entered ∙ h.proposed.agreement
    ∙ ticking_twice f.me f.agreement (neighbours (after_ages f)) (is_candidate (after_ages f))) in
    ap (λ (x : Facts). with_sent (settled_by x t.settlings.items) t.batches.items) (planned_facts f hearing agree entered t h.heard from)
    ∙ sym (up_is f up
    ∙ ap₂ (λ (x y : Facts). record x { agreement = now; batches = sending_all x.batches (batches_due (view_key y) y.store.content y.batches) }) settled later
    ∙ ap₂ (λ (x : Agreement) (bs : List (ℕ × Batch)). record s { agreement = x; batches = sending_all s.batches bs }) onward sent)

-- ---- what is told

pub tick_told : (f : Facts) (hearing : Adjacent) (agree : Agreeing) (answer : answers.ProposalStep) (entered : Option (Box View))
    → f.up ≡ true → IsTicking f hearing agree answer entered → HasRanges f
    → then_effects (then_effects (then_effects (record { lines = line.Tick f.me ∷ []; sends = [] }) (tick.beat (after_ages f))) (propose (after_ages f))) (parts_in_order (later_parts partition_count) (agreed f hearing agree entered))
    ≡ spelled (due_tick f)
tick_told f hearing agree answer entered up h r =
    let g : Facts = agreed f hearing agree entered in
    let fit : HasRanges g = later_fit f hearing agree answer entered h r in
    let first : Effects = record { lines = line.Tick f.me ∷ []; sends = [] } in
    let beats : rules.Effects = tick.beat (after_ages f) in
    let proposes : rules.Effects = propose (after_ages f) in
    let rest : rules.Effects = parts_in_order (later_parts partition_count) g in
    let same : parts_in_order (later_parts partition_count) (proposed_facts f) ≡ rest =
    ap (λ (x : Facts). parts_in_order (later_parts partition_count) x) (later_are f hearing agree answer entered h)
    ∙ parts_apart g (proposed_facts f).agreement (record { handed = fit.bits.handed; settled = fit.bits.settled }) in
    told_twice (then_effects first beats) proposes rest
    ∙ told_twice first beats (rules.followed_by proposes rest)
    ∙ ap (λ (e : rules.Effects). spelled (rules.followed_by (tick.tick f) (rules.followed_by beats (rules.followed_by proposes e)))) (sym same)
    ∙ ap (λ (b : Bool). spelled (if b then parts_in_order (parts partition_count) f else lines_only (line.Down f.me ∷ []))) (sym up)

-- ---- the ranges after the tick

out_of_view : (f : Facts) → with_view f None ≡ f → f.exchange.exchanged ≡ false
out_of_view f is = ap (λ (g : Facts). g.exchange.exchanged) (sym is)

settles_inside : (f : Facts) (ss : List Settling) → StandsIn f → AreSettlings f ss → ss ≢ [] → IsSome f.exchange.view
settles_inside f ss (StandsIn.inside some) due any = some
settles_inside f ss (StandsIn.outside is) due any =
    absurd (let wrong : true ≡ false = sym (due.exchanged any) ∙ out_of_view f is in clash wrong)
  where
    clash : true ≡ false → ⊥
    clash e = cc

batches_fit : (f : Facts) → StandsIn f → HoldsPending f → HaveNumbers f → HasRanges f → All (λ b. IsBatch b.1) (batches_due (view_key f) f.store.content f.batches)
batches_fit f (StandsIn.inside some) held numbers r = due_batches_fit f some held numbers r
batches_fit f (StandsIn.outside is) held numbers r =
    subst (λ (ts : Targets). All (λ b. IsBatch b.1) (batches_due (view_key f) f.store.content ts)) (ap (λ (g : Facts). g.batches) is) (All-nil (λ b. IsBatch b.1))

pub taken_fits : (f : Facts) (hearing : Adjacent) (agree : Agreeing) (answer : answers.ProposalStep) (entered : Option (Box View)) (t : Ticked)
    → IsTicking f hearing agree answer entered → TicksFrom f hearing agree entered t → StandsIn f → HoldsPending f → HaveNumbers f → HasRanges f
    → HasRanges (plans.tick_taken f t)
taken_fits f hearing agree answer entered t h from stands held numbers r =
    let g : Facts = agreed f hearing agree entered in
    let fit : HasRanges g = later_fit f hearing agree answer entered h r in
    let inside : StandsIn g = later_stands f hearing agree answer entered h stands in
    let due : All (λ b. IsBatch b.1) (batches_due (view_key g) g.store.content g.batches) =
    batches_fit g inside (later_held f hearing agree answer entered h held) (later_count f hearing agree answer entered h numbers) fit in
    let sent : batches_due (view_key g) g.store.content g.batches ≡ t.batches.items =
    ap (λ (c : Content). batches_due (view_key g) c g.batches) (content_kept f hearing agree entered) ∙ sym from.batches in
    subst (λ (x : Facts). HasRanges (with_sent (settled_by x t.settlings.items) t.batches.items)) (sym (planned_facts f hearing agree entered t h.heard from))
    (sent_ranges (settled_by g t.settlings.items) t.batches.items (subst (λ (bs : List (ℕ × Batch)). All (λ b. IsBatch b.1) bs) sent due)
    (settled_ranges g t.settlings.items (settles_inside g t.settlings.items inside from.due) fit))

-- ---- what is known of the node

abbrev pub heard_as : ℕ → Role → Hearing → Adjacent
heard_as me role hearing = record { me = me; role = role; hearing = hearing }

-- what the agreement says is what the rules say
pub proposed_so : (f : Facts) (x y : Agreeing) (answer : answers.ProposalStep) (set : List Member) (candidate : Bool) → x.me ≡ f.me → x.agreement ≡ f.agreement
    → set ≡ neighbours (after_ages f) → candidate ≡ is_candidate (after_ages f)
    → y ≡ with_agreement x (ticking x.me x.agreement set candidate) → answer ≡ tick_answer x.me x.agreement set candidate
    → IsProposed (after_ages f) y answer
proposed_so f x y answer set candidate me agrees same_set same_candidate went said = record {
  agreement = ap (λ (z : Agreeing). z.agreement) went ∙ ap₂ (λ (m : ℕ) (a : Agreement). ticking m a set candidate) me agrees
      ∙ ap₂ (λ (ms : List Member) (b : Bool). ticking f.me f.agreement ms b) same_set same_candidate
      ∙ sym (ticking_twice f.me f.agreement (neighbours (after_ages f)) (is_candidate (after_ages f)));
  answered = said ∙ ap₂ (λ (m : ℕ) (a : Agreement). tick_answer m a set candidate) me agrees
      ∙ ap₂ (λ (ms : List Member) (b : Bool). tick_answer f.me f.agreement ms b) same_set same_candidate
      ∙ sym (answer_twice f.me f.agreement (neighbours (after_ages f)) (is_candidate (after_ages f)));
}

-- whether the node is a candidate is seen of what the parts of the tick see
pub candidate_so : (f g : Facts) (hearing : Adjacent) (a : Agreement) → g ≡ record f { hearing = hearing.hearing; agreement = a }
    → hearing ≡ record { me = f.me; role = f.role; hearing = ticked f.me f.role f.hearing } → is_candidate g ≡ is_candidate (after_ages f)
candidate_so f g hearing a is heard =
    ap (λ (x : Facts). is_candidate x) is ∙ ap (λ (x : Adjacent). is_candidate (record f { hearing = x.hearing; agreement = a })) heard

-- and so are the heartbeats
pub beats_so : (f g : Facts) (hearing : Adjacent) (a : Agreement) → g ≡ record f { hearing = hearing.hearing; agreement = a } → a ≡ f.agreement
    → hearing ≡ record { me = f.me; role = f.role; hearing = ticked f.me f.role f.hearing } → tick.beat g ≡ tick.beat (after_ages f)
beats_so f g hearing a is agrees heard =
    ap (λ (x : Facts). tick.beat x) is ∙ ap₂ (λ (x : Adjacent) (y : Agreement). tick.beat (record f { hearing = x.hearing; agreement = y })) heard agrees

pub stands_so : (f : Facts) (own : Option (Bor View)) → is_some own ≡ is_some f.exchange.view → (own ≡ None → with_view f None ≡ f) → StandsIn f
stands_so f None some none = StandsIn.outside (none refl)
stands_so f (Some v) some none = StandsIn.inside (sym some)

pub pending_so : (f : Facts) (own : Option (Bor View)) → (own ≡ None → with_view f None ≡ f) → IfSome own (λ v. IsViewOf f v.now) → HoldsPending f
pending_so f None none views =
    subst (λ (ts : Targets). AreHeld f.store.content ts) (ap (λ (g : Facts). g.batches) (none refl)) (record { held = λ k d within. absurd (omega (arith, within)) })
pending_so f (Some v) none views = subst (λ (ts : Targets). AreHeld f.store.content ts) (ap (λ (g : Facts). g.batches) views.viewed.view) views.pending

-- what is so however a call ends is so where it fails
pub on_err : {X E : Type 0} (r : Result X E) (P : Type 0) → P → OnErr r P
on_err (Ok x) P p = tt
on_err (Err e) P p = p

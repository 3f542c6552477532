-- Acceptances and commits, and the views that are entered with them.
use Rattle.std.proofs.Common.{◌≡◌, ◌≢◌, ◌==◌, ◌&&◌, ℕ, Bool, true, false, List, [], ◌∷◌, ◌++◌, append_assoc, Option, Some, None, map, if◌then◌else◌, refl, sym, ap, ap₂, subst, ◌∙◌, arith}
use Rattle.std.proofs.lemmas.Bool.{and_parts}
use Rattle.std.proofs.lemmas.Bool.Decides.{nat_tests}
use Rattle.std.specs.Global.{Box}
use Rattle.std.specs.Option.{ForSome}
use Rattle.cluster_types.specs.declared.cluster_key.ClusterKey.{ClusterKey}
use Rattle.cluster_types.specs.declared.member.Member.{Member}
use Rattle.cluster_types.specs.ClusterKeys.{key_lt}
use Rattle.partition_lists.proofs.InOrderLaws.{equal}
use Rattle.journal_lines.specs.declared.line.Line.{Line}
use Rattle.journal_lines.specs.declared.line.Line.TheVariants as line
use Rattle.wire_messages.specs.Keys.{IsKeyField}
use Rattle.wire_messages.specs.Spelling.{spelling}
use Rattle.wire_messages.specs.declared.message.Message.TheVariants as message
use Rattle.clustering.specs.Agreeing.{Agreeing}
use Rattle.clustering.specs.Answers.{proposed_members}
use Rattle.node_rules.specs.Agreement as agreement
use Rattle.node_rules.specs.Agreement.{Agreement, Proposal, is_accepted_with, others_among, proposes, without_missing, accepted_by, agreement_entered}
use Rattle.node_rules.specs.ByParts as parts
use Rattle.node_rules.specs.Copies.{is_nil}
use Rattle.node_rules.specs.Effects.{Effects, lines_only, nothing, to_each}
use Rattle.node_rules.specs.Entering.{closing, entering}
use Rattle.node_rules.specs.Exchange.{Exchange, is_member, is_single, members_of}
use Rattle.node_rules.specs.Facts.{Facts}
use Rattle.node_rules.specs.Keys.{same_key}
use Rattle.node_rules.specs.Messages as due
use Rattle.node_rules.specs.Steps.{after_message}
use Rattle.node_rules.proofs.PartLaws.{accept_is, commit_is, last_accept_is}
use Rattle.node_view.specs.declared.view.View.{View}
use Rattle.node_view.specs.Views.{IsEntered, Viewed, view_at_entry}
use Rattle.node_steps.specs.declared.effects.Effects as told
use Rattle.node_steps.specs.Fits.{FitsAgreed, IsNewView}
use Rattle.node_steps.specs.Plans.{agreed}
use Rattle.node_steps.specs.Ranges.{HasRanges}
use Rattle.node_steps.specs.Spelled.{then_effects, spelled, with_sends}
use Rattle.node_steps.proofs.AckLaws.{same_key_is}
use Rattle.node_core.proofs.EnteringLaws.{agreed_alike, entered_is, entered_view, ranges_entered}
use Rattle.node_steps.proofs.RangeLaws.{keys_of}
use Rattle.node_steps.proofs.SpelledLaws.{each_spelled}
use Rattle.node_rules.specs.StaleMessages.{stale}
use Rattle.node_rules.specs.Tables.{only_if}
use Rattle.node_rules.specs.VoteMessages.{commit_effects}

-- ---- an Accept that doesn't count

pub stale_accept : (f : Facts) (from : ℕ) (key : ClusterKey) → proposes f.agreement.proposal key ≡ false → due.due_accept f from key ≡ due.stale f
stale_accept f from key e = go f.agreement.proposal (proposes f.agreement.proposal key) e
  where
    go : (o : Option Proposal) (b : Bool) → b ≡ false
        → due.accept_effects f from key o b ≡ due.stale f
    go None b none = refl
    go (Some p) false none = refl
    go (Some p) true none = cc

uncounted : (a : Agreement) (from : ℕ) (key : ClusterKey) (b accepted : Bool) → b ≡ false
    → (if b && accepted then agreement_entered (if b then record a { proposal = accepted_by a.proposal from } else a) key else (if b then record a { proposal = accepted_by a.proposal from } else a)) ≡ a
uncounted a from key false accepted e = refl
uncounted a from key true accepted e = cc

pub after_stale_accept : (f : Facts) (from : ℕ) (key : ClusterKey) → proposes f.agreement.proposal key ≡ false → after_message f 0 from (message.Accept key) ≡ f
after_stale_accept f from key e =
    accept_is f 0 from key (ap (λ (b : Bool). b && is_accepted_with f.agreement.proposal from) e)
    ∙ ap (λ (a : Agreement). record f { agreement = a }) (uncounted f.agreement from key (proposes f.agreement.proposal key) (is_accepted_with f.agreement.proposal from) e)

-- ---- an Accept after which others are missing

pub waiting_accept : (f : Facts) (from : ℕ) (key : ClusterKey) → proposes f.agreement.proposal key ≡ true → is_accepted_with f.agreement.proposal from ≡ false
    → due.due_accept f from key ≡ nothing
waiting_accept f from key e i = go f.agreement.proposal e i
  where
    none_enters : (p : Proposal) (b : Bool) → b ≡ false → (if b then commit_effects f p else nothing) ≡ nothing
    none_enters p false none = refl
    none_enters p true none = cc

    go : (o : Option Proposal) → proposes o key ≡ true → is_accepted_with o from ≡ false → due.accept_effects f from key o (proposes o key) ≡ nothing
    go None of_none missing = cc
    go (Some p) held missing = ap (λ (b : Bool). due.accept_effects f from key (Some p) b) held ∙ none_enters p (is_nil (without_missing p from).missing) missing

pub after_waiting_accept : (f : Facts) (from : ℕ) (key : ClusterKey) → proposes f.agreement.proposal key ≡ true → is_accepted_with f.agreement.proposal from ≡ false
    → after_message f 0 from (message.Accept key) ≡ record f { agreement = agreement.counting f.agreement from key }
after_waiting_accept f from key e i = accept_is f 0 from key (ap₂ (λ (a b : Bool). a && b) e i)

-- ---- the last Accept

-- what is proposed under a key, once all have accepted it
pub record IsAccepted (o : Option Proposal) (from : ℕ) (key : ClusterKey) (ms : List Member) : Type 0 where
  pub proposal : Proposal
  pub proposed : o ≡ Some proposal
  pub key_of : proposal.key ≡ key
  pub members : proposal.members ≡ ms
  pub last : is_accepted_with (Some proposal) from ≡ true

pub accepted_by_all : (o : Option Proposal) (from : ℕ) (key k : ClusterKey) (ms : List Member) → proposes o key ≡ true → is_accepted_with o from ≡ true → k ≡ key → ms ≡ proposed_members o
    → IsAccepted o from k ms
accepted_by_all None from key k ms e i same of_it = cc
accepted_by_all (Some p) from key k ms e i same of_it = record { proposal = p; proposed = refl; key_of = same_key_is p.key key e ∙ sym same; members = sym of_it; last = i }

-- the view that the proposal is of is told
abbrev pub led : Facts → ClusterKey → List Member → Effects
led f key ms = record { lines = entering f key ms; sends = to_each (others_among f.me ms) (message.Commit key ms) }

pub last_accept : (f : Facts) (from : ℕ) (key k : ClusterKey) (ms : List Member) → proposes f.agreement.proposal key ≡ true → IsAccepted f.agreement.proposal from k ms
    → due.due_accept f from key ≡ led f k ms
last_accept f from key k ms e h =
    ap₂ (λ (o : Option Proposal) (b : Bool). due.accept_effects f from key o b) h.proposed e
    ∙ ap (λ (holds : Bool). if holds then commit_effects f h.proposal else nothing) h.last
    ∙ ap₂ (led f) h.key_of h.members

-- what was accepted is gone as the view is entered
counted_last : (a : Agreement) (from : ℕ) (key : ClusterKey) (b accepted : Bool) → b ≡ true → accepted ≡ true
    → (if b && accepted then agreement_entered (if b then record a { proposal = accepted_by a.proposal from } else a) key else (if b then record a { proposal = accepted_by a.proposal from } else a)) ≡ agreement.agreement_entered a key
counted_last a from key true true e i = refl
counted_last a from key false accepted e i = cc
counted_last a from key true false e i = cc

counts_last : (a : Agreement) (from : ℕ) (key : ClusterKey) → proposes a.proposal key ≡ true → is_accepted_with a.proposal from ≡ true
    → agreement.counting a from key ≡ agreement.agreement_entered a key
counts_last a from key e i = counted_last a from key (proposes a.proposal key) (is_accepted_with a.proposal from) e i

-- the node that has all acceptances is in the view
pub after_last_accept : (f : Facts) (from : ℕ) (key k : ClusterKey) (ms : List Member) (a : Agreement)
    → proposes f.agreement.proposal key ≡ true → is_accepted_with f.agreement.proposal from ≡ true → k ≡ key → IsAccepted f.agreement.proposal from k ms
    → a ≡ agreement.counting f.agreement from key → is_member ms f.me ≡ true
    → agreed f a (Some (view_at_entry f k ms)) ≡ after_message f 0 from (message.Accept key)
after_last_accept f from key k ms a e i same h is member =
    let entered_by : a ≡ agreement.agreement_entered f.agreement k = is ∙ counts_last f.agreement from key e i ∙ ap (agreement.agreement_entered f.agreement) (sym same) in
    let both : (proposes (Some h.proposal) key && is_accepted_with (Some h.proposal) from) ≡ true =
    ap₂ (λ (x y : Bool). x && y) (ap (λ (o : Option Proposal). proposes o key) (sym h.proposed) ∙ e) h.last in
    ap (λ (b : Agreement). agreed f b (Some (view_at_entry f k ms))) entered_by
    ∙ entered_is f k ms member
    ∙ sym (last_accept_is f 0 from key h.proposal h.proposed both ∙ ap₂ (parts.view_entered f) h.key_of h.members)

-- the key of what is proposed has a spelling
pub accepted_key : (o : Option Proposal) (from : ℕ) (k : ClusterKey) (ms : List Member) → IsAccepted o from k ms → ForSome o (λ p. IsKeyField p.key) → IsKeyField k
accepted_key o from k ms h fit = subst IsKeyField h.key_of (fit h.proposal h.proposed)

-- ---- commits

pub stale_commit : (f : Facts) (key : ClusterKey) (ms : List Member) → due.may_enter_view f key ms ≡ false → due.due_commit f key ms ≡ due.stale f
stale_commit f key ms e = ap (λ (holds : Bool). if holds then lines_only (entering f key ms) else stale f) e

pub after_stale_commit : (f : Facts) (key : ClusterKey) (ms : List Member) → due.may_enter_view f key ms ≡ false → after_message f 0 0 (message.Commit key ms) ≡ f
after_stale_commit f key ms e = commit_is f 0 0 key ms ∙ go (due.may_enter_view f key ms) e
  where
    go : (b : Bool) → b ≡ false → (if b then parts.view_entered f key ms else f) ≡ f
    go false none = refl
    go true none = cc

pub committed_member : (me : ℕ) (a : Agreement) (key : ClusterKey) (ms : List Member) → agreement.may_enter me a key ms ≡ true → is_member ms me ≡ true
committed_member me a key ms e = (and_parts (key_lt a.last key) (is_member ms me) (and_parts (same_key key a.promised) (key_lt a.last key && is_member ms me) e).1).1

pub after_commit : (f : Facts) (key : ClusterKey) (ms : List Member) (a : Agreement) → due.may_enter_view f key ms ≡ true → a ≡ agreement.committing f.me f.agreement key ms
    → agreed f a (Some (view_at_entry f key ms)) ≡ after_message f 0 0 (message.Commit key ms)
after_commit f key ms a may is =
    ap (λ (b : Agreement). agreed f b (Some (view_at_entry f key ms))) (is ∙ ap (λ (holds : Bool). if holds then agreement_entered f.agreement key else f.agreement) may)
    ∙ entered_is f key ms (committed_member f.me f.agreement key ms may)
    ∙ sym (commit_is f 0 0 key ms ∙ ap (λ (b : Bool). if b then parts.view_entered f key ms else f) may)

-- ---- leading

-- the lines of entering, and then a Commit to each of the other members
pub told_lead : (f : Facts) (key : ClusterKey) (ms : List Member) (ns : List ℕ) → ns ≡ others_among f.me ms
    → with_sends (then_effects (spelled nothing) (lines_only (entering f key ms))) (map (λ n. (n, spelling (message.Commit key ms))) ns) ≡ spelled (led f key ms)
told_lead f key ms ns same =
    ap (λ (ss : List (ℕ × List ℕ)). let e : told.Effects = record { lines = entering f key ms; sends = ss } in e)
    (ap (map (λ n. (n, spelling (message.Commit key ms)))) same ∙ each_spelled (others_among f.me ms) (message.Commit key ms))

-- the others of the view that is entered
pub others_entered : (f : Facts) (key : ClusterKey) (ms : List Member) (v : Viewed) → IsEntered f key ms v → others_among v.me (members_of v.exchange.view) ≡ others_among f.me ms
others_entered f key ms v h = ap₂ (λ (me : ℕ) (x : Exchange). others_among me (members_of x.view)) h.alike.me h.alike.exchange

-- what is sent in the view that is entered has a spelling
pub ranges_in_view : (f : Facts) (a : Agreement) (key : ClusterKey) (ms : List Member) (v : Viewed) → IsEntered f key ms v → IsKeyField key
    → HasRanges (record f { agreement = a }) → HasRanges (agreed f a (Some v))
ranges_in_view f a key ms v h k r =
    let g : Facts = record f { agreement = a } in
    subst HasRanges (sym (agreed_alike f a (view_at_entry f key ms) v h.alike)) (ranges_entered g a key ms r (keys_of g r) k)

-- ---- lines of entering

pub one_member : (n : ℕ) → n ≡ 1 → (n == 1) ≡ true
one_member n h = equal n 1 h

pub several_members : (n : ℕ) → n ≢ 1 → (n == 1) ≡ false
several_members n h = grind (arith, nat_tests, h)

-- the lines of transactions that end, then that of the view, and then that of the exchange, where it is over
pub told_entering : (before closed : told.Effects) (f : Facts) (key : ClusterKey) (ms : List Member) (me : ℕ) (ls after : List Line)
    → closed ≡ then_effects before (lines_only (closing f)) → me ≡ f.me → ls ≡ closed.lines ++ line.Enter me key ms ∷ [] → after ≡ ls ++ only_if (line.Exchanged me key) (is_single ms)
    → ◌≡◌ {A = told.Effects} (record { lines = after; sends = closed.sends }) (then_effects before (lines_only (entering f key ms)))
told_entering before closed f key ms me ls after ends own enters exchanges =
    ap₂ (λ (xs : List Line) (ss : List (ℕ × List ℕ)). let e : told.Effects = record { lines = xs; sends = ss } in e)
    (exchanges
    ∙ ap (λ (xs : List Line). xs ++ only_if (line.Exchanged me key) (is_single ms)) enters
    ∙ append_assoc closed.lines (line.Enter me key ms ∷ []) (only_if (line.Exchanged me key) (is_single ms))
    ∙ ap (λ (n : ℕ). closed.lines ++ (line.Enter n key ms ∷ only_if (line.Exchanged n key) (is_single ms))) own
    ∙ ap (λ (e : told.Effects). e.lines ++ (line.Enter f.me key ms ∷ only_if (line.Exchanged f.me key) (is_single ms))) ends
    ∙ append_assoc before.lines (closing f) (line.Enter f.me key ms ∷ only_if (line.Exchanged f.me key) (is_single ms)))
    (ap (λ (e : told.Effects). e.sends) ends)

-- ---- the step

-- the agreement and the view that is entered are the node's
pub fits_entered : (f : Facts) (agree : Agreeing) (key : ClusterKey) (ms : List Member) (view : Box View) → agree.me ≡ f.me → IsEntered f key ms view.value → FitsAgreed f agree (Some view)
fits_entered f agree key ms view own entered = record {
  agree_of = own;
  view = λ v e. let same : view ≡ v = cc in subst (λ (x : Box View). IsNewView f x.value) same (entered_view f key ms view.value entered);
}

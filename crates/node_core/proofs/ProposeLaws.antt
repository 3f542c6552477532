-- What a node proposes at a tick.
use Rattle.std.proofs.Common.{◌≡◌, ◌≤◌, ◌&&◌, ℕ, ◌+◌, Bool, true, false, not, List, [], ◌∷◌, Option, Some, None, refl, sym, ap, ap₂, subst, ◌∙◌, arith, if◌then◌else◌}
use Rattle.std.specs.Option.{ForSome}
use Rattle.std.proofs.lemmas.Bool.Decides.{nat_tests}
use Rattle.cluster_types.specs.declared.cluster_key.ClusterKey.{ClusterKey}
use Rattle.cluster_types.specs.declared.member.Member.{Member}
use Rattle.clustering.specs.Answers.{entered_or_sent, tick_answer}
use Rattle.clustering.specs.declared.steps.ProposalStep as answers
use Rattle.clustering.specs.declared.steps.ProposalStep.TheVariants as proposal
use Rattle.journal_lines.specs.declared.line.Line.{Line}
use Rattle.journal_lines.specs.declared.line.Line.TheVariants as line
use Rattle.wire_messages.specs.declared.message.Message.TheVariants as message
use Rattle.node_rules.specs.Agreement as agreement
use Rattle.node_rules.specs.Agreement.{Agreement, Proposal, enters_alone, has_round, next_key, proposes_anew, proposes_set, seen_round, still_proposing, ticking, others_among, proposing_to}
use Rattle.node_rules.specs.Copies.{is_nil}
use Rattle.node_rules.specs.Effects as rules
use Rattle.node_rules.specs.Effects.{lines_only, nothing, sends_only, to_each}
use Rattle.node_rules.specs.Entering.{entering}
use Rattle.node_rules.specs.Facts.{Facts}
use Rattle.node_rules.specs.Keys.{same_key}
use Rattle.node_rules.specs.Notes.{neighbours}
use Rattle.node_rules.specs.Tick.{is_candidate, propose, proposal_effects}
use Rattle.node_rules.proofs.Agreeing.{same_itself}
use Rattle.wire_messages.specs.Keys.{IsKeyField}
use Rattle.node_rules.specs.Tables.{only_if}
use Rattle.node_steps.specs.declared.effects.Effects.{Effects}
use Rattle.node_steps.specs.Spelled.{then_effects}
use Rattle.node_steps.proofs.SpelledLaws.{told_twice}

-- ---- the agreement

kept_twice : (set : List Member) (o : Option Proposal) (b : Bool) → proposes_set o set ≡ b → (if proposes_set (if b then o else None) set then (if b then o else None) else None) ≡ (if b then o else None)
kept_twice set o true e = ap (λ (b : Bool). (if b then o else None)) e
kept_twice set o false e = refl

-- what was given up of a proposal is given up once
pub still_twice : (a : Agreement) (set : List Member) → still_proposing (still_proposing a set) set ≡ still_proposing a set
still_twice a set = ap (λ (o : Option Proposal). record a { proposal = o }) (kept_twice set a.proposal (proposes_set a.proposal set) refl)

pub ticking_twice : (me : ℕ) (a : Agreement) (set : List Member) (candidate : Bool) → ticking me (still_proposing a set) set candidate ≡ ticking me a set candidate
ticking_twice me a set candidate = ap (λ (x : Agreement). (if proposes_anew x candidate then proposing_to me x (next_key me x) set (others_among me set) else x)) (still_twice a set)

pub answer_twice : (me : ℕ) (a : Agreement) (set : List Member) (candidate : Bool) → tick_answer me (still_proposing a set) set candidate ≡ tick_answer me a set candidate
answer_twice me a set candidate =
    ap (λ (x : Agreement). entered_or_sent (enters_alone me x set candidate) (next_key me a) set (if proposes_anew x candidate then proposing_to me x (next_key me x) set (others_among me set) else x).proposal) (still_twice a set)

-- ---- what is said of the proposal

-- what is due of that answer
abbrev pub due_answer : Facts → answers.ProposalStep → rules.Effects
due_answer f proposal.Nothing = nothing
due_answer f (proposal.Send key members to) = sends_only (to_each to (message.Propose key members))
due_answer f (proposal.Enter key members) = lines_only (entering f key members)

-- the promise that is told, where it is another one
abbrev pub promise_lines : Facts → ClusterKey → List Line
promise_lines f key = only_if (line.Promise f.me key) (not (same_key key f.agreement.promised))

-- a new key is another one
new_key : (me : ℕ) (a : Agreement) → same_key (next_key me a) a.promised ≡ false
new_key me a = above (seen_round a) me a.promised (seen_most a)
  where
    seen_most : (x : Agreement) → x.promised.round ≤ seen_round x
    seen_most x = omega arith

    above : (seen n : ℕ) (k : ClusterKey) → k.round ≤ seen → same_key (record { round = seen + 1; principal = n }) k ≡ false
    above seen n k most = grind (arith, nat_tests)

abbrev answer_by : ℕ → Agreement → List Member → Bool → answers.ProposalStep
answer_by me a set candidate = entered_or_sent (enters_alone me a set candidate) (next_key me a) set (if proposes_anew a candidate then proposing_to me a (next_key me a) set (others_among me set) else a).proposal

abbrev pub told_by : Facts → Agreement → answers.ProposalStep → rules.Effects
told_by f a answer = rules.followed_by (lines_only (promise_lines f a.promised)) (due_answer f answer)

-- facts with a proposal or none
abbrev with_proposal : Facts → Option Proposal → Facts
with_proposal f o = record f { agreement = record f.agreement { proposal = o } }

-- what is promised as a view is proposed
said_anew : (f : Facts) (key : ClusterKey) (set : List Member) (ns : List ℕ) → f.agreement.proposal ≡ None → ns ≡ agreement.others_among f.me set → same_key key f.agreement.promised ≡ false
    → proposal_effects f key set ns ≡ told_by f (agreement.proposing_to f.me f.agreement key set ns) (entered_or_sent (is_nil ns) key set (agreement.proposing_to f.me f.agreement key set ns).proposal)
said_anew f key set [] none same new = rw new refl
said_anew f key set (n ∷ ns) none same new =
    let anew : Option Proposal → Agreement = λ (o : Option Proposal). agreement.proposing (agreement.promising (record f.agreement { proposal = o }) key) f.me key set in
    ap (λ (to : List ℕ). record { lines = line.Promise f.me key ∷ []; sends = to_each to (message.Propose key set) }) same
    ∙ sym (rw new refl)
    ∙ ap (λ (o : Option Proposal). told_by f (anew o) (entered_or_sent false key set (anew o).proposal)) (sym none)

said_none : (f : Facts) (b : Bool) → f.agreement.proposal ≡ None
    → (if b then proposal_effects f (next_key f.me f.agreement) (neighbours f) (agreement.others_among f.me (neighbours f)) else nothing)
    ≡ told_by f (if b then proposing_to f.me f.agreement (next_key f.me f.agreement) (neighbours f) (others_among f.me (neighbours f)) else f.agreement) (entered_or_sent (b && is_nil (agreement.others_among f.me (neighbours f))) (next_key f.me f.agreement) (neighbours f) (if b then proposing_to f.me f.agreement (next_key f.me f.agreement) (neighbours f) (others_among f.me (neighbours f)) else f.agreement).proposal)
said_none f true none =
    said_anew f (next_key f.me f.agreement) (neighbours f) (agreement.others_among f.me (neighbours f)) none refl (new_key f.me f.agreement)
said_none f false none = rw (same_itself f.agreement.promised, none) refl

said : (f : Facts) (o : Option Proposal)
    → propose (with_proposal f o)
    ≡ told_by (with_proposal f o) (if proposes_anew (with_proposal f o).agreement (is_candidate f) then proposing_to f.me (with_proposal f o).agreement (next_key f.me (with_proposal f o).agreement) (neighbours f) (others_among f.me (neighbours f)) else (with_proposal f o).agreement) (answer_by f.me (with_proposal f o).agreement (neighbours f) (is_candidate f))
said f (Some p) = rw (same_itself f.agreement.promised) refl
said f None = said_none (with_proposal f None) (is_candidate f && has_round f.agreement) refl

-- what the agreement says at a tick is due, with the line of a promise where there is a new one
pub proposed_as : (f : Facts) (a : Agreement) (answer : answers.ProposalStep) → still_proposing f.agreement (neighbours f) ≡ f.agreement
    → a ≡ ticking f.me f.agreement (neighbours f) (is_candidate f) → answer ≡ tick_answer f.me f.agreement (neighbours f) (is_candidate f)
    → propose f ≡ told_by f a answer
proposed_as f a answer still is answered =
    let set : List Member = neighbours f in
    let b : Bool = is_candidate f in
    said f f.agreement.proposal
    ∙ ap (λ (x : Agreement). told_by f (if proposes_anew x b then proposing_to f.me x (next_key f.me x) set (others_among f.me set) else x) (entered_or_sent (enters_alone f.me x set b) (next_key f.me f.agreement) set (if proposes_anew x b then proposing_to f.me x (next_key f.me x) set (others_among f.me set) else x).proposal)) (sym still)
    ∙ ap₂ (λ (x : Agreement) (y : answers.ProposalStep). told_by f x y) (sym is) (sym answered)

-- ---- what follows from an answer

-- a proposal that is sent has a key that has a spelling
pub sent_key : (b : Bool) (k key : ClusterKey) (set ms : List Member) (to : List ℕ) (o : Option Proposal) → ForSome o (λ p. IsKeyField p.key)
    → proposal.Send key ms to ≡ entered_or_sent b k set o → IsKeyField key
sent_key true k key set ms to o h e = cc
sent_key false k key set ms to None h e = cc
sent_key false k key set ms to (Some p) h e = let same : p.key ≡ key = cc in subst IsKeyField same (h p refl)

-- a view that is entered is one of these members
pub entered_set : (b : Bool) (k key : ClusterKey) (set ms : List Member) (o : Option Proposal) → proposal.Enter key ms ≡ entered_or_sent b k set o → ms ≡ set
entered_set true k key set ms o e = cc
entered_set false k key set ms None e = cc
entered_set false k key set ms (Some p) e = cc

-- what is told of an answer is what is due
pub told_answer : (told : Effects) (f : Facts) (a : Agreement) (answer : answers.ProposalStep) → propose f ≡ told_by f a answer
    → then_effects (then_effects told (lines_only (promise_lines f a.promised))) (due_answer f answer) ≡ then_effects told (propose f)
told_answer told f a answer is =
    told_twice told (lines_only (promise_lines f a.promised)) (due_answer f answer) ∙ ap (λ (e : rules.Effects). then_effects told e) (sym is)

-- What a request comes to, by why it is refused.
use Rattle.std.proofs.Common.{◌≡◌, ◌+◌, ℕ, List, [], ◌∷◌, Option, Some, None, sym, ap, ◌∙◌}
use Rattle.conflict_order.specs.declared.want.Want.{Want}
use Rattle.cluster_types.specs.Partitions.{partition_of}
use Rattle.journal_lines.specs.declared.line.Line.TheVariants as line
use Rattle.journal_lines.specs.declared.refusal.Refusal.{Refusal}
use Rattle.node_rules.specs.ByParts.{requested}
use Rattle.node_rules.specs.Effects.{lines_only}
use Rattle.node_rules.specs.Facts.{Facts, list_at}
use Rattle.node_rules.specs.Requests.{due_request, request_refusal, request_if}
use Rattle.node_rules.specs.Steps.{Planning, after_request, planning, unplanned}
use Rattle.node_rules.proofs.PartLaws.{request_is}
use Rattle.node_core.specs.declared.answered.Answered.TheVariants as answered
use Rattle.node_core.specs.Requests.{request_answer, answer_with}
use Rattle.node_steps.specs.Spelled.{spelled}

-- why it is refused, also where that is seen after the node has given up what was planned
pub refusal_is : (p : Planning) (f : Facts) (digest : List ℕ) (o : Option Refusal) → p ≡ unplanned f → o ≡ request_refusal p.now (list_at p.now (partition_of digest)) digest
    → request_refusal f (list_at f (partition_of digest)) digest ≡ o
refusal_is p f digest o back is = sym (is ∙ ap (λ (q : Planning). request_refusal q.now (list_at q.now (partition_of digest)) digest) back)

pub refused_answer : (f : Facts) (digest : List ℕ) (cause : Refusal) → request_refusal f (list_at f (partition_of digest)) digest ≡ Some cause → answered.Refused cause ≡ request_answer f digest
refused_answer f digest cause refused = ap (answer_with f) (sym refused)

pub refused_due : (p : Planning) (f : Facts) (clock : ℕ) (digest : List ℕ) (w : Want) (cause : Refusal) → p ≡ unplanned f → request_refusal f (list_at f (partition_of digest)) digest ≡ Some cause
    → spelled (lines_only (line.Refused p.now.me digest cause ∷ [])) ≡ spelled (due_request f clock digest w)
refused_due p f clock digest w cause back refused =
    ap (λ (q : Planning). spelled (lines_only (line.Refused q.now.me digest cause ∷ []))) back
    ∙ ap (λ (o : Option Refusal). spelled (request_if f clock (list_at f (partition_of digest)) digest w o)) (sym refused)

-- a refusal leaves the facts as they are
pub refused_after : (p : Planning) (f : Facts) (clock : ℕ) (digest : List ℕ) (w : Want) (cause : Refusal) → p ≡ unplanned f → request_refusal f (list_at f (partition_of digest)) digest ≡ Some cause
    → planning p.now p.now ≡ planning f (after_request f clock digest w)
refused_after p f clock digest w cause back refused =
    ap (λ (q : Planning). planning q.now q.now) back
    ∙ ap (planning f) (sym (request_is f clock digest w ∙ ap (requested f clock (list_at f (partition_of digest)) digest w) refused))

pub opened_answer : (p : Planning) (f : Facts) (digest : List ℕ) → p ≡ unplanned f → request_refusal f (list_at f (partition_of digest)) digest ≡ None
    → answered.Opened (p.now.transactions.opened + 1) ≡ request_answer f digest
opened_answer p f digest back accepted =
    ap (λ (q : Planning). answered.Opened (q.now.transactions.opened + 1)) back ∙ ap (answer_with f) (sym accepted)

use Rattle.std.proofs.Common.{◌≡◌, ℕ, true, false, [], ◌∷◌, ◌++◌, List, ap, ap₂, subst, sym, ◌∙◌}
use Rattle.cluster_types.specs.declared.cluster_key.ClusterKey.{ClusterKey}
use Rattle.journal_lines.specs.declared.line.Line.{Line}
use Rattle.journal_lines.specs.declared.line.Line.TheVariants as line
use Rattle.node_rules.specs.Copies.{Row}
use Rattle.node_rules.specs.Exchange.{Exchange, first_missing, members_of}
use Rattle.node_rules.specs.Facts.{view_key}
use Rattle.node_rules.specs.Map.{lacks}
use Rattle.node_rules.specs.Notes.{exchanged}
use Rattle.node_view.specs.Fits.{FitsStep}
use Rattle.node_view.specs.Plans.{facts_with_row, view_taken}
use Rattle.node_view.specs.Views.{viewed_key}
use Rattle.node_steps.specs.declared.effects.Effects.{Effects}
use Rattle.node_steps.specs.Viewing.{finishes_with}
use Rattle.node_steps.proofs.MemberLaws.{not_false, not_true}
use Rattle.node_steps.proofs.RowMessageLaws.{after_last, after_more, after_there, full_has, is_last, is_more, last_finishes, last_fits, missing_stays, more_fits, more_goes_on, none_finishes, other_from, told_last, told_no_line}
use Rattle.node_steps.proofs.messages.states.plan_row.Goals as goal

pub returns-in_default-clause-planned : goal.returns-in_default-clause-planned
returns-in_default-clause-planned c = λ f h.
    let v = c.args.view.now in
    let row = c.args.row.now in
    let there = full_has v.exchange.rows (members_of v.exchange.view) c.args.from c.in_default.ensures.whole (other_from v c.args.from c.requires.member).member in
    after_there f v c.args.from row h.view.viewed there (none_finishes v c.args.from row (not_false v.exchange.exchanged c.in_default.ensures.some))

pub returns-then-not-lacks-clause-planned : goal.returns-then-not-lacks-clause-planned
returns-then-not-lacks-clause-planned c = λ f h.
    let v = c.args.view.now in
    let from = c.args.from in
    let there : lacks v.exchange.rows from ≡ false = ap (λ (x : Exchange). lacks x.rows from) (sym c.in-Some.ensures.exchange) ∙ sym c.lacks.ensures ∙ c.if-not-lacks.true in
    let missing = ap (λ (x : Exchange). first_missing x.rows (members_of x.view)) (sym c.in-Some.ensures.exchange) ∙ c.missing.ensures in
    after_there f v from c.args.row.now h.view.viewed there (missing_stays v from c.missing.result c.args.row.now there missing)

pub returns-then-not-is_last_missing-clause-lines : goal.returns-then-not-is_last_missing-clause-lines
returns-then-not-is_last_missing-clause-lines c =
    let v = c.args.view.now in
    let from = c.args.from in
    let lacking : lacks v.exchange.rows from ≡ true = ap (λ (x : Exchange). lacks x.rows from) (sym c.in-Some.ensures.exchange) ∙ sym c.lacks.ensures ∙ c.if-not-lacks.false in
    let more = is_more v from c.args.row.now c.is_last_missing.result c.is_last_missing.ensures lacking c.if-not-is_last_missing.true in
    told_no_line c.args.out.now (line.Exchanged v.me (viewed_key v)) (finishes_with v from c.args.row.now) (more_goes_on v from c.args.row.now more)

pub returns-then-not-is_last_missing-clause-planned : goal.returns-then-not-is_last_missing-clause-planned
returns-then-not-is_last_missing-clause-planned c = λ f h.
    let v = c.args.view.now in
    let from = c.args.from in
    let lacking : lacks v.exchange.rows from ≡ true = ap (λ (x : Exchange). lacks x.rows from) (sym c.in-Some.ensures.exchange) ∙ sym c.lacks.ensures ∙ c.if-not-lacks.false in
    let more = is_more v from c.args.row.now c.is_last_missing.result c.is_last_missing.ensures lacking c.if-not-is_last_missing.true in
    ap (view_taken f) c.in_ok-step.ensures.ok ∙ ap (facts_with_row f from) c.in_ok-row.ensures ∙ after_more f v from c.args.row.now h.view.viewed (more_goes_on v from c.args.row.now more)

pub returns-then-not-is_last_missing-clause-fits : goal.returns-then-not-is_last_missing-clause-fits
returns-then-not-is_last_missing-clause-fits c = λ f h some.
    let v = c.args.view.now in
    let from = c.args.from in
    let lacking : lacks v.exchange.rows from ≡ true = ap (λ (x : Exchange). lacks x.rows from) (sym c.in-Some.ensures.exchange) ∙ sym c.lacks.ensures ∙ c.if-not-lacks.false in
    let more = is_more v from c.in_ok-row.row c.is_last_missing.result c.is_last_missing.ensures lacking c.if-not-is_last_missing.true in
    record { step = subst (FitsStep f) (sym c.in_ok-step.ensures.ok) (more_fits f v from c.in_ok-row.row h.view.viewed c.requires.member more); in_one = some }

pub is_last_missing-requires : goal.is_last_missing-requires
is_last_missing-requires c = other_from c.args.view.now c.args.from c.requires.member

pub plan_last_row-requires-clause-member : goal.plan_last_row-requires-clause-member
plan_last_row-requires-clause-member c = other_from c.args.view.now c.args.from c.requires.member

pub plan_last_row-requires-clause-last : goal.plan_last_row-requires-clause-last
plan_last_row-requires-clause-last c =
    let v = c.args.view.now in
    let from = c.args.from in
    let lacking : lacks v.exchange.rows from ≡ true = ap (λ (x : Exchange). lacks x.rows from) (sym c.in-Some.ensures.exchange) ∙ sym c.lacks.ensures ∙ c.if-not-lacks.false in
    (is_last v from c.in_ok-row.row c.is_last_missing.result c.is_last_missing.ensures lacking c.if-not-is_last_missing.false (not_true v.exchange.exchanged c.in-Some.ensures.some)).none

pub returns-clause-lines : goal.returns-clause-lines
returns-clause-lines c =
    let v = c.args.view.now in
    let from = c.args.from in
    let out = c.args.out.now in
    let lacking : lacks v.exchange.rows from ≡ true = ap (λ (x : Exchange). lacks x.rows from) (sym c.in-Some.ensures.exchange) ∙ sym c.lacks.ensures ∙ c.if-not-lacks.false in
    let last = is_last v from c.args.row.now c.is_last_missing.result c.is_last_missing.ensures lacking c.if-not-is_last_missing.false (not_true v.exchange.exchanged c.in-Some.ensures.some) in
    let with_lines : List Line → Effects = λ (ls : List Line). record { lines = ls; sends = out.sends } in
    ap with_lines (c.in_ok-push.ensures.ok ∙ ap₂ (λ (me : ℕ) (key : ClusterKey). out.lines ++ line.Exchanged me key ∷ []) c.me.ensures c.key.ensures)
    ∙ told_last out (line.Exchanged v.me (viewed_key v)) (finishes_with v from c.args.row.now) (last_finishes v from c.args.row.now last)

pub returns-clause-planned : goal.returns-clause-planned
returns-clause-planned c = λ f h.
    let v = c.args.view.now in
    let from = c.args.from in
    let lacking : lacks v.exchange.rows from ≡ true = ap (λ (x : Exchange). lacks x.rows from) (sym c.in-Some.ensures.exchange) ∙ sym c.lacks.ensures ∙ c.if-not-lacks.false in
    let last = is_last v from c.args.row.now c.is_last_missing.result c.is_last_missing.ensures lacking c.if-not-is_last_missing.false (not_true v.exchange.exchanged c.in-Some.ensures.some) in
    ap (view_taken f) c.in_ok-step-2.ensures.ok ∙ ap₂ (λ (n : ℕ) (r : Row). exchanged (facts_with_row f n r) (view_key f)) c.in_ok-last.ensures.row.0 (c.in_ok-last.ensures.row.1 ∙ c.in_ok-row.ensures)
    ∙ after_last f v from c.args.row.now h.view.viewed (last_finishes v from c.args.row.now last)

pub returns-clause-fits : goal.returns-clause-fits
returns-clause-fits c = λ f h some.
    let v = c.args.view.now in
    let from = c.args.from in
    let lacking : lacks v.exchange.rows from ≡ true = ap (λ (x : Exchange). lacks x.rows from) (sym c.in-Some.ensures.exchange) ∙ sym c.lacks.ensures ∙ c.if-not-lacks.false in
    let last = is_last v from c.in_ok-row.row c.is_last_missing.result c.is_last_missing.ensures lacking c.if-not-is_last_missing.false (not_true v.exchange.exchanged c.in-Some.ensures.some) in
    record {
      step = subst (FitsStep f) (sym c.in_ok-step-2.ensures.ok)
          (last_fits f v c.args.store.now from c.in_ok-row.row c.in_ok-last.last h c.requires.member c.in_ok-last.ensures.row.0 c.in_ok-last.ensures.row.1 c.in_ok-last.ensures.served c.in_ok-last.ensures.key c.in_ok-last.ensures.targets last);
      in_one = some;
    }

use Rattle.std.proofs.Common.{◌≡◌, ◌&&◌, ℕ, Bool, true, false, [], ◌∷◌, sym, ap, ap₂, subst, ◌∙◌, if◌then◌else◌}
use Rattle.cluster_types.specs.Partitions.{partition_count}
use Rattle.wire_messages.specs.declared.message.Message.{Message}
use Rattle.wire_messages.specs.Proper.{IsProper}
use Rattle.wire_messages.specs.Spelling.{spelling}
use Rattle.node_rules.specs.Facts.{Facts}
use Rattle.node_rules.specs.Notes.{progress_came}
use Rattle.node_rules.specs.Standing.{knows_all_settled}
use Rattle.node_steps.specs.declared.effects.Effects.{Effects}
use Rattle.node_steps.specs.Spelled.{spelled, with_sends}
use Rattle.node_steps.proofs.RowMessageLaws.{all_settled_came, and_both, and_false, and_no, answer_is_due, answer_proper}
use Rattle.node_steps.proofs.messages.progress_messages.progress_effects.Goals.{then-not-wants-via-then-not-wants, then-not-wants-via-else-not-wants+then-not-knows_all_settled_with}
use Rattle.node_steps.proofs.messages.progress_messages.progress_effects.Goals as goal
use Rattle.node_rules.specs.Effects.{nothing, sends_only, to_one}
use Rattle.node_rules.specs.Tick.{progress_message}

pub returns-then-not-wants : goal.returns-then-not-wants
returns-then-not-wants c = λ f done h.
    let g : Facts = progress_came f c.args.to done c.args.handed.now c.args.settled.now true in
    let none : (c.args.wants && knows_all_settled g partition_count 0) ≡ false = elim c.then-not-wants.branch [
      | then-not-wants-via-then-not-wants w ↦ and_false c.args.wants (knows_all_settled g partition_count 0) w.if-not-wants.true
      | then-not-wants-via-else-not-wants+then-not-knows_all_settled_with w ↦
          and_no c.args.wants (knows_all_settled g partition_count 0)
          (all_settled_came f c.args.to done c.args.handed.now c.args.settled.now ∙ sym (w.knows_all_settled_with.ensures f h) ∙ w.if-not-knows_all_settled_with.true)
    ] in
    c.new-out.ensures ∙ ap (λ (b : Bool). spelled (if b then sends_only (to_one c.args.to (progress_message partition_count g false)) else nothing)) (sym none)

pub send-requires : goal.send-requires
send-requires c =
    subst IsProper (sym c.in_ok-answer.ensures)
    (answer_proper c.args.view.now c.args.handed.now c.args.settled.now c.requires.key c.requires.own_handed c.requires.own_settled c.requires.handed c.requires.settled)

pub returns : goal.returns
returns c = λ f done h.
    let to = c.args.to in
    let g : Facts = progress_came f to done c.args.handed.now c.args.settled.now true in
    let all : (c.args.wants && knows_all_settled g partition_count 0) ≡ true =
    and_both c.args.wants (knows_all_settled g partition_count 0) c.if-not-wants.false
    (all_settled_came f to done c.args.handed.now c.args.settled.now ∙ sym (c.knows_all_settled_with.ensures f h) ∙ c.if-not-knows_all_settled_with.false) in
    c.in_ok-send.ensures
    ∙ ap (λ (n : ℕ). with_sends c.new-out.result ((n, spelling c.in_ok-answer.answer) ∷ [])) c.number.ensures.same
    ∙ ap₂ (λ (o : Effects) (m : Message). with_sends o ((to, spelling m) ∷ [])) c.new-out.ensures
    (c.in_ok-answer.ensures ∙ answer_is_due f c.args.view.now to done c.args.handed.now c.args.settled.now h.viewed)
    ∙ ap (λ (b : Bool). spelled (if b then sends_only (to_one to (progress_message partition_count g false)) else nothing)) (sym all)

-- A node that is alone comes to calm, and is calm then.
use Rattle.std.proofs.Common.{◌≡◌, ℕ, zero, suc, ◌+◌, ◌<◌, ◌≤◌, inl, Bool, true, false, not, ◌&&◌, ◌||◌, List, [], ◌∷◌, None, refl, sym, ap, ap₂, ◌∙◌, arith}
use Rattle.std.specs.List.{list_any}
use Rattle.cluster_types.specs.Partitions.{partition_count}
use Rattle.cluster_types.specs.Rows.{bit}
use Rattle.conflict_order.specs.declared.policy.Policy.TheVariants.{Time}
use Rattle.script_lang.specs.declared.script.Command.TheVariants as command
use Rattle.journal_lines.specs.declared.line.Line.{Line}
use Rattle.journal_lines.specs.declared.line.Line.TheVariants as line
use Rattle.node_rules.specs.Copies.{Row, holds_of}
use Rattle.node_rules.specs.Examples.{key, itself, ticked_twice}
use Rattle.node_rules.specs.Facts.{Facts, list_at}
use Rattle.node_rules.specs.Notes.{note, noted}
use Rattle.node_rules.specs.Notes as notes
use Rattle.node_rules.specs.Standing.{knows_settled, knows_all_settled, is_to_learn, is_to_drop, is_done, is_own_replica, has_nothing_to_learn_or_drop, is_at_rest_of}
use Rattle.node_rules.proofs.Empty.{empty_row, clear_bit}
use Rattle.cluster_rules.specs.declared.event.Event.TheVariants as event
use Rattle.cluster_rules.specs.Calm.{is_calm_of}
use Rattle.cluster_rules.specs.CalmBound.{is_full_line, is_full_round, IsWithinCalm}
use Rattle.cluster_rules.specs.Runs.{Calms, Run}
use Rattle.cluster_rules.specs.Steps.{Played, all_lines, no_steps, then_played, stepping, play, play_all, flows, round, rounds}
use Rattle.cluster_rules.specs.World.{World}
use Rattle.cluster_rules.specs.WorldExamples.{calm_twice, calm_twice_journal, entering_lines}
use Rattle.cluster_rules.proofs.OneNode.{turn, step_of, tick, w0, w1, w2, w3, entered, step1, step2, step3}

-- ---- the node in its view is at rest

-- the node, with that row
abbrev with_row : Row → Facts
with_row row = note None (notes.entered (noted None ticked_twice (line.Tick 1 ∷ line.Promise 1 (key 1 1) ∷ [])) (key 1 1) itself row) (line.Exchanged 1 (key 1 1))

abbrev alone : Facts
alone = with_row []

is_settled : (p : ℕ) → knows_settled alone p ≡ true
is_settled p = ap (λ b. b || true) (clear_bit p)

all_settled : (n p : ℕ) → knows_all_settled alone n p ≡ true
unfolding knows_all_settled
all_settled zero p = refl
all_settled (suc n) p = ap₂ (λ a b. a && b) (is_settled p) (all_settled n (p + 1))

learns_nothing : (l : List ℕ) (p : ℕ) → is_to_learn alone l p ≡ false
learns_nothing l p = ap (λ b. b && (is_own_replica alone l && not (bit alone.bits.learnt p))) (clear_bit p)

drops_nothing : (l : List ℕ) (p : ℕ) → is_to_drop alone l p ≡ false
drops_nothing l p = ap (λ b. b && (is_done alone p && (not (is_own_replica alone l) && holds_of alone.store.content p))) (clear_bit p)

nothing_left : (n p : ℕ) → has_nothing_to_learn_or_drop alone n p ≡ true
unfolding has_nothing_to_learn_or_drop
nothing_left zero p = refl
nothing_left (suc n) p =
    ap₂ (λ a b. a && b)
    (ap₂ (λ a b. not (a || b)) (learns_nothing (list_at alone p) p) (drops_nothing (list_at alone p) p))
    (nothing_left n (p + 1))

alone_rests : is_at_rest_of partition_count alone ≡ true
alone_rests = ap₂ (λ a b. a && (b && true)) (all_settled partition_count 0) (nothing_left partition_count 0)

rests : is_at_rest_of partition_count entered ≡ true
rests = ap (λ row. is_at_rest_of partition_count (with_row row)) (empty_row Time partition_count 0) ∙ alone_rests

-- the world is calm where the node is at rest
abbrev calm_if : Bool → Bool
calm_if b = ((true && (b && true)) && true) && true

pub calm_then : is_calm_of partition_count w3 ≡ true
calm_then = ap calm_if rests

-- ---- rounds

-- a round in which the node's tick is that
abbrev round_with : Played → Played
round_with x = then_played (then_played x (play_all partition_count [])) (flows partition_count 4)

first_round : round partition_count w0 ≡ stepping w0 (step_of tick (line.Tick 1 ∷ []))
first_round = ap round_with step1

second_round : round partition_count w1 ≡ stepping w1 (step_of tick (line.Tick 1 ∷ []))
second_round = ap round_with step2

third_round : round partition_count w2 ≡ stepping w2 (step_of tick entering_lines)
third_round = ap round_with step3

one_more : (k : ℕ) (w : World) (x : Played) → round partition_count w ≡ x → rounds partition_count (suc k) w ≡ then_played x (rounds partition_count k)
unfolding rounds
one_more k w x e = ap (λ y. then_played y (rounds partition_count k)) e

none : (w : World) → rounds partition_count zero w ≡ no_steps w
unfolding rounds
none w = refl

-- the three rounds
abbrev pub three : Played
three = record { steps = step_of tick (line.Tick 1 ∷ []) ∷ step_of tick (line.Tick 1 ∷ []) ∷ step_of tick entering_lines ∷ []; world = w3 }

abbrev then_this : World → Line → Played → Played
then_this w l x = then_played (stepping w (step_of tick (l ∷ []))) (λ v. x)

after_one : rounds partition_count 1 w0 ≡ stepping w0 (step_of tick (line.Tick 1 ∷ []))
after_one = one_more 0 w0 _ first_round ∙ ap (λ x. then_played (stepping w0 (step_of tick (line.Tick 1 ∷ []))) (λ v. x)) (none w1)

second_on : rounds partition_count 1 w1 ≡ stepping w1 (step_of tick (line.Tick 1 ∷ []))
second_on = one_more 0 w1 _ second_round ∙ ap (λ x. then_played (stepping w1 (step_of tick (line.Tick 1 ∷ []))) (λ v. x)) (none w2)

after_two : rounds partition_count 2 w0 ≡ then_this w0 (line.Tick 1) (stepping w1 (step_of tick (line.Tick 1 ∷ [])))
after_two = one_more 1 w0 _ first_round ∙ ap (then_this w0 (line.Tick 1)) second_on

third_on : rounds partition_count 1 w2 ≡ stepping w2 (step_of tick entering_lines)
third_on = one_more 0 w2 _ third_round ∙ ap (λ x. then_played (stepping w2 (step_of tick entering_lines)) (λ v. x)) (none w3)

two_on : rounds partition_count 2 w1 ≡ then_this w1 (line.Tick 1) (stepping w2 (step_of tick entering_lines))
two_on = one_more 1 w1 _ second_round ∙ ap (then_this w1 (line.Tick 1)) third_on

pub after_three : rounds partition_count 3 w0 ≡ three
after_three = one_more 2 w0 _ first_round ∙ ap (then_this w0 (line.Tick 1)) two_on

-- ---- calm

abbrev calm_world : Played → Bool
calm_world x = is_calm_of partition_count x.world

pub uneasy : (i : ℕ) → i < 3 → calm_world (rounds partition_count i w0) ≡ false
uneasy zero h = ap calm_world (none w0)
uneasy (suc zero) h = ap calm_world after_one
uneasy (suc (suc zero)) h = ap calm_world after_two
uneasy (suc (suc (suc i))) h = absurd (omega arith)

abbrev w4 : World
w4 = (play partition_count (event.Calmed 3) w3).world

abbrev pub first_calm : Played
first_calm = then_played three (play partition_count (event.Calmed 3))

pub first : Calms partition_count w0 first_calm
first = record {
  number = 3;
  reached = record { calm = ap calm_world after_three ∙ calm_then; before = uneasy };
  played = sym (ap (λ x. then_played x (play partition_count (event.Calmed 3))) after_three);
}

abbrev pub second_calm : Played
second_calm = play partition_count (event.Calmed 0) w4

pub second : Calms partition_count w4 second_calm
second = record {
  number = 0;
  reached = record { calm = ap calm_world (none w4) ∙ calm_then; before = λ i h. absurd (omega arith) };
  played = sym (ap (λ x. then_played x (play partition_count (event.Calmed 0))) (none w4));
}

unfoldable pub runs : Run calm_twice calm_twice_journal
runs = record {
  played = then_played first_calm (λ v. then_played second_calm (λ u. no_steps second_calm.world));
  plays =
      turn partition_count w0 command.Calm (command.Calm ∷ []) first_calm (then_played second_calm (λ u. no_steps second_calm.world)) first
      (turn partition_count w4 command.Calm [] second_calm (no_steps second_calm.world) second refl);
  written = refl;
}

-- ---- the rounds are few

-- the round after so many, with those before it
abbrev lines_of_round : Played → List Line
lines_of_round x = all_lines (round partition_count x.world).steps

placed : (i : ℕ) → 0 ≤ i → i < 3 → is_full_round partition_count w0 i ≡ false
placed zero from h = ap (λ x. list_any is_full_line (lines_of_round x)) (none w0) ∙ ap (λ x. list_any is_full_line (all_lines x.steps)) first_round
placed (suc zero) from h = ap (λ x. list_any is_full_line (lines_of_round x)) after_one ∙ ap (λ x. list_any is_full_line (all_lines x.steps)) second_round
placed (suc (suc zero)) from h = ap (λ x. list_any is_full_line (lines_of_round x)) after_two ∙ ap (λ x. list_any is_full_line (all_lines x.steps)) third_round
placed (suc (suc (suc i))) from h = absurd (omega arith)

pub three_are_few : IsWithinCalm partition_count w0 3
three_are_few = record { from = 0; begins = inl refl; placed = placed; few = omega arith }

-- The run of a node that is alone.
use Rattle.std.proofs.Common.{◌≡◌, ℕ, List, [], ◌∷◌, Some, None, refl, sym, ap, ◌∙◌}
use Rattle.conflict_order.specs.declared.want.Want.TheVariants as want
use Rattle.cluster_types.specs.Partitions.{partition_count}
use Rattle.script_lang.specs.declared.script.Command.{Command}
use Rattle.script_lang.specs.declared.script.Command.TheVariants as command
use Rattle.journal_lines.specs.declared.line.Line.{Line}
use Rattle.journal_lines.specs.declared.line.Line.TheVariants as line
use Rattle.node_rules.specs.Effects.{Effects, lines_only}
use Rattle.node_rules.specs.Examples.{ticked_twice, in_its_view, having_hi, zeros, hi}
use Rattle.node_rules.specs.Facts.{Facts}
use Rattle.node_rules.specs.Notes.{noted}
use Rattle.node_rules.specs.Requests.{due_request}
use Rattle.node_rules.specs.Steps.{facts_after}
use Rattle.node_rules.proofs.Lone.{first_tick, second_tick, third_tick, puts, gets}
use Rattle.cluster_rules.specs.declared.event.Event.{Event}
use Rattle.cluster_rules.specs.declared.event.Event.TheVariants as event
use Rattle.cluster_rules.specs.DueEvents.{written}
use Rattle.cluster_rules.specs.Marks.{after_all}
use Rattle.cluster_rules.specs.Runs.{Plays, PlaysAll, Run}
use Rattle.cluster_rules.specs.Steps.{Step, marks_of, Played, no_steps, then_played, stepping, play}
use Rattle.cluster_rules.specs.World.{World, opened}
use Rattle.cluster_rules.specs.WorldExamples.{one_node, one_node_journal, entering_lines, put_lines, get_lines}

pub turn : (n : ℕ) (w : World) (c : Command) (cs : List Command) (first others : Played)
    → Plays n w c first → PlaysAll n first.world cs others → PlaysAll n w (c ∷ cs) (then_played first (λ v. others))
turn n w c cs first others h i = record { first = first; plays = h; others = others; follows = i; whole = refl }

abbrev pub step_of : Event → List Line → Step
step_of e ls = record { event = e; lines = ls }

abbrev behind : World → Event → List Line → World
behind w e ls = after_all w (marks_of (step_of e ls))

-- a step of the node with these effects
abbrev stepped : World → Event → Effects → Played
stepped w e effects = stepping w (step_of e (written w.network 1 effects))

-- ---- the world after each step

abbrev pub tick : Event
tick = event.Tick 1

abbrev pub put : Event
put = event.Put 1 zeros hi

abbrev pub get : Event
get = event.Get 1 zeros

abbrev pub w0 : World
w0 = opened one_node.header

abbrev pub w1 : World
w1 = behind w0 tick (line.Tick 1 ∷ [])

abbrev pub w2 : World
w2 = behind w1 tick (line.Tick 1 ∷ [])

abbrev pub w3 : World
w3 = behind w2 tick entering_lines

abbrev w4 : World
w4 = behind w3 put put_lines

abbrev w5 : World
w5 = behind w4 get get_lines

-- ---- the node after them

abbrev pub entered : Facts
entered = noted None ticked_twice entering_lines

abbrev with_hi : Facts
with_hi = noted (Some (want.Put hi)) entered put_lines

pub is_entered : in_its_view ≡ entered
is_entered = ap (λ e. facts_after None ticked_twice e) third_tick

puts_then : due_request entered 0 zeros (want.Put hi) ≡ lines_only put_lines
puts_then = sym (ap (λ f. due_request f 0 zeros (want.Put hi)) is_entered) ∙ puts

has_hi : having_hi ≡ with_hi
has_hi =
    ap (λ f. facts_after (Some (want.Put hi)) f (due_request f 0 zeros (want.Put hi))) is_entered
    ∙ ap (λ e. facts_after (Some (want.Put hi)) entered e) puts_then

gets_then : due_request with_hi 0 zeros want.Get ≡ lines_only get_lines
gets_then = sym (ap (λ f. due_request f 0 zeros want.Get) has_hi) ∙ gets

-- ---- the steps

pub step1 : play partition_count tick w0 ≡ stepping w0 (step_of tick (line.Tick 1 ∷ []))
step1 = ap (λ e. stepped w0 tick e) first_tick

pub step2 : play partition_count tick w1 ≡ stepping w1 (step_of tick (line.Tick 1 ∷ []))
step2 = ap (λ e. stepped w1 tick e) second_tick

pub step3 : play partition_count tick w2 ≡ stepping w2 (step_of tick entering_lines)
step3 = ap (λ e. stepped w2 tick e) third_tick

step4 : play partition_count put w3 ≡ stepping w3 (step_of put put_lines)
step4 = ap (λ e. stepped w3 put e) puts_then

step5 : play partition_count get w4 ≡ stepping w4 (step_of get get_lines)
step5 = ap (λ e. stepped w4 get e) gets_then

abbrev played : Played
played = record {
  steps = step_of tick (line.Tick 1 ∷ []) ∷ step_of tick (line.Tick 1 ∷ []) ∷ step_of tick entering_lines ∷ step_of put put_lines ∷ step_of get get_lines ∷ [];
  world = w5;
}

-- ---- the commands, from the last one on

abbrev from_get : Played
from_get = then_played (stepping w4 (step_of get get_lines)) (λ v. no_steps w5)

abbrev from_put : Played
from_put = then_played (stepping w3 (step_of put put_lines)) (λ v. from_get)

abbrev from_third : Played
from_third = then_played (stepping w2 (step_of tick entering_lines)) (λ v. from_put)

abbrev from_second : Played
from_second = then_played (stepping w1 (step_of tick (line.Tick 1 ∷ []))) (λ v. from_third)

plays_get : PlaysAll partition_count w4 (command.Get 1 zeros ∷ []) from_get
plays_get = turn partition_count w4 (command.Get 1 zeros) [] (stepping w4 (step_of get get_lines)) (no_steps w5) (sym step5) refl

plays_put : PlaysAll partition_count w3 (command.Put 1 zeros hi ∷ command.Get 1 zeros ∷ []) from_put
plays_put = turn partition_count w3 (command.Put 1 zeros hi) (command.Get 1 zeros ∷ []) (stepping w3 (step_of put put_lines)) from_get (sym step4) plays_get

plays_third : PlaysAll partition_count w2 (command.Tick 1 ∷ command.Put 1 zeros hi ∷ command.Get 1 zeros ∷ []) from_third
plays_third =
    turn partition_count w2 (command.Tick 1) (command.Put 1 zeros hi ∷ command.Get 1 zeros ∷ []) (stepping w2 (step_of tick entering_lines)) from_put (sym step3) plays_put

plays_second : PlaysAll partition_count w1 (command.Tick 1 ∷ command.Tick 1 ∷ command.Put 1 zeros hi ∷ command.Get 1 zeros ∷ []) from_second
plays_second =
    turn partition_count w1 (command.Tick 1) (command.Tick 1 ∷ command.Put 1 zeros hi ∷ command.Get 1 zeros ∷ []) (stepping w1 (step_of tick (line.Tick 1 ∷ []))) from_third
    (sym step2) plays_third

pub plays : PlaysAll partition_count w0 one_node.commands played
plays =
    turn partition_count w0 (command.Tick 1) (command.Tick 1 ∷ command.Tick 1 ∷ command.Put 1 zeros hi ∷ command.Get 1 zeros ∷ [])
    (stepping w0 (step_of tick (line.Tick 1 ∷ []))) from_second (sym step1) plays_second

unfoldable pub runs : Run one_node one_node_journal
runs = record { played = played; plays = plays; written = refl }

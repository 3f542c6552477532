-- A round, in which no message lacks a place: the ticks of all up nodes, and then four flows.
use Rattle.std.proofs.Common.{◌≡◌, ℕ, ◌||◌, Bool, true, false, List, [], ◌∷◌, ◌++◌, map, refl, sym, ap, ◌∙◌}
use Rattle.std.specs.List.{list_any}
use Rattle.std.proofs.lemmas.Grind.{flat_map-append}
use Rattle.journal_lines.specs.declared.line.Line.{Line}
use Rattle.cluster_rules.specs.declared.event.Event.{Event}
use Rattle.cluster_rules.specs.declared.event.Event.TheVariants as event
use Rattle.cluster_rules.specs.CalmBound.{is_full_line}
use Rattle.cluster_rules.specs.DueEvents.{due_of}
use Rattle.cluster_rules.specs.Steps.{Step, Played, play, play_all, flow, flows, round, all_lines}
use Rattle.cluster_rules.specs.World.{World, up_nodes}
use Rattle.cluster_laws.proofs.At.{differ}
use Rattle.calm_laws.proofs.Flow.{flowed, ticked}
use Rattle.calm_laws.specs.Flows.{Clear, Flowed, InOrder, Named, Once, Rounded, Ticked}
use Rattle.calm_laws.proofs.Took.{any_behind}

-- no message lacked a place among these steps
abbrev pub NoFull : List Step → Type 0
NoFull ss = list_any is_full_line (all_lines ss) ≡ false

any_before : {A : Type 0} (test : A → Bool) (xs ys : List A) → list_any test (xs ++ ys) ≡ false → list_any test xs ≡ false
any_before test [] ys e = refl
any_before test (x ∷ xs) ys e = go (test x) e (any_before test xs ys)
  where
    go : (b : Bool) → (b || list_any test (xs ++ ys)) ≡ false → (list_any test (xs ++ ys) ≡ false → list_any test xs ≡ false) → (b || list_any test xs) ≡ false
    go true f rest = differ refl f
    go false f rest = rest f

lines_append : (ss ts : List Step) → all_lines (ss ++ ts) ≡ all_lines ss ++ all_lines ts
lines_append ss ts = flat_map-append (λ (s : Step). s.lines) ss ts

pub full_front : (ss ts : List Step) → NoFull (ss ++ ts) → NoFull ss
full_front ss ts h = any_before is_full_line (all_lines ss) (all_lines ts) (ap (λ (ls : List Line). list_any is_full_line ls) (sym (lines_append ss ts)) ∙ h)

pub full_behind : (ss ts : List Step) → NoFull (ss ++ ts) → NoFull ts
full_behind ss ts h = any_behind is_full_line (all_lines ss) (all_lines ts) (ap (λ (ls : List Line). list_any is_full_line ls) (sym (lines_append ss ts)) ∙ h)

pub clear_of : (n : ℕ) (es : List Event) (w : World) → NoFull (play_all n es w).steps → Clear n w es
clear_of n [] w h = tt
clear_of n (e ∷ es) w h =
    let rest : List Line = all_lines (play_all n es (play n e w).world).steps in
    (any_before is_full_line (due_of n w e) rest h, clear_of n es (play n e w).world (any_behind is_full_line (due_of n w e) rest h))

pub flow_of : (n : ℕ) (w : World) → Named w → InOrder w → NoFull (flow n w).steps → Flowed n w (flow n w).world
flow_of n w named ordered h = flowed n w named ordered (clear_of n (map event.Deliver w.network.flying) w h)

unfoldable pub rounded : (n : ℕ) (w : World) → Named w → InOrder w → Once (up_nodes w) → NoFull (round n w).steps → Rounded n w (round n w).world
rounded n w named ordered once h =
    let ticks : Played = play_all n (map event.Tick (up_nodes w)) w in
    let one : Played = flow n ticks.world in
    let two : Played = flow n one.world in
    let three : Played = flow n two.world in
    let four : Played = flow n three.world in
    let h1 : NoFull (flows n 4 ticks.world).steps = full_behind ticks.steps (flows n 4 ticks.world).steps h in
    let h2 : NoFull (flows n 3 one.world).steps = full_behind one.steps (flows n 3 one.world).steps h1 in
    let h3 : NoFull (flows n 2 two.world).steps = full_behind two.steps (flows n 2 two.world).steps h2 in
    let h4 : NoFull (flows n 1 three.world).steps = full_behind three.steps (flows n 1 three.world).steps h3 in
    let t : Ticked n w ticks.world (up_nodes w) = ticked n w (up_nodes w) named ordered once (clear_of n (map event.Tick (up_nodes w)) w (full_front ticks.steps (flows n 4 ticks.world).steps h)) in
    let a : Flowed n ticks.world one.world = flow_of n ticks.world t.named t.in_order (full_front one.steps (flows n 3 one.world).steps h1) in
    let b : Flowed n one.world two.world = flow_of n one.world a.named a.in_order (full_front two.steps (flows n 2 two.world).steps h2) in
    let c : Flowed n two.world three.world = flow_of n two.world b.named b.in_order (full_front three.steps (flows n 1 three.world).steps h3) in
    let d : Flowed n three.world four.world = flow_of n three.world c.named c.in_order (full_front four.steps (flows n 0 four.world).steps h4) in
    record { ticks_end = ticks.world; first_end = one.world; second_end = two.world; third_end = three.world; ticks = t; first = a; second = b; third = c; fourth = d }

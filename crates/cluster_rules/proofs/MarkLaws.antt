-- What lines stand among the marks of a run, and which world is behind them.
use Rattle.std.proofs.Common.{◌≡◌, ℕ, zero, suc, false, List, [], ◌∷◌, ◌++◌, refl, sym, ap, ap₂, subst, ◌∙◌}
use Rattle.std.specs.Prelude.{map, take}
use Rattle.std.proofs.lemmas.List.{append-nil}
use Rattle.std.proofs.lemmas.List.Elements.{filter_map-append}
use Rattle.std.proofs.lemmas.Grind.{flat_map-append}
use Rattle.script_lang.specs.declared.script.HeaderLine.TheVariants as header
use Rattle.journal_lines.specs.declared.line.Line.{Line}
use Rattle.journal_lines.specs.declared.line.Line.TheVariants as line
use Rattle.cluster_rules.specs.declared.event.Event.{Event}
use Rattle.cluster_rules.specs.declared.event.Event.TheVariants as event
use Rattle.cluster_rules.specs.DueEvents.{due_of}
use Rattle.cluster_rules.specs.Marks.{Mark, Begins, Writes, adds, after, after_line, after_all, line_in, lines_among}
use Rattle.cluster_rules.specs.Opening.{Header, header_lines}
use Rattle.cluster_rules.specs.Runs.{calming, run_marks}
use Rattle.cluster_rules.specs.Steps.{Step, marks_of, all_marks, all_lines, AreDue, Played, no_steps, then_played, play, play_all, flow, flows, round, rounds}
use Rattle.cluster_rules.specs.World.{World, up_nodes}

-- ---- the lines among marks

pub lines_of_written : (ls : List Line) → lines_among (map Writes ls) ≡ ls
lines_of_written [] = refl
lines_of_written (l ∷ ls) = ap (λ xs. l ∷ xs) (lines_of_written ls)

pub lines_of_steps : (ss : List Step) → lines_among (all_marks ss) ≡ all_lines ss
lines_of_steps [] = refl
lines_of_steps (s ∷ ss) = filter_map-append line_in (marks_of s) (all_marks ss) ∙ ap₂ (λ a b. a ++ b) (lines_of_written s.lines) (lines_of_steps ss)

pub lines_of_run : (h : Header) (x : Played) → lines_among (run_marks h x) ≡ header_lines h ++ all_lines x.steps
lines_of_run h x = filter_map-append line_in (map Writes (header_lines h)) (all_marks x.steps) ∙ ap₂ (λ a b. a ++ b) (lines_of_written (header_lines h)) (lines_of_steps x.steps)

-- the first lines among marks are the lines among the first marks
pub front_of_lines : (ms : List Mark) (i : ℕ) → (k : ℕ) × (take i (lines_among ms) ≡ lines_among (take k ms))
front_of_lines [] zero = (0, refl)
front_of_lines [] (suc i) = (0, refl)
front_of_lines (Begins e ∷ ms) zero = (0, refl)
front_of_lines (Writes l ∷ ms) zero = (0, refl)
front_of_lines (Begins e ∷ ms) (suc i) = (suc (front_of_lines ms (suc i)).0, (front_of_lines ms (suc i)).1)
front_of_lines (Writes l ∷ ms) (suc i) = (suc (front_of_lines ms i).0, ap (λ xs. l ∷ xs) (front_of_lines ms i).1)

-- ---- the world behind marks

-- a line of another word adds nothing
pub adds_nothing : (w : World) (l : Line) → adds l ≡ false → after_line w l ≡ w
adds_nothing w (line.Clock n time) e = cc
adds_nothing w (line.Groups groups) e = cc
adds_nothing w (line.Deliver i a b) e = cc
adds_nothing w (line.Repeat i a b) e = cc
adds_nothing w (line.Cut i a b size) e = cc
adds_nothing w (line.Sent i a b bytes) e = cc
adds_nothing w (line.Full i) e = cc
adds_nothing w (line.Tick n) e = cc
adds_nothing w (line.Stop n) e = cc
adds_nothing w (line.Start n) e = cc
adds_nothing w (line.Quiesce n) e = cc
adds_nothing w (line.Unquiesce n) e = cc
adds_nothing w (line.Promise n k) e = cc
adds_nothing w (line.Enter n k ms) e = cc
adds_nothing w (line.Exchanged n k) e = cc
adds_nothing w (line.Opened n k t d a) e = cc
adds_nothing w (line.Value n k t d v) e = cc
adds_nothing w (line.Apply n k t d v) e = cc
adds_nothing w (line.Done n k t) e = cc
adds_nothing w (line.Aborted n k t) e = cc
adds_nothing w (line.Doubt n k t) e = cc
adds_nothing w (line.Merge n k d v) e = cc
adds_nothing w (line.Handed n k p) e = cc
adds_nothing w (line.Settled n k p) e = cc
adds_nothing w (line.Learn n k p) e = cc
adds_nothing w (line.Drop n k p) e = cc
adds_nothing w (line.Refused n d cause) e = cc
adds_nothing w (line.Proxy n k x d a to) e = cc
adds_nothing w (line.Proxied n k x b) e = cc
adds_nothing w (line.Unproxied n k x) e = cc
adds_nothing w (line.Call q n d a) e = cc
adds_nothing w (line.Reply q n b) e = cc
adds_nothing w (line.Scan s n p) e = cc
adds_nothing w l e = refl

-- nor does a header
pub header_adds_nothing : (w : World) (h : Header) → after_all w (map Writes (header_lines h)) ≡ w
header_adds_nothing w [] = refl
header_adds_nothing w (header.Script version ∷ h) = header_adds_nothing w h
header_adds_nothing w (header.Factor factor ∷ h) = header_adds_nothing w h
header_adds_nothing w (header.Node n rack ∷ h) = header_adds_nothing w h
header_adds_nothing w (header.Policy by ∷ h) = header_adds_nothing w h

pub after_all-append : (w : World) (ms ns : List Mark) → after_all w (ms ++ ns) ≡ after_all (after_all w ms) ns
after_all-append w [] ns = refl
after_all-append w (m ∷ ms) ns = after_all-append (after w m) ms ns

-- ---- the steps of what is played

-- the steps are due, and lead to the world
pub record Follows (n : ℕ) (w : World) (x : Played) : Type 0 where
  pub due : AreDue n w x.steps
  pub leads : after_all w (all_marks x.steps) ≡ x.world

pub due_append : (n : ℕ) (ss ts : List Step) (w : World) → AreDue n w ss → AreDue n (after_all w (all_marks ss)) ts → AreDue n w (ss ++ ts)
due_append n [] ts w h i = i
due_append n (s ∷ ss) ts w h i =
    (h.0, due_append n ss ts (after_all w (marks_of s)) h.1 (subst (λ (v : World). AreDue n v ts) (after_all-append w (marks_of s) (all_marks ss)) i))

pub joined : (n : ℕ) (w : World) (x : Played) (next : World → Played) → Follows n w x → Follows n x.world (next x.world) → Follows n w (then_played x next)
joined n w x next h i = record {
  due = due_append n x.steps (next x.world).steps w h.due (subst (λ (v : World). AreDue n v (next x.world).steps) (sym h.leads) i.due);
  leads =
      ap (λ ms. after_all w ms) (flat_map-append marks_of x.steps (next x.world).steps)
      ∙ after_all-append w (all_marks x.steps) (all_marks (next x.world).steps)
      ∙ ap (λ v. after_all v (all_marks (next x.world).steps)) h.leads
      ∙ i.leads;
}

pub nothing : (n : ℕ) (w : World) → Follows n w (no_steps w)
nothing n w = record { due = tt; leads = refl }

pub one : (n : ℕ) (e : Event) (w : World) → Follows n w (play n e w)
one n e w = record { due = (refl, tt); leads = ap (λ ms. after_all w ms) (append-nil (marks_of (record { event = e; lines = due_of n w e }))) }

pub all : (n : ℕ) (es : List Event) (w : World) → Follows n w (play_all n es w)
all n [] w = nothing n w
all n (e ∷ es) w = joined n w (play n e w) (play_all n es) (one n e w) (all n es (play n e w).world)

pub flow_follows : (n : ℕ) (w : World) → Follows n w (flow n w)
flow_follows n w = all n (map event.Deliver w.network.flying) w

pub flows_follow : (n k : ℕ) (w : World) → Follows n w (flows n k w)
flows_follow n zero w = nothing n w
flows_follow n (suc k) w = joined n w (flow n w) (flows n k) (flow_follows n w) (flows_follow n k (flow n w).world)

pub round_follows : (n : ℕ) (w : World) → Follows n w (round n w)
round_follows n w =
    joined n w (play_all n (map event.Tick (up_nodes w)) w) (flows n 4) (all n (map event.Tick (up_nodes w)) w)
    (flows_follow n 4 (play_all n (map event.Tick (up_nodes w)) w).world)

pub rounds_follow : (n k : ℕ) (w : World) → Follows n w (rounds n k w)
unfolding rounds
rounds_follow n zero w = nothing n w
rounds_follow n (suc k) w = joined n w (round n w) (rounds n k) (round_follows n w) (rounds_follow n k (round n w).world)

pub calming_follows : (n k : ℕ) (w : World) → Follows n w (calming n k w)
calming_follows n k w = joined n w (rounds n k w) (play n (event.Calmed k)) (rounds_follow n k w) (one n (event.Calmed k) (rounds n k w).world)

-- Commands that are played one after another.
use Rattle.std.proofs.Common.{◌≡◌, ℕ, ◌+◌, ◌<◌, ◌≤◌, true, List, [], ◌∷◌, ◌++◌, length, take, drop, get_or, inl, inr, Ok, refl, sym, ap, subst, ◌∙◌, arith, append_assoc, IsTrue, All}
use Rattle.std.proofs.lemmas.Bool.{and_parts}
use Rattle.std.proofs.lemmas.List.{append-nil, take_all, take_more, take-append-drop}
use Rattle.std.proofs.lemmas.List.Elements.{All-nil, All-cons}
use Rattle.std.proofs.lemmas.Grind.{flat_map-append}
use Rattle.std.specs.List.{list_all}
use Rattle.cluster_types.specs.Partitions.{partition_count}
use Rattle.script_lang.specs.declared.script.Command.{Command}
use Rattle.script_lang.specs.declared.script.Script.{Script}
use Rattle.script_lang.specs.Grammar.{script_of}
use Rattle.script_lang.specs.Proper.{IsProper}
use Rattle.journal_lines.specs.declared.line.Line.{Line}
use Rattle.journal_text.specs.Journals.{IsWithin}
use Rattle.cluster_rules.specs.Allowed.{is_playable}
use Rattle.cluster_rules.specs.Begun.{AllBegun, IsBegun}
use Rattle.cluster_rules.specs.FrontRuns.{AreFrontOf, IsFrontOf}
use Rattle.cluster_rules.specs.Marks.{after_all}
use Rattle.cluster_rules.specs.Opening.{declared_nodes, header_lines}
use Rattle.cluster_rules.specs.Runs.{Plays, PlaysAll}
use Rattle.cluster_rules.specs.Runs as runs
use Rattle.cluster_rules.specs.Steps.{Played, Step, all_marks, then_played, marks_of}
use Rattle.cluster_rules.specs.World.{World, opened}
use Rattle.cluster_rules.proofs.MarkLaws.{after_all-append}
use Rattle.cluster_rules.proofs.RunLaws.{commands_follow}
use Rattle.calm_laws.proofs.ScriptRuns.{scripts_calm_in_time}
use Rattle.world.specs.Claims.{HasClaims}
use Rattle.world.specs.Steps.{RunSoFar, run_begun, standing, run_lines}
use Rattle.calm_run.specs.Playing.{PlaysOn, StandsIn, StopsIn, followed}
use Rattle.replay_core.specs.declared.status.Status.{Status}
use Rattle.replay_core.specs.declared.status.Status.TheVariants as status
use Rattle.replay_core.specs.Outcome.{CalmsAreInTime, HasAllClaims, IsCut, PlayEnded}
use Rattle.replay_core.specs.Playing.{ArePlayable, PlaysAllOn, StandsAmong, StopsAmong}
use Rattle.replay_core.proofs.EmptyClaims.{no_claims_fail}
use Rattle.run_laws.proofs.Named.{all_playable}

-- ---- one command more

plays_more : (n : ℕ) (cs : List Command) (w : World) (x : Played) (c : Command) (y : Played) → PlaysAll n w cs x → Plays n x.world c y → PlaysAll n w (cs ++ c ∷ []) (then_played x (λ v. y))
plays_more n [] w x c y h p = record {
  first = y;
  plays = subst (λ (z : Played). Plays n z.world c y) h p;
  others = record { steps = []; world = y.world };
  follows = refl;
  whole = ap (λ (z : Played). then_played z (λ v. y)) h ∙ ap (λ (ss : List Step). record { steps = ss; world = y.world }) (sym (append-nil y.steps));
}
plays_more n (d ∷ cs) w x c y h p = record {
  first = h.first;
  plays = h.plays;
  others = then_played h.others (λ v. y);
  follows = plays_more n cs h.first.world h.others c y h.follows (subst (λ (z : Played). Plays n z.world c y) h.whole p);
  whole = ap (λ (z : Played). then_played z (λ v. y)) h.whole ∙ ap (λ (ss : List Step). record { steps = ss; world = y.world }) (append_assoc h.first.steps h.others.steps y.steps);
}

begun_after : (n : ℕ) (cs : List Command) (w : World) (x : Played) (c : Command) (rest : List Command) (taken : List Step) (next : Step) → PlaysAll n w cs x → IsBegun n x.world c taken next
    → AllBegun n w (cs ++ c ∷ rest) (x.steps ++ taken) next
begun_after n [] w x c rest taken next h b =
    subst (λ (z : Played). AllBegun n w (c ∷ rest) (z.steps ++ taken) next) (sym h) (inl (subst (λ (z : Played). IsBegun n z.world c taken next) h b))
begun_after n (d ∷ cs) w x c rest taken next h b = inr (record {
  first = h.first;
  plays = h.plays;
  others = h.others.steps ++ taken;
  begun = begun_after n cs h.first.world h.others c rest taken next h.follows (subst (λ (z : Played). IsBegun n z.world c taken next) h.whole b);
  whole = ap (λ (z : Played). z.steps ++ taken) h.whole ∙ append_assoc h.first.steps h.others.steps taken;
})

front_after : (n : ℕ) (cs : List Command) (w : World) (x : Played) (c : Command) (rest : List Command) (taken : List Step) → PlaysAll n w cs x → IsFrontOf n x.world c taken
    → AreFrontOf n w (cs ++ c ∷ rest) (x.steps ++ taken)
front_after n [] w x c rest taken h b =
    subst (λ (z : Played). AreFrontOf n w (c ∷ rest) (z.steps ++ taken)) (sym h) (inl (subst (λ (z : Played). IsFrontOf n z.world c taken) h b))
front_after n (d ∷ cs) w x c rest taken h b = inr (record {
  first = h.first;
  plays = h.plays;
  others = h.others.steps ++ taken;
  begun = front_after n cs h.first.world h.others c rest taken h.follows (subst (λ (z : Played). IsFrontOf n z.world c taken) h.whole b);
  whole = ap (λ (z : Played). z.steps ++ taken) h.whole ∙ append_assoc h.first.steps h.others.steps taken;
})

-- ---- in a world

-- the world after the steps that were taken is the one that is played
stands_after : (old mid : RunSoFar) (cs : List Command) (p : PlaysAllOn old mid cs) → standing mid ≡ p.played.world
unfolding standing
stands_after old mid cs p =
    ap standing p.steps
    ∙ ap (λ ms. after_all (opened old.header) ms) (flat_map-append marks_of old.steps p.played.steps)
    ∙ after_all-append (opened old.header) (all_marks old.steps) (all_marks p.played.steps)
    ∙ (commands_follow partition_count cs (standing old) p.played p.plays).leads

followed_again : (old mid new : RunSoFar) (first second : List Step) → mid ≡ followed old first → new ≡ followed mid second → new ≡ followed old (first ++ second)
followed_again old mid new first second a b =
    b ∙ ap (λ (r : RunSoFar). followed r second) a ∙ ap (λ ss. record { header = old.header; steps = ss }) (append_assoc old.steps first second)

taken_more : (cs : List Command) (i : ℕ) (c : Command) → i < length cs → c ≡ get_or cs i c → take (i + 1) cs ≡ take i cs ++ c ∷ []
taken_more cs i c below is = take_more cs i c below ∙ ap (λ x. take i cs ++ x ∷ []) (sym is)

pub played_none : (world : RunSoFar) → PlaysAllOn world world []
played_none world = record {
  played = record { steps = []; world = standing world };
  plays = refl;
  steps = ap (λ ss. record { header = world.header; steps = ss }) (sym (append-nil world.steps));
}

pub played_more : (old mid new : RunSoFar) (cs : List Command) (i : ℕ) (c : Command) → i < length cs → c ≡ get_or cs i c → PlaysAllOn old mid (take i cs) → PlaysOn mid new c
    → PlaysAllOn old new (take (i + 1) cs)
played_more old mid new cs i c below is p q =
    let here : Plays partition_count p.played.world c q.played = subst (λ (w : World). Plays partition_count w c q.played) (stands_after old mid (take i cs) p) q.plays in
    subst (PlaysAllOn old new) (sym (taken_more cs i c below is)) (record {
      played = then_played p.played (λ v. q.played);
      plays = plays_more partition_count (take i cs) (standing old) p.played c q.played p.plays here;
      steps = followed_again old mid new p.played.steps q.played.steps p.steps q.steps;
    })

in_parts : (cs : List Command) (i : ℕ) (c : Command) → i < length cs → c ≡ get_or cs i c → take i cs ++ c ∷ drop (i + 1) cs ≡ cs
in_parts cs i c below is =
    sym (append_assoc (take i cs) (c ∷ []) (drop (i + 1) cs)) ∙ ap (λ xs. xs ++ drop (i + 1) cs) (sym (taken_more cs i c below is)) ∙ take-append-drop (i + 1) cs

pub stops_among : (old mid new : RunSoFar) (cs : List Command) (i : ℕ) (c : Command) → i < length cs → c ≡ get_or cs i c → PlaysAllOn old mid (take i cs) → StopsIn mid new c → StopsAmong old new cs
stops_among old mid new cs i c below is p q =
    let here : IsBegun partition_count p.played.world c q.taken q.next = subst (λ (w : World). IsBegun partition_count w c q.taken q.next) (stands_after old mid (take i cs) p) q.begun in
    record {
      taken = p.played.steps ++ q.taken;
      next = q.next;
      begun = subst (λ (ds : List Command). AllBegun partition_count (standing old) ds (p.played.steps ++ q.taken) q.next) (in_parts cs i c below is)
          (begun_after partition_count (take i cs) (standing old) p.played c (drop (i + 1) cs) q.taken q.next p.plays here);
      steps = followed_again old mid new p.played.steps q.taken p.steps q.steps;
      passes = q.passes;
    }

pub stands_among : (old mid new : RunSoFar) (cs : List Command) (i : ℕ) (c : Command) → i < length cs → c ≡ get_or cs i c → PlaysAllOn old mid (take i cs) → StandsIn mid new c → StandsAmong old new cs
stands_among old mid new cs i c below is p q =
    let here : IsFrontOf partition_count p.played.world c q.taken = subst (λ (w : World). IsFrontOf partition_count w c q.taken) (stands_after old mid (take i cs) p) q.front in
    record {
      taken = p.played.steps ++ q.taken;
      front = subst (λ (ds : List Command). AreFrontOf partition_count (standing old) ds (p.played.steps ++ q.taken)) (in_parts cs i c below is)
          (front_after partition_count (take i cs) (standing old) p.played c (drop (i + 1) cs) q.taken p.plays here);
      steps = followed_again old mid new p.played.steps q.taken p.steps q.steps;
    }

pub all_played : (old new : RunSoFar) (cs : List Command) (i : ℕ) → length cs ≤ i → PlaysAllOn old new (take i cs) → PlaysAllOn old new cs
all_played old new cs i past p = subst (PlaysAllOn old new) (take_all i cs past) p

-- each command may be played where it comes
pub may_play : (old mid : RunSoFar) (cs : List Command) (i : ℕ) (c : Command) → i < length cs → c ≡ get_or cs i c → ArePlayable old.header cs → PlaysAllOn old mid (take i cs)
    → IsTrue (is_playable (declared_nodes mid.header) c)
may_play old mid cs i c below is all p =
    subst (λ (r : RunSoFar). IsTrue (is_playable (declared_nodes r.header) c)) (sym p.steps)
    (subst (λ (d : Command). IsTrue (is_playable (declared_nodes old.header) d)) (sym is) (all i c below))

-- ---- from the beginning

pub playable : (nodes : List ℕ) (cs : List Command) → list_all (is_playable nodes) cs ≡ true → All (λ c. IsTrue (is_playable nodes c)) cs
playable nodes [] e = All-nil (λ (c : Command). IsTrue (is_playable nodes c))
playable nodes (c ∷ cs) e =
    let parts = and_parts (is_playable nodes c) (list_all (is_playable nodes) cs) e in
    All-cons (λ (d : Command). IsTrue (is_playable nodes d)) c cs parts.0 (playable nodes cs parts.1)

pub playable_at_first : (world : RunSoFar) (s : Script) (commands : List Command) → world ≡ run_begun s.header → commands ≡ s.commands → IsProper s → ArePlayable world.header commands
playable_at_first world s commands is same p =
    subst (λ (cs : List Command). ArePlayable world.header cs) (sym same)
    (subst (λ (r : RunSoFar). ArePlayable r.header s.commands) (sym is) (playable (declared_nodes s.header) s.commands (all_playable s p)))

run_of_first : (s : Script) (last : RunSoFar) (lines : List Line) → PlaysAllOn (run_begun s.header) last s.commands → lines ≡ run_lines last → runs.Run s lines
unfolding standing run_lines
run_of_first s last lines p w = record { played = p.played; plays = p.plays; written = w ∙ ap run_lines p.steps }

pub run_of : (s : Script) (first last : RunSoFar) (commands : List Command) (lines : List Line) → first ≡ run_begun s.header → commands ≡ s.commands → PlaysAllOn first last commands → lines ≡ run_lines last → runs.Run s lines
run_of s first last commands lines is same p w =
    run_of_first s last lines (subst (λ (cs : List Command). PlaysAllOn (run_begun s.header) last cs) same (subst (λ (r : RunSoFar). PlaysAllOn r last commands) is p)) w

cut_of_first : (s : Script) (last : RunSoFar) (lines : List Line) → StopsAmong (run_begun s.header) last s.commands → lines ≡ run_lines last → IsCut s lines
unfolding standing run_lines
cut_of_first s last lines p w = inr (record {
  next = p.next.lines;
  begun = record { taken = p.taken; step = p.next; begun = p.begun; written = w ∙ ap run_lines p.steps; following = refl };
  passes = λ h. p.passes (subst (λ ls. IsWithin (ls ++ p.next.lines)) w h);
})

pub cut_of : (s : Script) (first last : RunSoFar) (commands : List Command) (lines : List Line) → first ≡ run_begun s.header → commands ≡ s.commands → StopsAmong first last commands → lines ≡ run_lines last → IsCut s lines
cut_of s first last commands lines is same p w =
    cut_of_first s last lines (subst (λ (cs : List Command). StopsAmong (run_begun s.header) last cs) same (subst (λ (r : RunSoFar). StopsAmong r last commands) is p)) w

-- ---- how a play ends

nothing_within : (j : List Line) → j ≡ [] → IsWithin j
nothing_within j none = subst IsWithin (sym none) (record { lines_fit = omega arith; text_fits = omega arith })

pub plays_whole : (bytes : List ℕ) (s : Script) (st : Status) (j : List Line) → st ≡ status.Done → script_of bytes ≡ Ok s → IsProper s → IsWithin j → runs.Run s j → PlayEnded bytes st j
plays_whole bytes s st j is parsed proper within played =
    subst (λ (x : Status). PlayEnded bytes x j) (sym is)
    (record { bytes = bytes; script = s; read = refl; parsed = parsed; proper = proper; played = played; within = within })

pub plays_short : (bytes : List ℕ) (s : Script) (st : Status) (j : List Line) → st ≡ status.RunTooLong → script_of bytes ≡ Ok s → IsProper s → IsWithin j → IsCut s j → PlayEnded bytes st j
plays_short bytes s st j is parsed proper within cut =
    subst (λ (x : Status). PlayEnded bytes x j) (sym is)
    (record { bytes = bytes; script = s; read = refl; parsed = parsed; proper = proper; cut = cut; within = within })

pub plays_nothing : (bytes : List ℕ) (st : Status) (j : List Line) → st ≡ status.NoMemory → j ≡ [] → PlayEnded bytes st j
plays_nothing bytes st j is none = subst (λ (x : Status). PlayEnded bytes x j) (sym is) none

-- the header's lines alone don't fit
pub stops_at_once : (bytes : List ℕ) (s : Script) (st : Status) (j : List Line) → st ≡ status.RunTooLong → j ≡ [] → ¬ IsWithin (header_lines s.header) → script_of bytes ≡ Ok s → IsProper s
    → PlayEnded bytes st j
stops_at_once bytes s st j is none passes parsed proper =
    plays_short bytes s st j is parsed proper (nothing_within j none) (inl (record { lines = none; passes = passes }))

-- ---- the claims

-- a journal within its limits has fewer lines than a number in a message can count
calms_within : (j : List Line) → IsWithin j → CalmsAreInTime j
calms_within j within s proper r = scripts_calm_in_time s proper j r (omega (arith, within.lines_fit))

pub all_claimed : (j : List Line) → IsWithin j → HasClaims j → HasAllClaims j
all_claimed j within claims = record { claims = claims; calms = calms_within j within }

-- there is no line
pub nothing_claimed : (j : List Line) → j ≡ [] → HasAllClaims j
nothing_claimed j none = all_claimed j (nothing_within j none) (subst HasClaims (sym none) no_claims_fail)

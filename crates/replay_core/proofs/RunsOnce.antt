-- A run that is begun is a front of the script's run: so where the run fits in a journal, the next lines fit too.
use Rattle.std.proofs.Common.{◌≡◌, ℕ, zero, suc, ◌+◌, ◌-◌, ◌<◌, ◌≤◌, ◌⊎◌, inl, inr, List, [], ◌∷◌, ◌++◌, sym, ap, subst, ◌∙◌, arith, append_assoc, ⊎_elim}
use Rattle.std.proofs.lemmas.Bool.{cases_lt}
use Rattle.std.proofs.lemmas.List.{append-nil}
use Rattle.std.proofs.lemmas.Grind.{flat_map-append}
use Rattle.cluster_types.proofs.BoolFacts.{not_both as both}
use Rattle.script_lang.specs.declared.script.Command.{Command}
use Rattle.script_lang.specs.declared.script.Command.TheVariants as command
use Rattle.script_lang.specs.declared.script.Script.{Script}
use Rattle.journal_lines.specs.declared.line.Line.{Line}
use Rattle.cluster_rules.specs.declared.event.Event.TheVariants as event
use Rattle.cluster_rules.specs.Begun.{AreBegun, AllBegun, BegunRunOf, ComesNext, IsBegun, MayPlay, ThenBegun}
use Rattle.cluster_rules.specs.Opening.{header_lines}
use Rattle.cluster_rules.specs.Runs.{Calms, Plays, PlaysAll, RunOf}
use Rattle.cluster_rules.specs.Steps.{Step, Played, play, round, rounds, all_lines}
use Rattle.cluster_rules.specs.World.{World, opened}
use Rattle.cluster_rules.proofs.RunLaws.{one_played}

-- ---- fronts of steps

-- the steps begin with those and one more
pub record Begins (all taken : List Step) (next : Step) : Type 0 where
  pub others : List Step
  pub parts : all ≡ taken ++ next ∷ others

-- one list of steps is a front of the other
record Front (xs ys : List Step) : Type 0 where
  others : List Step
  parts : ys ≡ xs ++ others

longer : (xs ys taken : List Step) (next : Step) → Front xs ys → ComesNext xs taken next → Begins ys taken next
longer xs ys taken next f h = record {
  others = h.others ++ f.others;
  parts = f.parts ∙ ap (λ zs. zs ++ f.others) h.in_order ∙ append_assoc taken (next ∷ h.others) f.others;
}

-- fewer rounds are a front of more
rounds_front : (n : ℕ) (w : World) (k l : ℕ) → Front (rounds n k w).steps (rounds n (k + l) w).steps
unfolding rounds
rounds_front n w zero l =
    let none : 0 + l ≡ l = omega arith in
    record { others = (rounds n l w).steps; parts = ap (λ m. (rounds n m w).steps) none }
rounds_front n w (suc k) l =
    let one_more : suc k + l ≡ suc (k + l) = omega arith in
    let f : Front (rounds n k (round n w).world).steps (rounds n (k + l) (round n w).world).steps = rounds_front n (round n w).world k l in
    record {
      others = f.others;
      parts =
          ap (λ m. (rounds n m w).steps) one_more
          ∙ ap (λ ss. (round n w).steps ++ ss) f.parts
          ∙ sym (append_assoc (round n w).steps (rounds n k (round n w).world).steps f.others);
    }

-- ---- calm

-- rounds that are begun are no more than those of a calm that ends
no_more : (n : ℕ) (w : World) (x y : Played) (b : AreBegun n w x) (c : Calms n w y) → b.number ≤ c.number
no_more n w x y b c = ⊎_elim (λ (less : c.number < b.number). absurd (both _ c.reached.calm (b.uneasy c.number less))) (λ (h : b.number ≤ c.number). h) (cases_lt c.number b.number)

-- so they are a front of it
begun_front : (n : ℕ) (w : World) (x y : Played) → AreBegun n w x → Calms n w y → Front x.steps y.steps
begun_front n w x y b c = go (no_more n w x y b c)
  where
    told : Played
    told = play n (event.Calmed c.number) (rounds n c.number w).world

    go : b.number ≤ c.number → Front x.steps y.steps
    go few =
        let f : Front (rounds n b.number w).steps (rounds n (b.number + (c.number - b.number)) w).steps = rounds_front n w b.number (c.number - b.number) in
        let same : b.number + (c.number - b.number) ≡ c.number = omega (arith, few) in
        let reach : (rounds n c.number w).steps ≡ (rounds n b.number w).steps ++ f.others = ap (λ k. (rounds n k w).steps) (sym same) ∙ f.parts in
        record {
          others = f.others ++ told.steps;
          parts =
              ap (λ (p : Played). p.steps) c.played
              ∙ ap (λ ss. ss ++ told.steps) reach
              ∙ append_assoc (rounds n b.number w).steps f.others told.steps
              ∙ ap (λ (p : Played). p.steps ++ (f.others ++ told.steps)) (sym b.played);
        }

-- ---- commands

same_front : (x y : Played) → x ≡ y → Front x.steps y.steps
same_front x y e = record { others = []; parts = ap (λ (p : Played). p.steps) (sym e) ∙ sym (append-nil x.steps) }

-- what a command may play is a front of what it plays
may_front : (n : ℕ) (w : World) (c : Command) (x y : Played) → MayPlay n w c x → Plays n w c y → Front x.steps y.steps
may_front n w command.Calm x y (inl h) p = same_front x y (one_played n w command.Calm x y h p)
may_front n w command.Calm x y (inr h) p = begun_front n w x y h p
may_front n w c x y h p = same_front x y (one_played n w c x y h p)

behind : (first others : Played) (begun taken : List Step) (next : Step) → taken ≡ first.steps ++ begun → Begins others.steps begun next → Begins (first.steps ++ others.steps) taken next
behind first others begun taken next e h = record {
  others = h.others;
  parts = ap (λ ss. first.steps ++ ss) h.parts ∙ sym (append_assoc first.steps begun (next ∷ h.others)) ∙ ap (λ ss. ss ++ next ∷ h.others) (sym e);
}

within_first : (xs ys taken : List Step) (next : Step) → Begins xs taken next → Begins (xs ++ ys) taken next
within_first xs ys taken next h = record { others = h.others ++ ys; parts = ap (λ ss. ss ++ ys) h.parts ∙ append_assoc taken (next ∷ h.others) ys }

-- commands that are begun take the first steps of those commands
pub begun_begins : (n : ℕ) (cs : List Command) (w : World) (taken : List Step) (next : Step) (x : Played) → AllBegun n w cs taken next → PlaysAll n w cs x → Begins x.steps taken next
begun_begins n [] w taken next x h p = absurd h
begun_begins n (c ∷ cs) w taken next x h p =
    subst (λ (y : Played). Begins y.steps taken next) (sym p.whole) (go h (λ ss b. begun_begins n cs p.first.world ss next p.others b p.follows))
  where
    go : IsBegun n w c taken next ⊎ ThenBegun (Plays n w c) (λ v ss. AllBegun n v cs ss next) taken
        → ((ss : List Step) → AllBegun n p.first.world cs ss next → Begins p.others.steps ss next) → Begins (p.first.steps ++ p.others.steps) taken next
    go (inl i) others = within_first p.first.steps p.others.steps taken next (longer i.whole.steps p.first.steps taken next (may_front n w c i.whole p.first i.plays p.plays) i.front)
    go (inr i) others =
        let same : i.first ≡ p.first = one_played n w c i.first p.first i.plays p.plays in
        let begun : AllBegun n p.first.world cs i.others next = subst (λ (y : Played). AllBegun n y.world cs i.others next) same i.begun in
        behind p.first p.others i.others taken next (i.whole ∙ ap (λ (y : Played). y.steps ++ i.others) same) (others i.others begun)

-- ---- journals

-- the journal has those lines first
pub record BeginsWith (j begun : List Line) : Type 0 where
  pub others : List Line
  pub parts : j ≡ begun ++ others

lines_of : (taken : List Step) (next : Step) (others : List Step) → all_lines (taken ++ next ∷ others) ≡ (all_lines taken ++ next.lines) ++ all_lines others
lines_of taken next others =
    flat_map-append (λ (s : Step). s.lines) taken (next ∷ others)
    ∙ sym (append_assoc (all_lines taken) next.lines (all_lines others))

-- the journal of a script's run begins with that of the run that was begun, and then come the lines that come next
pub run_begins : (n : ℕ) (s : Script) (j begun next : List Line) → RunOf n s j → BegunRunOf n s begun next → BeginsWith j (begun ++ next)
run_begins n s j begun next r b =
    let h : Begins r.played.steps b.taken b.step = begun_begins n s.commands (opened s.header) b.taken b.step r.played b.begun r.plays in
    let front : List Line = header_lines s.header ++ all_lines b.taken in
    record {
      others = all_lines h.others;
      parts =
          r.written
          ∙ ap (λ ss. header_lines s.header ++ all_lines ss) h.parts
          ∙ ap (λ ls. header_lines s.header ++ ls) (lines_of b.taken b.step h.others)
          ∙ sym (append_assoc (header_lines s.header) (all_lines b.taken ++ b.step.lines) (all_lines h.others))
          ∙ ap (λ ls. ls ++ all_lines h.others) (sym (append_assoc (header_lines s.header) (all_lines b.taken) b.step.lines))
          ∙ ap (λ ls. (ls ++ b.step.lines) ++ all_lines h.others) (sym b.written)
          ∙ ap (λ ls. (begun ++ ls) ++ all_lines h.others) (sym b.following);
    }

-- Each front of a run is one that was begun, and what was begun takes the steps that are due.
use Rattle.std.proofs.Common.{◌≡◌, ℕ, ◌⊎◌, inl, inr, List, [], ◌∷◌, ◌++◌, refl, sym, ap, subst, ◌∙◌, append_assoc}
use Rattle.script_lang.specs.declared.script.Command.{Command}
use Rattle.script_lang.specs.declared.script.Command.TheVariants as command
use Rattle.script_lang.specs.declared.script.Script.{Script}
use Rattle.journal_lines.specs.declared.line.Line.{Line}
use Rattle.cluster_rules.specs.Begun.{ComesNext, AreBegun, MayPlay, AllBegun, BegunRunOf}
use Rattle.cluster_rules.specs.Marks.{after_all}
use Rattle.cluster_rules.specs.Opening.{header_lines}
use Rattle.cluster_rules.specs.Runs.{Plays, PlaysAll, RunOf}
use Rattle.cluster_rules.specs.Steps.{Step, marks_of, all_lines, AreDue, Played}
use Rattle.cluster_rules.specs.World.{World, opened}
use Rattle.cluster_rules.proofs.MarkLaws.{Follows, due_append, rounds_follow}
use Rattle.cluster_rules.proofs.RunLaws.{command_follows}

-- ---- two ways to part a list

-- the item stands in the first list
record InFirst (xs zs : List Step) (x : Step) : Type 0 where
  others : List Step
  parts : xs ≡ zs ++ x ∷ others

-- it stands in the second
record InSecond (xs ys zs : List Step) (x : Step) (us : List Step) : Type 0 where
  between : List Step
  before : zs ≡ xs ++ between
  parts : ys ≡ between ++ x ∷ us

abbrev head_of : Step → List Step → Step
head_of x [] = x
head_of x (y ∷ _) = y

abbrev tail_of : List Step → List Step
tail_of [] = []
tail_of (y ∷ others) = others

parted : (xs ys zs : List Step) (x : Step) (us : List Step) → xs ++ ys ≡ zs ++ x ∷ us → InFirst xs zs x ⊎ InSecond xs ys zs x us
parted [] ys zs x us e = inr (record { between = zs; before = refl; parts = e })
parted (a ∷ xs) ys [] x us e = inl (record { others = xs; parts = ap (λ y. y ∷ xs) (ap (head_of a) e) })
parted (a ∷ xs) ys (c ∷ zs) x us e = behind (parted xs ys zs x us (ap tail_of e))
  where
    same : a ≡ c
    same = ap (head_of a) e

    behind : InFirst xs zs x ⊎ InSecond xs ys zs x us → InFirst (a ∷ xs) (c ∷ zs) x ⊎ InSecond (a ∷ xs) ys (c ∷ zs) x us
    behind (inl h) = inl (record { others = h.others; parts = ap (λ vs. a ∷ vs) h.parts ∙ ap (λ y. y ∷ zs ++ x ∷ h.others) same })
    behind (inr h) = inr (record { between = h.between; before = ap (λ vs. c ∷ vs) h.before ∙ ap (λ y. y ∷ xs ++ h.between) (sym same); parts = h.parts })

-- ---- fronts of a run

none_next : (taken : List Step) (next : Step) (others : List Step) → [] ≡ taken ++ next ∷ others → ⊥
none_next [] next others e = differ e
  where
    differ : [] ≡ next ∷ others → ⊥
    differ i = cc
none_next (s ∷ taken) next others e = differ e
  where
    differ : [] ≡ s ∷ taken ++ next ∷ others → ⊥
    differ i = cc

whole_may : (n : ℕ) (w : World) (c : Command) (x : Played) → Plays n w c x → MayPlay n w c x
whole_may n w command.Calm x h = inl h
whole_may n w c x h = h

-- one command more, where the fronts of those behind it are begun
front_of_turn : (n : ℕ) (w : World) (c : Command) (cs : List Command) (first others : Played) (taken : List Step) (next : Step) (rest : List Step)
    → Plays n w c first → ((between : List Step) → ComesNext others.steps between next → AllBegun n first.world cs between next)
    → InFirst first.steps taken next ⊎ InSecond first.steps others.steps taken next rest → AllBegun n w (c ∷ cs) taken next
front_of_turn n w c cs first others taken next rest h behind (inl i) =
    inl (record { whole = first; plays = whole_may n w c first h; front = record { others = i.others; in_order = i.parts } })
front_of_turn n w c cs first others taken next rest h behind (inr i) =
    inr (record { first = first; plays = h; others = i.between; begun = behind i.between (record { others = rest; in_order = i.parts }); whole = i.before })

pub fronts_begun : (n : ℕ) (cs : List Command) (w : World) (x : Played) → PlaysAll n w cs x → (taken : List Step) (next : Step) → ComesNext x.steps taken next → AllBegun n w cs taken next
fronts_begun n [] w x h taken next f = none_next taken next f.others (sym (ap (λ (p : Played). p.steps) h) ∙ f.in_order)
fronts_begun n (c ∷ cs) w x h taken next f =
    front_of_turn n w c cs h.first h.others taken next f.others h.plays (λ between g. fronts_begun n cs h.first.world h.others h.follows between next g)
    (parted h.first.steps h.others.steps taken next f.others (sym (ap (λ (p : Played). p.steps) h.whole) ∙ f.in_order))

pub front_of_run : (n : ℕ) (s : Script) (j : List Line) (r : RunOf n s j) (taken : List Step) (next : Step) → ComesNext r.played.steps taken next
    → BegunRunOf n s (header_lines s.header ++ all_lines taken) next.lines
front_of_run n s j r taken next f = record {
  taken = taken;
  step = next;
  begun = fronts_begun n s.commands (opened s.header) r.played r.plays taken next f;
  written = refl;
  following = refl;
}

-- ---- what was begun is due

due_front : (n : ℕ) (w : World) (ss ts : List Step) → AreDue n w (ss ++ ts) → AreDue n w ss
due_front n w [] ts h = tt
due_front n w (s ∷ ss) ts h = (h.0, due_front n (after_all w (marks_of s)) ss ts h.1)

due_next : (n : ℕ) (w : World) (x : Played) (taken : List Step) (next : Step) → Follows n w x → ComesNext x.steps taken next → AreDue n w (taken ++ next ∷ [])
due_next n w x taken next h f =
    due_front n w (taken ++ next ∷ []) f.others
    (subst (λ (ss : List Step). AreDue n w ss) (f.in_order ∙ sym (append_assoc taken (next ∷ []) f.others)) h.due)

begun_follows : (n : ℕ) (w : World) (x : Played) → AreBegun n w x → Follows n w x
begun_follows n w x h = subst (Follows n w) (sym h.played) (rounds_follow n h.number w)

may_follow : (n : ℕ) (w : World) (c : Command) (x : Played) → MayPlay n w c x → Follows n w x
may_follow n w command.Calm x (inl h) = command_follows n w command.Calm x h
may_follow n w command.Calm x (inr h) = begun_follows n w x h
may_follow n w c x h = command_follows n w c x h

pub begun_due : (n : ℕ) (cs : List Command) (w : World) (taken : List Step) (next : Step) → AllBegun n w cs taken next → AreDue n w (taken ++ next ∷ [])
begun_due n [] w taken next h = absurd h
begun_due n (c ∷ cs) w taken next (inl h) = due_next n w h.whole taken next (may_follow n w c h.whole h.plays) h.front
begun_due n (c ∷ cs) w taken next (inr h) =
    subst (λ (ss : List Step). AreDue n w ss) (sym (append_assoc h.first.steps h.others (next ∷ [])) ∙ ap (λ (ss : List Step). ss ++ next ∷ []) (sym h.whole))
    (due_append n h.first.steps (h.others ++ next ∷ []) w first.due
    (subst (λ (v : World). AreDue n v (h.others ++ next ∷ [])) (sym first.leads) (begun_due n cs h.first.world h.others next h.begun)))
  where
    first : Follows n w h.first
    first = command_follows n w c h.first h.plays

-- What is taken on from a world is taken step by step.
use Rattle.std.proofs.Common.{◌≤◌, List, [], ◌∷◌, ◌++◌, All, length, sym, ap, subst, ◌∙◌, append_assoc, arith, length-append}
use Rattle.std.proofs.lemmas.Grind.{flat_map-append}
use Rattle.std.proofs.lemmas.List.Elements.{All-nil, All-cons, All-head, All-tail}
use Rattle.cluster_types.specs.Partitions.{partition_count}
use Rattle.cluster_rules.specs.Marks.{after_all}
use Rattle.cluster_rules.specs.Opening.{Header}
use Rattle.cluster_rules.specs.Steps.{Step, Played, all_lines, all_marks, marks_of}
use Rattle.cluster_rules.specs.World.{World, opened}
use Rattle.cluster_rules.proofs.FrontRuns.{front_allowed}
use Rattle.cluster_rules.proofs.MarkLaws.{Follows, after_all-append}
use Rattle.run_laws.specs.Taken.{IsProperEvent, Taken}
use Rattle.calm_laws.specs.Onward.{MayTake}

-- ---- fronts

all_front : (P : Step → Type 0) (xs ys : List Step) → All P (xs ++ ys) → All P xs
all_front P [] ys h = All-nil P
all_front P (x ∷ xs) ys h = All-cons P x xs (All-head P x (xs ++ ys) h) (all_front P xs ys (All-tail P x (xs ++ ys) h))

-- the front has no more lines
pub front_lines : (ss ts : List Step) → length (all_lines ss) ≤ length (all_lines (ss ++ ts))
front_lines ss ts = omega (arith, ap length (flat_map-append (λ (s : Step). s.lines) ss ts) ∙ length-append (all_lines ss) (all_lines ts))

pub taken_front : (h : Header) (ss ts : List Step) → Taken h (ss ++ ts) → Taken h ss
taken_front h ss ts t = record {
  header = t.header;
  declared = t.declared;
  allowed = front_allowed partition_count (opened h) ss ts t.allowed;
  ranges = all_front (λ (s : Step). IsProperEvent s.event) ss ts t.ranges;
  short = omega (arith, front_lines ss ts, t.short);
}

-- ---- from a world on

-- the first of these steps
pub may_front : (w : World) (ss ts : List Step) → MayTake w (ss ++ ts) → MayTake w ss
may_front w ss ts m = record {
  header = m.header;
  before = m.before;
  leads = m.leads;
  taken = taken_front m.header (m.before ++ ss) ts whole;
  room = omega (arith, front_lines (m.before ++ ss) ts, ap (λ (us : List Step). length (all_lines us)) (append_assoc m.before ss ts), m.room);
}
  where
    whole : Taken m.header ((m.before ++ ss) ++ ts)
    whole = subst (λ (us : List Step). Taken m.header us) (sym (append_assoc m.before ss ts)) m.taken

-- none of them
pub may_here : (w : World) (ss : List Step) → MayTake w ss → MayTake w []
may_here w ss m = may_front w [] ss m

-- the others, from the world after the first
pub may_after : (w : World) (ss ts : List Step) → MayTake w (ss ++ ts) → MayTake (after_all w (all_marks ss)) ts
may_after w ss ts m = record {
  header = m.header;
  before = m.before ++ ss;
  leads =
      ap (λ ms. after_all (opened m.header) ms) (flat_map-append marks_of m.before ss)
      ∙ after_all-append (opened m.header) (all_marks m.before) (all_marks ss)
      ∙ ap (λ (u : World). after_all u (all_marks ss)) m.leads;
  taken = subst (λ (us : List Step). Taken m.header us) (sym (append_assoc m.before ss ts)) m.taken;
  room = omega (arith, ap (λ (us : List Step). length (all_lines us)) (append_assoc m.before ss ts), m.room);
}

-- the same of what is played
pub may_on : (w : World) (x : Played) (ts : List Step) → Follows partition_count w x → MayTake w (x.steps ++ ts) → MayTake x.world ts
may_on w x ts f m = subst (λ (u : World). MayTake u ts) f.leads (may_after w x.steps ts m)

-- the steps before the world are taken
pub taken_before : {w : World} (m : MayTake w []) → Taken m.header m.before
taken_before m = taken_front m.header m.before [] m.taken

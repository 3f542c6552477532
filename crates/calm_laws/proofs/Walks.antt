-- What begins in every declared world, and each step that may be taken keeps, holds in every world that taken steps
-- lead to.
use Rattle.std.proofs.Common.{◌≡◌, ℕ, ◌+◌, ◌<◌, List, [], ◌∷◌, ◌++◌, All, map, length, refl, sym, subst, append-nil, arith, length-append}
use Rattle.std.proofs.lemmas.List.Elements.{All-head, All-tail}
use Rattle.cluster_types.specs.Partitions.{partition_count}
use Rattle.journal_lines.specs.declared.line.Line.{Line}
use Rattle.cluster_rules.specs.declared.event.Event.{Event}
use Rattle.cluster_rules.specs.Allowed.{AreAllowed, IsAllowed}
use Rattle.cluster_rules.specs.DueEvents.{due_of}
use Rattle.cluster_rules.specs.Marks.{Begins, Writes, after_all}
use Rattle.cluster_rules.specs.Opening.{Header}
use Rattle.cluster_rules.specs.Steps.{Step, all_lines, all_marks, marks_of, play}
use Rattle.cluster_rules.specs.World.{World, opened}
use Rattle.cluster_rules.proofs.AllowedLaws.{allowed_due}
use Rattle.cluster_rules.proofs.MarkLaws.{after_all-append}
use Rattle.run_laws.specs.Taken.{IsProperEvent, line_bound}
use Rattle.run_laws.specs.Worlds.{world_after}
use Rattle.calm_laws.specs.Flows.{InOrder, Named}
use Rattle.calm_laws.specs.Onward.{MayTake}
use Rattle.calm_laws.proofs.Onward.{may_after, may_here, taken_before}
use Rattle.calm_laws.proofs.Reached.{reached_named, reached_order}

-- ---- what a world is from which steps are taken

pub named_of : {w : World} → MayTake w [] → Named w
named_of m = subst Named m.leads (reached_named m.header (all_marks m.before))

pub order_of : {w : World} → MayTake w [] → InOrder w
order_of m = subst InOrder m.leads (reached_order partition_count m.header m.before (allowed_due partition_count m.before (opened m.header) (taken_before m).allowed))

-- ---- the next step

allowed_behind : (ss ts : List Step) (w : World) → AreAllowed partition_count w (ss ++ ts) → AreAllowed partition_count (after_all w (all_marks ss)) ts
allowed_behind [] ts w h = h
allowed_behind (s ∷ ss) ts w h = subst (λ (u : World). AreAllowed partition_count u ts) (sym (after_all-append w (marks_of s) (all_marks ss))) (allowed_behind ss ts (after_all w (marks_of s)) h.1)

all_behind : (P : Step → Type 0) (ss ts : List Step) → All P (ss ++ ts) → All P ts
all_behind P [] ts h = h
all_behind P (s ∷ ss) ts h = all_behind P ss ts (All-tail P s (ss ++ ts) h)

pub record Ahead (w : World) (s : Step) : Type 0 where
  pub allowed : IsAllowed partition_count w s
  pub proper : IsProperEvent s.event

pub ahead : (w : World) (s : Step) (ss : List Step) → MayTake w (s ∷ ss) → Ahead w s
ahead w s ss m = record {
  allowed = subst (λ (u : World). IsAllowed partition_count u s) m.leads (allowed_behind m.before (s ∷ ss) (opened m.header) m.taken.allowed).0;
  proper = All-head (λ (x : Step). IsProperEvent x.event) s ss (all_behind (λ (x : Step). IsProperEvent x.event) m.before (s ∷ ss) m.taken.ranges);
}

-- ---- all of them

module _ (P : ℕ → World → Type 0) (begins : (h : Header) → P 0 (opened h))
    (keeps : (k : ℕ) (w : World) (e : Event) → MayTake w [] → IsProperEvent e → P k w → P (k + length (due_of partition_count w e)) (play partition_count e w).world) where
  on : (ss : List Step) (k : ℕ) (w : World) → MayTake w ss → P k w → P (k + length (all_lines ss)) (after_all w (all_marks ss))
  on [] k w m p = subst (λ (j : ℕ). P j w) (none k) p
    where
      none : (k : ℕ) → k ≡ k + 0
      none k = omega arith
  on (s ∷ ss) k w m p =
      let a : Ahead w s = ahead w s ss m in
      let one : P (k + length s.lines) (after_all w (marks_of s)) =
      subst (λ (ls : List Line). P (k + length ls) (after_all w (Begins s.event ∷ map Writes ls))) (sym a.allowed.due) (keeps k w s.event (may_here w (s ∷ ss) m) a.proper p) in
      let next : MayTake (after_all w (marks_of s)) ss = subst (λ ms. MayTake (after_all w ms) ss) (append-nil (marks_of s)) (may_after w (s ∷ []) ss m) in
      subst (λ (u : World). P (k + length (all_lines (s ∷ ss))) u) (sym (after_all-append w (marks_of s) (all_marks ss)))
      (subst (λ (j : ℕ). P j (after_all (after_all w (marks_of s)) (all_marks ss))) (more k s.lines (all_lines ss)) (on ss (k + length s.lines) (after_all w (marks_of s)) next one))
    where
      more : (k : ℕ) (xs ys : List Line) → k + length xs + length ys ≡ k + length (xs ++ ys)
      more k xs ys = omega (arith, length-append xs ys)

  -- in every such world, with as many lines as stand there
  pub reaches : (w : World) (m : MayTake w []) → P (length (all_lines m.before)) w
  reaches w m =
      let start : MayTake (opened m.header) m.before = record { header = m.header; before = []; leads = refl; taken = taken_before m; room = room m } in
      subst (λ (u : World). P (length (all_lines m.before)) u) m.leads
      (subst (λ (k : ℕ). P k (world_after m.header m.before)) (none (length (all_lines m.before))) (on m.before 0 (opened m.header) start (begins m.header)))
    where
      none : (k : ℕ) → 0 + k ≡ k
      none k = omega arith

      room : (m : MayTake w []) → length (all_lines m.before) + 1 < line_bound
      room m = subst (λ (ss : List Step). length (all_lines ss) + 1 < line_bound) (append-nil m.before) m.room

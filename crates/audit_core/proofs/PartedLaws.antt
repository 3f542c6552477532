-- What follows where all was tried behind a line, and where a replica parts from the fold.
use Rattle.std.proofs.Common.{◌≡◌, ℕ, ◌+◌, Bool, true, false, cond, List, [], ◌∷◌, ◌++◌, length, Option, Some, None, refl, sym, ap, subst, ◌∙◌, arith}
use Rattle.std.specs.Prelude.{take, is_some, fold, IsTrue}
use Rattle.std.specs.List.{list_any, count_by}
use Rattle.std.proofs.lemmas.Bool.{or_parts}
use Rattle.cluster_types.specs.declared.cluster_key.ClusterKey.{ClusterKey}
use Rattle.cluster_types.specs.Partitions.{partition_of}
use Rattle.journal_lines.specs.declared.line.Line.{Line}
use Rattle.journal_readings.specs.Claims.{SettledJoin, ShowsMap}
use Rattle.journal_readings.specs.Contents.{content}
use Rattle.journal_readings.specs.Entries.{fold_of}
use Rattle.journal_readings.specs.Lines.{has_node}
use Rattle.journal_readings.specs.Settings.{policy_of, factor_of}
use Rattle.journal_readings.specs.Shape.{Shape}
use Rattle.journal_readings.specs.Settled.{has_open_write, is_open_write, is_settled}
use Rattle.journal_readings.specs.Views.{master, view, is_replica}
use Rattle.audit_laws.specs.Fits.{FitsShape, LosesNothing, JoinsReplicas, HoldsFold, may_part}
use Rattle.audit_laws.proofs.SettledSteps.{settled_more}
use Rattle.audit_laws.proofs.Steps.{shape_step}
use Rattle.audit_laws.proofs.Tests.{differ}
use Rattle.audit_core.specs.declared.judge.Judge.{Judge}
use Rattle.audit_laws.specs.declared.law.Law.{Law}
use Rattle.audit_core.specs.declared.verdict.Stop.{Stop}
use Rattle.audit_core.specs.declared.verdict.Stop.TheVariants as stop
use Rattle.audit_state.specs.declared.views.View.{View}
use Rattle.audit_state.specs.Written.{stand_of}
use Rattle.audit_core.specs.Audits.{so_far}
use Rattle.audit_core.specs.Known.{kept_view}
use Rattle.audit_core.specs.Sees.{IsBound, IsTried, IsSuspect, HasNoDoubts, SeesTried}
use Rattle.audit_core.specs.Trying.{SeesLines, IsTriedOf, IsTrying, IsParted, StopsParted}
use Rattle.audit_core.specs.Verdicts.{BreaksFirst, StopsRightly}
use Rattle.audit_core.proofs.BoundLaws.{view_entered}
use Rattle.audit_core.proofs.VerdictLaws.{all_taken}

-- ---- all was tried

pub all_tried : (s : Judge) (i : ℕ) (tried : ClusterKey → List ℕ → Bool) → IsTrying s i tried → ((k : ClusterKey) (d : List ℕ) → tried k d ≡ true) → SeesTried s (so_far s i)
all_tried s i tried t all = record {
  stands = t.stands;
  listed = t.listed;
  unsettled = t.unsettled;
  tried = λ k p x e bound. let h : IsTriedOf (tried k) s (so_far s i) k p (stand_of x p) = t.tried k p x e bound in
      record { closed = h.closed; joined = λ untried d part clear. h.joined untried d part (all k d) clear };
}

pub none_open : (test : Line → Bool) (j : List Line) (n : ℕ) → list_any test j ≡ false → fold (λ (c : ℕ) (x : Line). c + cond (test x) 1 0) n j ≡ n
none_open test [] n e = refl
none_open test (x ∷ j) n e =
    let parts : (test x ≡ false) × (list_any test j ≡ false) = or_parts (test x) (list_any test j) e in
    ap (λ (b : Bool). fold (λ (c : ℕ) (y : Line). c + cond (test y) 1 0) (n + cond b 1 0) j) parts.0
    ∙ (none_open test j (n + 0) parts.1 ∙ same n)
  where
    same : (n : ℕ) → n + 0 ≡ n
    same n = omega arith

-- where no write is open, none is counted
pub none_counted : (k : ClusterKey) (p : ℕ) (j : List Line) → has_open_write k p j ≡ false → count_by (is_open_write k p (master k p j) j) j ≡ 0
unfolding has_open_write
none_counted k p j e = none_open (is_open_write k p (master k p j) j) j 0 e

known_view : (s : Judge) (i : ℕ) (k : ClusterKey) (p : ℕ) → SeesLines s i → IsBound k p (so_far s i) → (x : View) × (kept_view s k ≡ Some x)
known_view s i k p h bound = go (kept_view s k) refl
  where
    go : (o : Option View) → kept_view s k ≡ o → (x : View) × (kept_view s k ≡ Some x)
    go (Some x) e = (x, e)
    go None e = differ (view_entered (master k p (so_far s i)) k (so_far s i) bound.remains) (sym (h.frame.known_views k) ∙ ap (λ (o : Option View). is_some o) e)

pub joins_all : (s : Judge) (i : ℕ) (j : List Line) (l : Line) → so_far s i ≡ j ++ l ∷ [] → SeesLines s i → SeesTried s (so_far s i) → JoinsReplicas j l
joins_all s i j l front h t = record {
  whole = subst (λ (ls : List Line). (k : ClusterKey) (r : ℕ) (d : List ℕ) → IsTrue (may_part j l k d) → HoldsFold (policy_of ls) (factor_of ls) ls k r d) front
      (λ k r d parts settled closed remains replica in_view.
      let bound : IsBound k (partition_of d) (so_far s i) = record { settled = settled; remains = remains } in
      let x : (x : View) × (kept_view s k ≡ Some x) = known_view s i k (partition_of d) h bound in
      let tried : IsTried s (so_far s i) k (partition_of d) (stand_of x.0 (partition_of d)) = t.tried k (partition_of d) x.0 x.1 bound in
      let clear : HasNoDoubts (stand_of x.0 (partition_of d)) = tried.closed ((t.stands k (partition_of d) x.0 x.1).open_writes ∙ none_counted k (partition_of d) (so_far s i) closed) in
      tried.joined clear.tried d refl (λ (q : IsSuspect s (stand_of x.0 (partition_of d)) d). differ q.2 (ap (λ (rs : List ℕ). has_node rs q.0) clear.suspects)) r replica in_view);
}

-- ---- a replica parts from the fold

pub parted_breaks : (j ls : List Line) (l : Line) → ls ≡ j ++ l ∷ [] → Shape j → SettledJoin j → FitsShape j l → IsParted ls → JoinsReplicas j l → ⊥
parted_breaks j ls l front shape settled fits parted joins =
    let all : SettledJoin ls = subst SettledJoin (sym front) (settled_more j l ((shape_step j l).1 (shape, fits)) settled joins) in
    parted.parted (λ r replica in_view.
    subst (λ (xs : List Line). content (policy_of ls) r parted.digest xs ≡ fold_of (policy_of ls) parted.key parted.digest xs) whole
    (all.whole (length ls) parted.key r parted.digest
    (subst (λ (xs : List Line). IsTrue (is_settled parted.key (partition_of parted.digest) xs)) (sym whole) parted.bound.settled)
    (subst (λ (xs : List Line). has_open_write parted.key (partition_of parted.digest) xs ≡ false) (sym whole) parted.closed)
    (subst (λ (xs : List Line). view (master parted.key (partition_of parted.digest) xs) xs ≡ Some parted.key) (sym whole) parted.bound.remains)
    (subst (λ (xs : List Line). IsTrue (is_replica (factor_of ls) parted.key (partition_of parted.digest) r xs)) (sym whole) replica)
    (subst (λ (xs : List Line). view r xs ≡ Some parted.key) (sym whole) in_view)))
  where
    whole : take (length ls) ls ≡ ls
    whole = all_taken ls

-- trying stops for the settled join, where the laws before it are kept
pub parted_stops : (j ls : List Line) (l : Line) (x : Stop) → ls ≡ j ++ l ∷ [] → Shape j → SettledJoin j → FitsShape j l → ShowsMap j l → LosesNothing j l → StopsParted x ls → StopsRightly x j l
parted_stops j ls l stop.NoMemory front shape settled fits map losses h = tt
parted_stops j ls l (stop.Breaks w) front shape settled fits map losses h =
    subst (λ (z : Law). BreaksFirst z j l) (sym h.0)
    (record { before = (fits, map, losses); broken = parted_breaks j ls l front shape settled fits h.1 })

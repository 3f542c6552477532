-- A record, or a partition, is tried in a view: at once, or as its last open write ends.
use Rattle.std.proofs.Common.{◌≡◌, ℕ, Bool, true, false, List, Option, Some, None, ◌⊎◌, inl, inr, ◌↔◌, refl, sym, ap, subst, ◌∙◌}
use Rattle.std.specs.Prelude.{nat_lt, IsTrue, IfErr, IsErrAnd, OnOk, Result, Ok, Err}
use Rattle.journal_lines.specs.declared.line.Line.{Line}
use Rattle.cluster_types.specs.declared.cluster_key.ClusterKey.{ClusterKey}
use Rattle.cluster_types.specs.Partitions.{partition_of}
use Rattle.audit_laws.proofs.Tests.{differ}
use Rattle.audit_core.specs.declared.judge.Judge.{Judge}
use Rattle.audit_laws.specs.declared.law.Law.TheVariants as law
use Rattle.audit_core.specs.declared.verdict.Stop.{Stop}
use Rattle.audit_core.specs.declared.verdict.Stop.TheVariants as stop
use Rattle.audit_state.specs.declared.views.View.{View}
use Rattle.audit_state.specs.OpenWrites.{Suspects, Distrusts}
use Rattle.audit_state.specs.Records.{record_number}
use Rattle.audit_state.specs.Written.{stand_of}
use Rattle.audit_core.specs.Audits.{so_far}
use Rattle.audit_core.specs.Known.{kept_view}
use Rattle.audit_core.specs.Sees.{IsBound, AllJoin}
use Rattle.audit_core.specs.Settling.{stand_at, stand_from}
use Rattle.audit_core.specs.Steps.{ChangesView}
use Rattle.audit_core.specs.Covering.{SeesCovers}
use Rattle.audit_core.specs.Trying.{SeesLines, SeesStands, SeesSettled, IsTrying, IsParted, tried_with_record, tried_with_present, JoinsRecord, PartsRecord, TriesRecord, TriesPresent, TriesPartition, JoinsPartition, StopsParted, StopsRecord, StopsTrying, StopsAll, KeepsKnown, KeepsStands, SameButStands}
use Rattle.audit_core.proofs.WordLaws.{both_same}
use Rattle.audit_core.proofs.TryLaws.{record_widened, partition_widened, later_record, later_partition, closed_so, widened, record_cases}

-- what tells whether the partition is bound
abbrev pub TellsBound : Judge → ClusterKey → ℕ → Bool → Type 0
TellsBound s k p b = (i : ℕ) → SeesLines s i → SeesSettled s i → IsTrue b ↔ IsBound k p (so_far s i)

settled_of : (s : Judge) (i : ℕ) (those : ClusterKey → List ℕ → Bool) → IsTrying s i those → SeesSettled s i
settled_of s i those t = λ k p x e. (t.stands k p x e).settled

-- a write is open only in a view that is known
open_there : (s : Judge) (k : ClusterKey) (p : ℕ) → nat_lt 0 (stand_at s k p).open_writes ≡ true → (x : View) × (kept_view s k ≡ Some x) × (nat_lt 0 (stand_of x p).open_writes ≡ true)
open_there s k p e = go (kept_view s k) refl e
  where
    go : (o : Option View) → kept_view s k ≡ o → nat_lt 0 (stand_from o p).open_writes ≡ true → (x : View) × (kept_view s k ≡ Some x) × (nat_lt 0 (stand_of x p).open_writes ≡ true)
    go None q r = differ r refl
    go (Some x) q r = (x, q, r)

-- ---- a record

pub touch_unbound : (s : Judge) (k : ClusterKey) (r p : ℕ) (b : Bool) → TellsBound s k p b → b ≡ false → TriesRecord k r p s s
unfolding TriesRecord
touch_unbound s k r p b tells off i d those h is t =
    record_widened s i k d those (λ bound. differ ((tells i h (settled_of _ i those t)).1 (subst (λ (q : ℕ). IsBound k q (so_far s i)) is.part bound)) off) t

pub touch_open : (old new : Judge) (k : ClusterKey) (r p : ℕ) (b : Bool) → TellsBound old k p b → b ≡ true → nat_lt 0 (stand_at old k p).open_writes ≡ true → ChangesView (Suspects r p) k old new → TriesRecord k r p old new
unfolding TriesRecord
touch_open old new k r p b tells on counted c i d those h is t =
    let there : (x : View) × (kept_view old k ≡ Some x) × (nat_lt 0 (stand_of x p).open_writes ≡ true) = open_there old k p counted in
    later_record old new i k r p d those there.0 c there.1 there.2 ((tells i h (settled_of _ i those t)).0 on).settled
    (ap (λ (s : Judge). record_number s.records d) c.rest ∙ h.stores.records.numbered.numbers d r is.named) is.part t

pub touch_closed : (s : Judge) (k : ClusterKey) (r p : ℕ) → JoinsRecord s k r p → TriesRecord k r p s s
unfolding TriesRecord JoinsRecord
touch_closed s k r p joins i d those h is t = record_widened s i k d those (λ bound. joins i d h is) t

no_open : (s : Judge) (i : ℕ) (k : ClusterKey) (p : ℕ) → SeesLines s i → SeesStands s i → IsBound k p (so_far s i) → nat_lt 0 (stand_at s k p).open_writes ≡ false → Rattle.journal_readings.specs.Settled.has_open_write k p (so_far s i) ≡ false
no_open s i k p h stands bound e = go (kept_view s k) refl e
  where
    go : (o : Option View) → kept_view s k ≡ o → nat_lt 0 (stand_from o p).open_writes ≡ false → Rattle.journal_readings.specs.Settled.has_open_write k p (so_far s i) ≡ false
    go (Some x) q r = closed_so s i k p x stands q r
    go None q r = differ (h.frame.known_views k ∙ Rattle.audit_core.proofs.BoundLaws.view_entered (Rattle.journal_readings.specs.Views.master k p (so_far s i)) k (so_far s i) bound.remains) (ap Rattle.std.specs.Prelude.is_some q)

parts_here : (s : Judge) (i : ℕ) (k : ClusterKey) (p : ℕ) (d : List ℕ) → SeesLines s i → SeesStands s i → IsBound k p (so_far s i) → nat_lt 0 (stand_at s k p).open_writes ≡ false → partition_of d ≡ p → (AllJoin k d (so_far s i) → ⊥) → IsParted (so_far s i)
parts_here s i k p d h stands bound closed part parted = record {
  key = k;
  digest = d;
  bound = subst (λ (q : ℕ). IsBound k q (so_far s i)) (sym part) bound;
  closed = ap (λ (q : ℕ). Rattle.journal_readings.specs.Settled.has_open_write k q (so_far s i)) part ∙ no_open s i k p h stands bound closed;
  parted = parted;
}

pub touch_parted : (s : Judge) (k : ClusterKey) (r p : ℕ) (b : Bool) (x : Stop) → TellsBound s k p b → b ≡ true → nat_lt 0 (stand_at s k p).open_writes ≡ false → x ≡ stop.Breaks law.SettledJoin → PartsRecord s k r p → StopsRecord s r p x
unfolding StopsRecord PartsRecord
touch_parted s k r p b x tells on closed is parts i d those h named t =
    subst (λ (z : Stop). StopsParted z (so_far s i)) (sym is)
    (refl, parts_here s i k p d h t.stands ((tells i h (settled_of _ i those t)).0 on) closed named.part (λ join. parts i d h named join))

pub touch_no_memory : (s : Judge) (r p : ℕ) (x : Stop) → x ≡ stop.NoMemory → StopsRecord s r p x
unfolding StopsRecord
touch_no_memory s r p x is i d those h named t = subst (λ (z : Stop). StopsParted z (so_far s i)) (sym is) tt

-- ---- in the node's view

pub present_none : (s : Judge) (present other : Option ClusterKey) (r p : ℕ) → present ≡ None → TriesPresent present other r p s s
unfolding TriesPresent
present_none s present other r p e i d those h is before t = subst (λ (o : Option ClusterKey). IsTrying s i (tried_with_present those o d)) (sym e) t

pub present_other : (s : Judge) (present other : Option ClusterKey) (r p : ℕ) (k : ClusterKey) → present ≡ Some k → other ≡ Some k → TriesPresent present other r p s s
unfolding TriesPresent
present_other s present other r p k e same i d those h is before t =
    subst (λ (o : Option ClusterKey). IsTrying s i (tried_with_present those o d)) (sym e)
    (widened s i those (tried_with_record those k d)
    (λ l f m. go l f (record_cases those k d l f m)) t)
  where
    go : (l : ClusterKey) (f : List ℕ) → (those l f ≡ true) ⊎ ((k ≡ l) × (d ≡ f)) → (those l f ≡ true) ⊎ (IsBound l (partition_of f) (so_far s i) → AllJoin l f (so_far s i))
    go l f (inl q) = inl q
    go l f (inr q) = inl (subst (λ (z : ClusterKey). those z f ≡ true) q.0 (subst (λ (z : List ℕ). those k z ≡ true) q.1 (before k same)))

pub present_touched : (old new : Judge) (present other : Option ClusterKey) (r p : ℕ) (k : ClusterKey) → present ≡ Some k → TriesRecord k r p old new → TriesPresent present other r p old new
unfolding TriesPresent TriesRecord
present_touched old new present other r p k e tries i d those h is before t = subst (λ (o : Option ClusterKey). IsTrying new i (tried_with_present those o d)) (sym e) (tries i d those h is t)

-- ---- a partition

pub begin_unbound : (s : Judge) (i : ℕ) (k : ClusterKey) (p : ℕ) (b : Bool) → TellsBound s k p b → b ≡ false → TriesPartition i k p s s
unfolding TriesPartition
begin_unbound s i k p b tells off those h t = partition_widened s i k p those (λ bound. differ ((tells i h (settled_of _ i those t)).1 bound) off) t

pub begin_open : (old new : Judge) (i : ℕ) (k : ClusterKey) (p : ℕ) (b : Bool) → TellsBound old k p b → b ≡ true → nat_lt 0 (stand_at old k p).open_writes ≡ true → ChangesView (Distrusts p) k old new → TriesPartition i k p old new
unfolding TriesPartition
begin_open old new i k p b tells on counted c those h t =
    let there : (x : View) × (kept_view old k ≡ Some x) × (nat_lt 0 (stand_of x p).open_writes ≡ true) = open_there old k p counted in
    later_partition old new i k p those there.0 c there.1 there.2 ((tells i h (settled_of _ i those t)).0 on).settled t

-- ---- refused memory

pub err_then : {T E : Type 0} (r : Result T E) (P Q : E → Type 0) → ((e : E) → P e → Q e) → IsErrAnd r P → IfErr r Q
err_then {T} {E} (Ok x) P Q f h = tt
err_then {T} {E} (Err e) P Q f h = f e h

pub begin_no_memory : (s : Judge) (i : ℕ) (x : Stop) → x ≡ stop.NoMemory → StopsTrying s i x
unfolding StopsTrying
begin_no_memory s i x is those h t = subst (λ (z : Stop). StopsParted z (so_far s i)) (sym is) tt

-- only what is known of covers changed
pub covers_keep : (old new : Judge) → KeepsStands old new → KeepsKnown old new
covers_keep old new keeps = record {
  rest = ap (λ (s : Judge). record s { views = old.views }) keeps;
  views = λ k. both_same SameButStands (λ x. record { rest = refl; written = λ p. refl }) (kept_view old k) (kept_view new k) (ap (λ (s : Judge). kept_view s k) keeps);
}

moved_trying : (old new : Judge) (i : ℕ) (those : ClusterKey → List ℕ → Bool) → KeepsStands old new → SeesCovers new i → IsTrying old i those → IsTrying new i those
moved_trying old new i those keeps covers t =
    let moved : IsTrying (record new { covers = old.covers }) i those = subst (λ (s : Judge). IsTrying s i those) (sym keeps) t in
    record {
      stands = moved.stands;
      listed = moved.listed;
      unsettled = moved.unsettled;
      tried = λ k p x e bound. record { closed = (moved.tried k p x e bound).closed; joined = (moved.tried k p x e bound).joined };
      covers = covers;
    }

-- all records join, or one doesn't
pub begin_joined : (old new : Judge) (i : ℕ) (k : ClusterKey) (p : ℕ) → KeepsStands old new → JoinsPartition i k p old new → TriesPartition i k p old new
unfolding JoinsPartition TriesPartition
begin_joined old new i k p keeps joins those h t =
    let all : SeesCovers new i × ((d : List ℕ) → partition_of d ≡ p → AllJoin k d (so_far old i)) = joins h t.covers in
    partition_widened new i k p those (λ bound d part. subst (λ (j : List Line). AllJoin k d j) (sym (ap (λ (s : Judge). so_far s i) keeps)) (all.1 d part)) (moved_trying old new i those keeps all.0 t)

pub begin_parted : (s : Judge) (i : ℕ) (k : ClusterKey) (p : ℕ) (b : Bool) (x : Stop) → TellsBound s k p b → b ≡ true → nat_lt 0 (stand_at s k p).open_writes ≡ false → StopsAll i k p s x → StopsTrying s i x
unfolding StopsAll StopsTrying
begin_parted s i k p b stop.NoMemory tells on closed stops those h t = tt
begin_parted s i k p b (stop.Breaks l) tells on closed stops those h t =
    let x : (l ≡ law.SettledJoin) × (d : List ℕ) × (partition_of d ≡ p) × (AllJoin k d (so_far s i) → ⊥) = stops h t.covers in
    (x.0, parts_here s i k p x.1 h t.stands ((tells i h (settled_of _ i those t)).0 on) closed x.2 x.3)

pub begin_ok : {E : Type 0} (old new : Judge) (i : ℕ) (k : ClusterKey) (p : ℕ) (r : Result (Unit {0}) E) → OnOk r (KeepsStands old new) → OnOk r (JoinsPartition i k p old new) → OnOk r (TriesPartition i k p old new)
begin_ok {E} old new i k p (Ok x) keeps joins = begin_joined old new i k p keeps joins
begin_ok {E} old new i k p (Err e) keeps joins = tt

-- The writes that a line ends are counted out, one by one.
use Rattle.std.proofs.Common.{◌≡◌, ℕ, zero, suc, drop, ◌==◌, ◌+◌, ◌-◌, ◌<◌, ◌≤◌, Bool, true, false, ◌||◌, cond, List, [], ◌∷◌, ◌++◌, length, get_or, Option, Some, None, option_map, ◌⊎◌, inl, inr, refl, sym, ap, subst, ◌∙◌, arith}
use Rattle.std.specs.Prelude.{is_some, nat_lt, nat_eq, take, Result, Ok, Err, OnOk}
use Rattle.std.specs.List.{list_any, count_by}
use Rattle.std.proofs.Math.Seq.{drop-cons}
use Rattle.std.proofs.lemmas.Bool.{or_left, or_right}
use Rattle.std.proofs.lemmas.Bool.Decides.{nat_tests}
use Rattle.std.proofs.lemmas.List.{take_more}
use Rattle.std.proofs.lemmas.List.Folds.{list_any-append}
use Rattle.std.proofs.lemmas.List.Sums.{sum_by-cons}
use Rattle.cluster_types.specs.declared.cluster_key.ClusterKey.{ClusterKey}
use Rattle.cluster_types.specs.Partitions.{partition_of}
use Rattle.journal_lines.specs.declared.line.Line.{Line}
use Rattle.journal_readings.specs.Lines.{same_key, has_node, is_settled_line}
use Rattle.journal_readings.specs.Settled.{is_settled, is_open_write, has_open_write}
use Rattle.journal_readings.specs.Views.{master}
use Rattle.journal_readings.proofs.AlongLaws.{no_some, some_same}
use Rattle.journal_readings.proofs.Fronts.{same_key_is}
use Rattle.audit_laws.proofs.ShapeSteps.{same_key_itself}
use Rattle.audit_laws.proofs.Tests.{differ, number_same, number_here}
use Rattle.audit_core.specs.declared.judge.Judge.{Judge}
use Rattle.audit_laws.specs.declared.law.Law.TheVariants as law
use Rattle.audit_core.specs.declared.verdict.Stop.{Stop}
use Rattle.audit_core.specs.declared.verdict.Stop.TheVariants as stop
use Rattle.audit_core.specs.Audits.{so_far}
use Rattle.audit_core.specs.Covering.{SeesCovers}
use Rattle.audit_core.specs.Ending.{IsEnding, SeesEndedStand, ended_in, EndsOne, StopsEnding, TriesDoubts, StopsDoubts, IsInDoubt, JoinsRecords, PartsOf, PartsOneOf}
use Rattle.audit_core.specs.Frames.{Both}
use Rattle.audit_core.specs.Known.{kept_view}
use Rattle.audit_core.specs.Sees.{IsBound, AllJoin, IsTried, HasNoDoubts, IsSuspect}
use Rattle.audit_core.specs.Settling.{stand_from, stand_at}
use Rattle.audit_core.specs.Steps.{ChangesView}
use Rattle.audit_core.specs.Stored.{IsRecordOf}
use Rattle.audit_core.specs.Trying.{SeesLines, SeesSettled, KeepsKnown, KeepsStands, SameButStands, StopsParted, IsParted, JoinsPartition, StopsAll, JoinsRecord, PartsRecord}
use Rattle.audit_core.proofs.BeginLaws.{take_whole}
use Rattle.audit_core.proofs.TouchLaws.{TellsBound, covers_keep}
use Rattle.audit_core.proofs.TouchedLaws.{named_of}
use Rattle.audit_core.proofs.TryLaws.{keeps_then, front_kept, changes_keep, sets_keep, lines_kept, covers_kept, none_counted, open_not_none}
use Rattle.audit_state.specs.declared.views.View.{View}
use Rattle.audit_state.specs.declared.writes.Doubts.{Doubts}
use Rattle.audit_state.specs.OpenWrites.{EndsWrite, IsToTry, ended_stand, fewer_stand}
use Rattle.audit_state.specs.Records.{record_number, record_digest}
use Rattle.audit_state.specs.Written.{Stand, stand_of}

-- ---- how many of the ended writes are still counted

count_first : (p q : ℕ) (ps : List ℕ)
    → count_by (λ (m : ℕ). m == q) (p ∷ ps) ≡ cond (p == q) 1 0 + count_by (λ (m : ℕ). m == q) ps
count_first p q ps = sum_by-cons (λ (m : ℕ). cond (m == q) 1 0) p ps

-- one of them is a write of the partition
ended_here : (k : ClusterKey) (p : ℕ) (ps : List ℕ)
    → ended_in k (p ∷ ps) k p ≡ ended_in k ps k p + 1
ended_here k p ps = go (same_key k k) (same_key_itself k)
  where
    one : count_by (λ (m : ℕ). m == p) (p ∷ ps) ≡ count_by (λ (m : ℕ). m == p) ps + 1
    one =
        let first : count_by (λ (m : ℕ). m == p) (p ∷ ps) ≡ 1 + count_by (λ (m : ℕ). m == p) ps =
        count_first p p ps
        ∙ ap (λ (b : Bool). cond b 1 0 + count_by (λ (m : ℕ). m == p) ps) (number_here p) in
        omega (arith, first)

    go : (b : Bool) → b ≡ true
        → cond b (count_by (λ (m : ℕ). m == p) (p ∷ ps)) 0
        ≡ cond b (count_by (λ (m : ℕ). m == p) ps) 0 + 1
    go true e = one
    go false e = differ e refl

-- and of no other
ended_apart : (k l : ClusterKey) (p q : ℕ) (ps : List ℕ) → ((k ≡ l) × (p ≡ q) → ⊥)
    → ended_in k (p ∷ ps) l q ≡ ended_in k ps l q
ended_apart k l p q ps apart = go (same_key k l) refl
  where
    none : (b : Bool) → (p == q) ≡ b → k ≡ l
        → cond b 1 0 + count_by (λ (m : ℕ). m == q) ps ≡ count_by (λ (m : ℕ). m == q) ps
    none true e key = absurd (apart (key, number_same p q e))
    none false e key = omega arith

    go : (b : Bool) → same_key k l ≡ b
        → cond b (count_by (λ (m : ℕ). m == q) (p ∷ ps)) 0
        ≡ cond b (count_by (λ (m : ℕ). m == q) ps) 0
    go true e = count_first p q ps ∙ none (p == q) refl (same_key_is k l e)
    go false e = refl

-- ---- the stand of a partition as one of its writes ends

abbrev cleared_stand : Stand → Stand
cleared_stand z =
    record { settled = z.settled; open_writes = z.open_writes - 1; untried = false; suspects = [] }

some_left : (z : Stand) → nat_lt 0 (z.open_writes - 1) ≡ true → ended_stand z ≡ fewer_stand z
some_left z e = ap (λ (b : Bool). cond b (fewer_stand z) (cleared_stand z)) e

none_left : (z : Stand) → nat_lt 0 (z.open_writes - 1) ≡ false → ended_stand z ≡ cleared_stand z
none_left z e = ap (λ (b : Bool). cond b (fewer_stand z) (cleared_stand z)) e

ended_settled : (z : Stand) → (ended_stand z).settled ≡ z.settled
ended_settled z = go (nat_lt 0 (z.open_writes - 1))
  where
    go : (b : Bool) → (cond b (fewer_stand z) (cleared_stand z)).settled ≡ z.settled
    go true = refl
    go false = refl

ended_open : (z : Stand) → (ended_stand z).open_writes ≡ z.open_writes - 1
ended_open z = go (nat_lt 0 (z.open_writes - 1))
  where
    go : (b : Bool) → (cond b (fewer_stand z) (cleared_stand z)).open_writes ≡ z.open_writes - 1
    go true = refl
    go false = refl

ended_doubts : (z : Stand) → HasNoDoubts z → HasNoDoubts (ended_stand z)
ended_doubts z h = go (nat_lt 0 (z.open_writes - 1))
  where
    go : (b : Bool) → HasNoDoubts (cond b (fewer_stand z) (cleared_stand z))
    go true = record { tried = h.tried; suspects = h.suspects }
    go false = record { tried = refl; suspects = refl }

-- ---- one write is counted out

module _ (old noted : Judge) (i p : ℕ) (k : ClusterKey) (ended : List ℕ)
    (c : ChangesView (EndsWrite p) k old noted) (lines : SeesLines old i)
    (e : IsEnding old i k (p ∷ ended)) where
  front : so_far noted i ≡ so_far old i
  front = ap (λ (s : Judge). so_far s i) c.rest

  keeps : KeepsKnown old noted
  keeps = changes_keep (EndsWrite p) (λ a b h. sets_keep p _ a b h) k old noted c

  lines_noted : SeesLines noted i
  lines_noted = lines_kept old noted i keeps lines

  covers_noted : SeesCovers noted i
  covers_noted = covers_kept old noted i c.rest e.covers

  -- the view is known
  there_is : (x : View) × (kept_view old k ≡ Some x)
  there_is = go (kept_view old k) refl
    where
      go : (o : Option View) → kept_view old k ≡ o → (x : View) × (kept_view old k ≡ Some x)
      go (Some x) q = (x, q)
      go None q =
          differ (e.known p (or_left (p == p) (has_node ended p) (number_here p)))
          (ap (λ (o : Option View). is_some o) q)

  was : (o q : Option View) (y : View) → Both (EndsWrite p) o q → q ≡ Some y
      → (x : View) × (o ≡ Some x) × EndsWrite p x y
  was None None y b r = absurd (no_some r)
  was (Some a) (Some b) y h r = (a, refl, subst (EndsWrite p a) (some_same r) h)
  was None (Some b) y h r = absurd h
  was (Some a) None y h r = absurd h

  -- of each view and each partition, what holds of the stand that it had holds of that which it has
  each : (P : ClusterKey → ℕ → View → Stand → Type 0)
      → ((l : ClusterKey) (q : ℕ) (x : View) → kept_view old l ≡ Some x → ((k ≡ l) × (p ≡ q) → ⊥)
      → P l q x (stand_of x q))
      → ((x : View) → kept_view old k ≡ Some x → P k p x (ended_stand (stand_of x p)))
      → ((l : ClusterKey) (q : ℕ) (x y : View) (z : Stand) → SameButStands x y → P l q x z
      → P l q y z) → (l : ClusterKey) (q : ℕ) (y : View) → kept_view noted l ≡ Some y
      → P l q y (stand_of y q)
  each P before here moves l q y r = go (same_key k l) refl
    where
      at : (x : View) → kept_view old k ≡ Some x → EndsWrite p x y → P k q y (stand_of y q)
      at x there s =
          subst (P k q y) (sym (s.stands q))
          (moves k q x y (cond (nat_eq p q) (ended_stand (stand_of x p)) (stand_of x q))
          (sets_keep p (ended_stand (stand_of x p)) x y s) (choose (nat_eq p q) refl))
        where
          choose : (b : Bool) → nat_eq p q ≡ b
              → P k q x (cond b (ended_stand (stand_of x p)) (stand_of x q))
          choose true f =
              subst (λ (m : ℕ). P k m x (ended_stand (stand_of x p))) (number_same p q f)
              (here x there)
          choose false f =
              before k q x there (λ w. differ (ap (nat_eq p) (sym w.1) ∙ number_here p) f)

      go : (b : Bool) → same_key k l ≡ b → P l q y (stand_of y q)
      go true f =
          let z : (x : View) × (kept_view old k ≡ Some x) × EndsWrite p x y =
          was (kept_view old k) (kept_view noted k) y c.here
          (ap (λ (m : ClusterKey). kept_view noted m) (same_key_is k l f) ∙ r) in
          subst (λ (m : ClusterKey). P m q y (stand_of y q)) (same_key_is k l f) (at z.0 z.1 z.2)
      go false f =
          before l q y (sym (c.others l f) ∙ r)
          (λ w. differ (ap (same_key k) (sym w.0) ∙ same_key_itself k) f)

  settled_noted : SeesSettled noted i
  settled_noted =
      each (λ l q x z. z.settled
      ≡ list_any (is_settled_line l (master l q (so_far noted i)) q) (so_far noted i))
      (λ l q x there apart. moved l q (stand_of x q).settled (e.stands l q x there).settled)
      (λ x there. ended_settled (stand_of x p)
      ∙ moved k p (stand_of x p).settled (e.stands k p x there).settled)
      (λ l q x y z r w. w)
    where
      moved : (l : ClusterKey) (q : ℕ) (b : Bool)
          → b ≡ list_any (is_settled_line l (master l q (so_far old i)) q) (so_far old i)
          → b ≡ list_any (is_settled_line l (master l q (so_far noted i)) q) (so_far noted i)
      moved l q b h =
          subst (λ (j : List Line). b ≡ list_any (is_settled_line l (master l q j) q) j)
          (sym front) h

  suspected : (w : Stand) (d : List ℕ) → IsSuspect old w d → IsSuspect noted w d
  suspected w d q = (q.0, ap (λ (s : Judge). record_number s.records d) c.rest ∙ q.1, q.2)

  pub counted_out : ((x : View) → kept_view old k ≡ Some x → IsBound k p (so_far old i)
      → IsTried noted (so_far old i) k p (ended_stand (stand_of x p))) → IsEnding noted i k ended
  counted_out here = record {
    stands = each (λ l q x z. SeesEndedStand (so_far noted i) l q (ended_in k ended l q) z)
        (λ l q x there apart. subst
        (λ (j : List Line). SeesEndedStand j l q (ended_in k ended l q) (stand_of x q))
        (sym front)
        (subst (λ (more : ℕ). SeesEndedStand (so_far old i) l q more (stand_of x q))
        (ended_apart k l p q ended apart) (e.stands l q x there)))
        (λ x there. subst
        (λ (j : List Line). SeesEndedStand j k p (ended_in k ended k p)
        (ended_stand (stand_of x p))) (sym front) (record {
          settled = ended_settled (stand_of x p) ∙ (e.stands k p x there).settled;
          open_writes =
              fewer (stand_of x p).open_writes (ended_stand (stand_of x p)).open_writes
              (count_by (is_open_write k p (master k p (so_far old i)) (so_far old i))
              (so_far old i)) (ended_in k ended k p) (ended_in k (p ∷ ended) k p)
              (ended_open (stand_of x p)) (e.stands k p x there).open_writes (ended_here k p ended);
        }))
        (λ l q x y z r w. w);
    listed = each (λ l q x z. has_node x.settled.items q ≡ z.settled)
        (λ l q x there apart. e.listed l q x there)
        (λ x there. e.listed k p x there ∙ sym (ended_settled (stand_of x p)))
        (λ l q x y z r w. ap (λ (v : View). has_node v.settled.items q) r.rest ∙ w);
    unsettled = each (λ l q x z. is_settled l q (so_far noted i) ≡ false → HasNoDoubts z)
        (λ l q x there apart none. e.unsettled l q x there (sym (ap (is_settled l q) front) ∙ none))
        (λ x there none. ended_doubts (stand_of x p)
        (e.unsettled k p x there (sym (ap (is_settled k p) front) ∙ none)))
        (λ l q x y z r w. w);
    tried = each (λ l q x z. IsBound l q (so_far noted i) → IsTried noted (so_far noted i) l q z)
        (λ l q x there apart bound. subst (λ (j : List Line). IsTried noted j l q (stand_of x q))
        (sym front) (still l q x (e.tried l q x there (subst (IsBound l q) front bound))))
        (λ x there bound. subst
        (λ (j : List Line). IsTried noted j k p (ended_stand (stand_of x p))) (sym front)
        (here x there (subst (IsBound k p) front bound)))
        (λ l q x y z r w. w);
    covers = covers_noted;
    known = λ q h. both_there (kept_view old k) (kept_view noted k) c.here
        ∙ e.known q (or_right (p == q) (has_node ended q) h);
  }
    where
      fewer : (a b n m mm : ℕ) → b ≡ a - 1 → a ≡ n + mm → mm ≡ m + 1 → b ≡ n + m
      fewer a b n m mm one counted more = omega (arith, one, counted, more)

      still : (l : ClusterKey) (q : ℕ) (x : View) → IsTried old (so_far old i) l q (stand_of x q)
          → IsTried noted (so_far old i) l q (stand_of x q)
      still l q x h =
          record {
            closed = h.closed;
            joined = λ untried d part clear. h.joined untried d part
                (λ w. clear (suspected (stand_of x q) d w));
          }

      both_there : (o q : Option View) → Both (EndsWrite p) o q → is_some q ≡ is_some o
      both_there None None h = refl
      both_there (Some a) (Some b) h = refl
      both_there None (Some b) h = absurd h
      both_there (Some a) None h = absurd h

  -- where other writes are open still, what was in doubt is so still
  tried_open : IsToTry (stand_at old k p) None → (x : View) → kept_view old k ≡ Some x
      → IsBound k p (so_far old i) → IsTried noted (so_far old i) k p (ended_stand (stand_of x p))
  unfolding suspected
  tried_open some x there bound =
      let more : nat_lt 0 ((stand_of x p).open_writes - 1) ≡ true =
      ap (λ (o : Option View). nat_lt 0 ((stand_from o p).open_writes - 1)) (sym there)
      ∙ some in
      let h : IsTried old (so_far old i) k p (stand_of x p) = e.tried k p x there bound in
      subst (IsTried noted (so_far old i) k p) (sym (some_left (stand_of x p) more)) (record {
        closed = λ none. absurd (open_not_none ((stand_of x p).open_writes - 1) more none);
        joined = λ untried d part clear. h.joined untried d part
            (λ w. clear (w.0, (suspected (stand_of x p) d w).1, w.2));
      })

  -- where none is, all that was in doubt joins
  tried_closed : (doubts : Doubts) → IsToTry (stand_at old k p) (Some doubts)
      → (IsBound k p (so_far noted i) → (d : List ℕ) → partition_of d ≡ p → IsInDoubt noted doubts d
      → AllJoin k d (so_far noted i))
      → (x : View) → kept_view old k ≡ Some x → IsBound k p (so_far old i)
      → IsTried noted (so_far old i) k p (ended_stand (stand_of x p))
  unfolding suspected
  tried_closed doubts none joins x there bound =
      let last : nat_lt 0 ((stand_of x p).open_writes - 1) ≡ false =
      ap (λ (o : Option View). nat_lt 0 ((stand_from o p).open_writes - 1)) (sym there)
      ∙ none.0 in
      subst (IsTried noted (so_far old i) k p) (sym (none_left (stand_of x p) last)) (record {
        closed = λ z. record { tried = refl; suspects = refl };
        joined = λ untried d part clear. decide d part doubts.untried refl;
      })
    where
      h : IsTried old (so_far old i) k p (stand_of x p)
      h = e.tried k p x there bound

      untried_so : doubts.untried ≡ (stand_of x p).untried
      untried_so = none.1.untried ∙ ap (λ (o : Option View). (stand_from o p).untried) there

      suspects_so : doubts.suspects.items ≡ (stand_of x p).suspects
      suspects_so = none.1.suspects ∙ ap (λ (o : Option View). (stand_from o p).suspects) there

      doubted : (d : List ℕ) → partition_of d ≡ p → IsInDoubt noted doubts d
          → AllJoin k d (so_far old i)
      doubted d part doubt =
          subst (AllJoin k d) front (joins (subst (IsBound k p) (sym front) bound) d part doubt)

      decide : (d : List ℕ) → partition_of d ≡ p → (b : Bool) → doubts.untried ≡ b
          → AllJoin k d (so_far old i)
      decide d part true u = doubted d part (inl u)
      decide d part false u = named (record_number noted.records d) refl
        where
          among : (r : ℕ) → record_number noted.records d ≡ Some r → (b : Bool)
              → has_node doubts.suspects.items r ≡ b → AllJoin k d (so_far old i)
          among r n true m = doubted d part (inr (r, n, m))
          among r n false m = h.joined (sym untried_so ∙ u) d part (λ w.
              let same : w.0 ≡ r = some_same (sym (suspected (stand_of x p) d w).1 ∙ n) in
              differ (ap (λ (rs : List ℕ). has_node rs w.0) suspects_so ∙ w.2)
              (ap (has_node doubts.suspects.items) same ∙ m))

          named : (o : Option ℕ) → record_number noted.records d ≡ o → AllJoin k d (so_far old i)
          named None n =
              h.joined (sym untried_so ∙ u) d part
              (λ w. no_some (sym n ∙ (suspected (stand_of x p) d w).1))
          named (Some r) n = among r n (has_node doubts.suspects.items r) refl

  -- where no other is counted, none is open
  none_open : (doubts : Doubts) → IsToTry (stand_at old k p) (Some doubts)
      → has_open_write k p (so_far old i) ≡ false
  unfolding has_open_write
  none_open doubts none =
      let last : nat_lt 0 ((stand_of there_is.0 p).open_writes - 1) ≡ false =
      ap (λ (o : Option View). nat_lt 0 ((stand_from o p).open_writes - 1)) (sym there_is.1)
      ∙ none.0 in
      none_counted (is_open_write k p (master k p (so_far old i)) (so_far old i)) (so_far old i)
      (counts (stand_of there_is.0 p).open_writes
      (count_by (is_open_write k p (master k p (so_far old i)) (so_far old i)) (so_far old i))
      (ended_in k ended k p) (ended_in k (p ∷ ended) k p)
      last (e.stands k p there_is.0 there_is.1).open_writes (ended_here k p ended))
    where
      counts : (a n m mm : ℕ) → nat_lt 0 (a - 1) ≡ false → a ≡ n + mm → mm ≡ m + 1 → n ≡ 0
      counts a n m mm last counted more =
          let none : a - 1 ≡ 0 = grind (arith, nat_tests) in
          omega (arith, none, counted, more)

  parted_now : (doubts : Doubts) → IsToTry (stand_at old k p) (Some doubts)
      → IsBound k p (so_far noted i) → (d : List ℕ) → partition_of d ≡ p
      → (AllJoin k d (so_far noted i) → ⊥) → IsParted (so_far old i)
  parted_now doubts none bound d part parted = record {
    key = k;
    digest = d;
    bound = subst (λ (q : ℕ). IsBound k q (so_far old i)) (sym part)
        (subst (IsBound k p) front bound);
    closed = ap (λ (q : ℕ). has_open_write k q (so_far old i)) part ∙ none_open doubts none;
    parted = λ joins. parted (subst (AllJoin k d) (sym front) joins);
  }

-- ---- what was in doubt was tried

moved_ending : (old new : Judge) (i : ℕ) (k : ClusterKey) (ended : List ℕ) → KeepsStands old new
    → SeesCovers new i → IsEnding old i k ended → IsEnding new i k ended
moved_ending old new i k ended keeps covers e =
    let moved : IsEnding (record new { covers = old.covers }) i k ended =
    subst (λ (s : Judge). IsEnding s i k ended) (sym keeps) e in
    record {
      stands = moved.stands;
      listed = moved.listed;
      unsettled = moved.unsettled;
      tried = λ l q x there bound.
          let h : IsTried (record new { covers = old.covers }) (so_far new i) l q (stand_of x q) =
          moved.tried l q x there bound in
          record { closed = h.closed; joined = h.joined };
      covers = covers;
      known = moved.known;
    }

pub ends_open : (old noted : Judge) (i p : ℕ) (k : ClusterKey)
    → ChangesView (EndsWrite p) k old noted → IsToTry (stand_at old k p) None
    → EndsOne i k p old noted
unfolding EndsOne
ends_open old noted i p k c some ended lines e =
    counted_out old noted i p k ended c lines e (tried_open old noted i p k ended c lines e some)

pub ends_tried : (old noted new : Judge) (i p : ℕ) (k : ClusterKey) (doubts : Doubts)
    → ChangesView (EndsWrite p) k old noted → IsToTry (stand_at old k p) (Some doubts)
    → KeepsStands noted new → TriesDoubts i k p doubts noted new → EndsOne i k p old new
unfolding EndsOne TriesDoubts
ends_tried old noted new i p k doubts c none keeps tries ended lines e =
    let t : SeesCovers new i
    × (IsBound k p (so_far noted i) → (d : List ℕ) → partition_of d ≡ p
    → IsInDoubt noted doubts d → AllJoin k d (so_far noted i)) =
    tries (lines_noted old noted i p k ended c lines e)
    (settled_noted old noted i p k ended c lines e)
    (covers_noted old noted i p k ended c lines e) in
    moved_ending noted new i k ended keeps t.0
    (counted_out old noted i p k ended c lines e
    (tried_closed old noted i p k ended c lines e doubts none t.1))

pub ends_stop : (old noted : Judge) (i p : ℕ) (k : ClusterKey) (doubts : Doubts) (x : Stop)
    → ChangesView (EndsWrite p) k old noted → IsToTry (stand_at old k p) (Some doubts)
    → StopsDoubts i k p noted x → StopsEnding i k p old x
unfolding StopsEnding StopsDoubts
ends_stop old noted i p k doubts stop.NoMemory c none stops ended lines e = tt
ends_stop old noted i p k doubts (stop.Breaks l) c none stops ended lines e =
    let t : (l ≡ law.SettledJoin) × IsBound k p (so_far noted i) × (d : List ℕ)
    × (partition_of d ≡ p) × (AllJoin k d (so_far noted i) → ⊥) =
    stops (lines_noted old noted i p k ended c lines e)
    (settled_noted old noted i p k ended c lines e)
    (covers_noted old noted i p k ended c lines e) in
    (t.0, parted_now old noted i p k ended c lines e doubts none t.1 t.2 t.3 t.4)

pub ends_no_memory : (s : Judge) (i p : ℕ) (k : ClusterKey) (x : Stop) → x ≡ stop.NoMemory
    → StopsEnding i k p s x
unfolding StopsEnding
ends_no_memory s i p k x is ended lines e =
    subst (λ (z : Stop). StopsParted z (so_far s i)) (sym is) tt

-- an ended write that is still counted is one of those that are counted
pub still_counted : (s : Judge) (i p : ℕ) (k : ClusterKey) (ended : List ℕ)
    → IsEnding s i k (p ∷ ended) → 0 < (stand_at s k p).open_writes
still_counted s i p k ended e = go (kept_view s k) refl
  where
    some : (a n m mm : ℕ) → a ≡ n + mm → mm ≡ m + 1 → 0 < a
    some a n m mm counted more = omega (arith, counted, more)

    go : (o : Option View) → kept_view s k ≡ o → 0 < (stand_from o p).open_writes
    go (Some x) q =
        some (stand_of x p).open_writes
        (count_by (is_open_write k p (master k p (so_far s i)) (so_far s i)) (so_far s i))
        (ended_in k ended k p) (ended_in k (p ∷ ended) k p) (e.stands k p x q).open_writes
        (ended_here k p ended)
    go None q =
        differ (e.known p (or_left (p == p) (has_node ended p) (number_here p)))
        (ap (λ (o : Option View). is_some o) q)

-- ---- what is in doubt is tried

pub doubts_unbound : (s : Judge) (i : ℕ) (k : ClusterKey) (p : ℕ) (doubts : Doubts) (b : Bool)
    → TellsBound s k p b → b ≡ false → TriesDoubts i k p doubts s s
unfolding TriesDoubts
doubts_unbound s i k p doubts b tells off h settled covers =
    (covers, λ bound. differ ((tells i h settled).1 bound) off)

pub doubts_all : (old new : Judge) (i : ℕ) (k : ClusterKey) (p : ℕ) (doubts : Doubts)
    → JoinsPartition i k p old new → TriesDoubts i k p doubts old new
unfolding TriesDoubts JoinsPartition
doubts_all old new i k p doubts joins h settled covers =
    let all : SeesCovers new i × ((d : List ℕ) → partition_of d ≡ p → AllJoin k d (so_far old i)) =
    joins h covers in
    (all.0, λ bound d part doubt. all.1 d part)

pub doubts_joined : (s : Judge) (i : ℕ) (k : ClusterKey) (p : ℕ) (doubts : Doubts)
    → doubts.untried ≡ false → JoinsRecords s k doubts.suspects.items p
    → TriesDoubts i k p doubts s s
unfolding TriesDoubts JoinsRecord
doubts_joined s i k p doubts some joins h settled covers =
    (covers, λ bound d part doubt. go d part doubt)
  where
    go : (d : List ℕ) → partition_of d ≡ p → IsInDoubt s doubts d → AllJoin k d (so_far s i)
    go d part (inl all) = differ all some
    go d part (inr w) =
        joins w.0 w.2 i d h
        (record { named = h.stores.records.numbered.digests d w.0 w.1; part = part })

pub doubts_parted : (s : Judge) (i : ℕ) (k : ClusterKey) (p : ℕ) (b : Bool) (x : Stop)
    → TellsBound s k p b → b ≡ true → StopsAll i k p s x → StopsDoubts i k p s x
unfolding StopsDoubts StopsAll
doubts_parted s i k p b stop.NoMemory tells on stops = tt
doubts_parted s i k p b (stop.Breaks l) tells on stops = λ h settled covers.
    let t : (l ≡ law.SettledJoin) × (d : List ℕ) × (partition_of d ≡ p)
    × (AllJoin k d (so_far s i) → ⊥) = stops h covers in
    (t.0, (tells i h settled).0 on, t.1, t.2, t.3)

parts_here : (s : Judge) (i : ℕ) (k : ClusterKey) (r p : ℕ) → PartsOf s k r p → SeesLines s i
    → (d : List ℕ) × (partition_of d ≡ p) × (AllJoin k d (so_far s i) → ⊥)
unfolding PartsRecord
parts_here s i k r p parts h =
    let d : (d : List ℕ) × (record_digest s.records r ≡ Some d) × (partition_of d ≡ p) =
    named_of s.records r p parts.of in
    (d.0, d.2, parts.parted i d.0 h (record { named = d.1; part = d.2 }))

pub doubts_suspected : (s : Judge) (i : ℕ) (k : ClusterKey) (p : ℕ) (ns : List ℕ) (b : Bool)
    (x : Stop) → TellsBound s k p b → b ≡ true → x ≡ stop.Breaks law.SettledJoin
    → PartsOneOf s k ns p → StopsDoubts i k p s x
unfolding StopsDoubts
doubts_suspected s i k p ns b x tells on is parts =
    subst (StopsDoubts i k p s) (sym is) (λ h settled covers.
    let d : (d : List ℕ) × (partition_of d ≡ p) × (AllJoin k d (so_far s i) → ⊥) =
    parts_here s i k parts.0 p parts.2 h in
    (refl, (tells i h settled).0 on, d.0, d.1, d.2))

-- ---- the suspects, one by one

pub suspect_elsewhere : (s : Judge) (k : ClusterKey) (r p : ℕ) → (IsRecordOf s.records r p → ⊥)
    → JoinsRecord s k r p
unfolding JoinsRecord
suspect_elsewhere s k r p apart i d h is =
    absurd (apart (ap (option_map partition_of) is.named ∙ ap Some is.part))

pub suspects_none : (s : Judge) (k : ClusterKey) (p : ℕ) (ns : List ℕ) → ns ≡ []
    → JoinsRecords s k ns p
suspects_none s k p ns e r has = differ has (ap (λ (rs : List ℕ). has_node rs r) e)

pub suspects_next : (s : Judge) (k : ClusterKey) (p : ℕ) (ns : List ℕ) (a r : ℕ) → a < length ns
    → r ≡ get_or ns a r → JoinsRecords s k (take a ns) p → JoinsRecord s k r p
    → JoinsRecords s k (take (a + 1) ns) p
suspects_next s k p ns a r within read before joins q has =
    go (or_cases (has_node (take a ns) q) (r == q)
    (sym (list_any-append (λ (m : ℕ). m == q) (take a ns) (r ∷ []))
    ∙ (ap (λ (xs : List ℕ). has_node xs q) (sym taken) ∙ has)))
  where
    taken : take (a + 1) ns ≡ take a ns ++ r ∷ []
    taken = take_more ns a r within ∙ ap (λ (m : ℕ). take a ns ++ m ∷ []) (sym read)

    or_cases : (b c : Bool) → (b || (c || false)) ≡ true → (b ≡ true) ⊎ (c ≡ true)
    or_cases true c e = inl refl
    or_cases false true e = inr refl
    or_cases false false e = differ e refl

    go : (has_node (take a ns) q ≡ true) ⊎ ((r == q) ≡ true) → JoinsRecord s k q p
    go (inl e) = before q e
    go (inr e) = subst (λ (m : ℕ). JoinsRecord s k m p) (number_same r q e) joins

pub suspects_all : (s : Judge) (k : ClusterKey) (p : ℕ) (ns : List ℕ) (a : ℕ) → length ns ≤ a
    → JoinsRecords s k (take a ns) p → JoinsRecords s k ns p
suspects_all s k p ns a done h =
    subst (λ (xs : List ℕ). JoinsRecords s k xs p) (take_whole ns a done) h

-- ---- a write's end

pub ended_ok : {E : Type 0} (old noted new : Judge) (i p : ℕ) (k : ClusterKey) (doubts : Doubts)
    → ChangesView (EndsWrite p) k old noted → IsToTry (stand_at old k p) (Some doubts)
    → (r : Result (Unit {0}) E) → OnOk r (KeepsStands noted new)
    → OnOk r (TriesDoubts i k p doubts noted new) → OnOk r (EndsOne i k p old new)
ended_ok {E} old noted new i p k doubts c none (Ok u) kept tries =
    ends_tried old noted new i p k doubts c none kept tries
ended_ok {E} old noted new i p k doubts c none (Err e) kept tries = tt

pub write_keeps : (old noted : Judge) (p : ℕ) (k : ClusterKey)
    → ChangesView (EndsWrite p) k old noted → KeepsKnown old noted
write_keeps old noted p k c =
    changes_keep (EndsWrite p) (λ a b h. sets_keep p _ a b h) k old noted c

pub ended_keeps : (old noted new : Judge) (p : ℕ) (k : ClusterKey)
    → ChangesView (EndsWrite p) k old noted → KeepsStands noted new → KeepsKnown old new
ended_keeps old noted new p k c keeps =
    keeps_then old noted new (write_keeps old noted p k c) (covers_keep noted new keeps)

-- ---- all of them

-- so far all but these were counted out
pub record CountsOut (i : ℕ) (k : ClusterKey) (ended : List ℕ) (closed now : Judge) : Type 0 where
  pub lines : SeesLines now i
  pub ending : IsEnding now i k ended
  pub keeps : KeepsKnown closed now

next_of : (ps : List ℕ) (a r : ℕ) → a < length ps → r ≡ get_or ps a r
    → drop a ps ≡ r ∷ drop (a + 1) ps
next_of ps a r within read =
    let next : suc a ≡ a + 1 = omega arith in
    drop-cons ps a r within
    ∙ (ap (λ (m : ℕ). m ∷ drop (suc a) ps) (sym read) ∙ ap (λ (b : ℕ). r ∷ drop b ps) next)

pub counts_one : (i : ℕ) (k : ClusterKey) (ps : List ℕ) (a r : ℕ) (closed now : Judge)
    → a < length ps → r ≡ get_or ps a r → CountsOut i k (drop a ps) closed now
    → 0 < (stand_at now k r).open_writes
counts_one i k ps a r closed now within read g =
    still_counted now i r k (drop (a + 1) ps)
    (subst (IsEnding now i k) (next_of ps a r within read) g.ending)

pub counts_next : (i : ℕ) (k : ClusterKey) (ps : List ℕ) (a r : ℕ) (closed now next : Judge)
    → a < length ps → r ≡ get_or ps a r → CountsOut i k (drop a ps) closed now
    → EndsOne i k r now next → KeepsKnown now next → CountsOut i k (drop (a + 1) ps) closed next
unfolding EndsOne
counts_next i k ps a r closed now next within read g ends kept = record {
  lines = lines_kept now next i kept g.lines;
  ending = ends (drop (a + 1) ps) g.lines
      (subst (IsEnding now i k) (next_of ps a r within read) g.ending);
  keeps = keeps_then closed now next g.keeps kept;
}

pub counts_stop : (i : ℕ) (k : ClusterKey) (ps : List ℕ) (a r : ℕ) (closed now : Judge) (x : Stop)
    → a < length ps → r ≡ get_or ps a r → CountsOut i k (drop a ps) closed now
    → StopsEnding i k r now x → StopsParted x (so_far closed i)
unfolding StopsEnding
counts_stop i k ps a r closed now x within read g stops =
    subst (StopsParted x) (front_kept closed now i g.keeps)
    (stops (drop (a + 1) ps) g.lines
    (subst (IsEnding now i k) (next_of ps a r within read) g.ending))

pub counts_all : (i : ℕ) (k : ClusterKey) (ps : List ℕ) (a : ℕ) (closed now : Judge) → length ps ≤ a
    → CountsOut i k (drop a ps) closed now → CountsOut i k [] closed now
counts_all i k ps a closed now done g =
    subst (λ (qs : List ℕ). CountsOut i k qs closed now) (drop_all ps a done) g
  where
    drop_all : (qs : List ℕ) (b : ℕ) → length qs ≤ b → drop b qs ≡ []
    drop_all [] zero e = refl
    drop_all [] (suc b) e = refl
    drop_all (q ∷ qs) zero e = absurd (omega (arith, e))
    drop_all (q ∷ qs) (suc b) e = drop_all qs b (omega (arith, e))

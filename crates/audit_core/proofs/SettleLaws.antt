-- A node settles a partition.
use Rattle.std.proofs.Common.{◌≡◌, ℕ, ◌==◌, ◌+◌, Bool, true, false, not, ◌&&◌, ◌||◌, cond, List, [], ◌∷◌, ◌++◌, Option, Some, None, refl, sym, ap, ap₂, subst, ◌∙◌, arith}
use Rattle.std.specs.Prelude.{is_some, take, nat_eq, Result, Ok, Err, OnOk}
use Rattle.std.specs.HashMap as hash
use Rattle.std.specs.List.{list_any, count_by}
use Rattle.std.proofs.lemmas.Bool.{or_left, or_right}
use Rattle.std.proofs.lemmas.List.Folds.{list_any-append}
use Rattle.cluster_types.specs.declared.cluster_key.ClusterKey.{ClusterKey}
use Rattle.cluster_types.specs.Partitions.{partition_of}
use Rattle.journal_lines.specs.declared.line.Line.{Line}
use Rattle.journal_lines.specs.declared.line.Line.TheVariants as line
use Rattle.journal_readings.specs.Lines.{same_key, has_node, is_settled_line}
use Rattle.journal_readings.specs.Settled.{is_settled, is_settled_by, is_open_write}
use Rattle.journal_readings.specs.Shape.{Shape}
use Rattle.journal_readings.specs.Views.{view, master}
use Rattle.journal_readings.proofs.AlongLaws.{no_some, some_same}
use Rattle.journal_readings.proofs.Fronts.{and_left, and_right, same_key_is}
use Rattle.journal_readings.proofs.StepLaws.{view-more}
use Rattle.audit_laws.proofs.Quiet.{master-other, empty-other}
use Rattle.audit_laws.proofs.ShapeSteps.{same_key_itself}
use Rattle.audit_laws.proofs.Steps.{shape_step}
use Rattle.audit_laws.proofs.Tests.{differ, number_same, number_here}
use Rattle.audit_core.specs.declared.judge.Judge.{Judge}
use Rattle.audit_core.specs.declared.verdict.Stop.{Stop}
use Rattle.audit_core.specs.declared.verdict.Stop.TheVariants as stop
use Rattle.audit_state.specs.declared.views.View.{View}
use Rattle.audit_state.specs.OpenWrites.{SettlesPartition, settled_stand}
use Rattle.audit_state.specs.Places.{placed}
use Rattle.audit_state.specs.Records.{record_digest}
use Rattle.audit_state.specs.Views.{SameEntries}
use Rattle.audit_state.specs.Written.{Stand, stand_of, written_of}
use Rattle.audit_core.specs.Audits.{Comes, AcceptsLine, so_far}
use Rattle.audit_core.specs.Frames.{Both, KeepsFrame}
use Rattle.audit_core.specs.Known.{node_at, kept_view}
use Rattle.audit_core.specs.Sees.{SeesFrame, SeesStand, SeesWrites, SeesStays, SeesState, SeesTried, IsBound, IsTried, HasNoDoubts, IsSuspect}
use Rattle.partition_lists.specs.Classes.{is_that}
use Rattle.audit_core.specs.Settling.{stand_from, stand_at, master_from, is_master_in}
use Rattle.audit_core.specs.Steps.{ChangesView}
use Rattle.audit_core.specs.Stored.{SeesStores, IsRecordOf}
use Rattle.audit_core.specs.Trying.{SeesLines, SeesStands, IsTriedOf, IsTrying, KeepsKnown, TriesPartition, StopsTrying, tried_with_partition}
use Rattle.audit_core.specs.Verdicts.{StopsRightly}
use Rattle.audit_laws.proofs.MapSteps.{entered_key}
use Rattle.audit_core.proofs.BoundLaws.{master_so, unlisted}
use Rattle.audit_core.proofs.OpenWriteLaws.{LeavesWrites, writes_same, writes_tried, writes_left}
use Rattle.audit_core.proofs.PartedLaws.{all_tried, joins_all, parted_stops}
use Rattle.audit_core.proofs.PassLaws.{frame_next, covers_later}
use Rattle.audit_core.proofs.StayLaws.{stays_same, nodes_same, stays_tried, stays_left}
use Rattle.audit_core.proofs.StillLaws.{IsSilent, stores_silent, joins_silent, count-more, count_same, any-more, opens_same}
use Rattle.audit_core.proofs.TryLaws.{lines_kept, covers_kept}
use Rattle.audit_core.proofs.VerdictLaws.{taken_next}
use Rattle.audit_core.proofs.WordLaws.{quiet_line, keeps_next, both_same, same_stand, same_entries}

-- ---- the line

pub settled_silent : (n p : ℕ) (k : ClusterKey) → IsSilent (line.Settled n k p)
settled_silent n p k = record {
  contents = λ by m d x. refl;
  copies = λ m q b. refl;
  applied = λ by d x. refl;
  writes = λ by l d x. refl;
  brings = λ d. refl;
  enters = λ l. refl;
  opens = λ l q m j. refl;
  views = λ m v l h. h;
}

settled_leaves : (n p : ℕ) (k : ClusterKey) → LeavesWrites (line.Settled n k p)
settled_leaves n p k = record { enters = λ l. refl; ends = λ l m t. refl; opens = λ l q m j. refl }

-- whether the line settles the partition in the view, as the line of this node
abbrev settles_here : ℕ → ClusterKey → ℕ → ClusterKey → ℕ → ℕ → Bool
settles_here n k p l m q = (n == m) && (same_key k l && (p == q))

any_line : (n p m q : ℕ) (k l : ClusterKey) (j : List Line) → list_any (is_settled_line l m q) (j ++ line.Settled n k p ∷ []) ≡ (list_any (is_settled_line l m q) j || settles_here n k p l m q)
any_line n p m q k l j = list_any-append (is_settled_line l m q) j (line.Settled n k p ∷ []) ∙ ap (λ (b : Bool). list_any (is_settled_line l m q) j || b) (alone (settles_here n k p l m q))
  where
    alone : (b : Bool) → (b || false) ≡ b
    alone true = refl
    alone false = refl

any_either : (a b : Bool) → (b ≡ true → a ≡ true) → (a || b) ≡ a
any_either true b h = refl
any_either false true h = sym (h refl)
any_either false false h = refl

-- of another partition, another view or another node's line nothing changes
settled_apart : (n p q : ℕ) (k l : ClusterKey) (j : List Line) → (settles_here n k p l (master l q j) q ≡ true → list_any (is_settled_line l (master l q j) q) j ≡ true) → is_settled l q (j ++ line.Settled n k p ∷ []) ≡ is_settled l q j
unfolding is_settled
settled_apart n p q k l j h =
    ap (λ (m : ℕ). is_settled_by l q m (j ++ line.Settled n k p ∷ [])) (master-other l q j (line.Settled n k p) refl)
    ∙ ap₂ (λ (a b : Bool). a || b) (any_line n p (master l q j) q k l j ∙ any_either (list_any (is_settled_line l (master l q j) q) j) (settles_here n k p l (master l q j) q) h)
    (ap₂ (λ (a b : Bool). a && b) (any-more (Rattle.journal_readings.specs.Lines.is_exchanged l (master l q j)) j (line.Settled n k p) refl) (empty-other l q j (line.Settled n k p) refl))

bound_apart : (n p q : ℕ) (k l : ClusterKey) (j : List Line) → is_settled l q (j ++ line.Settled n k p ∷ []) ≡ is_settled l q j → IsBound l q (j ++ line.Settled n k p ∷ []) → IsBound l q j
bound_apart n p q k l j same h = record { settled = sym same ∙ h.settled; remains = remained h.remains }
  where
    remained : view (master l q (j ++ line.Settled n k p ∷ [])) (j ++ line.Settled n k p ∷ []) ≡ Some l → view (master l q j) j ≡ Some l
    remained e = sym (view-more (master l q j) j (line.Settled n k p)) ∙ (ap (λ (m : ℕ). view m (j ++ line.Settled n k p ∷ [])) (sym (master-other l q j (line.Settled n k p) refl)) ∙ e)

-- the list master still is in the view that it was in
remains_before : (n p q : ℕ) (k l : ClusterKey) (j : List Line) → IsBound l q (j ++ line.Settled n k p ∷ []) → is_settled l q j ≡ true → IsBound l q j
remains_before n p q k l j h settled = record {
  settled = settled;
  remains = sym (view-more (master l q j) j (line.Settled n k p)) ∙ (ap (λ (m : ℕ). view m (j ++ line.Settled n k p ∷ [])) (sym (master-other l q j (line.Settled n k p) refl)) ∙ h.remains);
}

-- the same writes are open
count_kept : (n p q : ℕ) (k l : ClusterKey) (j : List Line) (c : ℕ) → c ≡ count_by (is_open_write l q (master l q j) j) j → c ≡ count_by (is_open_write l q (master l q (j ++ line.Settled n k p ∷ [])) (j ++ line.Settled n k p ∷ [])) (j ++ line.Settled n k p ∷ [])
count_kept n p q k l j c h = h ∙ sym (
    ap (λ (m : ℕ). count_by (is_open_write l q m (j ++ line.Settled n k p ∷ [])) (j ++ line.Settled n k p ∷ [])) (master-other l q j (line.Settled n k p) refl)
    ∙ (count-more (is_open_write l q (master l q j) (j ++ line.Settled n k p ∷ [])) j (line.Settled n k p)
    ∙ (ap (λ (a : ℕ). a + cond false 1 0) (count_same _ _ (opens_same l q (master l q j) j (line.Settled n k p) (λ t. refl)) j 0)
    ∙ none_added (count_by (is_open_write l q (master l q j) j) j))))
  where
    none_added : (a : ℕ) → a + 0 ≡ a
    none_added a = omega arith

-- ---- what is known of a line that settles nothing new

module _ (s : Judge) (i n p : ℕ) (k : ClusterKey) (c : Comes s i (line.Settled n k p)) (again : (l : ClusterKey) (q : ℕ) → settles_here n k p l (master l q (so_far s i)) q ≡ true → list_any (is_settled_line l (master l q (so_far s i)) q) (so_far s i) ≡ true) where
  t : SeesTried s (so_far s i)
  t = c.audits.state.tried

  front : so_far s (i + 1) ≡ so_far s i ++ line.Settled n k p ∷ []
  front = taken_next s.lines.now i (line.Settled n k p) c.stands

  same : (l : ClusterKey) (q : ℕ) → is_settled l q (so_far s i ++ line.Settled n k p ∷ []) ≡ is_settled l q (so_far s i)
  same l q = settled_apart n p q k l (so_far s i) (again l q)

  tried_again : SeesTried s (so_far s i ++ line.Settled n k p ∷ [])
  tried_again = record {
    stands = λ l q x e. record {
      settled = (t.stands l q x e).settled ∙ sym (ap (λ (m : ℕ). list_any (is_settled_line l m q) (so_far s i ++ line.Settled n k p ∷ [])) (master-other l q (so_far s i) (line.Settled n k p) refl)
          ∙ (any_line n p (master l q (so_far s i)) q k l (so_far s i) ∙ any_either (list_any (is_settled_line l (master l q (so_far s i)) q) (so_far s i)) (settles_here n k p l (master l q (so_far s i)) q) (again l q)));
      open_writes = count_kept n p q k l (so_far s i) (stand_of x q).open_writes (t.stands l q x e).open_writes;
    };
    listed = t.listed;
    unsettled = λ l q x e none. t.unsettled l q x e (sym (same l q) ∙ none);
    tried = λ l q x e bound.
        let h : IsTried s (so_far s i) l q (stand_of x q) = t.tried l q x e (bound_apart n p q k l (so_far s i) (same l q) bound) in
        record { closed = h.closed; joined = λ untried d part clear. joins_silent (so_far s i) (line.Settled n k p) l d (settled_silent n p k) refl (h.joined untried d part clear) };
  }

  seen_again : SeesState s (i + 1) s.lines.now
  seen_again = record {
    lines = refl;
    frame = frame_next s s i (line.Settled n k p) c (keeps_next i (line.Settled n k p) s s (quiet_line (line.Settled n k p) refl) (Rattle.audit_core.proofs.PassLaws.keeps_itself s));
    stores = stores_silent s i s.lines.now (line.Settled n k p) c.stands (settled_silent n p k) refl c.audits.state.stores;
    tried = subst (SeesTried s) (sym front) tried_again;
    covers = covers_later s i c.audits.state.covers;
    writes = subst (SeesWrites s) (sym front) (writes_left s (so_far s i) (line.Settled n k p) (settled_leaves n p k) c.audits.state.writes);
    stays = subst (SeesStays s) (sym front) (stays_left s (so_far s i) (line.Settled n k p) refl (λ l. refl) (λ by m d x. refl) c.audits.state.stays);
  }

  pub again_takes : AcceptsLine s s i (line.Settled n k p)
  again_takes = record {
    lines = refl;
    fits = record {
      shape = c.shape;
      map = tt;
      losses = tt;
      replicas = joins_all s (i + 1) (so_far s i) (line.Settled n k p) front (record {
        shape = subst Shape (sym front) ((shape_step (so_far s i) (line.Settled n k p)).1 (c.audits.lawful.shape, c.shape));
        frame = seen_again.frame;
        stores = seen_again.stores;
      }) seen_again.tried;
      joins = tt;
    };
    sees = seen_again;
  }

lines_before_it : (s : Judge) (i : ℕ) (l : Line) → Comes s i l → SeesLines s i
lines_before_it s i l c = record { shape = c.audits.lawful.shape; frame = c.audits.state.frame; stores = c.audits.state.stores }

both_are : (a b : Bool) → a ≡ true → b ≡ true → (a && b) ≡ true
both_are true b e f = f
both_are false b e f = e

is_first_of : (o : Option ℕ) (n : ℕ) → is_that o n ≡ false → o ≡ Some n → ⊥
is_first_of None n e q = no_some q
is_first_of (Some m) n e q = differ (subst (λ (z : ℕ). (z == n) ≡ true) (sym (some_same q)) (number_here n)) e

first_is : (o : Option ℕ) (n : ℕ) → is_that o n ≡ true → o ≡ Some n
first_is None n e = differ e refl
first_is (Some m) n e = ap Some (number_same m n e)

-- the node isn't the list master
pub settle_other : (s : Judge) (i n p : ℕ) (k : ClusterKey) (b : Bool) → Comes s i (line.Settled n k p) → b ≡ is_master_in (kept_view s k) n p → b ≡ false → AcceptsLine s s i (line.Settled n k p)
settle_other s i n p k b c told e = again_takes s i n p k c (λ l q h.
    let node : n ≡ master l q (so_far s i) = number_same n (master l q (so_far s i)) (and_left (n == master l q (so_far s i)) _ h) in
    let rest : (same_key k l && (p == q)) ≡ true = and_right (n == master l q (so_far s i)) _ h in
    let key : k ≡ l = same_key_is k l (and_left (same_key k l) (p == q) rest) in
    let part : p ≡ q = number_same p q (and_right (same_key k l) (p == q) rest) in
    let here : n ≡ master k p (so_far s i) = node ∙ ap₂ (λ (z : ClusterKey) (y : ℕ). master z y (so_far s i)) (sym key) (sym part) in
    absurd (apart (master_from (kept_view s k) p) refl here))
  where
    apart : (o : Option ℕ) → master_from (kept_view s k) p ≡ o → n ≡ master k p (so_far s i) → ⊥
    apart (Some m) q here = is_first_of (master_from (kept_view s k) p) n (sym told ∙ e) (q ∙ ap Some (sym (master_so s i k p m (lines_before_it s i (line.Settled n k p) c) q) ∙ sym here))
    apart None q here = unlisted s i k p (lines_before_it s i (line.Settled n k p) c) q (entered_key k n (so_far s i) c.shape.in_view)

-- the partition was settled before
pub settle_again : (s : Judge) (i n p : ℕ) (k : ClusterKey) (b : Bool) → Comes s i (line.Settled n k p) → b ≡ (stand_at s k p).settled → b ≡ true → AcceptsLine s s i (line.Settled n k p)
settle_again s i n p k b c told e = again_takes s i n p k c (λ l q h.
    let rest : (same_key k l && (p == q)) ≡ true = and_right (n == master l q (so_far s i)) _ h in
    let key : k ≡ l = same_key_is k l (and_left (same_key k l) (p == q) rest) in
    let part : p ≡ q = number_same p q (and_right (same_key k l) (p == q) rest) in
    subst (λ (z : ClusterKey). list_any (is_settled_line z (master z q (so_far s i)) q) (so_far s i) ≡ true) key
    (subst (λ (y : ℕ). list_any (is_settled_line k (master k y (so_far s i)) y) (so_far s i) ≡ true) part (there (kept_view s k) refl)))
  where
    there : (o : Option View) → kept_view s k ≡ o → list_any (is_settled_line k (master k p (so_far s i)) p) (so_far s i) ≡ true
    there (Some x) q = sym (c.audits.state.tried.stands k p x q).settled ∙ (ap (λ (o : Option View). (stand_from o p).settled) (sym q) ∙ (sym told ∙ e))
    there None q = differ (sym told ∙ e) (ap (λ (o : Option View). (stand_from o p).settled) q)

-- ---- the partition becomes settled

-- a view that is known was known, and the same was written in it
record WasWritten (old : Judge) (l : ClusterKey) (y : View) : Type 0 where
  pub was : View
  pub there : kept_view old l ≡ Some was
  pub applied : y.applied ≡ was.applied
  pub written : y.written ≡ was.written
  pub writes : y.writes ≡ was.writes
  pub parts : (q : ℕ) → written_of y q ≡ written_of was q

module _ (old noted : Judge) (i n p : ℕ) (k : ClusterKey) (b : Bool) (c : Comes old i (line.Settled n k p)) (first : b ≡ is_master_in (kept_view old k) n p) (is : b ≡ true) (x : ChangesView (SettlesPartition p) k old noted) where
  lines_same : noted.lines.now ≡ old.lines.now
  lines_same = ap (λ (s : Judge). s.lines.now) x.rest

  noted_front : so_far noted (i + 1) ≡ so_far old i ++ line.Settled n k p ∷ []
  noted_front = ap (take (i + 1)) lines_same ∙ taken_next old.lines.now i (line.Settled n k p) c.stands

  tried_old : SeesTried old (so_far old i)
  tried_old = c.audits.state.tried

  -- the node is the list master
  master_is : master k p (so_far old i) ≡ n
  master_is = master_so old i k p n (lines_before_it old i (line.Settled n k p) c) (first_is (master_from (kept_view old k) p) n (sym first ∙ is))

  settled_now : list_any (is_settled_line k (master k p (so_far old i)) p) (so_far old i ++ line.Settled n k p ∷ []) ≡ true
  settled_now = any_line n p (master k p (so_far old i)) p k k (so_far old i)
      ∙ or_right (list_any (is_settled_line k (master k p (so_far old i)) p) (so_far old i)) (settles_here n k p k (master k p (so_far old i)) p)
      (both_are (n == master k p (so_far old i)) (same_key k k && (p == p)) (subst (λ (z : ℕ). (n == z) ≡ true) (sym master_is) (number_here n)) (both_are (same_key k k) (p == p) (same_key_itself k) (number_here p)))

  is_settled_now : is_settled k p (so_far old i ++ line.Settled n k p ∷ []) ≡ true
  unfolding is_settled
  is_settled_now = or_left (list_any (is_settled_line k (master k p (so_far old i ++ line.Settled n k p ∷ [])) p) (so_far old i ++ line.Settled n k p ∷ [])) _
      (ap (λ (m : ℕ). list_any (is_settled_line k m p) (so_far old i ++ line.Settled n k p ∷ [])) (master-other k p (so_far old i) (line.Settled n k p) refl) ∙ settled_now)

  -- of any other partition nothing changes
  none_here : (l : ClusterKey) (q : ℕ) → ((k ≡ l) × (p ≡ q) → ⊥) → settles_here n k p l (master l q (so_far old i)) q ≡ true → ⊥
  none_here l q apart h =
      let rest : (same_key k l && (p == q)) ≡ true = and_right (n == master l q (so_far old i)) _ h in
      apart (same_key_is k l (and_left (same_key k l) (p == q) rest), number_same p q (and_right (same_key k l) (p == q) rest))

  same_settled : (l : ClusterKey) (q : ℕ) → ((k ≡ l) × (p ≡ q) → ⊥) → is_settled l q (so_far old i ++ line.Settled n k p ∷ []) ≡ is_settled l q (so_far old i)
  same_settled l q apart = settled_apart n p q k l (so_far old i) (λ h. absurd (none_here l q apart h))

  was_view : (o q : Option View) (y : View) → Both (SettlesPartition p) o q → q ≡ Some y → (z : View) × (o ≡ Some z) × SettlesPartition p z y
  was_view None None y r e = absurd (no_some e)
  was_view (Some a) (Some z) y r e = (a, refl, subst (SettlesPartition p a) (some_same e) r)
  was_view None (Some z) y r e = absurd r
  was_view (Some a) None y r e = absurd r

  -- what holds of each partition but this one, and of this one as it becomes settled, holds of all
  each : (P : ClusterKey → ℕ → View → Stand → Type 0) → ((l : ClusterKey) (q : ℕ) (z : View) → kept_view old l ≡ Some z → ((k ≡ l) × (p ≡ q) → ⊥) → P l q z (stand_of z q))
      → ((z y : View) → kept_view old k ≡ Some z → SettlesPartition p z y → P k p y (settled_stand (stand_of z p)))
      → ((l : ClusterKey) (q : ℕ) (z y : View) (w : Stand) → SettlesPartition p z y → ((p ≡ q) → ⊥) → P l q z w → P l q y w) → (l : ClusterKey) (q : ℕ) (y : View) → kept_view noted l ≡ Some y → P l q y (stand_of y q)
  each P before here moves l q y e = go (same_key k l) refl
    where
      at : (z : View) → kept_view old k ≡ Some z → SettlesPartition p z y → P k q y (stand_of y q)
      at z there r = subst (P k q y) (sym (r.stands q)) (choose (nat_eq p q) refl)
        where
          choose : (t : Bool) → nat_eq p q ≡ t → P k q y (cond t (settled_stand (stand_of z p)) (stand_of z q))
          choose true f = subst (λ (m : ℕ). P k m y (settled_stand (stand_of z p))) (number_same p q f) (here z y there r)
          choose false f = moves k q z y (stand_of z q) r (λ w. differ (ap (nat_eq p) (sym w) ∙ number_here p) f) (before k q z there (λ w. differ (ap (nat_eq p) (sym w.1) ∙ number_here p) f))

      go : (t : Bool) → same_key k l ≡ t → P l q y (stand_of y q)
      go true f =
          let z : (z : View) × (kept_view old k ≡ Some z) × SettlesPartition p z y = was_view (kept_view old k) (kept_view noted k) y x.here (ap (λ (m : ClusterKey). kept_view noted m) (same_key_is k l f) ∙ e) in
          subst (λ (m : ClusterKey). P m q y (stand_of y q)) (same_key_is k l f) (at z.0 z.1 z.2)
      go false f = before l q y (sym (x.others l f) ∙ e) (λ w. differ (ap (same_key k) (sym w.0) ∙ same_key_itself k) f)

  listed_others : (ps : List ℕ) (q : ℕ) → (p ≡ q → ⊥) → has_node (ps ++ p ∷ []) q ≡ has_node ps q
  listed_others ps q apart = list_any-append (λ (m : ℕ). m == q) ps (p ∷ []) ∙ ap (λ (t : Bool). has_node ps q || (t || false)) (none (p == q) refl) ∙ plain (has_node ps q)
    where
      none : (t : Bool) → (p == q) ≡ t → (p == q) ≡ false
      none true f = absurd (apart (number_same p q f))
      none false f = f

      plain : (t : Bool) → (t || (false || false)) ≡ t
      plain true = refl
      plain false = refl

  listed_here : (ps : List ℕ) → has_node (ps ++ p ∷ []) p ≡ true
  listed_here ps = list_any-append (λ (m : ℕ). m == p) ps (p ∷ []) ∙ or_right (has_node ps p) ((p == p) || false) (or_left (p == p) false (number_here p))

  stands_noted : SeesStands noted (i + 1)
  stands_noted = λ l q y e. subst (λ (ls : List Line). SeesStand ls l q (stand_of y q)) (sym noted_front)
      (each (λ l q z w. SeesStand (so_far old i ++ line.Settled n k p ∷ []) l q w)
      (λ l q z there apart. record {
        settled = (tried_old.stands l q z there).settled ∙ sym (ap (λ (m : ℕ). list_any (is_settled_line l m q) (so_far old i ++ line.Settled n k p ∷ [])) (master-other l q (so_far old i) (line.Settled n k p) refl)
            ∙ (any_line n p (master l q (so_far old i)) q k l (so_far old i) ∙ any_either (list_any (is_settled_line l (master l q (so_far old i)) q) (so_far old i)) (settles_here n k p l (master l q (so_far old i)) q) (λ h. absurd (none_here l q apart h))));
        open_writes = count_kept n p q k l (so_far old i) (stand_of z q).open_writes (tried_old.stands l q z there).open_writes;
      })
      (λ z y there r. record {
        settled = sym (ap (λ (m : ℕ). list_any (is_settled_line k m p) (so_far old i ++ line.Settled n k p ∷ [])) (master-other k p (so_far old i) (line.Settled n k p) refl) ∙ settled_now);
        open_writes = count_kept n p p k k (so_far old i) (stand_of z p).open_writes (tried_old.stands k p z there).open_writes;
      })
      (λ l q z y w r apart h. h) l q y e)

  -- nothing was to be tried of the partition, unless it was settled before
  doubts_before : (z : View) → kept_view old k ≡ Some z → IsBound k p (so_far old i ++ line.Settled n k p ∷ []) → (stand_of z p).open_writes ≡ 0 → HasNoDoubts (stand_of z p)
  doubts_before z there bound none = go (is_settled k p (so_far old i)) refl
    where
      go : (t : Bool) → is_settled k p (so_far old i) ≡ t → HasNoDoubts (stand_of z p)
      go false f = tried_old.unsettled k p z there f
      go true f = (tried_old.tried k p z there (remains_before n p p k k (so_far old i) bound f)).closed none

  pub trying_noted : IsTrying noted (i + 1) (λ l e. not (same_key k l && (p == partition_of e)))
  trying_noted = record {
    stands = stands_noted;
    listed = each (λ l q z w. has_node z.settled.items q ≡ w.settled) (λ l q z there apart. tried_old.listed l q z there)
        (λ z y there r. ap (λ (ps : List ℕ). has_node ps p) r.listed ∙ listed_here z.settled.items)
        (λ l q z y w r apart h. ap (λ (ps : List ℕ). has_node ps q) r.listed ∙ (listed_others z.settled.items q apart ∙ h));
    unsettled = each (λ l q z w. is_settled l q (so_far noted (i + 1)) ≡ false → HasNoDoubts w)
        (λ l q z there apart none. tried_old.unsettled l q z there (sym (same_settled l q apart) ∙ (sym (ap (is_settled l q) noted_front) ∙ none)))
        (λ z y there r none. differ is_settled_now (sym (ap (is_settled k p) noted_front) ∙ none))
        (λ l q z y w r apart h. h);
    tried = each (λ l q z w. IsBound l q (so_far noted (i + 1)) → IsTriedOf (λ e. not (same_key k l && (p == partition_of e))) noted (so_far noted (i + 1)) l q w)
        (λ l q z there apart bound. subst (λ (ls : List Line). IsTriedOf (λ e. not (same_key k l && (p == partition_of e))) noted ls l q (stand_of z q)) (sym noted_front)
        (others l q z there apart (tried_old.tried l q z there (bound_apart n p q k l (so_far old i) (same_settled l q apart) (subst (IsBound l q) noted_front bound)))))
        (λ z y there r bound. record {
          closed = λ none. let h : HasNoDoubts (stand_of z p) = doubts_before z there (subst (IsBound k p) noted_front bound) none in record { tried = h.tried; suspects = h.suspects };
          joined = λ untried e part apart clear. differ (here e part) (flipped (same_key k k && (p == partition_of e)) apart);
        })
        (λ l q z y w r apart h. h);
    covers = covers_kept old noted (i + 1) x.rest (covers_later old i c.audits.state.covers);
  }
    where
      flipped : (t : Bool) → not t ≡ true → t ≡ false
      flipped true e = differ e refl
      flipped false e = refl

      here : (e : List ℕ) → partition_of e ≡ p → (same_key k k && (p == partition_of e)) ≡ true
      here e part = both_are (same_key k k) (p == partition_of e) (same_key_itself k) (subst (λ (z : ℕ). (p == z) ≡ true) (sym part) (number_here p))

      suspected : (w : Stand) (e : List ℕ) → IsSuspect old w e → IsSuspect noted w e
      suspected w e q =
          let moved : IsSuspect (record noted { views = old.views }) w e = subst (λ (s : Judge). IsSuspect s w e) (sym x.rest) q in
          (moved.0, moved.1, moved.2)

      others : (l : ClusterKey) (q : ℕ) (z : View) → kept_view old l ≡ Some z → ((k ≡ l) × (p ≡ q) → ⊥) → IsTried old (so_far old i) l q (stand_of z q) → IsTriedOf (λ e. not (same_key k l && (p == partition_of e))) noted (so_far old i ++ line.Settled n k p ∷ []) l q (stand_of z q)
      others l q z there apart h = record {
        closed = h.closed;
        joined = λ untried e part tried clear. joins_silent (so_far old i) (line.Settled n k p) l e (settled_silent n p k) refl (h.joined untried e part (λ w. clear (suspected (stand_of z q) e w)));
      }

  -- ---- the lines

  frame_kept : KeepsFrame old noted
  frame_kept = record {
    lines = ap (λ (s : Judge). s.lines) x.rest;
    policy = ap (λ (s : Judge). s.by) x.rest;
    factor = ap (λ (s : Judge). s.factor) x.rest;
    begun = ap (λ (s : Judge). s.begun) x.rest;
    nodes = λ m. subst (λ (o : _). Both Rattle.audit_core.specs.Frames.SameStand (node_at old m) o) (sym (ap (λ (s : Judge). node_at s m) x.rest)) (same_stand (node_at old m));
    views = λ l. view_kept l (same_key k l) refl;
    stamps = ap (λ (s : Judge). s.stamps) x.rest;
  }
    where
      entries : (o q : Option View) → Both (SettlesPartition p) o q → Both SameEntries o q
      entries None None h = tt
      entries (Some a) (Some z) h = record {
        key = ap (λ (v : View). v.key) h.rest;
        members = ap (λ (v : View). v.members) h.rest;
        ranks = ap (λ (v : View). v.ranks) h.rest;
        entered = ap (λ (v : View). v.entered.items) h.rest;
        exchanged = ap (λ (v : View). v.exchanged.items) h.rest;
      }
      entries None (Some z) h = absurd h
      entries (Some a) None h = absurd h

      view_kept : (l : ClusterKey) (t : Bool) → same_key k l ≡ t → Both SameEntries (kept_view old l) (kept_view noted l)
      view_kept l true e = subst (λ (z : ClusterKey). Both SameEntries (kept_view old z) (kept_view noted z)) (same_key_is k l e) (entries (kept_view old k) (kept_view noted k) x.here)
      view_kept l false e = both_same SameEntries (λ y. same_entries (Some y)) (kept_view old l) (kept_view noted l) (x.others l e)

  was_written : (l : ClusterKey) (y : View) → kept_view noted l ≡ Some y → WasWritten old l y
  was_written l y e = go (same_key k l) refl
    where
      go : (t : Bool) → same_key k l ≡ t → WasWritten old l y
      go true f =
          let z : (z : View) × (kept_view old k ≡ Some z) × SettlesPartition p z y = was_view (kept_view old k) (kept_view noted k) y x.here (ap (λ (m : ClusterKey). kept_view noted m) (same_key_is k l f) ∙ e) in
          record {
            was = z.0;
            there = ap (λ (m : ClusterKey). kept_view old m) (sym (same_key_is k l f)) ∙ z.1;
            applied = ap (λ (v : View). v.applied) z.2.rest;
            written = ap (λ (v : View). v.written) z.2.rest;
            writes = ap (λ (v : View). v.writes) z.2.rest;
            parts = z.2.written;
          }
      go false f = record { was = y; there = sym (x.others l f) ∙ e; applied = refl; written = refl; writes = refl; parts = λ q. refl }

  stores_noted : SeesStores noted (i + 1) old.lines.now (take (i + 1) old.lines.now)
  stores_noted =
      let h : SeesStores old (i + 1) old.lines.now (take (i + 1) old.lines.now) = stores_silent old i old.lines.now (line.Settled n k p) c.stands (settled_silent n p k) refl c.audits.state.stores in
      let moved : SeesStores (record noted { views = old.views }) (i + 1) old.lines.now (take (i + 1) old.lines.now) = subst (λ (s : Judge). SeesStores s (i + 1) old.lines.now (take (i + 1) old.lines.now)) (sym x.rest) h in
      record {
        records = record { numbered = moved.records.numbered; unbrought = moved.records.unbrought; newest = moved.records.newest; holders = moved.records.holders };
        contents = moved.contents;
        copies = moved.copies;
        written = record {
          applied = λ l y r e. let w : WasWritten old l y = was_written l y e in ap (λ (m : _). placed old.lines.now (hash.get nat_eq m r)) w.applied ∙ moved.written.applied l w.was r w.there;
          written = λ l y r e. let w : WasWritten old l y = was_written l y e in
              ap (λ (m : _). has_node m.items r) w.written ∙ (moved.written.written l w.was r w.there ∙ sym (ap (λ (m : _). is_some (hash.get nat_eq m r)) w.applied));
          listed = λ l y r e some. let w : WasWritten old l y = was_written l y e in
              let u : (u : ℕ) × IsRecordOf noted.records r u × (has_node (written_of w.was u) r ≡ true) = moved.written.listed l w.was r w.there (sym (ap (λ (m : _). is_some (hash.get nat_eq m r)) w.applied) ∙ some) in
              (u.0, u.1, ap (λ (ns : List ℕ). has_node ns r) (w.parts u.0) ∙ u.2);
          listed_only = λ l y q r e has. let w : WasWritten old l y = was_written l y e in
              moved.written.listed_only l w.was q r w.there (sym (ap (λ (ns : List ℕ). has_node ns r) (w.parts q)) ∙ has);
        };
      }

  pub lines_noted : SeesLines noted (i + 1)
  lines_noted = record {
    shape = subst Shape (sym noted_front) ((shape_step (so_far old i) (line.Settled n k p)).1 (c.audits.lawful.shape, c.shape));
    frame = subst (λ (ls : List Line). SeesFrame noted (take (i + 1) ls)) (sym lines_same) (frame_next old noted i (line.Settled n k p) c (keeps_next i (line.Settled n k p) old noted (quiet_line (line.Settled n k p) refl) frame_kept));
    stores = subst (λ (ls : List Line). SeesStores noted (i + 1) ls (take (i + 1) ls)) (sym lines_same) stores_noted;
  }

  writes_noted : SeesWrites noted (so_far noted (i + 1))
  writes_noted = subst (SeesWrites noted) (sym noted_front) (writes_same old noted (so_far old i ++ line.Settled n k p ∷ [])
      (record { views = λ l y e. let w : WasWritten old l y = was_written l y e in (w.was, w.there, w.writes) })
      (writes_left old (so_far old i) (line.Settled n k p) (settled_leaves n p k) c.audits.state.writes))

  stays_noted : SeesStays noted (so_far noted (i + 1))
  stays_noted = subst (SeesStays noted) (sym noted_front) (stays_same old noted (so_far old i ++ line.Settled n k p ∷ [])
      (nodes_same old noted (λ m. ap (λ (s : Judge). node_at s m) x.rest) (λ r. ap (λ (s : Judge). record_digest s.records r) x.rest))
      (stays_left old (so_far old i) (line.Settled n k p) refl (λ l. refl) (λ by m e y. refl) c.audits.state.stays))

  all_here : (l : ClusterKey) (e : List ℕ) → tried_with_partition (λ l e. not (same_key k l && (p == partition_of e))) k p l e ≡ true
  all_here l e = go (same_key k l && (p == partition_of e))
    where
      go : (t : Bool) → (not t || t) ≡ true
      go true = refl
      go false = refl

  pub settle_takes : (after : Judge) → TriesPartition (i + 1) k p noted after → KeepsKnown noted after → AcceptsLine old after i (line.Settled n k p)
  unfolding TriesPartition
  settle_takes after tries keeps =
      let t : IsTrying after (i + 1) (tried_with_partition (λ l e. not (same_key k l && (p == partition_of e))) k p) = tries (λ l e. not (same_key k l && (p == partition_of e))) lines_noted trying_noted in
      let tried : SeesTried after (so_far after (i + 1)) = all_tried after (i + 1) _ t all_here in
      let seen : SeesLines after (i + 1) = lines_kept noted after (i + 1) keeps lines_noted in
      let same : so_far after (i + 1) ≡ so_far noted (i + 1) = ap (λ (s : Judge). so_far s (i + 1)) keeps.rest in
      let lines : after.lines.now ≡ old.lines.now = ap (λ (s : Judge). s.lines.now) keeps.rest ∙ lines_same in
      record {
        lines = lines;
        fits = record { shape = c.shape; map = tt; losses = tt; replicas = joins_all after (i + 1) (so_far old i) (line.Settled n k p) (same ∙ noted_front) seen tried; joins = tt };
        sees = record {
          lines = lines;
          frame = subst (λ (ls : List Line). SeesFrame after (take (i + 1) ls)) lines seen.frame;
          stores = subst (λ (ls : List Line). SeesStores after (i + 1) ls (take (i + 1) ls)) lines seen.stores;
          tried = subst (λ (ls : List Line). SeesTried after (take (i + 1) ls)) lines tried;
          covers = t.covers;
          writes = subst (λ (ls : List Line). SeesWrites after (take (i + 1) ls)) lines_same (writes_same noted after (so_far noted (i + 1)) (writes_tried noted after keeps) writes_noted);
          stays = subst (λ (ls : List Line). SeesStays after (take (i + 1) ls)) lines_same (stays_same noted after (so_far noted (i + 1)) (stays_tried noted after keeps) stays_noted);
        };
      }

  pub settle_stops : (stop : Stop) → StopsTrying noted (i + 1) stop → StopsRightly stop (so_far old i) (line.Settled n k p)
  unfolding StopsTrying
  settle_stops stop h =
      parted_stops (so_far old i) (so_far noted (i + 1)) (line.Settled n k p) stop noted_front c.audits.lawful.shape c.audits.lawful.settled_join c.shape tt tt
      (h (λ l e. not (same_key k l && (p == partition_of e))) lines_noted trying_noted)

pub settled_ok : {E : Type 0} (old noted after : Judge) (i n p : ℕ) (k : ClusterKey) (b : Bool) (c : Comes old i (line.Settled n k p)) → b ≡ is_master_in (kept_view old k) n p → b ≡ true → ChangesView (SettlesPartition p) k old noted
    → (r : Result (Unit {0}) E) → OnOk r (TriesPartition (i + 1) k p noted after) → OnOk r (KeepsKnown noted after) → OnOk r (AcceptsLine old after i (line.Settled n k p))
settled_ok {E} old noted after i n p k b c first is x (Ok u) tries keeps = settle_takes old noted i n p k b c first is x after tries keeps
settled_ok {E} old noted after i n p k b c first is x (Err e) tries keeps = tt

pub settle_no_memory : (j : List Line) (l : Line) (x : Stop) → x ≡ stop.NoMemory → StopsRightly x j l
settle_no_memory j l x is = subst (λ (z : Stop). StopsRightly z j l) (sym is) tt

-- A line by which a node drops its copy of a partition.
use Rattle.std.proofs.Common.{◌≡◌, ℕ, ◌==◌, ◌+◌, Bool, true, false, not, ◌&&◌, ◌||◌, cond, List, [], ◌∷◌, ◌++◌, Option, Some, None, ◌↔◌, refl, sym, ap, ap₂, subst, ◌∙◌}
use Rattle.std.specs.Prelude.{take, IsTrue}
use Rattle.std.specs.List.{list_any}
use Rattle.std.proofs.lemmas.Bool.{or_parts}
use Rattle.std.proofs.lemmas.List.Folds.{list_any-append}
use Rattle.conflict_order.specs.declared.policy.Policy.{Policy}
use Rattle.cluster_types.specs.ClusterKeys.{is_view_key}
use Rattle.cluster_types.specs.declared.cluster_key.ClusterKey.{ClusterKey}
use Rattle.cluster_types.specs.declared.member.Member.{Member}
use Rattle.cluster_types.specs.Partitions.{partition_of}
use Rattle.partition_lists.specs.Lists as lists
use Rattle.journal_lines.specs.declared.line.Line.{Line}
use Rattle.journal_lines.specs.declared.line.Line.TheVariants as line
use Rattle.journal_readings.specs.Contents.{content}
use Rattle.journal_readings.specs.Entries.{fold_of, entry}
use Rattle.journal_readings.specs.Lines.{has_node}
use Rattle.journal_readings.specs.Settings.{policy_of, nodes}
use Rattle.journal_readings.specs.Shape.{Shape, named_nodes}
use Rattle.journal_readings.specs.Views.{view}
use Rattle.journal_readings.proofs.AlongLaws.{some_same}
use Rattle.journal_readings.proofs.CopyLaws.{same_digest_is, same_digest_itself}
use Rattle.journal_readings.proofs.Fronts.{and_left, and_right}
use Rattle.journal_readings.proofs.StepLaws.{content-more, view-more}
use Rattle.journal_readings.proofs.Unwritten.{content-none}
use Rattle.audit_laws.specs.Fits.{LosesNothing}
use Rattle.audit_laws.proofs.Headers.{policy_stays, factor_stays, nodes_stay}
use Rattle.audit_laws.proofs.Quiet.{members-other, fold-other}
use Rattle.audit_laws.proofs.Steps.{shape_step}
use Rattle.audit_laws.proofs.Tests.{differ, number_same, number_here}
use Rattle.audit_core.specs.declared.judge.Judge.{Judge}
use Rattle.audit_laws.specs.declared.law.Law.TheVariants as law
use Rattle.audit_core.specs.declared.verdict.Stop.{Stop}
use Rattle.audit_core.specs.declared.verdict.Stop.TheVariants as stop
use Rattle.audit_state.specs.declared.nodes.Node.{Node}
use Rattle.audit_state.specs.declared.stamps.Stamps.{Stamps}
use Rattle.audit_state.specs.Records.{record_number, record_digest}
use Rattle.audit_state.specs.Stores.{held_of}
use Rattle.audit_state.specs.Views.{SameEntries}
use Rattle.audit_state.specs.Written.{stand_of}
use Rattle.audit_core.specs.Audits.{Comes, AcceptsLine, so_far}
use Rattle.audit_core.specs.Bringing.{KeepsLines}
use Rattle.audit_core.specs.Covering.{SeesCovers}
use Rattle.audit_core.specs.Frames.{Both, SameStand}
use Rattle.audit_core.specs.Known.{node_at, view_at, kept_view, stamps_at}
use Rattle.audit_core.specs.NextFrames.{NextFrame, NextStamps}
use Rattle.audit_core.specs.Sees.{SeesFrame, SeesStand, SeesTried, SeesWrites, SeesStays, AllJoin}
use Rattle.audit_core.specs.Steps.{ChangesNode, ChangesStamps, HasMark, HaveChanged}
use Rattle.audit_core.specs.Stored.{Knows, SeesContents, SeesStores}
use Rattle.audit_core.specs.Trying.{SeesLines, SeesStands, IsTrying, KeepsKnown, AreRecordsOf, TriesRecords, StopsRecords, is_digest, tried_with_records}
use Rattle.audit_core.specs.Verdicts.{StopsRightly}
use Rattle.audit_core.proofs.BoundLaws.{present_so}
use Rattle.audit_core.proofs.DroppedLaws.{held_none}
use Rattle.audit_core.proofs.EntryLaws.{marked_stamps}
use Rattle.audit_core.proofs.MergeLaws.{covers_next}
use Rattle.audit_core.proofs.NoteLaws.{kept_stores}
use Rattle.audit_core.proofs.OpenWriteLaws.{writes_same, writes_tried, writes_left}
use Rattle.audit_core.proofs.PartedLaws.{all_tried, joins_all, parted_stops}
use Rattle.audit_core.proofs.PassLaws.{frame_next, known_stores, moved_stores}
use Rattle.audit_core.proofs.StayLaws.{stays_same, stays_tried, node_before, unchanged_next}
use Rattle.audit_core.proofs.StillLaws.{stand_kept}
use Rattle.audit_core.proofs.TryLaws.{lines_kept}
use Rattle.audit_core.proofs.UntriedLaws.{content_line, TakesLine, trying_those}
use Rattle.audit_core.proofs.VerdictLaws.{taken_next}
use Rattle.audit_core.proofs.WordLaws.{node_stays, view_stays, changed_nodes, both_same, same_entries}

-- the copy's mark is taken, its records are removed, and they are noted
pub record Drops (old marked held noted : Judge) (i n p : ℕ) (dropped : List ℕ) : Type 0 where
  pub marks : ChangesStamps (HasMark i None) n p old marked
  pub taken : dropped ≡ held_of marked.stores n p
  pub stores : SeesStores held (i + 1) marked.lines.now (take (i + 1) marked.lines.now)
  pub keeps : KeepsLines marked held
  pub notes : ChangesNode (HaveChanged dropped) n held noted

digest_is : (o : Option (List ℕ)) (e : List ℕ) → is_digest o e ≡ true → o ≡ Some e
digest_is None e h = differ h refl
digest_is (Some d) e h = ap Some (same_digest_is d e h)

-- the partition's writes are open as they were
drop_opens : (n : ℕ) (k : ClusterKey) (q : ℕ) (l : ClusterKey) (p m : ℕ) (ls : List Line) → Rattle.journal_readings.specs.Settled.is_open_write l p m ls (line.Drop n k q) ≡ false
drop_opens n k q l p m ls = refl

-- what is known before it stays as the mark is taken
pub marked_knows : (old marked : Judge) (i n p : ℕ) → ChangesStamps (HasMark i None) n p old marked → Knows old i → Knows marked i
marked_knows old marked i n p marks h =
    let moved : Knows (record marked { stamps = old.stamps }) i = subst (λ (s : Judge). Knows s i) (sym marks.rest) h in
    record { lawful = moved.lawful; policy = moved.policy; stores = kept_stores old marked i marked.lines.now (take i marked.lines.now) moved.stores }

pub drop_declared : (s : Judge) (i n p : ℕ) (k : ClusterKey) → Comes s i (line.Drop n k p) → has_node (nodes (so_far s i)) n ≡ true
unfolding named_nodes
drop_declared s i n p k c =
    ap (λ (ns : List ℕ). has_node ns n) (sym (nodes_stay (so_far s i) (line.Drop n k p) refl))
    ∙ and_left (has_node (nodes (so_far s i ++ line.Drop n k p ∷ [])) n) true c.shape.named

pub drop_loses : (s : Judge) (i n p : ℕ) (b : Bool) (x : Stop) → x ≡ stop.Breaks law.NoLoss → b ≡ false
    → ((a : ℕ) (k : ClusterKey) → Knows s a → IsTrue (has_node (nodes (take a s.lines.now)) n) → IsTrue b ↔ LosesNothing (take a s.lines.now) (line.Drop n k p))
    → (k : ClusterKey) → Comes s i (line.Drop n k p) → StopsRightly x (so_far s i) (line.Drop n k p)
drop_loses s i n p b x is off fits k c = subst (λ (z : Stop). StopsRightly z (so_far s i) (line.Drop n k p)) (sym is)
    (record { before = (c.shape, tt); broken = λ losses. differ ((fits i k (known_stores s i c.audits) (drop_declared s i n p k c)).1 losses) off })

module _ (old marked held noted : Judge) (i n p : ℕ) (k : ClusterKey) (dropped : List ℕ) (c : Comes old i (line.Drop n k p)) (x : Drops old marked held noted i n p dropped) where
  abbrev before : List Line
  before = so_far old i

  lines_same : noted.lines ≡ old.lines
  lines_same = ap (λ (s : Judge). s.lines) x.notes.rest ∙ (ap (λ (s : Judge). s.lines) x.keeps.rest ∙ ap (λ (s : Judge). s.lines) x.marks.rest)

  lines_now : noted.lines.now ≡ old.lines.now
  lines_now = ap (λ (s : Judge). s.lines.now) x.notes.rest ∙ (ap (λ (s : Judge). s.lines.now) x.keeps.rest ∙ ap (λ (s : Judge). s.lines.now) x.marks.rest)

  marked_lines : marked.lines.now ≡ old.lines.now
  marked_lines = ap (λ (s : Judge). s.lines.now) x.marks.rest

  views_same : (l : ClusterKey) → kept_view noted l ≡ kept_view old l
  views_same l = ap (λ (s : Judge). kept_view s l) x.notes.rest ∙ (ap (λ (s : Judge). kept_view s l) x.keeps.rest ∙ ap (λ (s : Judge). kept_view s l) x.marks.rest)

  pub drop_front : so_far noted (i + 1) ≡ so_far old i ++ line.Drop n k p ∷ []
  drop_front = ap (take (i + 1)) lines_now ∙ taken_next old.lines.now i (line.Drop n k p) c.stands

  known : Knows old i
  known = known_stores old i c.audits

  digests_same : (q : ℕ) → record_digest noted.records q ≡ record_digest old.records q
  digests_same q = ap (λ (s : Judge). record_digest s.records q) x.notes.rest ∙ (x.keeps.numbers.digests q ∙ ap (λ (s : Judge). record_digest s.records q) x.marks.rest)

  dropped_same : dropped ≡ held_of old.stores n p
  dropped_same = x.taken ∙ ap (λ (s : Judge). held_of s.stores n p) x.marks.rest

  -- ---- the frame

  stands_same : (m : ℕ) → Both SameStand (node_at old m) (node_at noted m)
  stands_same m = subst (λ (o : Option Node). Both SameStand o (node_at noted m)) (ap (λ (s : Judge). node_at s m) x.keeps.rest ∙ ap (λ (s : Judge). node_at s m) x.marks.rest)
      (changed_nodes (HaveChanged dropped) n held noted x.notes (λ y. SameStand) (λ a b h. h.same) (λ y a e. record { view = refl; clock = refl; exchanged = refl }) m)

  stamps_same : (m q : ℕ) → stamps_at noted m q ≡ stamps_at marked m q
  stamps_same m q = ap (λ (s : Judge). stamps_at s m q) x.notes.rest ∙ ap (λ (s : Judge). stamps_at s m q) x.keeps.rest

  frame_dropped : NextFrame i (line.Drop n k p) old noted
  frame_dropped = record {
    policy = ap (λ (s : Judge). s.by) x.notes.rest ∙ (ap (λ (s : Judge). s.by) x.keeps.rest ∙ ap (λ (s : Judge). s.by) x.marks.rest);
    factor = ap (λ (s : Judge). s.factor) x.notes.rest ∙ (ap (λ (s : Judge). s.factor) x.keeps.rest ∙ ap (λ (s : Judge). s.factor) x.marks.rest);
    nodes = λ m. node_stays m i (line.Drop n k p) (λ t. refl) (λ v. refl) refl (node_at old m) (node_at noted m) (stands_same m);
    views = λ l. view_stays l i (line.Drop n k p) refl (λ m. refl) (λ m. refl) (kept_view old l) (kept_view noted l)
        (both_same SameEntries (λ y. same_entries (Some y)) (kept_view old l) (kept_view noted l) (views_same l));
    stamps = λ m q. subst (λ (o : Option Stamps). NextStamps m q i (line.Drop n k p) (stamps_at old m q) o) (sym (stamps_same m q))
        (marked_stamps i n p (line.Drop n k p) None old marked (λ y z. refl) x.marks m q);
  }

  -- ---- what is known behind the line

  stores_noted : SeesStores noted (i + 1) marked.lines.now (take (i + 1) marked.lines.now)
  stores_noted = moved_stores held noted (i + 1) marked.lines.now (take (i + 1) marked.lines.now)
      (subst (λ (s : Judge). SeesStores s (i + 1) marked.lines.now (take (i + 1) marked.lines.now)) (sym x.notes.rest) x.stores)

  pub drop_lines : SeesLines noted (i + 1)
  drop_lines = record {
    shape = subst Shape (sym drop_front) ((shape_step (so_far old i) (line.Drop n k p)).1 (c.audits.lawful.shape, c.shape));
    frame = subst (λ (ls : List Line). SeesFrame noted (take (i + 1) ls)) (sym lines_now) (frame_next old noted i (line.Drop n k p) c frame_dropped);
    stores = subst (λ (ls : List Line). SeesStores noted (i + 1) ls (take (i + 1) ls)) (marked_lines ∙ sym lines_now) stores_noted;
  }

  stands_noted : SeesStands noted (i + 1)
  stands_noted = λ l q y e. subst (λ (ls : List Line). SeesStand ls l q (stand_of y q)) (sym drop_front)
      (stand_kept (so_far old i) (line.Drop n k p) l q (stand_of y q) refl (λ m. refl) (λ m t. refl) (λ m ls. drop_opens n k p l q m ls) (c.audits.state.tried.stands l q y (sym (views_same l) ∙ e)))

  policy_next : policy_of (take (i + 1) marked.lines.now) ≡ policy_of before
  policy_next = ap (λ (ls : List Line). policy_of (take (i + 1) ls)) marked_lines
      ∙ (ap policy_of (taken_next old.lines.now i (line.Drop n k p) c.stands) ∙ policy_stays (so_far old i) (line.Drop n k p) refl)

  covers_noted : SeesCovers noted (i + 1)
  covers_noted = covers_next old noted i (policy_of before)
      (ap (λ (s : Judge). s.by) x.notes.rest ∙ (ap (λ (s : Judge). s.by) x.keeps.rest ∙ ap (λ (s : Judge). s.by) x.marks.rest))
      lines_same
      (ap (λ (s : Judge). s.covers) x.notes.rest ∙ (ap (λ (s : Judge). s.covers) x.keeps.rest ∙ ap (λ (s : Judge). s.covers) x.marks.rest))
      digests_same
      known.stores.contents
      (subst (λ (ls : List Line). SeesContents noted.stores noted.records ls (policy_of before) (i + 1)) marked_lines
      (subst (λ (by : Policy). SeesContents noted.stores noted.records marked.lines.now by (i + 1)) policy_next stores_noted.contents))
      c.audits.state.covers

  writes_noted : SeesWrites noted (so_far noted (i + 1))
  writes_noted = subst (SeesWrites noted) (sym drop_front) (writes_same old noted (so_far old i ++ line.Drop n k p ∷ []) (record { views = λ l y e. (y, sym (views_same l) ∙ e, refl) })
      (writes_left old (so_far old i) (line.Drop n k p) (record { enters = λ l. refl; ends = λ l m t. refl; opens = λ l q m ls. refl }) c.audits.state.writes))

  taken : TakesLine old noted i
  taken = record {
    lines = lines_now;
    numbers = λ e q h. ap (λ (s : Judge). record_number s.records e) x.notes.rest ∙ (x.keeps.numbers.numbers e ∙ (ap (λ (s : Judge). record_number s.records e) x.marks.rest ∙ h));
    views = λ l y e. (y, sym (views_same l) ∙ e, record { listed = refl; stands = λ q. record { settled = refl; untried = refl; suspects = refl; closed = λ z. z } });
    stands = stands_noted;
    covers = covers_noted;
  }

  -- ---- a record that the node didn't have

  -- none of the dropped has the digest
  apart_from : (d : List ℕ) (q : ℕ) → record_digest old.records q ≡ Some d → list_any (λ r. is_digest (record_digest noted.records r) d) dropped ≡ false → has_node dropped q ≡ false
  apart_from d q named off = go dropped off
    where
      met : is_digest (record_digest noted.records q) d ≡ true
      met = ap (λ (o : Option (List ℕ)). is_digest o d) (digests_same q ∙ named) ∙ same_digest_itself d

      go : (rs : List ℕ) → list_any (λ r. is_digest (record_digest noted.records r) d) rs ≡ false → has_node rs q ≡ false
      go [] e = refl
      go (r ∷ rs) e = at (r == q) refl (is_digest (record_digest noted.records r) d) refl e (go rs)
        where
          at : (a : Bool) → (r == q) ≡ a → (b : Bool) → is_digest (record_digest noted.records r) d ≡ b → (b || list_any (λ y. is_digest (record_digest noted.records y) d) rs) ≡ false
              → (list_any (λ y. is_digest (record_digest noted.records y) d) rs ≡ false → has_node rs q ≡ false) → (a || has_node rs q) ≡ false
          at true e true f h rest = differ refl h
          at true e false f h rest = differ (subst (λ (y : ℕ). is_digest (record_digest noted.records y) d ≡ true) (sym (number_same r q e)) met) f
          at false e true f h rest = differ refl h
          at false e false f h rest = rest h

  -- the node held nothing of it
  nothing_held : (d : List ℕ) → partition_of d ≡ p → list_any (λ r. is_digest (record_digest noted.records r) d) dropped ≡ false → content (policy_of before) n d before ≡ None
  nothing_held d part off = go (record_number old.records d) refl
    where
      go : (o : Option ℕ) → record_number old.records d ≡ o → content (policy_of before) n d before ≡ None
      go None e = content-none (policy_of before) n d before (known.stores.records.unbrought d e)
      go (Some q) e =
          let named : record_digest old.records q ≡ Some d = known.stores.records.numbered.digests d q e in
          held_none old i n p q d known (ap (λ (rs : List ℕ). has_node rs q) (sym dropped_same) ∙ apart_from d q named off) named part

  -- what a node holds of it stays
  content_kept : (m : ℕ) (d : List ℕ) → ((n == m) ≡ true → partition_of d ≡ p → list_any (λ r. is_digest (record_digest noted.records r) d) dropped ≡ false)
      → cond ((n == m) && (p == partition_of d)) None (content (policy_of before) m d before) ≡ content (policy_of before) m d before
  content_kept m d off = go ((n == m) && (p == partition_of d)) refl
    where
      go : (b : Bool) → ((n == m) && (p == partition_of d)) ≡ b → cond b None (content (policy_of before) m d before) ≡ content (policy_of before) m d before
      go false e = refl
      go true e =
          let part : partition_of d ≡ p = sym (number_same p (partition_of d) (and_right (n == m) _ e)) in
          sym (subst (λ (y : ℕ). content (policy_of before) y d before ≡ None) (number_same n m (and_left (n == m) _ e)) (nothing_held d part (off (and_left (n == m) _ e) part)))

  -- ---- what is to be tried

  abbrev pub others : ClusterKey → List ℕ → Bool
  others l d = not (is_view_key (view n before) l && list_any (λ r. is_digest (record_digest noted.records r) d) dropped)

  joins_still : (l : ClusterKey) (d : List ℕ) → others l d ≡ true → AllJoin l d before → AllJoin l d (before ++ line.Drop n k p ∷ [])
  joins_still l d off h r replica in_view =
      let was : view r before ≡ Some l = sym (view-more r before (line.Drop n k p)) ∙ in_view in
      ap (λ (by : Policy). content by r d (before ++ line.Drop n k p ∷ [])) (policy_stays before (line.Drop n k p) refl)
      ∙ (content-more (policy_of before) r d before (line.Drop n k p)
      ∙ (content_kept r d (λ same part. unheld (is_view_key (view n before) l) _ (ap (λ (o : Option ClusterKey). is_view_key o l) (ap (λ (y : ℕ). view y before) (number_same n r same) ∙ was) ∙ Rattle.audit_laws.proofs.ShapeSteps.same_key_itself l) off)
      ∙ (h r (sym (ap₂ (λ (factor : ℕ) (ms : List Member). lists.is_replica_of r ms (partition_of d) factor) (factor_stays before (line.Drop n k p) refl) (members-other l before (line.Drop n k p) refl)) ∙ replica) was
      ∙ sym (ap (λ (by : Policy). fold_of by l d (before ++ line.Drop n k p ∷ [])) (policy_stays before (line.Drop n k p) refl) ∙ fold-other (policy_of before) l d before (line.Drop n k p) refl (λ y. refl)))))
    where
      unheld : (a b : Bool) → a ≡ true → not (a && b) ≡ true → b ≡ false
      unheld true true e f = differ f refl
      unheld true false e f = refl
      unheld false b e f = differ e refl

  trying : IsTrying noted (i + 1) others
  trying = trying_those old noted i (line.Drop n k p) c (content_line (line.Drop n k p) refl) taken others joins_still

  present : view_at noted n ≡ view n before
  present = present_so noted (i + 1) n drop_lines ∙ (ap (view n) drop_front ∙ view-more n before (line.Drop n k p))

  all_here : (l : ClusterKey) (e : List ℕ) → tried_with_records others noted.records (view_at noted n) dropped l e ≡ true
  all_here l e = go (is_view_key (view n before) l) (is_view_key (view_at noted n) l) _ (ap (λ (o : Option ClusterKey). is_view_key o l) (sym present))
    where
      go : (a b z : Bool) → a ≡ b → (not (a && z) || (b && z)) ≡ true
      go true true true q = refl
      go true true false q = refl
      go true false z q = differ refl q
      go false b z q = refl

  are_of : AreRecordsOf noted.records dropped p
  are_of = λ r e. ap (Rattle.std.proofs.Common.option_map partition_of) (digests_same r) ∙ known.stores.copies.held_only n p r (ap (λ (rs : List ℕ). has_node rs r) (sym dropped_same) ∙ e)

  -- ---- stays

  stays_noted : SeesStays noted (so_far noted (i + 1))
  stays_noted = subst (SeesStays noted) (sym drop_front) (record {
    unchanged = λ m q y l e there in_view named apart.
        unchanged_next l m e before (line.Drop n k p) refl refl
        (content_kept m e (λ same part. unnamed q e named (has_none m q y there apart same)))
        (was m q y l e there in_view (sym (digests_same q) ∙ named) apart);
  })
    where
      held_nodes : (m : ℕ) → node_at held m ≡ node_at old m
      held_nodes m = ap (λ (s : Judge). node_at s m) x.keeps.rest ∙ ap (λ (s : Judge). node_at s m) x.marks.rest

      parts : (z : Node) {y : Node} → HaveChanged dropped z y → (q : ℕ) → has_node y.stay.items q ≡ false → (has_node z.stay.items q ≡ false) × (has_node dropped q ≡ false)
      parts z {y} h q e = or_parts (has_node z.stay.items q) (has_node dropped q) (sym (list_any-append (λ (r : ℕ). r == q) z.stay.items dropped) ∙ (ap (λ (rs : List ℕ). has_node rs q) (sym h.stay) ∙ e))

      front_node : (m : ℕ) (y : Node) → node_at noted m ≡ Some y → (z : Node) × (node_at old m ≡ Some z) × (y.view ≡ z.view) × ((q : ℕ) → has_node y.stay.items q ≡ false → has_node z.stay.items q ≡ false) × ((n == m) ≡ true → (q : ℕ) → has_node y.stay.items q ≡ false → has_node dropped q ≡ false)
      front_node m y there = at (n == m) refl
        where
          at : (b : Bool) → (n == m) ≡ b → (z : Node) × (node_at old m ≡ Some z) × (y.view ≡ z.view) × ((q : ℕ) → has_node y.stay.items q ≡ false → has_node z.stay.items q ≡ false) × ((n == m) ≡ true → (q : ℕ) → has_node y.stay.items q ≡ false → has_node dropped q ≡ false)
          at false f = (y, sym (held_nodes m) ∙ (sym (x.notes.others m f) ∙ there), refl, (λ q h. h), λ g. differ g f)
          at true f =
              let z : (z : Node) × (node_at held n ≡ Some z) × HaveChanged dropped z y = node_before (HaveChanged dropped) (node_at held n) (node_at noted n) y x.notes.here (ap (node_at noted) (number_same n m f) ∙ there) in
              (z.0, ap (node_at old) (sym (number_same n m f)) ∙ (sym (held_nodes n) ∙ z.1), z.2.same.view, (λ q h. (parts z.0 z.2 q h).0), λ g q h. (parts z.0 z.2 q h).1)

      has_none : (m q : ℕ) (y : Node) → node_at noted m ≡ Some y → has_node y.stay.items q ≡ false → (n == m) ≡ true → has_node dropped q ≡ false
      has_none m q y there apart same = (front_node m y there).4 same q apart

      unnamed : (q : ℕ) (e : List ℕ) → record_digest noted.records q ≡ Some e → has_node dropped q ≡ false → list_any (λ r. is_digest (record_digest noted.records r) e) dropped ≡ false
      unnamed q e named apart = go dropped apart
        where
          number : (r : ℕ) → is_digest (record_digest noted.records r) e ≡ true → r ≡ q
          number r h = some_same (sym (known.stores.records.numbered.numbers e r (sym (digests_same r) ∙ digest_is (record_digest noted.records r) e h)) ∙ known.stores.records.numbered.numbers e q (sym (digests_same q) ∙ named))

          go : (rs : List ℕ) → has_node rs q ≡ false → list_any (λ r. is_digest (record_digest noted.records r) e) rs ≡ false
          go [] h = refl
          go (r ∷ rs) h = at (is_digest (record_digest noted.records r) e) refl (or_parts (r == q) (has_node rs q) h) (go rs)
            where
              at : (b : Bool) → is_digest (record_digest noted.records r) e ≡ b → ((r == q) ≡ false) × (has_node rs q ≡ false) → (has_node rs q ≡ false → list_any (λ z. is_digest (record_digest noted.records z) e) rs ≡ false)
                  → (b || list_any (λ z. is_digest (record_digest noted.records z) e) rs) ≡ false
              at true f both rest = differ (subst (λ (z : ℕ). (r == z) ≡ true) (number r f) (number_here r)) both.0
              at false f both rest = rest both.1

      was : (m q : ℕ) (y : Node) (l : ClusterKey) (e : List ℕ) → node_at noted m ≡ Some y → y.view ≡ Some l → record_digest old.records q ≡ Some e → has_node y.stay.items q ≡ false → content (policy_of before) m e before ≡ entry (policy_of before) l m e before
      was m q y l e there in_view named apart =
          let z : (z : Node) × (node_at old m ≡ Some z) × (y.view ≡ z.view) × ((q : ℕ) → has_node y.stay.items q ≡ false → has_node z.stay.items q ≡ false) × ((n == m) ≡ true → (q : ℕ) → has_node y.stay.items q ≡ false → has_node dropped q ≡ false) = front_node m y there in
          c.audits.state.stays.unchanged m q z.0 l e z.1 (sym z.2 ∙ in_view) named (z.3 q apart)

  -- ---- the line is taken, or breaks a law

  pub drop_takes : (after : Judge) → LosesNothing (so_far old i) (line.Drop n k p) → TriesRecords (view_at noted n) dropped p noted after → KeepsKnown noted after → AcceptsLine old after i (line.Drop n k p)
  unfolding TriesRecords
  drop_takes after losses tries keeps =
      let t : IsTrying after (i + 1) (tried_with_records others noted.records (view_at noted n) dropped) = tries (i + 1) others drop_lines are_of trying in
      let tried : SeesTried after (so_far after (i + 1)) = all_tried after (i + 1) _ t all_here in
      let seen : SeesLines after (i + 1) = lines_kept noted after (i + 1) keeps drop_lines in
      let lines : after.lines.now ≡ old.lines.now = ap (λ (s : Judge). s.lines.now) keeps.rest ∙ lines_now in
      record {
        lines = lines;
        fits = record { shape = c.shape; map = tt; losses = losses; replicas = joins_all after (i + 1) (so_far old i) (line.Drop n k p) (ap (λ (s : Judge). so_far s (i + 1)) keeps.rest ∙ drop_front) seen tried; joins = tt };
        sees = record {
          lines = lines;
          frame = subst (λ (ls : List Line). SeesFrame after (take (i + 1) ls)) lines seen.frame;
          stores = subst (λ (ls : List Line). SeesStores after (i + 1) ls (take (i + 1) ls)) lines seen.stores;
          tried = subst (λ (ls : List Line). SeesTried after (take (i + 1) ls)) lines tried;
          covers = t.covers;
          writes = subst (λ (ls : List Line). SeesWrites after (take (i + 1) ls)) lines_now (writes_same noted after (so_far noted (i + 1)) (writes_tried noted after keeps) writes_noted);
          stays = subst (λ (ls : List Line). SeesStays after (take (i + 1) ls)) lines_now (stays_same noted after (so_far noted (i + 1)) (stays_tried noted after keeps) stays_noted);
        };
      }

  pub drop_stops : (y : Stop) → LosesNothing (so_far old i) (line.Drop n k p) → StopsRecords noted dropped p y → StopsRightly y (so_far old i) (line.Drop n k p)
  unfolding StopsRecords
  drop_stops y losses h =
      parted_stops (so_far old i) (so_far noted (i + 1)) (line.Drop n k p) y drop_front c.audits.lawful.shape c.audits.lawful.settled_join c.shape tt losses
      (h (i + 1) others drop_lines are_of trying)

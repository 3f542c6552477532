-- A line by which a version comes from another node.
use Rattle.std.proofs.Common.{◌≡◌, ℕ, ◌+◌, ◌≤◌, Bool, true, false, not, ◌&&◌, ◌||◌, List, [], ◌∷◌, ◌++◌, Option, Some, None, option_map, ◌↔◌, ◌⊎◌, inl, inr, refl, sym, ap, ap₂, subst, ◌∙◌, arith}
use Rattle.std.specs.Prelude.{take, slice_get, IsTrue, option_and_then, bytes_eq}
use Rattle.conflict_order.specs.declared.policy.Policy.{Policy}
use Rattle.conflict_order.specs.declared.version.Version.{Version}
use Rattle.cluster_types.specs.ClusterKeys.{is_view_key}
use Rattle.cluster_types.specs.declared.cluster_key.ClusterKey.{ClusterKey}
use Rattle.cluster_types.specs.Partitions.{partition_of}
use Rattle.journal_lines.specs.declared.line.Line.{Line}
use Rattle.journal_lines.specs.declared.line.Line.TheVariants as line
use Rattle.journal_readings.specs.Lines.{same_key, has_node}
use Rattle.journal_readings.specs.Settings.{policy_of, nodes}
use Rattle.journal_readings.specs.Settled.{is_open_write}
use Rattle.journal_readings.specs.Shape.{Shape, named_nodes}
use Rattle.journal_readings.specs.Contents.{content}
use Rattle.journal_readings.specs.Views.{view}
use Rattle.journal_readings.proofs.AlongLaws.{no_some}
use Rattle.journal_readings.proofs.Fronts.{and_left}
use Rattle.journal_readings.proofs.StepLaws.{view-more}
use Rattle.audit_laws.specs.Fits.{LosesNothing}
use Rattle.audit_laws.proofs.Headers.{policy_stays, nodes_stay}
use Rattle.audit_laws.proofs.Steps.{shape_step}
use Rattle.audit_core.specs.declared.judge.Judge.{Judge}
use Rattle.audit_core.specs.declared.verdict.Stop.{Stop}
use Rattle.audit_state.specs.declared.nodes.Node.{Node}
use Rattle.audit_state.specs.declared.history.Change.{Change}
use Rattle.audit_state.specs.Histories.{value_after}
use Rattle.audit_state.specs.Places.{placed, placed_version, brought_version, is_at_most}
use Rattle.audit_state.specs.Records.{record_number, record_digest, Opens}
use Rattle.audit_state.specs.Stores.{history_of}
use Rattle.audit_state.specs.Written.{stand_of}
use Rattle.audit_core.specs.Audits.{Comes, AcceptsLine, so_far}
use Rattle.audit_core.specs.Bringing.{KeepsLines}
use Rattle.audit_core.specs.Covering.{SeesCovers, IsCover, Covers, cover_of}
use Rattle.audit_core.specs.Frames.{Both, SameStand, KeepsFrame}
use Rattle.audit_core.specs.Known.{node_at, view_at, kept_view}
use Rattle.audit_core.specs.Sees.{SeesFrame, SeesStand, SeesWrites, SeesStays, SeesTried}
use Rattle.audit_core.specs.Steps.{ChangesNode, HasChanged}
use Rattle.audit_core.specs.Stored.{Knows, SeesContents, SeesStores, read_of}
use Rattle.audit_core.specs.Trying.{SeesLines, SeesStands, IsKnownRecord, IsTrying, KeepsKnown, TriesPresent, StopsRecord, tried_with_present}
use Rattle.audit_core.specs.Verdicts.{StopsRightly}
use Rattle.audit_core.proofs.BoundLaws.{present_so}
use Rattle.audit_core.proofs.OpenLaws.{number_kept, digest_kept}
use Rattle.audit_core.proofs.OpenWriteLaws.{writes_same, writes_tried, writes_left}
use Rattle.audit_core.proofs.PartedLaws.{all_tried, joins_all, parted_stops}
use Rattle.audit_core.proofs.PassLaws.{frame_next, known_stores, moved_stores}
use Rattle.audit_core.proofs.StayLaws.{stays_same, nodes_same, stays_tried, stays_open, stays_brought}
use Rattle.audit_core.proofs.StillLaws.{stand_kept}
use Rattle.audit_core.proofs.TryLaws.{lines_kept}
use Rattle.audit_core.proofs.UntriedLaws.{content_line, TakesLine, unparted, trying_next}
use Rattle.audit_core.proofs.VerdictLaws.{taken_next}
use Rattle.audit_core.proofs.WordLaws.{quiet_line, keeps_next, changed_nodes, both_same, same_entries}
use Rattle.audit_state.specs.Views.{SameEntries}

-- ---- what nodes are known to hold of one another's records

none_least : (by : Policy) (x : Option Version) → is_at_most by None x ≡ true
none_least by None = refl
none_least by (Some v) = refl

-- a record of the partition was one before, or nobody held it
module _ (s t : Judge) (i : ℕ) (stores : t.stores ≡ s.stores) (by : t.by ≡ s.by) (lines : t.lines ≡ s.lines) (known : t.covers ≡ s.covers)
    (fresh : (n r : ℕ) → record_digest s.records r ≡ None → history_of s.stores n r ≡ [])
    (digests : (q : ℕ) → (record_digest s.records q ≡ None) ⊎ (record_digest t.records q ≡ record_digest s.records q)) where
  covered : (n held m of p : ℕ) → Covers s n held m of p → Covers t n held m of p
  covered n held m of p h q part = go (digests q)
    where
      was : is_at_most s.by (placed s.lines.now (value_after (history_of s.stores m q) of)) (placed s.lines.now (value_after (history_of s.stores n q) held)) ≡ true
          → is_at_most t.by (placed t.lines.now (value_after (history_of t.stores m q) of)) (placed t.lines.now (value_after (history_of t.stores n q) held)) ≡ true
      was e =
          ap₂ (λ (b : Policy) (st : _). is_at_most b (placed t.lines.now (value_after (history_of st m q) of)) (placed t.lines.now (value_after (history_of st n q) held))) by stores
          ∙ (ap (λ (ls : _). is_at_most s.by (placed ls.now (value_after (history_of s.stores m q) of)) (placed ls.now (value_after (history_of s.stores n q) held))) lines ∙ e)

      go : (record_digest s.records q ≡ None) ⊎ (record_digest t.records q ≡ record_digest s.records q) → is_at_most t.by (placed t.lines.now (value_after (history_of t.stores m q) of)) (placed t.lines.now (value_after (history_of t.stores n q) held)) ≡ true
      go (inr e) = was (h q (ap (option_map partition_of) (sym e) ∙ part))
      go (inl e) = was (ap (λ (cs : List Change). is_at_most s.by (placed s.lines.now (value_after cs of)) (placed s.lines.now (value_after (history_of s.stores n q) held))) (fresh m q e)
          ∙ none_least s.by (placed s.lines.now (value_after (history_of s.stores n q) held)))

  pub covers_open : SeesCovers s i → SeesCovers t i
  covers_open h = λ n m p c number e.
      let known_there : cover_of s n m p ≡ Some c = sym (ap (λ (x : Judge). cover_of x n m p) (let same : record s { covers = t.covers } ≡ s = ap (λ (z : _). record s { covers = z }) known in same)) ∙ e in
      let x : IsCover s i n m p c = h n m p c number known_there in
      record { held = x.held; of = x.of; covers = covered n c.held m c.of p x.covers }

-- as the line brings or takes versions, what nodes held before it stays
pub covers_next : (s t : Judge) (i : ℕ) (by : Policy) → t.by ≡ s.by → t.lines ≡ s.lines → t.covers ≡ s.covers → ((q : ℕ) → record_digest t.records q ≡ record_digest s.records q)
    → SeesContents s.stores s.records s.lines.now by i → SeesContents t.stores t.records s.lines.now by (i + 1) → SeesCovers s i → SeesCovers t (i + 1)
covers_next s t i by policy lines known digests before after h = λ n m p c number e.
    let known_there : cover_of s n m p ≡ Some c = sym (ap (λ (x : Judge). cover_of x n m p) (let same : record s { covers = t.covers } ≡ s = ap (λ (z : _). record s { covers = z }) known in same)) ∙ e in
    let x : IsCover s i n m p c = h n m p c number known_there in
    record { held = omega (arith, x.held); of = omega (arith, x.of); covers = λ q part. covered n c.held m c.of x.held x.of q (x.covers q (ap (option_map partition_of) (sym (digests q)) ∙ part)) }
  where
    held_same : (n q a : ℕ) → a ≤ i → placed s.lines.now (value_after (history_of t.stores n q) a) ≡ placed s.lines.now (value_after (history_of s.stores n q) a)
    held_same n q a le = after.held n q a (omega (arith, le))
        ∙ (ap (read_of (λ d. content by n d (take a s.lines.now))) (digests q) ∙ sym (before.held n q a le))

    covered : (n held m of : ℕ) → held ≤ i → of ≤ i → (q : ℕ)
        → is_at_most s.by (placed s.lines.now (value_after (history_of s.stores m q) of)) (placed s.lines.now (value_after (history_of s.stores n q) held)) ≡ true
        → is_at_most t.by (placed t.lines.now (value_after (history_of t.stores m q) of)) (placed t.lines.now (value_after (history_of t.stores n q) held)) ≡ true
    covered n held m of below before_i q e =
        ap₂ (λ (b : Policy) (ls : _). is_at_most b (placed ls.now (value_after (history_of t.stores m q) of)) (placed ls.now (value_after (history_of t.stores n q) held))) policy lines
        ∙ (ap₂ (λ (x y : Option Version). is_at_most s.by x y) (held_same m q of before_i) (held_same n q held below) ∙ e)

-- ---- what a merge makes

-- the record is opened, the version comes to the node, and the change is noted
pub record Merges (old opened held noted : Judge) (i n r : ℕ) (d : List ℕ) : Type 0 where
  pub opens : Opens old.records opened.records d r
  pub rest : record opened { records = old.records } ≡ old
  pub knows : Knows opened i
  pub stores : SeesStores held (i + 1) opened.lines.now (take (i + 1) opened.lines.now)
  pub keeps : KeepsLines opened held
  pub notes : ChangesNode (HasChanged r) n held noted

-- the partition's writes are open as they were
merge_opens : (n : ℕ) (k : ClusterKey) (d : List ℕ) (v : Version) (l : ClusterKey) (p m : ℕ) (ls : List Line) → is_open_write l p m ls (line.Merge n k d v) ≡ false
merge_opens n k d v l p m ls = refl

module _ (old opened held noted : Judge) (i n r : ℕ) (k : ClusterKey) (d : List ℕ) (v : Version) (c : Comes old i (line.Merge n k d v)) (x : Merges old opened held noted i n r d) where
  front : List Line
  front = so_far old i

  lines_same : noted.lines ≡ old.lines
  lines_same = ap (λ (s : Judge). s.lines) x.notes.rest ∙ (ap (λ (s : Judge). s.lines) x.keeps.rest ∙ ap (λ (s : Judge). s.lines) x.rest)

  lines_now : noted.lines.now ≡ old.lines.now
  lines_now = ap (λ (s : Judge). s.lines.now) x.notes.rest ∙ (ap (λ (s : Judge). s.lines.now) x.keeps.rest ∙ ap (λ (s : Judge). s.lines.now) x.rest)

  opened_lines : opened.lines.now ≡ old.lines.now
  opened_lines = ap (λ (s : Judge). s.lines.now) x.rest

  views_same : (l : ClusterKey) → kept_view noted l ≡ kept_view old l
  views_same l = ap (λ (s : Judge). kept_view s l) x.notes.rest ∙ (ap (λ (s : Judge). kept_view s l) x.keeps.rest ∙ ap (λ (s : Judge). kept_view s l) x.rest)

  pub front_next : so_far noted (i + 1) ≡ so_far old i ++ line.Merge n k d v ∷ []
  front_next = ap (take (i + 1)) lines_now ∙ taken_next old.lines.now i (line.Merge n k d v) c.stands

  known : Knows old i
  known = known_stores old i c.audits

  records_same : (q : ℕ) → record_digest noted.records q ≡ record_digest opened.records q
  records_same q = ap (λ (s : Judge). record_digest s.records q) x.notes.rest ∙ x.keeps.numbers.digests q

  pub named : record_digest noted.records r ≡ Some d
  named = records_same r ∙ x.knows.stores.records.numbered.digests d r x.opens.number

  frame_kept : KeepsFrame old noted
  frame_kept = record {
    lines = lines_same;
    policy = ap (λ (s : Judge). s.by) x.notes.rest ∙ (ap (λ (s : Judge). s.by) x.keeps.rest ∙ ap (λ (s : Judge). s.by) x.rest);
    factor = ap (λ (s : Judge). s.factor) x.notes.rest ∙ (ap (λ (s : Judge). s.factor) x.keeps.rest ∙ ap (λ (s : Judge). s.factor) x.rest);
    begun = ap (λ (s : Judge). s.begun) x.notes.rest ∙ (ap (λ (s : Judge). s.begun) x.keeps.rest ∙ ap (λ (s : Judge). s.begun) x.rest);
    nodes = λ m. subst (λ (o : Option Node). Both SameStand o (node_at noted m)) (ap (λ (s : Judge). node_at s m) x.keeps.rest ∙ ap (λ (s : Judge). node_at s m) x.rest)
        (changed_nodes (HasChanged r) n held noted x.notes (λ y. SameStand) (λ a b h. h.same) (λ y a e. record { view = refl; clock = refl; exchanged = refl }) m);
    views = λ l. both_same SameEntries (λ y. same_entries (Some y)) (kept_view old l) (kept_view noted l) (views_same l);
    stamps = ap (λ (s : Judge). s.stamps) x.notes.rest ∙ (ap (λ (s : Judge). s.stamps) x.keeps.rest ∙ ap (λ (s : Judge). s.stamps) x.rest);
  }

  stores_noted : SeesStores noted (i + 1) opened.lines.now (take (i + 1) opened.lines.now)
  stores_noted = moved_stores held noted (i + 1) opened.lines.now (take (i + 1) opened.lines.now)
      (subst (λ (s : Judge). SeesStores s (i + 1) opened.lines.now (take (i + 1) opened.lines.now)) (sym x.notes.rest) x.stores)

  pub lines_noted : SeesLines noted (i + 1)
  lines_noted = record {
    shape = subst Shape (sym front_next) ((shape_step (so_far old i) (line.Merge n k d v)).1 (c.audits.lawful.shape, c.shape));
    frame = subst (λ (ls : List Line). SeesFrame noted (take (i + 1) ls)) (sym lines_now) (frame_next old noted i (line.Merge n k d v) c (keeps_next i (line.Merge n k d v) old noted (quiet_line (line.Merge n k d v) refl) frame_kept));
    stores = subst (λ (ls : List Line). SeesStores noted (i + 1) ls (take (i + 1) ls)) (opened_lines ∙ sym lines_now) stores_noted;
  }

  stands_noted : SeesStands noted (i + 1)
  stands_noted = λ l p y e. subst (λ (ls : List Line). SeesStand ls l p (stand_of y p)) (sym front_next)
      (stand_kept (so_far old i) (line.Merge n k d v) l p (stand_of y p) refl (λ m. refl) (λ m t. refl) (λ m ls. merge_opens n k d v l p m ls) (c.audits.state.tried.stands l p y (sym (views_same l) ∙ e)))

  policy_next : policy_of (take (i + 1) opened.lines.now) ≡ policy_of (take i opened.lines.now)
  policy_next = ap (λ (ls : List Line). policy_of (take (i + 1) ls)) opened_lines
      ∙ (ap policy_of (taken_next old.lines.now i (line.Merge n k d v) c.stands)
      ∙ (policy_stays (so_far old i) (line.Merge n k d v) refl
      ∙ ap (λ (ls : List Line). policy_of (take i ls)) (sym opened_lines)))

  covers_noted : SeesCovers noted (i + 1)
  covers_noted = covers_next opened noted i (policy_of (take i opened.lines.now))
      (ap (λ (s : Judge). s.by) x.notes.rest ∙ ap (λ (s : Judge). s.by) x.keeps.rest)
      (ap (λ (s : Judge). s.lines) x.notes.rest ∙ ap (λ (s : Judge). s.lines) x.keeps.rest)
      (ap (λ (s : Judge). s.covers) x.notes.rest ∙ ap (λ (s : Judge). s.covers) x.keeps.rest)
      records_same
      x.knows.stores.contents
      (subst (λ (by : Policy). SeesContents noted.stores noted.records opened.lines.now by (i + 1)) policy_next stores_noted.contents)
      (covers_open old opened i (ap (λ (s : Judge). s.stores) x.rest) (ap (λ (s : Judge). s.by) x.rest) (ap (λ (s : Judge). s.lines) x.rest) (ap (λ (s : Judge). s.covers) x.rest)
      known.stores.contents.fresh
      (digest_kept old.records opened.records d r x.opens known.stores.records.numbered x.knows.stores.records.numbered)
      c.audits.state.covers)

  writes_noted : SeesWrites noted (so_far noted (i + 1))
  writes_noted = subst (SeesWrites noted) (sym front_next) (writes_same old noted (so_far old i ++ line.Merge n k d v ∷ []) (record { views = λ l y e. (y, sym (views_same l) ∙ e, refl) })
      (writes_left old (so_far old i) (line.Merge n k d v) (record { enters = λ l. refl; ends = λ l m t. refl; opens = λ l p m ls. refl }) c.audits.state.writes))

  stays_held : SeesStays held (so_far old i)
  stays_held = stays_same opened held (so_far old i) (nodes_same opened held (λ m. ap (λ (s : Judge). node_at s m) x.keeps.rest) (λ q. x.keeps.numbers.digests q))
      (stays_open old opened i r d x.opens x.knows.stores.records.numbered known x.rest c.audits.state.stays)

  stays_noted : SeesStays noted (so_far noted (i + 1))
  stays_noted = subst (SeesStays noted) (sym front_next) (stays_brought held noted (so_far old i) (line.Merge n k d v) n r d v refl (λ l. refl) (λ by m e y. refl)
      x.stores.records.numbered (x.keeps.numbers.digests r ∙ x.knows.stores.records.numbered.digests d r x.opens.number) x.notes stays_held)

  taken : TakesLine old noted i
  taken = record {
    lines = lines_now;
    numbers = λ e q h. ap (λ (s : Judge). record_number s.records e) x.notes.rest ∙ (x.keeps.numbers.numbers e ∙ number_kept old.records opened.records d r x.opens known.stores.records.numbered x.knows.stores.records.numbered e q h);
    views = λ l y e. (y, sym (views_same l) ∙ e, record { listed = refl; stands = λ p. record { settled = refl; untried = refl; suspects = refl; closed = λ z. z } });
    stands = stands_noted;
    covers = covers_noted;
  }

  trying : IsTrying noted (i + 1) (unparted (so_far old i) (line.Merge n k d v))
  trying = trying_next old noted i (line.Merge n k d v) c (content_line (line.Merge n k d v) refl) taken

  present : view_at noted n ≡ view n (so_far old i)
  present = present_so noted (i + 1) n lines_noted ∙ (ap (view n) front_next ∙ view-more n (so_far old i) (line.Merge n k d v))

  -- the record is tried in the node's view, and no other may part
  all_here : (o : Option ClusterKey) → o ≡ view n (so_far old i) → (l : ClusterKey) (e : List ℕ) → tried_with_present (unparted (so_far old i) (line.Merge n k d v)) o d l e ≡ true
  all_here None h l e = none (bytes_eq d e) (is_view_key (view n (so_far old i)) l) (ap (λ (o : Option ClusterKey). is_view_key o l) (sym h))
    where
      none : (a b : Bool) → b ≡ false → not (a && b) ≡ true
      none true b q = ap not q
      none false b q = refl
  all_here (Some o) h l e = both (bytes_eq d e) (is_view_key (view n (so_far old i)) l) (same_key o l) (ap (λ (o : Option ClusterKey). is_view_key o l) (sym h))
    where
      both : (a b z : Bool) → b ≡ z → (not (a && b) || (z && a)) ≡ true
      both true true z q = subst (λ (w : Bool). (false || (w && true)) ≡ true) q refl
      both true false z q = refl
      both false b z q = refl

  pub merge_takes : (after : Judge) (p : ℕ) → p ≡ partition_of d → LosesNothing (so_far old i) (line.Merge n k d v) → TriesPresent (view_at noted n) None r p noted after → KeepsKnown noted after → AcceptsLine old after i (line.Merge n k d v)
  unfolding TriesPresent
  merge_takes after p part losses tries keeps =
      let record_here : IsKnownRecord noted r p d = record { named = named; part = sym part } in
      let t : IsTrying after (i + 1) (tried_with_present (unparted (so_far old i) (line.Merge n k d v)) (view_at noted n) d) = tries (i + 1) d (unparted (so_far old i) (line.Merge n k d v)) lines_noted record_here (λ l e. absurd (no_some e)) trying in
      let tried : SeesTried after (so_far after (i + 1)) = all_tried after (i + 1) _ t (all_here (view_at noted n) present) in
      let seen : SeesLines after (i + 1) = lines_kept noted after (i + 1) keeps lines_noted in
      let lines : after.lines.now ≡ old.lines.now = ap (λ (s : Judge). s.lines.now) keeps.rest ∙ lines_now in
      record {
        lines = lines;
        fits = record { shape = c.shape; map = tt; losses = losses; replicas = joins_all after (i + 1) (so_far old i) (line.Merge n k d v) (ap (λ (s : Judge). so_far s (i + 1)) keeps.rest ∙ front_next) seen tried; joins = tt };
        sees = record {
          lines = lines;
          frame = subst (λ (ls : List Line). SeesFrame after (take (i + 1) ls)) lines seen.frame;
          stores = subst (λ (ls : List Line). SeesStores after (i + 1) ls (take (i + 1) ls)) lines seen.stores;
          tried = subst (λ (ls : List Line). SeesTried after (take (i + 1) ls)) lines tried;
          covers = t.covers;
          writes = subst (λ (ls : List Line). SeesWrites after (take (i + 1) ls)) lines_now (writes_same noted after (so_far noted (i + 1)) (writes_tried noted after keeps) writes_noted);
          stays = subst (λ (ls : List Line). SeesStays after (take (i + 1) ls)) lines_now (stays_same noted after (so_far noted (i + 1)) (stays_tried noted after keeps) stays_noted);
        };
      }

  pub merge_stops : (p : ℕ) (stop : Stop) → p ≡ partition_of d → LosesNothing (so_far old i) (line.Merge n k d v) → StopsRecord noted r p stop → StopsRightly stop (so_far old i) (line.Merge n k d v)
  unfolding StopsRecord
  merge_stops p stop part losses h =
      parted_stops (so_far old i) (so_far noted (i + 1)) (line.Merge n k d v) stop front_next c.audits.lawful.shape c.audits.lawful.settled_join c.shape tt losses
      (h (i + 1) d (unparted (so_far old i) (line.Merge n k d v)) lines_noted (record { named = named; part = sym part }) trying)

-- ---- what is asked of a merge

pub merge_declared : (old opened : Judge) (i n : ℕ) (k : ClusterKey) (d : List ℕ) (v : Version) → record opened { records = old.records } ≡ old → Comes old i (line.Merge n k d v) → has_node (nodes (take i opened.lines.now)) n ≡ true
unfolding named_nodes
merge_declared old opened i n k d v rest c =
    ap (λ (s : Judge). has_node (nodes (take i s.lines.now)) n) rest
    ∙ (ap (λ (ns : List ℕ). has_node ns n) (sym (nodes_stay (so_far old i) (line.Merge n k d v) refl))
    ∙ and_left (has_node (nodes (so_far old i ++ line.Merge n k d v ∷ [])) n) true c.shape.named)

pub merge_keeps : (old opened : Judge) (i n r : ℕ) (k : ClusterKey) (d : List ℕ) (v : Version) (b : Bool) → Opens old.records opened.records d r → record opened { records = old.records } ≡ old → Knows opened i → Comes old i (line.Merge n k d v)
    → ((a m : ℕ) (l : ClusterKey) (e : List ℕ) (w : Version) → Knows opened a → record_digest opened.records r ≡ Some e → placed_version opened.lines.now i ≡ Some w → IsTrue b ↔ LosesNothing (take a opened.lines.now) (line.Merge m l e w))
    → IsTrue b ↔ LosesNothing (so_far old i) (line.Merge n k d v)
merge_keeps old opened i n r k d v b opens rest knows c fits =
    let lines : opened.lines.now ≡ old.lines.now = ap (λ (s : Judge). s.lines.now) rest in
    subst (λ (ls : List Line). IsTrue b ↔ LosesNothing (take i ls) (line.Merge n k d v)) lines
    (fits i n k d v knows (knows.stores.records.numbered.digests d r opens.number) (ap (λ (ls : List Line). option_and_then brought_version (slice_get ls i)) lines ∙ ap (option_and_then brought_version) c.stands))

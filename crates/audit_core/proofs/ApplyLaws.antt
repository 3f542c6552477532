-- A line by which a node applies a write.
use Rattle.std.proofs.Common.{◌≡◌, ℕ, ◌==◌, ◌+◌, ◌<◌, ◌-◌, ◌^◌, Bool, true, false, not, ◌&&◌, ◌||◌}
use Rattle.std.proofs.Common.{cond, List, [], ◌∷◌, ◌++◌, Option, Some, None, ◌↔◌, refl, sym, ap}
use Rattle.std.proofs.Common.{ap₂, subst, ◌∙◌, arith}
use Rattle.std.specs.Prelude.{take, is_some, slice_get, IsTrue, option_and_then, bytes_eq}
use Rattle.std.specs.Prelude.{nat_eq}
use Rattle.std.specs.HashMap as hash
use Rattle.std.specs.List.{list_any}
use Rattle.conflict_order.specs.declared.policy.Policy.{Policy}
use Rattle.conflict_order.specs.declared.version.Version.{Version}
use Rattle.conflict_order.specs.Next.{next}
use Rattle.cluster_types.specs.ClusterKeys.{is_view_key}
use Rattle.cluster_types.specs.declared.cluster_key.ClusterKey.{ClusterKey}
use Rattle.cluster_types.specs.Partitions.{partition_of}
use Rattle.partition_lists.specs.Classes.{is_that}
use Rattle.partition_lists.specs.Lists.{list}
use Rattle.journal_lines.specs.declared.line.Line.{Line}
use Rattle.journal_lines.specs.declared.line.Line.TheVariants as line
use Rattle.journal_readings.specs.Claims.{JoinsView}
use Rattle.journal_readings.specs.Entries.{fold_of}
use Rattle.journal_readings.specs.Lines.{same_key, has_node}
use Rattle.journal_readings.specs.Settings.{policy_of, nodes, clock_of}
use Rattle.journal_readings.specs.Settled.{is_open_write}
use Rattle.journal_readings.specs.Shape.{Shape, named_nodes}
use Rattle.journal_readings.specs.Views.{view, master}
use Rattle.journal_readings.proofs.AlongLaws.{no_some, some_same}
use Rattle.journal_readings.proofs.CopyLaws.{same_digest_itself}
use Rattle.journal_readings.proofs.Fronts.{and_left, same_key_is}
use Rattle.journal_readings.proofs.StepLaws.{view-more}
use Rattle.audit_laws.specs.Fits.{JoinsReplicas, enters_key}
use Rattle.audit_laws.proofs.Headers.{policy_stays, nodes_stay}
use Rattle.audit_laws.proofs.MapSteps.{entered_key}
use Rattle.audit_laws.proofs.ShapeSteps.{same_key_itself}
use Rattle.audit_laws.proofs.Steps.{shape_step}
use Rattle.audit_laws.proofs.Tests.{differ}
use Rattle.audit_core.specs.declared.judge.Judge.{Judge}
use Rattle.audit_laws.specs.declared.law.Law.TheVariants as law
use Rattle.audit_core.specs.declared.verdict.Stop.{Stop}
use Rattle.audit_core.specs.declared.verdict.Stop.TheVariants as stop
use Rattle.audit_state.specs.declared.nodes.Node.{Node}
use Rattle.audit_state.specs.declared.views.View.{View}
use Rattle.audit_state.specs.OpenWrites.{done_in, opened_stand, open_in}
use Rattle.audit_state.specs.OpenWrites.{OpensWrite}
use Rattle.audit_state.specs.Keys.{pair_eq}
use Rattle.audit_state.specs.Places.{placed, placed_version, brought_version}
use Rattle.audit_state.specs.Records.{record_number, record_digest, Opens}
use Rattle.audit_state.specs.Views.{SameEntries}
use Rattle.audit_state.specs.Written.{Stand, WritesRecord, stand_of, written_of}
use Rattle.audit_core.specs.Audits.{Comes, AcceptsLine, so_far}
use Rattle.audit_core.specs.Bringing.{AppliesWrite, WritesHere}
use Rattle.audit_core.specs.Covering.{SeesCovers}
use Rattle.audit_core.specs.Folds.{KnowsView, clock_at, clock_in}
use Rattle.audit_core.specs.Frames.{Both, SameStand, KeepsFrame}
use Rattle.audit_core.specs.Known.{node_at, view_at, kept_view}
use Rattle.audit_core.specs.Sees.{SeesFrame, SeesStand, SeesWrites, SeesStays, SeesTried}
use Rattle.audit_core.specs.Sees.{SeesView}
use Rattle.audit_core.specs.Settling.{TakesMasterWrite, stand_from, stand_at, master_from}
use Rattle.audit_core.specs.Settling.{is_master_in}
use Rattle.audit_core.specs.Steps.{ChangesNode, HasChanged}
use Rattle.audit_core.specs.Stored.{Knows, SeesContents, SeesStores, IsRecordOf}
use Rattle.audit_core.specs.Trying.{SeesLines, SeesStands, IsKnownRecord, IsTrying, KeepsKnown}
use Rattle.audit_core.specs.Trying.{TriesRecord, TriesPresent, StopsRecord, tried_with_record}
use Rattle.audit_core.specs.Trying.{tried_with_present}
use Rattle.audit_core.specs.Verdicts.{BreaksFirst, StopsRightly}
use Rattle.audit_core.proofs.BoundLaws.{present_so, master_so, unlisted}
use Rattle.audit_core.proofs.MergeLaws.{covers_open, covers_next}
use Rattle.audit_core.proofs.OpenLaws.{number_kept, digest_kept}
use Rattle.audit_core.proofs.OpenWriteLaws.{writes_same, writes_tried}
use Rattle.audit_core.proofs.OpenedLaws.{is_opened, is_done_from, OpensHere, TakenFrom, TakeViews}
use Rattle.audit_core.proofs.OpenedLaws.{OpensFrom, both_before, stand_opened, writes_opened}
use Rattle.audit_core.proofs.OpenedLaws.{opens_rest, opens_view, opens_now, open_room}
use Rattle.audit_core.proofs.PartedLaws.{all_tried, joins_all, parted_stops}
use Rattle.audit_core.proofs.PassLaws.{frame_next, known_stores, known_view, moved_stores}
use Rattle.audit_core.proofs.StayLaws.{stays_same, nodes_same, stays_tried, stays_open}
use Rattle.audit_core.proofs.StayLaws.{stays_brought}
use Rattle.audit_core.proofs.TryLaws.{lines_kept, record_kept, keeps_then}
use Rattle.audit_core.proofs.UntriedLaws.{content_line, KeepsDoubts, TakesLine, unparted}
use Rattle.audit_core.proofs.UntriedLaws.{trying_next}
use Rattle.audit_core.proofs.VerdictLaws.{taken_next}
use Rattle.audit_core.proofs.WholeLaws.{length_taken}
use Rattle.audit_core.proofs.WordLaws.{quiet_line, keeps_next, changed_nodes, same_entries}

-- ---- views of which more is written

entries_then : (a b c : View) → SameEntries a b → SameEntries b c → SameEntries a c
entries_then a b c h q = record {
  key = q.key ∙ h.key;
  members = q.members ∙ h.members;
  ranks = q.ranks ∙ h.ranks;
  entered = q.entered ∙ h.entered;
  exchanged = q.exchanged ∙ h.exchanged;
}

-- where each view that is known was known, and the other way round
both_known : (o q : Option View) → ((y : View) → q ≡ Some y → (x : View) × (o ≡ Some x)
    × SameEntries x y) → ((x : View) → o ≡ Some x → is_some q ≡ true) → Both SameEntries o q
both_known None None f g = tt
both_known (Some a) (Some b) f g = let x : (x : View) × (Some a ≡ Some x) × SameEntries x b =
    f b refl in subst (λ (z : View). SameEntries z b) (sym (some_same x.1)) x.2
both_known None (Some b) f g = let x : (x : View) × (None ≡ Some x) × SameEntries x b = f b refl in
    absurd (no_some x.1)
both_known (Some a) None f g = differ (g a refl) refl

-- a view as it was before the write, which has the same entries, stands and open writes
record WroteHere (old new : View) : Type 0 where
  pub entries : SameEntries old new
  pub stands : (q : ℕ) → stand_of new q ≡ stand_of old q
  pub settled : new.settled ≡ old.settled
  pub writes : new.writes ≡ old.writes

-- the version at the line is written in the view
abbrev WritesIn : Judge → ℕ → ℕ → List ℕ → View → View → Type 0
WritesIn s i r d = WritesRecord s.by s.lines.now i r (partition_of d)

wrote_itself : (x : View) → WroteHere x x
wrote_itself x = record {
  entries = same_entries (Some x);
  stands = λ q. refl;
  settled = refl;
  writes = refl;
}

opened_entries : (b : Bool) (n t p : ℕ) (x y : View) → OpensHere b n t p x y → SameEntries x y
opened_entries b n t p x y h = record {
  key = ap (λ (z : View). z.key) h.rest;
  members = ap (λ (z : View). z.members) h.rest;
  ranks = ap (λ (z : View). z.ranks) h.rest;
  entered = ap (λ (z : View). z.entered.items) h.rest;
  exchanged = ap (λ (z : View). z.exchanged.items) h.rest;
}

-- what was written stays as a write is opened
opened_stores : (s new : Judge) (i : ℕ) (all j : List Line) (b : ClusterKey → Bool) (n t p : ℕ)
    → record new { views = s.views } ≡ s
    → ((l : ClusterKey) (y : View) → kept_view new l ≡ Some y → (x : View)
    × (kept_view s l ≡ Some x)
    × OpensHere (b l) n t p x y) → SeesStores s i all j → SeesStores new i all j
opened_stores s new i all j b n t p rest views h =
    let moved : SeesStores (record new { views = s.views }) i all j =
    subst (λ (z : Judge). SeesStores z i all j) (sym rest) h in
    record {
      records = record {
        numbered = moved.records.numbered;
        unbrought = moved.records.unbrought;
        newest = moved.records.newest;
        holders = moved.records.holders;
      };
      contents = moved.contents;
      copies = moved.copies;
      written = record {
        applied = λ l y q e. let w : (x : View) × (kept_view s l ≡ Some x)
            × OpensHere (b l) n t p x y = views l y e in
            ap (λ (z : View). placed all (hash.get nat_eq z.applied q)) w.2.rest
            ∙ moved.written.applied l w.0 q w.1;
        written = λ l y q e. let w : (x : View) × (kept_view s l ≡ Some x)
            × OpensHere (b l) n t p x y = views l y e in
            ap (λ (z : View). has_node z.written.items q) w.2.rest
            ∙ (moved.written.written l w.0 q w.1 ∙ sym (ap
            (λ (z : View). is_some (hash.get nat_eq z.applied q)) w.2.rest));
        listed = λ l y q e some. let w : (x : View) × (kept_view s l ≡ Some x)
            × OpensHere (b l) n t p x y = views l y e in
            let u : (u : ℕ) × IsRecordOf new.records q u × (has_node (written_of w.0 u) q ≡ true) =
            moved.written.listed l w.0 q w.1 (sym (ap
            (λ (z : View). is_some (hash.get nat_eq z.applied q)) w.2.rest) ∙ some) in
            (u.0, u.1, ap (λ (ns : List ℕ). has_node ns q) (w.2.written u.0) ∙ u.2);
        listed_only = λ l y u q e has. let w : (x : View) × (kept_view s l ≡ Some x)
            × OpensHere (b l) n t p x y = views l y e in
            moved.written.listed_only l w.0 u q w.1
            (sym (ap (λ (ns : List ℕ). has_node ns q) (w.2.written u)) ∙ has);
      };
    }

-- the stand keeps its doubts, and no write ended
doubts_open : (b : Bool) (x : Stand) → KeepsDoubts x (cond b (opened_stand x) x)
doubts_open true x = record {
  settled = refl;
  untried = refl;
  suspects = refl;
  closed = λ e. absurd (omega (arith, e));
}
doubts_open false x = record { settled = refl; untried = refl; suspects = refl; closed = λ e. e }

-- ---- what a write makes

-- the record is opened, the version comes to the node and the view, the change is noted, and the
-- write is open
pub record Applies (old opened held noted written : Judge) (i n r t p : ℕ) (k : ClusterKey)
    (d : List ℕ) : Type 0 where
  pub opens : Opens old.records opened.records d r
  pub rest : record opened { records = old.records } ≡ old
  pub knows : Knows opened i
  pub stores : SeesStores held (i + 1) opened.lines.now (take (i + 1) opened.lines.now)
  pub keeps : AppliesWrite opened held i r (partition_of d) k
  pub notes : ChangesNode (HasChanged r) n held noted
  pub takes : TakesMasterWrite k n t p noted written

module _ (old opened held noted written : Judge) (i n r t p : ℕ) (k : ClusterKey) (d : List ℕ)
    (v : Version) (c : Comes old i (line.Apply n k t d v)) (part : p ≡ partition_of d)
    (x : Applies old opened held noted written i n r t p k d) where
  abbrev front : List Line
  front = so_far old i

  abbrev it : Line
  it = line.Apply n k t d v

  -- whether the write is open, by what was known
  abbrev opens_known : Bool
  opens_known = opens_now k n t p noted written x.takes

  -- ... by the lines, in this view
  abbrev opens_in : ClusterKey → Bool
  opens_in l = same_key k l && is_opened front n t p k

  written_rest : record written { views = noted.views } ≡ noted
  written_rest = opens_rest k n t p noted written x.takes

  lines_same : written.lines ≡ old.lines
  lines_same = ap (λ (s : Judge). s.lines) written_rest
      ∙ (ap (λ (s : Judge). s.lines) x.notes.rest
      ∙ (ap (λ (s : Judge). s.lines) x.keeps.rest ∙ ap (λ (s : Judge). s.lines) x.rest))

  lines_now : written.lines.now ≡ old.lines.now
  lines_now = ap (λ (s : Judge). s.lines.now) written_rest
      ∙ (ap (λ (s : Judge). s.lines.now) x.notes.rest
      ∙ (ap (λ (s : Judge). s.lines.now) x.keeps.rest ∙ ap (λ (s : Judge). s.lines.now) x.rest))

  opened_lines : opened.lines.now ≡ old.lines.now
  opened_lines = ap (λ (s : Judge). s.lines.now) x.rest

  front_next : so_far written (i + 1) ≡ front ++ it ∷ []
  front_next = ap (take (i + 1)) lines_now ∙ taken_next old.lines.now i it c.stands

  known : Knows old i
  known = known_stores old i c.audits

  known_lines : SeesLines old i
  known_lines = record {
    shape = c.audits.lawful.shape;
    frame = c.audits.state.frame;
    stores = c.audits.state.stores;
  }

  -- ---- views

  noted_view : (l : ClusterKey) → kept_view noted l ≡ kept_view held l
  noted_view l = ap (λ (s : Judge). kept_view s l) x.notes.rest

  opened_view : (l : ClusterKey) → kept_view opened l ≡ kept_view old l
  opened_view l = ap (λ (s : Judge). kept_view s l) x.rest

  wrote : (l : ClusterKey) (z : View) → kept_view noted l ≡ Some z → (y : View)
      × (kept_view old l ≡ Some y) × WroteHere y z
  wrote l z there = go (same_key k l) refl
    where
      go : (b : Bool) → same_key k l ≡ b → (y : View) × (kept_view old l ≡ Some y) × WroteHere y z
      go false e = (
        z,
        sym (noted_view l ∙ (x.keeps.others l e ∙ opened_view l))
            ∙ there,
        wrote_itself z,
      )
      go true e =
          let w : (y : View) × (kept_view opened k ≡ Some y) × WritesIn opened i r d y z =
          both_before (WritesIn opened i r d) (kept_view opened k) (kept_view held k) z x.keeps.here
          (ap (kept_view held) (same_key_is k l e) ∙ (sym (noted_view l) ∙ there)) in (
            w.0,
            ap (kept_view old) (sym (same_key_is k l e))
                ∙ (sym (opened_view k) ∙ w.1),
            record {
              entries = w.2.entries;
              stands = w.2.stands;
              settled = w.2.settled;
              writes = w.2.writes;
            },
          )

  entered : list_any (enters_key k) front ≡ true
  entered = entered_key k n front c.shape.in_view

  -- the node is the list master as the lines say
  first_so : (y : View) → kept_view old k ≡ Some y
      → is_master_in (Some y) n p ≡ (master k p front == n)
  first_so y there = go (master_from (kept_view old k) p) refl
    where
      go : (o : Option ℕ) → master_from (kept_view old k) p ≡ o
          → is_master_in (Some y) n p ≡ (master k p front == n)
      go None e = absurd (unlisted old i k p known_lines e entered)
      go (Some m) e = ap (λ (o : Option View). is_that (master_from o p) n) (sym there)
          ∙ (ap (λ (o : Option ℕ). is_that o n) e
          ∙ ap (λ (z : ℕ). z == n) (sym (master_so old i k p m known_lines e)))

  opens_so : (z : View) → kept_view noted k ≡ Some z → opens_known ≡ is_opened front n t p k
  opens_so z there =
      let w : (y : View) × (kept_view old k ≡ Some y) × WroteHere y z = wrote k z there in
      ap (λ (o : Option View). is_master_in o n p && not (is_done_from o n t)) there
      ∙ ap₂ (λ (a b : Bool). a && not b)
      (ap (λ (ms : _). is_that (slice_get (list ms p) 0) n) w.2.entries.ranks ∙ first_so w.0 w.1)
      (ap (λ (m : _). done_in (hash.get pair_eq m (n, t))) w.2.writes
      ∙ c.audits.state.writes.done k w.0 n t w.1)

  -- a view that is known was known, and the line's write is one more
  record ViewBefore (l : ClusterKey) (y : View) : Type 0 where
    pub between : View
    pub there : kept_view noted l ≡ Some between
    pub opens : OpensHere (opens_in l) n t p between y
    pub was : View
    pub known : kept_view old l ≡ Some was
    pub wrote : WroteHere was between

  view_before : (l : ClusterKey) (y : View) → kept_view written l ≡ Some y → ViewBefore l y
  view_before l y there =
      let z : OpensFrom k n t p noted written x.takes l y =
      opens_view k n t p noted written x.takes l y there in
      let w : (w : View) × (kept_view old l ≡ Some w) × WroteHere w z.0 = wrote l z.0 z.1 in
      record {
        between = z.0;
        there = z.1;
        opens = subst (λ (b : Bool). OpensHere b n t p z.0 y) (same (same_key k l) refl z.0 z.1)
            z.2;
        was = w.0;
        known = w.1;
        wrote = w.2;
      }
    where
      same : (b : Bool) → same_key k l ≡ b → (z : View) → kept_view noted l ≡ Some z
          → (same_key k l && opens_known) ≡ opens_in l
      same false e z f = ap (λ (b : Bool). b && opens_known) e
          ∙ sym (ap (λ (b : Bool). b && is_opened front n t p k) e)
      same true e z f = ap (λ (b : Bool). same_key k l && b)
          (opens_so z (ap (kept_view noted) (same_key_is k l e) ∙ f))

  abbrev TakenHere : ClusterKey → View → Type 0
  TakenHere l y = TakenFrom front n t p k d v part old l y

  take_views : TakeViews front n t p k d v part old written
  take_views l y there =
      let b : ViewBefore l y = view_before l y there in (
        b.was,
        b.known,
        record {
          stands = λ q. b.opens.takes.stands q ∙ ap (λ (z : Stand). cond (opens_in l && (p == q))
              (opened_stand z) z) (b.wrote.stands q);
          lists = λ m u. b.opens.takes.lists m u ∙ ap (λ (ps : List ℕ). cond
              (opens_in l && pair_eq (n, t) (m, u)) (ps ++ p ∷ []) ps)
              (ap (λ (w : _). open_in (hash.get pair_eq w (m, u))) b.wrote.writes);
          done = λ m u. b.opens.takes.done m u ∙ ap (λ (w : _). done_in
              (hash.get pair_eq w (m, u))) b.wrote.writes;
          settled = b.opens.takes.settled ∙ ap (λ (w : _). w.items) b.wrote.settled;
        },
      )

  view_there : (l : ClusterKey) (y : View) → kept_view old l ≡ Some y
      → is_some (kept_view written l) ≡ true
  view_there l y there = go (kept_view written l) refl
    where
      held_there : is_some (kept_view noted l) ≡ true
      held_there = ap is_some (noted_view l) ∙ at (same_key k l) refl
        where
          both_there : (o q : Option View) → Both (WritesIn opened i r d) o q
              → is_some q ≡ is_some o
          both_there None None h = refl
          both_there (Some a) (Some b) h = refl
          both_there None (Some b) h = absurd h
          both_there (Some a) None h = absurd h

          at : (b : Bool) → same_key k l ≡ b → is_some (kept_view held l) ≡ true
          at false e = ap is_some (x.keeps.others l e ∙ (opened_view l ∙ there))
          at true e =
              ap (λ (z : ClusterKey). is_some (kept_view held z)) (sym (same_key_is k l e))
              ∙ (both_there (kept_view opened k) (kept_view held k) x.keeps.here
              ∙ (ap is_some (opened_view k) ∙ (ap (λ (z : ClusterKey). is_some (kept_view old z))
              (same_key_is k l e) ∙ ap is_some there)))

      go : (o : Option View) → kept_view written l ≡ o → is_some (kept_view written l) ≡ true
      go (Some y) e = ap is_some e
      go None e = differ held_there (kept (is_master_in (kept_view noted k) n p) refl)
        where
          opened_there : (o q : Option View) → Both (OpensWrite n t p) o q → is_some o ≡ is_some q
          opened_there None None h = refl
          opened_there (Some a) (Some b) h = refl
          opened_there None (Some b) h = absurd h
          opened_there (Some a) None h = absurd h

          kept : (b : Bool) → is_master_in (kept_view noted k) n p ≡ b
              → is_some (kept_view noted l) ≡ false
          kept false f = ap is_some (sym (ap (λ (s : Judge). kept_view s l) (x.takes.passed f)) ∙ e)
          kept true f = at (same_key k l) refl
            where
              at : (b : Bool) → same_key k l ≡ b → is_some (kept_view noted l) ≡ false
              at false g = ap is_some (sym ((x.takes.opened f).others l g) ∙ e)
              at true g =
                  ap (λ (z : ClusterKey). is_some (kept_view noted z)) (sym (same_key_is k l g))
                  ∙ (opened_there (kept_view noted k) (kept_view written k) (x.takes.opened f).here
                  ∙ (ap (λ (z : ClusterKey). is_some (kept_view written z)) (same_key_is k l g)
                  ∙ ap is_some e))

  -- ---- what is known of the lines

  records_same : (q : ℕ) → record_digest written.records q ≡ record_digest opened.records q
  records_same q = ap (λ (s : Judge). record_digest s.records q) written_rest
      ∙ (ap (λ (s : Judge). record_digest s.records q) x.notes.rest ∙ x.keeps.numbers.digests q)

  named : record_digest written.records r ≡ Some d
  named = records_same r ∙ x.knows.stores.records.numbered.digests d r x.opens.number

  frame_kept : KeepsFrame old written
  frame_kept = record {
    lines = lines_same;
    policy = ap (λ (s : Judge). s.by) written_rest
        ∙ (ap (λ (s : Judge). s.by) x.notes.rest
        ∙ (ap (λ (s : Judge). s.by) x.keeps.rest ∙ ap (λ (s : Judge). s.by) x.rest));
    factor = ap (λ (s : Judge). s.factor) written_rest
        ∙ (ap (λ (s : Judge). s.factor) x.notes.rest
        ∙ (ap (λ (s : Judge). s.factor) x.keeps.rest ∙ ap (λ (s : Judge). s.factor) x.rest));
    begun = ap (λ (s : Judge). s.begun) written_rest
        ∙ (ap (λ (s : Judge). s.begun) x.notes.rest
        ∙ (ap (λ (s : Judge). s.begun) x.keeps.rest ∙ ap (λ (s : Judge). s.begun) x.rest));
    nodes = λ m. subst (λ (o : Option Node). Both SameStand o (node_at written m))
        (ap (λ (s : Judge). node_at s m) x.keeps.rest ∙ ap (λ (s : Judge). node_at s m) x.rest)
        (subst (λ (o : Option Node). Both SameStand (node_at held m) o)
        (sym (ap (λ (s : Judge). node_at s m) written_rest))
        (changed_nodes (HasChanged r) n held noted x.notes (λ y. SameStand) (λ a b h. h.same)
        (λ y a e. record { view = refl; clock = refl; exchanged = refl }) m));
    views = λ l. both_known (kept_view old l) (kept_view written l)
        (λ y there. let b : ViewBefore l y = view_before l y there in (
          b.was,
          b.known,
          entries_then b.was b.between y b.wrote.entries
              (opened_entries (opens_in l) n t p b.between y b.opens),
        ))
        (view_there l);
    stamps = ap (λ (s : Judge). s.stamps) written_rest
        ∙ (ap (λ (s : Judge). s.stamps) x.notes.rest
        ∙ (ap (λ (s : Judge). s.stamps) x.keeps.rest ∙ ap (λ (s : Judge). s.stamps) x.rest));
  }

  stores_written : SeesStores written (i + 1) opened.lines.now (take (i + 1) opened.lines.now)
  stores_written = opened_stores noted written (i + 1) opened.lines.now
      (take (i + 1) opened.lines.now) (λ l. same_key k l && opens_known) n t p written_rest
      (opens_view k n t p noted written x.takes)
      (moved_stores held noted (i + 1) opened.lines.now (take (i + 1) opened.lines.now)
      (subst (λ (s : Judge). SeesStores s (i + 1) opened.lines.now (take (i + 1) opened.lines.now))
      (sym x.notes.rest) x.stores))

  lines_written : SeesLines written (i + 1)
  lines_written = record {
    shape = subst Shape (sym front_next) ((shape_step front it).1 (c.audits.lawful.shape, c.shape));
    frame = subst (λ (ls : List Line). SeesFrame written (take (i + 1) ls)) (sym lines_now)
        (frame_next old written i it c (keeps_next i it old written (quiet_line it refl)
        frame_kept));
    stores = subst (λ (ls : List Line). SeesStores written (i + 1) ls (take (i + 1) ls))
        (opened_lines ∙ sym lines_now) stores_written;
  }

  stands_written : SeesStands written (i + 1)
  stands_written = λ l q y e.
      let w : TakenHere l y = take_views l y e in
      subst (λ (ls : List Line). SeesStand ls l q (stand_of y q)) (sym front_next)
      (stand_opened front n t p k d v part l q (stand_of w.0 q) (stand_of y q) (w.2.stands q)
      (c.audits.state.tried.stands l q w.0 w.1))

  policy_next : policy_of (take (i + 1) opened.lines.now) ≡ policy_of (take i opened.lines.now)
  policy_next = ap (λ (ls : List Line). policy_of (take (i + 1) ls)) opened_lines
      ∙ (ap policy_of (taken_next old.lines.now i it c.stands)
      ∙ (policy_stays front it refl
      ∙ ap (λ (ls : List Line). policy_of (take i ls)) (sym opened_lines)))

  covers_written : SeesCovers written (i + 1)
  covers_written = covers_next opened written i (policy_of (take i opened.lines.now))
      (ap (λ (s : Judge). s.by) written_rest ∙ (ap (λ (s : Judge). s.by) x.notes.rest
      ∙ ap (λ (s : Judge). s.by) x.keeps.rest))
      (ap (λ (s : Judge). s.lines) written_rest
      ∙ (ap (λ (s : Judge). s.lines) x.notes.rest ∙ ap (λ (s : Judge). s.lines) x.keeps.rest))
      (ap (λ (s : Judge). s.covers) written_rest
      ∙ (ap (λ (s : Judge). s.covers) x.notes.rest ∙ ap (λ (s : Judge). s.covers) x.keeps.rest))
      records_same
      x.knows.stores.contents
      (subst (λ (by : Policy). SeesContents written.stores written.records opened.lines.now by
      (i + 1)) policy_next stores_written.contents)
      (covers_open old opened i (ap (λ (s : Judge). s.stores) x.rest)
      (ap (λ (s : Judge). s.by) x.rest) (ap (λ (s : Judge). s.lines) x.rest)
      (ap (λ (s : Judge). s.covers) x.rest)
      known.stores.contents.fresh
      (digest_kept old.records opened.records d r x.opens known.stores.records.numbered
      x.knows.stores.records.numbered)
      c.audits.state.covers)

  writes_written : SeesWrites written (so_far written (i + 1))
  writes_written = subst (SeesWrites written) (sym front_next)
      (writes_opened front n t p k d v part old written take_views c.audits.state.writes)

  stays_held : SeesStays held front
  stays_held = stays_same opened held front
      (nodes_same opened held (λ m. ap (λ (s : Judge). node_at s m) x.keeps.rest)
      (λ q. x.keeps.numbers.digests q))
      (stays_open old opened i r d x.opens x.knows.stores.records.numbered known x.rest
      c.audits.state.stays)

  stays_written : SeesStays written (so_far written (i + 1))
  stays_written = subst (SeesStays written) (sym front_next)
      (stays_same noted written (front ++ it ∷ [])
      (nodes_same noted written (λ m. ap (λ (s : Judge). node_at s m) written_rest)
      (λ q. ap (λ (s : Judge). record_digest s.records q) written_rest))
      (stays_brought held noted front it n r d v refl (λ l. refl) (λ by m e y. refl)
      x.stores.records.numbered (x.keeps.numbers.digests r
      ∙ x.knows.stores.records.numbered.digests d r x.opens.number) x.notes stays_held))

  -- ---- what is to be tried

  taken : TakesLine old written i
  taken = record {
    lines = lines_now;
    numbers = λ e q h. ap (λ (s : Judge). record_number s.records e) written_rest
        ∙ (ap (λ (s : Judge). record_number s.records e) x.notes.rest
        ∙ (x.keeps.numbers.numbers e ∙ number_kept old.records opened.records d r x.opens
        known.stores.records.numbered x.knows.stores.records.numbered e q h));
    views = λ l y e. let w : TakenHere l y = take_views l y e in (
      w.0,
      w.1,
      record {
        listed = w.2.settled;
        stands = λ q. subst (KeepsDoubts (stand_of w.0 q)) (sym (w.2.stands q))
            (doubts_open (opens_in l && (p == q)) (stand_of w.0 q));
      },
    );
    stands = stands_written;
    covers = covers_written;
  }

  trying : IsTrying written (i + 1) (unparted front it)
  trying = trying_next old written i it c (content_line it refl) taken

  record_here : IsKnownRecord written r p d
  record_here = record { named = named; part = sym part }

  present : (s : Judge) → SeesLines s (i + 1) → so_far s (i + 1) ≡ front ++ it ∷ []
      → view_at s n ≡ view n front
  present s h e = present_so s (i + 1) n h ∙ (ap (view n) e ∙ view-more n front it)

  -- the record is tried in the view and in the node's, and no other may part
  all_here : (o : Option ClusterKey) → o ≡ view n front → (l : ClusterKey) (e : List ℕ)
      → tried_with_present (tried_with_record (unparted front it) k d) o d l e ≡ true
  all_here None h l e = none (bytes_eq d e) (same_key k l) (is_view_key (view n front) l)
      (ap (λ (o : Option ClusterKey). is_view_key o l) (sym h))
    where
      none : (a b z : Bool) → z ≡ false → (not (a && (b || z)) || (b && a)) ≡ true
      none true true z q = refl
      none true false z q = ap (λ (w : Bool). not w || false) q
      none false b z q = refl
  all_here (Some o) h l e = both (bytes_eq d e) (same_key k l) (is_view_key (view n front) l)
      (same_key o l) (ap (λ (o : Option ClusterKey). is_view_key o l) (sym h))
    where
      both : (a b z w : Bool) → z ≡ w → ((not (a && (b || z)) || (b && a)) || (w && a)) ≡ true
      both true true z w q = refl
      both true false true w q = subst (λ (y : Bool). (false || (y && true)) ≡ true) q refl
      both true false false w q = refl
      both false b z w q = refl

  -- ---- it is tried in the view of the line

  pub apply_stops : (stop : Stop) → StopsRecord written r p stop → StopsRightly stop front it
  unfolding StopsRecord
  apply_stops stop h =
      parted_stops front (so_far written (i + 1)) it stop front_next c.audits.lawful.shape
      c.audits.lawful.settled_join c.shape tt tt
      (h (i + 1) d (unparted front it) lines_written record_here trying)

  module _ (touched : Judge) (tries : TriesRecord k r p written touched)
      (keeps : KeepsKnown written touched) where
    front_touched : so_far touched (i + 1) ≡ front ++ it ∷ []
    front_touched = ap (λ (s : Judge). so_far s (i + 1)) keeps.rest ∙ front_next

    lines_touched : SeesLines touched (i + 1)
    lines_touched = lines_kept written touched (i + 1) keeps lines_written

    record_touched : IsKnownRecord touched r p d
    record_touched = record_kept written touched r p d keeps record_here

    trying_touched : IsTrying touched (i + 1) (tried_with_record (unparted front it) k d)
    unfolding TriesRecord
    trying_touched = tries (i + 1) d (unparted front it) lines_written record_here trying

    -- ---- and in the node's

    pub apply_stops_at : (stop : Stop) → StopsRecord touched r p stop → StopsRightly stop front it
    unfolding StopsRecord
    apply_stops_at stop h =
        parted_stops front (so_far touched (i + 1)) it stop front_touched c.audits.lawful.shape
        c.audits.lawful.settled_join c.shape tt tt
        (h (i + 1) d (tried_with_record (unparted front it) k d) lines_touched record_touched
        trying_touched)

    module _ (after : Judge) (tries_at : TriesPresent (view_at touched n) (Some k) r p touched
        after) (keeps_at : KeepsKnown touched after) where
      trying_after : IsTrying after (i + 1) (tried_with_present
          (tried_with_record (unparted front it) k d)
          (view_at touched n) d)
      unfolding TriesPresent
      trying_after = tries_at (i + 1) d (tried_with_record (unparted front it) k d) lines_touched
          record_touched
          (λ l e. tried_there l (some_same e)) trying_touched
        where
          tried_there : (l : ClusterKey) → k ≡ l
              → tried_with_record (unparted front it) k d l d ≡ true
          tried_there l e = go (bytes_eq d d) (same_digest_itself d) (same_key k l)
              (subst (λ (z : ClusterKey). same_key k z ≡ true) e (same_key_itself k))
            where
              go : (a : Bool) → a ≡ true → (b : Bool) → b ≡ true
                  → (not (a && (b || is_view_key (view n front) l)) || (b && a)) ≡ true
              go true f true g = refl
              go false f b g = refl
              go true f false g = differ g refl

      tried_after : SeesTried after (so_far after (i + 1))
      tried_after = all_tried after (i + 1) _ trying_after
          (all_here (view_at touched n) (present touched lines_touched front_touched))

      keeps_both : KeepsKnown written after
      keeps_both = keeps_then written touched after keeps keeps_at

      lines_after : after.lines.now ≡ old.lines.now
      lines_after = ap (λ (s : Judge). s.lines.now) keeps_both.rest ∙ lines_now

      seen_after : SeesLines after (i + 1)
      seen_after = lines_kept written after (i + 1) keeps_both lines_written

      replicas : JoinsReplicas front it
      replicas = joins_all after (i + 1) front it
          (ap (λ (s : Judge). so_far s (i + 1)) keeps_both.rest ∙ front_next) seen_after tried_after

      pub apply_takes : JoinsView front front it → AcceptsLine old after i it
      apply_takes joins = record {
        lines = lines_after;
        fits = record {
          shape = c.shape;
          map = tt;
          losses = tt;
          replicas = replicas;
          joins = joins;
        };
        sees = record {
          lines = lines_after;
          frame = subst (λ (ls : List Line). SeesFrame after (take (i + 1) ls)) lines_after
              seen_after.frame;
          stores = subst (λ (ls : List Line). SeesStores after (i + 1) ls (take (i + 1) ls))
              lines_after seen_after.stores;
          tried = subst (λ (ls : List Line). SeesTried after (take (i + 1) ls)) lines_after
              tried_after;
          covers = trying_after.covers;
          writes = subst (λ (ls : List Line). SeesWrites after (take (i + 1) ls)) lines_now
              (writes_same written after (so_far written (i + 1))
              (writes_tried written after keeps_both) writes_written);
          stays = subst (λ (ls : List Line). SeesStays after (take (i + 1) ls)) lines_now
              (stays_same written after (so_far written (i + 1))
              (stays_tried written after keeps_both) stays_written);
        };
      }

      -- the write isn't the next version of its view's fold
      pub apply_breaks : (s : Stop) → s ≡ stop.Breaks law.ReadJoin → (JoinsView front front it → ⊥)
          → StopsRightly s front it
      apply_breaks s is broken =
          let breaks : BreaksFirst law.ReadJoin front it =
          record { before = (c.shape, tt, tt, replicas); broken = broken } in
          subst (λ (z : Stop). StopsRightly z front it) (sym is) breaks

-- ---- what is asked of it

pub apply_declared : (old opened : Judge) (i n t : ℕ) (k : ClusterKey) (d : List ℕ) (v : Version)
    → record opened { records = old.records } ≡ old → Comes old i (line.Apply n k t d v)
    → has_node (nodes (take i opened.lines.now)) n ≡ true
unfolding named_nodes
apply_declared old opened i n t k d v rest c =
    ap (λ (s : Judge). has_node (nodes (take i s.lines.now)) n) rest
    ∙ (ap (λ (ns : List ℕ). has_node ns n) (sym
    (nodes_stay (so_far old i) (line.Apply n k t d v) refl))
    ∙ and_left (has_node (nodes (so_far old i ++ line.Apply n k t d v ∷ [])) n) true c.shape.named)

-- the line's write is one of the record
pub apply_writes : (old opened : Judge) (i n r t : ℕ) (k : ClusterKey) (d : List ℕ) (v : Version)
    → Opens old.records opened.records d r → record opened { records = old.records } ≡ old
    → Knows opened i → Comes old i (line.Apply n k t d v)
    → WritesHere opened i n r k d t v
apply_writes old opened i n r t k d v opens rest knows c = record {
  stands = ap (λ (s : Judge). slice_get s.lines.now i) rest ∙ c.stands;
  named = knows.stores.records.numbered.digests d r opens.number;
}

-- the write follows its view's fold before the line
pub apply_follows : (old opened : Judge) (i n r t : ℕ) (k : ClusterKey) (d : List ℕ) (v : Version)
    (b : Bool) → Opens old.records opened.records d r
    → record opened { records = old.records } ≡ old → Knows opened i
    → Comes old i (line.Apply n k t d v)
    → ((a : ℕ) (e : List ℕ) (w : Version) (y : View) → KnowsView opened a k y
    → record_digest opened.records r ≡ Some e → placed_version opened.lines.now i ≡ Some w
    → IsTrue b ↔ (w ≡ next (fold_of (policy_of (take a opened.lines.now)) k e
    (take a opened.lines.now)) (clock_at opened n) w.body))
    → IsTrue b ↔ JoinsView (so_far old i) (so_far old i) (line.Apply n k t d v)
apply_follows old opened i n r t k d v b opens rest knows c told = go (kept_view old k) refl
  where
    lines : opened.lines.now ≡ old.lines.now
    lines = ap (λ (s : Judge). s.lines.now) rest

    declared : has_node (nodes (so_far old i)) n ≡ true
    declared = sym (ap (λ (s : Judge). has_node (nodes (take i s.lines.now)) n) rest)
        ∙ apply_declared old opened i n t k d v rest c

    clock : clock_at opened n ≡ clock_of n (so_far old i)
    clock = ap (λ (s : Judge). clock_at s n) rest ∙ at (node_at old n) refl
      where
        at : (o : Option Node) → node_at old n ≡ o → clock_at old n ≡ clock_of n (so_far old i)
        at (Some node) e = ap clock_in e ∙ (c.audits.state.frame.nodes n node e).clock
        at None e = differ (c.audits.state.frame.header.declared n ∙ declared) (ap is_some e)

    go : (o : Option View) → kept_view old k ≡ o → IsTrue b
        ↔ JoinsView (so_far old i) (so_far old i) (line.Apply n k t d v)
    go None e = differ (known_view old i k n c.audits c.shape.in_view) (ap is_some e)
    go (Some y) e =
        subst (λ (time : ℕ). IsTrue b ↔ (v ≡ next
        (fold_of (policy_of (so_far old i)) k d (so_far old i)) time v.body)) clock
        (subst (λ (ls : List Line). IsTrue b ↔ (v ≡ next
        (fold_of (policy_of (take i ls)) k d (take i ls)) (clock_at opened n) v.body)) lines
        (told i d v y (record {
          knows = knows;
          there = ap (λ (s : Judge). kept_view s k) rest ∙ e;
          sees = subst (λ (ls : List Line). SeesView (take i ls) k y) (sym lines)
              (c.audits.state.frame.views k y e);
        }) (knows.stores.records.numbered.digests d r opens.number)
        (ap (λ (ls : List Line). option_and_then brought_version (slice_get ls i)) lines
        ∙ ap (option_and_then brought_version) c.stands)))

-- a count of open writes has room for one more
pub apply_room : (old opened held noted : Judge) (i n r t p : ℕ) (k : ClusterKey) (d : List ℕ)
    (v : Version) → Comes old i (line.Apply n k t d v)
    → record opened { records = old.records } ≡ old
    → AppliesWrite opened held i r (partition_of d) k
    → ChangesNode (HasChanged r) n held noted → i < 2 ^ 63
    → (stand_at noted k p).open_writes < 2 ^ 64 - 1
apply_room old opened held noted i n r t p k d v c rest keeps notes room =
    go (kept_view noted k) refl
  where
    go : (o : Option View) → kept_view noted k ≡ o → (stand_at noted k p).open_writes < 2 ^ 64 - 1
    go None e = let none : (stand_at noted k p).open_writes ≡ 0 =
        ap (λ (o : Option View). (stand_from o p).open_writes) e in omega (arith, none)
    go (Some z) e =
        let w : (y : View) × (kept_view opened k ≡ Some y) × WritesIn opened i r d y z =
        both_before (WritesIn opened i r d) (kept_view opened k) (kept_view held k) z keeps.here
        (sym (ap (λ (s : Judge). kept_view s k) notes.rest) ∙ e) in
        let there : kept_view old k ≡ Some w.0 = sym (ap (λ (s : Judge). kept_view s k) rest)
        ∙ w.1 in
        let same : (stand_at noted k p).open_writes ≡ (stand_of w.0 p).open_writes =
        ap (λ (o : Option View). (stand_from o p).open_writes) e
        ∙ ap (λ (x : Stand). x.open_writes) (w.2.stands p) in
        open_room i old.lines.now (is_open_write k p (master k p (so_far old i)) (so_far old i))
        (stand_at noted k p).open_writes
        (same ∙ (c.audits.state.tried.stands k p w.0 there).open_writes)
        (length_taken i old.lines.now) room

-- what is tried stops for the same reason
pub touch_stops : (s : Judge) (r p : ℕ) (e x : Stop) → e ≡ x → StopsRecord s r p x
    → StopsRecord s r p e
touch_stops s r p e x is = subst (StopsRecord s r p) (sym is)

-- Lines that are taken as they come, and what the laws ask of them.
use Rattle.std.proofs.Common.{◌≡◌, ℕ, zero, suc, ◌<◌, ◌+◌, Bool, true, false, List, [], ◌∷◌, length, Option, Some, None, ◌↔◌, refl, sym, ap, subst, ◌∙◌, arith}
use Rattle.std.specs.Prelude.{is_some, take, slice_get, IsTrue, IfErr, Result, Ok, Err}
use Rattle.conflict_order.specs.declared.version.Version.{Version}
use Rattle.cluster_types.specs.declared.cluster_key.ClusterKey.{ClusterKey}
use Rattle.cluster_types.specs.declared.member.Member.{Member}
use Rattle.journal_readings.specs.Entries.{fold_of}
use Rattle.journal_readings.specs.Settings.{policy_of}
use Rattle.audit_laws.specs.Lawful.{Lawful}
use Rattle.audit_laws.proofs.MapSteps.{entered_key}
use Rattle.journal_lines.specs.declared.line.Line.{Line}
use Rattle.journal_lines.specs.declared.line.Line.TheVariants as line
use Rattle.journal_readings.specs.Claims.{ShowsMap, JoinsView}
use Rattle.journal_readings.specs.Shape.{is_header}
use Rattle.audit_laws.specs.Fits.{Fits, FitsShape, LosesNothing, JoinsReplicas}
use Rattle.audit_laws.proofs.Tests.{differ}
use Rattle.audit_core.specs.declared.judge.Judge.{Judge}
use Rattle.audit_core.specs.Audits.{Audits, so_far, KeepsAll, Comes, AcceptsLine, is_idle}
use Rattle.audit_core.specs.Frames.{Both, SameStand, KeepsFrame}
use Rattle.audit_state.specs.Views.{SameEntries}
use Rattle.audit_core.specs.Known.{node_at, kept_view}
use Rattle.audit_core.specs.NextFrames.{NextFrame}
use Rattle.audit_core.specs.Covering.{SeesCovers}
use Rattle.audit_core.specs.Sees.{SeesFrame, SeesTried, SeesWrites, SeesStays, SeesState}
use Rattle.audit_core.specs.Sees.{SeesJournal}
use Rattle.audit_core.specs.Steps.{ChangesNode, HasClock, HasView, ChangesStamps, HasMark}
use Rattle.audit_core.specs.Stored.{SeesStores, Knows}
use Rattle.audit_core.specs.Folds.{KnowsView}
use Rattle.audit_core.specs.Verdicts.{BreaksFirst, StopsRightly}
use Rattle.audit_laws.specs.declared.law.Law.TheVariants as law
use Rattle.audit_core.specs.declared.verdict.Stop.{Stop}
use Rattle.audit_core.specs.declared.verdict.Stop.TheVariants as stop
use Rattle.audit_state.specs.declared.views.View.{View}
use Rattle.audit_core.proofs.EntryLaws.{marked_stamps}
use Rattle.audit_core.proofs.FrameLaws.{frame_more}
use Rattle.audit_core.proofs.NoteLaws.{kept_stores, kept_tried, kept_covers, kept_writes, kept_stays}
use Rattle.audit_core.proofs.OpenWriteLaws.{still_leaves, writes_left}
use Rattle.audit_core.proofs.StayLaws.{SameStays, stays_same, stays_still, clock_stays, stop_stays}
use Rattle.audit_core.proofs.StillLaws.{IsStill, is_still, still_line, only_entered, silent_line, stores_silent, tried_still}
use Rattle.audit_core.proofs.VerdictLaws.{taken_next, stands_within}
use Rattle.audit_core.proofs.WordLaws.{changes_frame, quiet_line, keeps_next, same_stand, same_entries, node_stays, view_stays, both_same, clock_next, leave_next}

-- ---- so many lines

pub length_front : (i : ℕ) (all : List Line) → i < length all → length (take i all) ≡ i
length_front i [] h = absurd (omega (arith, h))
length_front zero (x ∷ all) h = refl
length_front (suc i) (x ∷ all) h = ap suc (length_front i all (omega (arith, h)))

-- ---- the frame

pub frame_next : (old new : Judge) (i : ℕ) (l : Line) → Comes old i l → NextFrame i l old new → SeesFrame new (take (i + 1) old.lines.now)
frame_next old new i l c x =
    subst (SeesFrame new) (sym (taken_next old.lines.now i l c.stands))
    (frame_more old new (so_far old i) l c.event (only_entered (so_far old i) c.audits.lawful.shape) c.audits.state.frame
    (subst (λ (place : ℕ). NextFrame place l old new) (sym (length_front i old.lines.now (stands_within old.lines.now i l c.stands))) x))

pub keeps_itself : (s : Judge) → KeepsFrame s s
keeps_itself s = record {
  lines = refl;
  policy = refl;
  factor = refl;
  begun = refl;
  nodes = λ n. same_stand (node_at s n);
  views = λ k. same_entries (kept_view s k);
  stamps = refl;
}

-- ---- a still line

-- what nodes were known to hold of one another's records they are known to hold one line later
pub covers_later : (s : Judge) (i : ℕ) → SeesCovers s i → SeesCovers s (i + 1)
covers_later s i h = λ n m p c number e. record { held = omega (arith, (h n m p c number e).held); of = omega (arith, (h n m p c number e).of); covers = (h n m p c number e).covers }

-- what nodes hold and what is to be tried is told by the judge itself, where only the frame changed
pub still_sees : (old new : Judge) (i : ℕ) (l : Line) → Comes old i l → is_still l ≡ true → new.lines.now ≡ old.lines.now → NextFrame i l old new
    → (SeesStores old (i + 1) old.lines.now (take (i + 1) old.lines.now) → SeesStores new (i + 1) old.lines.now (take (i + 1) old.lines.now))
    → (SeesTried old (take (i + 1) old.lines.now) → SeesTried new (take (i + 1) old.lines.now)) → (SeesCovers old (i + 1) → SeesCovers new (i + 1))
    → (SeesWrites old (take (i + 1) old.lines.now) → SeesWrites new (take (i + 1) old.lines.now)) → (SeesStays old (take (i + 1) old.lines.now) → SeesStays new (take (i + 1) old.lines.now)) → SeesState new (i + 1) old.lines.now
still_sees old new i l c still lines x stores tried covers writes stays = record {
  lines = lines;
  frame = frame_next old new i l c x;
  stores = stores (stores_silent old i old.lines.now l c.stands (silent_line l (still_line l still)) c.event c.audits.state.stores);
  tried = tried (subst (SeesTried old) (sym (taken_next old.lines.now i l c.stands)) (tried_still old (so_far old i) l (still_line l still) c.event c.audits.state.tried));
  covers = covers (covers_later old i c.audits.state.covers);
  writes = writes (subst (SeesWrites old) (sym (taken_next old.lines.now i l c.stands)) (writes_left old (so_far old i) l (still_leaves l (still_line l still)) c.audits.state.writes));
  stays = stays (subst (SeesStays old) (sym (taken_next old.lines.now i l c.stands)) (stays_still old (so_far old i) l (still_line l still) c.event c.audits.state.stays));
}

-- nothing changed
pub same_sees : (s : Judge) (i : ℕ) (l : Line) → Comes s i l → is_still l ≡ true → changes_frame l ≡ false → SeesState s (i + 1) s.lines.now
same_sees s i l c still frame = still_sees s s i l c still refl (keeps_next i l s s (quiet_line l frame) (keeps_itself s)) (λ h. h) (λ h. h) (λ h. h) (λ h. h) (λ h. h)

-- ---- idle lines

idle_still : (l : Line) → is_idle l ≡ true → (is_still l ≡ true) × (changes_frame l ≡ false)
idle_still (line.Clock n time) e = differ e refl
idle_still (line.Stop n) e = differ e refl
idle_still (line.Enter n k ms) e = differ e refl
idle_still (line.Exchanged n k) e = differ e refl
idle_still (line.Settled n k p) e = differ e refl
idle_still (line.Learn n k p) e = differ e refl
idle_still (line.Drop n k p) e = differ e refl
idle_still (line.Apply n k t d v) e = differ e refl
idle_still (line.Merge n k d v) e = differ e refl
idle_still (line.Done n k t) e = differ e refl
idle_still (line.Value n k t d v) e = differ e refl
idle_still (line.Map n k p ms a) e = differ e refl
idle_still l e = (refl, refl)

pub joins_unparted : (j : List Line) (l : Line) → IsStill l → JoinsReplicas j l
joins_unparted j l still = record { whole = λ k r d parts. differ parts (still.parts j k d) }

asks_nothing : (j : List Line) (l : Line) → is_idle l ≡ true → ShowsMap j l × LosesNothing j l × JoinsView j j l
asks_nothing j (line.Clock n time) e = differ e refl
asks_nothing j (line.Drop n k p) e = differ e refl
asks_nothing j (line.Apply n k t d v) e = differ e refl
asks_nothing j (line.Merge n k d v) e = differ e refl
asks_nothing j (line.Value n k t d v) e = differ e refl
asks_nothing j (line.Map n k p ms a) e = differ e refl
asks_nothing j l e = (tt, tt, tt)

pub idle_takes : (s : Judge) (i : ℕ) (l : Line) → Comes s i l → is_idle l ≡ true
    → AcceptsLine s s i l
idle_takes s i l c e =
    let still : (is_still l ≡ true) × (changes_frame l ≡ false) = idle_still l e in
    let asks : ShowsMap (so_far s i) l × LosesNothing (so_far s i) l × JoinsView (so_far s i) (so_far s i) l = asks_nothing (so_far s i) l e in
    record {
      lines = refl;
      fits = record { shape = c.shape; map = asks.0; losses = asks.1; replicas = joins_unparted (so_far s i) l (still_line l still.0); joins = asks.2 };
      sees = same_sees s i l c still.0 still.1;
    }

-- ---- one node changes

pub moved_stores : (s new : Judge) (i : ℕ) (all j : List Line) → SeesStores (record new { nodes = s.nodes }) i all j → SeesStores new i all j
moved_stores s new i all j h = record {
  records = record { numbered = h.records.numbered; unbrought = h.records.unbrought; newest = h.records.newest; holders = h.records.holders };
  contents = h.contents;
  copies = h.copies;
  written = record { applied = h.written.applied; written = h.written.written; listed = h.written.listed; listed_only = h.written.listed_only };
}

moved_tried : (s new : Judge) (j : List Line) → SeesTried (record new { nodes = s.nodes }) j → SeesTried new j
moved_tried s new j h = record {
  stands = h.stands;
  listed = h.listed;
  unsettled = h.unsettled;
  tried = λ k p x e bound. record { closed = (h.tried k p x e bound).closed; joined = (h.tried k p x e bound).joined };
}

moved_covers : (s new : Judge) (i : ℕ) → SeesCovers (record new { nodes = s.nodes }) i → SeesCovers new i
moved_covers s new i h = λ n m p c number e. record { held = (h n m p c number e).held; of = (h n m p c number e).of; covers = (h n m p c number e).covers }

moved_writes : (s new : Judge) (j : List Line) → SeesWrites (record new { nodes = s.nodes }) j → SeesWrites new j
moved_writes s new j h = record { done = h.done; open_writes = h.open_writes; by_master = h.by_master }

moved_sees : (old new : Judge) (i : ℕ) (l : Line) → Comes old i l → is_still l ≡ true → record new { nodes = old.nodes } ≡ old → NextFrame i l old new → SameStays old new → SeesState new (i + 1) old.lines.now
moved_sees old new i l c still rest x stays =
    still_sees old new i l c still (ap (λ (s : Judge). s.lines.now) rest) x
    (λ h. moved_stores old new (i + 1) old.lines.now (take (i + 1) old.lines.now) (subst (λ (s : Judge). SeesStores s (i + 1) old.lines.now (take (i + 1) old.lines.now)) (sym rest) h))
    (λ h. moved_tried old new (take (i + 1) old.lines.now) (subst (λ (s : Judge). SeesTried s (take (i + 1) old.lines.now)) (sym rest) h))
    (λ h. moved_covers old new (i + 1) (subst (λ (s : Judge). SeesCovers s (i + 1)) (sym rest) h))
    (λ h. moved_writes old new (take (i + 1) old.lines.now) (subst (λ (s : Judge). SeesWrites s (take (i + 1) old.lines.now)) (sym rest) h))
    (stays_same old new (take (i + 1) old.lines.now) stays)

still_fits : (j : List Line) (l : Line) → is_still l ≡ true → FitsShape j l → ShowsMap j l → LosesNothing j l → JoinsView j j l → Fits j l
still_fits j l still shape map losses joins = record { shape = shape; map = map; losses = losses; replicas = joins_unparted j l (still_line l still); joins = joins }

pub clock_takes : (old new : Judge) (n time : ℕ) → ChangesNode (HasClock time) n old new → (i : ℕ) → Comes old i (line.Clock n time) → AcceptsLine old new i (line.Clock n time)
clock_takes old new n time x i c = record {
  lines = ap (λ (s : Judge). s.lines.now) x.rest;
  fits = still_fits (so_far old i) (line.Clock n time) refl c.shape tt tt tt;
  sees = moved_sees old new i (line.Clock n time) c refl x.rest (clock_next i n time old new x) (clock_stays n time old new x);
}

pub stop_takes : (old new : Judge) (n : ℕ) → ChangesNode (HasView None) n old new → (i : ℕ) → Comes old i (line.Stop n) → AcceptsLine old new i (line.Stop n)
stop_takes old new n x i c = record {
  lines = ap (λ (s : Judge). s.lines.now) x.rest;
  fits = still_fits (so_far old i) (line.Stop n) refl c.shape tt tt tt;
  sees = moved_sees old new i (line.Stop n) c refl x.rest (leave_next i n old new x) (stop_stays n old new x);
}

-- ---- only what is noted of stamps changes

noted_sees : (old new : Judge) (i : ℕ) (l : Line) → Comes old i l → is_still l ≡ true → KeepsAll old new → NextFrame i l old new → SeesState new (i + 1) old.lines.now
noted_sees old new i l c still rest x =
    still_sees old new i l c still (ap (λ (s : Judge). s.lines.now) rest) x
    (λ h. kept_stores old new (i + 1) old.lines.now (take (i + 1) old.lines.now) (subst (λ (s : Judge). SeesStores s (i + 1) old.lines.now (take (i + 1) old.lines.now)) (sym rest) h))
    (λ h. kept_tried old new (take (i + 1) old.lines.now) (subst (λ (s : Judge). SeesTried s (take (i + 1) old.lines.now)) (sym rest) h))
    (λ h. kept_covers old new (i + 1) (subst (λ (s : Judge). SeesCovers s (i + 1)) (sym rest) h))
    (λ h. kept_writes old new (take (i + 1) old.lines.now) (subst (λ (s : Judge). SeesWrites s (take (i + 1) old.lines.now)) (sym rest) h))
    (λ h. kept_stays old new (take (i + 1) old.lines.now) (subst (λ (s : Judge). SeesStays s (take (i + 1) old.lines.now)) (sym rest) h))

learn_next : (place n p : ℕ) (k : ClusterKey) (old new : Judge) → ChangesStamps (HasMark place (Some place)) n p old new → NextFrame place (line.Learn n k p) old new
learn_next place n p k old new c = record {
  policy = ap (λ (s : Judge). s.by) c.rest;
  factor = ap (λ (s : Judge). s.factor) c.rest;
  nodes = λ m. node_stays m place (line.Learn n k p) (λ t. refl) (λ v. refl) refl (node_at old m) (node_at new m)
      (subst (Both SameStand (node_at old m)) (sym (ap (λ (s : Judge). node_at s m) c.rest)) (same_stand (node_at old m)));
  views = λ l. view_stays l place (line.Learn n k p) refl (λ m. refl) (λ m. refl) (kept_view old l) (kept_view new l)
      (both_same SameEntries (λ x. same_entries (Some x)) (kept_view old l) (kept_view new l) (ap (λ (s : Judge). kept_view s l) c.rest));
  stamps = marked_stamps place n p (line.Learn n k p) (Some place) old new (λ m q. refl) c;
}

pub learn_takes : (old new : Judge) (i n p : ℕ) → ChangesStamps (HasMark i (Some i)) n p old new → (k : ClusterKey) → Comes old i (line.Learn n k p) → AcceptsLine old new i (line.Learn n k p)
learn_takes old new i n p x k c = record {
  lines = ap (λ (s : Judge). s.lines.now) x.rest;
  fits = still_fits (so_far old i) (line.Learn n k p) refl c.shape tt tt tt;
  sees = noted_sees old new i (line.Learn n k p) c refl x.rest (learn_next i n p k old new x);
}

-- ---- what a view shows

pub known_view : (s : Judge) (i : ℕ) (k : ClusterKey) (n : ℕ) → Audits s i → Rattle.journal_readings.specs.Shape.has_entered (so_far s i) k n ≡ true → is_some (kept_view s k) ≡ true
known_view s i k n h e = h.state.frame.known_views k ∙ entered_key k n (so_far s i) e

pub known_stores : (s : Judge) (i : ℕ) → Audits s i → Knows s i
known_stores s i h = record { lawful = h.lawful; policy = h.state.frame.header.policy; stores = h.state.stores }

knows_view : (s : Judge) (i : ℕ) (k : ClusterKey) → Audits s i → is_some (kept_view s k) ≡ true → (x : View) × KnowsView s i k x
knows_view s i k h e = go (kept_view s k) refl e
  where
    go : (o : Option View) → kept_view s k ≡ o → is_some o ≡ true → (x : View) × KnowsView s i k x
    go None q r = differ r refl
    go (Some x) q r = (x, record { knows = known_stores s i h; there = q; sees = h.state.frame.views k x q })

-- a read finds the fold
pub read_takes : (s : Judge) (k : ClusterKey) (d : List ℕ) (v : Option Version) (b : Bool) → b ≡ true → ((i : ℕ) (x : View) → KnowsView s i k x → IsTrue b ↔ (v ≡ fold_of (policy_of (so_far s i)) k d (so_far s i)))
    → (i n t : ℕ) → Comes s i (line.Value n k t d v) → AcceptsLine s s i (line.Value n k t d v)
read_takes s k d v b e told i n t c =
    let x : (x : View) × KnowsView s i k x = knows_view s i k c.audits (known_view s i k n c.audits c.shape.in_view) in
    record {
      lines = refl;
      fits = still_fits (so_far s i) (line.Value n k t d v) refl c.shape tt tt ((told i x.0 x.1).0 e);
      sees = same_sees s i (line.Value n k t d v) c refl refl;
    }

-- it doesn't
pub read_breaks : (s : Judge) (k : ClusterKey) (d : List ℕ) (v : Option Version) (b : Bool) (x : Stop) → x ≡ stop.Breaks law.ReadJoin → b ≡ false
    → ((i : ℕ) (x : View) → KnowsView s i k x → IsTrue b ↔ (v ≡ fold_of (policy_of (so_far s i)) k d (so_far s i)))
    → (i n t : ℕ) → Comes s i (line.Value n k t d v) → StopsRightly x (so_far s i) (line.Value n k t d v)
read_breaks s k d v b x is e told i n t c =
    let y : (y : View) × KnowsView s i k y = knows_view s i k c.audits (known_view s i k n c.audits c.shape.in_view) in
    let breaks : BreaksFirst law.ReadJoin (so_far s i) (line.Value n k t d v) = record {
      before = (c.shape, tt, tt, joins_unparted (so_far s i) (line.Value n k t d v) (still_line (line.Value n k t d v) refl));
      broken = λ q. differ ((told i y.0 y.1).1 q) e;
    } in
    subst (λ (z : Stop). StopsRightly z (so_far s i) (line.Value n k t d v)) (sym is) breaks

-- the line comes to the judge as it is now
comes_kept : (old new : Judge) (i : ℕ) (l : Line) → KeepsAll old new → Audits new i → Comes old i l → Comes new i l
comes_kept old new i l keeps audits c =
    let lines : new.lines.now ≡ old.lines.now = ap (λ (s : Judge). s.lines.now) keeps in
    record {
      audits = audits;
      stands = ap (λ (ls : List Line). slice_get ls i) lines ∙ c.stands;
      shape = subst (λ (ls : List Line). FitsShape (take i ls) l) (sym lines) c.shape;
      event = c.event;
    }

-- a map is shown as it is to be
pub show_takes : (old new : Judge) (k : ClusterKey) (p a : ℕ) (ms : List Member) (b : Bool) → b ≡ true → KeepsAll old new → ((i : ℕ) → Audits old i → Audits new i)
    → ((i n : ℕ) → Audits old i → is_some (kept_view old k) ≡ true → IsTrue b ↔ ShowsMap (so_far old i) (line.Map n k p ms a))
    → (i n : ℕ) → Comes old i (line.Map n k p ms a) → AcceptsLine old new i (line.Map n k p ms a)
show_takes old new k p a ms b e keeps audits told i n c =
    let lines : new.lines.now ≡ old.lines.now = ap (λ (s : Judge). s.lines.now) keeps in
    record {
      lines = lines;
      fits = still_fits (so_far old i) (line.Map n k p ms a) refl c.shape ((told i n c.audits (known_view old i k n c.audits c.shape.in_view)).0 e) tt tt;
      sees = subst (SeesState new (i + 1)) lines (same_sees new i (line.Map n k p ms a) (comes_kept old new i (line.Map n k p ms a) keeps (audits i c.audits) c) refl refl);
    }

-- it isn't
pub show_breaks : (s : Judge) (k : ClusterKey) (p a : ℕ) (ms : List Member) (b : Bool) (x : Stop) → x ≡ stop.Breaks law.OneMap → b ≡ false
    → ((i n : ℕ) → Audits s i → is_some (kept_view s k) ≡ true → IsTrue b ↔ ShowsMap (so_far s i) (line.Map n k p ms a))
    → (i n : ℕ) → Comes s i (line.Map n k p ms a) → StopsRightly x (so_far s i) (line.Map n k p ms a)
show_breaks s k p a ms b x is e told i n c =
    let breaks : BreaksFirst law.OneMap (so_far s i) (line.Map n k p ms a) = record {
      before = c.shape;
      broken = λ q. differ ((told i n c.audits (known_view s i k n c.audits c.shape.in_view)).1 q) e;
    } in
    subst (λ (z : Stop). StopsRightly z (so_far s i) (line.Map n k p ms a)) (sym is) breaks

-- a fact of an error follows from another
pub if_err_then : {T E : Type 0} (r : Result T E) (P Q : E → Type 0) → ((e : E) → P e → Q e) → IfErr r P → IfErr r Q
if_err_then {T} {E} (Ok x) P Q f h = tt
if_err_then {T} {E} (Err e) P Q f h = f e h

-- a line comes that fits the shape
pub comes_here : (s : Judge) (i : ℕ) (l : Line) → SeesJournal s i s.lines.now → Lawful (so_far s i) → slice_get s.lines.now i ≡ Some l → FitsShape (so_far s i) l → is_header l ≡ false → Comes s i l
comes_here s i l sees lawful stands shape event = record { audits = record { lawful = lawful; state = sees.state }; stands = stands; shape = shape; event = event }

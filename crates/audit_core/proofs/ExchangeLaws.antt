-- A node finishes exchange.
use Rattle.std.proofs.Common.{◌≡◌, ℕ, ◌==◌, ◌+◌, Bool, true, false, not, ◌&&◌, ◌||◌, List, [], ◌∷◌, ◌++◌, Option, Some, None, refl, sym, ap, ap₂, subst, ◌∙◌}
use Rattle.std.specs.Prelude.{is_some, take, nat_eq, Result, Ok, Err, OnOk}
use Rattle.std.specs.HashMap as hash
use Rattle.std.specs.List.{list_any}
use Rattle.std.proofs.lemmas.List.Folds.{list_any-append}
use Rattle.std.proofs.Math.Bool.{or-false}
use Rattle.cluster_types.specs.declared.cluster_key.ClusterKey.{ClusterKey}
use Rattle.cluster_types.specs.Partitions.{partition_of}
use Rattle.journal_lines.specs.declared.line.Line.{Line}
use Rattle.journal_lines.specs.declared.line.Line.TheVariants as line
use Rattle.journal_readings.specs.Lines.{same_key, has_node, is_exchanged, is_settled_line}
use Rattle.journal_readings.specs.Settled.{is_settled, is_settled_by}
use Rattle.journal_readings.specs.Shape.{Shape}
use Rattle.journal_readings.specs.Stamps.{is_empty_everywhere}
use Rattle.journal_readings.specs.Views.{view, master}
use Rattle.journal_readings.proofs.AlongLaws.{no_some, some_same}
use Rattle.journal_readings.proofs.Fronts.{and_left, and_right, same_key_is}
use Rattle.journal_readings.proofs.StepLaws.{view-more}
use Rattle.audit_laws.specs.Fits.{enters_key}
use Rattle.audit_laws.proofs.MapSteps.{entered_key}
use Rattle.audit_laws.proofs.Quiet.{master-other, empty-other}
use Rattle.audit_laws.proofs.ShapeSteps.{same_key_itself}
use Rattle.audit_laws.proofs.Steps.{shape_step}
use Rattle.audit_laws.proofs.Tests.{differ, number_same, number_here}
use Rattle.audit_state.specs.declared.views.View.{View}
use Rattle.audit_state.specs.Records.{record_digest}
use Rattle.audit_state.specs.Written.{Stand, stand_in, stand_of}
use Rattle.audit_core.specs.declared.judge.Judge.{Judge}
use Rattle.audit_core.specs.declared.verdict.Stop.{Stop}
use Rattle.audit_core.specs.Audits.{Comes, AcceptsLine, so_far}
use Rattle.audit_core.specs.Emptied.{moved_in, is_empty_for, tried_with_empty, TriesEmpty}
use Rattle.audit_core.specs.Emptied.{StopsEmpty}
use Rattle.audit_core.specs.Frames.{Both, SameStay, SameWritten, KeepsStores}
use Rattle.audit_core.specs.Known.{node_at, view_at, kept_view}
use Rattle.audit_core.specs.NextFrames.{NextFrame, finished_in}
use Rattle.audit_core.specs.Sees.{SeesFrame, SeesStand, SeesWrites, SeesStays, IsBound, AllJoin, IsTried, HasNoDoubts}
use Rattle.partition_lists.specs.Classes.{is_that}
use Rattle.audit_core.specs.Settling.{is_master_in, master_from}
use Rattle.audit_core.specs.Stored.{SeesStores}
use Rattle.audit_core.specs.Trying.{IsTriedOf, IsTrying, KeepsKnown, StopsTrying, is_digest}
use Rattle.audit_core.specs.Verdicts.{StopsRightly}
use Rattle.audit_core.specs.Wholes.{empty_in}
use Rattle.audit_core.proofs.BoundLaws.{everywhere_then, master_so, present_so, unlisted}
use Rattle.audit_core.proofs.EnteredLaws.{unless}
use Rattle.audit_core.proofs.OpenWriteLaws.{LeavesWrites, writes_same, writes_left}
use Rattle.audit_core.proofs.PassLaws.{frame_next, covers_later}
use Rattle.audit_core.proofs.StayLaws.{KeepsStay, stays_same, stays_left}
use Rattle.audit_core.proofs.StillLaws.{IsSilent, stores_silent, joins_silent, stand_kept, any-more}
use Rattle.audit_core.proofs.TakenLaws.{IsNoted, noted_takes, noted_stops, covers_moved, suspect_moved, stores_moved, written_same, written_seen}
use Rattle.audit_core.proofs.TryLaws.{keeps_itself}
use Rattle.audit_core.proofs.UnmovedLaws.{unmoved_joins}
use Rattle.audit_core.proofs.VerdictLaws.{taken_next}

both_map : {A : Type 0} (R P : A → A → Type 0) → ((a b : A) → R a b → P a b) → (o q : Option A) → Both R o q → Both P o q
both_map R P h None None x = tt
both_map R P h None (Some b) x = absurd x
both_map R P h (Some a) None x = absurd x
both_map R P h (Some a) (Some b) x = h a b x

-- ---- the line

-- the lines so far and this one
abbrev behind : Judge → ℕ → ℕ → ClusterKey → List Line
behind s i n k = so_far s i ++ line.Exchanged n k ∷ []

exchange_silent : (n : ℕ) (k : ClusterKey) → IsSilent (line.Exchanged n k)
exchange_silent n k = record {
  contents = λ by m d x. refl;
  copies = λ m q b. refl;
  applied = λ by d x. refl;
  writes = λ by l d x. refl;
  brings = λ d. refl;
  enters = λ l. refl;
  opens = λ l q m j. refl;
  views = λ m v l h. h;
}

exchange_leaves : (n : ℕ) (k : ClusterKey) → LeavesWrites (line.Exchanged n k)
exchange_leaves n k = record { enters = λ l. refl; ends = λ l m t. refl; opens = λ l q m j. refl }

settled_behind : (n q : ℕ) (k l : ClusterKey) (j : List Line) → is_settled l q (j ++ line.Exchanged n k ∷ [])
    ≡ (list_any (is_settled_line l (master l q j) q) j || ((list_any (is_exchanged l (master l q j)) j || ((n == master l q j) && same_key k l)) && is_empty_everywhere l q j))
unfolding is_settled
settled_behind n q k l j =
    ap (λ (m : ℕ). is_settled_by l q m (j ++ line.Exchanged n k ∷ [])) (master-other l q j (line.Exchanged n k) refl)
    ∙ ap₂ (λ (a b : Bool). a || b) (any-more (is_settled_line l (master l q j) q) j (line.Exchanged n k) refl)
    (ap₂ (λ (a b : Bool). a && b)
    (list_any-append (is_exchanged l (master l q j)) j (line.Exchanged n k ∷ []) ∙ ap (λ (b : Bool). list_any (is_exchanged l (master l q j)) j || b) (or-false ((n == master l q j) && same_key k l)))
    (empty-other l q j (line.Exchanged n k) refl))

settled_before : (q : ℕ) (l : ClusterKey) (j : List Line) → is_settled l q j ≡ (list_any (is_settled_line l (master l q j) q) j || (list_any (is_exchanged l (master l q j)) j && is_empty_everywhere l q j))
unfolding is_settled
settled_before q l j = refl

less_settled : (a b c e : Bool) → (a || ((b || c) && e)) ≡ false → (a || (b && e)) ≡ false
less_settled true b c e h = h
less_settled false true c e h = h
less_settled false false c e h = refl

newly_settled : (a b c e : Bool) → (a || (b && e)) ≡ false → (a || ((b || c) && e)) ≡ true → (b ≡ false) × (c ≡ true) × (e ≡ true)
newly_settled true b c e off on = differ refl off
newly_settled false true c e off on = differ on off
newly_settled false false true e off on = (refl, refl, on)
newly_settled false false false e off on = differ on refl

unsettled_before : (n q : ℕ) (k l : ClusterKey) (j : List Line) → is_settled l q (j ++ line.Exchanged n k ∷ []) ≡ false → is_settled l q j ≡ false
unsettled_before n q k l j off = settled_before q l j ∙ less_settled (list_any (is_settled_line l (master l q j) q) j) (list_any (is_exchanged l (master l q j)) j) ((n == master l q j) && same_key k l) (is_empty_everywhere l q j) (sym (settled_behind n q k l j) ∙ off)

-- the line settles the partition
pub record IsSettledNow (n q : ℕ) (k l : ClusterKey) (j : List Line) : Type 0 where
  pub master : master l q j ≡ n
  pub key : k ≡ l
  pub first : list_any (is_exchanged l (Rattle.journal_readings.specs.Views.master l q j)) j ≡ false
  pub empty : is_empty_everywhere l q j ≡ true

settled_now : (n q : ℕ) (k l : ClusterKey) (j : List Line) → is_settled l q j ≡ false → is_settled l q (j ++ line.Exchanged n k ∷ []) ≡ true → IsSettledNow n q k l j
settled_now n q k l j off on =
    let parts : (list_any (is_exchanged l (master l q j)) j ≡ false) × (((n == master l q j) && same_key k l) ≡ true) × (is_empty_everywhere l q j ≡ true) =
    newly_settled (list_any (is_settled_line l (master l q j) q) j) (list_any (is_exchanged l (master l q j)) j) ((n == master l q j) && same_key k l) (is_empty_everywhere l q j) (sym (settled_before q l j) ∙ off) (sym (settled_behind n q k l j) ∙ on) in
    record {
      master = sym (number_same n (master l q j) (and_left (n == master l q j) _ parts.1));
      key = same_key_is k l (and_right (n == master l q j) _ parts.1);
      first = parts.0;
      empty = parts.2;
    }

-- all records but those that moved in the view, of partitions that are settled as they were empty
abbrev pub all_but_moved : Judge → ℕ → ClusterKey → ClusterKey → List ℕ → Bool
all_but_moved s n k l d = not (same_key k l && (is_empty_for s k n (partition_of d) && list_any (λ r. is_digest (record_digest s.records r) d) (moved_in s k)))

both_before : {A : Type 0} (R : A → A → Type 0) (o q : Option A) (y : A) → Both R o q → q ≡ Some y → (x : A) × (o ≡ Some x) × R x y
both_before R None None y h e = absurd (no_some e)
both_before R (Some a) (Some b) y h e = (a, refl, subst (R a) (some_same e) h)
both_before R None (Some b) y h e = absurd h
both_before R (Some a) None y h e = absurd h

module _ (old noted : Judge) (i n : ℕ) (k : ClusterKey) (c : Comes old i (line.Exchanged n k)) (x : KeepsStores old noted) (next : NextFrame i (line.Exchanged n k) old noted) where
  lines_same : noted.lines.now ≡ old.lines.now
  lines_same = ap (λ (s : Judge). s.lines.now) x.rest

  front : so_far noted (i + 1) ≡ behind old i n k
  front = ap (take (i + 1)) lines_same ∙ taken_next old.lines.now i (line.Exchanged n k) c.stands

  was_view : (l : ClusterKey) (y : View) → kept_view noted l ≡ Some y → (z : View) × (kept_view old l ≡ Some z) × SameWritten z y
  was_view l y e = both_before SameWritten (kept_view old l) (kept_view noted l) y (x.views l) e

  same_stands : (z y : View) → SameWritten z y → (q : ℕ) → stand_of z q ≡ stand_of y q
  same_stands z y same q = ap (λ (m : _). stand_in (hash.get nat_eq m q)) (sym same.partitions)

  bound_before : (l : ClusterKey) (q : ℕ) → is_settled l q (so_far old i) ≡ true → IsBound l q (behind old i n k) → IsBound l q (so_far old i)
  bound_before l q settled bound = record {
    settled = settled;
    remains = sym (view-more (master l q (so_far old i)) (so_far old i) (line.Exchanged n k)) ∙ (ap (λ (m : ℕ). view m (behind old i n k)) (sym (master-other l q (so_far old i) (line.Exchanged n k) refl)) ∙ bound.remains);
  }

  -- what holds of the stands before holds of those that are known now
  each : (P : ClusterKey → ℕ → Stand → Type 0) → ((l : ClusterKey) (q : ℕ) (z : View) → kept_view old l ≡ Some z → P l q (stand_of z q)) → (l : ClusterKey) (q : ℕ) (y : View) → kept_view noted l ≡ Some y → P l q (stand_of y q)
  each P before l q y e =
      let z : (z : View) × (kept_view old l ≡ Some z) × SameWritten z y = was_view l y e in
      subst (P l q) (same_stands z.0 y z.2 q) (before l q z.0 z.1)

  pub exchange_trying : (those : ClusterKey → List ℕ → Bool)
      → ((l : ClusterKey) (q : ℕ) (d : List ℕ) → IsSettledNow n q k l (so_far old i) → IsBound l q (behind old i n k) → partition_of d ≡ q → those l d ≡ true → AllJoin l d (behind old i n k))
      → IsTrying noted (i + 1) those
  exchange_trying those newly = record {
    stands = λ l q y e. subst (λ (ls : List Line). SeesStand ls l q (stand_of y q)) (sym front)
        (each (λ l q w. SeesStand (behind old i n k) l q w)
        (λ l q z there. stand_kept (so_far old i) (line.Exchanged n k) l q (stand_of z q) refl (λ m. refl) (λ m t. refl) (λ m ls. refl) (c.audits.state.tried.stands l q z there)) l q y e);
    listed = λ l q y e.
        let z : (z : View) × (kept_view old l ≡ Some z) × SameWritten z y = was_view l y e in
        ap (λ (ps : List ℕ). has_node ps q) z.2.settled ∙ (c.audits.state.tried.listed l q z.0 z.1 ∙ ap (λ (w : Stand). w.settled) (same_stands z.0 y z.2 q));
    unsettled = λ l q y e none. each (λ l q w. is_settled l q (behind old i n k) ≡ false → HasNoDoubts w)
        (λ l q z there off. c.audits.state.tried.unsettled l q z there (unsettled_before n q k l (so_far old i) off)) l q y e (sym (ap (is_settled l q) front) ∙ none);
    tried = λ l q y e bound. subst (λ (ls : List Line). IsTriedOf (those l) noted ls l q (stand_of y q)) (sym front)
        (each (λ l q w. IsBound l q (behind old i n k) → IsTriedOf (those l) noted (behind old i n k) l q w)
        (λ l q z there bound. go l q z there bound (is_settled l q (so_far old i)) refl) l q y e (subst (IsBound l q) front bound));
    covers = covers_moved old noted (i + 1) x.rest (covers_later old i c.audits.state.covers);
  }
    where
      go : (l : ClusterKey) (q : ℕ) (z : View) → kept_view old l ≡ Some z → IsBound l q (behind old i n k) → (b : Bool) → is_settled l q (so_far old i) ≡ b → IsTriedOf (those l) noted (behind old i n k) l q (stand_of z q)
      go l q z there bound true e =
          let h : IsTried old (so_far old i) l q (stand_of z q) = c.audits.state.tried.tried l q z there (bound_before l q e bound) in
          record {
            closed = h.closed;
            joined = λ untried d part tried clear. joins_silent (so_far old i) (line.Exchanged n k) l d (exchange_silent n k) refl (h.joined untried d part (λ w. clear (suspect_moved old noted (stand_of z q) d x.rest w)));
          }
      go l q z there bound false e =
          let none : HasNoDoubts (stand_of z q) = c.audits.state.tried.unsettled l q z there e in
          record {
            closed = λ closed. none;
            joined = λ untried d part tried clear. newly l q d (settled_now n q k l (so_far old i) e bound.settled) bound part tried;
          }

  stays_kept : Rattle.audit_core.proofs.StayLaws.SameStays old noted
  stays_kept = record {
    nodes = λ m. both_map SameStay KeepsStay (λ a b h. record {
      kept = λ l e. (sym h.view ∙ e, λ r f. ap (λ (v : _). has_node v.items r) (sym h.stay) ∙ f);
    }) (node_at old m) (node_at noted m) (x.nodes m);
    digests = λ r. ap (λ (s : Judge). record_digest s.records r) x.rest;
  }

  stores_noted : SeesStores noted (i + 1) old.lines.now (take (i + 1) old.lines.now)
  stores_noted =
      let h : SeesStores old (i + 1) old.lines.now (take (i + 1) old.lines.now) = stores_silent old i old.lines.now (line.Exchanged n k) c.stands (exchange_silent n k) refl c.audits.state.stores in
      stores_moved old noted (i + 1) old.lines.now (take (i + 1) old.lines.now) x.rest
      (λ l y e. let z : (z : View) × (kept_view old l ≡ Some z) × SameWritten z y =
      was_view l y e in
      written_same old.records old.lines.now (take (i + 1) old.lines.now) l z.0 y z.2 (written_seen old old.lines.now (take (i + 1) old.lines.now) l z.0 h.written z.1))
      h

  pub exchange_noted : IsNoted old noted i
  exchange_noted = record {
    lines = lines_same;
    seen = record {
      shape = subst Shape (sym front) ((shape_step (so_far old i) (line.Exchanged n k)).1 (c.audits.lawful.shape, c.shape));
      frame = subst (λ (ls : List Line). SeesFrame noted (take (i + 1) ls)) (sym lines_same) (frame_next old noted i (line.Exchanged n k) c next);
      stores = subst (λ (ls : List Line). SeesStores noted (i + 1) ls (take (i + 1) ls)) (sym lines_same) stores_noted;
    };
    writes = subst (SeesWrites noted) (sym front) (writes_same old noted (behind old i n k)
        (record { views = λ l y e. let z : (z : View) × (kept_view old l ≡ Some z) × SameWritten z y = was_view l y e in (z.0, z.1, z.2.writes) })
        (writes_left old (so_far old i) (line.Exchanged n k) (exchange_leaves n k) c.audits.state.writes));
    stays = subst (SeesStays noted) (sym front) (stays_same old noted (behind old i n k) stays_kept
        (stays_left old (so_far old i) (line.Exchanged n k) refl (λ l. refl) (λ by m d v. refl) c.audits.state.stays));
  }

  -- no partition becomes settled with its list master in the view
  pub nothing_settled : ((l : ClusterKey) (q : ℕ) → IsSettledNow n q k l (so_far old i) → IsBound l q (behind old i n k) → ⊥) → AcceptsLine old noted i (line.Exchanged n k)
  nothing_settled none =
      noted_takes old noted i (line.Exchanged n k) c exchange_noted (record { map = tt; losses = tt; joins = tt }) noted (λ l d. true) (keeps_itself noted)
      (exchange_trying (λ l d. true) (λ l q d newly bound part tried. absurd (none l q newly bound))) (λ l d. refl)

  -- the node finished exchange before
  pub exchange_again : finished_in (kept_view old k) n ≡ true
      → AcceptsLine old noted i (line.Exchanged n k)
  exchange_again before = nothing_settled (λ l q newly bound.
      differ (sym (was (kept_view old k) refl) ∙ before)
      (subst (λ (z : ClusterKey). list_any (is_exchanged z n) (so_far old i) ≡ false) (sym newly.key) (subst (λ (m : ℕ). list_any (is_exchanged l m) (so_far old i) ≡ false) newly.master newly.first)))
    where
      was : (o : Option View) → kept_view old k ≡ o → finished_in (kept_view old k) n ≡ list_any (is_exchanged k n) (so_far old i)
      was (Some z) e = ap (λ (o : Option View). finished_in o n) e ∙ (c.audits.state.frame.views k z e).exchanged n
      was None e = differ before (ap (λ (o : Option View). finished_in o n) e)

  -- it isn't in the view any longer
  pub exchange_absent : (view_at noted n ≡ Some k → ⊥)
      → AcceptsLine old noted i (line.Exchanged n k)
  exchange_absent absent = nothing_settled (λ l q newly bound. absent (
      present_so noted (i + 1) n exchange_noted.seen
      ∙ (ap (view n) front
      ∙ (ap (λ (m : ℕ). view m (behind old i n k)) (sym (master-other l q (so_far old i) (line.Exchanged n k) refl ∙ newly.master))
      ∙ (bound.remains ∙ ap Some (sym newly.key))))))

  -- ---- partitions become settled

  view_there : (z : View) × (kept_view noted k ≡ Some z)
  view_there = go (kept_view noted k) refl
    where
      go : (o : Option View) → kept_view noted k ≡ o → (z : View) × (kept_view noted k ≡ Some z)
      go (Some z) e = (z, e)
      go None e = differ (entered_key k n (so_far old i) c.shape.in_view) (sym (c.audits.state.frame.known_views k) ∙ gone (kept_view old k) (kept_view noted k) (x.views k) e)
        where
          gone : (o q : Option View) → Both SameWritten o q → q ≡ None → is_some o ≡ false
          gone None q h f = refl
          gone (Some a) None h f = absurd h
          gone (Some a) (Some b) h f = absurd (no_some (sym f))

  entered_behind : list_any (enters_key k) (so_far noted (i + 1)) ≡ true
  entered_behind = sym (exchange_noted.seen.frame.known_views k) ∙ ap (λ (o : Option View). is_some o) view_there.1

  -- a partition that the line settles was empty, and the node is its list master
  newly_empty : (q : ℕ) → IsSettledNow n q k k (so_far old i) → is_empty_for noted k n q ≡ true
  newly_empty q newly = both_are (is_master_in (kept_view noted k) n q) (empty_in noted q (kept_view noted k)) (first (master_from (kept_view noted k) q) refl)
      (ap (empty_in noted q) view_there.1 ∙ (everywhere_then noted (i + 1) k q view_there.0 exchange_noted.seen view_there.1 ∙ empty_behind q newly))
    where
      both_are : (a b : Bool) → a ≡ true → b ≡ true → (a && b) ≡ true
      both_are true b e f = f
      both_are false b e f = e

      empty_behind : (q : ℕ) → IsSettledNow n q k k (so_far old i) → is_empty_everywhere k q (so_far noted (i + 1)) ≡ true
      empty_behind q newly = ap (is_empty_everywhere k q) front ∙ (empty-other k q (so_far old i) (line.Exchanged n k) refl ∙ newly.empty)

      first : (o : Option ℕ) → master_from (kept_view noted k) q ≡ o → is_that (master_from (kept_view noted k) q) n ≡ true
      first None e = absurd (unlisted noted (i + 1) k q exchange_noted.seen e entered_behind)
      first (Some m) e = ap (λ (o : Option ℕ). is_that o n) e
          ∙ subst (λ (z : ℕ). (z == n) ≡ true)
          (sym newly.master ∙ (sym (master-other k q (so_far old i) (line.Exchanged n k) refl) ∙ (ap (master k q) (sym front) ∙ master_so noted (i + 1) k q m exchange_noted.seen e)))
          (number_here n)

  newly_joins : (l : ClusterKey) (q : ℕ) (d : List ℕ) → IsSettledNow n q k l (so_far old i) → partition_of d ≡ q
      → all_but_moved noted n k l d ≡ true → AllJoin l d (behind old i n k)
  newly_joins l q d newly part tried = subst (λ (z : ClusterKey). AllJoin z d (behind old i n k)) newly.key
      (subst (AllJoin k d) front (unmoved_joins noted (i + 1) k view_there.0 q d exchange_noted.seen exchange_noted.stays view_there.1
      (ap (is_empty_everywhere k q) front ∙ (empty-other k q (so_far old i) (line.Exchanged n k) refl ∙ here.empty)) part unmoved))
    where
      here : IsSettledNow n q k k (so_far old i)
      here = subst (λ (z : ClusterKey). IsSettledNow n q k z (so_far old i)) (sym newly.key) newly

      last : (a b t : Bool) → a ≡ true → b ≡ true → (a && (b && t)) ≡ false → t ≡ false
      last true true t e f off = off
      last true false t e f off = differ f refl
      last false b t e f off = differ e refl

      unmoved : list_any (λ r. is_digest (record_digest noted.records r) d) (moved_in noted k) ≡ false
      unmoved = last (same_key k l) (is_empty_for noted k n (partition_of d)) _ (ap (same_key k) (sym newly.key) ∙ same_key_itself k)
          (ap (is_empty_for noted k n) part ∙ newly_empty q here) (unless _ tried)

  -- all was tried but the records that moved, of partitions that were empty
  pub moved_trying : IsTrying noted (i + 1) (all_but_moved noted n k)
  moved_trying = exchange_trying (all_but_moved noted n k)
      (λ l q d newly bound part tried. newly_joins l q d newly part tried)

  pub exchange_takes : (after : Judge) → TriesEmpty n k (moved_in noted k) noted after → KeepsKnown noted after → AcceptsLine old after i (line.Exchanged n k)
  unfolding TriesEmpty
  exchange_takes after tries keeps =
      noted_takes old noted i (line.Exchanged n k) c exchange_noted (record { map = tt; losses = tt; joins = tt }) after
      (tried_with_empty (all_but_moved noted n k) noted n k (moved_in noted k)) keeps
      (tries (i + 1) (all_but_moved noted n k) exchange_noted.seen moved_trying)
      (λ l e. either (same_key k l && (is_empty_for noted k n (partition_of e) && list_any (λ r. is_digest (record_digest noted.records r) e) (moved_in noted k))))
    where
      either : (b : Bool) → (not b || b) ≡ true
      either true = refl
      either false = refl

  pub exchange_stops : (stop : Stop) → StopsEmpty noted stop → StopsRightly stop (so_far old i) (line.Exchanged n k)
  unfolding StopsEmpty StopsTrying
  exchange_stops stop h =
      noted_stops old noted i (line.Exchanged n k) c exchange_noted (record { map = tt; losses = tt; joins = tt }) stop
      (h (i + 1) (all_but_moved noted n k) exchange_noted.seen moved_trying)

pub exchange_ok : {E : Type 0} (old noted after : Judge) (i n : ℕ) (k : ClusterKey) → Comes old i (line.Exchanged n k) → KeepsStores old noted → NextFrame i (line.Exchanged n k) old noted
    → (r : Result (Unit {0}) E) → OnOk r (TriesEmpty n k (moved_in noted k) noted after) → OnOk r (KeepsKnown noted after) → OnOk r (AcceptsLine old after i (line.Exchanged n k))
exchange_ok {E} old noted after i n k c x next (Ok u) tries keeps = exchange_takes old noted i n k c x next after tries keeps
exchange_ok {E} old noted after i n k c x next (Err e) tries keeps = tt

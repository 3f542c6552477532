-- A node enters a view.
use Rattle.std.proofs.Common.{◌≡◌, ℕ, ◌==◌, ◌+◌, Bool, true, false, not, ◌&&◌, ◌||◌, cond, List, [], ◌∷◌, ◌++◌, Option, Some, None, refl, sym, ap, ap₂, subst, ◌∙◌, arith}
use Rattle.std.specs.Prelude.{is_some, take, nat_eq, option_and_then, Result, Ok, Err, OnOk}
use Rattle.std.specs.HashMap as hash
use Rattle.std.specs.List.{list_any, count_by}
use Rattle.conflict_order.specs.declared.policy.Policy.{Policy}
use Rattle.cluster_types.specs.declared.cluster_key.ClusterKey.{ClusterKey}
use Rattle.cluster_types.specs.declared.member.Member.{Member}
use Rattle.cluster_types.specs.ClusterKeys as keys
use Rattle.cluster_types.specs.Partitions.{partition_of}
use Rattle.partition_lists.specs.Lists as lists
use Rattle.journal_lines.specs.declared.line.Line.{Line}
use Rattle.journal_lines.specs.declared.line.Line.TheVariants as line
use Rattle.journal_readings.specs.Contents.{content}
use Rattle.journal_readings.specs.Entries.{entry, fold_of, applied_in}
use Rattle.journal_readings.specs.Lines.{same_key, has_node, is_enter, is_exchanged, is_settled_line, is_done_line}
use Rattle.journal_readings.specs.Settings.{policy_of}
use Rattle.journal_readings.specs.Settled.{is_settled, is_open_write}
use Rattle.journal_readings.specs.Shape.{Shape}
use Rattle.journal_readings.specs.Stamps.{is_empty_everywhere}
use Rattle.journal_readings.specs.Views.{view, some_key, master, first_of}
use Rattle.journal_readings.proofs.AlongLaws.{no_some, some_same}
use Rattle.journal_readings.proofs.Fronts.{same_key_is}
use Rattle.journal_readings.proofs.StepLaws.{applied_in-more, content-more, entry-more, view-more}
use Rattle.audit_laws.specs.Fits.{enters_key}
use Rattle.audit_laws.proofs.Headers.{policy_stays, factor_stays}
use Rattle.audit_laws.proofs.MapSteps.{members-front}
use Rattle.audit_laws.proofs.Quiet.{quiet, lines_before-other, members-other, master-other, settled-other, fold-other}
use Rattle.audit_laws.proofs.ShapeSteps.{same_key_itself}
use Rattle.audit_laws.proofs.Steps.{shape_step}
use Rattle.audit_laws.proofs.Tests.{differ, number_same, number_here}
use Rattle.audit_state.specs.declared.nodes.Node.{Node}
use Rattle.audit_state.specs.declared.views.Partition.{Partition}
use Rattle.audit_state.specs.declared.views.View.{View}
use Rattle.audit_state.specs.declared.views.Write.{Write}
use Rattle.audit_state.specs.Keys.{pair_eq}
use Rattle.audit_state.specs.OpenWrites.{done_in, open_in, is_done_write, open_of}
use Rattle.audit_state.specs.Records.{record_digest}
use Rattle.audit_state.specs.Views.{IsFreshView}
use Rattle.audit_state.specs.Written.{Stand, stand_in, stand_of}
use Rattle.audit_core.specs.declared.judge.Judge.{Judge}
use Rattle.audit_core.specs.declared.verdict.Stop.{Stop}
use Rattle.audit_core.specs.Audits.{Comes, AcceptsLine, so_far}
use Rattle.audit_core.specs.Frames.{Both}
use Rattle.audit_core.specs.Known.{node_at, kept_view}
use Rattle.audit_core.specs.NextFrames.{NextFrame}
use Rattle.audit_core.specs.Sees.{SeesFrame, SeesStand, SeesWrites, SeesStays, IsBound, AllJoin, IsTried, HasNoDoubts, is_open_in}
use Rattle.audit_core.specs.Steps.{ChangesNode, BeginsStay, OpensView, ChangesView, HasEntry, IsKnownOrFresh, EntersView}
use Rattle.audit_core.specs.Stored.{SeesStores}
use Rattle.audit_core.specs.Trying.{IsTriedOf, IsTrying, KeepsKnown, TriesPartitions, StopsTrying, settled_list, tried_with_partitions}
use Rattle.audit_core.specs.Verdicts.{StopsRightly}
use Rattle.audit_core.proofs.EnteredLaws.{IsUnentered, unentered_view, enters_first, unfinished, settler_entered, unless}
use Rattle.audit_core.proofs.OpenWriteLaws.{opened_same}
use Rattle.audit_core.proofs.PassLaws.{frame_next, covers_later}
use Rattle.audit_core.proofs.StillLaws.{LeavesHeld, stores_left, stand_kept, count-more, count_same, any-more, opens_same}
use Rattle.audit_core.proofs.TakenLaws.{IsNoted, SeesWrittenIn, noted_takes, noted_stops, covers_moved, suspect_moved, stores_moved, written_same, written_fresh, written_seen}
use Rattle.audit_core.proofs.VerdictLaws.{taken_next}

-- ---- what an entry makes of what is known

both_some : {A : Type 0} (R : A → A → Type 0) (o q : Option A) (a : A) → Both R o q → o ≡ Some a → (b : A) × (q ≡ Some b) × R a b
both_some R None None a x e = absurd (no_some e)
both_some R None (Some b) a x e = absurd x
both_some R (Some c) None a x e = absurd x
both_some R (Some c) (Some b) a x e = (b, refl, subst (λ (z : _). R z b) (some_same e) x)

pub enters_view : (place n : ℕ) (k : ClusterKey) (ms : List Member) (old opened noted new : Judge) → OpensView k ms old opened → ChangesView (HasEntry n place) k opened noted
    → ChangesNode (BeginsStay (some_key k)) n noted new → EntersView n place k ms old new
enters_view place n k ms old opened noted new a b c =
    let was : (x : View) × (kept_view opened k ≡ Some x) × IsKnownOrFresh k ms (kept_view old k) x = opens (kept_view old k) refl (kept_view opened k) refl in
    let y : (y : View) × (kept_view noted k ≡ Some y) × HasEntry n place was.0 y = both_some (HasEntry n place) (kept_view opened k) (kept_view noted k) was.0 b.here was.1 in
    record {
      rest = ap (λ (s : Judge). record s { nodes = old.nodes; views = old.views }) c.rest
          ∙ (ap (λ (s : Judge). record s { nodes = old.nodes; views = old.views }) b.rest ∙ ap (λ (s : Judge). record s { nodes = old.nodes }) a.rest);
      node = subst (λ (o : Option Node). Both (BeginsStay (some_key k)) o (node_at new n)) (same_nodes n) c.here;
      other_nodes = λ m e. c.others m e ∙ same_nodes m;
      was = was.0;
      before = was.2;
      now = y.0;
      there = ap (λ (s : Judge). kept_view s k) c.rest ∙ y.1;
      entry = y.2;
      other_views = λ l e. ap (λ (s : Judge). kept_view s l) c.rest ∙ (b.others l e ∙ a.others l e);
    }
  where
    same_nodes : (m : ℕ) → node_at noted m ≡ node_at old m
    same_nodes m = ap (λ (s : Judge). node_at s m) b.rest ∙ ap (λ (s : Judge). node_at s m) a.rest

    opens : (o : Option View) → kept_view old k ≡ o → (q : Option View) → kept_view opened k ≡ q → (x : View) × (kept_view opened k ≡ Some x) × IsKnownOrFresh k ms o x
    opens (Some z) e q f = (z, a.known z e, refl)
    opens None e (Some z) f = (z, f, a.fresh z e f)
    opens None e None f = differ a.there (ap (λ (o : Option View). is_some o) f)

-- ---- the lines

-- the lines so far and the entry
abbrev behind : Judge → ℕ → ℕ → ClusterKey → List Member → List Line
behind s i n k ms = so_far s i ++ line.Enter n k ms ∷ []

enter_leaves : (n : ℕ) (k : ClusterKey) (ms : List Member) → LeavesHeld (line.Enter n k ms)
enter_leaves n k ms = record {
  contents = λ by m d x. refl;
  copies = λ m q b. refl;
  applied = λ by d x. refl;
  writes = λ by l d x. refl;
  brings = λ d. refl;
}

none_added : (a : ℕ) → a + 0 ≡ a
none_added a = omega arith

-- the stand of a partition of the view, by the lines before the entry
record EnteredStand (j after : List Line) (k : ClusterKey) (q : ℕ) (w : Stand) : Type 0 where
  pub settled : w.settled ≡ list_any (is_settled_line k (master k q after) q) j
  pub open_writes : w.open_writes ≡ count_by (is_open_write k q (master k q after) j) j
  pub unsettled : w.settled ≡ false → HasNoDoubts w
  pub closed : w.settled ≡ true → IsBound k q after → w.open_writes ≡ 0 → HasNoDoubts w

-- the writes of a view, by the lines before the entry
record EnteredWrites (j after : List Line) (k : ClusterKey) (y : View) : Type 0 where
  pub done : (a t : ℕ) → is_done_write y a t ≡ list_any (is_done_line k a t) j
  pub open_writes : (a t p : ℕ) → master k p after ≡ a → count_by (λ q. q == p) (open_of y a t) ≡ count_by (is_open_in k p a t j) j
  pub by_master : (a t p : ℕ) → has_node (open_of y a t) p ≡ true → master k p after ≡ a

-- all records but those of these partitions in the view
abbrev pub outside : ClusterKey → List ℕ → ClusterKey → List ℕ → Bool
outside k ps l d = not (same_key k l && has_node ps (partition_of d))

some_key_is : (k l : ClusterKey) → some_key k ≡ Some l → k ≡ l
some_key_is k l = go (same_key k keys.none)
  where
    go : (b : Bool) → cond b None (Some k) ≡ Some l → k ≡ l
    go true e = absurd (no_some e)
    go false e = some_same e

module _ (old noted : Judge) (i n : ℕ) (k : ClusterKey) (ms : List Member) (c : Comes old i (line.Enter n k ms)) (x : EntersView n i k ms old noted) (next : NextFrame i (line.Enter n k ms) old noted) where
  lines_same : noted.lines.now ≡ old.lines.now
  lines_same = ap (λ (s : Judge). s.lines.now) x.rest

  front : so_far noted (i + 1) ≡ behind old i n k ms
  front = ap (take (i + 1)) lines_same ∙ taken_next old.lines.now i (line.Enter n k ms) c.stands

  entered_if : (z : View) → kept_view old k ≡ Some z → list_any (enters_key k) (so_far old i) ≡ true
  entered_if z e = sym (c.audits.state.frame.known_views k) ∙ ap (λ (o : Option View). is_some o) e

  unentered_if : kept_view old k ≡ None → IsUnentered (so_far old i) k
  unentered_if e = unentered_view (so_far old i) k c.audits.lawful.shape (sym (c.audits.state.frame.known_views k) ∙ ap (λ (o : Option View). is_some o) e)

  master_kept : (z : View) → kept_view old k ≡ Some z → (q : ℕ) → master k q (behind old i n k ms) ≡ master k q (so_far old i)
  master_kept z e q = ap (λ (xs : List Member). first_of (lists.list xs q)) (members-front k (so_far old i) (line.Enter n k ms ∷ []) (entered_if z e))

  -- another node's view is what it was
  view_kept : (m : ℕ) → (n == m) ≡ false → view m (behind old i n k ms) ≡ view m (so_far old i)
  view_kept m e = view-more m (so_far old i) (line.Enter n k ms) ∙ ap (λ (b : Bool). cond b (some_key k) (view m (so_far old i))) e

  now_is : (y : View) → kept_view noted k ≡ Some y → x.now ≡ y
  now_is y e = some_same (sym x.there ∙ e)

  -- ---- the view's partitions

  settler_apart : (m q : ℕ) → list_any (is_settled_line k m q) (so_far old i) ≡ true → (n == m) ≡ false
  settler_apart m q e = go (n == m) refl
    where
      go : (b : Bool) → (n == m) ≡ b → b ≡ false
      go false f = refl
      go true f = differ (settler_entered (so_far old i) k m q c.audits.lawful.shape e)
          (subst (λ (z : ℕ). list_any (is_enter k z) (so_far old i) ≡ false) (number_same n m f) (enters_first (so_far old i) n k ms c.shape))

  -- before the entry a partition is settled by its line alone
  settled_before : (q : ℕ) → is_settled k q (so_far old i) ≡ list_any (is_settled_line k (master k q (so_far old i)) q) (so_far old i)
  unfolding is_settled
  settled_before q =
      ap (λ (b : Bool). list_any (is_settled_line k (master k q (so_far old i)) q) (so_far old i) || (b && is_empty_everywhere k q (so_far old i))) (unfinished (so_far old i) n k ms c.audits.lawful.shape c.shape (master k q (so_far old i)))
      ∙ plain (list_any (is_settled_line k (master k q (so_far old i)) q) (so_far old i))
    where
      plain : (b : Bool) → (b || false) ≡ b
      plain true = refl
      plain false = refl

  stand_known : (z : View) → kept_view old k ≡ Some z → (q : ℕ) → EnteredStand (so_far old i) (behind old i n k ms) k q (stand_of z q)
  stand_known z e q = record {
    settled = (c.audits.state.tried.stands k q z e).settled ∙ ap (λ (m : ℕ). list_any (is_settled_line k m q) (so_far old i)) (sym (master_kept z e q));
    open_writes = (c.audits.state.tried.stands k q z e).open_writes ∙ ap (λ (m : ℕ). count_by (is_open_write k q m (so_far old i)) (so_far old i)) (sym (master_kept z e q));
    unsettled = λ off. c.audits.state.tried.unsettled k q z e (told ∙ off);
    closed = λ on bound none. (c.audits.state.tried.tried k q z e (record {
      settled = told ∙ on;
      remains = sym (view_kept (master k q (so_far old i)) (settler_apart (master k q (so_far old i)) q (sym (c.audits.state.tried.stands k q z e).settled ∙ on)))
          ∙ (ap (λ (m : ℕ). view m (behind old i n k ms)) (sym (master_kept z e q)) ∙ bound.remains);
    })).closed none;
  }
    where
      told : is_settled k q (so_far old i) ≡ (stand_of z q).settled
      told = settled_before q ∙ sym (c.audits.state.tried.stands k q z e).settled

  stand_fresh : kept_view old k ≡ None → (q : ℕ) → EnteredStand (so_far old i) (behind old i n k ms) k q (stand_in None)
  stand_fresh e q = record {
    settled = sym ((unentered_if e).settled (master k q (behind old i n k ms)) q);
    open_writes = sym ((unentered_if e).opens q (master k q (behind old i n k ms)) (so_far old i));
    unsettled = λ off. record { tried = refl; suspects = refl };
    closed = λ on bound none. record { tried = refl; suspects = refl };
  }

  stand_was : (q : ℕ) → EnteredStand (so_far old i) (behind old i n k ms) k q (stand_of x.was q)
  stand_was q = go (kept_view old k) refl x.before
    where
      go : (o : Option View) → kept_view old k ≡ o → IsKnownOrFresh k ms o x.was → EnteredStand (so_far old i) (behind old i n k ms) k q (stand_of x.was q)
      go (Some z) e same = subst (λ (y : View). EnteredStand (so_far old i) (behind old i n k ms) k q (stand_of y q)) (sym same) (stand_known z e q)
      go None e fresh = subst (λ (o : Option Partition). EnteredStand (so_far old i) (behind old i n k ms) k q (stand_in o)) (sym (fresh.partitions q)) (stand_fresh e q)

  stand_same : (q : ℕ) → stand_of x.now q ≡ stand_of x.was q
  stand_same q = ap (λ (m : _). stand_in (hash.get nat_eq m q)) x.entry.written.partitions

  stand_here : (q : ℕ) (y : View) → kept_view noted k ≡ Some y → EnteredStand (so_far old i) (behind old i n k ms) k q (stand_of y q)
  stand_here q y e = subst (λ (z : View). EnteredStand (so_far old i) (behind old i n k ms) k q (stand_of z q)) (now_is y e)
      (subst (EnteredStand (so_far old i) (behind old i n k ms) k q) (sym (stand_same q)) (stand_was q))

  listed_was : (q : ℕ) → has_node x.was.settled.items q ≡ (stand_of x.was q).settled
  listed_was q = go (kept_view old k) refl x.before
    where
      go : (o : Option View) → kept_view old k ≡ o → IsKnownOrFresh k ms o x.was → has_node x.was.settled.items q ≡ (stand_of x.was q).settled
      go (Some z) e same = subst (λ (y : View). has_node y.settled.items q ≡ (stand_of y q).settled) (sym same) (c.audits.state.tried.listed k q z e)
      go None e fresh = ap (λ (ps : List ℕ). has_node ps q) fresh.settled ∙ sym (ap (λ (o : Option Partition). (stand_in o).settled) (fresh.partitions q))

  listed_here : (q : ℕ) (y : View) → kept_view noted k ≡ Some y → has_node y.settled.items q ≡ (stand_of y q).settled
  listed_here q y e = subst (λ (z : View). has_node z.settled.items q ≡ (stand_of z q).settled) (now_is y e)
      (ap (λ (ps : List ℕ). has_node ps q) x.entry.written.settled ∙ (listed_was q ∙ sym (ap (λ (w : Stand). w.settled) (stand_same q))))

  settled_here : (q : ℕ) (w : Stand) → EnteredStand (so_far old i) (behind old i n k ms) k q w → is_settled k q (behind old i n k ms) ≡ w.settled
  unfolding is_settled
  settled_here q w h =
      ap₂ (λ (a b : Bool). a || (b && is_empty_everywhere k q (behind old i n k ms)))
      (any-more (is_settled_line k (master k q (behind old i n k ms)) q) (so_far old i) (line.Enter n k ms) refl ∙ sym h.settled)
      (any-more (is_exchanged k (master k q (behind old i n k ms))) (so_far old i) (line.Enter n k ms) refl ∙ unfinished (so_far old i) n k ms c.audits.lawful.shape c.shape (master k q (behind old i n k ms)))
      ∙ plain w.settled
    where
      plain : (b : Bool) → (b || false) ≡ b
      plain true = refl
      plain false = refl

  sees_here : (q : ℕ) (w : Stand) → EnteredStand (so_far old i) (behind old i n k ms) k q w → SeesStand (behind old i n k ms) k q w
  sees_here q w h = record {
    settled = h.settled ∙ sym (any-more (is_settled_line k (master k q (behind old i n k ms)) q) (so_far old i) (line.Enter n k ms) refl);
    open_writes = h.open_writes ∙ sym (count-more (is_open_write k q (master k q (behind old i n k ms)) (behind old i n k ms)) (so_far old i) (line.Enter n k ms)
        ∙ (ap (λ (a : ℕ). a + cond false 1 0) (count_same _ _ (opens_same k q (master k q (behind old i n k ms)) (so_far old i) (line.Enter n k ms) (λ t. refl)) (so_far old i) 0)
        ∙ none_added (count_by (is_open_write k q (master k q (behind old i n k ms)) (so_far old i)) (so_far old i))));
  }

  -- ---- other views

  others_views : (l : ClusterKey) → same_key k l ≡ false → (m : ℕ) → view m (behind old i n k ms) ≡ Some l → view m (so_far old i) ≡ Some l
  others_views l apart m e = (quiet (so_far old i) (line.Enter n k ms) l [] apart).views m (view m (so_far old i)) (sym (view-more m (so_far old i) (line.Enter n k ms)) ∙ e)

  others_settled : (l : ClusterKey) (q : ℕ) → same_key k l ≡ false → is_settled l q (behind old i n k ms) ≡ is_settled l q (so_far old i)
  others_settled l q apart = settled-other l q (so_far old i) (line.Enter n k ms) apart refl refl

  others_bound : (l : ClusterKey) (q : ℕ) → same_key k l ≡ false → IsBound l q (behind old i n k ms) → IsBound l q (so_far old i)
  others_bound l q apart bound = record {
    settled = sym (others_settled l q apart) ∙ bound.settled;
    remains = others_views l apart (master l q (so_far old i)) (ap (λ (m : ℕ). view m (behind old i n k ms)) (sym (master-other l q (so_far old i) (line.Enter n k ms) apart)) ∙ bound.remains);
  }

  others_join : (l : ClusterKey) (d : List ℕ) → same_key k l ≡ false → AllJoin l d (so_far old i) → AllJoin l d (behind old i n k ms)
  others_join l d apart h r replica in_view =
      ap (λ (by : Policy). content by r d (behind old i n k ms)) (policy_stays (so_far old i) (line.Enter n k ms) refl)
      ∙ (content-more (policy_of (so_far old i)) r d (so_far old i) (line.Enter n k ms)
      ∙ (h r (sym (ap₂ (λ (factor : ℕ) (xs : List Member). lists.is_replica_of r xs (partition_of d) factor) (factor_stays (so_far old i) (line.Enter n k ms) refl) (members-other l (so_far old i) (line.Enter n k ms) apart)) ∙ replica)
      (others_views l apart r in_view)
      ∙ sym (ap (λ (by : Policy). fold_of by l d (behind old i n k ms)) (policy_stays (so_far old i) (line.Enter n k ms) refl) ∙ fold-other (policy_of (so_far old i)) l d (so_far old i) (line.Enter n k ms) apart (λ v. refl))))

  -- ---- what is to be tried

  -- what holds of each view but this one, and of this one with its entry, holds of all
  each : (P : ClusterKey → View → Type 0) → ((l : ClusterKey) (y : View) → same_key k l ≡ false → kept_view old l ≡ Some y → P l y) → ((y : View) → kept_view noted k ≡ Some y → P k y)
      → (l : ClusterKey) (y : View) → kept_view noted l ≡ Some y → P l y
  each P others here l y e = go (same_key k l) refl
    where
      go : (b : Bool) → same_key k l ≡ b → P l y
      go true f = subst (λ (z : ClusterKey). P z y) (same_key_is k l f) (here y (ap (λ (z : ClusterKey). kept_view noted z) (same_key_is k l f) ∙ e))
      go false f = others l y f (sym (x.other_views l f) ∙ e)

  -- all was tried but the partitions that a line settles in the view
  pub noted_trying : IsTrying noted (i + 1) (outside k (settled_list (kept_view noted k)))
  noted_trying = record {
    stands = λ l q y e. subst (λ (ls : List Line). SeesStand ls l q (stand_of y q)) (sym front)
        (each (λ l y. SeesStand (behind old i n k ms) l q (stand_of y q))
        (λ l y apart there. stand_kept (so_far old i) (line.Enter n k ms) l q (stand_of y q) apart (λ m. refl) (λ m t. refl) (λ m ls. refl) (c.audits.state.tried.stands l q y there))
        (λ y there. sees_here q (stand_of y q) (stand_here q y there)) l y e);
    listed = λ l q. each (λ l y. has_node y.settled.items q ≡ (stand_of y q).settled) (λ l y apart there. c.audits.state.tried.listed l q y there) (λ y there. listed_here q y there) l;
    unsettled = λ l q y e none. each (λ l y. is_settled l q (behind old i n k ms) ≡ false → HasNoDoubts (stand_of y q))
        (λ l y apart there off. c.audits.state.tried.unsettled l q y there (sym (others_settled l q apart) ∙ off))
        (λ y there off. (stand_here q y there).unsettled (sym (settled_here q (stand_of y q) (stand_here q y there)) ∙ off)) l y e (sym (ap (is_settled l q) front) ∙ none);
    tried = λ l q y e bound. subst (λ (ls : List Line). IsTriedOf (outside k (settled_list (kept_view noted k)) l) noted ls l q (stand_of y q)) (sym front)
        (each (λ l y. IsBound l q (behind old i n k ms) → IsTriedOf (outside k (settled_list (kept_view noted k)) l) noted (behind old i n k ms) l q (stand_of y q))
        (λ l y apart there bound. others l q y apart (c.audits.state.tried.tried l q y there (others_bound l q apart bound)))
        (λ y there bound. here q y there bound) l y e (subst (IsBound l q) front bound));
    covers = covers_moved old noted (i + 1) x.rest (covers_later old i c.audits.state.covers);
  }
    where
      others : (l : ClusterKey) (q : ℕ) (y : View) → same_key k l ≡ false → IsTried old (so_far old i) l q (stand_of y q) → IsTriedOf (outside k (settled_list (kept_view noted k)) l) noted (behind old i n k ms) l q (stand_of y q)
      others l q y apart h = record {
        closed = h.closed;
        joined = λ untried d part tried clear. others_join l d apart (h.joined untried d part (λ w. clear (suspect_moved old noted (stand_of y q) d x.rest w)));
      }

      here : (q : ℕ) (y : View) → kept_view noted k ≡ Some y → IsBound k q (behind old i n k ms) → IsTriedOf (outside k (settled_list (kept_view noted k)) k) noted (behind old i n k ms) k q (stand_of y q)
      here q y there bound =
          let on : (stand_of y q).settled ≡ true = sym (settled_here q (stand_of y q) (stand_here q y there)) ∙ bound.settled in
          let listed : has_node (settled_list (kept_view noted k)) q ≡ true = ap (λ (o : Option View). has_node (settled_list o) q) there ∙ (listed_here q y there ∙ on) in
          record {
            closed = λ none. (stand_here q y there).closed on bound none;
            joined = λ untried d part tried clear.
                differ (ap (λ (p : ℕ). has_node (settled_list (kept_view noted k)) p) part ∙ listed)
                (subst (λ (b : Bool). (b && has_node (settled_list (kept_view noted k)) (partition_of d)) ≡ false) (same_key_itself k) (unless _ tried));
          }

  -- ---- writes

  writes_known : (z : View) → kept_view old k ≡ Some z → EnteredWrites (so_far old i) (behind old i n k ms) k z
  writes_known z e = record {
    done = λ a t. c.audits.state.writes.done k z a t e;
    open_writes = λ a t p first. c.audits.state.writes.open_writes k z a t p e (sym (master_kept z e p) ∙ first);
    by_master = λ a t p has. master_kept z e p ∙ c.audits.state.writes.by_master k z a t p e has;
  }

  writes_fresh : (z : View) → kept_view old k ≡ None → IsFreshView k ms z → EnteredWrites (so_far old i) (behind old i n k ms) k z
  writes_fresh z e fresh = record {
    done = λ a t. ap (λ (o : Option Write). done_in o) (fresh.writes a t) ∙ sym ((unentered_if e).done a t);
    open_writes = λ a t p first. ap (λ (o : Option Write). count_by (λ (q : ℕ). q == p) (open_in o)) (fresh.writes a t) ∙ sym ((unentered_if e).opened p a t (so_far old i));
    by_master = λ a t p has. differ has (ap (λ (o : Option Write). has_node (open_in o) p) (fresh.writes a t));
  }

  writes_was : EnteredWrites (so_far old i) (behind old i n k ms) k x.was
  writes_was = go (kept_view old k) refl x.before
    where
      go : (o : Option View) → kept_view old k ≡ o → IsKnownOrFresh k ms o x.was → EnteredWrites (so_far old i) (behind old i n k ms) k x.was
      go (Some z) e same = subst (EnteredWrites (so_far old i) (behind old i n k ms) k) (sym same) (writes_known z e)
      go None e fresh = writes_fresh x.was e fresh

  writes_here : (y : View) → kept_view noted k ≡ Some y → EnteredWrites (so_far old i) (behind old i n k ms) k y
  writes_here y e = subst (EnteredWrites (so_far old i) (behind old i n k ms) k) (now_is y e) (record {
    done = λ a t. ap (λ (w : _). done_in (hash.get pair_eq w (a, t))) x.entry.written.writes ∙ writes_was.done a t;
    open_writes = λ a t p first. ap (λ (w : _). count_by (λ (q : ℕ). q == p) (open_in (hash.get pair_eq w (a, t)))) x.entry.written.writes ∙ writes_was.open_writes a t p first;
    by_master = λ a t p has. writes_was.by_master a t p (ap (λ (w : _). has_node (open_in (hash.get pair_eq w (a, t))) p) (sym x.entry.written.writes) ∙ has);
  })

  writes_others : (l : ClusterKey) (y : View) → same_key k l ≡ false → kept_view old l ≡ Some y → EnteredWrites (so_far old i) (behind old i n k ms) l y
  writes_others l y apart e = record {
    done = λ a t. c.audits.state.writes.done l y a t e;
    open_writes = λ a t p first. c.audits.state.writes.open_writes l y a t p e (sym (master-other l p (so_far old i) (line.Enter n k ms) apart) ∙ first);
    by_master = λ a t p has. master-other l p (so_far old i) (line.Enter n k ms) apart ∙ c.audits.state.writes.by_master l y a t p e has;
  }

  writes_all : (l : ClusterKey) (y : View) → kept_view noted l ≡ Some y → EnteredWrites (so_far old i) (behind old i n k ms) l y
  writes_all = each (EnteredWrites (so_far old i) (behind old i n k ms)) writes_others writes_here

  writes_noted : SeesWrites noted (behind old i n k ms)
  writes_noted = record {
    done = λ l y a t e. (writes_all l y e).done a t ∙ sym (any-more (is_done_line l a t) (so_far old i) (line.Enter n k ms) refl);
    open_writes = λ l y a t p e first. (writes_all l y e).open_writes a t p first ∙ sym (count-more (is_open_in l p a t (behind old i n k ms)) (so_far old i) (line.Enter n k ms)
        ∙ (ap (λ (b : ℕ). b + cond false 1 0) (count_same _ _ (opened_same l p a t (so_far old i) (line.Enter n k ms) (λ u. refl)) (so_far old i) 0)
        ∙ none_added (count_by (is_open_in l p a t (so_far old i)) (so_far old i))));
    by_master = λ l y a t p e has. (writes_all l y e).by_master a t p has;
  }

  -- ---- stays

  held_same : (by : Policy) (m : ℕ) (d : List ℕ) → content by m d (behind old i n k ms) ≡ content by m d (so_far old i)
  held_same by m d = content-more by m d (so_far old i) (line.Enter n k ms)

  -- what the node holds as it enters
  entry_here : (by : Policy) (d : List ℕ) → entry by k n d (behind old i n k ms) ≡ content by n d (so_far old i)
  entry_here by d =
      entry-more by k n d (so_far old i) (line.Enter n k ms)
      ∙ ap₂ (λ (a b : Bool). cond a (entry by k n d (so_far old i)) (cond b (content by n d (so_far old i)) None)) (enters_first (so_far old i) n k ms c.shape)
      (ap₂ (λ (a b : Bool). a && b) (number_here n) (same_key_itself k))

  entry_others : (by : Policy) (l : ClusterKey) (m : ℕ) (d : List ℕ) → (n == m) ≡ false → entry by l m d (behind old i n k ms) ≡ entry by l m d (so_far old i)
  unfolding entry
  entry_others by l m d apart = ap (option_and_then (λ before. content by m d before)) (lines_before-other (is_enter l m) (so_far old i) (line.Enter n k ms) (ap (λ (b : Bool). b && same_key k l) apart))

  same_policy : policy_of (behind old i n k ms) ≡ policy_of (so_far old i)
  same_policy = policy_stays (so_far old i) (line.Enter n k ms) refl

  stays_noted : SeesStays noted (behind old i n k ms)
  stays_noted = record {
    unchanged = λ m r node l d there in_view named apart.
        subst (λ (by : Policy). content by m d (behind old i n k ms) ≡ entry by l m d (behind old i n k ms)) (sym same_policy)
        (go m r node l d there in_view (sym (ap (λ (s : Judge). record_digest s.records r) x.rest) ∙ named) apart (n == m) refl);
  }
    where
      begun : (o q : Option Node) (node : Node) → Both (BeginsStay (some_key k)) o q → q ≡ Some node → node.view ≡ some_key k
      begun None None node h e = absurd (no_some e)
      begun None (Some b) node h e = absurd h
      begun (Some a) None node h e = absurd h
      begun (Some a) (Some b) node h e = ap (λ (z : Node). z.view) (sym (some_same e)) ∙ h.moved.view

      go : (m r : ℕ) (node : Node) (l : ClusterKey) (d : List ℕ) → node_at noted m ≡ Some node → node.view ≡ Some l → record_digest old.records r ≡ Some d → has_node node.stay.items r ≡ false → (b : Bool) → (n == m) ≡ b
          → content (policy_of (so_far old i)) m d (behind old i n k ms) ≡ entry (policy_of (so_far old i)) l m d (behind old i n k ms)
      go m r node l d there in_view named apart true f =
          let key : k ≡ l = some_key_is k l (sym (begun (node_at old n) (node_at noted n) node x.node (ap (node_at noted) (number_same n m f) ∙ there)) ∙ in_view) in
          subst (λ (z : ℕ). content (policy_of (so_far old i)) z d (behind old i n k ms) ≡ entry (policy_of (so_far old i)) l z d (behind old i n k ms)) (number_same n m f)
          (subst (λ (z : ClusterKey). content (policy_of (so_far old i)) n d (behind old i n k ms) ≡ entry (policy_of (so_far old i)) z n d (behind old i n k ms)) key
          (held_same (policy_of (so_far old i)) n d ∙ sym (entry_here (policy_of (so_far old i)) d)))
      go m r node l d there in_view named apart false f =
          held_same (policy_of (so_far old i)) m d
          ∙ (c.audits.state.stays.unchanged m r node l d (sym (x.other_nodes m f) ∙ there) in_view named apart
          ∙ sym (entry_others (policy_of (so_far old i)) l m d f))

  -- ---- all of it

  written_was : SeesWrittenIn old.records old.lines.now (take (i + 1) old.lines.now) k x.was
  written_was = go (kept_view old k) refl x.before
    where
      none : kept_view old k ≡ None → (d : List ℕ) → applied_in (policy_of (take (i + 1) old.lines.now)) k d (take (i + 1) old.lines.now) ≡ None
      none e d = subst (λ (ls : List Line). applied_in (policy_of ls) k d ls ≡ None) (sym (taken_next old.lines.now i (line.Enter n k ms) c.stands))
          (applied_in-more (policy_of (behind old i n k ms)) k d (so_far old i) (line.Enter n k ms) ∙ (unentered_if e).applied (policy_of (behind old i n k ms)) d)

      stores_behind : SeesStores old (i + 1) old.lines.now (take (i + 1) old.lines.now)
      stores_behind = stores_left old i old.lines.now (line.Enter n k ms) c.stands (enter_leaves n k ms) refl c.audits.state.stores

      go : (o : Option View) → kept_view old k ≡ o → IsKnownOrFresh k ms o x.was → SeesWrittenIn old.records old.lines.now (take (i + 1) old.lines.now) k x.was
      go (Some z) e same = subst (SeesWrittenIn old.records old.lines.now (take (i + 1) old.lines.now) k) (sym same)
          (written_seen old old.lines.now (take (i + 1) old.lines.now) k z stores_behind.written e)
      go None e fresh = written_fresh old.records old.lines.now (take (i + 1) old.lines.now) k ms x.was fresh (none e)

  stores_noted : SeesStores noted (i + 1) old.lines.now (take (i + 1) old.lines.now)
  stores_noted =
      let h : SeesStores old (i + 1) old.lines.now (take (i + 1) old.lines.now) = stores_left old i old.lines.now (line.Enter n k ms) c.stands (enter_leaves n k ms) refl c.audits.state.stores in
      stores_moved old noted (i + 1) old.lines.now (take (i + 1) old.lines.now) x.rest
      (each (SeesWrittenIn old.records old.lines.now (take (i + 1) old.lines.now))
      (λ l y apart there. written_seen old old.lines.now (take (i + 1) old.lines.now) l y h.written there)
      (λ y there. subst (SeesWrittenIn old.records old.lines.now (take (i + 1) old.lines.now) k) (now_is y there) (written_same old.records old.lines.now (take (i + 1) old.lines.now) k x.was x.now x.entry.written written_was)))
      h

  pub entry_noted : IsNoted old noted i
  entry_noted = record {
    lines = lines_same;
    seen = record {
      shape = subst Shape (sym front) ((shape_step (so_far old i) (line.Enter n k ms)).1 (c.audits.lawful.shape, c.shape));
      frame = subst (λ (ls : List Line). SeesFrame noted (take (i + 1) ls)) (sym lines_same) (frame_next old noted i (line.Enter n k ms) c next);
      stores = subst (λ (ls : List Line). SeesStores noted (i + 1) ls (take (i + 1) ls)) (sym lines_same) stores_noted;
    };
    writes = subst (SeesWrites noted) (sym front) writes_noted;
    stays = subst (SeesStays noted) (sym front) stays_noted;
  }

  pub enter_takes : (after : Judge) → TriesPartitions (i + 1) k (settled_list (kept_view noted k)) noted after → KeepsKnown noted after → AcceptsLine old after i (line.Enter n k ms)
  unfolding TriesPartitions
  enter_takes after tries keeps =
      noted_takes old noted i (line.Enter n k ms) c entry_noted (record { map = tt; losses = tt; joins = tt }) after
      (tried_with_partitions (outside k (settled_list (kept_view noted k))) k (settled_list (kept_view noted k))) keeps
      (tries (outside k (settled_list (kept_view noted k))) entry_noted.seen noted_trying)
      (λ l e. either (same_key k l && has_node (settled_list (kept_view noted k)) (partition_of e)))
    where
      either : (b : Bool) → (not b || b) ≡ true
      either true = refl
      either false = refl

  pub enter_stops : (stop : Stop) → StopsTrying noted (i + 1) stop → StopsRightly stop (so_far old i) (line.Enter n k ms)
  unfolding StopsTrying
  enter_stops stop h =
      noted_stops old noted i (line.Enter n k ms) c entry_noted (record { map = tt; losses = tt; joins = tt }) stop
      (h (outside k (settled_list (kept_view noted k))) entry_noted.seen noted_trying)

pub entered_ok : {E : Type 0} (old noted after : Judge) (i n : ℕ) (k : ClusterKey) (ms : List Member) → Comes old i (line.Enter n k ms) → EntersView n i k ms old noted → NextFrame i (line.Enter n k ms) old noted
    → (r : Result (Unit {0}) E) → OnOk r (TriesPartitions (i + 1) k (settled_list (kept_view noted k)) noted after) → OnOk r (KeepsKnown noted after) → OnOk r (AcceptsLine old after i (line.Enter n k ms))
entered_ok {E} old noted after i n k ms c x next (Ok u) tries keeps = enter_takes old noted i n k ms c x next after tries keeps
entered_ok {E} old noted after i n k ms c x next (Err e) tries keeps = tt

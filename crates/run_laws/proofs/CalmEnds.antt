-- Where the rounds have come to calm, the lines show the world at rest.
use Rattle.std.proofs.Common.{◌≡◌, ℕ, ◌<◌, ◌==◌, Bool, true, false, not, ◌&&◌, ◌||◌, is_some, List, [], ◌∷◌, ◌++◌, length, Option, Some, None, inl, inr, refl, sym, ap, ◌∙◌, subst, arith, ⊎_elim, ◌⊎◌, append-nil}
use Rattle.std.specs.Prelude.{Contains, IsTrue, nat_lt, option_map}
use Rattle.std.specs.List.{list_any, list_all, concat}
use Rattle.std.specs.FinMap as finite
use Rattle.conflict_order.specs.declared.version.Version.{Version}
use Rattle.conflict_order.specs.Join.{AtMost}
use Rattle.conflict_order.proofs.OrderLaws.{AtMost_refl, AtMost_none, AtMost_antisymm}
use Rattle.cluster_types.specs.declared.cluster_key.ClusterKey.{ClusterKey}
use Rattle.cluster_types.specs.declared.member.Member.{Member}
use Rattle.cluster_types.specs.declared.member.Role.{Role}
use Rattle.cluster_types.specs.Members.{ids_of}
use Rattle.cluster_types.specs.Partitions.{partition_count, partition_of}
use Rattle.partition_lists.specs.Lists.{in_order}
use Rattle.partition_lists.proofs.InOrderLaws.{Has, has_filter}
use Rattle.partition_lists.proofs.ListLaws.{any_is_contained, map_same}
use Rattle.journal_lines.specs.declared.line.Line.{Line}
use Rattle.journal_lines.specs.declared.line.Line.TheVariants as line
use Rattle.node_rules.specs.Batches.{Targets, Target, target, is_pending}
use Rattle.node_rules.specs.Copies.{is_of, holds_of}
use Rattle.node_rules.specs.Facts.{list_at, members_of_view}
use Rattle.node_rules.specs.Map.{is_empty}
use Rattle.node_rules.specs.Standing as standing
use Rattle.node_rules.specs.Standing.{is_done, is_all_empty, is_to_drop, has_settled_bit}
use Rattle.node_rules.specs.Tables.{contains}
use Rattle.node_rules.specs.Transactions.{Transaction, transaction}
use Rattle.cluster_rules.specs.Calm.{up_in, as_members}
use Rattle.journal_readings.specs.CalmEnd.{IsSpread, HasNewest, IsSettledThroughout, IsUndivided, IsAtRest}
use Rattle.journal_readings.specs.Contents.{content, applied}
use Rattle.journal_readings.specs.Entries.{fold_of}
use Rattle.journal_readings.specs.Lines.{has_node, same_key, is_exchanged, is_settled_line}
use Rattle.journal_readings.specs.Lines as lines
use Rattle.journal_readings.specs.Settings as settings
use Rattle.journal_readings.specs.Settings.{nodes, groups_of, present_role, with_present_roles, up_members}
use Rattle.journal_readings.specs.Settled.{is_settled, is_settled_by, is_open_write, has_open_write}
use Rattle.journal_readings.specs.Stamps.{is_empty_at_entry, is_empty_everywhere}
use Rattle.journal_readings.specs.Views as views
use Rattle.cluster_rules.specs.World.{is_up, member_now}
use Rattle.cluster_laws.specs.Ground.{Ground, IsGround, is_view_member, view_master, is_view_replica, view_acting, is_view_empty}
use Rattle.cluster_laws.specs.Licences.{IsDone}
use Rattle.cluster_laws.specs.Picture.{Picture}
use Rattle.cluster_laws.specs.Stay.{Applied}
use Rattle.cluster_laws.proofs.At.{and_left, and_right, and_both, or_cases, number_same, number_here, differ, some_same, no_some}
use Rattle.cluster_laws.proofs.GroundLaws.{empty_row, empty_acting, master_replica, replica_member}
use Rattle.cluster_laws.proofs.ReadingClaims.{master_is, replica_is, settled_at}
use Rattle.cluster_laws.proofs.ReadingLines.{or_left_true, or_right_true}
use Rattle.cluster_laws.proofs.ReadingTies.{in_view_entered, members_of}
use Rattle.cluster_laws.proofs.Settled as laws
use Rattle.run_laws.specs.Fronts.{Front, world_of, facts_at, Tied, Sane}
use Rattle.run_laws.specs.LineOk.{CalmOk}
use Rattle.run_laws.specs.Tied.{Among, Stays, Views, RowsAgree, has_pending, running_from}
use Rattle.run_laws.proofs.Arrivals.{below_count}
use Rattle.run_laws.proofs.CalmReadings.{Told, is_apply}
use Rattle.run_laws.proofs.Classes.{empty_tied, replica_tied}
use Rattle.run_laws.proofs.Places.{Grouped}
use Rattle.run_laws.proofs.Residents.{Resident, GroupRests, group_rests, member_up, all_has, has_of, contained, none_of_part}
use Rattle.run_laws.proofs.Standing.{views_at, member_at, rows_at, stay_at, closing_at}
use Rattle.run_laws.proofs.Words.{filter_same}

-- a front where the world is calm, with the picture and the lines there
pub record AtCalm (ns : List ℕ) (G : Ground) (z : Front) (w : Picture) (j : List Line) : Type 0 where
  pub ground : IsGround G
  pub sane : Sane G (world_of z)
  pub tied : Tied z w
  pub told : Told G ns j w
  pub calm : CalmOk z
  pub grouped : Grouped (world_of z)
  -- what a reader finds is what the world has
  pub known : (world_of z).nodes ≡ ns
  pub declared : nodes j ≡ ns
  pub groups : groups_of j ≡ (world_of z).network.groups
  pub ups : (n : ℕ) → has_node ns n ≡ true → settings.is_node_up n j ≡ is_up (world_of z) n
  pub roles : (n : ℕ) → present_role n j ≡ ((world_of z).facts n).role

-- ---- a member of the view

-- a node that is at rest in the view
record Lives (G : Ground) (z : Front) (w : Picture) (j : List Line) (k : ClusterKey) (n : ℕ) : Type 0 where
  resident : Resident k (members_of_view (facts_at z n)) (facts_at z n)
  view : (w.node n).view ≡ Some k
  read : views.view n j ≡ Some k
  entered : (w.stay n k).entered ≡ true
  stays : Stays (facts_at z n) (w.stay n k)
  open_yet : (w.stay n k).closing ≡ false
  views : Views G k (facts_at z n)
  member : is_view_member G k n ≡ true
  rows : RowsAgree G k (facts_at z n).exchange.rows

lives : {ns : List ℕ} (G : Ground) (z : Front) (w : Picture) (j : List Line) (k : ClusterKey) (set : List Member) (n : ℕ) → AtCalm ns G z w j → Resident k set (facts_at z n) → Lives G z w j k n
lives {ns} G z w j k set n x r = record {
  resident = record { exchanged = r.exchanged; view = r.view; members = refl; settled = r.settled; dropped = r.dropped; idle = r.idle };
  view = view;
  read = x.told.tied.views n ∙ view;
  entered = in_view_entered G ns j w x.told.tied n k view;
  stays = stay_at z w n k x.tied r.view;
  open_yet = closing_at z w n k x.tied r.view ∙ x.calm.stays n;
  views = views_at G n (facts_at z n) k (x.sane.nodes n) r.view;
  member = member_at G n (facts_at z n) k (x.sane.nodes n) r.view;
  rows = rows_at G n (facts_at z n) k (x.sane.nodes n) r.view r.exchanged;
}
  where
    view : (w.node n).view ≡ Some k
    view = (x.tied.nodes n).seen.view ∙ r.view

-- each member of the view of that key is so, and the reader finds the ground's members
record Filled (G : Ground) (z : Front) (w : Picture) (j : List Line) (k : ClusterKey) : Type 0 where
  each : (m : ℕ) → is_view_member G k m ≡ true → Lives G z w j k m
  members : views.members k j ≡ G.members k
  node : ℕ
  inside : is_view_member G k node ≡ true

-- ---- partitions

-- nobody misses a row of a partition that all entered empty
read_empty : {ns : List ℕ} (G : Ground) (z : Front) (w : Picture) (j : List Line) (k : ClusterKey) (p : ℕ) → AtCalm ns G z w j → Filled G z w j k → is_view_empty G k p ≡ true → is_empty_everywhere k p j ≡ true
unfolding is_empty_everywhere
read_empty {ns} G z w j k p x f e = subst (λ (ms : List Member). list_all (λ m. is_empty_at_entry k m.id p j) ms ≡ true) (sym f.members) (each (G.members k) (λ m i. i))
  where
    each : (ms : List Member) → ((m : ℕ) → contains (ids_of ms) m ≡ true → is_view_member G k m ≡ true) → list_all (λ m. is_empty_at_entry k m.id p j) ms ≡ true
    each [] inside = refl
    each (m ∷ ms) inside = and_both (is_empty_at_entry k m.id p j) _ (one m.id (inside m.id (or_left_true (m.id == m.id) _ (number_here m.id)))) (each ms (λ o i. inside o (or_right_true (m.id == o) _ i)))
      where
        one : (o : ℕ) → is_view_member G k o ≡ true → is_empty_at_entry k o p j ≡ true
        one o i = x.told.tied.empties o k p (f.each o i).entered ∙ ap is_empty (empty_row G k p o e i)

-- the list master is a member
master_inside : {ns : List ℕ} (G : Ground) (z : Front) (w : Picture) (j : List Line) (k : ClusterKey) (p : ℕ) → AtCalm ns G z w j → Filled G z w j k → is_view_member G k (view_master G k p) ≡ true
master_inside G z w j k p x f = replica_member G k p (view_master G k p) (master_replica G x.ground k p f.node f.inside)

-- each partition is settled
settled_here : {ns : List ℕ} (G : Ground) (z : Front) (w : Picture) (j : List Line) (k : ClusterKey) (p : ℕ) → AtCalm ns G z w j → Filled G z w j k → p < partition_count → is_settled k p j ≡ true
unfolding is_settled
settled_here {ns} G z w j k p x f below = subst (λ (m : ℕ). is_settled_by k p m j ≡ true) (sym (master_is G k p j f.members)) (go (or_cases (has_settled_bit (facts_at z (view_master G k p)) p) _ (l.resident.settled p below)))
  where
    l : Lives G z w j k (view_master G k p)
    l = f.each (view_master G k p) (master_inside G z w j k p x f)

    go : (has_settled_bit (facts_at z (view_master G k p)) p ≡ true) ⊎ (((facts_at z (view_master G k p)).exchange.exchanged && is_all_empty (facts_at z (view_master G k p)) p) ≡ true) → is_settled_by k p (view_master G k p) j ≡ true
    go (inl bit) = or_left_true (list_any (is_settled_line k (view_master G k p) p) j) _ (x.told.settled k p ((x.told.tied.sound.whole.known.cross (view_master G k p) k).settled p (l.stays.settled p ∙ bit)))
    go (inr none) = or_right_true (list_any (is_settled_line k (view_master G k p) p) j) _ (and_both (list_any (is_exchanged k (view_master G k p)) j) _
        (x.told.tied.exchanged (view_master G k p) k ∙ l.stays.exchanged ∙ l.resident.exchanged)
        (read_empty G z w j k p x f (sym (empty_tied G k (facts_at z (view_master G k p)) p l.views l.rows) ∙ and_right (facts_at z (view_master G k p)).exchange.exchanged _ none)))

-- a line that passes the test, if one does
some_line : (test : Line → Bool) (j : List Line) → list_any test j ≡ true → (l : Line) × (test l ≡ true) × ((other : Line → Bool) → other l ≡ true → list_any other j ≡ true)
some_line test [] e = differ e refl
some_line test (l ∷ j) e = go (test l) refl e (some_line test j)
  where
    go : (b : Bool) → test l ≡ b → (b || list_any test j) ≡ true → (list_any test j ≡ true → (l : Line) × (test l ≡ true) × ((other : Line → Bool) → other l ≡ true → list_any other j ≡ true))
        → (x : Line) × (test x ≡ true) × ((other : Line → Bool) → other x ≡ true → list_any other (l ∷ j) ≡ true)
    go true i q rest = (l, i, λ other h. or_left_true (other l) (list_any other j) h)
    go false i q rest = let r = rest q in (r.0, r.1, λ other h. or_right_true (other l) (list_any other j) (r.2 other h))

-- no write of the list master is open
closed_here : {ns : List ℕ} (G : Ground) (z : Front) (w : Picture) (j : List Line) (k : ClusterKey) (p : ℕ) → AtCalm ns G z w j → Filled G z w j k → has_open_write k p j ≡ false
unfolding has_open_write
closed_here {ns} G z w j k p x f = subst (λ (m : ℕ). list_any (is_open_write k p m j) j ≡ false) (sym (master_is G k p j f.members)) (go (list_any (is_open_write k p (view_master G k p) j) j) refl)
  where
    l : Lives G z w j k (view_master G k p)
    l = f.each (view_master G k p) (master_inside G z w j k p x f)

    nothing : (t : ℕ) → (w.stay (view_master G k p) k).running t ≡ None
    nothing t = l.stays.running t ∙ ap (λ (ys : List Transaction). option_map running_from (transaction (record (facts_at z (view_master G k p)).transactions { running = ys }) t)) l.resident.idle

    all_done : (t : ℕ) → list_any (is_apply k (view_master G k p) t) j ≡ true → list_any (lines.is_done_line k (view_master G k p) t) j ≡ true
    all_done t e = by_write ((w.stay (view_master G k p) k).writes t) refl (x.told.writes (view_master G k p) k t e)
      where
        by_write : (o : Option Applied) → (w.stay (view_master G k p) k).writes t ≡ o → is_some o ≡ true → list_any (lines.is_done_line k (view_master G k p) t) j ≡ true
        by_write None i s = differ s refl
        by_write (Some a) i s = x.told.done (view_master G k p) k t (⊎_elim (λ d. d) (λ c. ⊎_elim (λ leaves. differ leaves l.open_yet) (λ o. no_some (sym (nothing t) ∙ o.running)) c)
            ((x.told.tied.sound.whole.known.txns (view_master G k p) k).stands t a i))

    never : (y : Line) → is_open_write k p (view_master G k p) j y ≡ true → ((other : Line → Bool) → other y ≡ true → list_any other j ≡ true) → ⊥
    never (line.Apply m u t d v) e among =
        let b : (same_key u k && ((partition_of d == p) && not (list_any (lines.is_done_line k (view_master G k p) t) j))) ≡ true = and_right (m == view_master G k p) _ e in
        let c : ((partition_of d == p) && not (list_any (lines.is_done_line k (view_master G k p) t) j)) ≡ true = and_right (same_key u k) _ b in
        apart (list_any (lines.is_done_line k (view_master G k p) t) j)
        (and_right (partition_of d == p) _ c)
        (all_done t (among (is_apply k (view_master G k p) t) (and_both (m == view_master G k p) _ (and_left (m == view_master G k p) _ e) (and_both (same_key u k) (t == t) (and_left (same_key u k) _ b) (number_here t)))))
      where
        apart : (b : Bool) → not b ≡ true → b ≡ true → ⊥
        apart true y z = differ y refl
        apart false y z = differ z refl
    never _ e among = differ e refl

    go : (b : Bool) → list_any (is_open_write k p (view_master G k p) j) j ≡ b → b ≡ false
    go false e = refl
    go true e = let y = some_line (is_open_write k p (view_master G k p) j) j e in absurd (never y.0 y.1 y.2)

-- the list master is in the view
served_here : {ns : List ℕ} (G : Ground) (z : Front) (w : Picture) (j : List Line) (k : ClusterKey) (p : ℕ) → AtCalm ns G z w j → Filled G z w j k → views.view (views.master k p j) j ≡ Some k
served_here G z w j k p x f = subst (λ (m : ℕ). views.view m j ≡ Some k) (sym (master_is G k p j f.members)) (f.each (view_master G k p) (master_inside G z w j k p x f)).read

throughout : {ns : List ℕ} (G : Ground) (z : Front) (w : Picture) (j : List Line) (k : ClusterKey) → AtCalm ns G z w j → Filled G z w j k → IsSettledThroughout k j
throughout G z w j k x f = record { settled = λ p below. settled_here G z w j k p x f below; closed = λ p below. closed_here G z w j k p x f; served = λ p below. served_here G z w j k p x f }

-- ---- records

-- each replica holds the fold
replica_holds : {ns : List ℕ} (G : Ground) (z : Front) (w : Picture) (j : List Line) (k : ClusterKey) (n : ℕ) (d : List ℕ) → AtCalm ns G z w j → Filled G z w j k → views.is_replica G.factor k (partition_of d) n j ≡ true → content G.by n d j ≡ fold_of G.by k d j
replica_holds {ns} G z w j k n d x f rep = settled_at G ns j w x.told.tied k n d (settled_here G z w j k (partition_of d) x f (below_count d)) (closed_here G z w j k (partition_of d) x f) rep
    (f.each n (replica_member G k (partition_of d) n (sym (replica_is G k (partition_of d) n j f.members) ∙ rep))).read

-- nothing is pending of a partition of which nothing is pending to anybody
none_pends : (p : ℕ) (ts : Targets) → ((t : Target) → Among ts t → target ts t.node ≡ Some t) → ((r : ℕ) (d : List ℕ) → partition_of d ≡ p → has_pending (target ts r) d ≡ false) → is_pending ts p ≡ false
none_pends p ts aims none = go ts (λ t a. a)
  where
    one : (t : Target) → Among ts t → list_any (is_of p) t.pending ≡ false
    one t a = by_test (list_any (is_of p) t.pending) refl
      where
        has : (ds : List (List ℕ)) → list_any (is_of p) ds ≡ true → (d : List ℕ) × (partition_of d ≡ p) × (has_pending (Some (record t { pending = ds })) d ≡ true)
        has [] e = differ e refl
        has (d ∷ ds) e = here (is_of p d) refl e (has ds)
          where
            itself : (d : List ℕ) → Rattle.std.specs.Prelude.bytes_eq d d ≡ true
            itself d = Rattle.cluster_laws.proofs.At.digests.here d

            here : (b : Bool) → is_of p d ≡ b → (b || list_any (is_of p) ds) ≡ true → (list_any (is_of p) ds ≡ true → (e : List ℕ) × (partition_of e ≡ p) × (has_pending (Some (record t { pending = ds })) e ≡ true))
                → (e : List ℕ) × (partition_of e ≡ p) × (has_pending (Some (record t { pending = d ∷ ds })) e ≡ true)
            here true i q rest = (d, number_same (partition_of d) p i, or_left_true _ _ (itself d))
            here false i q rest = let r = rest q in (r.0, r.1, or_right_true _ _ r.2)

        by_test : (b : Bool) → list_any (is_of p) t.pending ≡ b → b ≡ false
        by_test false e = refl
        by_test true e = let x = has t.pending e in differ (ap (λ o. has_pending o x.0) (aims t a) ∙ x.2) (none t.node x.0 x.1)

    go : (us : Targets) → ((t : Target) → Among us t → Among ts t) → is_pending us p ≡ false
    go [] inside = refl
    go (t ∷ us) inside = neither (list_any (is_of p) t.pending) (is_pending us p) (one t (inside t (inl refl))) (go us (λ u a. inside u (inr a)))
      where
        neither : (a b : Bool) → a ≡ false → b ≡ false → (a || b) ≡ false
        neither a b x y = grind arith

-- who is no replica holds nothing
other_holds : {ns : List ℕ} (G : Ground) (z : Front) (w : Picture) (j : List Line) (k : ClusterKey) (n : ℕ) (d : List ℕ) → AtCalm ns G z w j → Filled G z w j k → is_view_member G k n ≡ true → is_view_replica G k (partition_of d) n ≡ false → content G.by n d j ≡ None
other_holds {ns} G z w j k n d x f mem out = x.told.tied.contents n d ∙ go (or_cases (has_settled_bit (facts_at z n) (partition_of d)) _ (l.resident.settled (partition_of d) (below_count d)))
  where
    l : Lives G z w j k n
    l = f.each n mem

    p : ℕ
    p = partition_of d

    by_bit : has_settled_bit (facts_at z n) p ≡ true → (w.node n).content d ≡ None
    by_bit bit = (x.tied.nodes n).seen.content d ∙ none_of_part (facts_at z n).store p d
        (holds_none (has_settled_bit (facts_at z n) p) (is_done (facts_at z n) p) (standing.is_own_replica (facts_at z n) (list_at (facts_at z n) p)) (holds_of (facts_at z n).store.content p) bit done
        (ap (λ (m : ℕ). contains (Rattle.partition_lists.specs.Lists.replicas (list_at (facts_at z n) p) (facts_at z n).factor) m) (x.sane.nodes n).me ∙ sym (replica_tied G k (facts_at z n) p n l.views) ∙ out) (l.resident.dropped p (below_count d))) refl
      where
        moved : IsDone (w.stay n k) p
        moved = (x.told.tied.sound.whole.settled k p ((x.told.tied.sound.whole.known.cross n k).settled p (l.stays.settled p ∙ bit))).moved n mem

        done : is_done (facts_at z n) p ≡ true
        done = and_both (facts_at z n).exchange.exchanged _ l.resident.exchanged (ap not (none_pends p (facts_at z n).batches (x.sane.nodes n).aims (λ r e i. sym (l.stays.pending r e) ∙ moved.none r e i)))

        holds_none : (a b c e : Bool) → a ≡ true → b ≡ true → c ≡ false → (a && (b && (not c && e))) ≡ false → e ≡ false
        holds_none a b c e i q r s = grind arith

    -- it has neither an entry nor a write of its own
    by_rows : is_view_empty G k p ≡ true → (w.node n).content d ≡ None
    by_rows e = AtMost_antisymm {by = G.by}
        ((x.told.tied.sound.whole.known.inside n k l.view).outside d None out (subst (λ (o : Option Version). AtMost G.by o None) (sym ((x.told.tied.sound.whole.based n k).empty l.entered p (empty_row G k p n e mem) d refl)) (AtMost_refl None))
        (λ t a i q. absurd (writes t a i q)))
        (AtMost_none ((w.node n).content d))
      where
        writes : (t : ℕ) (a : Applied) → (w.stay n k).writes t ≡ Some a → a.digest ≡ d → ⊥
        writes t a i q = differ (subst (λ (m : ℕ). is_view_replica G k p m ≡ true) (sym who) (master_replica G x.ground k p n mem)) out
          where
            part : partition_of a.digest ≡ p
            part = ap partition_of q

            who : n ≡ view_master G k p
            who = ⊎_elim (λ s. s ∙ ap (view_acting G k) part ∙ empty_acting G k p e) (λ s. s.0 ∙ ap (view_master G k) part) ((x.told.tied.sound.whole.writers n k).write t a i)

    go : (has_settled_bit (facts_at z n) p ≡ true) ⊎ (((facts_at z n).exchange.exchanged && is_all_empty (facts_at z n) p) ≡ true) → (w.node n).content d ≡ None
    go (inl bit) = by_bit bit
    go (inr none) = by_rows (sym (empty_tied G k (facts_at z n) p l.views l.rows) ∙ and_right (facts_at z n).exchange.exchanged _ none)

spread : {ns : List ℕ} (G : Ground) (z : Front) (w : Picture) (j : List Line) (k : ClusterKey) → AtCalm ns G z w j → Filled G z w j k → IsSpread G.by G.factor k j
spread G z w j k x f = record {
  replicas = λ n d rep. replica_holds G z w j k n d x f rep;
  others = λ n d mem out. other_holds G z w j k n d x f ((any_is_contained n (ids_of (G.members k))).1 (subst (λ (ms : List Member). Contains (ids_of ms) n) f.members mem)) (sym (replica_is G k (partition_of d) n j f.members) ∙ out);
}

-- ---- a group

-- where all nodes are in the group, its replicas hold the newest version of all
has_newest : {ns : List ℕ} (G : Ground) (z : Front) (w : Picture) (j : List Line) (k : ClusterKey) → AtCalm ns G z w j → Filled G z w j k → ((o : ℕ) → contains ns o ≡ true → is_view_member G k o ≡ true) → HasNewest G.by G.factor k j
has_newest {ns} G z w j k x f all = record { replicas = one }
  where
    one : (n : ℕ) (d : List ℕ) → views.is_replica G.factor k (partition_of d) n j ≡ true → content G.by n d j ≡ applied G.by d j
    one n d rep = go (w.applied d) refl
      where
        folded : (o : ℕ) (v : Version) → (w.node o).content d ≡ Some v → (b : Bool) → is_view_replica G k (partition_of d) o ≡ b → fold_of G.by k d j ≡ Some v
        folded o v e true i = sym (replica_holds G z w j k o d x f (replica_is G k (partition_of d) o j f.members ∙ i)) ∙ x.told.tied.contents o d ∙ e
        folded o v e false i = no_some (sym (other_holds G z w j k o d x f (all o (x.told.tied.holders o d v e)) i) ∙ x.told.tied.contents o d ∙ e)

        go : (o : Option Version) → w.applied d ≡ o → content G.by n d j ≡ applied G.by d j
        go None e = x.told.tied.contents n d ∙ AtMost_antisymm {by = G.by} (subst (AtMost G.by ((w.node n).content d)) e (x.told.tied.sound.applied n d)) (AtMost_none ((w.node n).content d)) ∙ sym e ∙ sym (x.told.tied.applied d)
        go (Some v) e =
            let holder : (o : ℕ) × ((w.node o).content d ≡ Some v) = laws.no_loss G w x.told.tied.sound d v e in
            replica_holds G z w j k n d x f rep ∙ folded holder.0 v holder.1 (is_view_replica G k (partition_of d) holder.0) refl ∙ sym e ∙ sym (x.told.tied.applied d)

-- who stands in a group is declared
among_all : (groups : List (List ℕ)) (group : List ℕ) (n : ℕ) → Has groups group → Has group n → Has (concat groups) n
among_all [] group n there has = absurd there
among_all (g ∷ gs) group n (inl here) has = first g (subst (λ (ns : List ℕ). Has ns n) (sym here) has)
  where
    first : (ns : List ℕ) → Has ns n → Has (ns ++ concat gs) n
    first [] h = absurd h
    first (m ∷ ns) (inl e) = inl e
    first (m ∷ ns) (inr h) = inr (first ns h)
among_all (g ∷ gs) group n (inr later) has = behind g (among_all gs group n later has)
  where
    behind : (ns : List ℕ) → Has (concat gs) n → Has (ns ++ concat gs) n
    behind [] h = h
    behind (m ∷ ns) h = inr (behind ns h)

in_a_group : {ns : List ℕ} (G : Ground) (z : Front) (w : Picture) (j : List Line) (group : List ℕ) (n : ℕ) → AtCalm ns G z w j → Has (world_of z).network.groups group → Has group n → has_node ns n ≡ true
in_a_group {ns} G z w j group n x there has =
    subst (λ (ms : List ℕ). has_node ms n ≡ true) x.known
    (all_has (has_node (world_of z).nodes) (concat (world_of z).network.groups) n (and_left (list_all (has_node (world_of z).nodes) (concat (world_of z).network.groups)) _ x.grouped)
    (among_all (world_of z).network.groups group n there has))

-- the reader's up members of a group are the world's
same_members : {ns : List ℕ} (G : Ground) (z : Front) (w : Picture) (j : List Line) (group : List ℕ) → AtCalm ns G z w j → Has (world_of z).network.groups group → as_members (world_of z) (up_in (world_of z) group) ≡ up_members group j
same_members G z w j group x there = ap (λ (ms : List Member). in_order (λ a b. nat_lt b.id a.id) ms)
    (map_same (member_now (world_of z)) (λ n. record { id = n; role = present_role n j }) (up_in (world_of z) group) (λ n h. ap (λ (r : Role). record { id = n; role = r }) (sym (x.roles n)))
    ∙ ap (λ (ns : List ℕ). with_present_roles ns j) (filter_same (is_up (world_of z)) (λ n. settings.is_node_up n j) group (record { at = λ n e. sym (x.ups n (in_a_group G z w j group n x there (contained group n e))) })))

-- the one group has each declared node
only_group : (groups : List (List ℕ)) (group : List ℕ) → length groups ≡ 1 → Has groups group → groups ≡ group ∷ []
only_group [] group one has = absurd has
only_group (g ∷ []) group one (inl e) = ap (λ (x : List ℕ). x ∷ []) e
only_group (g ∷ []) group one (inr has) = absurd has
only_group (g ∷ o ∷ gs) group one has = absurd (omega (arith, one))

pub at_rest : {ns : List ℕ} (G : Ground) (z : Front) (w : Picture) (j : List Line) → AtCalm ns G z w j → IsAtRest G.by G.factor j
at_rest {ns} G z w j x group n among inside up = (
  r.key,
  record {
    viewed = λ m i u. (each_up m (has_up m i u)).read;
    among = filled.members ∙ here ∙ same_members G z w j group x (has_of (world_of z).network.groups group group_there);
    settled = throughout G z w j r.key x filled;
    spread = spread G z w j r.key x filled;
    newest = λ u. has_newest G z w j r.key x filled (λ o e. (each_up o (has_filter (is_up (world_of z)) group o (in_group u o e) (sym (x.ups o e) ∙ is_up_of u o e))).member);
  },
)
  where
    group_there : Contains (world_of z).network.groups group
    group_there = subst (λ (gs : List (List ℕ)). Contains gs group) x.groups among

    known : (m : ℕ) → Contains group m → has_node ns m ≡ true
    known m i = in_a_group G z w j group m x (has_of (world_of z).network.groups group group_there) (has_of group m i)

    r : GroupRests (world_of z) group
    r = group_rests (world_of z) group n group_there inside (sym (x.ups n (known n inside)) ∙ up) x.calm.calm

    has_up : (m : ℕ) → Contains group m → settings.is_node_up m j ≡ true → Has (up_in (world_of z) group) m
    has_up m i u = has_filter (is_up (world_of z)) group m (has_of group m i) (sym (x.ups m (known m i)) ∙ u)

    each_up : (m : ℕ) → Has (up_in (world_of z) group) m → Lives G z w j r.key m
    each_up m has = lives G z w j r.key (as_members (world_of z) (up_in (world_of z) group)) m x (r.each m has)

    own : Lives G z w j r.key n
    own = each_up n (has_up n inside up)

    here : G.members r.key ≡ as_members (world_of z) (up_in (world_of z) group)
    here = own.views.members ∙ (r.each n (has_up n inside up)).members

    filled : Filled G z w j r.key
    filled = record {
      each = λ m e. each_up m (member_up (world_of z) (up_in (world_of z) group) m (subst (λ (ms : List Member). contains (ids_of ms) m ≡ true) here e));
      members = members_of G ns j w x.told.tied n r.key own.entered;
      node = n;
      inside = own.member;
    }

    -- where all declared nodes are up and in one group
    in_group : IsUndivided j → (o : ℕ) → contains ns o ≡ true → Has group o
    in_group u o e = contained group o (subst (λ (ms : List ℕ). has_node ms o ≡ true) (ap concat (only_group (world_of z).network.groups group (ap length (sym x.groups) ∙ u.one_group) (has_of (world_of z).network.groups group group_there)) ∙ append-nil group)
        (all_has (has_node (concat (world_of z).network.groups)) (world_of z).nodes o (and_right (list_all (has_node (world_of z).nodes) (concat (world_of z).network.groups)) _ x.grouped) (contained (world_of z).nodes o (subst (λ (ms : List ℕ). contains ms o ≡ true) (sym x.known) e))))

    is_up_of : IsUndivided j → (o : ℕ) → contains ns o ≡ true → settings.is_node_up o j ≡ true
    is_up_of u o e = all_has (λ m. settings.is_node_up m j) (nodes j) o u.up (contained (nodes j) o (subst (λ (ms : List ℕ). contains ms o ≡ true) (sym x.declared) e))

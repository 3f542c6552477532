-- What holds of the journal of a licensed run, by the laws of its picture.
use Rattle.std.proofs.Common.{◌≡◌, ℕ, ◌==◌, Bool, true, false, not, ◌&&◌, ◌||◌, List, [], ◌∷◌, Option, Some, None, take, slice_get, map, refl, sym, ap, ap₂, subst, ◌∙◌, inl, inr, ⊎_elim}
use Rattle.std.specs.List.{list_any, list_all}
use Rattle.std.specs.Prelude.{bytes_eq}
use Rattle.conflict_order.specs.declared.policy.Policy.{Policy}
use Rattle.conflict_order.specs.declared.version.Version.{Version}
use Rattle.conflict_order.specs.Join.{join, AtMost}
use Rattle.conflict_order.specs.Next.{next}
use Rattle.conflict_order.proofs.OrderLaws.{AtMost_none, AtMost_antisymm}
use Rattle.conflict_order.proofs.JoinLaws.{join_left, join_least, AtMost_join_right}
use Rattle.cluster_types.specs.declared.cluster_key.ClusterKey.{ClusterKey}
use Rattle.cluster_types.specs.declared.member.Member.{Member}
use Rattle.cluster_types.specs.Members.{ids_of}
use Rattle.cluster_types.specs.Partitions.{partition_of}
use Rattle.cluster_types.specs.ClusterKeys.{same_key}
use Rattle.cluster_types.specs.Distinct.{contains}
use Rattle.partition_lists.specs.Acting.{is_empty, list_master}
use Rattle.partition_lists.specs.Lists as lists
use Rattle.journal_lines.specs.declared.line.Line.{Line}
use Rattle.journal_lines.specs.declared.line.Line.TheVariants as line
use Rattle.journal_readings.specs.Lines.{is_done_line, is_exchanged, is_settled_line}
use Rattle.journal_readings.specs.Settings.{policy_of, nodes}
use Rattle.journal_readings.specs.Contents.{content, applied, join_all}
use Rattle.journal_readings.specs.Entries.{fold_of}
use Rattle.journal_readings.specs.Views.{view, first_of, master, is_replica, members}
use Rattle.journal_readings.specs.Stamps.{is_empty_at_entry, is_empty_everywhere}
use Rattle.journal_readings.specs.Settled.{is_settled, is_open_write, has_open_write}
use Rattle.journal_readings.specs.Claims.{NoLoss, SettledJoin, JoinsView, ReadJoin}
use Rattle.journal_readings.proofs.CopyLaws.{same_digest_is}
use Rattle.cluster_laws.specs.Ground as ground
use Rattle.cluster_laws.specs.Ground.{Ground, is_view_member, view_list, is_view_empty}
use Rattle.cluster_laws.specs.Picture.{Picture}
use Rattle.cluster_laws.specs.Laws.{picture, IsSettled, HasNoOpenWrite}
use Rattle.cluster_laws.specs.Journals.{journal, IsJournal}
use Rattle.cluster_laws.proofs.At.{and_left, and_right, number_same, key_same, differ, no_some}
use Rattle.cluster_laws.proofs.GroundLaws.{listed_member}
use Rattle.cluster_laws.specs.Licences.{Ok}
use Rattle.cluster_laws.proofs.All.{ok_at}
use Rattle.cluster_laws.proofs.Settled as laws
use Rattle.cluster_laws.proofs.Resolved as reads
use Rattle.cluster_laws.proofs.ReadingLines.{or_cases}
use Rattle.cluster_laws.proofs.ReadingViews.{is_write}
use Rattle.cluster_laws.proofs.ReadingTies.{Tied, journal_licensed, journal_tied, in_view_entered, members_of, fold_is}

-- ---- no loss

covered : (by : Policy) (f : ℕ → Option Version) (n : ℕ) (ns : List ℕ) → contains ns n ≡ true → AtMost by (f n) (join_all by (map f ns))
covered by f n [] e = cc
covered by f n (m ∷ ns) e = go (m == n) refl (covered by f n ns) e
  where
    go : (b : Bool) → (m == n) ≡ b → (contains ns n ≡ true → AtMost by (f n) (join_all by (map f ns))) → (b || contains ns n) ≡ true → AtMost by (f n) (join by (f m) (join_all by (map f ns)))
    go true i rest q = subst (λ (z : ℕ). AtMost by (f z) (join by (f m) (join_all by (map f ns)))) (number_same m n i) (join_left (f m) (join_all by (map f ns)))
    go false i rest q = AtMost_join_right (f m) (rest q)

all_below : (by : Policy) (f : ℕ → Option Version) (b : Option Version) → ((n : ℕ) → AtMost by (f n) b) → (ns : List ℕ) → AtMost by (join_all by (map f ns)) b
all_below by f b h [] = AtMost_none b
all_below by f b h (n ∷ ns) = join_least (h n) (all_below by f b h ns)

newest_applied : (G : Ground) (ns : List ℕ) (j : List Line) (w : Picture) → Tied G ns j w → (d : List ℕ) → join_all G.by (map (λ n. content G.by n d j) ns) ≡ applied G.by d j
newest_applied G ns j w t d = AtMost_antisymm
    (all_below G.by (λ n. content G.by n d j) (applied G.by d j) (λ n. subst (λ (a : Option Version). AtMost G.by a (applied G.by d j)) (sym (t.contents n d)) (subst (AtMost G.by ((w.node n).content d)) (sym (t.applied d)) (t.sound.applied n d))) ns)
    (subst (λ (a : Option Version). AtMost G.by a (join_all G.by (map (λ n. content G.by n d j) ns))) (sym (t.applied d)) (go (w.applied d) refl))
  where
    go : (o : Option Version) → w.applied d ≡ o → AtMost G.by o (join_all G.by (map (λ n. content G.by n d j) ns))
    go None e = AtMost_none (join_all G.by (map (λ n. content G.by n d j) ns))
    go (Some v) e =
        let x : (n : ℕ) × ((w.node n).content d ≡ Some v) = laws.no_loss G w t.sound d v e in
        subst (λ (a : Option Version). AtMost G.by a (join_all G.by (map (λ n. content G.by n d j) ns))) (t.contents x.0 d ∙ x.1) (covered G.by (λ n. content G.by n d j) x.0 ns (t.holders x.0 d v x.1))

pub no_loss : (h : List Line) (G : Ground) (lines : List Line) → IsJournal h G lines → NoLoss (journal h lines)
no_loss h G lines o = record {
  none_lost = λ i d. subst (λ (by : Policy). join_all by (map (λ n. content by n d (take i (journal h lines))) (nodes (journal h lines))) ≡ applied by d (take i (journal h lines))) o.by
      (newest_applied G (nodes (journal h lines)) (take i (journal h lines)) (picture G (journal h lines) i) (journal_tied h G lines o i) d);
}

-- ---- settled partitions

pub first_is : (ids : List ℕ) → first_of ids ≡ list_master ids
first_is [] = refl
first_is (n ∷ ids) = refl

pub master_is : (G : Ground) (k : ClusterKey) (p : ℕ) (j : List Line) → members k j ≡ G.members k → master k p j ≡ ground.view_master G k p
unfolding ground.view_master
master_is G k p j e = first_is (lists.list (members k j) p) ∙ ap (λ (ms : List Member). list_master (lists.list ms p)) e

pub replica_is : (G : Ground) (k : ClusterKey) (p n : ℕ) (j : List Line) → members k j ≡ G.members k → is_replica G.factor k p n j ≡ ground.is_view_replica G k p n
unfolding ground.is_view_replica
replica_is G k p n j e = ap (λ (ms : List Member). lists.is_replica_of n ms p G.factor) e

pub all_at : (test : ℕ → Bool) (ms : List Member) → list_all (λ m. test m.id) ms ≡ true → (n : ℕ) → contains (ids_of ms) n ≡ true → test n ≡ true
all_at test [] h n e = cc
all_at test (m ∷ ms) h n e = go (m.id == n) refl (all_at test ms (and_right (test m.id) _ h) n) e
  where
    go : (b : Bool) → (m.id == n) ≡ b → (contains (ids_of ms) n ≡ true → test n ≡ true) → (b || contains (ids_of ms) n) ≡ true → test n ≡ true
    go true i rest q = ap test (sym (number_same m.id n i)) ∙ and_left (test m.id) _ h
    go false i rest q = rest q

pub all_from : (test : ℕ → Bool) (ns : List ℕ) → ((n : ℕ) → contains ns n ≡ true → test n ≡ true) → list_all test ns ≡ true
all_from test [] h = refl
all_from test (n ∷ ns) h = Rattle.cluster_types.proofs.BoolFacts.and_both (test n) (list_all test ns) (h n (Rattle.std.proofs.lemmas.Bool.or_left (n == n) (contains ns n) (Rattle.cluster_laws.proofs.At.number_here n)))
    (all_from test ns (λ m e. h m (Rattle.std.proofs.lemmas.Bool.or_right (n == m) (contains ns m) e)))

pub empty_everywhere : (G : Ground) (ns : List ℕ) (j : List Line) (w : Picture) → Tied G ns j w → (k : ClusterKey) (p : ℕ) → ((m : ℕ) → is_view_member G k m ≡ true → (w.stay m k).entered ≡ true) → members k j ≡ G.members k → is_empty_everywhere k p j ≡ true → is_view_empty G k p ≡ true
unfolding is_empty_everywhere is_view_empty
empty_everywhere G ns j w t k p all ms e = all_from (λ m. is_empty (G.row k m p)) (view_list G k p) (λ m i.
    let mem : is_view_member G k m ≡ true = listed_member G k p m i in
    sym (t.empties m k p (all m mem))
    ∙ all_at (λ z. is_empty_at_entry k z p j) (G.members k) (subst (λ (x : List Member). list_all (λ z. is_empty_at_entry k z.id p j) x ≡ true) ms e) m mem)

settled_is : (G : Ground) (ns : List ℕ) (j : List Line) (w : Picture) → Tied G ns j w → (k : ClusterKey) (p : ℕ) → members k j ≡ G.members k → is_settled k p j ≡ true → IsSettled G w k p
unfolding is_settled
settled_is G ns j w t k p ms e = ⊎_elim (λ z. inl (t.settled (master k p j) k p z))
    (λ z.
    let ex : (w.stay (master k p j) k).exchanged ≡ true = sym (t.exchanged (master k p j) k) ∙ and_left (list_any (is_exchanged k (master k p j)) j) (is_empty_everywhere k p j) z in
    inr (
      empty_everywhere G ns j w t k p ((t.sound.whole.known.cross (master k p j) k).all_in ex) ms (and_right (list_any (is_exchanged k (master k p j)) j) (is_empty_everywhere k p j) z),
      subst (λ (m : ℕ). (w.stay m k).exchanged ≡ true) (master_is G k p j ms) ex,
    ))
    (or_cases (list_any (is_settled_line k (master k p j) p) j) (list_any (is_exchanged k (master k p j)) j && is_empty_everywhere k p j) e)

-- a line passes the one test and not the other
some_but : {A : Type 0} (f g : A → Bool) (xs : List A) → list_any f xs ≡ true → list_any g xs ≡ false → (x : A) × (f x ≡ true) × (g x ≡ false)
some_but f g [] e q = cc
some_but f g (x ∷ xs) e q = go (f x) refl (some_but f g xs) e
  where
    go : (b : Bool) → f x ≡ b → (list_any f xs ≡ true → list_any g xs ≡ false → (y : _) × (f y ≡ true) × (g y ≡ false)) → (b || list_any f xs) ≡ true → (y : _) × (f y ≡ true) × (g y ≡ false)
    go true i rest z = (x, i, Rattle.cluster_types.proofs.BoolFacts.neither_left (g x) (list_any g xs) q)
    go false i rest z = rest z (Rattle.cluster_types.proofs.BoolFacts.neither_right (g x) (list_any g xs) q)

not_open : (j : List Line) (k : ClusterKey) (p n t : ℕ) (d : List ℕ) → partition_of d ≡ p → (l : Line) → is_write k n t d l ≡ true → is_open_write k p n j l ≡ false → list_any (is_done_line k n t) j ≡ true
not_open j k p n t d dp (line.Apply m l u c v) e q =
    let b : (same_key l k && ((u == t) && bytes_eq c d)) ≡ true = and_right (m == n) _ e in
    let f : ((u == t) && bytes_eq c d) ≡ true = and_right (same_key l k) _ b in
    subst (λ (z : ℕ). list_any (is_done_line k n z) j ≡ true)
    (number_same u t (and_left (u == t) _ f))
    (finished (m == n) (same_key l k) (partition_of c == p) (list_any (is_done_line k n u) j) (and_left (m == n) _ e) (and_left (same_key l k) _ b)
    (ap (λ (z : ℕ). z == p) (ap partition_of (same_digest_is c d (and_right (u == t) _ f)) ∙ dp) ∙ Rattle.cluster_laws.proofs.At.number_here p) q)
  where
    finished : (a b c o : Bool) → a ≡ true → b ≡ true → c ≡ true → (a && (b && (c && not o))) ≡ false → o ≡ true
    finished true true true true x y z q = refl
    finished true true true false x y z q = cc
    finished true true false o x y z q = cc
    finished true false c o x y z q = cc
    finished false b c o x y z q = cc
not_open j k p n t d dp (line.Tick m) e q = cc
not_open j k p n t d dp l e q = cc

no_open_write : (G : Ground) (ns : List ℕ) (j : List Line) (w : Picture) → Tied G ns j w → (k : ClusterKey) (p : ℕ) → members k j ≡ G.members k → has_open_write k p j ≡ false → HasNoOpenWrite G w k p
unfolding has_open_write
no_open_write G ns j w t k p ms e u a is dp =
    let m : ℕ = ground.view_master G k p in
    let x : (l : Line) × (is_write k m u a.digest l ≡ true) × (is_open_write k p m j l ≡ false) =
    some_but (is_write k m u a.digest) (is_open_write k p m j) j (t.writes m k u a is) (subst (λ (z : ℕ). list_any (is_open_write k p z j) j ≡ false) (master_is G k p j ms) e) in
    t.done m k u (not_open j k p m u a.digest dp x.0 x.1 x.2)

pub settled_at : (G : Ground) (ns : List ℕ) (j : List Line) (w : Picture) → Tied G ns j w → (k : ClusterKey) (r : ℕ) (d : List ℕ) → is_settled k (partition_of d) j ≡ true → has_open_write k (partition_of d) j ≡ false
    → is_replica G.factor k (partition_of d) r j ≡ true → view r j ≡ Some k → content G.by r d j ≡ fold_of G.by k d j
settled_at G ns j w t k r d st none rep vw =
    let here : (w.node r).view ≡ Some k = sym (t.views r) ∙ vw in
    let en : (w.stay r k).entered ≡ true = in_view_entered G ns j w t r k here in
    let ms : members k j ≡ G.members k = members_of G ns j w t r k en in
    t.contents r d
    ∙ (laws.settled_join G w t.sound k (partition_of d) r d (settled_is G ns j w t k (partition_of d) ms st) (no_open_write G ns j w t k (partition_of d) ms none) (sym (replica_is G k (partition_of d) r j ms) ∙ rep) here refl
    ∙ sym (fold_is G ns j w t r k en d))

pub settled_join : (h : List Line) (G : Ground) (lines : List Line) → IsJournal h G lines → SettledJoin (journal h lines)
settled_join h G lines o = record {
  whole = λ i k r d st none _ rep vw. subst (λ (by : Policy). content by r d (take i (journal h lines)) ≡ fold_of by k d (take i (journal h lines))) o.by
      (settled_at G (nodes (journal h lines)) (take i (journal h lines)) (picture G (journal h lines) i) (journal_tied h G lines o i) k r d st none
      (subst (λ (factor : ℕ). is_replica factor k (partition_of d) r (take i (journal h lines)) ≡ true) (sym o.factor) rep) vw);
}

-- ---- reads

-- a reader finds the fold of the view in which the member is
fold_here : (h : List Line) (G : Ground) (lines : List Line) → IsJournal h G lines → (i n : ℕ) (k : ClusterKey) (d : List ℕ) → ((picture G (journal h lines) i).node n).view ≡ Some k
    → (picture G (journal h lines) i).fold k d ≡ fold_of (policy_of (journal h lines)) k d (take i (journal h lines))
fold_here h G lines o i n k d e =
    let t : Tied G (nodes (journal h lines)) (take i (journal h lines)) (picture G (journal h lines) i) = journal_tied h G lines o i in
    sym (fold_is G (nodes (journal h lines)) (take i (journal h lines)) (picture G (journal h lines) i) t n k (in_view_entered G (nodes (journal h lines)) (take i (journal h lines)) (picture G (journal h lines) i) t n k e) d)
    ∙ ap (λ (by : Policy). fold_of by k d (take i (journal h lines))) o.by

pub joins_view : (h : List Line) (G : Ground) (lines : List Line) → IsJournal h G lines → (i : ℕ) (l : Line) → slice_get (journal h lines) i ≡ Some l → JoinsView (journal h lines) (take i (journal h lines)) l
joins_view h G lines o i (line.Value n k t d v) e =
    let ok : Ok G (picture G (journal h lines) i) (line.Value n k t d v) = ok_at G (journal h lines) i (line.Value n k t d v) (journal_licensed h G lines o) e in
    (reads.read_join G o.ground (journal h lines) (journal_licensed h G lines o)).value i n t k d v e ∙ fold_here h G lines o i n k d ok.1.resolved.is_in.view
joins_view h G lines o i (line.Apply n k t d v) e =
    let ok : Ok G (picture G (journal h lines) i) (line.Apply n k t d v) = ok_at G (journal h lines) i (line.Apply n k t d v) (journal_licensed h G lines o) e in
    (reads.read_join G o.ground (journal h lines) (journal_licensed h G lines o)).apply i n t k d v e
    ∙ ap₂ (λ (b : Option Version) (time : ℕ). next b time v.body) (fold_here h G lines o i n k d ok.1.resolved.is_in.view) (sym ((journal_tied h G lines o i).clocks n))
joins_view h G lines o i l e = tt

pub read_join : (h : List Line) (G : Ground) (lines : List Line) → IsJournal h G lines → ReadJoin (journal h lines)
read_join h G lines o = record { joined = joins_view h G lines o }

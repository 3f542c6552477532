-- What an open transaction knows, and that it is resolved with the fold.
use Rattle.std.proofs.Common.{◌≡◌, ℕ, ◌+◌, Bool, true, false, cond, not, ◌||◌, List, [], Option, Some, None, option_map, refl, sym, ap, ◌∙◌, subst, subst₂, ◌⊎◌, inl, inr, ⊎_elim}
use Rattle.conflict_order.specs.declared.version.Version.{Version}
use Rattle.conflict_order.specs.Join.{join, AtMost}
use Rattle.conflict_order.proofs.OrderLaws.{AtMost_trans, AtMost_none, AtMost_antisymm}
use Rattle.conflict_order.proofs.JoinLaws.{join_left, join_right}
use Rattle.cluster_types.specs.declared.cluster_key.ClusterKey.{ClusterKey}
use Rattle.cluster_types.specs.declared.copy_state.CopyState.{CopyState}
use Rattle.cluster_types.specs.declared.copy_state.CopyState.TheVariants.{Empty, Part, Whole}
use Rattle.cluster_types.specs.Partitions.{partition_of}
use Rattle.cluster_types.specs.Distinct.{without, contains}
use Rattle.cluster_types.proofs.BoolFacts.{neither_left as left_false}
use Rattle.partition_lists.specs.Acting.{is_empty}
use Rattle.wire_messages.specs.declared.message.Message.TheVariants as message
use Rattle.cluster_laws.specs.Ground.{Ground, IsGround, is_view_member, view_master, view_acting, is_view_replica, is_view_empty, same_view_class, asks}
use Rattle.cluster_laws.specs.Stay.{Versions, Running, Applied, Stay}
use Rattle.cluster_laws.specs.Picture.{Seen, Picture, start}
use Rattle.cluster_laws.specs.Effect.{Effect, Settles}
use Rattle.cluster_laws.specs.Changes as changes
use Rattle.cluster_laws.specs.Changes.{act, asks_now, running_at_opening, beginning, stay_after_write, running_with_answer}
use Rattle.cluster_laws.specs.Licences.{Acts, MayOpen}
use Rattle.cluster_laws.proofs.At.{numbers, changed_either, changed_here, stay_here, part_cases, each_stay, number_cases, truth, or_cases, differ, some_same, no_some}
use Rattle.cluster_laws.proofs.Lists.{in_without, contains_without}
use Rattle.cluster_laws.proofs.Allowed.{Allowed, WasAnswered}
use Rattle.cluster_laws.proofs.Step.{Within, exchange, begin, answer, apply, finish, give_up, write_acked, answered, Step, same, enter, within, steps}
use Rattle.cluster_laws.proofs.Grows.{Grows}
use Rattle.cluster_laws.proofs.GroundLaws.{master_replica, empty_acting, First, first_of, class_symmetric, first_asked}
use Rattle.cluster_laws.proofs.Predicates.{Who, Replied}
use Rattle.cluster_laws.proofs.Moving.{holder}
use Rattle.cluster_laws.proofs.Heard.{NewWrite, new_write}
use Rattle.cluster_laws.proofs.Copies.{Rests, class_equal}
use Rattle.cluster_laws.proofs.All.{Sound}
use Rattle.cluster_laws.proofs.Settled.{whole_replica}

-- an answer is awaited that covers what the member entered with
pub record Awaits (G : Ground) (k : ClusterKey) (p m : ℕ) (awaiting : List ℕ) : Type 0 where
  pub node : ℕ
  pub awaited : contains awaiting node ≡ true
  pub member : is_view_member G k node ≡ true
  pub same : same_view_class G k p m node ≡ true

pub record Open (G : Ground) (w : Picture) (n : ℕ) (k : ClusterKey) (y : Running) : Type 0 where
  pub awaited : (m : ℕ) → contains y.awaiting m ≡ true → contains y.asked m ≡ true
  -- a transaction that asked somebody stands without a settling
  pub quiet : (m : ℕ) → contains y.asked m ≡ true → w.settled k (partition_of y.digest) ≡ false
  pub entries : (m : ℕ) → is_view_member G k m ≡ true → Awaits G k (partition_of y.digest) m y.awaiting ⊎ AtMost G.by ((w.stay m k).entry y.digest) y.best
  pub writes : (m t : ℕ) (e : Applied) → (w.stay m k).writes t ≡ Some e → e.digest ≡ y.digest → AtMost G.by (Some e.version) y.best

abbrev pub AllReads : Ground → Picture → Type 0
AllReads G w = (n : ℕ) (k : ClusterKey) (t : ℕ) (y : Running) → (w.stay n k).running t ≡ Some y → y.applied ≡ None → Open G w n k y

-- ---- as it opens

-- who acts on a settled partition is its list master
settled_actor : (G : Ground) (w : Picture) → Sound G w → (n : ℕ) (k : ClusterKey) (p : ℕ) → Acts G n k (w.stay n k) p → w.settled k p ≡ true → n ≡ view_master G k p
settled_actor G w s n k p (inr q) st = q.0
settled_actor G w s n k p (inl q) st = ⊎_elim (λ i. q.0 ∙ i) (λ i. differ (subst (λ (m : ℕ). (w.stay m k).own_handed p ≡ true) (sym q.0) (s.whole.handed k p i).known) q.1) (s.whole.settled k p st).after

-- and knows that it is settled
settled_known : (G : Ground) (w : Picture) → Sound G w → (n : ℕ) (k : ClusterKey) (p : ℕ) → Acts G n k (w.stay n k) p → (w.stay n k).settled p ≡ false → w.settled k p ≡ false
settled_known G w s n k p acts un = go (w.settled k p) refl
  where
    go : (b : Bool) → w.settled k p ≡ b → b ≡ false
    go true e = differ (subst (λ (m : ℕ). (w.stay m k).settled p ≡ true) (sym (settled_actor G w s n k p acts e)) (s.whole.settled k p e).known) un
    go false e = refl

-- the node asks nobody: it holds the fold
opened_whole : (G : Ground) (w : Picture) → IsGround G → Sound G w → (n : ℕ) (k : ClusterKey) (t : ℕ) (d : List ℕ) → MayOpen G w n k t d → Rests G w k (partition_of d) → n ≡ view_master G k (partition_of d) → (w.node n).content d ≡ w.fold k d
opened_whole G w ground s n k t d ok rests m = whole_replica G w s k (partition_of d) n d rests
    (subst (λ (z : ℕ). is_view_replica G k (partition_of d) z ≡ true) (sym m) (master_replica G ground k (partition_of d) n ((s.whole.known.entered n k).member ((s.whole.known.entered n k).now ok.is_in.view).0))) ok.is_in.view refl
    (λ u e z i. subst (λ (c : List ℕ). AtMost G.by (Some e.version) ((w.stay n k).held c)) i ((s.whole.known.held n k).write u e (subst (λ (l : ℕ). (w.stay l k).writes u ≡ Some e) (sym m) z)))

rests_now : (G : Ground) (w : Picture) → Sound G w → (n : ℕ) (k : ClusterKey) (p : ℕ) → (w.stay n k).exchanged ≡ true → ((w.stay n k).settled p ≡ true) ⊎ (is_view_empty G k p ≡ true) → Rests G w k p
rests_now G w s n k p ex (inl e) = inl ((s.whole.known.cross n k).settled p e)
rests_now G w s n k p ex (inr e) = inr (record { all = e; node = n; exchanged = ex })

rests_master : (G : Ground) (w : Picture) → Sound G w → (n : ℕ) (k : ClusterKey) (p : ℕ) → Acts G n k (w.stay n k) p → Rests G w k p → n ≡ view_master G k p
rests_master G w s n k p acts (inl e) = settled_actor G w s n k p acts e
rests_master G w s n k p (inl q) (inr e) = q.0 ∙ empty_acting G k p e.all
rests_master G w s n k p (inr q) (inr e) = q.0

-- the node asks the firsts of other classes
opened_asking : (G : Ground) (w : Picture) → Sound G w → (n : ℕ) (k : ClusterKey) (t : ℕ) (d : List ℕ) → MayOpen G w n k t d → (w.stay n k).settled (partition_of d) ≡ false → (y : Running) → y.digest ≡ d → y.best ≡ (w.node n).content d → y.asked ≡ asks G k (partition_of d) n → y.awaiting ≡ asks G k (partition_of d) n → Open G w n k y
opened_asking G w s n k t d ok un y yd yb ya yw = record {
  awaited = λ m e. subst (λ (l : List ℕ). contains l m ≡ true) (yw ∙ sym ya) e;
  quiet = λ m e. subst (λ (c : List ℕ). w.settled k (partition_of c) ≡ false) (sym yd) unsettled;
  entries = λ m mem. subst₂ (λ (c l : List ℕ). Awaits G k (partition_of c) m l ⊎ AtMost G.by ((w.stay m k).entry c) y.best) (sym yd) (sym yw)
      (subst (λ (o : Option Version). Awaits G k p m (asks G k p n) ⊎ AtMost G.by ((w.stay m k).entry d) o) (sym yb) (entry m mem (is_empty (G.row k m p)) refl));
  writes = λ m u e z i. subst (λ (o : Option Version). AtMost G.by (Some e.version) o) (sym yb) (write m u e z (i ∙ yd));
}
  where
    p : ℕ
    p = partition_of d

    unsettled : w.settled k p ≡ false
    unsettled = settled_known G w s n k p ok.acts un

    entered : (m : ℕ) → is_view_member G k m ≡ true → (w.stay m k).entered ≡ true
    entered m mem = (s.whole.known.cross n k).all_in ok.exchanged m mem

    mine : AtMost G.by ((w.stay n k).entry d) ((w.node n).content d)
    mine = ⊎_elim (λ z. z) (λ z. differ z unsettled) ((s.whole.known.inside n k ok.is_in.view).entry d)

    by_first : (m : ℕ) → is_view_member G k m ≡ true → First G k p m → Awaits G k p m (asks G k p n) ⊎ AtMost G.by ((w.stay m k).entry d) ((w.node n).content d)
    by_first m mem f = ⊎_elim
        (λ z. inr (AtMost_trans (class_equal G w s.snap k p m f.node (entered m mem) (entered f.node f.member) f.same d refl)
        (AtMost_trans (class_equal G w s.snap k p f.node n (entered f.node f.member) ((s.whole.known.entered n k).now ok.is_in.view).0 (class_symmetric G k p n f.node z) d refl) mine)))
        (λ z. inl (record { node = f.node; awaited = first_asked G k p n f.node f.member f.first z; member = f.member; same = f.same }))
        (truth (same_view_class G k p n f.node))

    empty_is : (c : CopyState) → is_empty c ≡ true → c ≡ Empty
    empty_is Empty e = refl
    empty_is Part e = differ e refl
    empty_is (Whole j c) e = differ e refl

    entry : (m : ℕ) → is_view_member G k m ≡ true → (b : Bool) → is_empty (G.row k m p) ≡ b → Awaits G k p m (asks G k p n) ⊎ AtMost G.by ((w.stay m k).entry d) ((w.node n).content d)
    entry m mem true e = inr (subst (λ (o : Option Version). AtMost G.by o ((w.node n).content d)) (sym ((s.whole.based m k).empty (entered m mem) p (empty_is (G.row k m p) e) d refl)) (AtMost_none ((w.node n).content d)))
    entry m mem false e = by_first m mem (first_of G k p m mem e)

    actor : n ≡ view_acting G k p
    actor = ⊎_elim (λ z. z.0) (λ z. differ ((s.whole.known.cross n k).own_settled p z.2) unsettled) ok.acts

    write : (m u : ℕ) (e : Applied) → (w.stay m k).writes u ≡ Some e → e.digest ≡ d → AtMost G.by (Some e.version) ((w.node n).content d)
    write m u e z i = ⊎_elim
        (λ q. subst (λ (c : List ℕ). AtMost G.by (Some e.version) ((w.node n).content c)) i
        (⊎_elim (λ h. h) (λ h. differ (subst (λ (c : List ℕ). w.settled k (partition_of c) ≡ true) i h) unsettled)
        ((s.whole.known.inside n k ok.is_in.view).write u e (subst (λ (l : ℕ). (w.stay l k).writes u ≡ Some e) (q ∙ (ap (λ (c : List ℕ). view_acting G k (partition_of c)) i ∙ sym actor)) z))))
        (λ q. differ (subst (λ (c : List ℕ). w.settled k (partition_of c) ≡ true) i q.1) unsettled) ((s.whole.writers m k).write u e z)

opened_open : (G : Ground) (w : Picture) → IsGround G → Sound G w → (n : ℕ) (k : ClusterKey) (t : ℕ) (d : List ℕ) → MayOpen G w n k t d → Open G w n k (running_at_opening G k n (w.node n).content (w.stay n k) d)
opened_open G w ground s n k t d ok = go ((w.stay n k).settled (partition_of d) || is_view_empty G k (partition_of d)) refl
  where
    p : ℕ
    p = partition_of d

    made : List ℕ → Running
    made l = record { digest = d; best = (w.node n).content d; asked = l; awaiting = l; applied = None }

    whole : Rests G w k p → Open G w n k (made [])
    whole rests = let f : (w.node n).content d ≡ w.fold k d = opened_whole G w ground s n k t d ok rests (rests_master G w s n k p ok.acts rests) in record {
      awaited = λ m e. e;
      quiet = λ m e. differ e refl;
      entries = λ m mem. inr (subst (λ (o : Option Version). AtMost G.by ((w.stay m k).entry d) o) (sym f) (AtMost_trans ((s.whole.known.held m k).entry d) ((s.whole.known.below m k).held d)));
      writes = λ m u e z i. subst (λ (o : Option Version). AtMost G.by (Some e.version) o) (sym f) (subst (λ (c : List ℕ). AtMost G.by (Some e.version) (w.fold k c)) i (AtMost_trans ((s.whole.known.held m k).write u e z) ((s.whole.known.below m k).held e.digest)));
    }

    go : (b : Bool) → ((w.stay n k).settled p || is_view_empty G k p) ≡ b → Open G w n k (made (cond b [] (asks G k p n)))
    go true e = whole (rests_now G w s n k p ok.exchanged (or_cases ((w.stay n k).settled p) (is_view_empty G k p) e))
    go false e = opened_asking G w s n k t d ok (left_false ((w.stay n k).settled p) (is_view_empty G k p) e) (made (asks G k p n)) refl refl refl refl

-- ---- while it is open

-- two open transactions on one partition are of one node
one_writer : (G : Ground) (w : Picture) → Sound G w → (n m : ℕ) (k : ClusterKey) (t u : ℕ) (y z : Running) → (w.stay n k).running t ≡ Some y → (w.stay m k).running u ≡ Some z → partition_of y.digest ≡ partition_of z.digest → n ≡ m
one_writer G w s n m k t u y z a b p = go ((s.whole.writers n k).running t y a) ((s.whole.writers m k).running u z b)
  where
    go : Who G w n k (partition_of y.digest) → Who G w m k (partition_of z.digest) → n ≡ m
    go (inl i) (inl j) = i ∙ (ap (view_acting G k) p ∙ sym j)
    go (inr i) (inr j) = i.0 ∙ (ap (view_master G k) p ∙ sym j.0)
    go (inl i) (inr j) = holder G w s.whole.handed s.whole.settled n k t y a (inl i) (subst (λ (q : ℕ). w.settled k q ≡ true) (sym p) j.1) ∙ (ap (view_master G k) p ∙ sym j.0)
    go (inr i) (inl j) = i.0 ∙ (ap (view_master G k) p ∙ sym (holder G w s.whole.handed s.whole.settled m k u z b (inl j) (subst (λ (q : ℕ). w.settled k q ≡ true) p i.1)))

-- no settling comes while a transaction is open that asked somebody
still_unsettled : (G : Ground) (w : Picture) (e : Effect) → Allowed G w e → Sound G w → (n : ℕ) (k : ClusterKey) (t : ℕ) (y : Running) → (w.stay n k).running t ≡ Some y → w.settled k (partition_of y.digest) ≡ false → (act G e w).settled k (partition_of y.digest) ≡ false
still_unsettled G w (Settles m j q) ok s n k t y run un = go ((act G (Settles m j q) w).settled k (partition_of y.digest)) refl
  where
    clash : j ≡ k → q ≡ partition_of y.digest → ⊥
    clash i p = ⊎_elim
        (λ who. ⊎_elim
        (λ h. (s.whole.handed k (partition_of y.digest) (subst₂ (λ (a : ClusterKey) (b : ℕ). w.handed a b ≡ true) i p ((s.whole.known.cross m j).handed q h))).shut.free t y (subst (λ (l : ℕ). (w.stay l k).running t ≡ Some y) who run) refl)
        (λ h. ok.free.none t y (subst (λ (a : ClusterKey). (w.stay m a).running t ≡ Some y) (sym i) (subst (λ (l : ℕ). (w.stay l k).running t ≡ Some y) (who ∙ sym (subst₂ (λ (a : ClusterKey) (b : ℕ). m ≡ view_acting G a b) i p h.0)) run)) (sym p)) ok.moved)
        (λ who. differ who.1 un) ((s.whole.writers n k).running t y run)

    go : (b : Bool) → (act G (Settles m j q) w).settled k (partition_of y.digest) ≡ b → b ≡ false
    go true e = ⊎_elim (λ z. absurd (clash z.0 z.1)) (λ z. differ z un) (part_cases w.settled j q k (partition_of y.digest) e)
    go false e = refl
still_unsettled G w Rattle.cluster_laws.specs.Effect.Nothing ok s n k t y run un = un
still_unsettled G w _ ok s n k t y run un = un

-- a write that a line adds on the record is the transaction's own
own_write : (G : Ground) (w v : Picture) → Sound G w → (n m : ℕ) (k : ClusterKey) (t u : ℕ) (y : Running) (e : Applied) → (w.stay n k).running t ≡ Some y → e.digest ≡ y.digest → NewWrite G w v m k u e → (n ≡ m) × (t ≡ u)
own_write G w v s n m k t u y e run i z =
    let q : n ≡ m = one_writer G w s n m k t u y z.may.transaction run z.may.resolved.running (ap partition_of (sym i ∙ sym z.may.resolved.digest)) in
    (q, (s.whole.known.txns n k).busy t u y z.may.transaction run (subst (λ (l : ℕ). (w.stay l k).running u ≡ Some z.may.transaction) (sym q) z.may.resolved.running) (sym i ∙ sym z.may.resolved.digest))

-- a transaction whose write a line adds has applied it
applied_now : (G : Ground) (w v : Picture) (m : ℕ) (k : ClusterKey) (u : ℕ) (e : Applied) → NewWrite G w v m k u e → (y : Running) → (v.stay m k).running u ≡ Some y → y.applied ≡ None → ⊥
applied_now G w v m k u e z y run none = no_some (sym none ∙ sym (ap (λ (r : Running). r.applied) (some_same (sym (changed_here numbers (w.stay m k).running u _ ∙ ap (option_map (changes.running_with_write e.version ((w.stay m k).applies (partition_of e.digest) + 1) (Rattle.cluster_laws.specs.Ground.other_view_replicas G k (partition_of e.digest) m))) z.may.resolved.running) ∙ (ap (λ (s : Stay). s.running u) (sym now) ∙ run)))) ∙ refl)
  where
    now : v.stay m k ≡ stay_after_write G m k u e.digest e.version (not (w.settled k (partition_of e.digest))) (w.stay m k)
    now = ap (λ (f : Picture). f.stay m k) z.is ∙ stay_here w.stay m k (stay_after_write G m k u e.digest e.version (not (w.settled k (partition_of e.digest))) (w.stay m k))

reads_frame : (G : Ground) (w : Picture) (e : Effect) → Allowed G w e → Sound G w → Grows G.by w (act G e w) → (n : ℕ) (k : ClusterKey) (t : ℕ) (y : Running) → (w.stay n k).running t ≡ Some y
    → (z : Running) → ((act G e w).stay n k).running t ≡ Some z → z.applied ≡ None → Open G w n k y → Open G (act G e w) n k y
reads_frame G w e ok s g n k t y run z there none h = record {
  awaited = h.awaited;
  quiet = λ m a. still_unsettled G w e ok s n k t y run (h.quiet m a);
  entries = λ m mem. ⊎_elim inl (λ q. inr (subst (λ (f : Versions). AtMost G.by (f y.digest) y.best) (sym ((g.stay m k).entered ((s.whole.known.cross n k).all_in ((s.whole.known.txns n k).running t y run).0 m mem)).1) q)) (h.entries m mem);
  writes = λ m u f a i. ⊎_elim (λ q. h.writes m u f q i)
      (λ q. let o = own_write G w (act G e w) s n m k t u y f run i q in
      absurd (applied_now G w (act G e w) m k u f q z (subst₂ (λ (l x : ℕ). ((act G e w).stay l k).running x ≡ Some z) o.0 o.1 there) none))
      (new_write G w (act G e w) m k _ _ (steps G w e ok m k) u f a);
}

-- where an open transaction comes from
data Origin (G : Ground) (w v : Picture) (n : ℕ) (k : ClusterKey) (t : ℕ) (y : Running) : Type 0 where
  old : (w.stay n k).running t ≡ Some y → Origin G w v n k t y
  begun : (d : List ℕ) → MayOpen G w n k t d → v ≡ changes.opens G n k t d w → y ≡ running_at_opening G k n (w.node n).content (w.stay n k) d → Origin G w v n k t y
  more : (r : ℕ) (o : Option Version) (x : Running) → WasAnswered w n k r t o x → y ≡ running_with_answer G.by r o x → Origin G w v n k t y

origin_within : (G : Ground) (w v : Picture) (n : ℕ) (k : ClusterKey) (x : Seen) (s : Stay) → Within G w v n k x s → (t : ℕ) (y : Running) → s.running t ≡ Some y → y.applied ≡ None → Origin G w v n k t y
origin_within G w v n k _ _ (begin u d ok opens_it) t y e none = changed_either numbers (λ o. o ≡ Some y → Origin G w v n k t y) (w.stay n k).running u _ t
    (λ i q. subst (λ (j : ℕ). Origin G w v n k j y) i (begun d ok opens_it (sym (some_same q)))) (λ _ q. old q) e
origin_within G w v n k _ _ (answer u d o ok) t y e none = changed_either numbers (λ z. z ≡ Some y → Origin G w v n k t y) (w.stay n k).running u None t (λ _ q. no_some q) (λ _ q. old q) e
origin_within G w v n k _ _ (finish u ok) t y e none = changed_either numbers (λ z. z ≡ Some y → Origin G w v n k t y) (w.stay n k).running u None t (λ _ q. no_some q) (λ _ q. old q) e
origin_within G w v n k _ _ (give_up u ok) t y e none = changed_either numbers (λ z. z ≡ Some y → Origin G w v n k t y) (w.stay n k).running u None t (λ _ q. no_some q) (λ _ q. old q) e
origin_within G w v n k _ _ (apply u d b early ok i j) t y e none = changed_either numbers (λ z. z ≡ Some y → Origin G w v n k t y) (w.stay n k).running u _ t
    (λ _ q. go ((w.stay n k).running u) q) (λ _ q. old q) e
  where
    go : (o : Option Running) → option_map (changes.running_with_write b ((w.stay n k).applies (partition_of d) + 1) (Rattle.cluster_laws.specs.Ground.other_view_replicas G k (partition_of d) n)) o ≡ Some y → Origin G w v n k t y
    go None q = no_some q
    go (Some z) q = no_some (sym none ∙ sym (ap (λ (r : Running). r.applied) (some_same q)))
origin_within G w v n k _ _ (write_acked r u z ok) t y e none = changed_either numbers (λ o. o ≡ Some y → Origin G w v n k t y) (w.stay n k).running u _ t
    (λ _ q. no_some (sym none ∙ (sym (ap (λ (b : Running). b.applied) (some_same q)) ∙ ok.applied))) (λ _ q. old q) e
origin_within G w v n k _ _ (answered r u o z ok) t y e none = changed_either numbers (λ b. b ≡ Some y → Origin G w v n k t y) (w.stay n k).running u _ t
    (λ i q. subst (λ (j : ℕ). Origin G w v n k j y) i (more r o z ok (sym (some_same q)))) (λ _ q. old q) e
origin_within G w v n k _ _ (exchange ok) t y e none = old e
origin_within G w v n k _ _ _ t y e none = old e

origin : (G : Ground) (w v : Picture) (n : ℕ) (k : ClusterKey) (x : Seen) (s : Stay) → Step G w v n k x s → (t : ℕ) (y : Running) → s.running t ≡ Some y → y.applied ≡ None → Origin G w v n k t y
origin G w v n k _ _ (enter ok z) t y e none = no_some e
origin G w v n k _ _ (within x s view c) t y e none = origin_within G w v n k x s c t y e none
origin G w v n k _ _ same t y e none = old e
origin G w v n k _ _ _ t y e none = old e

-- an opening changes nothing that an open transaction looks at
opened_after : (G : Ground) (w : Picture) (n : ℕ) (k : ClusterKey) (t : ℕ) (d : List ℕ) (y : Running) → Open G w n k y → Open G (changes.opens G n k t d w) n k y
opened_after G w n k t d y h = record {
  awaited = h.awaited;
  quiet = h.quiet;
  entries = λ m mem. ⊎_elim inl (λ q. inr (entry m k y.digest y.best (λ z. z) q)) (h.entries m mem);
  writes = λ m u e a i. h.writes m u e (write m k u e (λ z. z) a) i;
}
  where
    entry : (m : ℕ) (j : ClusterKey) (c : List ℕ) (b : Option Version) → (k ≡ k → k ≡ k) → AtMost G.by ((w.stay m j).entry c) b → AtMost G.by (((changes.opens G n k t d w).stay m j).entry c) b
    entry m j c b z = each_stay (λ m j s. AtMost G.by ((w.stay m j).entry c) b → AtMost G.by (s.entry c) b) w.stay n k _ (λ q. q) (λ m j q. q) m j

    write : (m : ℕ) (j : ClusterKey) (u : ℕ) (e : Applied) → (k ≡ k → k ≡ k) → ((changes.opens G n k t d w).stay m j).writes u ≡ Some e → (w.stay m j).writes u ≡ Some e
    write m j u e z = each_stay (λ m j s. s.writes u ≡ Some e → (w.stay m j).writes u ≡ Some e) w.stay n k _ (λ q. q) (λ m j q. q) m j

-- an answer came
answered_open : (G : Ground) (w v : Picture) → Sound G w → Grows G.by w v → (n : ℕ) (k : ClusterKey) (r t : ℕ) (o : Option Version) (x : Running) → WasAnswered w n k r t o x → Open G w n k x → Open G v n k x → Open G v n k (running_with_answer G.by r o x)
answered_open G w v s g n k r t o x ok hw h = record {
  awaited = λ m e. h.awaited m (in_without x.awaiting r m e);
  quiet = h.quiet;
  entries = λ m mem. ⊎_elim (λ a. still m mem a (number_cases a.node r)) (λ q. inr (AtMost_trans q (join_left x.best o))) (h.entries m mem);
  writes = λ m u e a i. AtMost_trans (h.writes m u e a i) (join_left x.best o);
}
  where
    said : Replied G w r n k t o
    said = s.whole.known.says r n (message.Answer k t o) ok.came.sent

    digest : said.digest ≡ x.digest
    digest = some_same (sym said.begun ∙ ((s.whole.known.txns n k).running t x ok.running).2)

    covers : AtMost G.by ((w.stay r k).entry x.digest) o
    covers = subst (λ (c : List ℕ). AtMost G.by ((w.stay r k).entry c) o) digest
        (⊎_elim (λ z. z) (λ z. differ z (subst (λ (c : List ℕ). w.settled k (partition_of c) ≡ false) (sym digest) (hw.quiet r (hw.awaited r ok.awaited)))) said.entry)

    all_in : (m : ℕ) → is_view_member G k m ≡ true → (w.stay m k).entered ≡ true
    all_in m mem = (s.whole.known.cross n k).all_in ((s.whole.known.txns n k).running t x ok.running).0 m mem

    still : (m : ℕ) → is_view_member G k m ≡ true → (a : Awaits G k (partition_of x.digest) m x.awaiting) → (a.node ≡ r) ⊎ (a.node ≡ r → ⊥) → Awaits G k (partition_of x.digest) m (without x.awaiting r) ⊎ AtMost G.by ((v.stay m k).entry x.digest) (join G.by x.best o)
    still m mem a (inr i) = inl (record { node = a.node; awaited = contains_without x.awaiting r a.node a.awaited i; member = a.member; same = a.same })
    still m mem a (inl i) = inr (subst (λ (f : Versions). AtMost G.by (f x.digest) (join G.by x.best o)) (sym ((g.stay m k).entered (all_in m mem)).1)
        (AtMost_trans (class_equal G w s.snap k (partition_of x.digest) m r (all_in m mem) said.entered (subst (λ (z : ℕ). same_view_class G k (partition_of x.digest) m z ≡ true) i a.same) x.digest refl) (AtMost_trans covers (join_right x.best o))))

pub reads_kept : (G : Ground) (w : Picture) (e : Effect) → IsGround G → Allowed G w e → Sound G w → Grows G.by w (act G e w) → AllReads G w → AllReads G (act G e w)
reads_kept G w e ground ok s g h n k t y run none = go (origin G w (act G e w) n k _ _ (steps G w e ok n k) t y run none)
  where
    go : Origin G w (act G e w) n k t y → Open G (act G e w) n k y
    go (old q) = reads_frame G w e ok s g n k t y q y run none (h n k t y q none)
    go (begun d may opens_it yi) = subst₂ (λ (f : Picture) (z : Running). Open G f n k z) (sym opens_it) (sym yi) (opened_after G w n k t d _ (opened_open G w ground s n k t d may))
    go (more r o x was yi) = subst (λ (z : Running). Open G (act G e w) n k z) (sym yi) (answered_open G w (act G e w) s g n k r t o x was (h n k t x was.running was.unapplied) (reads_frame G w e ok s g n k t x was.running y run none (h n k t x was.running was.unapplied)))

pub reads_start : (G : Ground) → AllReads G start
reads_start G n k t y e = no_some e

-- ---- as it is resolved

pub resolved_fold : (G : Ground) (w : Picture) → Sound G w → AllReads G w → (n : ℕ) (k : ClusterKey) (t : ℕ) (y : Running) → (w.stay n k).running t ≡ Some y → y.applied ≡ None → y.awaiting ≡ [] → y.best ≡ w.fold k y.digest
resolved_fold G w s h n k t y run none all = AtMost_antisymm ((s.whole.known.below n k).best t y run)
    (s.whole.folded.fold k y.digest y.best
    (λ m e. ⊎_elim (λ a. differ (subst (λ (l : List ℕ). contains l a.node ≡ true) all a.awaited) refl) (λ q. q) (o.entries m ((s.whole.known.entered m k).member e)))
    (λ m u e a i. o.writes m u e a i))
  where
    o : Open G w n k y
    o = h n k t y run none

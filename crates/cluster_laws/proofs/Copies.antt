-- When the base of a view rests, what a whole copy holds, and which copies are equal.
use Rattle.std.proofs.Common.{◌≡◌, ℕ, ◌≤◌, ◌==◌, Bool, true, false, cond, List, Option, Some, refl, sym, ap, ◌∙◌, subst, ◌⊎◌, inl, inr, ⊎_elim}
use Rattle.conflict_order.specs.declared.version.Version.{Version}
use Rattle.conflict_order.specs.Join.{AtMost}
use Rattle.conflict_order.proofs.OrderLaws.{AtMost_trans, AtMost_none}
use Rattle.cluster_types.specs.declared.cluster_key.ClusterKey.{ClusterKey}
use Rattle.cluster_types.specs.declared.copy_state.CopyState.TheVariants.{Empty, Whole}
use Rattle.cluster_types.specs.Partitions.{partition_of}
use Rattle.cluster_types.specs.Distinct.{contains}
use Rattle.partition_lists.specs.Acting.{is_empty}
use Rattle.partition_lists.specs.Classes.{no_class}
use Rattle.cluster_laws.specs.Changed.{at_key}
use Rattle.cluster_laws.specs.Ground.{Ground, is_view_member, view_master, view_acting, is_view_replica, is_view_empty, same_view_class}
use Rattle.cluster_laws.specs.Stay.{Versions, Running, Applied, Stay}
use Rattle.cluster_laws.specs.Picture.{Picture}
use Rattle.cluster_laws.specs.Effect.{Effect, Nothing, Enters, Applies}
use Rattle.cluster_laws.specs.Changes.{act, with_all, with_version}
use Rattle.cluster_laws.proofs.At.{keys, digests, changed_either, number_here, number_cases, truth, differ}
use Rattle.cluster_laws.proofs.Allowed.{Allowed}
use Rattle.cluster_laws.proofs.Grows.{Grows, at_same}
use Rattle.cluster_laws.proofs.GroundLaws.{empty_row, empty_acting, alike, First, first_of, alike_full, first_sends, replica_member}
use Rattle.cluster_laws.proofs.Predicates.{Moved}
use Rattle.cluster_laws.proofs.Said.{Known}
use Rattle.cluster_laws.proofs.Moving.{AllHanded, AllSettled, AllWriters, holder}
use Rattle.cluster_laws.proofs.Folds.{AllBased, Folded}
use Rattle.cluster_laws.proofs.Heard.{AllHears}
use Rattle.cluster_laws.proofs.Fine.{HeardBy, HeardBelow, EarlyBelow, AllFine}

-- ---- rest

-- all was empty, and somebody has finished the exchange
pub record Emptied (G : Ground) (w : Picture) (k : ClusterKey) (p : ℕ) : Type 0 where
  pub all : is_view_empty G k p ≡ true
  pub node : ℕ
  pub exchanged : (w.stay node k).exchanged ≡ true

abbrev pub Rests : Ground → Picture → ClusterKey → ℕ → Type 0
Rests G w k p = (w.settled k p ≡ true) ⊎ Emptied G w k p

pub rests_grow : (G : Ground) (w v : Picture) → Grows G.by w v → (k : ClusterKey) (p : ℕ) → Rests G w k p → Rests G v k p
rests_grow G w v g k p (inl e) = inl (g.settled k p e)
rests_grow G w v g k p (inr e) = inr (record { all = e.all; node = e.node; exchanged = (g.stay e.node k).exchanged e.exchanged })

-- what stands of a picture, up to here
pub record Whole_picture (G : Ground) (w : Picture) : Type 0 where
  pub known : Known G w
  pub handed : AllHanded G w
  pub settled : AllSettled G w
  pub writers : AllWriters G w
  pub based : AllBased G w
  pub folded : Folded G w
  pub hears : AllHears G w
  pub fine : AllFine G w

pub all_entered : (G : Ground) (w : Picture) → Whole_picture G w → (k : ClusterKey) (p : ℕ) → Rests G w k p → (m : ℕ) → is_view_member G k m ≡ true → (w.stay m k).entered ≡ true
all_entered G w a k p (inl e) m mem = (a.known.cross m k).all_in ((a.settled k p e).moved m mem).exchanged m mem
all_entered G w a k p (inr e) m mem = (a.known.cross e.node k).all_in e.exchanged m mem

-- only the list master has transactions where the base rests
only_master : (G : Ground) (w : Picture) → Whole_picture G w → (k : ClusterKey) (n t : ℕ) (y : Running) → (w.stay n k).running t ≡ Some y → Rests G w k (partition_of y.digest) → n ≡ view_master G k (partition_of y.digest)
only_master G w a k n t y e (inl z) = holder G w a.handed a.settled n k t y e ((a.writers n k).running t y e) z
only_master G w a k n t y e (inr z) = ⊎_elim (λ i. i ∙ empty_acting G k (partition_of y.digest) z.all) (λ i. i.0) ((a.writers n k).running t y e)

pub base_rests : (G : Ground) (w : Picture) (e : Effect) → Allowed G w e → Whole_picture G w → (k : ClusterKey) (d : List ℕ) → Rests G w k (partition_of d) → (act G e w).base k d ≡ w.base k d
base_rests G w (Enters n j) ok a k d r = changed_either keys (λ (f : Versions). f d ≡ w.base k d) w.base j (with_all G.by (w.base j) (w.node n).content) k
    (λ i. differ ok.above ((a.known.entered n j).below (all_entered G w a j (partition_of d) (subst (λ (z : ClusterKey). Rests G w z (partition_of d)) (sym i) r) n ok.member))) (λ _. refl)
base_rests G w (Applies n j t c u) ok a k d r = go (view_master G j (partition_of c) == n) refl
  where
    mine : j ≡ k → c ≡ d → n ≡ view_master G j (partition_of c)
    mine i q = subst (λ (l : List ℕ). n ≡ view_master G j (partition_of l)) ok.resolved.digest
        (only_master G w a j n t ok.transaction ok.resolved.running (subst (λ (l : List ℕ). Rests G w j (partition_of l)) (sym (ok.resolved.digest ∙ q)) (subst (λ (z : ClusterKey). Rests G w z (partition_of d)) (sym i) r)))

    go : (b : Bool) → (view_master G j (partition_of c) == n) ≡ b → (cond b w.base (at_key w.base j (with_version G.by (w.base j) c u))) k d ≡ w.base k d
    go true e = refl
    go false e = changed_either keys (λ (f : Versions). f d ≡ w.base k d) w.base j (with_version G.by (w.base j) c u) k
        (λ i. changed_either digests (λ (o : Option Version). o ≡ w.base k d) (w.base j) c _ d
        (λ q. differ (subst (λ (m : ℕ). (m == n) ≡ true) (mine i q) (number_here n)) e) (λ _. ap (λ (z : ClusterKey). w.base z d) i)) (λ _. refl)
base_rests G w Nothing ok a k d r = refl
base_rests G w _ ok a k d r = refl

-- ---- snapshots

-- a copy that was whole with so many writes: the base of its view with just these writes
pub record Copied (G : Ground) (w : Picture) (k : ClusterKey) (c p : ℕ) (entry : Versions) : Type 0 where
  pub rests : Rests G w k p
  pub made : c ≤ (w.stay (view_master G k p) k).applies p
  pub upper : (d : List ℕ) → partition_of d ≡ p → (b : Option Version) → AtMost G.by (w.base k d) b
      → ((t : ℕ) (e : Applied) → (w.stay (view_master G k p) k).writes t ≡ Some e → e.digest ≡ d → e.nth ≤ c → AtMost G.by (Some e.version) b) → AtMost G.by (entry d) b
  pub base : (d : List ℕ) → partition_of d ≡ p → AtMost G.by (w.base k d) (entry d)
  pub heard : (t : ℕ) (e : Applied) → (w.stay (view_master G k p) k).writes t ≡ Some e → partition_of e.digest ≡ p → e.nth ≤ c → AtMost G.by (Some e.version) (entry e.digest)

-- each copy with which a member entered, that was whole, is so
pub record Snap (G : Ground) (w : Picture) (n : ℕ) (j : ClusterKey) (s : Stay) : Type 0 where
  pub copied : s.entered ≡ true → (p : ℕ) (k : ClusterKey) (c : ℕ) → G.row j n p ≡ Whole k c → (c == no_class) ≡ false → Copied G w k c p s.entry

abbrev pub AllSnap : Ground → Picture → Type 0
AllSnap G w = (n : ℕ) (k : ClusterKey) → Snap G w n k (w.stay n k)

-- members of one class entered with equal copies
pub class_equal : (G : Ground) (w : Picture) → AllSnap G w → (k : ClusterKey) (p a b : ℕ) → (w.stay a k).entered ≡ true → (w.stay b k).entered ≡ true → same_view_class G k p a b ≡ true → (d : List ℕ) → partition_of d ≡ p
    → AtMost G.by ((w.stay a k).entry d) ((w.stay b k).entry d)
class_equal G w sn k p a b ea eb same d dp = ⊎_elim
    (λ i. at_same G.by (ap (λ (m : ℕ). (w.stay m k).entry d) i))
    (λ h. let x : Copied G w h.key h.writes p (w.stay a k).entry = (sn a k).copied ea p h.key h.writes h.left h.counted in
    let y : Copied G w h.key h.writes p (w.stay b k).entry = (sn b k).copied eb p h.key h.writes h.right h.counted in
    x.upper d dp ((w.stay b k).entry d) (y.base d dp) (λ t e z i le. subst (λ (l : List ℕ). AtMost G.by (Some e.version) ((w.stay b k).entry l)) i (y.heard t e z (ap partition_of i ∙ dp) le)))
    (alike G k p a b same)

-- ---- entries arrive

entries_arrive : (G : Ground) (w : Picture) → Whole_picture G w → AllSnap G w → (k : ClusterKey) (p : ℕ) → Moved G w k p → (m r : ℕ) → is_view_member G k m ≡ true → is_view_replica G k p r ≡ true → (w.stay r k).entered ≡ true → (d : List ℕ) → partition_of d ≡ p
    → AtMost G.by ((w.stay m k).entry d) ((w.stay r k).held d)
entries_arrive G w a sn k p moved m r mem rep er d dp = go (is_empty (G.row k m p)) refl
  where
    entered : (n : ℕ) → is_view_member G k n ≡ true → (w.stay n k).entered ≡ true
    entered n i = (a.known.cross n k).all_in (moved n i).exchanged n i

    empty_is : (o : Bool) → is_empty (G.row k m p) ≡ o → o ≡ true → G.row k m p ≡ Empty
    empty_is o e z = by_state (G.row k m p) refl (e ∙ z)
      where
        by_state : (s : Rattle.cluster_types.specs.declared.copy_state.CopyState.CopyState) → G.row k m p ≡ s → is_empty s ≡ true → s ≡ Empty
        by_state Empty i q = refl
        by_state Rattle.cluster_types.specs.declared.copy_state.CopyState.TheVariants.Part i q = differ q refl
        by_state (Whole j c) i q = differ q refl

    by_first : First G k p m → is_empty (G.row k m p) ≡ false → AtMost G.by ((w.stay m k).entry d) ((w.stay r k).held d)
    by_first f full = AtMost_trans (class_equal G w sn k p m f.node (entered m mem) (entered f.node f.member) f.same d dp) (from (number_cases f.node r) (truth (same_view_class G k p f.node r)))
      where
        from : (f.node ≡ r) ⊎ (f.node ≡ r → ⊥) → (same_view_class G k p f.node r ≡ true) ⊎ (same_view_class G k p f.node r ≡ false) → AtMost G.by ((w.stay f.node k).entry d) ((w.stay r k).held d)
        from (inl i) c = subst (λ (z : ℕ). AtMost G.by ((w.stay z k).entry d) ((w.stay r k).held d)) (sym i) ((a.known.held r k).entry d)
        from (inr i) (inl c) = AtMost_trans (class_equal G w sn k p f.node r (entered f.node f.member) er c d dp) ((a.known.held r k).entry d)
        from (inr i) (inr c) = (a.known.cross f.node k).arrived r d (moved f.node f.member).exchanged
            (subst (λ (z : ℕ). Rattle.cluster_laws.specs.Ground.view_sends_to G k z f.node r ≡ true) (sym dp) (first_sends G k p f.node r rep i (alike_full G k p m f.node f.same full) f.first c))
            ((moved f.node f.member).none r d dp)

    go : (b : Bool) → is_empty (G.row k m p) ≡ b → AtMost G.by ((w.stay m k).entry d) ((w.stay r k).held d)
    go true e = subst (λ (o : Option Version). AtMost G.by o ((w.stay r k).held d)) (sym ((a.based m k).empty (entered m mem) p (empty_is true e refl) d dp)) (AtMost_none ((w.stay r k).held d))
    go false e = by_first (first_of G k p m mem e) e

pub arrive : (G : Ground) (w : Picture) → Whole_picture G w → AllSnap G w → (k : ClusterKey) (p : ℕ) → Moved G w k p → (m r : ℕ) → is_view_member G k m ≡ true → is_view_replica G k p r ≡ true → (d : List ℕ) → partition_of d ≡ p
    → AtMost G.by ((w.stay m k).entry d) ((w.stay r k).held d)
arrive G w a sn k p moved m r mem rep d dp = entries_arrive G w a sn k p moved m r mem rep ((a.known.cross r k).all_in (moved r (replica_member G k p r rep)).exchanged r (replica_member G k p r rep)) d dp

-- a write that is done is held by each replica
pub done_held : (G : Ground) (w : Picture) → Whole_picture G w → (n r t : ℕ) (k : ClusterKey) (e : Applied) → (w.stay n k).writes t ≡ Some e → (w.stay n k).done t ≡ true → is_view_replica G k (partition_of e.digest) r ≡ true → AtMost G.by (Some e.version) ((w.stay r k).held e.digest)
done_held G w a n r t k e z dn rep = ⊎_elim (λ i. subst (λ (m : ℕ). AtMost G.by (Some e.version) ((w.stay m k).held e.digest)) (sym i) ((a.known.held n k).write t e z)) (λ i. ((a.known.cross n k).done r t e dn z rep i).held) (number_cases r n)

-- a write of another than the list master is done where the partition is settled
pub others_done : (G : Ground) (w : Picture) → Whole_picture G w → (n t : ℕ) (k : ClusterKey) (e : Applied) → (w.stay n k).writes t ≡ Some e → w.settled k (partition_of e.digest) ≡ true → (n ≡ view_master G k (partition_of e.digest) → ⊥) → (w.stay n k).done t ≡ true
others_done G w a n t k e z st other = ⊎_elim
    (λ i. ⊎_elim (λ q. absurd (other (i ∙ q)))
    (λ q. subst (λ (m : ℕ). (w.stay m k).writes t ≡ Some e → (w.stay m k).done t ≡ true) (sym i) (λ b. (a.handed k (partition_of e.digest) q).shut.done t e b refl) z) ((a.settled k (partition_of e.digest) st).after))
    (λ i. absurd (other i.0)) ((a.writers n k).write t e z)

-- ---- what a whole copy holds

pub record Equal (G : Ground) (w : Picture) (n : ℕ) (k : ClusterKey) (p : ℕ) (content : Versions) (s : Stay) : Type 0 where
  pub rests : Rests G w k p
  pub replica : is_view_replica G k p n ≡ true
  pub upper : (d : List ℕ) → partition_of d ≡ p → (b : Option Version) → AtMost G.by (w.base k d) b → HeardBelow G w n k s d b → AtMost G.by (content d) b
  pub base : (d : List ℕ) → partition_of d ≡ p → AtMost G.by (w.base k d) (content d)
  pub heard : (t : ℕ) (e : Applied) → (w.stay (view_master G k p) k).writes t ≡ Some e → partition_of e.digest ≡ p → HeardBy G n k s p e.nth
      → AtMost G.by (Some e.version) (content e.digest) ⊎ (w.owed ≡ Some (record { node = n; key = k; digest = e.digest; version = e.version }))

-- where the base rests, a replica has had the early writes
early_heard : (G : Ground) (w : Picture) → Whole_picture G w → (n : ℕ) (k : ClusterKey) (d : List ℕ) → Rests G w k (partition_of d) → is_view_replica G k (partition_of d) n ≡ true → (b : Option Version) → HeardBelow G w n k (w.stay n k) d b → is_view_empty G k (partition_of d) ≡ false → EarlyBelow G w k d b
early_heard G w a n k d (inr z) rep b h some = differ z.all some
early_heard G w a n k d (inl z) rep b h some = record {
  below = λ t e q i early. h.below t e q i (⊎_elim inl
      (λ other. inr (subst (λ (l : List ℕ). contains ((w.stay n k).numbers (partition_of l)) e.nth ≡ true) i
      (((a.known.cross (view_master G k (partition_of d)) k).done n t e ((a.settled k (partition_of d) z).early.done t e q (ap partition_of i) early) q (subst (λ (l : List ℕ). is_view_replica G k (partition_of l) n ≡ true) (sym i) rep) other).counted
      (ap (λ (l : List ℕ). view_master G k (partition_of l)) (sym i)))))
      (number_cases n (view_master G k (partition_of d))));
}

pub equal_in_view : (G : Ground) (w : Picture) → Whole_picture G w → AllSnap G w → (n : ℕ) (k : ClusterKey) (p : ℕ) → (w.node n).view ≡ Some k → Rests G w k p → is_view_replica G k p n ≡ true → Equal G w n k p (w.node n).content (w.stay n k)
equal_in_view G w a sn n k p view rests rep = record {
  rests = rests;
  replica = rep;
  upper = λ d dp b base h. AtMost_trans ((a.known.inside n k view).held d) ((a.fine n k).held d b base
      (early_heard G w a n k d (subst (Rests G w k) (sym dp) rests) (subst (λ (q : ℕ). is_view_replica G k q n ≡ true) (sym dp) rep) b h) h);
  base = λ d dp. a.folded.base k d ((w.node n).content d) (λ m e. entry d dp m ((a.known.entered m k).member e) rests) (λ m t e z i other. wrote d dp m t e z i other rests);
  heard = λ t e z ep by. ⊎_elim
      (λ i. inl (kept e.digest ep ((subst (λ (m : ℕ). (w.stay m k).writes t ≡ Some e → AtMost G.by (Some e.version) ((w.stay n k).held e.digest)) i (λ q. (a.known.held n k).write t e q)) z)))
      (λ c. ⊎_elim (λ q. inl (kept e.digest ep q)) inr ((a.hears n k).held t e (subst (λ (q : ℕ). (w.stay (view_master G k q) k).writes t ≡ Some e) (sym ep) z) (subst (λ (q : ℕ). contains ((w.stay n k).numbers q) e.nth ≡ true) (sym ep) c))) by;
}
  where
    kept : {o : Option Version} (d : List ℕ) → partition_of d ≡ p → AtMost G.by o ((w.stay n k).held d) → AtMost G.by o ((w.node n).content d)
    kept {o} d dp h = AtMost_trans h ((a.known.inside n k view).kept d (subst (λ (q : ℕ). is_view_replica G k q n ≡ true) (sym dp) rep))

    entry : (d : List ℕ) → partition_of d ≡ p → (m : ℕ) → is_view_member G k m ≡ true → Rests G w k p → AtMost G.by ((w.stay m k).entry d) ((w.node n).content d)
    entry d dp m mem (inl z) = kept d dp (arrive G w a sn k p (a.settled k p z).moved m n mem rep d dp)
    entry d dp m mem (inr z) = subst (λ (o : Option Version). AtMost G.by o ((w.node n).content d)) (sym ((a.based m k).empty (all_entered G w a k p (inr z) m mem) p (empty_row G k p m z.all mem) d dp)) (AtMost_none ((w.node n).content d))

    wrote : (d : List ℕ) → partition_of d ≡ p → (m t : ℕ) (e : Applied) → (w.stay m k).writes t ≡ Some e → e.digest ≡ d → (m ≡ view_master G k (partition_of d) → ⊥) → Rests G w k p → AtMost G.by (Some e.version) ((w.node n).content d)
    wrote d dp m t e z i other (inl st) = kept d dp (subst (λ (l : List ℕ). AtMost G.by (Some e.version) ((w.stay n k).held l)) i
        (done_held G w a m n t k e z (others_done G w a m t k e z (subst (λ (q : ℕ). w.settled k q ≡ true) (sym (ap partition_of i ∙ dp)) st) (λ q. other (q ∙ ap (λ (l : List ℕ). view_master G k (partition_of l)) i))) (subst (λ (q : ℕ). is_view_replica G k q n ≡ true) (sym (ap partition_of i ∙ dp)) rep)))
    wrote d dp m t e z i other (inr em) = ⊎_elim
        (λ q. absurd (other (q ∙ (empty_acting G k (partition_of e.digest) (subst (λ (l : ℕ). is_view_empty G k l ≡ true) (sym (ap partition_of i ∙ dp)) em.all) ∙ ap (λ (l : List ℕ). view_master G k (partition_of l)) i))))
        (λ q. absurd (other (q.0 ∙ ap (λ (l : List ℕ). view_master G k (partition_of l)) i))) ((a.writers m k).write t e z)

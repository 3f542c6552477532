-- No version is lost.
use Rattle.std.proofs.Common.{◌≡◌, ℕ, ◌==◌, Bool, true, false, cond, List, Option, Some, None, refl, sym, ap, ◌∙◌, subst, subst₂, ◌⊎◌, inl, inr, ⊎_elim}
use Rattle.conflict_order.specs.declared.version.Version.{Version}
use Rattle.conflict_order.specs.Join.{AtMost}
use Rattle.conflict_order.proofs.OrderLaws.{AtMost_refl, AtMost_trans, AtMost_none, AtMost_antisymm}
use Rattle.conflict_order.proofs.JoinLaws.{join_one_of_both}
use Rattle.cluster_types.specs.declared.cluster_key.ClusterKey.{ClusterKey}
use Rattle.cluster_types.specs.ClusterKeys.{key_lt}
use Rattle.cluster_types.specs.Partitions.{partition_of}
use Rattle.cluster_laws.specs.Changed.{at_number}
use Rattle.cluster_laws.specs.Ground.{Ground, IsGround, is_view_member, view_master, is_view_replica}
use Rattle.cluster_laws.specs.Stay.{Versions, Applied, Stay}
use Rattle.cluster_laws.specs.Picture.{Seen, Picture, start}
use Rattle.cluster_laws.specs.Effect.{Effect, Nothing, Sets_clock, Enters, Stops, Exchanges, Applies, Merges, Learns, Drops, Write_came}
use Rattle.cluster_laws.specs.Changes.{act, with_version, seen_after_drop}
use Rattle.cluster_laws.specs.Licences.{MayEnter, MayDrop}
use Rattle.cluster_laws.proofs.At.{numbers, digests, changed_either, changed_each, changed_here, changed_other, number_same, number_cases, differ, some_same, no_some}
use Rattle.cluster_laws.proofs.Keys.{lt_irrefl, lt_trans}
use Rattle.cluster_laws.proofs.Allowed.{Allowed}
use Rattle.cluster_laws.proofs.Step.{Step, same, enter, within, steps}
use Rattle.cluster_laws.proofs.Grows.{Grows, version_grows, version_there, version_below}
use Rattle.cluster_laws.proofs.GroundLaws.{master_replica}
use Rattle.cluster_laws.proofs.Stays.{AllEntered, framed}
use Rattle.cluster_laws.proofs.Inside.{AllInside}
use Rattle.cluster_laws.proofs.Below.{AllApplied, merged_held}
use Rattle.cluster_laws.proofs.Copies.{Whole_picture, AllSnap, arrive, done_held, others_done}

-- ---- how a node's store changes at a line that drops nothing

pub data Rise (G : Ground) (w v : Picture) (n : ℕ) : Seen → Type 0 where
  still : (x : Seen) → x.content ≡ (w.node n).content → x.last ≡ (w.node n).last → Rise G w v n x
  entered : (k : ClusterKey) → MayEnter G w n k → Rise G w v n (record (w.node n) { view = Some k; last = k })
  stored : (x : Seen) (d : List ℕ) (u : Version) → x.content ≡ with_version G.by (w.node n).content d u → x.last ≡ (w.node n).last → AtMost G.by (Some u) (v.applied d) → Rise G w v n x

abbrev pub DropsNothing : Effect → Type 0
DropsNothing (Drops n k p) = ⊥
DropsNothing _ = Unit {0}

one_rise : (G : Ground) (w v : Picture) (n : ℕ) (x : Seen) → Rise G w v n x → (m : ℕ) → Rise G w v m (at_number w.node n x m)
one_rise G w v n x here = changed_each numbers (Rise G w v) w.node n x here (λ m _. still (w.node m) refl refl)

pub rises : (G : Ground) (w : Picture) (e : Effect) → Allowed G w e → Whole_picture G w → Grows G.by w (act G e w) → DropsNothing e → (m : ℕ) → Rise G w (act G e w) m ((act G e w).node m)
rises G w (Sets_clock n time) ok a g nd = one_rise G w _ n _ (still _ refl refl)
rises G w (Enters n k) ok a g nd = one_rise G w _ n _ (entered k ok)
rises G w (Stops n) ok a g nd = one_rise G w _ n _ (still _ refl refl)
rises G w (Exchanges n k) ok a g nd = one_rise G w _ n _ (still _ refl refl)
rises G w (Applies n k t d u) ok a g nd = one_rise G w _ n _ (stored _ d u refl refl (version_there G.by w.applied d u))
rises G w (Merges n k d u) ok a g nd = one_rise G w _ n _ (stored _ d u refl refl (AtMost_trans (merged_held G w n k d u a.known ok) (AtMost_trans ((a.known.below ok.from k).applied d) (g.applied d))))
rises G w (Learns n k p) ok a g nd = one_rise G w _ n _ (still _ refl refl)
rises G w (Drops n k p) ok a g nd = absurd nd
rises G w (Write_came n k from nth d u) ok a g nd = one_rise G w _ n _ (still _ refl refl)
rises G w _ ok a g nd = λ m. still (w.node m) refl refl

-- a content that doesn't fall
content_rises : (G : Ground) (w v : Picture) (n : ℕ) (x : Seen) → Rise G w v n x → (d : List ℕ) → AtMost G.by ((w.node n).content d) (x.content d)
content_rises G w v n _ (still x c l) d = subst (λ (f : Versions). AtMost G.by ((w.node n).content d) (f d)) (sym c) (AtMost_refl ((w.node n).content d))
content_rises G w v n _ (entered k ok) d = AtMost_refl ((w.node n).content d)
content_rises G w v n _ (stored x e u c l z) d = subst (λ (f : Versions). AtMost G.by ((w.node n).content d) (f d)) (sym c) (version_grows G.by (w.node n).content e u d)

-- ---- all that is held was applied

applied_step : (G : Ground) (w v : Picture) (n : ℕ) (x : Seen) → Rise G w v n x → Grows G.by w v → AllApplied G w → (d : List ℕ) → AtMost G.by (x.content d) (v.applied d)
applied_step G w v n _ (still x c l) g h d = subst (λ (f : Versions). AtMost G.by (f d) (v.applied d)) (sym c) (AtMost_trans (h n d) (g.applied d))
applied_step G w v n _ (entered k ok) g h d = AtMost_trans (h n d) (g.applied d)
applied_step G w v n _ (stored x e u c l z) g h d = subst (λ (f : Versions). AtMost G.by (f d) (v.applied d)) (sym c)
    (version_below G.by (w.node n).content e u d (v.applied d) (AtMost_trans (h n d) (g.applied d)) (λ i. subst (λ (q : List ℕ). AtMost G.by (Some u) (v.applied q)) i z))

pub applied_kept : (G : Ground) (w : Picture) (e : Effect) → Allowed G w e → Whole_picture G w → Grows G.by w (act G e w) → AllApplied G w → AllApplied G (act G e w)
applied_kept G w (Drops n k p) ok a g h m d = changed_either numbers (λ (x : Seen). AtMost G.by (x.content d) (w.applied d)) w.node n (seen_after_drop p (w.node n)) m (λ _. less (partition_of d == p)) (λ _. h m d)
  where
    less : (b : Bool) → AtMost G.by (cond b None ((w.node n).content d)) (w.applied d)
    less true = AtMost_none (w.applied d)
    less false = h n d
applied_kept G w Nothing ok a g h m d = h m d
applied_kept G w e ok a g h m d = applied_step G w (act G e w) m _ (rises G w e ok a g tt m) g h d

pub applied_start : (G : Ground) → AllApplied G start
applied_start G n d = AtMost_none None

-- ---- what a replica held is kept

-- a place where the version stands, at a node that entered later, or at a replica of the view
pub record Place (G : Ground) (w : Picture) (k : ClusterKey) (d : List ℕ) (v : Version) : Type 0 where
  pub node : ℕ
  pub has : AtMost G.by (Some v) ((w.node node).content d)
  pub late : (key_lt k (w.node node).last ≡ true) ⊎ (((w.node node).last ≡ k) × (is_view_replica G k (partition_of d) node ≡ true))

abbrev pub Kept : Ground → Picture → Type 0
Kept G w = (k : ClusterKey) (r : ℕ) (d : List ℕ) (v : Version) → is_view_replica G k (partition_of d) r ≡ true → AtMost G.by (Some v) ((w.stay r k).held d) → Place G w k d v

pub record Somewhere (G : Ground) (w : Picture) (d : List ℕ) (v : Version) : Type 0 where
  pub node : ℕ
  pub has : AtMost G.by (Some v) ((w.node node).content d)

abbrev pub Lossless : Ground → Picture → Type 0
Lossless G w = (d : List ℕ) (v : Version) → w.applied d ≡ Some v → Somewhere G w d v

-- a node that may drop holds no more than each replica has held
covered : (G : Ground) (w : Picture) → IsGround G → Whole_picture G w → AllSnap G w → (n : ℕ) (k : ClusterKey) (p : ℕ) → MayDrop G w n k p → (r : ℕ) → is_view_replica G k p r ≡ true → (d : List ℕ) → partition_of d ≡ p → AtMost G.by ((w.node n).content d) ((w.stay r k).held d)
covered G w ground a sn n k p ok r rep d dp = (a.known.inside n k ok.is_in.view).outside d _ (subst (λ (q : ℕ). is_view_replica G k q n ≡ false) (sym dp) ok.outside)
    (arrive G w a sn k p (a.settled k p settled).moved n r mem rep d dp)
    (λ t e z i. subst (λ (c : List ℕ). AtMost G.by (Some e.version) ((w.stay r k).held c)) i (done_held G w a n r t k e z (others_done G w a n t k e z (subst (λ (q : ℕ). w.settled k q ≡ true) (sym (ap partition_of i ∙ dp)) settled) (other e i))
    (subst (λ (q : ℕ). is_view_replica G k q r ≡ true) (sym (ap partition_of i ∙ dp)) rep)))
  where
    settled : w.settled k p ≡ true
    settled = (a.known.cross n k).settled p ok.settled

    mem : is_view_member G k n ≡ true
    mem = (a.known.entered n k).member ((a.known.entered n k).now ok.is_in.view).0

    other : (e : Applied) → e.digest ≡ d → n ≡ view_master G k (partition_of e.digest) → ⊥
    other e i z = differ (subst (λ (m : ℕ). is_view_replica G k p m ≡ true) (sym (z ∙ ap (view_master G k) (ap partition_of i ∙ dp))) (master_replica G ground k p n mem)) ok.outside

-- the version that a node drops stands at another node, at least as late
record Elsewhere (G : Ground) (w : Picture) (n : ℕ) (k : ClusterKey) (d : List ℕ) (v : Version) : Type 0 where
  node : ℕ
  has : AtMost G.by (Some v) ((w.node node).content d)
  other : n ≡ node → ⊥
  late : (key_lt k (w.node node).last ≡ true) ⊎ ((w.node node).last ≡ k)

elsewhere : (G : Ground) (w : Picture) → IsGround G → Whole_picture G w → AllSnap G w → Kept G w → (n : ℕ) (k : ClusterKey) (p : ℕ) → MayDrop G w n k p → (d : List ℕ) → partition_of d ≡ p → (v : Version) → AtMost G.by (Some v) ((w.node n).content d) → Elsewhere G w n k d v
elsewhere G w ground a sn kept n k p ok d dp v has = record {
  node = y.node;
  has = y.has;
  other = λ i. away_from i y.late;
  late = ⊎_elim inl (λ z. inr z.0) y.late;
}
  where
    now : ((w.stay n k).entered ≡ true) × ((w.node n).last ≡ k)
    now = (a.known.entered n k).now ok.is_in.view

    r : ℕ
    r = view_master G k p

    rep : is_view_replica G k p r ≡ true
    rep = master_replica G ground k p n ((a.known.entered n k).member now.0)

    y : Place G w k d v
    y = kept k r d v (subst (λ (q : ℕ). is_view_replica G k q r ≡ true) (sym dp) rep) (AtMost_trans has (covered G w ground a sn n k p ok r rep d dp))

    away_from : n ≡ y.node → (key_lt k (w.node y.node).last ≡ true) ⊎ (((w.node y.node).last ≡ k) × (is_view_replica G k (partition_of d) y.node ≡ true)) → ⊥
    away_from i (inl z) = differ (ap (key_lt k) (sym now.1 ∙ ap (λ (m : ℕ). (w.node m).last) i) ∙ z) (lt_irrefl k)
    away_from i (inr z) = differ (subst₂ (λ (m q : ℕ). is_view_replica G k q m ≡ true) (sym i) dp z.1) ok.outside

-- a place stays, at a line that drops nothing
place_rises : (G : Ground) (w v : Picture) → ((m : ℕ) → Rise G w v m (v.node m)) → (k : ClusterKey) (d : List ℕ) (u : Version) → Place G w k d u → Place G v k d u
place_rises G w v rise k d u h = record { node = h.node; has = AtMost_trans h.has (content_rises G w v h.node (v.node h.node) (rise h.node) d); late = later h.node (v.node h.node) (rise h.node) h.late }
  where
    later : (m : ℕ) (x : Seen) → Rise G w v m x → (key_lt k (w.node m).last ≡ true) ⊎ (((w.node m).last ≡ k) × (is_view_replica G k (partition_of d) m ≡ true)) → (key_lt k x.last ≡ true) ⊎ ((x.last ≡ k) × (is_view_replica G k (partition_of d) m ≡ true))
    later m _ (still x c l) z = ⊎_elim (λ q. inl (ap (key_lt k) l ∙ q)) (λ q. inr (l ∙ q.0, q.1)) z
    later m _ (stored x e b c l y) z = ⊎_elim (λ q. inl (ap (key_lt k) l ∙ q)) (λ q. inr (l ∙ q.0, q.1)) z
    later m _ (entered j ok) z = ⊎_elim (λ q. inl (lt_trans k (w.node m).last j q ok.above)) (λ q. inl (subst (λ (l : ClusterKey). key_lt l j ≡ true) q.0 ok.above)) z

-- a place stays where a node drops a partition
place_drop : (G : Ground) (w : Picture) → IsGround G → Whole_picture G w → AllSnap G w → Kept G w → (n : ℕ) (j : ClusterKey) (p : ℕ) → MayDrop G w n j p → (k : ClusterKey) (d : List ℕ) (u : Version) → Place G w k d u → Place G (act G (Drops n j p) w) k d u
place_drop G w ground a sn kept n j p ok k d u h = go (number_cases n h.node) (number_cases (partition_of d) p)
  where
    v : Picture
    v = act G (Drops n j p) w

    last_same : (m : ℕ) → (v.node m).last ≡ (w.node m).last
    last_same m = changed_either numbers (λ (x : Seen). x.last ≡ (w.node m).last) w.node n (seen_after_drop p (w.node n)) m (λ i. ap (λ (z : ℕ). (w.node z).last) i) (λ _. refl)

    survives : (m : ℕ) → ((n ≡ m → ⊥) ⊎ (partition_of d ≡ p → ⊥)) → AtMost G.by (Some u) ((w.node m).content d) → AtMost G.by (Some u) ((v.node m).content d)
    survives m c z = changed_either numbers (λ (x : Seen). AtMost G.by (Some u) (x.content d)) w.node n (seen_after_drop p (w.node n)) m (λ i. here i c (partition_of d == p) refl) (λ _. z)
      where
        here : n ≡ m → ((n ≡ m → ⊥) ⊎ (partition_of d ≡ p → ⊥)) → (b : Bool) → (partition_of d == p) ≡ b → AtMost G.by (Some u) (cond b None ((w.node n).content d))
        here i (inl q) b e = absurd (q i)
        here i (inr q) true e = absurd (q (number_same (partition_of d) p e))
        here i (inr q) false e = subst (λ (x : ℕ). AtMost G.by (Some u) ((w.node x).content d)) (sym i) z

    at_last : (m : ℕ) → (key_lt k (w.node m).last ≡ true) ⊎ (((w.node m).last ≡ k) × (is_view_replica G k (partition_of d) m ≡ true)) → (key_lt k (v.node m).last ≡ true) ⊎ (((v.node m).last ≡ k) × (is_view_replica G k (partition_of d) m ≡ true))
    at_last m = subst (λ (l : ClusterKey). (key_lt k l ≡ true) ⊎ ((l ≡ k) × (is_view_replica G k (partition_of d) m ≡ true))) (sym (last_same m))

    now : (w.node n).last ≡ j
    now = ((a.known.entered n j).now ok.is_in.view).1

    -- the node that drops isn't a replica, so it is later than the view
    before : n ≡ h.node → partition_of d ≡ p → (key_lt k (w.node h.node).last ≡ true) ⊎ (((w.node h.node).last ≡ k) × (is_view_replica G k (partition_of d) h.node ≡ true)) → key_lt k j ≡ true
    before i dp (inl z) = ap (key_lt k) (sym (ap (λ (m : ℕ). (w.node m).last) (sym i) ∙ now)) ∙ z
    before i dp (inr z) = differ (subst₂ (λ (m q : ℕ). is_view_replica G j q m ≡ true) (sym i) dp (subst (λ (l : ClusterKey). is_view_replica G l (partition_of d) h.node ≡ true) (sym z.0 ∙ (ap (λ (m : ℕ). (w.node m).last) (sym i) ∙ now)) z.1)) ok.outside

    go : (n ≡ h.node) ⊎ (n ≡ h.node → ⊥) → (partition_of d ≡ p) ⊎ (partition_of d ≡ p → ⊥) → Place G v k d u
    go (inr i) q = record { node = h.node; has = survives h.node (inl i) h.has; late = at_last h.node h.late }
    go (inl i) (inr q) = record { node = h.node; has = survives h.node (inr q) h.has; late = at_last h.node h.late }
    go (inl i) (inl q) =
        let z : Elsewhere G w n j d u = elsewhere G w ground a sn kept n j p ok d q u (subst (λ (m : ℕ). AtMost G.by (Some u) ((w.node m).content d)) (sym i) h.has) in
        record { node = z.node; has = survives z.node (inl z.other) z.has; late = at_last z.node (inl (⊎_elim (λ y. lt_trans k j (w.node z.node).last (before i q h.late) y) (λ y. ap (key_lt k) y ∙ before i q h.late) z.late)) }

-- what a stay has held doesn't change outside of the view
held_same : (G : Ground) (w v : Picture) (n : ℕ) (k : ClusterKey) (x : Seen) (s : Stay) → Step G w v n k x s → (x.view ≡ Some k → ⊥) → s.held ≡ (w.stay n k).held
held_same G w v n k _ _ same out = refl
held_same G w v n k _ _ (enter ok e) out = absurd (out refl)
held_same G w v n k _ _ (within x s view c) out = absurd (out ((framed G w v n k x s c).view ∙ view))
held_same G w v n k _ _ _ out = refl

in_view_cases : (o : Option ClusterKey) (k : ClusterKey) → (o ≡ Some k) ⊎ (o ≡ Some k → ⊥)
in_view_cases None k = inr (λ e. no_some e)
in_view_cases (Some j) k = ⊎_elim (λ e. inl (ap Some e)) (λ e. inr (λ z. e (some_same z))) (Rattle.cluster_laws.proofs.At.key_cases j k)

kept_by : (G : Ground) (w : Picture) (e : Effect) → Allowed G w e → AllEntered G (act G e w) → AllInside G (act G e w) → Kept G w → ((k : ClusterKey) (d : List ℕ) (u : Version) → Place G w k d u → Place G (act G e w) k d u) → Kept G (act G e w)
kept_by G w e ok en ins h move k r d u rep held = ⊎_elim
    (λ view. record { node = r; has = AtMost_trans held ((ins r k view).kept d rep); late = inr (((en r k).now view).1, rep) })
    (λ out. move k d u (h k r d u rep (subst (λ (f : Versions). AtMost G.by (Some u) (f d)) (held_same G w (act G e w) r k _ _ (steps G w e ok r k) out) held)))
    (in_view_cases ((act G e w).node r).view k)

pub kept_kept : (G : Ground) (w : Picture) (e : Effect) → IsGround G → Allowed G w e → Grows G.by w (act G e w) → Whole_picture G w → AllSnap G w → AllEntered G (act G e w) → AllInside G (act G e w) → Kept G w → Kept G (act G e w)
kept_kept G w (Drops n j p) ground ok g a sn en ins h = kept_by G w (Drops n j p) ok en ins h (place_drop G w ground a sn h n j p ok)
kept_kept G w Nothing ground ok g a sn en ins h = h
kept_kept G w e ground ok g a sn en ins h = kept_by G w e ok en ins h (place_rises G w (act G e w) (rises G w e ok a g tt))

pub kept_start : (G : Ground) → Kept G start
kept_start G k r d u rep held = absurd (Rattle.conflict_order.proofs.OrderLaws.no_version_AtMost_none u held)

-- ---- no loss

lossless_rises : (G : Ground) (w v : Picture) → ((m : ℕ) → Rise G w v m (v.node m)) → ((d : List ℕ) → v.applied d ≡ w.applied d) → Lossless G w → Lossless G v
lossless_rises G w v rise eq h d u e = let o : Somewhere G w d u = h d u (sym (eq d) ∙ e) in record { node = o.node; has = AtMost_trans o.has (content_rises G w v o.node (v.node o.node) (rise o.node) d) }

pub lossless_kept : (G : Ground) (w : Picture) (e : Effect) → IsGround G → Allowed G w e → Grows G.by w (act G e w) → Whole_picture G w → AllSnap G w → Kept G w → Lossless G w → Lossless G (act G e w)
lossless_kept G w (Drops n j p) ground ok g a sn kept h d u e = go (number_cases n o.node) (number_cases (partition_of d) p)
  where
    v : Picture
    v = act G (Drops n j p) w

    o : Somewhere G w d u
    o = h d u e

    survives : (m : ℕ) → ((n ≡ m → ⊥) ⊎ (partition_of d ≡ p → ⊥)) → AtMost G.by (Some u) ((w.node m).content d) → AtMost G.by (Some u) ((v.node m).content d)
    survives m c z = changed_either numbers (λ (x : Seen). AtMost G.by (Some u) (x.content d)) w.node n (seen_after_drop p (w.node n)) m (λ i. here i c (partition_of d == p) refl) (λ _. z)
      where
        here : n ≡ m → ((n ≡ m → ⊥) ⊎ (partition_of d ≡ p → ⊥)) → (b : Bool) → (partition_of d == p) ≡ b → AtMost G.by (Some u) (cond b None ((w.node n).content d))
        here i (inl q) b e = absurd (q i)
        here i (inr q) true e = absurd (q (number_same (partition_of d) p e))
        here i (inr q) false e = subst (λ (x : ℕ). AtMost G.by (Some u) ((w.node x).content d)) (sym i) z

    go : (n ≡ o.node) ⊎ (n ≡ o.node → ⊥) → (partition_of d ≡ p) ⊎ (partition_of d ≡ p → ⊥) → Somewhere G v d u
    go (inr i) q = record { node = o.node; has = survives o.node (inl i) o.has }
    go (inl i) (inr q) = record { node = o.node; has = survives o.node (inr q) o.has }
    go (inl i) (inl q) = let z : Elsewhere G w n j d u = elsewhere G w ground a sn kept n j p ok d q u (subst (λ (m : ℕ). AtMost G.by (Some u) ((w.node m).content d)) (sym i) o.has) in
        record { node = z.node; has = survives z.node (inl z.other) z.has }
lossless_kept G w (Applies n k t c b) ground ok g a sn kept h d u e = changed_either digests (λ (o : Option Version). o ≡ Some u → Somewhere G v d u) w.applied c _ d
    (λ i q. ⊎_elim (λ z. old (ap w.applied (sym i) ∙ (sym z ∙ q))) (λ z. new i (some_same (sym z ∙ q))) (join_one_of_both G.by (w.applied c) (Some b))) (λ _ q. old q) e
  where
    v : Picture
    v = act G (Applies n k t c b) w

    old : w.applied d ≡ Some u → Somewhere G v d u
    old z = let o : Somewhere G w d u = h d u z in record { node = o.node; has = AtMost_trans o.has (content_rises G w v o.node (v.node o.node) (rises G w (Applies n k t c b) ok a g tt o.node) d) }

    new : c ≡ d → b ≡ u → Somewhere G v d u
    new i q = record { node = n; has = subst (λ (x : Seen). AtMost G.by (Some u) (x.content d)) (sym (changed_here numbers w.node n _)) (subst₂ (λ (x : List ℕ) (y : Version). AtMost G.by (Some y) (with_version G.by (w.node n).content c b x)) i q (version_there G.by (w.node n).content c b)) }
lossless_kept G w Nothing ground ok g a sn kept h d u z = h d u z
lossless_kept G w e ground ok g a sn kept h d u z = lossless_rises G w (act G e w) (rises G w e ok a g tt) (λ c. refl) h d u z

pub lossless_start : (G : Ground) → Lossless G start
lossless_start G d u e = no_some e

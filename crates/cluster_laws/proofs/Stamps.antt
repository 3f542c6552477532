-- The stamps of whole copies stay true, and members enter with what they tell.
use Rattle.std.proofs.Common.{◌≡◌, ℕ, ◌≤◌, ◌==◌, Bool, true, false, cond, ◌&&◌, List, Option, Some, None, option_map, refl, sym, ap, ◌∙◌, subst, arith, ◌⊎◌, inl, inr, ⊎_elim, if◌then◌else◌}
use Rattle.conflict_order.specs.declared.version.Version.{Version}
use Rattle.conflict_order.specs.Join.{AtMost}
use Rattle.conflict_order.proofs.OrderLaws.{AtMost_trans}
use Rattle.cluster_types.specs.declared.cluster_key.ClusterKey.{ClusterKey}
use Rattle.cluster_types.specs.Partitions.{partition_of}
use Rattle.cluster_types.specs.ClusterKeys.{same_key}
use Rattle.cluster_types.specs.Distinct.{contains}
use Rattle.partition_lists.specs.Classes.{no_class}
use Rattle.partition_lists.specs.Counts.{count_of, recounted, spoiled}
use Rattle.cluster_laws.specs.Ground.{Ground, view_master, is_view_replica, is_view_empty}
use Rattle.cluster_laws.specs.Stay.{Versions, Applied, Stay}
use Rattle.cluster_laws.specs.Picture.{Seen, Owed, Picture, start}
use Rattle.cluster_laws.specs.Effect.{Effect}
use Rattle.cluster_laws.specs.Changes.{act, copy_count, recounted_if, heard, hearing, stay_after_write}
use Rattle.cluster_laws.specs.Licences.{IsState}
use Rattle.cluster_laws.proofs.At.{numbers, keys, changed_either, changed_here, changed_other, number_same, number_here, number_cases, key_same, key_cases, and_left, and_right, differ, some_same, no_some}
use Rattle.cluster_laws.proofs.Allowed.{Allowed}
use Rattle.cluster_laws.proofs.Apart.{Lost}
use Rattle.cluster_laws.proofs.Step.{Within, exchange, apply, merge, learn, drop, write, Step, same, clock, enter, leave, stop, away, within, steps}
use Rattle.cluster_laws.proofs.Grows.{Grows}
use Rattle.cluster_laws.proofs.Stays.{Framed, framed}
use Rattle.cluster_laws.proofs.Heard.{Named, new_write, old_write}
use Rattle.cluster_laws.proofs.Fine.{HeardBy}
use Rattle.cluster_laws.proofs.Counts.{IsCounted, counted}
use Rattle.cluster_laws.proofs.Copies.{Emptied, Rests, rests_grow, Whole_picture, Copied, Snap, AllSnap, Equal, equal_in_view}

-- what a stamp of the view's key tells
pub record Stamped (G : Ground) (w : Picture) (n : ℕ) (k : ClusterKey) (p c : ℕ) (s : Stay) : Type 0 where
  pub counts : c ≡ copy_count G k n s p
  pub rests : Rests G w k p
  pub replica : is_view_replica G k p n ≡ true

-- what a stamp tells after the node left the view
pub record Kept_whole (G : Ground) (w : Picture) (n : ℕ) (k : ClusterKey) (p c : ℕ) (content : Versions) (s : Stay) : Type 0 where
  pub counts : c ≡ copy_count G k n s p
  pub equal : Equal G w n k p content s

pub record StampOk (G : Ground) (w : Picture) (n : ℕ) (k : ClusterKey) (x : Seen) (s : Stay) : Type 0 where
  pub entered : (p c : ℕ) → x.stamp p ≡ Some (k, c) → s.entered ≡ true
  pub now : (p c : ℕ) → x.stamp p ≡ Some (k, c) → x.view ≡ Some k → Stamped G w n k p c s
  pub past : (p c : ℕ) → x.stamp p ≡ Some (k, c) → (x.view ≡ Some k → ⊥) → (c == no_class) ≡ false → Kept_whole G w n k p c x.content s

abbrev pub AllStamps : Ground → Picture → Type 0
AllStamps G w = (n : ℕ) (k : ClusterKey) → StampOk G w n k (w.node n) (w.stay n k)

-- only a node in the view owes a merge there
abbrev pub OwesInView : Picture → Type 0
OwesInView w = (o : Owed) → w.owed ≡ Some o → (w.node o.node).view ≡ Some o.key

view_cases : (o : Option ClusterKey) (k : ClusterKey) → (o ≡ Some k) ⊎ (o ≡ Some k → ⊥)
view_cases None k = inr (λ e. no_some e)
view_cases (Some j) k = ⊎_elim (λ e. inl (ap Some e)) (λ e. inr (λ z. e (some_same z))) (key_cases j k)

-- what a stamp that counts tells at any time
equal_at : (G : Ground) (w : Picture) → Whole_picture G w → AllSnap G w → AllStamps G w → (n : ℕ) (k : ClusterKey) (p c : ℕ) → (w.node n).stamp p ≡ Some (k, c) → (c == no_class) ≡ false → Kept_whole G w n k p c (w.node n).content (w.stay n k)
equal_at G w a sn st n k p c e some = ⊎_elim
    (λ v. let q : Stamped G w n k p c (w.stay n k) = (st n k).now p c e v in record { counts = q.counts; equal = equal_in_view G w a sn n k p v q.rests q.replica })
    (λ v. (st n k).past p c e v some) (view_cases (w.node n).view k)

-- ---- a copy that nobody touches

record Frame (G : Ground) (w v : Picture) : Type 0 where
  whole : Whole_picture G w
  snap : AllSnap G w
  stamps : AllStamps G w
  grow : Grows G.by w v
  step : (m : ℕ) (j : ClusterKey) → Step G w v m j (v.node m) (v.stay m j)
  base : (k : ClusterKey) (d : List ℕ) → Rests G w k (partition_of d) → v.base k d ≡ w.base k d

-- an old write of the list master that the node has had
had_write : (G : Ground) (w v : Picture) → Frame G w v → (n : ℕ) (k : ClusterKey) (p : ℕ) → v.stay n k ≡ w.stay n k → (t : ℕ) (e : Applied) → (v.stay (view_master G k p) k).writes t ≡ Some e → partition_of e.digest ≡ p → HeardBy G n k (w.stay n k) p e.nth → (w.stay (view_master G k p) k).writes t ≡ Some e
had_write G w v f n k p still t e z ep (inl i) = subst (λ (m : ℕ). (v.stay m k).writes t ≡ Some e → (w.stay m k).writes t ≡ Some e) i (λ q. ap (λ (s : Stay). s.writes t) (sym still) ∙ q) z
had_write G w v f n k p still t e z ep (inr c) = old_write G w v f.whole.known n k (view_master G k p) _ _ (f.step (view_master G k p) k) t e (ap (view_master G k) (sym ep)) z
    ((f.whole.hears n k).named (partition_of e.digest) e.nth (subst (λ (q : ℕ). contains ((w.stay n k).numbers q) e.nth ≡ true) (sym ep) c))

frozen : (G : Ground) (w v : Picture) → Frame G w v → (n : ℕ) (k : ClusterKey) (p : ℕ) (old new : Versions) → ((d : List ℕ) → partition_of d ≡ p → new d ≡ old d) → v.stay n k ≡ w.stay n k
    → ((d : List ℕ) (u : Version) → w.owed ≡ Some (record { node = n; key = k; digest = d; version = u }) → ⊥) → Equal G w n k p old (w.stay n k) → Equal G v n k p new (w.stay n k)
frozen G w v f n k p old new same_content still free h = record {
  rests = rests_grow G w v f.grow k p h.rests;
  replica = h.replica;
  upper = λ d dp b base by. subst (λ (o : Option Version). AtMost G.by o b) (sym (same_content d dp)) (h.upper d dp b (AtMost_trans (f.grow.base k d) base)
      (record { below = λ t e z i q. by.below t e ((f.grow.stay (view_master G k (partition_of d)) k).writes t e z) i q }));
  base = λ d dp. subst (λ (o : Option Version). AtMost G.by (v.base k d) o) (sym (same_content d dp)) (subst (λ (o : Option Version). AtMost G.by o (old d)) (sym (f.base k d (subst (Rests G w k) (sym dp) h.rests))) (h.base d dp));
  heard = λ t e z ep by. inl (subst (λ (o : Option Version). AtMost G.by (Some e.version) o) (sym (same_content e.digest ep))
      (⊎_elim (λ q. q) (λ q. absurd (free e.digest e.version q)) (h.heard t e (had_write G w v f n k p still t e z ep by) ep by)));
}

frozen_whole : (G : Ground) (w v : Picture) → Frame G w v → (n : ℕ) (k : ClusterKey) (p c : ℕ) (old new : Versions) → ((d : List ℕ) → partition_of d ≡ p → new d ≡ old d) → v.stay n k ≡ w.stay n k
    → ((d : List ℕ) (u : Version) → w.owed ≡ Some (record { node = n; key = k; digest = d; version = u }) → ⊥) → Kept_whole G w n k p c old (w.stay n k) → Kept_whole G v n k p c new (w.stay n k)
frozen_whole G w v f n k p c old new sc still free h = record { counts = h.counts; equal = frozen G w v f n k p old new sc still free h.equal }

stamped_grows : (G : Ground) (w v : Picture) → Grows G.by w v → (n : ℕ) (k : ClusterKey) (p c : ℕ) (s : Stay) → Stamped G w n k p c s → Stamped G v n k p c s
stamped_grows G w v g n k p c s h = record { counts = h.counts; rests = rests_grow G w v g k p h.rests; replica = h.replica }

-- ---- a change in the view

-- a stamp of the view's key isn't spoiled
unspoiled : (k : ClusterKey) (c : ℕ) (z : ClusterKey × ℕ) → spoiled k z ≡ (k, c) → z ≡ (k, c)
unspoiled k c z h = go (same_key z.0 k) refl h
  where
    go : (b : Bool) → same_key z.0 k ≡ b → (cond b z (z.0, no_class)) ≡ (k, c) → z ≡ (k, c)
    go true e q = q
    go false e q = differ (subst (λ (j : ClusterKey). same_key j k ≡ true) (sym (ap (λ (y : ClusterKey × ℕ). y.0) q)) (keys.here k)) e

-- a stamp that counts again has the count, and was there
recounted_is : (k : ClusterKey) (n c : ℕ) (z : ClusterKey × ℕ) → recounted k n z ≡ (k, c) → (c ≡ n) × (z.0 ≡ k)
recounted_is k n c z h = go (same_key z.0 k) refl h
  where
    go : (b : Bool) → same_key z.0 k ≡ b → (cond b (k, n) z) ≡ (k, c) → (c ≡ n) × (z.0 ≡ k)
    go true e q = (sym (ap (λ (y : ClusterKey × ℕ). y.1) q), key_same z.0 k e)
    go false e q = differ (subst (λ (j : ClusterKey). same_key j k ≡ true) (sym (ap (λ (y : ClusterKey × ℕ). y.0) q)) (keys.here k)) e

spoiled_key : (k : ClusterKey) (z : ClusterKey × ℕ) → (spoiled k z).0 ≡ z.0
spoiled_key k z = go (same_key z.0 k)
  where
    go : (b : Bool) → (cond b z (z.0, no_class)).0 ≡ z.0
    go true = refl
    go false = refl

mapped : (f : ClusterKey × ℕ → ClusterKey × ℕ) (o : Option (ClusterKey × ℕ)) (y : ClusterKey × ℕ) → option_map f o ≡ Some y → (z : ClusterKey × ℕ) × (o ≡ Some z) × (f z ≡ y)
mapped f None y e = no_some e
mapped f (Some z) y e = (z, refl, some_same e)

-- the count of another partition stays
count_other : (G : Ground) (k : ClusterKey) (n : ℕ) (s t : Stay) (p : ℕ) → t.applies p ≡ s.applies p → t.numbers p ≡ s.numbers p → copy_count G k n t p ≡ copy_count G k n s p
count_other G k n s t p ea en = go (view_master G k p == n)
  where
    go : (b : Bool) → cond b (t.applies p) (count_of (t.numbers p)) ≡ cond b (s.applies p) (count_of (s.numbers p))
    go true = ea
    go false = ap count_of en

now_within : (G : Ground) (w v : Picture) (n : ℕ) (k : ClusterKey) (x : Seen) (s : Stay) → Within G w v n k x s → v.stay n k ≡ s → (w.node n).view ≡ Some k → Frame G w v → (p c : ℕ) → x.stamp p ≡ Some (k, c) → Stamped G v n k p c s
now_within G w v n k _ _ (exchange ok) is view f p c = go (is_view_empty G k p && is_view_replica G k p n) refl
  where
    go : (b : Bool) → (is_view_empty G k p && is_view_replica G k p n) ≡ b → (if b then Some (k, copy_count G k n (w.stay n k) p) else (w.node n).stamp p) ≡ Some (k, c) → Stamped G v n k p c (Rattle.cluster_laws.specs.Changes.stay_after_exchange G n k (w.node n).content (w.stay n k))
    go true i e = record {
      counts = sym (ap (λ (y : ClusterKey × ℕ). y.1) (some_same e));
      rests = inr (record { all = and_left (is_view_empty G k p) (is_view_replica G k p n) i; node = n; exchanged = ap (λ (y : Stay). y.exchanged) is });
      replica = and_right (is_view_empty G k p) (is_view_replica G k p n) i;
    }
    go false i e = let q : Stamped G w n k p c (w.stay n k) = (f.stamps n k).now p c e view in record { counts = q.counts; rests = rests_grow G w v f.grow k p q.rests; replica = q.replica }
now_within G w v n k _ _ (apply t d u early ok e z) is view f p c = changed_either numbers (λ o. o ≡ Some (k, c) → Stamped G v n k p c s) (w.node n).stamp (partition_of d) _ p
    (λ i q. let m = mapped _ ((w.node n).stamp (partition_of d)) (k, c) q in
    let r = recounted_is k (copy_count G k n s (partition_of d)) c (spoiled k m.0) m.2 in
    let o : Stamped G w n k (partition_of d) m.0.1 (w.stay n k) = (f.stamps n k).now (partition_of d) m.0.1 (m.1 ∙ ap (λ (j : ClusterKey). Some (j, m.0.1)) (sym (spoiled_key k m.0) ∙ r.1)) view in
    record { counts = r.0 ∙ ap (copy_count G k n s) i; rests = subst (Rests G v k) i (rests_grow G w v f.grow k (partition_of d) o.rests); replica = subst (λ (j : ℕ). is_view_replica G k j n ≡ true) i o.replica })
    (λ i q. let o : Stamped G w n k p c (w.stay n k) = (f.stamps n k).now p c q view in
    record { counts = o.counts ∙ sym (count_other G k n (w.stay n k) s p (changed_other numbers (w.stay n k).applies (partition_of d) _ p i) refl); rests = rests_grow G w v f.grow k p o.rests; replica = o.replica })
  where
    s : Stay
    s = stay_after_write G n k t d u early (w.stay n k)
now_within G w v n k _ _ (merge d u ok e) is view f p c = changed_either numbers (λ o. o ≡ Some (k, c) → Stamped G v n k p c (Rattle.cluster_laws.specs.Changes.holding G d u (w.stay n k))) (w.node n).stamp (partition_of d) _ p
    (λ i q. let m = mapped (spoiled k) ((w.node n).stamp (partition_of d)) (k, c) q in
    let o : Stamped G w n k (partition_of d) c (w.stay n k) = (f.stamps n k).now (partition_of d) c (m.1 ∙ ap Some (unspoiled k c m.0 m.2)) view in
    record { counts = o.counts ∙ ap (copy_count G k n (w.stay n k)) i; rests = subst (Rests G v k) i (rests_grow G w v f.grow k (partition_of d) o.rests); replica = subst (λ (j : ℕ). is_view_replica G k j n ≡ true) i o.replica })
    (λ i q. let o : Stamped G w n k p c (w.stay n k) = (f.stamps n k).now p c q view in record { counts = o.counts; rests = rests_grow G w v f.grow k p o.rests; replica = o.replica })
now_within G w v n k _ _ (write r nth d u ok e) is view f p c = changed_either numbers (λ o. o ≡ Some (k, c) → Stamped G v n k p c s) (w.node n).stamp (partition_of d) _ p
    (λ i q. let m = mapped (recounted_if (r == view_master G k (partition_of d)) k (copy_count G k n s (partition_of d))) ((w.node n).stamp (partition_of d)) (k, c) q in here i m.0 m.1 (r == view_master G k (partition_of d)) refl m.2)
    (λ i q. let o : Stamped G w n k p c (w.stay n k) = (f.stamps n k).now p c q view in
    record { counts = o.counts ∙ sym (count_other G k n (w.stay n k) s p refl (changed_other numbers (w.stay n k).numbers (partition_of d) _ p i)); rests = rests_grow G w v f.grow k p o.rests; replica = o.replica })
  where
    s : Stay
    s = hearing G k r nth (partition_of d) (w.stay n k)

    unheard : (b : Bool) → (r == view_master G k (partition_of d)) ≡ b → b ≡ false → copy_count G k n s (partition_of d) ≡ copy_count G k n (w.stay n k) (partition_of d)
    unheard b i j = count_other G k n (w.stay n k) s (partition_of d) refl (changed_here numbers (w.stay n k).numbers (partition_of d) _ ∙ ap (λ (q : Bool). heard q ((w.stay n k).numbers (partition_of d)) nth) (i ∙ j))

    here : partition_of d ≡ p → (z : ClusterKey × ℕ) → (w.node n).stamp (partition_of d) ≡ Some z → (b : Bool) → (r == view_master G k (partition_of d)) ≡ b → recounted_if b k (copy_count G k n s (partition_of d)) z ≡ (k, c) → Stamped G v n k p c s
    here i z y true b q = let j = recounted_is k (copy_count G k n s (partition_of d)) c z q in
        let o : Stamped G w n k (partition_of d) z.1 (w.stay n k) = (f.stamps n k).now (partition_of d) z.1 (y ∙ ap (λ (l : ClusterKey). Some (l, z.1)) j.1) view in
        record { counts = j.0 ∙ ap (copy_count G k n s) i; rests = subst (Rests G v k) i (rests_grow G w v f.grow k (partition_of d) o.rests); replica = subst (λ (l : ℕ). is_view_replica G k l n ≡ true) i o.replica }
    here i z y false b q =
        let o : Stamped G w n k (partition_of d) c (w.stay n k) = (f.stamps n k).now (partition_of d) c (y ∙ ap Some q) view in
        record { counts = o.counts ∙ (sym (unheard false b refl) ∙ ap (copy_count G k n s) i); rests = subst (Rests G v k) i (rests_grow G w v f.grow k (partition_of d) o.rests); replica = subst (λ (l : ℕ). is_view_replica G k l n ≡ true) i o.replica }
now_within G w v n k _ _ (learn q ok) is view f p c = changed_either numbers (λ o. o ≡ Some (k, c) → Stamped G v n k p c (w.stay n k)) (w.node n).stamp q _ p
    (λ i e. record {
      counts = sym (ap (λ (y : ClusterKey × ℕ). y.1) (some_same e)) ∙ ap (copy_count G k n (w.stay n k)) i;
      rests = inl (subst (λ (j : ℕ). v.settled k j ≡ true) i (f.grow.settled k q ((f.whole.known.cross n k).settled q ok.settled)));
      replica = subst (λ (j : ℕ). is_view_replica G k j n ≡ true) i ok.replica;
    })
    (λ i e. stamped_grows G w v f.grow n k p c (w.stay n k) ((f.stamps n k).now p c e view))
now_within G w v n k _ _ (drop q ok) is view f p c = changed_either numbers (λ o. o ≡ Some (k, c) → Stamped G v n k p c (w.stay n k)) (w.node n).stamp q None p (λ i e. no_some e)
    (λ i e. stamped_grows G w v f.grow n k p c (w.stay n k) ((f.stamps n k).now p c e view))
now_within G w v n k _ _ _ is view f p c = λ e. let o : Stamped G w n k p c (w.stay n k) = (f.stamps n k).now p c e view in record { counts = o.counts; rests = rests_grow G w v f.grow k p o.rests; replica = o.replica }

-- ---- any change

stamp_step : (G : Ground) (w v : Picture) (n : ℕ) (k : ClusterKey) (x : Seen) (s : Stay) → Step G w v n k x s → v.stay n k ≡ s → Frame G w v → OwesInView w → (((w.node n).view ≡ Some k → w.owed ≡ None) ⊎ (x.view ≡ (w.node n).view)) → StampOk G v n k x s
stamp_step G w v n k _ _ same is f ov quiet = record {
  entered = (f.stamps n k).entered;
  now = λ p c e view. stamped_grows G w v f.grow n k p c (w.stay n k) ((f.stamps n k).now p c e view);
  past = λ p c e out some. frozen_whole G w v f n k p c _ _ (λ d _. refl) is (λ d u z. out (ov _ z)) ((f.stamps n k).past p c e out some);
}
stamp_step G w v n k _ _ (clock time) is f ov quiet = record {
  entered = (f.stamps n k).entered;
  now = λ p c e view. stamped_grows G w v f.grow n k p c (w.stay n k) ((f.stamps n k).now p c e view);
  past = λ p c e out some. frozen_whole G w v f n k p c _ _ (λ d _. refl) is (λ d u z. out (ov _ z)) ((f.stamps n k).past p c e out some);
}
stamp_step G w v n k _ _ (enter ok z) is f ov quiet = record {
  entered = λ p c e. refl;
  now = λ p c e view. differ ok.above ((f.whole.known.entered n k).below ((f.stamps n k).entered p c e));
  past = λ p c e out some. absurd (out refl);
}
stamp_step G w v n k _ _ (leave j ok apart) is f ov quiet = record {
  entered = (f.stamps n k).entered;
  now = λ p c e view. absurd (apart (some_same view));
  past = λ p c e out some. frozen_whole G w v f n k p c _ _ (λ d _. refl) is (λ d u z. no_some (sym ok.quiet ∙ z)) (equal_at G w f.whole f.snap f.stamps n k p c e some);
}
stamp_step G w v n k _ _ stop is f ov quiet = record {
  entered = (f.stamps n k).entered;
  now = λ p c e view. no_some view;
  past = λ p c e out some. frozen_whole G w v f n k p c _ _ (λ d _. refl) is (λ d u z. unowed d u z quiet) (equal_at G w f.whole f.snap f.stamps n k p c e some);
}
  where
    unowed : (d : List ℕ) (u : Version) → w.owed ≡ Some (record { node = n; key = k; digest = d; version = u }) → ((w.node n).view ≡ Some k → w.owed ≡ None) ⊎ (None ≡ (w.node n).view) → ⊥
    unowed d u z (inl q) = no_some (sym (q (ov _ z)) ∙ z)
    unowed d u z (inr q) = no_some (q ∙ ov _ z)
stamp_step G w v n k _ _ (away j view apart content stamp lost) is f ov quiet = record {
  entered = λ p c e. ⊎_elim (λ q. (f.stamps n k).entered p c (sym q.0 ∙ e)) (λ q. let o : Lost k c ((w.node n).stamp p) = q c e in (f.stamps n k).entered p o.count o.was) (lost.part p);
  now = λ p c e there. absurd (apart (some_same (sym view ∙ there)));
  past = λ p c e out some. ⊎_elim
      (λ q. frozen_whole G w v f n k p c _ _ q.1 is (λ d u z. out (ov _ z)) ((f.stamps n k).past p c (sym q.0 ∙ e) out some))
      (λ q. differ (subst (λ (l : ℕ). (l == no_class) ≡ true) (sym (q c e).nothing) (number_here no_class)) some) (lost.part p);
}
stamp_step G w v n k _ _ (within x s view c) is f ov quiet = let q : Framed (w.node n) x (w.stay n k) s = framed G w v n k x s c in record {
  entered = λ p b e. q.entered ∙ ((f.whole.known.entered n k).now view).0;
  now = λ p b e there. now_within G w v n k x s c is view f p b e;
  past = λ p b e out some. absurd (out (q.view ∙ view));
}

frame : (G : Ground) (w : Picture) (e : Effect) → Allowed G w e → Grows G.by w (act G e w) → Whole_picture G w → AllSnap G w → AllStamps G w → Frame G w (act G e w)
frame G w e ok g a sn st = record { whole = a; snap = sn; stamps = st; grow = g; step = steps G w e ok; base = λ k d r. Rattle.cluster_laws.proofs.Copies.base_rests G w e ok a k d r }

-- nothing is owed where a node stops
abbrev pub StopsQuietly : Picture → Picture → Type 0
StopsQuietly w v = (n : ℕ) → (w.owed ≡ None) ⊎ ((v.node n).view ≡ (w.node n).view)

pub stamps_kept : (G : Ground) (w : Picture) (e : Effect) → Allowed G w e → Grows G.by w (act G e w) → Whole_picture G w → AllSnap G w → OwesInView w → StopsQuietly w (act G e w) → AllStamps G w → AllStamps G (act G e w)
stamps_kept G w e ok g a sn ov quiet st n k = stamp_step G w (act G e w) n k _ _ (steps G w e ok n k) refl (frame G w e ok g a sn st) ov (⊎_elim (λ z. inl (λ _. z)) inr (quiet n))

pub stamps_start : (G : Ground) → AllStamps G start
stamps_start G n k = record { entered = λ p c e. no_some e; now = λ p c e. no_some e; past = λ p c e. no_some e }

-- ---- snapshots

-- which writes a copy that counts has had
heard_up_to : (G : Ground) (w : Picture) → Whole_picture G w → (n : ℕ) (k : ClusterKey) (p c : ℕ) → c ≡ copy_count G k n (w.stay n k) p → (c == no_class) ≡ false → (t : ℕ) (e : Applied) → (w.stay (view_master G k p) k).writes t ≡ Some e → partition_of e.digest ≡ p
    → (HeardBy G n k (w.stay n k) p e.nth → e.nth ≤ c) × (e.nth ≤ c → HeardBy G n k (w.stay n k) p e.nth)
heard_up_to G w a n k p c cs some t e z ep = go (view_master G k p == n) refl cs
  where
    go : (b : Bool) → (view_master G k p == n) ≡ b → c ≡ cond b ((w.stay n k).applies p) (count_of ((w.stay n k).numbers p)) → (HeardBy G n k (w.stay n k) p e.nth → e.nth ≤ c) × (e.nth ≤ c → HeardBy G n k (w.stay n k) p e.nth)
    go true i q = let m : view_master G k p ≡ n = number_same (view_master G k p) n i in
        ((λ _. omega (arith, q, ((a.known.txns (view_master G k p) k).nth t e z).1, ap (λ (l : ℕ). (w.stay l k).applies p) m, ap (w.stay (view_master G k p) k).applies ep)), (λ _. inl (sym m)))
    go false i q = let o : IsCounted ((w.stay n k).numbers p) c = counted ((w.stay n k).numbers p) c q some in
        ((⊎_elim (λ m. differ (subst (λ (l : ℕ). (view_master G k p == l) ≡ true) (sym m) (number_here (view_master G k p))) i) (λ m. o.above e.nth m)), (λ le. inr (o.all e.nth ((a.known.txns (view_master G k p) k).nth t e z).0 le)))

count_made : (G : Ground) (w : Picture) → Whole_picture G w → (n : ℕ) (k : ClusterKey) (p c : ℕ) → c ≡ copy_count G k n (w.stay n k) p → (c == no_class) ≡ false → c ≤ (w.stay (view_master G k p) k).applies p
count_made G w a n k p c cs some = go (view_master G k p == n) refl cs
  where
    go : (b : Bool) → (view_master G k p == n) ≡ b → c ≡ cond b ((w.stay n k).applies p) (count_of ((w.stay n k).numbers p)) → c ≤ (w.stay (view_master G k p) k).applies p
    go true i q = omega (arith, q, ap (λ (l : ℕ). (w.stay l k).applies p) (number_same (view_master G k p) n i))
    go false i q = let o : IsCounted ((w.stay n k).numbers p) c = counted ((w.stay n k).numbers p) c q some in deep o (number_cases c 0)
      where
        deep : IsCounted ((w.stay n k).numbers p) c → (c ≡ 0) ⊎ (c ≡ 0 → ⊥) → c ≤ (w.stay (view_master G k p) k).applies p
        deep o (inl j) = omega arith
        deep o (inr j) = let h : Named G w n k p c = (a.hears n k).named p c (o.all c (omega arith) (omega arith)) in
            omega (arith, h.nth, ((a.known.txns (view_master G k p) k).nth h.number h.write h.made).1, ap (w.stay (view_master G k p) k).applies h.part)

-- a copy that counts, as its node enters a view
snapped : (G : Ground) (w : Picture) → Whole_picture G w → w.owed ≡ None → (n : ℕ) (k : ClusterKey) (p c : ℕ) (content : Versions) → (c == no_class) ≡ false → Kept_whole G w n k p c content (w.stay n k) → Copied G w k c p content
snapped G w a none n k p c content some h = record {
  rests = h.equal.rests;
  made = count_made G w a n k p c h.counts some;
  upper = λ d dp b base by. h.equal.upper d dp b base (record {
    below = λ t e z i q.
        let z2 : (w.stay (view_master G k p) k).writes t ≡ Some e = subst (λ (l : ℕ). (w.stay (view_master G k l) k).writes t ≡ Some e) dp z in
        by t e z2 i ((heard_up_to G w a n k p c h.counts some t e z2 (ap partition_of i ∙ dp)).0 (subst (λ (l : ℕ). HeardBy G n k (w.stay n k) l e.nth) dp q));
  });
  base = h.equal.base;
  heard = λ t e z ep le. ⊎_elim (λ q. q) (λ q. no_some (sym none ∙ q)) (h.equal.heard t e z ep ((heard_up_to G w a n k p c h.counts some t e z ep).1 le));
}

copied_kept : (G : Ground) (w v : Picture) → Frame G w v → ((m : ℕ) (j : ClusterKey) (q : ℕ) → (w.stay m j).applies q ≤ (v.stay m j).applies q) → (k : ClusterKey) (c p : ℕ) (entry : Versions) → Copied G w k c p entry → Copied G v k c p entry
copied_kept G w v f more k c p entry h = record {
  rests = rests_grow G w v f.grow k p h.rests;
  made = omega (arith, h.made, more (view_master G k p) k p);
  upper = λ d dp b base by. h.upper d dp b (AtMost_trans (f.grow.base k d) base) (λ t e z. by t e ((f.grow.stay (view_master G k p) k).writes t e z));
  base = λ d dp. subst (λ (o : Option Version). AtMost G.by o (entry d)) (sym (f.base k d (subst (Rests G w k) (sym dp) h.rests))) (h.base d dp);
  heard = λ t e z ep le. ⊎_elim (λ q. h.heard t e q ep le) (λ q. absurd (omega (arith, q.nth, h.made, ap (w.stay (view_master G k p) k).applies ep))) (new_write G w v (view_master G k p) k _ _ (f.step (view_master G k p) k) t e z);
}

more_applies : (G : Ground) (w v : Picture) (n : ℕ) (k : ClusterKey) (x : Seen) (s : Stay) → Step G w v n k x s → Whole_picture G w → (q : ℕ) → (w.stay n k).applies q ≤ s.applies q
more_applies G w v n k _ _ (enter ok z) a q = omega (arith, none (w.stay n k).entered refl)
  where
    none : (b : Bool) → (w.stay n k).entered ≡ b → (w.stay n k).applies q ≡ 0
    none true e = differ ok.above ((a.known.entered n k).below e)
    none false e = ap (λ (s : Stay). s.applies q) ((a.known.entered n k).fresh e)
more_applies G w v n k _ _ (within _ _ view (apply t d u early ok e z)) a q = changed_either numbers (λ l. (w.stay n k).applies q ≤ l) (w.stay n k).applies (partition_of d) _ q (λ i. omega (arith, ap (w.stay n k).applies i)) (λ _. omega arith)
more_applies G w v n k _ _ (within _ _ view (exchange ok)) a q = omega arith
more_applies G w v n k _ _ (within _ _ view _) a q = omega arith
more_applies G w v n k _ _ _ a q = omega arith

snap_step : (G : Ground) (w v : Picture) (n : ℕ) (j : ClusterKey) (x : Seen) (s : Stay) → Step G w v n j x s → Frame G w v → ((m : ℕ) (i : ClusterKey) (q : ℕ) → (w.stay m i).applies q ≤ (v.stay m i).applies q) → Snap G v n j s
snap_step G w v n j _ _ (enter ok z) f more = record {
  copied = λ _ p k c r some. copied_kept G w v f more k c p (w.node n).content (snapped G w f.whole ok.quiet n k p c (w.node n).content some
      (equal_at G w f.whole f.snap f.stamps n k p c (subst (IsState (w.node n).content ((w.node n).stamp p) p) r (ok.row p)).0 some));
}
snap_step G w v n j _ _ (within x s view c) f more = let q : Framed (w.node n) x (w.stay n j) s = framed G w v n j x s c in record {
  copied = λ e p k b r some. subst (Copied G v k b p) (sym q.entry) (copied_kept G w v f more k b p (w.stay n j).entry ((f.snap n j).copied (sym q.entered ∙ e) p k b r some));
}
snap_step G w v n j _ _ same f more = record { copied = λ e p k b r some. copied_kept G w v f more k b p (w.stay n j).entry ((f.snap n j).copied e p k b r some) }
snap_step G w v n j _ _ _ f more = record { copied = λ e p k b r some. copied_kept G w v f more k b p (w.stay n j).entry ((f.snap n j).copied e p k b r some) }

pub snap_kept : (G : Ground) (w : Picture) (e : Effect) → Allowed G w e → Grows G.by w (act G e w) → Whole_picture G w → AllStamps G w → AllSnap G w → AllSnap G (act G e w)
snap_kept G w e ok g a st sn n k = snap_step G w (act G e w) n k _ _ (steps G w e ok n k) (frame G w e ok g a sn st) (λ m i q. more_applies G w (act G e w) m i _ _ (steps G w e ok m i) a q)

pub snap_start : (G : Ground) → AllSnap G start
snap_start G n k = record { copied = λ e. differ e refl }

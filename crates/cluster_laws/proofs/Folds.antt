-- The fold and the base of a view are least.
use Rattle.std.proofs.Common.{◌≡◌, ℕ, ◌+◌, ◌==◌, Bool, true, false, cond, not, List, Option, Some, None, refl, sym, ap, ◌∙◌, subst}
use Rattle.conflict_order.specs.declared.version.Version.{Version}
use Rattle.conflict_order.specs.Join.{AtMost}
use Rattle.conflict_order.proofs.OrderLaws.{AtMost_trans, AtMost_none}
use Rattle.conflict_order.proofs.JoinLaws.{join_right, join_least}
use Rattle.cluster_types.specs.declared.cluster_key.ClusterKey.{ClusterKey}
use Rattle.cluster_types.specs.declared.copy_state.CopyState.TheVariants.{Empty}
use Rattle.cluster_types.specs.Partitions.{partition_of}
use Rattle.cluster_laws.specs.Changed.{at_key}
use Rattle.cluster_laws.specs.Ground.{Ground, view_master}
use Rattle.cluster_laws.specs.Stay.{Versions, Applied, Stay}
use Rattle.cluster_laws.specs.Picture.{Seen, Picture, start}
use Rattle.cluster_laws.specs.Effect.{Effect, Nothing, Enters, Applies}
use Rattle.cluster_laws.specs.Changes.{act, with_version, with_all, with_write_of, stay_at_entry, stay_after_write}
use Rattle.cluster_laws.specs.Licences.{IsState}
use Rattle.cluster_laws.proofs.At.{numbers, keys, changed_either, changed_here, stay_here, number_same, differ, some_same, no_some}
use Rattle.cluster_laws.proofs.Allowed.{Allowed}
use Rattle.cluster_laws.proofs.Step.{Within, apply, Step, enter, within, steps}
use Rattle.cluster_laws.proofs.Grows.{Grows, version_there, version_below}

-- ---- what a stay adds to the base

pub record Based (G : Ground) (w : Picture) (n : ℕ) (k : ClusterKey) (s : Stay) : Type 0 where
  pub entry : (d : List ℕ) → AtMost G.by (s.entry d) (w.base k d)
  pub write : (t : ℕ) (e : Applied) → s.writes t ≡ Some e → (n ≡ view_master G k (partition_of e.digest) → ⊥) → AtMost G.by (Some e.version) (w.base k e.digest)
  -- an empty copy had no record
  pub empty : s.entered ≡ true → (p : ℕ) → G.row k n p ≡ Empty → (d : List ℕ) → partition_of d ≡ p → s.entry d ≡ None

based_grows : (G : Ground) (w v : Picture) → Grows G.by w v → (n : ℕ) (k : ClusterKey) (s : Stay) → Based G w n k s → Based G v n k s
based_grows G w v g n k s h = record { entry = λ d. AtMost_trans (h.entry d) (g.base k d); write = λ t e a z. AtMost_trans (h.write t e a z) (g.base k e.digest); empty = h.empty }

written : (G : Ground) (w : Picture) (n : ℕ) (k : ClusterKey) (d : List ℕ) (u : Version) → (n ≡ view_master G k (partition_of d) → ⊥) → AtMost G.by (Some u) (with_write_of G n k d u w.base k d)
written G w n k d u apart = go (view_master G k (partition_of d) == n) refl
  where
    go : (b : Bool) → (view_master G k (partition_of d) == n) ≡ b → AtMost G.by (Some u) ((cond b w.base (at_key w.base k (with_version G.by (w.base k) d u))) k d)
    go true e = absurd (apart (sym (number_same (view_master G k (partition_of d)) n e)))
    go false e = subst (λ (f : Versions). AtMost G.by (Some u) (f d)) (sym (changed_here keys w.base k (with_version G.by (w.base k) d u))) (version_there G.by (w.base k) d u)

based_within : (G : Ground) (w v : Picture) (n : ℕ) (k : ClusterKey) (x : Seen) (s : Stay) → Within G w v n k x s → Based G v n k (w.stay n k) → Based G v n k s
based_within G w v n k _ _ (apply t d u early ok e z) h = record {
  entry = h.entry;
  empty = h.empty;
  write = λ i f. changed_either numbers (λ o. o ≡ Some f → (n ≡ view_master G k (partition_of f.digest) → ⊥) → AtMost G.by (Some f.version) (v.base k f.digest)) (w.stay n k).writes t _ i
      (λ _ q. subst (λ (a : Applied). (n ≡ view_master G k (partition_of a.digest) → ⊥) → AtMost G.by (Some a.version) (v.base k a.digest)) (some_same q)
      (λ apart. subst (λ (f : Picture). AtMost G.by (Some u) (f.base k d)) (sym e) (written G w n k d u apart))) (λ _. h.write i f);
}
based_within G w v n k _ _ _ h = assumption h

based_step : (G : Ground) (w v : Picture) (n : ℕ) (k : ClusterKey) (x : Seen) (s : Stay) → Step G w v n k x s → Grows G.by w v → Based G w n k (w.stay n k) → Based G v n k s
based_step G w v n k _ _ (enter ok e) g h = record {
  entry = λ d. subst (λ (f : Picture). AtMost G.by ((w.node n).content d) (f.base k d)) (sym e)
      (subst (λ (f : Versions). AtMost G.by ((w.node n).content d) (f d)) (sym (changed_here keys w.base k (with_all G.by (w.base k) (w.node n).content))) (join_right (w.base k d) ((w.node n).content d)));
  write = λ t e a. no_some a;
  empty = λ _ p r. subst (IsState (w.node n).content ((w.node n).stamp p) p) r (ok.row p);
}
based_step G w v n k _ _ (within x s view c) g h = based_within G w v n k x s c (based_grows G w v g n k (w.stay n k) h)
based_step G w v n k _ _ _ g h = based_grows G w v g n k (w.stay n k) h

abbrev pub AllBased : Ground → Picture → Type 0
AllBased G w = (n : ℕ) (k : ClusterKey) → Based G w n k (w.stay n k)

pub based_kept : (G : Ground) (w : Picture) (e : Effect) → Allowed G w e → Grows G.by w (act G e w) → AllBased G w → AllBased G (act G e w)
based_kept G w e ok g h n k = based_step G w (act G e w) n k _ _ (steps G w e ok n k) g (h n k)

pub based_start : (G : Ground) → AllBased G start
based_start G n k = record { entry = λ d. AtMost_none None; write = λ t e a. no_some a; empty = λ z. differ z refl }

-- ---- least

pub record Folded (G : Ground) (w : Picture) : Type 0 where
  pub fold : (k : ClusterKey) (d : List ℕ) (b : Option Version) → ((n : ℕ) → (w.stay n k).entered ≡ true → AtMost G.by ((w.stay n k).entry d) b)
      → ((n t : ℕ) (e : Applied) → (w.stay n k).writes t ≡ Some e → e.digest ≡ d → AtMost G.by (Some e.version) b) → AtMost G.by (w.fold k d) b
  pub base : (k : ClusterKey) (d : List ℕ) (b : Option Version) → ((n : ℕ) → (w.stay n k).entered ≡ true → AtMost G.by ((w.stay n k).entry d) b)
      → ((n t : ℕ) (e : Applied) → (w.stay n k).writes t ≡ Some e → e.digest ≡ d → (n ≡ view_master G k (partition_of d) → ⊥) → AtMost G.by (Some e.version) b) → AtMost G.by (w.base k d) b

-- the bounds after a line are bounds before it
fold_old : (G : Ground) (w v : Picture) → Grows G.by w v → Folded G w → (k : ClusterKey) (d : List ℕ) (b : Option Version) → ((n : ℕ) → (v.stay n k).entered ≡ true → AtMost G.by ((v.stay n k).entry d) b)
    → ((n t : ℕ) (e : Applied) → (v.stay n k).writes t ≡ Some e → e.digest ≡ d → AtMost G.by (Some e.version) b) → AtMost G.by (w.fold k d) b
fold_old G w v g h k d b en ws = h.fold k d b
    (λ n e. let q = (g.stay n k).entered e in subst (λ (f : Versions). AtMost G.by (f d) b) q.1 (en n q.0)) (λ n t e a. ws n t e ((g.stay n k).writes t e a))

base_old : (G : Ground) (w v : Picture) → Grows G.by w v → Folded G w → (k : ClusterKey) (d : List ℕ) (b : Option Version) → ((n : ℕ) → (v.stay n k).entered ≡ true → AtMost G.by ((v.stay n k).entry d) b)
    → ((n t : ℕ) (e : Applied) → (v.stay n k).writes t ≡ Some e → e.digest ≡ d → (n ≡ view_master G k (partition_of d) → ⊥) → AtMost G.by (Some e.version) b) → AtMost G.by (w.base k d) b
base_old G w v g h k d b en ws = h.base k d b
    (λ n e. let q = (g.stay n k).entered e in subst (λ (f : Versions). AtMost G.by (f d) b) q.1 (en n q.0)) (λ n t e a. ws n t e ((g.stay n k).writes t e a))

pub folded_kept : (G : Ground) (w : Picture) (e : Effect) → Grows G.by w (act G e w) → Folded G w → Folded G (act G e w)
folded_kept G w (Enters n k) g h = record {
  fold = λ j d b en ws. changed_either keys (λ (f : Versions). AtMost G.by (f d) b) w.fold k (with_all G.by (w.fold k) (w.node n).content) j
      (λ i. join_least (subst (λ (z : ClusterKey). AtMost G.by (w.fold z d) b) (sym i) (fold_old G w v g h j d b en ws)) (mine d b (subst (λ (z : ClusterKey). (v.stay n z).entered ≡ true → AtMost G.by ((v.stay n z).entry d) b) (sym i) (en n))))
      (λ _. fold_old G w v g h j d b en ws);
  base = λ j d b en ws. changed_either keys (λ (f : Versions). AtMost G.by (f d) b) w.base k (with_all G.by (w.base k) (w.node n).content) j
      (λ i. join_least (subst (λ (z : ClusterKey). AtMost G.by (w.base z d) b) (sym i) (base_old G w v g h j d b en ws)) (mine d b (subst (λ (z : ClusterKey). (v.stay n z).entered ≡ true → AtMost G.by ((v.stay n z).entry d) b) (sym i) (en n))))
      (λ _. base_old G w v g h j d b en ws);
}
  where
    v : Picture
    v = act G (Enters n k) w

    mine : (d : List ℕ) (b : Option Version) → ((v.stay n k).entered ≡ true → AtMost G.by ((v.stay n k).entry d) b) → AtMost G.by ((w.node n).content d) b
    mine d b = subst (λ (s : Stay). (s.entered ≡ true → AtMost G.by (s.entry d) b) → AtMost G.by ((w.node n).content d) b) (sym (stay_here w.stay n k (stay_at_entry n (w.node n).content))) (λ q. q refl)
folded_kept G w (Applies n k t d u) g h = record {
  fold = λ j c b en ws. changed_either keys (λ (f : Versions). AtMost G.by (f c) b) w.fold k (with_version G.by (w.fold k) d u) j
      (λ i. version_below G.by (w.fold k) d u c b (subst (λ (z : ClusterKey). AtMost G.by (w.fold z c) b) (sym i) (fold_old G w v g h j c b en ws))
      (λ dc. ws n t new (subst (λ (z : ClusterKey). (v.stay n z).writes t ≡ Some new) i made) dc))
      (λ _. fold_old G w v g h j c b en ws);
  base = λ j c b en ws. below j c b (base_old G w v g h j c b en ws) (λ i dc apart. ws n t new (subst (λ (z : ClusterKey). (v.stay n z).writes t ≡ Some new) i made) dc
      (subst (λ (z : List ℕ). n ≡ view_master G j (partition_of z) → ⊥) dc (subst (λ (z : ClusterKey). n ≡ view_master G z (partition_of d) → ⊥) i apart)));
}
  where
    v : Picture
    v = act G (Applies n k t d u) w

    new : Applied
    new = record { digest = d; version = u; nth = (w.stay n k).applies (partition_of d) + 1; early = not (w.settled k (partition_of d)) }

    made : (v.stay n k).writes t ≡ Some new
    made = ap (λ (s : Stay). s.writes t) (stay_here w.stay n k (stay_after_write G n k t d u (not (w.settled k (partition_of d))) (w.stay n k))) ∙ changed_here numbers (w.stay n k).writes t (Some new)

    below : (j : ClusterKey) (c : List ℕ) (b : Option Version) → AtMost G.by (w.base j c) b → (k ≡ j → d ≡ c → (n ≡ view_master G k (partition_of d) → ⊥) → AtMost G.by (Some u) b) → AtMost G.by (with_write_of G n k d u w.base j c) b
    below j c b old this = go (view_master G k (partition_of d) == n) refl
      where
        go : (q : Bool) → (view_master G k (partition_of d) == n) ≡ q → AtMost G.by ((cond q w.base (at_key w.base k (with_version G.by (w.base k) d u))) j c) b
        go true e = old
        go false e = changed_either keys (λ (f : Versions). AtMost G.by (f c) b) w.base k (with_version G.by (w.base k) d u) j
            (λ i. version_below G.by (w.base k) d u c b (subst (λ (z : ClusterKey). AtMost G.by (w.base z c) b) (sym i) old)
            (λ dc. this i dc (λ z. differ (subst (λ (m : ℕ). (m == n) ≡ true) z (Rattle.cluster_laws.proofs.At.number_here n)) e))) (λ _. old)
folded_kept G w Nothing g h = h
folded_kept G w e g h = record { fold = λ k d b en ws. fold_old G w (act G e w) g h k d b en ws; base = λ k d b en ws. base_old G w (act G e w) g h k d b en ws }

pub folded_start : (G : Ground) → Folded G start
folded_start G = record { fold = λ k d b en ws. AtMost_none b; base = λ k d b en ws. AtMost_none b }

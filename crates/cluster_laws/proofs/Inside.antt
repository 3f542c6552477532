-- What a node holds in its view.
use Rattle.std.proofs.Common.{◌≡◌, ℕ, ◌+◌, ◌==◌, Bool, true, false, cond, not, is_some, List, Option, Some, None, refl, sym, ap, ◌∙◌, subst, subst₂, ◌⊎◌, inl, inr, ⊎_elim}
use Rattle.conflict_order.specs.declared.version.Version.{Version}
use Rattle.conflict_order.specs.Join.{AtMost}
use Rattle.conflict_order.proofs.OrderLaws.{AtMost_refl, AtMost_trans, AtMost_none}
use Rattle.conflict_order.specs.Contents.{is_among}
use Rattle.cluster_types.specs.declared.cluster_key.ClusterKey.{ClusterKey}
use Rattle.cluster_types.specs.Partitions.{partition_of}
use Rattle.wire_messages.specs.declared.message.Message.TheVariants as message
use Rattle.cluster_laws.specs.Ground.{Ground, is_view_replica, view_sends_to}
use Rattle.cluster_laws.specs.Stay.{Versions, Applied, Stay}
use Rattle.cluster_laws.specs.Picture.{Seen, Picture, start}
use Rattle.cluster_laws.specs.Effect.{Effect}
use Rattle.cluster_laws.specs.Changes.{act, with_version}
use Rattle.cluster_laws.specs.Licences.{WasSent, MayMerge}
use Rattle.cluster_laws.proofs.At.{numbers, changed_either, changed_here, changed_other, number_same, differ, some_same, no_some, and_left}
use Rattle.cluster_laws.proofs.Allowed.{Allowed}
use Rattle.cluster_laws.proofs.Step.{Within, exchange, apply, merge, drop, batch_acked, Step, same, clock, enter, leave, stop, away, within, steps}
use Rattle.cluster_laws.proofs.Own.{AllOwn, AllPended}
use Rattle.cluster_laws.proofs.Txns.{Txns, AllTxns}
use Rattle.cluster_laws.proofs.Grows.{Grows, version_grows, version_there, version_below, version_both}
use Rattle.cluster_laws.proofs.Predicates.{Held, Inside, Says, Cross}

-- ---- what a stay has held

held_within : (G : Ground) (w v : Picture) (n : ℕ) (k : ClusterKey) (x : Seen) (s : Stay) → Within G w v n k x s → Held G (w.stay n k) → Held G s
held_within G w v n k _ _ (apply t d u early ok e a) h = record {
  entry = λ c. AtMost_trans (h.entry c) (version_grows G.by (w.stay n k).held d u c);
  write = λ x f. changed_either numbers (λ o. o ≡ Some f → AtMost G.by (Some f.version) (with_version G.by (w.stay n k).held d u f.digest)) (w.stay n k).writes t _ x
      (λ _ q. subst (λ (z : Applied). AtMost G.by (Some z.version) (with_version G.by (w.stay n k).held d u z.digest)) (some_same q) (version_there G.by (w.stay n k).held d u))
      (λ _ q. AtMost_trans (h.write x f q) (version_grows G.by (w.stay n k).held d u f.digest));
}
held_within G w v n k _ _ (merge d u ok is) h = record {
  entry = λ c. AtMost_trans (h.entry c) (version_grows G.by (w.stay n k).held d u c);
  write = λ x f q. AtMost_trans (h.write x f q) (version_grows G.by (w.stay n k).held d u f.digest);
}
held_within G w v n k _ _ _ h = assumption h

held_step : (G : Ground) (w v : Picture) (n : ℕ) (k : ClusterKey) (x : Seen) (s : Stay) → Step G w v n k x s → Held G (w.stay n k) → Held G s
held_step G w v n k _ _ (enter ok e) h = record { entry = λ d. AtMost_refl ((w.node n).content d); write = λ t e a. no_some a }
held_step G w v n k _ _ (within x s view c) h = held_within G w v n k x s c h
held_step G w v n k _ _ _ h = h

abbrev pub AllHeld : Ground → Picture → Type 0
AllHeld G w = (n : ℕ) (k : ClusterKey) → Held G (w.stay n k)

pub held_kept : (G : Ground) (w : Picture) (e : Effect) → Allowed G w e → AllHeld G w → AllHeld G (act G e w)
held_kept G w e ok h n k = held_step G w (act G e w) n k _ _ (steps G w e ok n k) (h n k)

pub held_start : (G : Ground) → AllHeld G start
held_start G n k = record { entry = λ d. AtMost_refl None; write = λ t e a. no_some a }

-- ---- what came belongs here

abbrev pub AllSays : Ground → Picture → Type 0
AllSays G w = (n r : ℕ) (m : Rattle.wire_messages.specs.declared.message.Message.Message) → WasSent w n r m → Says G w n r m

abbrev pub AllCross : Ground → Picture → Type 0
AllCross G w = (n : ℕ) (k : ClusterKey) → Cross G w n k (w.stay n k)

pub sends_to_replica : (G : Ground) (k : ClusterKey) (p n r : ℕ) → view_sends_to G k p n r ≡ true → is_view_replica G k p r ≡ true
unfolding view_sends_to
sends_to_replica G k p n r e = and_left (is_view_replica G k p r) _ e

pub merged_replica : (G : Ground) (w : Picture) (n : ℕ) (k : ClusterKey) (d : List ℕ) (u : Version) → AllOwn G w → AllSays G w → MayMerge G w n k d u → is_view_replica G k (partition_of d) n ≡ true
merged_replica G w n k d u own says ok = ⊎_elim
    (λ z. let s : (w.stay ok.from z.0.key).batch n z.0.number ≡ Some z.0.records = says ok.from n (message.Batch z.0) z.1 in
    sends_to_replica G k (partition_of d) ok.from n ((own ok.from k).records n z.0.number z.0.records (subst (λ (j : ClusterKey). (w.stay ok.from j).batch n z.0.number ≡ Some z.0.records) z.2 s) d u z.3).0)
    (λ z. (says ok.from n (message.Repl k z.number z.nth d u) z.came).replica) ok.brought

-- ---- what is held in the view

inside_grows : (G : Ground) (w v : Picture) (n : ℕ) (k : ClusterKey) (x : Seen) (s : Stay) → Grows G.by w v → Inside G w n k x s → Inside G v n k x s
inside_grows G w v n k x s g h = record {
  held = h.held;
  kept = h.kept;
  pended = h.pended;
  unexchanged = h.unexchanged;
  entry = λ d. ⊎_elim inl (λ z. inr (g.settled k (partition_of d) z)) (h.entry d);
  write = λ t e a. ⊎_elim inl (λ z. inr (g.settled k (partition_of e.digest) z)) (h.write t e a);
  outside = h.outside;
}

is_there : (o : Option Version) → is_some o ≡ true → (v : Version) × (o ≡ Some v)
is_there None e = differ e refl
is_there (Some v) e = (v, refl)

-- a version comes into the store of a replica, or of any node by a write of its own
inside_store : (G : Ground) (v : Picture) (n : ℕ) (k : ClusterKey) (x y : Seen) (s t : Stay) (d : List ℕ) (u : Version)
    → y.content ≡ with_version G.by x.content d u → t.held ≡ with_version G.by s.held d u → t.entry ≡ s.entry → t.pending ≡ s.pending → t.exchanged ≡ s.exchanged
    → ((i : ℕ) (e : Applied) → s.writes i ≡ Some e → t.writes i ≡ Some e)
    → ((i : ℕ) (e : Applied) → t.writes i ≡ Some e → (s.writes i ≡ Some e) ⊎ ((e.digest ≡ d) × (e.version ≡ u)))
    → (is_view_replica G k (partition_of d) n ≡ true) ⊎ ((i : ℕ) × (e : Applied) × (t.writes i ≡ Some e) × (e.digest ≡ d) × (e.version ≡ u))
    → Inside G v n k x s → Inside G v n k y t
inside_store G v n k x y s t d u ec eh ee ep ex more less why h = record {
  held = λ c. subst₂ (λ (f g : Versions). AtMost G.by (f c) (g c)) (sym ec) (sym eh) (version_both G.by x.content s.held d u c (h.held c));
  kept = λ c r. subst₂ (λ (f g : Versions). AtMost G.by (g c) (f c)) (sym ec) (sym eh) (version_both G.by s.held x.content d u c (h.kept c r));
  pended = λ r c p. subst₂ (λ (f g : Versions). AtMost G.by (g c) (f c)) (sym ec) (sym ee) (AtMost_trans (h.pended r c (subst (λ (f : ℕ → List ℕ → Bool). f r c ≡ true) ep p)) (version_grows G.by x.content d u c));
  unexchanged = λ z c. subst₂ (λ (f g : Versions). AtMost G.by (g c) (f c)) (sym ec) (sym ee) (AtMost_trans (h.unexchanged (sym ex ∙ z) c) (version_grows G.by x.content d u c));
  entry = λ c. ⊎_elim (λ z. inl (subst₂ (λ (f g : Versions). AtMost G.by (g c) (f c)) (sym ec) (sym ee) (AtMost_trans z (version_grows G.by x.content d u c)))) inr (h.entry c);
  write = λ i e a. ⊎_elim
      (λ z. ⊎_elim (λ q. inl (subst (λ (f : Versions). AtMost G.by (Some e.version) (f e.digest)) (sym ec) (AtMost_trans q (version_grows G.by x.content d u e.digest)))) inr (h.write i e z))
      (λ z. inl (subst (λ (f : Versions). AtMost G.by (Some e.version) (f e.digest)) (sym ec)
      (subst₂ (λ (c : List ℕ) (b : Version). AtMost G.by (Some b) (with_version G.by x.content d u c)) (sym z.0) (sym z.1) (version_there G.by x.content d u)))) (less i e a);
  outside = λ c b r en ws. subst (λ (f : Versions). AtMost G.by (f c) b) (sym ec) (version_below G.by x.content d u c b
      (h.outside c b r (subst (λ (f : Versions). AtMost G.by (f c) b) ee en) (λ i e a. ws i e (more i e a)))
      (λ z. ⊎_elim (λ q. differ (subst (λ (g : List ℕ). is_view_replica G k (partition_of g) n ≡ true) z q) r)
      (λ q. subst (λ (g : Version). AtMost G.by (Some g) b) q.4 (ws q.0 q.1 q.2 (q.3 ∙ z))) why));
}

inside_within : (G : Ground) (w v : Picture) (n : ℕ) (k : ClusterKey) (x : Seen) (s : Stay) → Within G w v n k x s → Grows G.by w v → AllOwn G w → AllSays G w → Cross G w n k (w.stay n k) → Txns (w.stay n k) → Inside G v n k (w.node n) (w.stay n k) → Inside G v n k x s
inside_within G w v n k _ _ (exchange ok) g own says cr ts h = record {
  held = h.held;
  kept = h.kept;
  pended = λ r d e. h.unexchanged ok.first d;
  unexchanged = λ e d. differ refl e;
  entry = h.entry;
  write = h.write;
  outside = h.outside;
}
inside_within G w v n k _ _ (apply t d u early ok e a) g own says cr ts h = inside_store G v n k (w.node n) _ (w.stay n k) _ d u refl refl refl refl refl
    (λ i f b. changed_other numbers (w.stay n k).writes t (Some new) i (λ z. no_some (sym (ts.unapplied t ok.transaction ok.resolved.running ok.resolved.unapplied) ∙ (ap (w.stay n k).writes z ∙ b))) ∙ b)
    (λ i f. changed_either numbers (λ o. o ≡ Some f → ((w.stay n k).writes i ≡ Some f) ⊎ ((f.digest ≡ d) × (f.version ≡ u))) (w.stay n k).writes t (Some new) i
    (λ _ q. inr (sym (ap (λ (z : Applied). z.digest) (some_same q)), sym (ap (λ (z : Applied). z.version) (some_same q)))) (λ _ q. inl q))
    (inr (t, new, changed_here numbers (w.stay n k).writes t (Some new), refl, refl)) h
  where
    new : Applied
    new = record { digest = d; version = u; nth = (w.stay n k).applies (partition_of d) + 1; early = early }
inside_within G w v n k _ _ (merge d u ok is) g own says cr ts h = inside_store G v n k (w.node n) _ (w.stay n k) _ d u refl refl refl refl refl (λ i f b. b) (λ i f b. inl b) (inl (merged_replica G w n k d u own says ok)) h
inside_within G w v n k _ _ (drop p ok) g own says cr ts h = record {
  held = λ d. less d (partition_of d == p) ((w.stay n k).held d) (h.held d);
  kept = λ d r. keeps d r (partition_of d == p) refl (h.kept d r);
  pended = λ r d e. pends r d e (partition_of d == p) refl (h.pended r d e);
  unexchanged = λ e. differ ok.done.exchanged e;
  entry = λ d. covers d ((w.stay n k).entry d) (partition_of d == p) refl (h.entry d);
  write = λ t e a. covers e.digest (Some e.version) (partition_of e.digest == p) refl (h.write t e a);
  outside = λ d b r en ws. less d (partition_of d == p) b (h.outside d b r en ws);
}
  where
    less : (d : List ℕ) (b : Bool) (o : Option Version) → AtMost G.by ((w.node n).content d) o → AtMost G.by (cond b None ((w.node n).content d)) o
    less d true o z = AtMost_none o
    less d false o z = z

    keeps : (d : List ℕ) → is_view_replica G k (partition_of d) n ≡ true → (b : Bool) → (partition_of d == p) ≡ b → AtMost G.by ((w.stay n k).held d) ((w.node n).content d) → AtMost G.by ((w.stay n k).held d) (cond b None ((w.node n).content d))
    keeps d r true e z = differ (subst (λ (q : ℕ). is_view_replica G k q n ≡ true) (number_same (partition_of d) p e) r) ok.outside
    keeps d r false e z = z

    pends : (r : ℕ) (d : List ℕ) → (w.stay n k).pending r d ≡ true → (b : Bool) → (partition_of d == p) ≡ b → AtMost G.by ((w.stay n k).entry d) ((w.node n).content d) → AtMost G.by ((w.stay n k).entry d) (cond b None ((w.node n).content d))
    pends r d q true e z = differ q (ok.done.none r d (number_same (partition_of d) p e))
    pends r d q false e z = z

    covers : (d : List ℕ) (o : Option Version) (b : Bool) → (partition_of d == p) ≡ b → AtMost G.by o ((w.node n).content d) ⊎ (v.settled k (partition_of d) ≡ true) → AtMost G.by o (cond b None ((w.node n).content d)) ⊎ (v.settled k (partition_of d) ≡ true)
    covers d o true e z = inr (subst (λ (q : ℕ). v.settled k q ≡ true) (sym (number_same (partition_of d) p e)) (g.settled k p (cr.settled p ok.settled)))
    covers d o false e z = z
inside_within G w v n k _ _ (batch_acked r b ok) g own says cr ts h = record {
  held = h.held;
  kept = h.kept;
  pended = λ q d. changed_either numbers (λ (f : List ℕ → Bool). f d ≡ true → AtMost G.by ((w.stay n k).entry d) ((w.node n).content d)) (w.stay n k).pending r _ q (λ _ e. h.pended r d (and_left ((w.stay n k).pending r d) (not (is_among b.records d)) e)) (λ _ e. h.pended q d e);
  unexchanged = h.unexchanged;
  entry = h.entry;
  write = h.write;
  outside = h.outside;
}
inside_within G w v n k _ _ _ g own says cr ts h = assumption h

inside_step : (G : Ground) (w v : Picture) (n : ℕ) (k : ClusterKey) (x : Seen) (s : Stay) → Step G w v n k x s → Grows G.by w v → AllOwn G w → AllSays G w → Cross G w n k (w.stay n k) → Txns (w.stay n k)
    → ((w.node n).view ≡ Some k → Inside G w n k (w.node n) (w.stay n k)) → x.view ≡ Some k → Inside G v n k x s
inside_step G w v n k _ _ same g own says cr ts h view = inside_grows G w v n k _ _ g (h view)
inside_step G w v n k _ _ (clock time) g own says cr ts h view = assumption (inside_grows G w v n k _ _ g (h view))
inside_step G w v n k _ _ (enter ok e) g own says cr ts h view = record {
  held = λ d. AtMost_refl ((w.node n).content d);
  kept = λ d r. AtMost_refl ((w.node n).content d);
  pended = λ r d e. differ e refl;
  unexchanged = λ e d. AtMost_refl ((w.node n).content d);
  entry = λ d. inl (AtMost_refl ((w.node n).content d));
  write = λ t e a. no_some a;
  outside = λ d b r en ws. en;
}
inside_step G w v n k _ _ (leave j ok apart) g own says cr ts h view = absurd (apart (some_same view))
inside_step G w v n k _ _ stop g own says cr ts h view = no_some view
inside_step G w v n k _ _ (away j there apart content stamp lost) g own says cr ts h view = absurd (apart (some_same (sym there ∙ view)))
inside_step G w v n k _ _ (within x s here c) g own says cr ts h view = inside_within G w v n k x s c g own says cr ts (inside_grows G w v n k _ _ g (h here))

abbrev pub AllInside : Ground → Picture → Type 0
AllInside G w = (n : ℕ) (k : ClusterKey) → (w.node n).view ≡ Some k → Inside G w n k (w.node n) (w.stay n k)

pub inside_kept : (G : Ground) (w : Picture) (e : Effect) → Allowed G w e → Grows G.by w (act G e w) → AllOwn G w → AllSays G w → AllCross G w → AllTxns w → AllInside G w → AllInside G (act G e w)
inside_kept G w e ok g own says cr ts h n k = inside_step G w (act G e w) n k _ _ (steps G w e ok n k) g own says (cr n k) (ts n k) (h n k)

pub inside_start : (G : Ground) → AllInside G start
inside_start G n k view = no_some view

pub pended_of : (G : Ground) (w : Picture) → AllInside G w → AllPended G w
pended_of G w h n k view = record { covers = (h n k view).pended }

-- What only grows from line to line.
use Rattle.std.proofs.Common.{◌≡◌, cond, ℕ, ◌+◌, Bool, true, false, not, ◌&&◌, ◌||◌, List, [], ◌∷◌, Option, Some, refl, sym, ap, ◌∙◌, subst, arith, inl, inr, ⊎_elim}
use Rattle.std.specs.Prelude.{nat_lt, ◌==◌, if◌then◌else◌}
use Rattle.conflict_order.specs.declared.policy.Policy.{Policy}
use Rattle.conflict_order.specs.declared.version.Version.{Version}
use Rattle.conflict_order.specs.Join.{join, AtMost}
use Rattle.conflict_order.proofs.OrderLaws.{AtMost_refl, AtMost_trans, AtMost_none}
use Rattle.conflict_order.proofs.JoinLaws.{join_left, join_right, join_least}
use Rattle.conflict_order.specs.Contents.{is_among}
use Rattle.cluster_types.specs.declared.cluster_key.ClusterKey.{ClusterKey}
use Rattle.cluster_types.specs.ClusterKeys.{key_lt}
use Rattle.cluster_types.specs.Partitions.{partition_of}
use Rattle.partition_lists.specs.Counts.{with_number}
use Rattle.wire_messages.specs.declared.message.Message.{Message}
use Rattle.cluster_types.specs.Rows.{bit}
use Rattle.cluster_laws.specs.Changed.{at_number, at_key, at_pair}
use Rattle.cluster_laws.specs.Ground.{Ground, view_master}
use Rattle.cluster_laws.specs.Stay.{Versions, Applied, Stay}
use Rattle.cluster_laws.specs.Picture.{Seen, Packet, Picture}
use Rattle.cluster_laws.specs.Effect.{Effect, Enters, Applies, Hands, Settles, Sends}
use Rattle.cluster_laws.specs.Changes.{act, with_version, with_all, with_write_of, heard, stay_at_entry, stay_after_exchange, hearing, stay_without_batch}
use Rattle.cluster_laws.specs.Licences.{WasSent, IsBatchToSend}
use Rattle.cluster_laws.proofs.At.{numbers, keys, digests, changed_either, changed_here, changed_other, pair_either, part_grows, differ, no_some, or_cases}
use Rattle.cluster_laws.proofs.Allowed.{Allowed}
use Rattle.cluster_laws.proofs.Step.{Within, exchange, begin, apply, finish, merge, hand, settle, batch, batch_acked, told, write, Step, enter, within, steps}
use Rattle.cluster_laws.proofs.Stays.{Entered, AllEntered}
use Rattle.cluster_laws.proofs.Own.{Own, AllOwn}
use Rattle.cluster_laws.proofs.Txns.{Txns, AllTxns}
pub use Rattle.std.proofs.lemmas.Bool.{or_left}
use Rattle.std.proofs.lemmas.Bool.{or_right}
use Rattle.cluster_types.specs.Distinct.{contains}

-- ---- versions

pub at_same : (by : Policy) {a b : Option Version} → a ≡ b → AtMost by a b
at_same by {a} {b} e = subst (λ (z : Option Version). AtMost by a z) e (AtMost_refl a)

pub version_grows : (by : Policy) (f : Versions) (d : List ℕ) (v : Version) (e : List ℕ) → AtMost by (f e) (with_version by f d v e)
version_grows by f d v e = changed_either digests (λ o. AtMost by (f e) o) f d (join by (f d) (Some v)) e
    (λ i. subst (λ (z : List ℕ). AtMost by (f z) (join by (f d) (Some v))) i (join_left (f d) (Some v))) (λ _. AtMost_refl (f e))

pub version_there : (by : Policy) (f : Versions) (d : List ℕ) (v : Version) → AtMost by (Some v) (with_version by f d v d)
version_there by f d v = subst (λ (o : Option Version). AtMost by (Some v) o) (sym (changed_here digests f d (join by (f d) (Some v)))) (join_right (f d) (Some v))

-- what was at most a bound stays so, where the new version is
pub version_below : (by : Policy) (f : Versions) (d : List ℕ) (v : Version) (e : List ℕ) (b : Option Version) → AtMost by (f e) b → (d ≡ e → AtMost by (Some v) b) → AtMost by (with_version by f d v e) b
version_below by f d v e b old new = changed_either digests (λ o. AtMost by o b) f d (join by (f d) (Some v)) e
    (λ i. join_least (subst (λ (z : List ℕ). AtMost by (f z) b) (sym i) old) (new i)) (λ _. old)

-- both grow by one version
pub version_both : (by : Policy) (f g : Versions) (d : List ℕ) (v : Version) (e : List ℕ) → AtMost by (f e) (g e) → AtMost by (with_version by f d v e) (with_version by g d v e)
version_both by f g d v e old = version_below by f d v e (with_version by g d v e) (AtMost_trans old (version_grows by g d v e))
    (λ i. subst (λ (z : List ℕ). AtMost by (Some v) (with_version by g d v z)) i (version_there by g d v))

-- ---- stays

pub record StayGrows (by : Policy) (s t : Stay) : Type 0 where
  pub entered : s.entered ≡ true → (t.entered ≡ true) × (t.entry ≡ s.entry)
  pub exchanged : s.exchanged ≡ true → t.exchanged ≡ true
  pub held : (d : List ℕ) → AtMost by (s.held d) (t.held d)
  pub batch : (r i : ℕ) (es : List (List ℕ × Version)) → s.batch r i ≡ Some es → t.batch r i ≡ Some es
  pub begun : (u : ℕ) (d : List ℕ) → s.begun u ≡ Some d → t.begun u ≡ Some d
  pub writes : (u : ℕ) (e : Applied) → s.writes u ≡ Some e → t.writes u ≡ Some e
  pub done : (u : ℕ) → s.done u ≡ true → t.done u ≡ true
  pub numbers : (p nth : ℕ) → contains (s.numbers p) nth ≡ true → contains (t.numbers p) nth ≡ true
  -- after the exchange nothing becomes pending
  pub pending : s.exchanged ≡ true → (r : ℕ) (d : List ℕ) → s.pending r d ≡ false → t.pending r d ≡ false
  pub handed : (p : ℕ) → s.handed p ≡ true → t.handed p ≡ true
  pub settled : (p : ℕ) → s.settled p ≡ true → t.settled p ≡ true
  pub own_handed : (p : ℕ) → s.own_handed p ≡ true → t.own_handed p ≡ true

-- a stay as it is grows, as does one with other transactions that are open
pub stay_same : (by : Policy) (s : Stay) → StayGrows by s s
stay_same by s = record {
  entered = λ e. (e, refl);
  exchanged = λ e. e;
  held = λ d. AtMost_refl (s.held d);
  batch = λ r i es e. e;
  begun = λ u d e. e;
  writes = λ u e a. a;
  done = λ u e. e;
  numbers = λ p nth e. e;
  pending = λ x r d e. e;
  handed = λ p e. e;
  settled = λ p e. e;
  own_handed = λ p e. e;
}

less : (a b : Bool) → a ≡ false → (a && b) ≡ false
less a b e = grind arith

more_numbers : (ms : List ℕ) (n x : ℕ) → contains ms x ≡ true → contains (with_number ms n) x ≡ true
more_numbers [] n x e = or_right (n == x) false e
more_numbers (m ∷ ms) n x e = go (more_numbers ms n x) (n == m) (nat_lt n m)
  where
    go : (contains ms x ≡ true → contains (with_number ms n) x ≡ true) → (b c : Bool) → contains (if b then m ∷ ms else (if c then n ∷ m ∷ ms else (m ∷ with_number ms n))) x ≡ true
    go rest true c = e
    go rest false true = or_right (n == x) (contains (m ∷ ms) x) e
    go rest false false = ⊎_elim (λ z. or_left (m == x) (contains (with_number ms n) x) z) (λ z. or_right (m == x) (contains (with_number ms n) x) (rest z)) (or_cases (m == x) (contains ms x) e)

more_heard : (b : Bool) (ms : List ℕ) (n x : ℕ) → contains ms x ≡ true → contains (heard b ms n) x ≡ true
more_heard true ms n x e = more_numbers ms n x e
more_heard false ms n x e = e

stay_within : (G : Ground) (w v : Picture) (n : ℕ) (k : ClusterKey) (x : Seen) (s : Stay) → Within G w v n k x s → Own G n k (w.stay n k) → Txns (w.stay n k) → StayGrows G.by (w.stay n k) s
stay_within G w v n k _ _ (exchange ok) o h =
    let f : (w.stay n k).exchanged ≡ true → true ≡ true = λ e. refl in
    let g : (w.stay n k).exchanged ≡ true → (r : ℕ) (d : List ℕ) → (w.stay n k).pending r d ≡ false → (stay_after_exchange G n k (w.node n).content (w.stay n k)).pending r d ≡ false = λ e. differ e ok.first in
    assumption (stay_same G.by (w.stay n k))
stay_within G w v n k _ _ (begin t d ok opens_it) o h =
    let f : (u : ℕ) (c : List ℕ) → (w.stay n k).begun u ≡ Some c → at_number (w.stay n k).begun t (Some d) u ≡ Some c =
    λ u c e. changed_other numbers (w.stay n k).begun t (Some d) u (λ i. omega (arith, i, ok.number, h.begun u c e)) ∙ e in
    assumption (stay_same G.by (w.stay n k))
stay_within G w v n k _ _ (apply t d u early ok e a) o h =
    let new : Applied = record { digest = d; version = u; nth = (w.stay n k).applies (partition_of d) + 1; early = early } in
    let f : (c : List ℕ) → AtMost G.by ((w.stay n k).held c) (with_version G.by (w.stay n k).held d u c) = version_grows G.by (w.stay n k).held d u in
    let g : (x : ℕ) (c : Applied) → (w.stay n k).writes x ≡ Some c → at_number (w.stay n k).writes t (Some new) x ≡ Some c =
    λ x c b. changed_other numbers (w.stay n k).writes t (Some new) x (λ i. no_some (sym (h.unapplied t ok.transaction ok.resolved.running ok.resolved.unapplied) ∙ (ap (w.stay n k).writes i ∙ b))) ∙ b in
    assumption (stay_same G.by (w.stay n k))
stay_within G w v n k _ _ (finish t ok) o h =
    let f : (u : ℕ) → (w.stay n k).done u ≡ true → at_number (w.stay n k).done t true u ≡ true = λ u e. changed_either numbers (λ (b : Bool). b ≡ true) (w.stay n k).done t true u (λ _. refl) (λ _. e) in
    assumption (stay_same G.by (w.stay n k))
stay_within G w v n k _ _ (merge d u ok is) o h =
    let f : (c : List ℕ) → AtMost G.by ((w.stay n k).held c) (with_version G.by (w.stay n k).held d u c) = version_grows G.by (w.stay n k).held d u in
    assumption (stay_same G.by (w.stay n k))
stay_within G w v n k _ _ (hand p ok e) o h =
    let f : (q : ℕ) → (w.stay n k).handed q ≡ true → at_number (w.stay n k).handed p true q ≡ true = λ q z. changed_either numbers (λ (b : Bool). b ≡ true) (w.stay n k).handed p true q (λ _. refl) (λ _. z) in
    let g : (q : ℕ) → (w.stay n k).own_handed q ≡ true → at_number (w.stay n k).own_handed p true q ≡ true = λ q z. changed_either numbers (λ (b : Bool). b ≡ true) (w.stay n k).own_handed p true q (λ _. refl) (λ _. z) in
    assumption (stay_same G.by (w.stay n k))
stay_within G w v n k _ _ (settle p ok e) o h =
    let f : (q : ℕ) → (w.stay n k).settled q ≡ true → at_number (w.stay n k).settled p true q ≡ true = λ q z. changed_either numbers (λ (b : Bool). b ≡ true) (w.stay n k).settled p true q (λ _. refl) (λ _. z) in
    assumption (stay_same G.by (w.stay n k))
stay_within G w v n k _ _ (batch r b ok i) o h =
    let f : (q l : ℕ) (es : List (List ℕ × Version)) → (w.stay n k).batch q l ≡ Some es → at_pair (w.stay n k).batch r b.number (Some b.records) q l ≡ Some es =
    λ q l es e. pair_either (λ z. z ≡ Some es) (w.stay n k).batch r b.number (Some b.records) q l
    (λ rq bl. sent rq bl es e (subst (λ (z : ClusterKey). IsBatchToSend (w.node n).content (w.stay n z) r b) i ok.batch)) e in
    assumption (stay_same G.by (w.stay n k))
  where
    sent : {q l : ℕ} → r ≡ q → b.number ≡ l → (es : List (List ℕ × Version)) → (w.stay n k).batch q l ≡ Some es → IsBatchToSend (w.node n).content (w.stay n k) r b → Some b.records ≡ Some es
    sent {q} {l} rq bl es e (inl out) = sym (o.out r b out).0 ∙ (ap (λ (z : ℕ). (w.stay n k).batch z b.number) rq ∙ (ap ((w.stay n k).batch q) bl ∙ e))
    sent {q} {l} rq bl es e (inr new) = absurd (omega (arith, bl, new.1, ap (w.stay n k).batches rq, (o.numbered q l es e).1))
stay_within G w v n k _ _ (batch_acked r b ok) o h =
    let f : (w.stay n k).exchanged ≡ true → (q : ℕ) (d : List ℕ) → (w.stay n k).pending q d ≡ false → (stay_without_batch r b (w.stay n k)).pending q d ≡ false =
    λ x q d e. changed_either numbers (λ (f : List ℕ → Bool). f d ≡ false) (w.stay n k).pending r (λ c. (w.stay n k).pending r c && not (is_among b.records c)) q
    (λ i. less ((w.stay n k).pending r d) (not (is_among b.records d)) (ap (λ (z : ℕ). (w.stay n k).pending z d) i ∙ e)) (λ _. e) in
    assumption (stay_same G.by (w.stay n k))
stay_within G w v n k _ _ (told r done handed settled ok) o h =
    let f : (p : ℕ) → (w.stay n k).handed p ≡ true → ((w.stay n k).handed p || bit handed p) ≡ true = λ p e. or_left ((w.stay n k).handed p) (bit handed p) e in
    let g : (p : ℕ) → (w.stay n k).settled p ≡ true → ((w.stay n k).settled p || bit settled p) ≡ true = λ p e. or_left ((w.stay n k).settled p) (bit settled p) e in
    assumption (stay_same G.by (w.stay n k))
stay_within G w v n k _ _ (write r nth d u ok is) o h =
    let f : (p x : ℕ) → contains ((w.stay n k).numbers p) x ≡ true → contains ((hearing G k r nth (partition_of d) (w.stay n k)).numbers p) x ≡ true =
    λ p x e. changed_either numbers (λ ms. contains ms x ≡ true) (w.stay n k).numbers (partition_of d) (heard (r == view_master G k (partition_of d)) ((w.stay n k).numbers (partition_of d)) nth) p
    (λ i. more_heard (r == view_master G k (partition_of d)) ((w.stay n k).numbers (partition_of d)) nth x (ap (λ (z : ℕ). contains ((w.stay n k).numbers z) x) i ∙ e)) (λ _. e) in
    assumption (stay_same G.by (w.stay n k))
stay_within G w v n k _ _ _ o h = assumption (stay_same G.by (w.stay n k))

-- a stay begins from nothing
stay_enter : (G : Ground) (n : ℕ) (k : ClusterKey) (x : Seen) (s : Stay) → Entered G n k x s → key_lt x.last k ≡ true → (content : Versions) → StayGrows G.by s (stay_at_entry n content)
stay_enter G n k x s h above content = subst (λ (z : Stay). StayGrows G.by z (stay_at_entry n content)) (sym (h.fresh (unentered s.entered refl))) (record {
  entered = λ e. differ e refl;
  exchanged = λ e. e;
  held = λ d. AtMost_none (content d);
  batch = λ r i es e. e;
  begun = λ u d e. e;
  writes = λ u e a. a;
  done = λ u e. e;
  numbers = λ p nth e. e;
  pending = λ e. differ e refl;
  handed = λ p e. e;
  settled = λ p e. e;
  own_handed = λ p e. e;
})
  where
    unentered : (b : Bool) → s.entered ≡ b → b ≡ false
    unentered true e = differ above (h.below e)
    unentered false e = refl

stay_step : (G : Ground) (w v : Picture) (n : ℕ) (k : ClusterKey) (x : Seen) (s : Stay) → Step G w v n k x s → Entered G n k (w.node n) (w.stay n k) → Own G n k (w.stay n k) → Txns (w.stay n k) → StayGrows G.by (w.stay n k) s
stay_step G w v n k _ _ (enter ok e) en o h = stay_enter G n k (w.node n) (w.stay n k) en ok.above (w.node n).content
stay_step G w v n k _ _ (within x s view c) en o h = stay_within G w v n k x s c o h
stay_step G w v n k _ _ _ en o h = stay_same G.by (w.stay n k)

-- ---- pictures

pub record Grows (by : Policy) (w v : Picture) : Type 0 where
  pub stay : (n : ℕ) (k : ClusterKey) → StayGrows by (w.stay n k) (v.stay n k)
  pub packet : (i : ℕ) (p : Packet) → w.packet i ≡ Some p → v.packet i ≡ Some p
  pub handed : (k : ClusterKey) (p : ℕ) → w.handed k p ≡ true → v.handed k p ≡ true
  pub settled : (k : ClusterKey) (p : ℕ) → w.settled k p ≡ true → v.settled k p ≡ true
  pub fold : (k : ClusterKey) (d : List ℕ) → AtMost by (w.fold k d) (v.fold k d)
  pub base : (k : ClusterKey) (d : List ℕ) → AtMost by (w.base k d) (v.base k d)
  pub applied : (d : List ℕ) → AtMost by (w.applied d) (v.applied d)

-- what is common to all stays
record Tables (by : Policy) (w v : Picture) : Type 0 where
  packet : (i : ℕ) (p : Packet) → w.packet i ≡ Some p → v.packet i ≡ Some p
  handed : (k : ClusterKey) (p : ℕ) → w.handed k p ≡ true → v.handed k p ≡ true
  settled : (k : ClusterKey) (p : ℕ) → w.settled k p ≡ true → v.settled k p ≡ true
  fold : (k : ClusterKey) (d : List ℕ) → AtMost by (w.fold k d) (v.fold k d)
  base : (k : ClusterKey) (d : List ℕ) → AtMost by (w.base k d) (v.base k d)
  applied : (d : List ℕ) → AtMost by (w.applied d) (v.applied d)

tables_same : (by : Policy) (w : Picture) → Tables by w w
tables_same by w = record {
  packet = λ i p e. e;
  handed = λ k p e. e;
  settled = λ k p e. e;
  fold = λ k d. AtMost_refl (w.fold k d);
  base = λ k d. AtMost_refl (w.base k d);
  applied = λ d. AtMost_refl (w.applied d);
}

-- a table of keys, where one key's versions grow
key_grows : (by : Policy) (f : ClusterKey → Versions) (k : ClusterKey) (new : Versions) → ((d : List ℕ) → AtMost by (f k d) (new d)) → (j : ClusterKey) (d : List ℕ) → AtMost by (f j d) (at_key f k new j d)
key_grows by f k new h j d = changed_either keys (λ (g : Versions). AtMost by (f j d) (g d)) f k new j (λ i. subst (λ (z : ClusterKey). AtMost by (f z d) (new d)) i (h d)) (λ _. AtMost_refl (f j d))

base_grows : (G : Ground) (n : ℕ) (k : ClusterKey) (d : List ℕ) (v : Version) (f : ClusterKey → Versions) (j : ClusterKey) (e : List ℕ) → AtMost G.by (f j e) (with_write_of G n k d v f j e)
base_grows G n k d v f j e = go (view_master G k (partition_of d) == n)
  where
    go : (b : Bool) → AtMost G.by (f j e) ((cond b f (at_key f k (with_version G.by (f k) d v))) j e)
    go true = AtMost_refl (f j e)
    go false = key_grows G.by f k (with_version G.by (f k) d v) (version_grows G.by (f k) d v) j e

tables : (G : Ground) (w : Picture) (e : Effect) → Allowed G w e → Tables G.by w (act G e w)
tables G w (Enters n k) ok =
    let f : (j : ClusterKey) (d : List ℕ) → AtMost G.by (w.fold j d) ((act G (Enters n k) w).fold j d) = key_grows G.by w.fold k (with_all G.by (w.fold k) (w.node n).content) (λ d. join_left (w.fold k d) ((w.node n).content d)) in
    let g : (j : ClusterKey) (d : List ℕ) → AtMost G.by (w.base j d) ((act G (Enters n k) w).base j d) = key_grows G.by w.base k (with_all G.by (w.base k) (w.node n).content) (λ d. join_left (w.base k d) ((w.node n).content d)) in
    assumption (tables_same G.by w)
tables G w (Applies n k t d u) ok =
    let f : (j : ClusterKey) (c : List ℕ) → AtMost G.by (w.fold j c) ((act G (Applies n k t d u) w).fold j c) = key_grows G.by w.fold k (with_version G.by (w.fold k) d u) (version_grows G.by (w.fold k) d u) in
    let g : (j : ClusterKey) (c : List ℕ) → AtMost G.by (w.base j c) ((act G (Applies n k t d u) w).base j c) = base_grows G n k d u w.base in
    let a : (c : List ℕ) → AtMost G.by (w.applied c) ((act G (Applies n k t d u) w).applied c) = version_grows G.by w.applied d u in
    assumption (tables_same G.by w)
tables G w (Hands n k p) ok =
    let f : (j : ClusterKey) (q : ℕ) → w.handed j q ≡ true → (act G (Hands n k p) w).handed j q ≡ true = part_grows w.handed k p in
    assumption (tables_same G.by w)
tables G w (Settles n k p) ok =
    let f : (j : ClusterKey) (q : ℕ) → w.settled j q ≡ true → (act G (Settles n k p) w).settled j q ≡ true = part_grows w.settled k p in
    assumption (tables_same G.by w)
tables G w (Sends i p) ok =
    let f : (j : ℕ) (q : Packet) → w.packet j ≡ Some q → (act G (Sends i p) w).packet j ≡ Some q = λ j q e. changed_other numbers w.packet i (Some p) j (λ z. no_some (sym ok.0 ∙ (ap w.packet z ∙ e))) ∙ e in
    assumption (tables_same G.by w)
tables G w _ ok = assumption (tables_same G.by w)

pub grows : (G : Ground) (w : Picture) (e : Effect) → Allowed G w e → AllEntered G w → AllOwn G w → AllTxns w → Grows G.by w (act G e w)
grows G w e ok en o h = let t : Tables G.by w (act G e w) = tables G w e ok in record {
  stay = λ n k. stay_step G w (act G e w) n k _ _ (steps G w e ok n k) (en n k) (o n k) (h n k);
  packet = t.packet;
  handed = t.handed;
  settled = t.settled;
  fold = t.fold;
  base = t.base;
  applied = t.applied;
}

pub sent_grows : (by : Policy) (w v : Picture) → Grows by w v → (n r : ℕ) (m : Message) → WasSent w n r m → WasSent v n r m
sent_grows by w v g n r m s = record { number = s.number; packet = s.packet; sent = g.packet s.number s.packet s.sent; ends = s.ends; message = s.message }

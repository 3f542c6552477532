-- Hand-over, settling, and who writes.
use Rattle.std.proofs.Common.{◌≡◌, ℕ, ◌+◌, Bool, true, false, not, List, Option, Some, None, option_map, refl, sym, ap, ◌∙◌, subst, subst₂, arith, inl, inr, ⊎_elim}
use Rattle.cluster_types.specs.declared.cluster_key.ClusterKey.{ClusterKey}
use Rattle.cluster_types.specs.Partitions.{partition_of}
use Rattle.cluster_laws.specs.Changed.{at_number, at_key}
use Rattle.cluster_laws.specs.Ground.{Ground, view_master, view_acting, other_view_replicas}
use Rattle.cluster_laws.specs.Stay.{Running, Applied, Stay}
use Rattle.cluster_laws.specs.Picture.{Seen, Picture, start}
use Rattle.cluster_laws.specs.Effect.{Effect, Hands, Settles}
use Rattle.cluster_laws.specs.Changes.{act, running_with_write, stay_after_hand_over, stay_after_settling}
use Rattle.cluster_laws.specs.Licences.{IsDone, IsFree, AllDone, Acts}
use Rattle.cluster_laws.proofs.At.{numbers, keys, changed_either, changed_here, part_cases, number_cases, differ, some_same, no_some}
use Rattle.cluster_laws.proofs.Allowed.{Allowed}
use Rattle.cluster_laws.proofs.Step.{Within, begin, answer, apply, finish, give_up, write_acked, answered, Step, enter, within, steps}
use Rattle.cluster_laws.proofs.Txns.{Txns}
use Rattle.cluster_laws.proofs.Grows.{Grows}
use Rattle.cluster_laws.proofs.Predicates.{Moved, IsShut, EarlyDone, HandedOver, HasSettled, Who, Writers}
use Rattle.cluster_laws.proofs.Said.{done_grows, Known}

-- ---- a stay that is shut at a partition stays so

-- the running transactions change at one number, by one of the same digest or none
free_change : (p : ℕ) (s : Stay) (t : ℕ) (o : Option Running) → ((y : Running) → o ≡ Some y → partition_of y.digest ≡ p → ⊥) → IsShut p s
    → (u : ℕ) (y : Running) → at_number s.running t o u ≡ Some y → partition_of y.digest ≡ p → ⊥
free_change p s t o new h u y = changed_either numbers (λ z. z ≡ Some y → partition_of y.digest ≡ p → ⊥) s.running t o u (λ _. new y) (λ _. h.free u y)

shut_within : (G : Ground) (w v : Picture) (n : ℕ) (k : ClusterKey) (p : ℕ) (x : Seen) (s : Stay) → Within G w v n k x s → (Acts G n k (w.stay n k) p → ⊥) → IsShut p (w.stay n k) → IsShut p s
shut_within G w v n k p _ _ (begin t d ok opens_it) idle h = record {
  free = free_change p (w.stay n k) t _ (λ y e q. idle (subst (Acts G n k (w.stay n k)) (ap (λ (z : Running). partition_of z.digest) (some_same e) ∙ q) ok.acts)) h;
  done = h.done;
}
shut_within G w v n k p _ _ (answer t d o ok) idle h = record { free = free_change p (w.stay n k) t None (λ y e. no_some e) h; done = h.done }
shut_within G w v n k p _ _ (give_up t ok) idle h = record { free = free_change p (w.stay n k) t None (λ y e. no_some e) h; done = h.done }
shut_within G w v n k p _ _ (finish t ok) idle h = record {
  free = free_change p (w.stay n k) t None (λ y e. no_some e) h;
  done = λ u e a q. changed_either numbers (λ (b : Bool). b ≡ true) (w.stay n k).done t true u (λ _. refl) (λ _. h.done u e a q);
}
shut_within G w v n k p _ _ (apply t d u early ok e z) idle h = record {
  free = free_change p (w.stay n k) t _ (λ y q. old y ((w.stay n k).running t) refl q) h;
  done = λ i f. changed_either numbers (λ o. o ≡ Some f → partition_of f.digest ≡ p → (w.stay n k).done i ≡ true) (w.stay n k).writes t _ i
      (λ _ q c. absurd (h.free t ok.transaction ok.resolved.running (ap partition_of ok.resolved.digest ∙ (ap (λ (a : Applied). partition_of a.digest) (some_same q) ∙ c)))) (λ _. h.done i f);
}
  where
    old : (y : Running) (o : Option Running) → (w.stay n k).running t ≡ o → option_map (running_with_write u ((w.stay n k).applies (partition_of d) + 1) (other_view_replicas G k (partition_of d) n)) o ≡ Some y → partition_of y.digest ≡ p → ⊥
    old y None i q = no_some q
    old y (Some c) i q = λ j. h.free t c i (ap (λ (r : Running). partition_of r.digest) (some_same q) ∙ j)
shut_within G w v n k p _ _ (write_acked r t y ok) idle h = record { free = free_change p (w.stay n k) t _ (λ z e q. h.free t y ok.running (ap (λ (r : Running). partition_of r.digest) (some_same e) ∙ q)) h; done = h.done }
shut_within G w v n k p _ _ (answered r t o y ok) idle h = record { free = free_change p (w.stay n k) t _ (λ z e q. h.free t y ok.running (ap (λ (r : Running). partition_of r.digest) (some_same e) ∙ q)) h; done = h.done }
shut_within G w v n k p _ _ _ idle h = assumption h

shut_step : (G : Ground) (w v : Picture) (n : ℕ) (k : ClusterKey) (p : ℕ) (x : Seen) (s : Stay) → Step G w v n k x s → (Acts G n k (w.stay n k) p → ⊥) → IsShut p (w.stay n k) → IsShut p s
shut_step G w v n k p _ _ (enter ok e) idle h = record { free = λ t y z. no_some z; done = λ t e a. no_some a }
shut_step G w v n k p _ _ (within x s view c) idle h = shut_within G w v n k p x s c idle h
shut_step G w v n k p _ _ _ idle h = h

early_within : (G : Ground) (w v : Picture) (n : ℕ) (k : ClusterKey) (p : ℕ) (x : Seen) (s : Stay) → Within G w v n k x s → w.settled k p ≡ true → EarlyDone p (w.stay n k) → EarlyDone p s
early_within G w v n k p _ _ (finish t ok) st h = record { done = λ u e a q z. changed_either numbers (λ (b : Bool). b ≡ true) (w.stay n k).done t true u (λ _. refl) (λ _. h.done u e a q z) }
early_within G w v n k p _ _ (apply t d u early ok e z) st h = record {
  done = λ i f. changed_either numbers (λ o. o ≡ Some f → partition_of f.digest ≡ p → f.early ≡ true → (w.stay n k).done i ≡ true) (w.stay n k).writes t _ i
      (λ _ q c b. absurd (late (partition_of d) (ap (λ (a : Applied). partition_of a.digest) (some_same q) ∙ c) (sym z ∙ (ap (λ (a : Applied). a.early) (some_same q) ∙ b)))) (λ _. h.done i f);
}
  where
    late : (q : ℕ) → q ≡ p → not (w.settled k q) ≡ true → ⊥
    late q i b = differ b (ap not (ap (w.settled k) i ∙ st))
early_within G w v n k p _ _ _ st h = assumption h

early_step : (G : Ground) (w v : Picture) (n : ℕ) (k : ClusterKey) (p : ℕ) (x : Seen) (s : Stay) → Step G w v n k x s → w.settled k p ≡ true → EarlyDone p (w.stay n k) → EarlyDone p s
early_step G w v n k p _ _ (enter ok e) st h = record { done = λ t e a. no_some a }
early_step G w v n k p _ _ (within x s view c) st h = early_within G w v n k p x s c st h
early_step G w v n k p _ _ _ st h = h

-- ---- hand-over

moved_grows : (G : Ground) (w v : Picture) → Grows G.by w v → (k : ClusterKey) (p : ℕ) → Moved G w k p → Moved G v k p
moved_grows G w v g k p h m mem = done_grows G w v g m k p (h m mem)

abbrev pub AllHanded : Ground → Picture → Type 0
AllHanded G w = (k : ClusterKey) (p : ℕ) → w.handed k p ≡ true → HandedOver G w k p

abbrev pub AllSettled : Ground → Picture → Type 0
AllSettled G w = (k : ClusterKey) (p : ℕ) → w.settled k p ≡ true → HasSettled G w k p

-- who knows of the others that they are done, knows that all are
all_moved : (G : Ground) (w : Picture) (n : ℕ) (k : ClusterKey) (p : ℕ) → Known G w → AllDone G n k (w.stay n k) p → Moved G w k p
all_moved G w n k p a h m mem = ⊎_elim (λ e. subst (λ (z : ℕ). IsDone (w.stay z k) p) (sym e) h.own) (λ e. (a.cross n k).told m p (h.others m mem e)) (number_cases m n)

-- a node without an open transaction on the partition has only writes that are done there
writes_done : (s : Stay) (p : ℕ) → Txns s → s.closing ≡ false → IsFree s p → (t : ℕ) (e : Applied) → s.writes t ≡ Some e → partition_of e.digest ≡ p → s.done t ≡ true
writes_done s p h stays free t e a q = ⊎_elim (λ z. z) (⊎_elim (λ z. differ z stays) (λ z. absurd (free.none t z.transaction z.running (ap partition_of z.digest ∙ q)))) (h.stands t e a)

handed_old : (G : Ground) (w : Picture) (e : Effect) → Allowed G w e → Grows G.by w (act G e w) → AllHanded G w → (k : ClusterKey) (p : ℕ) → w.handed k p ≡ true → HandedOver G (act G e w) k p
handed_old G w e ok g h k p z = let o : HandedOver G w k p = h k p z in record {
  other = o.other;
  known = (g.stay (view_acting G k p) k).own_handed p o.known;
  shut = shut_step G w (act G e w) (view_acting G k p) k p _ _ (steps G w e ok (view_acting G k p) k) (⊎_elim (λ q. differ o.known q.1) (λ q. o.other q.0)) o.shut;
  moved = moved_grows G w (act G e w) g k p o.moved;
}

pub handed_kept : (G : Ground) (w : Picture) (e : Effect) → Allowed G w e → Grows G.by w (act G e w) → Known G w → AllHanded G w → AllHanded G (act G e w)
handed_kept G w (Hands n k p) ok g a h j q z = ⊎_elim (λ i. subst₂ (HandedOver G v) i.0 i.1 new) (handed_old G w (Hands n k p) ok g h j q) (part_cases w.handed k p j q z)
  where
    v : Picture
    v = act G (Hands n k p) w

    now : v.stay n k ≡ stay_after_hand_over p (w.stay n k)
    now = ap (λ (f : ClusterKey → Stay). f k) (changed_here numbers w.stay n (at_key (w.stay n) k (stay_after_hand_over p (w.stay n k)))) ∙ changed_here keys (w.stay n) k (stay_after_hand_over p (w.stay n k))

    new : HandedOver G v k p
    new = record {
      other = λ i. ok.other (ok.acting ∙ i);
      known = subst (λ (z : ℕ). (v.stay z k).own_handed p ≡ true) ok.acting (subst (λ (s : Stay). s.own_handed p ≡ true) (sym now) (changed_here numbers (w.stay n k).own_handed p true));
      shut = subst (λ (z : ℕ). IsShut p (v.stay z k)) ok.acting (subst (IsShut p) (sym now) (record { free = ok.free.none; done = writes_done (w.stay n k) p (a.txns n k) ok.is_in.stays ok.free }));
      moved = moved_grows G w v g k p (all_moved G w n k p a ok.all_done);
    }
handed_kept G w e ok g a h j q z = handed_old G w e ok g h j q z

settled_old : (G : Ground) (w : Picture) (e : Effect) → Allowed G w e → Grows G.by w (act G e w) → AllSettled G w → (k : ClusterKey) (p : ℕ) → w.settled k p ≡ true → HasSettled G (act G e w) k p
settled_old G w e ok g h k p z = let o : HasSettled G w k p = h k p z in record {
  some = o.some;
  known = (g.stay (view_master G k p) k).settled p o.known;
  after = ⊎_elim inl (λ q. inr (g.handed k p q)) o.after;
  early = early_step G w (act G e w) (view_master G k p) k p _ _ (steps G w e ok (view_master G k p) k) z o.early;
  moved = moved_grows G w (act G e w) g k p o.moved;
}

pub settled_kept : (G : Ground) (w : Picture) (e : Effect) → Allowed G w e → Grows G.by w (act G e w) → Known G w → AllHanded G w → AllSettled G w → AllSettled G (act G e w)
settled_kept G w (Settles n k p) ok g a hs h j q z = ⊎_elim (λ i. subst₂ (HasSettled G v) i.0 i.1 new) (settled_old G w (Settles n k p) ok g h j q) (part_cases w.settled k p j q z)
  where
    v : Picture
    v = act G (Settles n k p) w

    now : v.stay n k ≡ stay_after_settling p (w.stay n k)
    now = ap (λ (f : ClusterKey → Stay). f k) (changed_here numbers w.stay n (at_key (w.stay n) k (stay_after_settling p (w.stay n k)))) ∙ changed_here keys (w.stay n) k (stay_after_settling p (w.stay n k))

    new : HasSettled G v k p
    new = record {
      some = ok.some;
      known = subst (λ (z : ℕ). (v.stay z k).settled p ≡ true) ok.master (subst (λ (s : Stay). s.settled p ≡ true) (sym now) (changed_here numbers (w.stay n k).settled p true));
      after = ⊎_elim (λ z. inr (g.handed k p ((a.cross n k).handed p z))) (λ z. inl (sym z.0 ∙ ok.master)) ok.moved;
      early = subst (λ (z : ℕ). EarlyDone p (v.stay z k)) ok.master (subst (EarlyDone p) (sym now) (record { done = λ t e b c _. writes_done (w.stay n k) p (a.txns n k) ok.is_in.stays ok.free t e b c }));
      moved = moved_grows G w v g k p (⊎_elim (λ z. (hs k p ((a.cross n k).handed p z)).moved) (λ z. all_moved G w n k p a z.1) ok.moved);
    }
settled_kept G w e ok g a hs h j q z = settled_old G w e ok g h j q z

-- ---- who writes

who_grows : (G : Ground) (w v : Picture) → Grows G.by w v → (n : ℕ) (k : ClusterKey) (p : ℕ) → Who G w n k p → Who G v n k p
who_grows G w v g n k p (inl e) = inl e
who_grows G w v g n k p (inr e) = inr (e.0, g.settled k p e.1)

writers_grow : (G : Ground) (w v : Picture) → Grows G.by w v → (n : ℕ) (k : ClusterKey) (s : Stay) → Writers G w n k s → Writers G v n k s
writers_grow G w v g n k s h = record {
  running = λ t y e. who_grows G w v g n k (partition_of y.digest) (h.running t y e);
  write = λ t e a. who_grows G w v g n k (partition_of e.digest) (h.write t e a);
  late = λ t e a b. ((h.late t e a b).0, g.settled k (partition_of e.digest) (h.late t e a b).1);
}

-- a node with an open transaction on a settled partition is its list master
pub holder : (G : Ground) (w : Picture) → AllHanded G w → AllSettled G w → (n : ℕ) (k : ClusterKey) (t : ℕ) (y : Running) → (w.stay n k).running t ≡ Some y → Who G w n k (partition_of y.digest) → w.settled k (partition_of y.digest) ≡ true → n ≡ view_master G k (partition_of y.digest)
holder G w hs st n k t y e (inr q) z = q.0
holder G w hs st n k t y e (inl q) z = ⊎_elim (λ i. q ∙ i)
    (λ i. absurd ((hs k (partition_of y.digest) i).shut.free t y (subst (λ (m : ℕ). (w.stay m k).running t ≡ Some y) q e) refl)) (st k (partition_of y.digest) z).after

running_change : (G : Ground) (v : Picture) (n : ℕ) (k : ClusterKey) (s : Stay) (t : ℕ) (o : Option Running) → ((y : Running) → o ≡ Some y → Who G v n k (partition_of y.digest)) → Writers G v n k s
    → (u : ℕ) (y : Running) → at_number s.running t o u ≡ Some y → Who G v n k (partition_of y.digest)
running_change G v n k s t o new h u y = changed_either numbers (λ z. z ≡ Some y → Who G v n k (partition_of y.digest)) s.running t o u (λ _. new y) (λ _. h.running u y)

writers_within : (G : Ground) (w v : Picture) (n : ℕ) (k : ClusterKey) (x : Seen) (s : Stay) → Within G w v n k x s → Known G w → AllHanded G w → AllSettled G w → Writers G w n k (w.stay n k) → Grows G.by w v → Writers G v n k (w.stay n k) → Writers G v n k s
writers_within G w v n k _ _ (begin t d ok opens_it) a hs st old g h = record {
  running = running_change G v n k (w.stay n k) t _ (λ y e. subst (λ (z : Running). Who G v n k (partition_of z.digest)) (some_same e) (⊎_elim (λ z. inl z.0) (λ z. inr (z.0, g.settled k (partition_of d) ((a.cross n k).own_settled (partition_of d) z.2))) ok.acts)) h;
  write = h.write;
  late = h.late;
}
writers_within G w v n k _ _ (answer t d o ok) a hs st old g h = record { running = running_change G v n k (w.stay n k) t None (λ y e. no_some e) h; write = h.write; late = h.late }
writers_within G w v n k _ _ (give_up t ok) a hs st old g h = record { running = running_change G v n k (w.stay n k) t None (λ y e. no_some e) h; write = h.write; late = h.late }
writers_within G w v n k _ _ (finish t ok) a hs st old g h = record { running = running_change G v n k (w.stay n k) t None (λ y e. no_some e) h; write = h.write; late = h.late }
writers_within G w v n k _ _ (write_acked r t y ok) a hs st old g h = record { running = running_change G v n k (w.stay n k) t _ (λ z e. subst (λ (j : Running). Who G v n k (partition_of j.digest)) (some_same e) (h.running t y ok.running)) h; write = h.write; late = h.late }
writers_within G w v n k _ _ (answered r t o y ok) a hs st old g h = record { running = running_change G v n k (w.stay n k) t _ (λ z e. subst (λ (j : Running). Who G v n k (partition_of j.digest)) (some_same e) (h.running t y ok.running)) h; write = h.write; late = h.late }
writers_within G w v n k _ _ (apply t d u early ok e z) a hs st old g h = record {
  running = running_change G v n k (w.stay n k) t _ (λ y q. was y ((w.stay n k).running t) refl q) h;
  write = λ i f. changed_either numbers (λ o. o ≡ Some f → Who G v n k (partition_of f.digest)) (w.stay n k).writes t _ i
      (λ _ q. subst (λ (b : Applied). Who G v n k (partition_of b.digest)) (some_same q) (subst (λ (b : List ℕ). Who G v n k (partition_of b)) ok.resolved.digest (h.running t ok.transaction ok.resolved.running))) (λ _. h.write i f);
  late = λ i f. changed_either numbers (λ o. o ≡ Some f → f.early ≡ false → (n ≡ view_master G k (partition_of f.digest)) × (v.settled k (partition_of f.digest) ≡ true)) (w.stay n k).writes t _ i
      (λ _ q b. subst (λ (c : List ℕ). (n ≡ view_master G k (partition_of c)) × (v.settled k (partition_of c) ≡ true)) (ap (λ (c : Applied). c.digest) (some_same q)) (now (sym z ∙ (ap (λ (c : Applied). c.early) (some_same q) ∙ b)))) (λ _. h.late i f);
}
  where
    was : (y : Running) (o : Option Running) → (w.stay n k).running t ≡ o → option_map (running_with_write u ((w.stay n k).applies (partition_of d) + 1) (other_view_replicas G k (partition_of d) n)) o ≡ Some y → Who G v n k (partition_of y.digest)
    was y None i q = no_some q
    was y (Some c) i q = subst (λ (j : Running). Who G v n k (partition_of j.digest)) (some_same q) (h.running t c i)

    is_true : (b : Bool) → not b ≡ false → b ≡ true
    is_true b i = grind arith

    now : not (w.settled k (partition_of d)) ≡ false → (n ≡ view_master G k (partition_of d)) × (v.settled k (partition_of d) ≡ true)
    now i = let s : w.settled k (partition_of d) ≡ true = is_true (w.settled k (partition_of d)) i in (
      subst (λ (c : List ℕ). n ≡ view_master G k (partition_of c)) ok.resolved.digest
          (holder G w hs st n k t ok.transaction ok.resolved.running (old.running t ok.transaction ok.resolved.running) (subst (λ (c : List ℕ). w.settled k (partition_of c) ≡ true) (sym ok.resolved.digest) s)),
      g.settled k (partition_of d) s,
    )
writers_within G w v n k _ _ _ a hs st old g h = assumption h

writers_step : (G : Ground) (w v : Picture) (n : ℕ) (k : ClusterKey) (x : Seen) (s : Stay) → Step G w v n k x s → Known G w → AllHanded G w → AllSettled G w → Grows G.by w v → Writers G w n k (w.stay n k) → Writers G v n k s
writers_step G w v n k _ _ (enter ok e) a hs st g h = record { running = λ t y z. no_some z; write = λ t e z. no_some z; late = λ t e z. no_some z }
writers_step G w v n k _ _ (within x s view c) a hs st g h = writers_within G w v n k x s c a hs st h g (writers_grow G w v g n k (w.stay n k) h)
writers_step G w v n k _ _ _ a hs st g h = writers_grow G w v g n k (w.stay n k) h

abbrev pub AllWriters : Ground → Picture → Type 0
AllWriters G w = (n : ℕ) (k : ClusterKey) → Writers G w n k (w.stay n k)

pub writers_kept : (G : Ground) (w : Picture) (e : Effect) → Allowed G w e → Grows G.by w (act G e w) → Known G w → AllHanded G w → AllSettled G w → AllWriters G w → AllWriters G (act G e w)
writers_kept G w e ok g a hs st h n k = writers_step G w (act G e w) n k _ _ (steps G w e ok n k) a hs st g (h n k)

pub writers_start : (G : Ground) → AllWriters G start
writers_start G n k = record { running = λ t y z. no_some z; write = λ t e z. no_some z; late = λ t e z. no_some z }

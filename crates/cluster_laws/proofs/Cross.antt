-- What one node knows of another's store.
use Rattle.std.proofs.Common.{◌≡◌, ℕ, ◌+◌, Bool, true, false, not, ◌&&◌, is_some, List, Option, Some, None, option_map, refl, sym, ap, ◌∙◌, subst, arith, ◌⊎◌, inl, inr, ⊎_elim}
use Rattle.conflict_order.specs.declared.version.Version.{Version}
use Rattle.conflict_order.specs.Join.{AtMost}
use Rattle.conflict_order.proofs.OrderLaws.{AtMost_trans, AtMost_none}
use Rattle.conflict_order.specs.Contents.{is_among, Write}
use Rattle.cluster_types.specs.declared.cluster_key.ClusterKey.{ClusterKey}
use Rattle.cluster_types.specs.Partitions.{partition_of}
use Rattle.cluster_types.specs.Rows.{bit}
use Rattle.cluster_types.specs.Distinct.{without, contains}
use Rattle.wire_messages.specs.declared.message.Message.TheVariants as message
use Rattle.cluster_laws.specs.Changed.{at_number, at_key}
use Rattle.cluster_laws.specs.Ground.{Ground, is_view_replica, other_view_replicas, view_sends_to}
use Rattle.cluster_laws.specs.Stay.{Running, Applied, Stay}
use Rattle.cluster_laws.specs.Picture.{Seen, Picture, start}
use Rattle.cluster_laws.specs.Effect.{Effect}
use Rattle.cluster_laws.specs.Changes.{act, running_with_write, running_with_answer, running_acknowledged, stay_at_entry}
use Rattle.cluster_laws.specs.Licences.{IsAmong, IsDone}
use Rattle.cluster_laws.proofs.At.{numbers, keys, changed_either, changed_here, part_here, number_cases, differ, some_same, no_some, or_cases}
use Rattle.cluster_laws.proofs.Lists.{contains_without, not_in_without, Found, among_found}
use Rattle.cluster_laws.proofs.Allowed.{Allowed}
use Rattle.cluster_laws.proofs.Step.{Within, exchange, begin, answer, apply, finish, give_up, hand, settle, row, batch_acked, told, write_acked, answered, Step, enter, within, steps}
use Rattle.cluster_laws.proofs.Txns.{WriteOf}
use Rattle.cluster_laws.proofs.Grows.{Grows}
use Rattle.cluster_laws.proofs.Predicates.{HasWrite, AckedBatch, AckedWrite, ToldBits, Cross}
use Rattle.cluster_laws.proofs.Inside.{AllCross}
use Rattle.cluster_laws.proofs.Said.{done_grows, has_grows, Known}

cross_grows : (G : Ground) (w v : Picture) → Grows G.by w v → (n : ℕ) (k : ClusterKey) (s : Stay) → Cross G w n k s → Cross G v n k s
cross_grows G w v g n k s h = record {
  arrived = λ r d ex to e. AtMost_trans (h.arrived r d ex to e) ((g.stay r k).held d);
  acked = λ r t y u e a rep apart c. has_grows G w v g n r k y.digest u.version u.nth (h.acked r t y u e a rep apart c);
  done = λ r t e dn a rep apart. has_grows G w v g n r k e.digest e.version e.nth (h.done r t e dn a rep apart);
  handed = λ p e. g.handed k p (h.handed p e);
  settled = λ p e. g.settled k p (h.settled p e);
  own_settled = λ p e. g.settled k p (h.own_settled p e);
  told = λ m p e. done_grows G w v g m k p (h.told m p e);
  rows = λ m e. ((g.stay m k).entered (h.rows m e)).0;
  all_in = λ ex m mem. ((g.stay m k).entered (h.all_in ex m mem)).0;
}

-- the running transactions change at one number, where the new one has applied nothing
acked_change : (G : Ground) (v : Picture) (n : ℕ) (k : ClusterKey) (s : Stay) (t : ℕ) (o : Option Running)
    → ((r : ℕ) (y : Running) (u : Write) → o ≡ Some y → y.applied ≡ Some u → is_view_replica G k (partition_of y.digest) r ≡ true → (r ≡ n → ⊥) → contains y.awaiting r ≡ false → HasWrite G v n r k y.digest u.version u.nth) → Cross G v n k s
    → (r i : ℕ) (y : Running) (u : Write) → at_number s.running t o i ≡ Some y → y.applied ≡ Some u → is_view_replica G k (partition_of y.digest) r ≡ true → (r ≡ n → ⊥) → contains y.awaiting r ≡ false → HasWrite G v n r k y.digest u.version u.nth
acked_change G v n k s t o new h r i y u =
    changed_either numbers (λ z. z ≡ Some y → y.applied ≡ Some u → is_view_replica G k (partition_of y.digest) r ≡ true → (r ≡ n → ⊥) → contains y.awaiting r ≡ false → HasWrite G v n r k y.digest u.version u.nth) s.running t o i
    (λ _. new r y u) (λ _. h.acked r i y u)

not_some : (o : Option Version) → is_some o ≡ false → o ≡ None
not_some None e = refl
not_some (Some v) e = differ refl e

last_false : (a b : Bool) → a ≡ true → (a && b) ≡ false → b ≡ false
last_false a b p q = grind arith

either_false : (a b : Bool) → (a && not b) ≡ false → (a ≡ false) ⊎ (b ≡ true)
either_false a b e = grind arith

in_other_replicas : (G : Ground) (k : ClusterKey) (p n r : ℕ) → is_view_replica G k p r ≡ true → (r ≡ n → ⊥) → contains (other_view_replicas G k p n) r ≡ true
unfolding is_view_replica other_view_replicas
in_other_replicas G k p n r e apart = contains_without _ n r e apart

cross_within : (G : Ground) (w v : Picture) (n : ℕ) (k : ClusterKey) (x : Seen) (s : Stay) → Within G w v n k x s → (w.node n).view ≡ Some k → Known G w → Grows G.by w v → Cross G v n k (w.stay n k) → Cross G v n k s
cross_within G w v n k _ _ (exchange ok) view a g h = record {
  arrived = λ r d ex to e. AtMost_trans
      (subst (λ (o : Option Version). AtMost G.by ((w.stay n k).entry d) o) (not_some ((w.node n).content d) (last_false (view_sends_to G k (partition_of d) n r) (is_some ((w.node n).content d)) to e)) ((a.inside n k view).unexchanged ok.first d))
      (AtMost_none ((v.stay r k).held d));
  acked = h.acked;
  done = h.done;
  handed = h.handed;
  settled = h.settled;
  own_settled = h.own_settled;
  told = h.told;
  rows = h.rows;
  all_in = λ ex m mem. h.rows m (ok.rows m mem);
}
cross_within G w v n k _ _ (begin t d ok opens_it) view a g h =
    let f : (r i : ℕ) (y : Running) (u : Write) → at_number (w.stay n k).running t (Some (Rattle.cluster_laws.specs.Changes.running_at_opening G k n (w.node n).content (w.stay n k) d)) i ≡ Some y → y.applied ≡ Some u → is_view_replica G k (partition_of y.digest) r ≡ true → (r ≡ n → ⊥) → contains y.awaiting r ≡ false → HasWrite G v n r k y.digest u.version u.nth =
    acked_change G v n k (w.stay n k) t _ (λ r y u e b. no_some (ap (λ (z : Running). z.applied) (some_same e) ∙ b)) h in
    assumption h
cross_within G w v n k _ _ (answer t d o ok) view a g h = record { arrived = h.arrived; acked = acked_change G v n k (w.stay n k) t None (λ r y u e. no_some e) h; done = h.done; handed = h.handed; settled = h.settled; own_settled = h.own_settled; told = h.told; rows = h.rows; all_in = h.all_in }
cross_within G w v n k _ _ (give_up t ok) view a g h = record { arrived = h.arrived; acked = acked_change G v n k (w.stay n k) t None (λ r y u e. no_some e) h; done = h.done; handed = h.handed; settled = h.settled; own_settled = h.own_settled; told = h.told; rows = h.rows; all_in = h.all_in }
cross_within G w v n k _ _ (apply t d u early ok e z) view a g h = record {
  arrived = λ r c ex to q. h.arrived r c ex to q;
  acked = acked_change G v n k (w.stay n k) t _ (λ r y x q b rep apart c. acks r y ((w.stay n k).running t) refl q rep apart c) h;
  done = λ r i f dn b rep apart. h.done r i f dn (changed_either numbers (λ o. o ≡ Some f → (w.stay n k).writes i ≡ Some f) (w.stay n k).writes t _ i
      (λ j _. let old = (a.txns n k).done i dn in no_some (sym ((a.txns n k).unapplied t ok.transaction ok.resolved.running ok.resolved.unapplied) ∙ (ap (w.stay n k).writes j ∙ old.1))) (λ _ q. q) b) rep apart;
  handed = h.handed;
  settled = h.settled;
  own_settled = h.own_settled;
  told = h.told;
  rows = h.rows;
  all_in = h.all_in;
}
  where
    acks : {C : Type 0} (r : ℕ) (y : Running) (o : Option Running) → (w.stay n k).running t ≡ o → option_map (running_with_write u ((w.stay n k).applies (partition_of d) + 1) (other_view_replicas G k (partition_of d) n)) o ≡ Some y
        → is_view_replica G k (partition_of y.digest) r ≡ true → (r ≡ n → ⊥) → contains y.awaiting r ≡ false → C
    acks {C} r y None i q rep apart c = no_some q
    acks {C} r y (Some z) i q rep apart c = differ
        (in_other_replicas G k (partition_of d) n r (subst (λ (b : List ℕ). is_view_replica G k (partition_of b) r ≡ true) (sym (ap (λ (b : Running). b.digest) (some_same q)) ∙ (ap (λ (b : Running). b.digest) (some_same (sym i ∙ ok.resolved.running)) ∙ ok.resolved.digest)) rep) apart)
        (ap (λ (b : Running). contains b.awaiting r) (some_same q) ∙ c)
cross_within G w v n k _ _ (finish t ok) view a g h = record {
  arrived = h.arrived;
  acked = acked_change G v n k (w.stay n k) t None (λ r y u e. no_some e) h;
  done = λ r i f. changed_either numbers (λ (b : Bool). b ≡ true → (w.stay n k).writes i ≡ Some f → is_view_replica G k (partition_of f.digest) r ≡ true → (r ≡ n → ⊥) → HasWrite G v n r k f.digest f.version f.nth) (w.stay n k).done t true i
      (λ j _ b rep apart. this r f (subst (λ (z : ℕ). (w.stay n k).writes z ≡ Some f) (sym j) b) rep apart) (λ _ dn. h.done r i f dn);
  handed = h.handed;
  settled = h.settled;
  own_settled = h.own_settled;
  told = h.told;
  rows = h.rows;
  all_in = h.all_in;
}
  where
    o : WriteOf (w.stay n k).writes t ok.transaction.digest ok.write
    o = (a.txns n k).applied t ok.transaction ok.write ok.running ok.applied

    this : (r : ℕ) (f : Applied) → (w.stay n k).writes t ≡ Some f → is_view_replica G k (partition_of f.digest) r ≡ true → (r ≡ n → ⊥) → HasWrite G v n r k f.digest f.version f.nth
    this r f b rep apart = subst (λ (z : Applied). is_view_replica G k (partition_of z.digest) r ≡ true → HasWrite G v n r k z.digest z.version z.nth) (some_same (sym o.here ∙ b))
        (λ mine. h.acked r t ok.transaction ok.write ok.running ok.applied mine apart (ap (λ (l : List ℕ). contains l r) ok.acked)) rep
cross_within G w v n k _ _ (hand p ok e) view a g h = record {
  arrived = h.arrived;
  acked = h.acked;
  done = h.done;
  settled = h.settled;
  own_settled = h.own_settled;
  told = h.told;
  rows = h.rows;
  all_in = h.all_in;
  handed = λ q. changed_either numbers (λ (b : Bool). b ≡ true → v.handed k q ≡ true) (w.stay n k).handed p true q
      (λ i _. subst (λ (z : ℕ). v.handed k z ≡ true) i (subst (λ (f : Picture). f.handed k p ≡ true) (sym e) (part_here w.handed k p))) (λ _. h.handed q);
}
cross_within G w v n k _ _ (settle p ok e) view a g h = record {
  arrived = h.arrived;
  acked = h.acked;
  done = h.done;
  handed = h.handed;
  told = h.told;
  rows = h.rows;
  all_in = h.all_in;
  settled = λ q. changed_either numbers (λ (b : Bool). b ≡ true → v.settled k q ≡ true) (w.stay n k).settled p true q
      (λ i _. subst (λ (z : ℕ). v.settled k z ≡ true) i (subst (λ (f : Picture). f.settled k p ≡ true) (sym e) (part_here w.settled k p))) (λ _. h.settled q);
  own_settled = λ q. changed_either numbers (λ (b : Bool). b ≡ true → v.settled k q ≡ true) (w.stay n k).own_settled p true q
      (λ i _. subst (λ (z : ℕ). v.settled k z ≡ true) i (subst (λ (f : Picture). f.settled k p ≡ true) (sym e) (part_here w.settled k p))) (λ _. h.own_settled q);
}
cross_within G w v n k _ _ (row r ok) view a g h = record {
  arrived = h.arrived;
  acked = h.acked;
  done = h.done;
  handed = h.handed;
  settled = h.settled;
  own_settled = h.own_settled;
  told = h.told;
  all_in = h.all_in;
  rows = λ m. changed_either numbers (λ (b : Bool). b ≡ true → (v.stay m k).entered ≡ true) (w.stay n k).rows r true m
      (λ i _. subst (λ (z : ℕ). (v.stay z k).entered ≡ true) i ((g.stay r k).entered (a.says r n (message.State k ok.wants ok.row) ok.came.sent)).0) (λ _. h.rows m);
}
cross_within G w v n k _ _ (batch_acked r b ok) view a g h = record {
  acked = h.acked;
  done = h.done;
  handed = h.handed;
  settled = h.settled;
  own_settled = h.own_settled;
  told = h.told;
  rows = h.rows;
  all_in = h.all_in;
  arrived = λ q d ex to. changed_either numbers (λ (f : List ℕ → Bool). f d ≡ false → AtMost G.by ((w.stay n k).entry d) ((v.stay q k).held d)) (w.stay n k).pending r _ q
      (λ i e. ⊎_elim (λ z. h.arrived q d ex to (ap (λ (j : ℕ). (w.stay n k).pending j d) (sym i) ∙ z))
      (λ z. subst (λ (j : ℕ). AtMost G.by ((w.stay n k).entry d) ((v.stay j k).held d)) i (here d z)) (either_false ((w.stay n k).pending r d) (is_among b.records d) e))
      (λ _. h.arrived q d ex to);
}
  where
    said : AckedBatch G w r n k b.number
    said = a.says r n (message.BatchAck k b.number) ok.came.sent

    same_records : said.records ≡ b.records
    same_records = some_same (sym said.sent ∙ ((a.own n k).out r b ok.out).0)

    here : (d : List ℕ) → is_among b.records d ≡ true → AtMost G.by ((w.stay n k).entry d) ((v.stay r k).held d)
    here d z = let f : Found b.records d = among_found b.records d z in
        AtMost_trans ((a.own n k).records r b.number b.records ((a.own n k).out r b ok.out).0 d f.version f.among).1
        (AtMost_trans (said.held d f.version (subst (λ (l : List (List ℕ × Version)). IsAmong l d f.version) (sym same_records) f.among)) ((g.stay r k).held d))
cross_within G w v n k _ _ (told r done_bits handed_bits settled_bits ok) view a g h = record {
  arrived = h.arrived;
  acked = h.acked;
  done = h.done;
  rows = h.rows;
  all_in = h.all_in;
  told = λ m p. changed_either numbers (λ (f : ℕ → Bool). f p ≡ true → IsDone (v.stay m k) p) (w.stay n k).told r (bit done_bits) m
      (λ i e. subst (λ (z : ℕ). IsDone (v.stay z k) p) i (done_grows G w v g r k p (said.done p e))) (λ _. h.told m p);
  handed = λ p e. ⊎_elim (h.handed p) (λ z. g.handed k p (said.handed p z)) (or_cases ((w.stay n k).handed p) (bit handed_bits p) e);
  settled = λ p e. ⊎_elim (h.settled p) (λ z. g.settled k p (said.settled p z)) (or_cases ((w.stay n k).settled p) (bit settled_bits p) e);
  own_settled = h.own_settled;
}
  where
    said : ToldBits w r k done_bits handed_bits settled_bits
    said = a.says r n (message.Progress k ok.wants done_bits handed_bits settled_bits) ok.came.sent
cross_within G w v n k _ _ (write_acked r t y ok) view a g h = record {
  arrived = h.arrived;
  done = h.done;
  handed = h.handed;
  settled = h.settled;
  own_settled = h.own_settled;
  told = h.told;
  rows = h.rows;
  all_in = h.all_in;
  acked = acked_change G v n k (w.stay n k) t (Some (running_acknowledged r y))
      (λ q z u e b rep apart c.
      subst (λ (j : Running). j.applied ≡ Some u → is_view_replica G k (partition_of j.digest) q ≡ true → contains j.awaiting q ≡ false → HasWrite G v n q k j.digest u.version u.nth) (some_same e)
      (λ b2 rep2 c2. this q u b2 rep2 apart c2 (number_cases q r)) b rep c) h;
}
  where
    said : AckedWrite G w r n k t
    said = a.says r n (message.ReplAck k t) ok.came.sent

    this : (q : ℕ) (u : Write) → y.applied ≡ Some u → is_view_replica G k (partition_of y.digest) q ≡ true → (q ≡ n → ⊥) → contains (without y.awaiting r) q ≡ false → (q ≡ r) ⊎ (q ≡ r → ⊥) → HasWrite G v n q k y.digest u.version u.nth
    this q u b rep apart c (inr i) = h.acked q t y u ok.running b rep apart (not_in_without y.awaiting r q c i)
    this q u b rep apart c (inl i) =
        let o : WriteOf (w.stay n k).writes t y.digest u = (a.txns n k).applied t y u ok.running b in
        has_grows G w v g n q k y.digest u.version u.nth (subst (λ (z : ℕ). HasWrite G w n z k y.digest u.version u.nth) (sym i)
        (subst (λ (z : Applied). HasWrite G w n r k z.digest z.version z.nth) (some_same (sym said.made ∙ o.here)) said.has))
cross_within G w v n k _ _ (answered r t o y ok) view a g h = record {
  arrived = h.arrived;
  done = h.done;
  handed = h.handed;
  settled = h.settled;
  own_settled = h.own_settled;
  told = h.told;
  rows = h.rows;
  all_in = h.all_in;
  acked = acked_change G v n k (w.stay n k) t (Some (running_with_answer G.by r o y)) (λ q z u e b. no_some (sym ok.unapplied ∙ (ap (λ (j : Running). j.applied) (some_same e) ∙ b))) h;
}
cross_within G w v n k _ _ _ view a g h = assumption h

cross_step : (G : Ground) (w v : Picture) (n : ℕ) (k : ClusterKey) (x : Seen) (s : Stay) → Step G w v n k x s → Known G w → Grows G.by w v → Cross G v n k s
cross_step G w v n k _ _ (enter ok e) a g = record {
  arrived = λ r d ex. differ ex refl;
  acked = λ r t y u z. no_some z;
  done = λ r t z dn. differ dn refl;
  handed = λ p z. differ z refl;
  settled = λ p z. differ z refl;
  own_settled = λ p z. differ z refl;
  told = λ m p z. differ z refl;
  rows = λ m. changed_either numbers (λ (b : Bool). b ≡ true → (v.stay m k).entered ≡ true) (λ _. false) n true m
      (λ i _. subst (λ (z : ℕ). (v.stay z k).entered ≡ true) i (subst (λ (f : Picture). (f.stay n k).entered ≡ true) (sym e) in_now)) (λ _ z. differ z refl);
  all_in = λ ex. differ ex refl;
}
  where
    in_now : ((Rattle.cluster_laws.specs.Changes.enters G n k w).stay n k).entered ≡ true
    in_now = ap (λ (s : Stay). s.entered)
        (ap (λ (f : ClusterKey → Stay). f k) (changed_here numbers w.stay n (at_key (w.stay n) k (stay_at_entry n (w.node n).content))) ∙ changed_here keys (w.stay n) k (stay_at_entry n (w.node n).content))
cross_step G w v n k _ _ (within x s view c) a g = cross_within G w v n k x s c view a g (cross_grows G w v g n k (w.stay n k) (a.cross n k))
cross_step G w v n k _ _ _ a g = cross_grows G w v g n k (w.stay n k) (a.cross n k)

pub cross_kept : (G : Ground) (w : Picture) (e : Effect) → Allowed G w e → Grows G.by w (act G e w) → Known G w → AllCross G (act G e w)
cross_kept G w e ok g a n k = cross_step G w (act G e w) n k _ _ (steps G w e ok n k) a g

pub cross_start : (G : Ground) → AllCross G start
cross_start G n k = record {
  arrived = λ r d ex. differ ex refl;
  acked = λ r t y u z. no_some z;
  done = λ r t z dn. differ dn refl;
  handed = λ p z. differ z refl;
  settled = λ p z. differ z refl;
  own_settled = λ p z. differ z refl;
  told = λ m p z. differ z refl;
  rows = λ m z. differ z refl;
  all_in = λ ex. differ ex refl;
}

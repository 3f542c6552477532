-- Transactions and writes: what holds of a stay by the node's own lines.
use Rattle.std.proofs.Common.{◌≡◌, ℕ, ◌+◌, ◌≤◌, Bool, true, List, Option, Some, None, option_map, refl, sym, ap, ◌∙◌, subst, arith, ◌⊎◌, inl, inr, ⊎_elim}
use Rattle.conflict_order.specs.declared.version.Version.{Version}
use Rattle.conflict_order.specs.Contents.{Write}
use Rattle.cluster_types.specs.declared.cluster_key.ClusterKey.{ClusterKey}
use Rattle.cluster_types.specs.Partitions.{partition_of}
use Rattle.cluster_laws.specs.Changed.{at_number}
use Rattle.cluster_laws.specs.Ground.{Ground, other_view_replicas}
use Rattle.cluster_laws.specs.Stay.{Versions, Running, Applied, Stay}
use Rattle.cluster_laws.specs.Picture.{Seen, Picture, start}
use Rattle.cluster_laws.specs.Effect.{Effect}
use Rattle.cluster_laws.specs.Changes.{act, running_with_write, with_version, stay_after_write, beginning, running_at_opening, stay_without_transaction, finishing, giving_up, running_as, running_acknowledged, running_with_answer}
use Rattle.cluster_laws.proofs.At.{numbers, changed_either, changed_here, changed_other, number_cases, differ, some_same, no_some}
use Rattle.cluster_laws.proofs.Allowed.{Allowed}
use Rattle.cluster_laws.proofs.Step.{Within, exchange, begin, answer, apply, finish, give_up, write_acked, answered, Step, enter, within, steps}

-- the write of an open transaction
pub record WriteOf (writes : ℕ → Option Applied) (t : ℕ) (d : List ℕ) (u : Write) : Type 0 where
  pub early : Bool
  pub here : writes t ≡ Some (record { digest = d; version = u.version; nth = u.nth; early = early })

-- why a write stands: it is done, the node is about to leave, or its transaction is open
pub record OpenOn (table : ℕ → Option Running) (t : ℕ) (d : List ℕ) : Type 0 where
  pub transaction : Running
  pub running : table t ≡ Some transaction
  pub digest : transaction.digest ≡ d

pub record Txns (s : Stay) : Type 0 where
  pub running : (t : ℕ) (y : Running) → s.running t ≡ Some y → (s.exchanged ≡ true) × (t ≤ s.opened) × (s.begun t ≡ Some y.digest)
  pub begun : (t : ℕ) (d : List ℕ) → s.begun t ≡ Some d → t ≤ s.opened
  pub wrote : (t : ℕ) (e : Applied) → s.writes t ≡ Some e → (s.exchanged ≡ true) × (t ≤ s.opened) × (s.begun t ≡ Some e.digest)
  pub applied : (t : ℕ) (y : Running) (u : Write) → s.running t ≡ Some y → y.applied ≡ Some u → WriteOf s.writes t y.digest u
  pub unapplied : (t : ℕ) (y : Running) → s.running t ≡ Some y → y.applied ≡ None → s.writes t ≡ None
  pub stands : (t : ℕ) (e : Applied) → s.writes t ≡ Some e → (s.done t ≡ true) ⊎ ((s.closing ≡ true) ⊎ OpenOn s.running t e.digest)
  pub done : (t : ℕ) → s.done t ≡ true → (e : Applied) × (s.writes t ≡ Some e)
  pub nth : (t : ℕ) (e : Applied) → s.writes t ≡ Some e → (1 ≤ e.nth) × (e.nth ≤ s.applies (partition_of e.digest))
  -- two writes of a partition have two numbers
  pub once : (t u : ℕ) (e f : Applied) → s.writes t ≡ Some e → s.writes u ≡ Some f → partition_of e.digest ≡ partition_of f.digest → e.nth ≡ f.nth → t ≡ u
  pub busy : (t u : ℕ) (y z : Running) → s.running t ≡ Some y → s.running u ≡ Some z → y.digest ≡ z.digest → t ≡ u

-- a transaction opens
txns_begin : (s : Stay) (t : ℕ) (d : List ℕ) (y : Running) → y.digest ≡ d → y.applied ≡ None → s.exchanged ≡ true → t ≡ s.opened + 1
    → ((u : ℕ) (z : Running) → s.running u ≡ Some z → z.digest ≡ d → ⊥) → Txns s
    → Txns (record s { opened = s.opened + 1; begun = at_number s.begun t (Some d); running = at_number s.running t (Some y) })
txns_begin s t d y yd none ex new free h = record {
  running = λ u z. changed_either numbers (λ o. o ≡ Some z → (s.exchanged ≡ true) × (u ≤ s.opened + 1) × (at_number s.begun t (Some d) u ≡ Some z.digest)) s.running t (Some y) u
      (λ i e. (ex, omega (arith, i, new), subst (λ (j : ℕ). at_number s.begun t (Some d) j ≡ Some z.digest) i (changed_here numbers s.begun t (Some d) ∙ ap Some (sym yd ∙ ap (λ (r : Running). r.digest) (some_same e)))))
      (λ i e. (ex, omega (arith, (h.running u z e).1), changed_other numbers s.begun t (Some d) u i ∙ (h.running u z e).2));
  begun = λ u c. changed_either numbers (λ o. o ≡ Some c → u ≤ s.opened + 1) s.begun t (Some d) u (λ i _. omega (arith, i, new)) (λ _ e. omega (arith, h.begun u c e));
  wrote = λ u e a. (ex, omega (arith, (h.wrote u e a).1), changed_other numbers s.begun t (Some d) u (late u e a) ∙ (h.wrote u e a).2);
  applied = λ u z x. changed_either numbers (λ o. o ≡ Some z → z.applied ≡ Some x → WriteOf s.writes u z.digest x) s.running t (Some y) u (λ _ e a. no_some (sym none ∙ (ap (λ (r : Running). r.applied) (some_same e) ∙ a))) (λ _. h.applied u z x);
  unapplied = λ u z. changed_either numbers (λ o. o ≡ Some z → z.applied ≡ None → s.writes u ≡ None) s.running t (Some y) u
      (λ i _ _. subst (λ (j : ℕ). s.writes j ≡ None) i (unwritten (s.writes t) refl)) (λ _. h.unapplied u z);
  stands = λ u e a. ⊎_elim inl (λ c. inr (⊎_elim inl (λ o. inr (record { transaction = o.transaction; running = changed_other numbers s.running t (Some y) u (late u e a) ∙ o.running; digest = o.digest })) c)) (h.stands u e a);
  done = h.done;
  nth = h.nth;
  once = h.once;
  busy = λ u x z r. changed_either numbers (λ o. o ≡ Some z → at_number s.running t (Some y) x ≡ Some r → z.digest ≡ r.digest → u ≡ x) s.running t (Some y) u
      (λ i e. changed_either numbers (λ o. o ≡ Some r → z.digest ≡ r.digest → u ≡ x) s.running t (Some y) x (λ j _ _. sym i ∙ j)
      (λ _ q c. absurd (free x r q (sym c ∙ (sym (ap (λ (k : Running). k.digest) (some_same e)) ∙ yd)))))
      (λ i e. changed_either numbers (λ o. o ≡ Some r → z.digest ≡ r.digest → u ≡ x) s.running t (Some y) x
      (λ _ q c. absurd (free u z e (c ∙ (sym (ap (λ (k : Running). k.digest) (some_same q)) ∙ yd)))) (λ _ q. h.busy u x z r e q));
}
  where
    late : (u : ℕ) (e : Applied) → s.writes u ≡ Some e → t ≡ u → ⊥
    late u e a i = omega (arith, i, new, (h.wrote u e a).1)

    unwritten : (o : Option Applied) → s.writes t ≡ o → o ≡ None
    unwritten None e = refl
    unwritten (Some e) a = absurd (late t e a refl)

-- a transaction goes, and its write, if it has one, is done or the node is about to leave
txns_gone : (s : Stay) (t : ℕ) (closes : Bool) (done : ℕ → Bool) → ((u : ℕ) → s.done u ≡ true → done u ≡ true) → ((u : ℕ) → done u ≡ true → (e : Applied) × (s.writes u ≡ Some e))
    → (s.closing ≡ true → closes ≡ true) → ((e : Applied) → s.writes t ≡ Some e → (done t ≡ true) ⊎ (closes ≡ true)) → Txns s
    → Txns (record s { running = at_number s.running t None; done = done; closing = closes })
txns_gone s t closes done more has closer this h = record {
  running = λ u z e. h.running u z (was u z e);
  begun = h.begun;
  wrote = h.wrote;
  applied = λ u z x e a. let o = h.applied u z x (was u z e) a in record { early = o.early; here = o.here };
  unapplied = λ u z e. h.unapplied u z (was u z e);
  stands = λ u e a. kept u e a (number_cases t u) (h.stands u e a);
  done = has;
  nth = h.nth;
  once = h.once;
  busy = λ u x z r e q. h.busy u x z r (was u z e) (was x r q);
}
  where
    was : (u : ℕ) (z : Running) → at_number s.running t None u ≡ Some z → s.running u ≡ Some z
    was u z = changed_either numbers (λ o. o ≡ Some z → s.running u ≡ Some z) s.running t None u (λ _ e. no_some e) (λ _ e. e)

    kept : (u : ℕ) (e : Applied) → s.writes u ≡ Some e → (t ≡ u) ⊎ (t ≡ u → ⊥) → (s.done u ≡ true) ⊎ ((s.closing ≡ true) ⊎ OpenOn s.running u e.digest)
        → (done u ≡ true) ⊎ ((closes ≡ true) ⊎ OpenOn (at_number s.running t None) u e.digest)
    kept u e a i (inl d) = inl (more u d)
    kept u e a i (inr (inl c)) = inr (inl (closer c))
    kept u e a (inl i) (inr (inr o)) = ⊎_elim (λ z. inl (subst (λ (j : ℕ). done j ≡ true) i z)) (λ z. inr (inl z)) (this e (subst (λ (j : ℕ). s.writes j ≡ Some e) (sym i) a))
    kept u e a (inr i) (inr (inr o)) = inr (inr (record { transaction = o.transaction; running = changed_other numbers s.running t None u i ∙ o.running; digest = o.digest }))

-- an open transaction awaits less or knows more
txns_change : (s : Stay) (t : ℕ) (y z : Running) → s.running t ≡ Some y → z.digest ≡ y.digest → z.applied ≡ y.applied → Txns s → Txns (record s { running = at_number s.running t (Some z) })
txns_change s t y z is di ai h = record {
  running = λ u c e. let o = was u c e in ((h.running u o.0 o.1).0, (h.running u o.0 o.1).1, (h.running u o.0 o.1).2 ∙ ap Some o.2);
  begun = h.begun;
  wrote = h.wrote;
  applied = λ u c x e a. let o = was u c e in let q = h.applied u o.0 x o.1 (o.3 ∙ a) in record { early = q.early; here = q.here ∙ ap (λ (g : List ℕ). Some (record { digest = g; version = x.version; nth = x.nth; early = q.early })) o.2 };
  unapplied = λ u c e a. let o = was u c e in h.unapplied u o.0 o.1 (o.3 ∙ a);
  stands = λ u e a. ⊎_elim inl (λ c. inr (⊎_elim inl (λ o. inr (there u e o (number_cases t u))) c)) (h.stands u e a);
  done = h.done;
  nth = h.nth;
  once = h.once;
  busy = λ u x c r e q d. let o = was u c e in let l = was x r q in h.busy u x o.0 l.0 o.1 l.1 (o.2 ∙ (d ∙ sym l.2));
}
  where
    was : (u : ℕ) (c : Running) → at_number s.running t (Some z) u ≡ Some c → (o : Running) × (s.running u ≡ Some o) × (o.digest ≡ c.digest) × (o.applied ≡ c.applied)
    was u c = changed_either numbers (λ o. o ≡ Some c → (o : Running) × (s.running u ≡ Some o) × (o.digest ≡ c.digest) × (o.applied ≡ c.applied)) s.running t (Some z) u
        (λ i e. (y, subst (λ (j : ℕ). s.running j ≡ Some y) i is, sym di ∙ ap (λ (r : Running). r.digest) (some_same e), sym ai ∙ ap (λ (r : Running). r.applied) (some_same e)))
        (λ _ e. (c, e, refl, refl))

    there : (u : ℕ) (e : Applied) → OpenOn s.running u e.digest → (t ≡ u) ⊎ (t ≡ u → ⊥) → OpenOn (at_number s.running t (Some z)) u e.digest
    there u e o (inl i) = record {
      transaction = z;
      running = subst (λ (j : ℕ). at_number s.running t (Some z) j ≡ Some z) i (changed_here numbers s.running t (Some z));
      digest = di ∙ (ap (λ (r : Running). r.digest) (some_same (sym is ∙ subst (λ (j : ℕ). s.running j ≡ Some o.transaction) (sym i) o.running)) ∙ o.digest);
    }
    there u e o (inr i) = record { transaction = o.transaction; running = changed_other numbers s.running t (Some z) u i ∙ o.running; digest = o.digest }

-- a write is applied
txns_apply : (G : Ground) (n : ℕ) (k : ClusterKey) (s : Stay) (t : ℕ) (y : Running) (v : Version) (early : Bool) → s.running t ≡ Some y → y.applied ≡ None → Txns s → Txns (stay_after_write G n k t y.digest v early s)
txns_apply G n k s t y v early is none h = subst (λ (o : Option Running). Txns (record (stay_after_write G n k t y.digest v early s) { running = at_number s.running t (option_map (running_with_write v nth awaiting) o) })) (sym is) (record {
  running = λ u c e. let o = was u c e in ((h.running u o.0 o.1).0, (h.running u o.0 o.1).1, (h.running u o.0 o.1).2 ∙ ap Some o.2);
  begun = h.begun;
  wrote = λ u e. changed_either numbers (λ o. o ≡ Some e → (s.exchanged ≡ true) × (u ≤ s.opened) × (s.begun u ≡ Some e.digest)) s.writes t (Some this) u
      (λ i q. ((h.running t y is).0, omega (arith, i, (h.running t y is).1), subst (λ (j : ℕ). s.begun j ≡ Some e.digest) i ((h.running t y is).2 ∙ ap (λ (a : Applied). Some a.digest) (some_same q)))) (λ _. h.wrote u e);
  applied = λ u c x. changed_either numbers (λ o. o ≡ Some c → c.applied ≡ Some x → WriteOf new.writes u c.digest x) s.running t (Some z) u
      (λ i e a. record {
        early = early;
        here = subst (λ (j : ℕ). at_number s.writes t (Some this) j ≡ Some (record { digest = c.digest; version = x.version; nth = x.nth; early = early })) i
            (changed_here numbers s.writes t (Some this) ∙ ap Some (made c x e a));
      })
      (λ i e a. let o = h.applied u c x e a in record { early = o.early; here = changed_other numbers s.writes t (Some this) u i ∙ o.here });
  unapplied = λ u c. changed_either numbers (λ o. o ≡ Some c → c.applied ≡ None → at_number s.writes t (Some this) u ≡ None) s.running t (Some z) u
      (λ _ e a. no_some (sym a ∙ sym (ap (λ (r : Running). r.applied) (some_same e)))) (λ i e a. changed_other numbers s.writes t (Some this) u i ∙ h.unapplied u c e a);
  stands = λ u e. changed_either numbers (λ o. o ≡ Some e → (s.done u ≡ true) ⊎ ((s.closing ≡ true) ⊎ OpenOn new.running u e.digest)) s.writes t (Some this) u
      (λ i q. inr (inr (record { transaction = z; running = subst (λ (j : ℕ). at_number s.running t (Some z) j ≡ Some z) i (changed_here numbers s.running t (Some z)); digest = ap (λ (a : Applied). a.digest) (some_same q) })))
      (λ i q. ⊎_elim inl (λ c. inr (⊎_elim inl (λ o. inr (record { transaction = o.transaction; running = changed_other numbers s.running t (Some z) u i ∙ o.running; digest = o.digest })) c)) (h.stands u e q));
  done = λ u d. let o = h.done u d in changed_either numbers (λ o. (e : Applied) × (o ≡ Some e)) s.writes t (Some this) u (λ _. (this, refl)) (λ _. o);
  nth = λ u e. changed_either numbers (λ o. o ≡ Some e → (1 ≤ e.nth) × (e.nth ≤ at_number s.applies (partition_of y.digest) nth (partition_of e.digest))) s.writes t (Some this) u
      (λ _ q. subst (λ (a : Applied). (1 ≤ a.nth) × (a.nth ≤ at_number s.applies (partition_of y.digest) nth (partition_of a.digest))) (some_same q)
      (omega arith, omega (arith, changed_here numbers s.applies (partition_of y.digest) nth)))
      (λ _ q. ((h.nth u e q).0, changed_either numbers (λ m. e.nth ≤ m) s.applies (partition_of y.digest) nth (partition_of e.digest) (λ i. omega (arith, (h.nth u e q).1, ap s.applies i)) (λ _. (h.nth u e q).1)));
  once = λ i j e f. changed_either numbers (λ o. o ≡ Some e → at_number s.writes t (Some this) j ≡ Some f → partition_of e.digest ≡ partition_of f.digest → e.nth ≡ f.nth → i ≡ j) s.writes t (Some this) i
      (λ a q. changed_either numbers (λ o. o ≡ Some f → partition_of e.digest ≡ partition_of f.digest → e.nth ≡ f.nth → i ≡ j) s.writes t (Some this) j (λ b _ _ _. sym a ∙ b)
      (λ _ z c m. absurd (late f j z (ap (λ (x : Applied). partition_of x.digest) (some_same q) ∙ c) (ap (λ (x : Applied). x.nth) (some_same q) ∙ m))))
      (λ _ q. changed_either numbers (λ o. o ≡ Some f → partition_of e.digest ≡ partition_of f.digest → e.nth ≡ f.nth → i ≡ j) s.writes t (Some this) j
      (λ _ z c m. absurd (late e i q (ap (λ (x : Applied). partition_of x.digest) (some_same z) ∙ sym c) (ap (λ (x : Applied). x.nth) (some_same z) ∙ sym m))) (λ _ z c m. h.once i j e f q z c m));
  busy = λ u x c r e q d. let o = was u c e in let l = was x r q in h.busy u x o.0 l.0 o.1 l.1 (o.2 ∙ (d ∙ sym l.2));
})
  where
    nth : ℕ
    nth = s.applies (partition_of y.digest) + 1

    awaiting : List ℕ
    awaiting = other_view_replicas G k (partition_of y.digest) n

    z : Running
    z = running_with_write v nth awaiting y

    this : Applied
    this = record { digest = y.digest; version = v; nth = nth; early = early }

    new : Stay
    new = record (stay_after_write G n k t y.digest v early s) {
      running = at_number s.running t (Some z);
    }

    was : (u : ℕ) (c : Running) → at_number s.running t (Some z) u ≡ Some c → (o : Running) × (s.running u ≡ Some o) × (o.digest ≡ c.digest)
    was u c = changed_either numbers (λ o. o ≡ Some c → (o : Running) × (s.running u ≡ Some o) × (o.digest ≡ c.digest)) s.running t (Some z) u
        (λ i e. (y, subst (λ (j : ℕ). s.running j ≡ Some y) i is, ap (λ (r : Running). r.digest) (some_same e)))
        (λ _ e. (c, e, refl))

    late : (f : Applied) (j : ℕ) → s.writes j ≡ Some f → partition_of y.digest ≡ partition_of f.digest → nth ≡ f.nth → ⊥
    late f j z c m = omega (arith, (h.nth j f z).1, ap s.applies c, m)

    made : (c : Running) (x : Write) → Some z ≡ Some c → c.applied ≡ Some x → this ≡ record { digest = c.digest; version = x.version; nth = x.nth; early = early }
    made c x e a = let w : Some (record { version = v; nth = nth }) ≡ Some x = ap (λ (r : Running). r.applied) (some_same e) ∙ a in
        ap (λ (r : Write). record { digest = y.digest; version = r.version; nth = r.nth; early = early }) (some_same w) ∙ ap (λ (g : List ℕ). record { digest = g; version = x.version; nth = x.nth; early = early }) (ap (λ (r : Running). r.digest) (some_same e))

-- the exchange is finished
txns_exchange : (s : Stay) (pending : ℕ → List ℕ → Bool) → Txns s → Txns (record s { exchanged = true; pending = pending })
txns_exchange s pending h = record {
  running = λ t y e. (refl, (h.running t y e).1, (h.running t y e).2);
  begun = h.begun;
  wrote = λ t e a. (refl, (h.wrote t e a).1, (h.wrote t e a).2);
  applied = h.applied;
  unapplied = h.unapplied;
  stands = h.stands;
  done = h.done;
  nth = h.nth;
  once = h.once;
  busy = h.busy;
}

txns_within : (G : Ground) (w v : Picture) (n : ℕ) (k : ClusterKey) (x : Seen) (s : Stay) → Within G w v n k x s → Txns (w.stay n k) → Txns s
txns_within G w v n k _ _ (exchange ok) h = txns_exchange (w.stay n k) _ h
txns_within G w v n k _ _ (begin t d ok opens_it) h = txns_begin (w.stay n k) t d _ refl refl ok.exchanged ok.number ok.free h
txns_within G w v n k _ _ (answer t d o ok) h = txns_gone (w.stay n k) t (w.stay n k).closing (w.stay n k).done (λ u e. e) h.done (λ e. e)
    (λ e a. no_some (sym (h.unapplied t ok.transaction ok.resolved.running ok.resolved.unapplied) ∙ a)) h
txns_within G w v n k _ _ (apply t d u early ok e a) h = subst (λ (g : List ℕ). Txns (stay_after_write G n k t g u early (w.stay n k))) ok.resolved.digest
    (txns_apply G n k (w.stay n k) t ok.transaction u early ok.resolved.running ok.resolved.unapplied h)
txns_within G w v n k _ _ (finish t ok) h = let o : WriteOf (w.stay n k).writes t ok.transaction.digest ok.write = h.applied t ok.transaction ok.write ok.running ok.applied in
    txns_gone (w.stay n k) t (w.stay n k).closing (at_number (w.stay n k).done t true)
    (λ u e. changed_either numbers (λ (b : Bool). b ≡ true) (w.stay n k).done t true u (λ _. refl) (λ _. e))
    (λ u. changed_either numbers (λ (b : Bool). b ≡ true → (e : Applied) × ((w.stay n k).writes u ≡ Some e)) (w.stay n k).done t true u (λ i _. subst (λ (j : ℕ). (e : Applied) × ((w.stay n k).writes j ≡ Some e)) i (record { digest = ok.transaction.digest; version = ok.write.version; nth = ok.write.nth; early = o.early }, o.here)) (λ _. h.done u))
    (λ e. e) (λ e a. inl (changed_here numbers (w.stay n k).done t true)) h
txns_within G w v n k _ _ (give_up t ok) h = txns_gone (w.stay n k) t true (w.stay n k).done (λ u e. e) h.done (λ _. refl) (λ e a. inr refl) h
txns_within G w v n k _ _ (write_acked r t y ok) h = txns_change (w.stay n k) t y _ ok.running refl refl h
txns_within G w v n k _ _ (answered r t o y ok) h = txns_change (w.stay n k) t y _ ok.running refl refl h
txns_within G w v n k _ _ _ h = assumption h

txns_blank : (n : ℕ) (content : Versions) → Txns (Rattle.cluster_laws.specs.Changes.stay_at_entry n content)
txns_blank n content = record {
  running = λ t y e. no_some e;
  begun = λ t d e. no_some e;
  wrote = λ t e a. no_some a;
  applied = λ t y u e a. no_some e;
  unapplied = λ t y e a. no_some e;
  stands = λ t e a. no_some a;
  done = λ t e. differ e refl;
  nth = λ t e a. no_some a;
  once = λ t u e f a. no_some a;
  busy = λ t u y z e q d. no_some e;
}

txns_step : (G : Ground) (w v : Picture) (n : ℕ) (k : ClusterKey) (x : Seen) (s : Stay) → Step G w v n k x s → Txns (w.stay n k) → Txns s
txns_step G w v n k _ _ (enter ok e) h = txns_blank n (w.node n).content
txns_step G w v n k _ _ (within x s view c) h = txns_within G w v n k x s c h
txns_step G w v n k _ _ _ h = h

abbrev pub AllTxns : Picture → Type 0
AllTxns w = (n : ℕ) (k : ClusterKey) → Txns (w.stay n k)

pub txns_kept : (G : Ground) (w : Picture) (e : Effect) → Allowed G w e → AllTxns w → AllTxns (act G e w)
txns_kept G w e ok h n k = txns_step G w (act G e w) n k _ _ (steps G w e ok n k) (h n k)

pub txns_start : AllTxns start
txns_start n k = assumption (txns_blank 0 (λ _. None))

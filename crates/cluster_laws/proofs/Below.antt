-- Nothing that is held in a view is above its fold, and all of it was applied.
use Rattle.std.proofs.Common.{◌≡◌, ℕ, ◌+◌, List, Option, Some, None, option_map, refl, sym, ◌∙◌, subst, inl, inr, ⊎_elim}
use Rattle.conflict_order.specs.declared.version.Version.{Version}
use Rattle.conflict_order.specs.Join.{AtMost}
use Rattle.conflict_order.proofs.OrderLaws.{AtMost_trans, AtMost_none}
use Rattle.conflict_order.proofs.JoinLaws.{join_right, join_least}
use Rattle.cluster_types.specs.declared.cluster_key.ClusterKey.{ClusterKey}
use Rattle.cluster_types.specs.Partitions.{partition_of}
use Rattle.wire_messages.specs.declared.message.Message.TheVariants as message
use Rattle.cluster_laws.specs.Changed.{at_number, at_key}
use Rattle.cluster_laws.specs.Ground.{Ground, other_view_replicas}
use Rattle.cluster_laws.specs.Stay.{Versions, Running, Stay}
use Rattle.cluster_laws.specs.Picture.{Seen, Picture, start}
use Rattle.cluster_laws.specs.Effect.{Effect}
use Rattle.cluster_laws.specs.Changes.{act, with_version, with_all, running_with_write, running_with_answer, running_acknowledged}
use Rattle.cluster_laws.specs.Licences.{IsAmong, IsBatchToSend, MayMerge}
use Rattle.cluster_laws.proofs.At.{numbers, keys, changed_either, changed_here, pair_either, some_same, no_some}
use Rattle.cluster_laws.proofs.Allowed.{Allowed}
use Rattle.cluster_laws.proofs.Step.{Within, begin, answer, apply, finish, give_up, merge, batch, write_acked, answered, Step, enter, within, steps}
use Rattle.cluster_laws.proofs.Grows.{Grows, version_grows, version_there, version_below}
use Rattle.cluster_laws.proofs.Predicates.{Below, Replied, Wrote}
use Rattle.cluster_laws.proofs.Said.{Known}

abbrev pub AllBelow : Ground → Picture → Type 0
AllBelow G w = (n : ℕ) (k : ClusterKey) → Below G w k (w.stay n k)

-- what a node holds was applied
abbrev pub AllApplied : Ground → Picture → Type 0
AllApplied G w = (n : ℕ) (d : List ℕ) → AtMost G.by ((w.node n).content d) (w.applied d)

below_grows : (G : Ground) (w v : Picture) → Grows G.by w v → (k : ClusterKey) (s : Stay) → Below G w k s → Below G v k s
below_grows G w v g k s h = record {
  held = λ d. AtMost_trans (h.held d) (g.fold k d);
  applied = λ d. AtMost_trans (h.applied d) (g.applied d);
  batch = h.batch;
  best = λ t y e. AtMost_trans (h.best t y e) (g.fold k y.digest);
}

-- a version that may be merged was held by its sender
pub merged_held : (G : Ground) (w : Picture) (n : ℕ) (k : ClusterKey) (d : List ℕ) (u : Version) → Known G w → (ok : MayMerge G w n k d u) → AtMost G.by (Some u) ((w.stay ok.from k).held d)
merged_held G w n k d u h ok = ⊎_elim
    (λ z. let s : (w.stay ok.from z.0.key).batch n z.0.number ≡ Some z.0.records = h.says ok.from n (message.Batch z.0) z.1 in
    (h.below ok.from k).batch n z.0.number z.0.records (subst (λ (j : ClusterKey). (w.stay ok.from j).batch n z.0.number ≡ Some z.0.records) z.2 s) d u z.3)
    (λ z. let s : Wrote G w ok.from n k z.number z.nth d u = h.says ok.from n (message.Repl k z.number z.nth d u) z.came in (h.held ok.from k).write z.number _ s.write) ok.brought

-- the running transactions change at one number
best_change : (G : Ground) (v : Picture) (k : ClusterKey) (s : Stay) (t : ℕ) (o : Option Running) → ((y : Running) → o ≡ Some y → AtMost G.by y.best (v.fold k y.digest)) → Below G v k s
    → (u : ℕ) (y : Running) → at_number s.running t o u ≡ Some y → AtMost G.by y.best (v.fold k y.digest)
best_change G v k s t o new h u y = changed_either numbers (λ z. z ≡ Some y → AtMost G.by y.best (v.fold k y.digest)) s.running t o u (λ _ e. new y e) (λ _ e. h.best u y e)

below_within : (G : Ground) (w v : Picture) (n : ℕ) (k : ClusterKey) (x : Seen) (s : Stay) → Within G w v n k x s → (w.node n).view ≡ Some k → Known G w → Grows G.by w v → Below G v k (w.stay n k) → Below G v k s
below_within G w v n k _ _ (begin t d ok opens_it) view a g h = record {
  held = h.held;
  applied = h.applied;
  batch = h.batch;
  best = best_change G v k (w.stay n k) t _ (λ y e. subst (λ (z : Running). AtMost G.by z.best (v.fold k z.digest)) (some_same e) (AtMost_trans ((a.inside n k view).held d) (h.held d))) h;
}
below_within G w v n k _ _ (answer t d o ok) view a g h = record { held = h.held; applied = h.applied; batch = h.batch; best = best_change G v k (w.stay n k) t None (λ y e. no_some e) h }
below_within G w v n k _ _ (finish t ok) view a g h = record { held = h.held; applied = h.applied; batch = h.batch; best = best_change G v k (w.stay n k) t None (λ y e. no_some e) h }
below_within G w v n k _ _ (give_up t ok) view a g h = record { held = h.held; applied = h.applied; batch = h.batch; best = best_change G v k (w.stay n k) t None (λ y e. no_some e) h }
below_within G w v n k _ _ (apply t d u early ok e z) view a g h = record {
  held = λ c. version_below G.by (w.stay n k).held d u c (v.fold k c) (h.held c) (λ i. subst (λ (f : Picture). AtMost G.by (Some u) (f.fold k c)) (sym e)
      (subst (λ (b : List ℕ). AtMost G.by (Some u) (at_key w.fold k (with_version G.by (w.fold k) d u) k b)) i
      (subst (λ (f : Versions). AtMost G.by (Some u) (f d)) (sym (changed_here keys w.fold k (with_version G.by (w.fold k) d u))) (version_there G.by (w.fold k) d u))));
  applied = λ c. version_below G.by (w.stay n k).held d u c (v.applied c) (h.applied c) (λ i. subst (λ (f : Picture). AtMost G.by (Some u) (f.applied c)) (sym e)
      (subst (λ (b : List ℕ). AtMost G.by (Some u) (with_version G.by w.applied d u b)) i (version_there G.by w.applied d u)));
  batch = λ r i es b c x q. AtMost_trans (h.batch r i es b c x q) (version_grows G.by (w.stay n k).held d u c);
  best = best_change G v k (w.stay n k) t _ (λ y q. wrote y ((w.stay n k).running t) refl q) h;
}
  where
    wrote : (y : Running) (o : Option Running) → (w.stay n k).running t ≡ o → option_map (running_with_write u ((w.stay n k).applies (partition_of d) + 1) (other_view_replicas G k (partition_of d) n)) o ≡ Some y → AtMost G.by y.best (v.fold k y.digest)
    wrote y None i q = no_some q
    wrote y (Some z) i q = subst (λ (r : Running). AtMost G.by r.best (v.fold k r.digest)) (some_same q) (h.best t z i)
below_within G w v n k _ _ (merge d u ok is) view a g h = record {
  held = λ c. version_below G.by (w.stay n k).held d u c (v.fold k c) (h.held c) (λ i. subst (λ (b : List ℕ). AtMost G.by (Some u) (v.fold k b)) i
      (AtMost_trans (merged_held G w n k d u a ok) (AtMost_trans ((a.below ok.from k).held d) (g.fold k d))));
  applied = λ c. version_below G.by (w.stay n k).held d u c (v.applied c) (h.applied c) (λ i. subst (λ (b : List ℕ). AtMost G.by (Some u) (v.applied b)) i
      (AtMost_trans (merged_held G w n k d u a ok) (AtMost_trans ((a.below ok.from k).applied d) (g.applied d))));
  batch = λ r i es b c x q. AtMost_trans (h.batch r i es b c x q) (version_grows G.by (w.stay n k).held d u c);
  best = h.best;
}
below_within G w v n k _ _ (batch r b ok i) view a g h = record {
  held = h.held;
  applied = h.applied;
  best = h.best;
  batch = λ q l es. pair_either (λ o. o ≡ Some es → (c : List ℕ) (x : Version) → IsAmong es c x → AtMost G.by (Some x) ((w.stay n k).held c)) (w.stay n k).batch r b.number (Some b.records) q l
      (λ _ _ e c x m. new (subst (λ (z : ClusterKey). IsBatchToSend (w.node n).content (w.stay n z) r b) i ok.batch) c x (subst (λ (z : List (List ℕ × Version)). IsAmong z c x) (sym (some_same e)) m)) (λ e. h.batch q l es e);
}
  where
    new : IsBatchToSend (w.node n).content (w.stay n k) r b → (c : List ℕ) (x : Version) → IsAmong b.records c x → AtMost G.by (Some x) ((w.stay n k).held c)
    new (inl o) c x m = h.batch r b.number b.records ((a.own n k).out r b o).0 c x m
    new (inr o) c x m = subst (λ (z : Option Version). AtMost G.by z ((w.stay n k).held c)) (o.2.held c x m) ((a.inside n k view).held c)
below_within G w v n k _ _ (write_acked r t y ok) view a g h = record { held = h.held; applied = h.applied; batch = h.batch; best = best_change G v k (w.stay n k) t (Some (running_acknowledged r y)) (λ z e. subst (λ (q : Running). AtMost G.by q.best (v.fold k q.digest)) (some_same e) (h.best t y ok.running)) h }
below_within G w v n k _ _ (answered r t o y ok) view a g h = record { held = h.held; applied = h.applied; batch = h.batch; best = best_change G v k (w.stay n k) t (Some (running_with_answer G.by r o y)) (λ z e. subst (λ (q : Running). AtMost G.by q.best (v.fold k q.digest)) (some_same e) (join_least (h.best t y ok.running) came)) h }
  where
    said : Replied G w r n k t o
    said = a.says r n (message.Answer k t o) ok.came.sent

    came : AtMost G.by o (v.fold k y.digest)
    came = subst (λ (c : List ℕ). AtMost G.by o (v.fold k c)) (some_same (sym said.begun ∙ ((a.txns n k).running t y ok.running).2)) (AtMost_trans said.fold (g.fold k said.digest))
below_within G w v n k _ _ _ view a g h = assumption h

below_step : (G : Ground) (w v : Picture) (n : ℕ) (k : ClusterKey) (x : Seen) (s : Stay) → Step G w v n k x s → Known G w → AllApplied G w → Grows G.by w v → Below G v k s
below_step G w v n k _ _ (enter ok e) a p g = record {
  held = λ d. subst (λ (f : Picture). AtMost G.by ((w.node n).content d) (f.fold k d)) (sym e)
      (subst (λ (f : Versions). AtMost G.by ((w.node n).content d) (f d)) (sym (changed_here keys w.fold k (with_all G.by (w.fold k) (w.node n).content))) (join_right (w.fold k d) ((w.node n).content d)));
  applied = λ d. AtMost_trans (p n d) (g.applied d);
  batch = λ r i es z. no_some z;
  best = λ t y z. no_some z;
}
below_step G w v n k _ _ (within x s view c) a p g = below_within G w v n k x s c view a g (below_grows G w v g k (w.stay n k) (a.below n k))
below_step G w v n k _ _ _ a p g = below_grows G w v g k (w.stay n k) (a.below n k)

pub below_kept : (G : Ground) (w : Picture) (e : Effect) → Allowed G w e → Grows G.by w (act G e w) → Known G w → AllApplied G w → AllBelow G (act G e w)
below_kept G w e ok g a p n k = below_step G w (act G e w) n k _ _ (steps G w e ok n k) a p g

pub below_start : (G : Ground) → AllBelow G start
below_start G n k = record { held = λ d. AtMost_none None; applied = λ d. AtMost_none None; batch = λ r i es z. no_some z; best = λ t y z. no_some z }

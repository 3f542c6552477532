-- What is held is at most the base with the list master's writes that were early or that came.
use Rattle.std.proofs.Common.{◌≡◌, ℕ, ◌+◌, Bool, true, false, List, Option, Some, refl, sym, ap, ◌∙◌, subst, ◌⊎◌, inl, inr, ⊎_elim}
use Rattle.conflict_order.specs.declared.version.Version.{Version}
use Rattle.conflict_order.specs.Join.{AtMost}
use Rattle.conflict_order.proofs.OrderLaws.{AtMost_trans, AtMost_none}
use Rattle.cluster_types.specs.declared.cluster_key.ClusterKey.{ClusterKey}
use Rattle.cluster_types.specs.Partitions.{partition_of}
use Rattle.cluster_types.specs.Distinct.{contains}
use Rattle.wire_messages.specs.declared.message.Batch.{Batch}
use Rattle.wire_messages.specs.declared.message.Message.TheVariants as message
use Rattle.cluster_laws.specs.Ground.{Ground, view_master, is_view_empty}
use Rattle.cluster_laws.specs.Stay.{Applied, Stay}
use Rattle.cluster_laws.specs.Picture.{Seen, Picture, start}
use Rattle.cluster_laws.specs.Effect.{Effect}
use Rattle.cluster_laws.specs.Changes.{act, with_version}
use Rattle.cluster_laws.specs.Licences.{IsAmong, IsBatchToSend, MayMerge, CameCounted}
use Rattle.cluster_laws.proofs.At.{numbers, changed_here, pair_either, number_cases, truth, differ, some_same, no_some}
use Rattle.cluster_laws.proofs.Allowed.{Allowed}
use Rattle.cluster_laws.proofs.Step.{Within, exchange, apply, merge, batch, Step, same, enter, within, steps}
use Rattle.cluster_laws.proofs.Grows.{Grows, version_below}
use Rattle.cluster_laws.proofs.GroundLaws.{sender_some}
use Rattle.cluster_laws.proofs.Predicates.{Wrote}
use Rattle.cluster_laws.proofs.Said.{Known}
use Rattle.cluster_laws.proofs.Moving.{AllSettled, AllWriters}
use Rattle.cluster_laws.proofs.Folds.{Based, AllBased, Folded}

-- the node is the list master, or the write's number came to it
abbrev pub HeardBy : Ground → ℕ → ClusterKey → Stay → ℕ → ℕ → Type 0
HeardBy G n k s p x = (n ≡ view_master G k p) ⊎ (contains (s.numbers p) x ≡ true)

-- the list master's writes of the record that the node has had are at most that
pub record HeardBelow (G : Ground) (w : Picture) (n : ℕ) (k : ClusterKey) (s : Stay) (d : List ℕ) (b : Option Version) : Type 0 where
  pub below : (t : ℕ) (e : Applied) → (w.stay (view_master G k (partition_of d)) k).writes t ≡ Some e → e.digest ≡ d → HeardBy G n k s (partition_of d) e.nth → AtMost G.by (Some e.version) b

-- its early writes are
pub record EarlyBelow (G : Ground) (w : Picture) (k : ClusterKey) (d : List ℕ) (b : Option Version) : Type 0 where
  pub below : (t : ℕ) (e : Applied) → (w.stay (view_master G k (partition_of d)) k).writes t ≡ Some e → e.digest ≡ d → e.early ≡ true → AtMost G.by (Some e.version) b

pub record Fine (G : Ground) (w : Picture) (n : ℕ) (k : ClusterKey) (s : Stay) : Type 0 where
  -- where all was empty, there are no batches, and so early writes don't come
  pub held : (d : List ℕ) (b : Option Version) → AtMost G.by (w.base k d) b → (is_view_empty G k (partition_of d) ≡ false → EarlyBelow G w k d b) → HeardBelow G w n k s d b → AtMost G.by (s.held d) b
  pub batch : (r i : ℕ) (es : List (List ℕ × Version)) → s.batch r i ≡ Some es → (d : List ℕ) (u : Version) → IsAmong es d u → (b : Option Version) → AtMost G.by (w.base k d) b → EarlyBelow G w k d b → AtMost G.by (Some u) b

early_old : (G : Ground) (w v : Picture) → Grows G.by w v → (k : ClusterKey) (d : List ℕ) (b : Option Version) → EarlyBelow G v k d b → EarlyBelow G w k d b
early_old G w v g k d b h = record { below = λ t e a. h.below t e ((g.stay (view_master G k (partition_of d)) k).writes t e a) }

heard_old : (G : Ground) (w v : Picture) → Grows G.by w v → (n : ℕ) (k : ClusterKey) (d : List ℕ) (b : Option Version) → HeardBelow G v n k (v.stay n k) d b → HeardBelow G w n k (w.stay n k) d b
heard_old G w v g n k d b h = record { below = λ t e a i q. h.below t e ((g.stay (view_master G k (partition_of d)) k).writes t e a) i (⊎_elim inl (λ z. inr ((g.stay n k).numbers (partition_of d) e.nth z)) q) }

-- what was at most a bound before the line
old_held : (G : Ground) (w v : Picture) → Grows G.by w v → (n : ℕ) (k : ClusterKey) → Fine G w n k (w.stay n k) → (d : List ℕ) (b : Option Version) → AtMost G.by (v.base k d) b → (is_view_empty G k (partition_of d) ≡ false → EarlyBelow G v k d b) → HeardBelow G v n k (v.stay n k) d b → AtMost G.by ((w.stay n k).held d) b
old_held G w v g n k h d b base early heard = h.held d b (AtMost_trans (g.base k d) base) (λ z. early_old G w v g k d b (early z)) (heard_old G w v g n k d b heard)

old_batch : (G : Ground) (w v : Picture) → Grows G.by w v → (n : ℕ) (k : ClusterKey) → Fine G w n k (w.stay n k) → (r i : ℕ) (es : List (List ℕ × Version)) → (w.stay n k).batch r i ≡ Some es → (d : List ℕ) (u : Version) → IsAmong es d u → (b : Option Version) → AtMost G.by (v.base k d) b → EarlyBelow G v k d b → AtMost G.by (Some u) b
old_batch G w v g n k h r i es e d u m b base early = h.batch r i es e d u m b (AtMost_trans (g.base k d) base) (early_old G w v g k d b early)

-- what a merge may bring
merged_fine : (G : Ground) (w v : Picture) (n : ℕ) (k : ClusterKey) (d : List ℕ) (u : Version) → Known G w → Grows G.by w v → AllBased G w → ((m : ℕ) → Fine G w m k (w.stay m k)) → (ok : MayMerge G w n k d u)
    → (b : Option Version) → AtMost G.by (v.base k d) b → (is_view_empty G k (partition_of d) ≡ false → EarlyBelow G v k d b) → HeardBelow G v n k (v.stay n k) d b → AtMost G.by (Some u) b
merged_fine G w v n k d u a g ba h ok b base early heard = ⊎_elim
    (λ z. by_batch z.0 (subst (λ (j : ClusterKey). (w.stay ok.from j).batch n z.0.number ≡ Some z.0.records) z.2 (a.says ok.from n (message.Batch z.0) z.1)) z.3) by_write ok.brought
  where
    by_batch : (c : Batch) → (w.stay ok.from k).batch n c.number ≡ Some c.records → IsAmong c.records d u → AtMost G.by (Some u) b
    by_batch c e m = old_batch G w v g ok.from k (h ok.from) n c.number c.records e d u m b base
        (early (sender_some G k (partition_of d) ok.from n ((a.entered ok.from k).member (sent_entered c e)) ((a.own ok.from k).records n c.number c.records e d u m).0))
      where
        sent_entered : (c : Batch) → (w.stay ok.from k).batch n c.number ≡ Some c.records → (w.stay ok.from k).entered ≡ true
        sent_entered c e = ⊎_elim (λ z. z) (λ z. no_some (ap (λ (s : Stay). s.batch n c.number) (sym ((a.entered ok.from k).fresh z)) ∙ e)) (truth (w.stay ok.from k).entered)

    by_write : CameCounted G w n k d u ok.from → AtMost G.by (Some u) b
    by_write c = go (a.says ok.from n (message.Repl k c.number c.nth d u) c.came) (number_cases ok.from (view_master G k (partition_of d)))
      where
        go : Wrote G w ok.from n k c.number c.nth d u → (ok.from ≡ view_master G k (partition_of d)) ⊎ (ok.from ≡ view_master G k (partition_of d) → ⊥) → AtMost G.by (Some u) b
        go o (inl i) = heard.below c.number _ ((g.stay (view_master G k (partition_of d)) k).writes c.number _ (subst (λ (m : ℕ). (w.stay m k).writes c.number ≡ Some (record { digest = d; version = u; nth = c.nth; early = o.early })) i o.write)) refl
            (inr ((g.stay n k).numbers (partition_of d) c.nth (c.counted i)))
        go o (inr i) = AtMost_trans ((ba ok.from k).write c.number _ o.write i) (AtMost_trans (g.base k d) base)

-- a batch that is sent first goes before the settling
new_batch_fine : (G : Ground) (w : Picture) (n : ℕ) (k : ClusterKey) (r : ℕ) → (w.node n).view ≡ Some k → Known G w → AllBased G w → Folded G w → AllSettled G w → AllWriters G w
    → (d : List ℕ) (u : Version) → (w.node n).content d ≡ Some u → (w.stay n k).pending r d ≡ true → (b : Option Version) → AtMost G.by (w.base k d) b → EarlyBelow G w k d b → AtMost G.by (Some u) b
new_batch_fine G w n k r view a ba fo st wr d u held pends b base early = subst (λ (o : Option Version). AtMost G.by o b) held
    (AtMost_trans ((a.inside n k view).held d) (AtMost_trans ((a.below n k).held d) (fo.fold k d b (λ m e. AtMost_trans ((ba m k).entry d) base) (λ m t e q i. writes m t e q i (number_cases m (view_master G k (partition_of d)))))))
  where
    unsettled : w.settled k (partition_of d) ≡ true → ⊥
    unsettled z = differ pends (((st k (partition_of d) z).moved n ((a.entered n k).member ((a.entered n k).now view).0)).none r d refl)

    is_early : (m t : ℕ) (e : Applied) → (w.stay m k).writes t ≡ Some e → e.digest ≡ d → (q : Bool) → e.early ≡ q → q ≡ true
    is_early m t e q i true z = refl
    is_early m t e q i false z = absurd (unsettled (subst (λ (c : List ℕ). w.settled k (partition_of c) ≡ true) i ((wr m k).late t e q z).1))

    writes : (m t : ℕ) (e : Applied) → (w.stay m k).writes t ≡ Some e → e.digest ≡ d → (m ≡ view_master G k (partition_of d)) ⊎ (m ≡ view_master G k (partition_of d) → ⊥) → AtMost G.by (Some e.version) b
    writes m t e q i (inl z) = early.below t e (subst (λ (j : ℕ). (w.stay j k).writes t ≡ Some e) z q) i (is_early m t e q i e.early refl)
    writes m t e q i (inr z) = AtMost_trans (subst (λ (c : List ℕ). AtMost G.by (Some e.version) (w.base k c)) i ((ba m k).write t e q (λ j. z (j ∙ ap (λ (c : List ℕ). view_master G k (partition_of c)) i)))) base

fine_within : (G : Ground) (w v : Picture) (n : ℕ) (k : ClusterKey) (x : Seen) (s : Stay) → Within G w v n k x s → v.stay n k ≡ s → (w.node n).view ≡ Some k → Known G w → Grows G.by w v → AllBased G w → Folded G w → AllSettled G w → AllWriters G w → Based G v n k s
    → ((m : ℕ) → Fine G w m k (w.stay m k)) → Fine G v n k s
fine_within G w v n k _ _ (apply t d u early ok e z) is view a g ba fo st wr bv h = record {
  held = λ c b base ear heard. version_below G.by (w.stay n k).held d u c b (old_held G w v g n k (h n) c b base ear (subst (λ (y : Stay). HeardBelow G v n k y c b) (sym is) heard))
      (λ i. go c b base heard i (number_cases n (view_master G k (partition_of d))));
  batch = λ r i es q c m x b base ear. old_batch G w v g n k (h n) r i es q c m x b base ear;
}
  where
    new : Applied
    new = record { digest = d; version = u; nth = (w.stay n k).applies (partition_of d) + 1; early = early }

    made : (v.stay n k).writes t ≡ Some new
    made = ap (λ (y : Stay). y.writes t) is ∙ changed_here numbers (w.stay n k).writes t (Some new)

    go : (c : List ℕ) (b : Option Version) → AtMost G.by (v.base k c) b → HeardBelow G v n k (Rattle.cluster_laws.specs.Changes.stay_after_write G n k t d u early (w.stay n k)) c b → d ≡ c → (n ≡ view_master G k (partition_of d)) ⊎ (n ≡ view_master G k (partition_of d) → ⊥) → AtMost G.by (Some u) b
    go c b base heard i (inl m) = heard.below t new (subst (λ (j : ℕ). (v.stay j k).writes t ≡ Some new) (m ∙ ap (λ (l : List ℕ). view_master G k (partition_of l)) i) made) i (inl (m ∙ ap (λ (l : List ℕ). view_master G k (partition_of l)) i))
    go c b base heard i (inr m) = AtMost_trans (bv.write t new (changed_here numbers (w.stay n k).writes t (Some new)) m) (subst (λ (l : List ℕ). AtMost G.by (v.base k l) b) (sym i) base)
fine_within G w v n k _ _ (merge d u ok e) is view a g ba fo st wr bv h = record {
  held = λ c b base ear heard. let hv : HeardBelow G v n k (v.stay n k) c b = subst (λ (y : Stay). HeardBelow G v n k y c b) (sym is) heard in
      version_below G.by (w.stay n k).held d u c b (old_held G w v g n k (h n) c b base ear hv)
      (λ i. merged_fine G w v n k d u a g ba h ok b (subst (λ (l : List ℕ). AtMost G.by (v.base k l) b) (sym i) base) (λ z. subst (λ (l : List ℕ). EarlyBelow G v k l b) (sym i) (ear (subst (λ (l : List ℕ). is_view_empty G k (partition_of l) ≡ false) i z)))
      (subst (λ (l : List ℕ). HeardBelow G v n k (v.stay n k) l b) (sym i) hv));
  batch = λ r i es q c m x b base ear. old_batch G w v g n k (h n) r i es q c m x b base ear;
}
fine_within G w v n k _ _ (batch r b ok i) is view a g ba fo st wr bv h = record {
  held = λ c o base ear heard. old_held G w v g n k (h n) c o base ear (subst (λ (y : Stay). HeardBelow G v n k y c o) (sym is) heard);
  batch = λ q l es. pair_either (λ o. o ≡ Some es → (c : List ℕ) (u : Version) → IsAmong es c u → (z : Option Version) → AtMost G.by (v.base k c) z → EarlyBelow G v k c z → AtMost G.by (Some u) z) (w.stay n k).batch r b.number (Some b.records) q l
      (λ _ _ e c u m z base ear. new (subst (λ (j : ClusterKey). IsBatchToSend (w.node n).content (w.stay n j) r b) i ok.batch) c u (subst (λ (y : List (List ℕ × Version)). IsAmong y c u) (sym (some_same e)) m) z (AtMost_trans (g.base k c) base) (early_old G w v g k c z ear))
      (λ e c u m z base ear. old_batch G w v g n k (h n) q l es e c u m z base ear);
}
  where
    new : IsBatchToSend (w.node n).content (w.stay n k) r b → (c : List ℕ) (u : Version) → IsAmong b.records c u → (z : Option Version) → AtMost G.by (w.base k c) z → EarlyBelow G w k c z → AtMost G.by (Some u) z
    new (inl o) c u m z base ear = (h n).batch r b.number b.records ((a.own n k).out r b o).0 c u m z base ear
    new (inr o) c u m z base ear = new_batch_fine G w n k r view a ba fo st wr c u (o.2.held c u m) (o.2.pending c u m) z base ear
fine_within G w v n k _ _ (exchange ok) is view a g ba fo st wr bv h = record {
  held = λ c b base ear heard. old_held G w v g n k (h n) c b base ear (subst (λ (y : Stay). HeardBelow G v n k y c b) (sym is) heard);
  batch = λ r i es q c m x b base ear. old_batch G w v g n k (h n) r i es q c m x b base ear;
}
fine_within G w v n k _ _ _ is view a g ba fo st wr bv h = record {
  held = λ c b base ear heard. old_held G w v g n k (h n) c b base ear (subst (λ (y : Stay). HeardBelow G v n k y c b) (sym is) heard);
  batch = λ r i es q c m x b base ear. old_batch G w v g n k (h n) r i es q c m x b base ear;
}

fine_step : (G : Ground) (w v : Picture) (n : ℕ) (k : ClusterKey) (x : Seen) (s : Stay) → Step G w v n k x s → v.stay n k ≡ s → Known G w → Grows G.by w v → AllBased G w → Folded G w → AllSettled G w → AllWriters G w → Based G v n k s
    → ((m : ℕ) → Fine G w m k (w.stay m k)) → Fine G v n k s
fine_step G w v n k _ _ (enter ok e) is a g ba fo st wr bv h = record { held = λ d b base ear heard. AtMost_trans (bv.entry d) base; batch = λ r i es z. no_some z }
fine_step G w v n k _ _ (within x s view c) is a g ba fo st wr bv h = fine_within G w v n k x s c is view a g ba fo st wr bv h
fine_step G w v n k _ _ same is a g ba fo st wr bv h = record {
  held = λ c b base ear heard. old_held G w v g n k (h n) c b base ear (subst (λ (y : Stay). HeardBelow G v n k y c b) (sym is) heard);
  batch = λ r i es q c m x b base ear. old_batch G w v g n k (h n) r i es q c m x b base ear;
}
fine_step G w v n k _ _ _ is a g ba fo st wr bv h = record {
  held = λ c b base ear heard. old_held G w v g n k (h n) c b base ear (subst (λ (y : Stay). HeardBelow G v n k y c b) (sym is) heard);
  batch = λ r i es q c m x b base ear. old_batch G w v g n k (h n) r i es q c m x b base ear;
}

abbrev pub AllFine : Ground → Picture → Type 0
AllFine G w = (n : ℕ) (k : ClusterKey) → Fine G w n k (w.stay n k)

pub fine_kept : (G : Ground) (w : Picture) (e : Effect) → Allowed G w e → Grows G.by w (act G e w) → Known G w → AllBased G w → AllBased G (act G e w) → Folded G w → AllSettled G w → AllWriters G w → AllFine G w → AllFine G (act G e w)
fine_kept G w e ok g a ba bv fo st wr h n k = fine_step G w (act G e w) n k _ _ (steps G w e ok n k) refl a g ba fo st wr (bv n k) (λ m. h m k)

pub fine_start : (G : Ground) → AllFine G start
fine_start G n k = record { held = λ d b base ear heard. AtMost_none b; batch = λ r i es z. no_some z }

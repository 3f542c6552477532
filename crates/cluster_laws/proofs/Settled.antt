-- Where a partition is settled, each replica of the view holds the fold.
use Rattle.std.proofs.Common.{◌≡◌, ℕ, true, List, Option, Some, sym, ap, ◌∙◌, subst, ◌⊎◌, inl, inr, ⊎_elim}
use Rattle.conflict_order.specs.declared.version.Version.{Version}
use Rattle.conflict_order.specs.Join.{AtMost}
use Rattle.conflict_order.proofs.OrderLaws.{AtMost_trans, AtMost_none, AtMost_antisymm}
use Rattle.cluster_types.specs.declared.cluster_key.ClusterKey.{ClusterKey}
use Rattle.cluster_types.specs.Partitions.{partition_of}
use Rattle.wire_messages.specs.declared.message.Message.TheVariants as message
use Rattle.cluster_laws.specs.Ground.{Ground, is_view_member, view_master, is_view_replica, same_view_class}
use Rattle.cluster_laws.specs.Stay.{Applied}
use Rattle.cluster_laws.specs.Picture.{Picture}
use Rattle.cluster_laws.specs.Laws.{IsBounded, ClassesEnterEqual, GreatestIsStored, IsSettled, SettledHoldFold}
use Rattle.cluster_laws.proofs.At.{number_cases}
use Rattle.cluster_laws.proofs.GroundLaws.{empty_row, empty_acting}
use Rattle.cluster_laws.proofs.Predicates.{Wrote}
use Rattle.cluster_laws.proofs.Copies.{Rests, class_equal, arrive, done_held, others_done}
use Rattle.cluster_laws.proofs.Kept.{Somewhere}
use Rattle.cluster_laws.proofs.All.{Sound}

-- what a settled partition's replica has held is at least each entry
settled_entry : (G : Ground) (w : Picture) → Sound G w → (k : ClusterKey) (p r : ℕ) (d : List ℕ) → Rests G w k p → is_view_replica G k p r ≡ true → partition_of d ≡ p → (m : ℕ) → (w.stay m k).entered ≡ true → AtMost G.by ((w.stay m k).entry d) ((w.stay r k).held d)
settled_entry G w s k p r d (inl z) rep dp m e = arrive G w s.whole s.snap k p (s.whole.settled k p z).moved m r ((s.whole.known.entered m k).member e) rep d dp
settled_entry G w s k p r d (inr z) rep dp m e = subst (λ (o : Option Version). AtMost G.by o ((w.stay r k).held d)) (sym ((s.whole.based m k).empty e p (empty_row G k p m z.all ((s.whole.known.entered m k).member e)) d dp)) (AtMost_none ((w.stay r k).held d))

-- and each write of another than the list master
settled_write : (G : Ground) (w : Picture) → Sound G w → (k : ClusterKey) (p r : ℕ) (d : List ℕ) → Rests G w k p → is_view_replica G k p r ≡ true → partition_of d ≡ p → (m t : ℕ) (e : Applied) → (w.stay m k).writes t ≡ Some e → e.digest ≡ d → (m ≡ view_master G k p → ⊥)
    → AtMost G.by (Some e.version) ((w.stay r k).held d)
settled_write G w s k p r d z rep dp m t e a i other = by_rest z
  where
    part : partition_of e.digest ≡ p
    part = ap partition_of i ∙ dp

    by_rest : Rests G w k p → AtMost G.by (Some e.version) ((w.stay r k).held d)
    by_rest (inl st) = subst (λ (c : List ℕ). AtMost G.by (Some e.version) ((w.stay r k).held c)) i
        (done_held G w s.whole m r t k e a (others_done G w s.whole m t k e a (subst (λ (q : ℕ). w.settled k q ≡ true) (sym part) st) (λ q. other (q ∙ ap (view_master G k) part))) (subst (λ (q : ℕ). is_view_replica G k q r ≡ true) (sym part) rep))
    by_rest (inr em) = ⊎_elim (λ q. absurd (other (q ∙ (ap (λ (l : ℕ). Rattle.cluster_laws.specs.Ground.view_acting G k l) part ∙ empty_acting G k p em.all)))) (λ q. absurd (other (q.0 ∙ ap (view_master G k) part))) ((s.whole.writers m k).write t e a)

rests_of : (G : Ground) (w : Picture) (k : ClusterKey) (p : ℕ) → IsSettled G w k p → Rests G w k p
rests_of G w k p (inl z) = inl z
rests_of G w k p (inr z) = inr (record { all = z.0; node = view_master G k p; exchanged = z.1 })

-- a replica holds the fold, where it has held the list master's writes
pub whole_replica : (G : Ground) (w : Picture) → Sound G w → (k : ClusterKey) (p r : ℕ) (d : List ℕ) → Rests G w k p → is_view_replica G k p r ≡ true → (w.node r).view ≡ Some k → partition_of d ≡ p
    → ((t : ℕ) (e : Applied) → (w.stay (view_master G k p) k).writes t ≡ Some e → e.digest ≡ d → AtMost G.by (Some e.version) ((w.stay r k).held d)) → (w.node r).content d ≡ w.fold k d
whole_replica G w s k p r d z rep view dp own = AtMost_antisymm
    (AtMost_trans ((s.whole.known.inside r k view).held d) ((s.whole.known.below r k).held d))
    (AtMost_trans (s.whole.folded.fold k d ((w.stay r k).held d) (λ m e. settled_entry G w s k p r d z rep dp m e) (λ m t e a i. write m t e a i (number_cases m (view_master G k p))))
    ((s.whole.known.inside r k view).kept d (subst (λ (q : ℕ). is_view_replica G k q r ≡ true) (sym dp) rep)))
  where
    write : (m t : ℕ) (e : Applied) → (w.stay m k).writes t ≡ Some e → e.digest ≡ d → (m ≡ view_master G k p) ⊎ (m ≡ view_master G k p → ⊥) → AtMost G.by (Some e.version) ((w.stay r k).held d)
    write m t e a i (inl q) = own t e (subst (λ (l : ℕ). (w.stay l k).writes t ≡ Some e) q a) i
    write m t e a i (inr q) = settled_write G w s k p r d z rep dp m t e a i q

pub settled_join : (G : Ground) (w : Picture) → Sound G w → SettledHoldFold G w
settled_join G w s k p r d st none rep view dp = whole_replica G w s k p r d (rests_of G w k p st) rep view dp
    (λ t e a i. subst (λ (c : List ℕ). AtMost G.by (Some e.version) ((w.stay r k).held c)) i (done_held G w s.whole (view_master G k p) r t k e a (none t e a (ap partition_of i ∙ dp)) (subst (λ (q : ℕ). is_view_replica G k q r ≡ true) (sym (ap partition_of i ∙ dp)) rep)))

-- ---- the other laws of a picture

pub bounded : (G : Ground) (w : Picture) → Sound G w → IsBounded G w
bounded G w s = record {
  fold = λ n k d view. AtMost_trans ((s.whole.known.inside n k view).held d) ((s.whole.known.below n k).held d);
  applied = s.applied;
  batch = λ n r b d v m i. let u : AtMost G.by (Some v) ((w.stay n b.key).held d) = (s.whole.known.below n b.key).batch r b.number b.records (s.whole.known.says n r (message.Batch b) m) d v i in
      (AtMost_trans u ((s.whole.known.below n b.key).held d), AtMost_trans u ((s.whole.known.below n b.key).applied d));
  write = λ n r k t nth d v m. let o : Wrote G w n r k t nth d v = s.whole.known.says n r (message.Repl k t nth d v) m in
      (AtMost_trans ((s.whole.known.held n k).write t _ o.write) ((s.whole.known.below n k).held d), AtMost_trans ((s.whole.known.held n k).write t _ o.write) ((s.whole.known.below n k).applied d));
}

-- classes are symmetric where the node's copy isn't empty
pub equal_classes : (G : Ground) (w : Picture) → Sound G w → ClassesEnterEqual G w
equal_classes G w s k p a b d ea eb same dp = AtMost_antisymm (class_equal G w s.snap k p a b ea eb same d dp) (class_equal G w s.snap k p b a eb ea (Rattle.cluster_laws.proofs.GroundLaws.class_symmetric G k p a b same) d dp)

pub no_loss : (G : Ground) (w : Picture) → Sound G w → GreatestIsStored G w
no_loss G w s d v e = let o : Somewhere G w d v = s.lossless d v e in (o.node, AtMost_antisymm (subst (λ (z : Option Version). AtMost G.by ((w.node o.node).content d) z) e (s.applied o.node d)) o.has)

-- What a change in one view does to the copies that were whole in another.
use Rattle.std.proofs.Common.{◌≡◌, ℕ, ◌==◌, Bool, true, false, cond, ◌&&◌, List, Option, Some, None, option_map, refl, sym, ap, ◌∙◌, subst, ◌⊎◌, inl, inr, if◌then◌else◌}
use Rattle.conflict_order.specs.declared.version.Version.{Version}
use Rattle.conflict_order.specs.Join.{join}
use Rattle.cluster_types.specs.declared.cluster_key.ClusterKey.{ClusterKey}
use Rattle.cluster_types.specs.Partitions.{partition_of}
use Rattle.cluster_types.specs.ClusterKeys.{same_key}
use Rattle.partition_lists.specs.Classes.{no_class}
use Rattle.partition_lists.specs.Counts.{recounted, spoiled}
use Rattle.cluster_laws.specs.Changed.{at_number}
use Rattle.cluster_laws.specs.Ground.{Ground, view_master, is_view_empty, is_view_replica}
use Rattle.cluster_laws.specs.Stay.{Versions, Stay}
use Rattle.cluster_laws.specs.Picture.{Seen}
use Rattle.cluster_laws.specs.Changes.{copy_count, whole_where_empty, seen_after_write, seen_after_merge, seen_after_learning, seen_after_drop, seen_after_count, recounted_if, with_version, without_part}
use Rattle.cluster_laws.proofs.At.{numbers, digests, changed_here, changed_other, number_same, number_cases, key_same, some_same, no_some}

-- the stamp counts nothing, and was there under its key
pub record Lost (k : ClusterKey) (c : ℕ) (o : Option (ClusterKey × ℕ)) : Type 0 where
  pub nothing : c ≡ no_class
  pub count : ℕ
  pub was : o ≡ Some (k, count)

-- the partition's copy and stamp are as they were, or a stamp of the key counts nothing
abbrev pub LeftAlone : ClusterKey → Seen → Versions → (ℕ → Option (ClusterKey × ℕ)) → ℕ → Type 0
LeftAlone k x content stamp p = ((stamp p ≡ x.stamp p) × ((d : List ℕ) → partition_of d ≡ p → content d ≡ x.content d)) ⊎ ((c : ℕ) → stamp p ≡ Some (k, c) → Lost k c (x.stamp p))

pub record Apart (k : ClusterKey) (x : Seen) (content : Versions) (stamp : ℕ → Option (ClusterKey × ℕ)) : Type 0 where
  pub part : (p : ℕ) → LeftAlone k x content stamp p

-- a stamp of another key
other_key : {C : Type 0} (j k : ClusterKey) (b c : ℕ) → (j ≡ k → ⊥) → ◌≡◌ {A = Option (ClusterKey × ℕ)} (Some (j, b)) (Some (k, c)) → C
other_key {C} j k b c apart e = absurd (apart (ap (λ (z : ClusterKey × ℕ). z.0) (some_same e)))

pub apart_exchange : (G : Ground) (n : ℕ) (j k : ClusterKey) (x : Seen) (s : Stay) → (j ≡ k → ⊥) → Apart k x x.content (whole_where_empty G n j x s)
apart_exchange G n j k x s apart = record { part = λ p. go p (is_view_empty G j p && is_view_replica G j p n) refl }
  where
    go : (p : ℕ) (b : Bool) → (is_view_empty G j p && is_view_replica G j p n) ≡ b → LeftAlone k x x.content (whole_where_empty G n j x s) p
    go p true e = inr (λ c z. other_key j k (copy_count G j n s p) c apart (sym (ap (λ (b : Bool). (if b then Some (j, copy_count G j n s p) else x.stamp p)) e) ∙ z))
    go p false e = inl (ap (λ (b : Bool). (if b then Some (j, copy_count G j n s p) else x.stamp p)) e, λ d _. refl)

-- the stamps change at one partition, and the content at none or within it
apart_at : (k : ClusterKey) (x : Seen) (content : Versions) (p : ℕ) (o : Option (ClusterKey × ℕ)) → ((d : List ℕ) → (p ≡ partition_of d → ⊥) → content d ≡ x.content d)
    → LeftAlone k x content (at_number x.stamp p o) p → Apart k x content (at_number x.stamp p o)
apart_at k x content p o same here = record { part = λ q. go q (number_cases p q) }
  where
    go : (q : ℕ) → (p ≡ q) ⊎ (p ≡ q → ⊥) → LeftAlone k x content (at_number x.stamp p o) q
    go q (inl e) = subst (LeftAlone k x content (at_number x.stamp p o)) e here
    go q (inr e) = inl (changed_other numbers x.stamp p o q e, λ d z. same d (λ i. e (i ∙ z)))

-- a stamp that was spoiled in another view, and counted again there
spoiled_lost : (j k : ClusterKey) (n c : ℕ) → (j ≡ k → ⊥) → (z : ClusterKey × ℕ) → recounted j n (spoiled j z) ≡ (k, c) → (c ≡ no_class) × (z.0 ≡ k)
spoiled_lost j k n c apart z h = go (same_key z.0 j) refl h
  where
    go : (b : Bool) → same_key z.0 j ≡ b → recounted j n (cond b z (z.0, no_class)) ≡ (k, c) → (c ≡ no_class) × (z.0 ≡ k)
    go true e h = absurd (apart (ap (λ (y : ClusterKey × ℕ). y.0) (sym (ap (λ (b : Bool). cond b (j, n) z) e) ∙ h)))
    go false e h = (sym (ap (λ (y : ClusterKey × ℕ). y.1) (sym (ap (λ (b : Bool). cond b (j, n) (z.0, no_class)) e) ∙ h)), ap (λ (y : ClusterKey × ℕ). y.0) (sym (ap (λ (b : Bool). cond b (j, n) (z.0, no_class)) e) ∙ h))

spoiled_only : (j k : ClusterKey) (c : ℕ) → (j ≡ k → ⊥) → (z : ClusterKey × ℕ) → spoiled j z ≡ (k, c) → (c ≡ no_class) × (z.0 ≡ k)
spoiled_only j k c apart z h = go (same_key z.0 j) refl h
  where
    go : (b : Bool) → same_key z.0 j ≡ b → (cond b z (z.0, no_class)) ≡ (k, c) → (c ≡ no_class) × (z.0 ≡ k)
    go true e h = absurd (apart (sym (key_same z.0 j e) ∙ ap (λ (y : ClusterKey × ℕ). y.0) h))
    go false e h = (sym (ap (λ (y : ClusterKey × ℕ). y.1) h), ap (λ (y : ClusterKey × ℕ). y.0) h)

mapped_lost : (f : ClusterKey × ℕ → ClusterKey × ℕ) (k : ClusterKey) → ((c : ℕ) (z : ClusterKey × ℕ) → f z ≡ (k, c) → (c ≡ no_class) × (z.0 ≡ k)) → (o : Option (ClusterKey × ℕ)) (c : ℕ) → option_map f o ≡ Some (k, c) → Lost k c o
mapped_lost f k h None c e = no_some e
mapped_lost f k h (Some z) c e = let q = h c z (some_same e) in record { nothing = q.0; count = z.1; was = ap (λ (y : ClusterKey). Some (y, z.1)) q.1 }

stored_other : (G : Ground) (x : Seen) (d : List ℕ) (u : Version) (c : List ℕ) → (partition_of d ≡ partition_of c → ⊥) → with_version G.by x.content d u c ≡ x.content c
stored_other G x d u c apart = changed_other digests x.content d (join G.by (x.content d) (Some u)) c (λ e. apart (ap partition_of e))

pub apart_apply : (G : Ground) (n : ℕ) (j k : ClusterKey) (d : List ℕ) (u : Version) (s : Stay) (x : Seen) → (j ≡ k → ⊥) → Apart k x (seen_after_write G n j d u s x).content (seen_after_write G n j d u s x).stamp
apart_apply G n j k d u s x apart = apart_at k x (with_version G.by x.content d u) (partition_of d) _ (stored_other G x d u)
    (inr (λ c e. mapped_lost _ k (λ c z. spoiled_lost j k (copy_count G j n s (partition_of d)) c apart z) (x.stamp (partition_of d)) c (sym (changed_here numbers x.stamp (partition_of d) _) ∙ e)))

pub apart_merge : (G : Ground) (j k : ClusterKey) (d : List ℕ) (u : Version) (x : Seen) → (j ≡ k → ⊥) → Apart k x (seen_after_merge G j d u x).content (seen_after_merge G j d u x).stamp
apart_merge G j k d u x apart = apart_at k x (with_version G.by x.content d u) (partition_of d) _ (stored_other G x d u)
    (inr (λ c e. mapped_lost (spoiled j) k (λ c z. spoiled_only j k c apart z) (x.stamp (partition_of d)) c (sym (changed_here numbers x.stamp (partition_of d) _) ∙ e)))

pub apart_learn : (G : Ground) (n : ℕ) (j k : ClusterKey) (p : ℕ) (s : Stay) (x : Seen) → (j ≡ k → ⊥) → Apart k x (seen_after_learning G n j p s x).content (seen_after_learning G n j p s x).stamp
apart_learn G n j k p s x apart = apart_at k x x.content p _ (λ d _. refl) (inr (λ c e. other_key j k (copy_count G j n s p) c apart (sym (changed_here numbers x.stamp p _) ∙ e)))

pub apart_drop : (j k : ClusterKey) (p : ℕ) (x : Seen) → (j ≡ k → ⊥) → Apart k x (seen_after_drop p x).content (seen_after_drop p x).stamp
apart_drop j k p x apart = apart_at k x (without_part x.content p) p None (λ d z. go d z (partition_of d == p) refl) (inr (λ c e. no_some (sym (changed_here numbers x.stamp p None) ∙ e)))
  where
    go : (d : List ℕ) → (p ≡ partition_of d → ⊥) → (b : Bool) → (partition_of d == p) ≡ b → cond b None (x.content d) ≡ x.content d
    go d z true e = absurd (z (sym (number_same (partition_of d) p e)))
    go d z false e = refl

pub apart_write : (G : Ground) (n : ℕ) (j k : ClusterKey) (from p : ℕ) (s : Stay) (x : Seen) → (j ≡ k → ⊥) → Apart k x (seen_after_count G n j from p s x).content (seen_after_count G n j from p s x).stamp
apart_write G n j k from p s x apart = apart_at k x x.content p _ (λ d _. refl) (here (from == view_master G j p) (x.stamp p) refl)
  where
    here : (b : Bool) (o : Option (ClusterKey × ℕ)) → x.stamp p ≡ o → LeftAlone k x x.content (at_number x.stamp p (option_map (recounted_if b j (copy_count G j n s p)) o)) p
    here b None e = inl (changed_here numbers x.stamp p None ∙ sym e, λ d _. refl)
    here false (Some z) e = inl (changed_here numbers x.stamp p (Some z) ∙ sym e, λ d _. refl)
    here true (Some z) e = deep (same_key z.0 j)
      where
        deep : (q : Bool) → LeftAlone k x x.content (at_number x.stamp p (Some (cond q (j, copy_count G j n s p) z))) p
        deep true = inr (λ c h. other_key j k (copy_count G j n s p) c apart (sym (changed_here numbers x.stamp p _) ∙ h))
        deep false = inl (changed_here numbers x.stamp p (Some z) ∙ sym e, λ d _. refl)

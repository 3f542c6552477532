-- Batches and what is pending: what holds of a stay by the node's own lines.
use Rattle.std.proofs.Common.{◌≡◌, ℕ, ◌≤◌, Bool, true, false, ◌&&◌, is_some, List, Option, Some, None, refl, sym, ap, subst, arith, inl, inr}
use Rattle.conflict_order.specs.declared.version.Version.{Version}
use Rattle.conflict_order.specs.Join.{AtMost}
use Rattle.cluster_types.specs.declared.cluster_key.ClusterKey.{ClusterKey}
use Rattle.cluster_types.specs.Partitions.{partition_of}
use Rattle.wire_messages.specs.declared.message.Batch.{Batch}
use Rattle.cluster_laws.specs.Changed.{at_number, at_pair}
use Rattle.cluster_laws.specs.Ground.{Ground, view_sends_to}
use Rattle.cluster_laws.specs.Stay.{Versions, Stay}
use Rattle.cluster_laws.specs.Picture.{Seen, Picture, start}
use Rattle.cluster_laws.specs.Effect.{Effect}
use Rattle.cluster_laws.specs.Changes.{act}
use Rattle.cluster_laws.specs.Licences.{IsAmong, IsBatchToSend}
use Rattle.cluster_laws.proofs.At.{numbers, changed_either, changed_here, pair_here, pair_either, differ, some_same, no_some, and_left}
use Rattle.cluster_laws.proofs.Allowed.{Allowed}
use Rattle.cluster_laws.proofs.Step.{Within, exchange, batch, batch_acked, Step, enter, within, steps}

pub record Own (G : Ground) (n : ℕ) (k : ClusterKey) (s : Stay) : Type 0 where
  -- a batch was sent after the exchange, and its number is at most how many were sent
  pub numbered : (r i : ℕ) (es : List (List ℕ × Version)) → s.batch r i ≡ Some es → (s.exchanged ≡ true) × (i ≤ s.batches r)
  -- the batch that is out is the last one
  pub out : (r : ℕ) (b : Batch) → s.out r ≡ Some b → (s.batch r b.number ≡ Some b.records) × (b.key ≡ k) × (b.number ≡ s.batches r)
  -- what is pending is handed on to the target
  pub pending : (r : ℕ) (d : List ℕ) → s.pending r d ≡ true → (s.exchanged ≡ true) × (view_sends_to G k (partition_of d) n r ≡ true)
  -- a batch goes to whom the node hands the partition on, and covers what it entered with
  pub records : (r i : ℕ) (es : List (List ℕ × Version)) → s.batch r i ≡ Some es → (d : List ℕ) (u : Version) → IsAmong es d u
      → (view_sends_to G k (partition_of d) n r ≡ true) × AtMost G.by (s.entry d) (Some u)

-- what is pending is held, at least as it was on entry
pub record Pended (G : Ground) (k : ClusterKey) (x : Seen) (s : Stay) : Type 0 where
  pub covers : (r : ℕ) (d : List ℕ) → s.pending r d ≡ true → AtMost G.by (s.entry d) (x.content d)

own_exchange : (G : Ground) (w : Picture) (n : ℕ) (k : ClusterKey) (s : Stay) (content : Versions) → s.exchanged ≡ false → Own G n k s
    → Own G n k (record s { exchanged = true; pending = λ r d. view_sends_to G k (partition_of d) n r && is_some (content d) })
own_exchange G w n k s content first h = record {
  numbered = λ r i es e. (refl, (h.numbered r i es e).1);
  out = h.out;
  pending = λ r d e.
      (refl, and_left (view_sends_to G k (partition_of d) n r) (is_some (content d)) e);
  records = h.records;
}

-- a batch that is sent is that of its number, and the new ones come after all
same_batch : (G : Ground) (n : ℕ) (k : ClusterKey) (content : Versions) (s : Stay) (r : ℕ) (b : Batch) → Own G n k s → IsBatchToSend content s r b → s.batches r ≤ b.number
same_batch G n k content s r b h (inl e) = omega (arith, (h.out r b e).2)
same_batch G n k content s r b h (inr e) = omega (arith, e.1)

batch_records : (G : Ground) (n : ℕ) (k : ClusterKey) (x : Seen) (s : Stay) (r : ℕ) (b : Batch) → Own G n k s → Pended G k x s → IsBatchToSend x.content s r b
    → (d : List ℕ) (u : Version) → IsAmong b.records d u → (view_sends_to G k (partition_of d) n r ≡ true) × AtMost G.by (s.entry d) (Some u)
batch_records G n k x s r b h p (inl e) d u i = h.records r b.number b.records (h.out r b e).0 d u i
batch_records G n k x s r b h p (inr e) d u i = ((h.pending r d (e.2.pending d u i)).1, subst (λ (o : Option Version). AtMost G.by (s.entry d) o) (e.2.held d u i) (p.covers r d (e.2.pending d u i)))

own_batch : (G : Ground) (n : ℕ) (k : ClusterKey) (x : Seen) (s : Stay) (r : ℕ) (b : Batch) → b.key ≡ k → s.exchanged ≡ true → IsBatchToSend x.content s r b → Pended G k x s → Own G n k s
    → Own G n k (record s { out = at_number s.out r (Some b); batches = at_number s.batches r b.number; batch = at_pair s.batch r b.number (Some b.records) })
own_batch G n k x s r b key ex is p h = record {
  numbered = λ q i es. pair_either (λ o. o ≡ Some es → (s.exchanged ≡ true) × (i ≤ at_number s.batches r b.number q)) s.batch r b.number (Some b.records) q i
      (λ rq bi e. (ex, changed_either numbers (λ z. i ≤ z) s.batches r b.number q (λ _. omega (arith, bi)) (λ z. absurd (z rq))))
      (λ e. (ex, changed_either numbers (λ z. i ≤ z) s.batches r b.number q (λ z. omega (arith, (h.numbered q i es e).1, same_batch G n k x.content s r b h is, ap s.batches z)) (λ _. (h.numbered q i es e).1)));
  out = λ q c. changed_either numbers (λ o. o ≡ Some c → (at_pair s.batch r b.number (Some b.records) q c.number ≡ Some c.records) × (c.key ≡ k) × (c.number ≡ at_number s.batches r b.number q)) s.out r (Some b) q
      (λ rq e. subst (λ (z : ℕ). (at_pair s.batch r b.number (Some b.records) z c.number ≡ Some c.records) × (c.key ≡ k) × (c.number ≡ at_number s.batches r b.number z)) rq
      (subst (λ (y : Batch). (at_pair s.batch r b.number (Some b.records) r y.number ≡ Some y.records) × (y.key ≡ k) × (y.number ≡ at_number s.batches r b.number r)) (some_same e)
      (pair_here s.batch r b.number (Some b.records), key, sym (changed_here numbers s.batches r b.number))))
      (λ rq e. (
        pair_either (λ o. o ≡ Some c.records) s.batch r b.number (Some b.records) q c.number (λ z _. absurd (rq z)) (h.out q c e).0,
        (h.out q c e).1,
        changed_either numbers (λ z. c.number ≡ z) s.batches r b.number q (λ z. absurd (rq z)) (λ _. (h.out q c e).2),
      ));
  pending = h.pending;
  records = λ q i es. pair_either (λ o. o ≡ Some es → (d : List ℕ) (u : Version) → IsAmong es d u → (view_sends_to G k (partition_of d) n q ≡ true) × AtMost G.by (s.entry d) (Some u)) s.batch r b.number (Some b.records) q i
      (λ rq _ e d u a. subst (λ (z : ℕ). (view_sends_to G k (partition_of d) n z ≡ true) × AtMost G.by (s.entry d) (Some u)) rq
      (batch_records G n k x s r b h p is d u (subst (λ (z : List (List ℕ × Version)). IsAmong z d u) (sym (some_same e)) a)))
      (λ e. h.records q i es e);
}

own_acked : (G : Ground) (n : ℕ) (k : ClusterKey) (s : Stay) (r : ℕ) (test : List ℕ → Bool) → Own G n k s
    → Own G n k (record s { pending = at_number s.pending r (λ d. s.pending r d && test d); out = at_number s.out r None })
own_acked G n k s r test h = record {
  numbered = h.numbered;
  out = λ q c. changed_either numbers (λ o. o ≡ Some c → (s.batch q c.number ≡ Some c.records) × (c.key ≡ k) × (c.number ≡ s.batches q)) s.out r None q (λ _ e. no_some e) (λ _ e. h.out q c e);
  pending = λ q d. changed_either numbers (λ f. f d ≡ true → (s.exchanged ≡ true) × (view_sends_to G k (partition_of d) n q ≡ true)) s.pending r (λ c. s.pending r c && test c) q
      (λ rq e. subst (λ (z : ℕ). (s.exchanged ≡ true) × (view_sends_to G k (partition_of d) n z ≡ true)) rq (h.pending r d (and_left (s.pending r d) (test d) e))) (λ _ e. h.pending q d e);
  records = h.records;
}

own_within : (G : Ground) (w v : Picture) (n : ℕ) (k : ClusterKey) (x : Seen) (s : Stay) → Within G w v n k x s → Pended G k (w.node n) (w.stay n k) → Own G n k (w.stay n k) → Own G n k s
own_within G w v n k _ _ (exchange ok) p h = own_exchange G w n k (w.stay n k) (w.node n).content ok.first h
own_within G w v n k _ _ (batch r b ok i) p h = own_batch G n k (w.node n) (w.stay n k) r b i (subst (λ (z : ClusterKey). (w.stay n z).exchanged ≡ true) i ok.exchanged) (subst (λ (z : ClusterKey). IsBatchToSend (w.node n).content (w.stay n z) r b) i ok.batch) p h
own_within G w v n k _ _ (batch_acked r b ok) p h = own_acked G n k (w.stay n k) r _ h
own_within G w v n k _ _ _ p h = assumption h

own_step : (G : Ground) (w v : Picture) (n : ℕ) (k : ClusterKey) (x : Seen) (s : Stay) → Step G w v n k x s → ((w.node n).view ≡ Some k → Pended G k (w.node n) (w.stay n k)) → Own G n k (w.stay n k) → Own G n k s
own_step G w v n k _ _ (enter ok e) p h = record { numbered = λ r i es z. no_some z; out = λ r b z. no_some z; pending = λ r d z. differ z refl; records = λ r i es z. no_some z }
own_step G w v n k _ _ (within x s view c) p h = own_within G w v n k x s c (p view) h
own_step G w v n k _ _ _ p h = h

abbrev pub AllOwn : Ground → Picture → Type 0
AllOwn G w = (n : ℕ) (k : ClusterKey) → Own G n k (w.stay n k)

abbrev pub AllPended : Ground → Picture → Type 0
AllPended G w = (n : ℕ) (k : ClusterKey) → (w.node n).view ≡ Some k → Pended G k (w.node n) (w.stay n k)

pub own_kept : (G : Ground) (w : Picture) (e : Effect) → Allowed G w e → AllPended G w → AllOwn G w → AllOwn G (act G e w)
own_kept G w e ok p h n k = own_step G w (act G e w) n k _ _ (steps G w e ok n k) (p n k) (h n k)

pub own_start : (G : Ground) → AllOwn G start
own_start G n k = record { numbered = λ r i es z. no_some z; out = λ r b z. no_some z; pending = λ r d z. differ z refl; records = λ r i es z. no_some z }

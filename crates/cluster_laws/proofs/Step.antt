-- How a node and a stay of it change at a line.
use Rattle.std.proofs.Common.{◌≡◌, ℕ, Bool, not, List, Option, Some, None, refl, subst, ◌⊎◌, inl, inr}
use Rattle.conflict_order.specs.declared.version.Version.{Version}
use Rattle.cluster_types.specs.declared.cluster_key.ClusterKey.{ClusterKey}
use Rattle.cluster_types.specs.Partitions.{partition_of}
use Rattle.wire_messages.specs.declared.message.Batch.{Batch}
use Rattle.wire_messages.specs.declared.message.Message.{Message}
use Rattle.wire_messages.specs.declared.message.Message.TheVariants as message
use Rattle.cluster_laws.specs.Changed.{at_number, at_stay}
use Rattle.cluster_laws.specs.Ground.{Ground}
use Rattle.cluster_laws.specs.Stay.{Versions, Running, Stay}
use Rattle.cluster_laws.specs.Picture.{Seen, Picture}
use Rattle.cluster_laws.specs.Effect.{Effect, Nothing, Sets_clock, Enters, Stops, Exchanges, Opens, Answers, Applies, Finishes, Gives_up, Merges, Hands, Settles, Learns, Drops, Sends, Row_came, Batch_acked, Told, Write_came, Write_acked, Answered}
use Rattle.cluster_laws.specs.Changes as changes
use Rattle.cluster_laws.specs.Changes.{act, stay_after_write, seen_after_write, stay_at_entry, sends_message}
use Rattle.cluster_laws.specs.Licences.{MayEnter, MayExchange, MayOpen, MayAnswer, MayApply, MayFinish, MayGiveUp, MayMerge, MayHand, MaySettle, MayLearn, MayDrop, MayBatch, MaySendIf}
use Rattle.cluster_laws.proofs.At.{key_cases, each_stay, each_place, each_node}
use Rattle.cluster_laws.proofs.Apart.{Apart, apart_exchange, apart_apply, apart_merge, apart_learn, apart_drop, apart_write}
use Rattle.cluster_laws.proofs.Allowed.{RowCame, BatchAcked, WasTold, WriteCame, WriteAcked, WasAnswered, Allowed}

-- the ways in which a node and its stay change while it is in the view, from the picture w to v
pub data Within (G : Ground) (w v : Picture) (n : ℕ) (k : ClusterKey) : Seen → Stay → Type 0 where
  exchange : MayExchange G w n k → Within G w v n k (record (w.node n) { stamp = changes.whole_where_empty G n k (w.node n) (w.stay n k) }) (changes.stay_after_exchange G n k (w.node n).content (w.stay n k))
  begin : (t : ℕ) (d : List ℕ) → MayOpen G w n k t d → v ≡ changes.opens G n k t d w → Within G w v n k (w.node n) (changes.beginning G n k t d (w.node n).content (w.stay n k))
  answer : (t : ℕ) (d : List ℕ) (o : Option Version) → MayAnswer w n k t d o → Within G w v n k (w.node n) (changes.stay_without_transaction t (w.stay n k))
  apply : (t : ℕ) (d : List ℕ) (u : Version) (early : Bool) → MayApply w n k t d u → v ≡ changes.applies G n k t d u w → early ≡ not (w.settled k (partition_of d))
      → Within G w v n k (seen_after_write G n k d u (stay_after_write G n k t d u early (w.stay n k)) (w.node n)) (stay_after_write G n k t d u early (w.stay n k))
  finish : (t : ℕ) → MayFinish w n k t → Within G w v n k (w.node n) (changes.finishing t (w.stay n k))
  give_up : (t : ℕ) → MayGiveUp w n k → Within G w v n k (w.node n) (changes.giving_up t (w.stay n k))
  merge : (d : List ℕ) (u : Version) → MayMerge G w n k d u → v ≡ changes.merges G n k d u w → Within G w v n k (changes.seen_after_merge G k d u (w.node n)) (changes.holding G d u (w.stay n k))
  hand : (p : ℕ) → MayHand G w n k p → v ≡ changes.hands_over n k p w → Within G w v n k (w.node n) (changes.stay_after_hand_over p (w.stay n k))
  settle : (p : ℕ) → MaySettle G w n k p → v ≡ changes.settles_partition n k p w → Within G w v n k (w.node n) (changes.stay_after_settling p (w.stay n k))
  learn : (p : ℕ) → MayLearn G w n k p → Within G w v n k (changes.seen_after_learning G n k p (w.stay n k) (w.node n)) (w.stay n k)
  drop : (p : ℕ) → MayDrop G w n k p
      → Within G w v n k (changes.seen_after_drop p (w.node n)) (w.stay n k)
  batch : (r : ℕ) (b : Batch) → MayBatch w n r b → b.key ≡ k → Within G w v n k (w.node n) (changes.stay_after_batch r b (w.stay n k))
  row : (r : ℕ) → RowCame w n k r
      → Within G w v n k (w.node n) (changes.stay_with_row r (w.stay n k))
  batch_acked : (r : ℕ) (b : Batch) → BatchAcked w n k r b → Within G w v n k (w.node n) (changes.stay_without_batch r b (w.stay n k))
  told : (r : ℕ) (done handed settled : List Bool) → WasTold w n k r done handed settled → Within G w v n k (w.node n) (changes.stay_with_bits r done handed settled (w.stay n k))
  write : (r nth : ℕ) (d : List ℕ) (u : Version) → WriteCame w n k r nth d u → v ≡ changes.takes_write G n k r nth d u w
      → Within G w v n k (changes.seen_after_count G n k r (partition_of d) (changes.hearing G k r nth (partition_of d) (w.stay n k)) (w.node n)) (changes.hearing G k r nth (partition_of d) (w.stay n k))
  write_acked : (r t : ℕ) (y : Running) → WriteAcked w n k r t y → Within G w v n k (w.node n) (changes.running_as t (changes.running_acknowledged r y) (w.stay n k))
  answered : (r t : ℕ) (o : Option Version) (y : Running) → WasAnswered w n k r t o y → Within G w v n k (w.node n) (changes.running_as t (changes.running_with_answer G.by r o y) (w.stay n k))

-- the ways in which a node and any stay of it change
pub data Step (G : Ground) (w v : Picture) (n : ℕ) (k : ClusterKey) : Seen → Stay → Type 0 where
  same : Step G w v n k (w.node n) (w.stay n k)
  clock : (time : ℕ) → Step G w v n k (record (w.node n) { clock = time }) (w.stay n k)
  enter : MayEnter G w n k → v ≡ changes.enters G n k w → Step G w v n k (record (w.node n) { view = Some k; last = k }) (stay_at_entry n (w.node n).content)
  -- another view is entered
  leave : (j : ClusterKey) → MayEnter G w n j → (j ≡ k → ⊥) → Step G w v n k (record (w.node n) { view = Some j; last = j }) (w.stay n k)
  stop : Step G w v n k (record (w.node n) { view = None }) (w.stay n k)
  -- the node changes in another view
  away : (j : ClusterKey) → (w.node n).view ≡ Some j → (j ≡ k → ⊥) → (content : Versions) (stamp : ℕ → Option (ClusterKey × ℕ)) → Apart k (w.node n) content stamp → Step G w v n k (record (w.node n) { content = content; stamp = stamp }) (w.stay n k)
  within : (x : Seen) (s : Stay) → (w.node n).view ≡ Some k → Within G w v n k x s → Step G w v n k x s

-- one stay changes
one_stay : (G : Ground) (w v : Picture) (n : ℕ) (k : ClusterKey) (s : Stay) → Step G w v n k (w.node n) s
    → (m : ℕ) (j : ClusterKey) → Step G w v m j (w.node m) (at_stay w.stay n k s m j)
one_stay G w v n k s here = each_stay (λ m j z. Step G w v m j (w.node m) z) w.stay n k s here (λ m j. same)

-- a node and a stay of it change, and its other stays don't
one_place : (G : Ground) (w v : Picture) (n : ℕ) (k : ClusterKey) (x : Seen) (s : Stay) → Step G w v n k x s → ((j : ClusterKey) → (k ≡ j → ⊥) → Step G w v n j x (w.stay n j))
    → (m : ℕ) (j : ClusterKey) → Step G w v m j (at_number w.node n x m) (at_stay w.stay n k s m j)
one_place G w v n k x s here other = each_place (Step G w v) w.node w.stay n k x s here other (λ m j. same)

-- a node changes
one_node : (G : Ground) (w v : Picture) (n : ℕ) (x : Seen) → ((j : ClusterKey) → Step G w v n j x (w.stay n j))
    → (m : ℕ) (j : ClusterKey) → Step G w v m j (at_number w.node n x m) (w.stay m j)
one_node G w v n x here = each_node (Step G w v) w.node w.stay n x here (λ m j. same)

sent_steps : (G : Ground) (w v : Picture) (n r : ℕ) (o : Option Message) → MaySendIf G w n r o → (m : ℕ) (j : ClusterKey) → Step G w v m j (w.node m) (sends_message n r o w.stay m j)
sent_steps G w v n r (Some (message.Batch b)) ok = one_stay G w v n b.key _ (within (w.node n) _ ok.is_in.view (batch r b ok refl))
sent_steps G w v n r (Some (message.Heartbeat a b c d)) ok = λ m j. same
sent_steps G w v n r _ ok = λ m j. same

pub steps : (G : Ground) (w : Picture) (e : Effect) → Allowed G w e → (m : ℕ) (j : ClusterKey) → Step G w (act G e w) m j ((act G e w).node m) ((act G e w).stay m j)
steps G w Nothing ok = λ m j. same
steps G w (Sets_clock n time) ok = one_node G w _ n _ (λ j. clock time)
steps G w (Enters n k) ok = one_place G w _ n k _ _ (enter ok refl) (λ j apart. leave k ok apart)
steps G w (Stops n) ok = one_node G w _ n _ (λ j. stop)
steps G w (Exchanges n k) ok = one_place G w _ n k _ _ (within _ _ ok.is_in.view (exchange ok)) (λ j apart. away k ok.is_in.view apart (w.node n).content (changes.whole_where_empty G n k (w.node n) (w.stay n k)) (apart_exchange G n k j (w.node n) (w.stay n k) apart))
steps G w (Opens n k t d) ok = one_stay G w _ n k _ (within _ _ ok.is_in.view (begin t d ok refl))
steps G w (Answers n k t) ok = one_stay G w _ n k _ (within _ _ ok.2.resolved.is_in.view (answer t ok.0 ok.1 ok.2))
steps G w (Applies n k t d u) ok = one_place G w _ n k _ _ (within _ _ ok.resolved.is_in.view (apply t d u _ ok refl refl))
    (λ j apart. away k ok.resolved.is_in.view apart _ _ (apart_apply G n k j d u (stay_after_write G n k t d u (not (w.settled k (partition_of d))) (w.stay n k)) (w.node n) apart))
steps G w (Finishes n k t) ok = one_stay G w _ n k _ (within _ _ ok.is_in.view (finish t ok))
steps G w (Gives_up n k t) ok = one_stay G w _ n k _ (within _ _ ok.view (give_up t ok))
steps G w (Merges n k d u) ok = one_place G w _ n k _ _ (within _ _ ok.is_in.view (merge d u ok refl)) (λ j apart. away k ok.is_in.view apart _ _ (apart_merge G k j d u (w.node n) apart))
steps G w (Hands n k p) ok = one_stay G w _ n k _ (within _ _ ok.is_in.view (hand p ok refl))
steps G w (Settles n k p) ok = one_stay G w _ n k _ (within _ _ ok.is_in.view (settle p ok refl))
steps G w (Learns n k p) ok = one_node G w _ n _ (λ j. go j (key_cases k j))
  where
    go : (j : ClusterKey) → (k ≡ j) ⊎ (k ≡ j → ⊥) → Step G w (changes.learns_copy G n k p w) n j (changes.seen_after_learning G n k p (w.stay n k) (w.node n)) (w.stay n j)
    go j (inl e) = subst (λ (z : ClusterKey). Step G w (changes.learns_copy G n k p w) n z (changes.seen_after_learning G n k p (w.stay n k) (w.node n)) (w.stay n z)) e (within _ _ ok.is_in.view (learn p ok))
    go j (inr e) = away k ok.is_in.view e _ _ (apart_learn G n k j p (w.stay n k) (w.node n) e)
steps G w (Drops n k p) ok = one_node G w _ n _ (λ j. go j (key_cases k j))
  where
    go : (j : ClusterKey) → (k ≡ j) ⊎ (k ≡ j → ⊥) → Step G w (changes.drops_copy n p w) n j (changes.seen_after_drop p (w.node n)) (w.stay n j)
    go j (inl e) = subst (λ (z : ClusterKey). Step G w (changes.drops_copy n p w) n z (changes.seen_after_drop p (w.node n)) (w.stay n z)) e (within _ _ ok.is_in.view (drop p ok))
    go j (inr e) = away k ok.is_in.view e _ _ (apart_drop k j p (w.node n) e)
steps G w (Sends i p) ok = sent_steps G w _ p.from p.to p.message ok.1
steps G w (Row_came n k from) ok = one_stay G w _ n k _ (within _ _ ok.came.view (row from ok))
steps G w (Batch_acked n k from b) ok = one_stay G w _ n k _ (within _ _ ok.came.view (batch_acked from b ok))
steps G w (Told n k from done handed settled) ok = one_stay G w _ n k _ (within _ _ ok.came.view (told from done handed settled ok))
steps G w (Write_came n k from nth d u) ok = one_place G w _ n k _ _ (within _ _ ok.came.view (write from nth d u ok refl)) (λ j apart. away k ok.came.view apart _ _ (apart_write G n k j from (partition_of d) (changes.hearing G k from nth (partition_of d) (w.stay n k)) (w.node n) apart))
steps G w (Write_acked n k from t y) ok = one_stay G w _ n k _ (within _ _ ok.came.view (write_acked from t y ok))
steps G w (Answered n k from t o y) ok = one_stay G w _ n k _ (within _ _ ok.came.view (answered from t o y ok))

-- What messages say stays true.
use Rattle.std.proofs.Common.{◌≡◌, ℕ, List, Option, Some, refl, sym, ap, ◌∙◌, subst, arith, inl, inr, ⊎_elim}
use Rattle.conflict_order.specs.declared.version.Version.{Version}
use Rattle.conflict_order.specs.Join.{AtMost}
use Rattle.conflict_order.proofs.OrderLaws.{AtMost_trans}
use Rattle.cluster_types.specs.declared.cluster_key.ClusterKey.{ClusterKey}
use Rattle.cluster_types.specs.Partitions.{partition_of}
use Rattle.wire_messages.specs.declared.message.Batch.{Batch}
use Rattle.wire_messages.specs.declared.message.Message.{Message}
use Rattle.wire_messages.specs.declared.message.Message.TheVariants as message
use Rattle.cluster_laws.specs.Changed.{at_key}
use Rattle.cluster_laws.specs.Ground.{Ground}
use Rattle.cluster_laws.specs.Stay.{Versions, Stay}
use Rattle.cluster_laws.specs.Picture.{Packet, Picture, start}
use Rattle.cluster_laws.specs.Effect.{Effect, Nothing, Sends}
use Rattle.cluster_laws.specs.Changes.{act, sends_message, stay_after_batch}
use Rattle.cluster_laws.specs.Licences.{IsDone, MaySend, MaySendIf}
use Rattle.cluster_laws.proofs.At.{numbers, keys, changed_either, changed_here, pair_here, some_same, no_some}
use Rattle.cluster_laws.proofs.Allowed.{Allowed}
use Rattle.cluster_laws.proofs.Stays.{AllEntered}
use Rattle.cluster_laws.proofs.Own.{AllOwn}
use Rattle.cluster_laws.proofs.Txns.{WriteOf, AllTxns}
use Rattle.cluster_laws.proofs.Grows.{Grows}
use Rattle.cluster_laws.proofs.Predicates.{Below, Wrote, HasWrite, Says}
use Rattle.cluster_laws.proofs.Inside.{AllHeld, AllInside, AllSays, AllCross}

-- ---- what is said grows

pub done_grows : (G : Ground) (w v : Picture) → Grows G.by w v → (n : ℕ) (k : ClusterKey) (p : ℕ) → IsDone (w.stay n k) p → IsDone (v.stay n k) p
done_grows G w v g n k p h = record { exchanged = (g.stay n k).exchanged h.exchanged; none = λ r d e. (g.stay n k).pending h.exchanged r d (h.none r d e) }

pub has_grows : (G : Ground) (w v : Picture) → Grows G.by w v → (n r : ℕ) (k : ClusterKey) (d : List ℕ) (u : Version) (nth : ℕ) → HasWrite G w n r k d u nth → HasWrite G v n r k d u nth
has_grows G w v g n r k d u nth h = record { held = AtMost_trans h.held ((g.stay r k).held d); counted = λ e. (g.stay r k).numbers (partition_of d) nth (h.counted e) }

pub says_grows : (G : Ground) (w v : Picture) → Grows G.by w v → (n r : ℕ) (m : Message) → Says G w n r m → Says G v n r m
says_grows G w v g n r (message.State k wants row) s = ((g.stay n k).entered s).0
says_grows G w v g n r (message.Batch b) s = (g.stay n b.key).batch r b.number b.records s
says_grows G w v g n r (message.BatchAck k number) s = record { records = s.records; sent = (g.stay r k).batch n number s.records s.sent; held = λ d u i. AtMost_trans (s.held d u i) ((g.stay n k).held d) }
says_grows G w v g n r (message.Progress k wants done handed settled) s = record { done = λ p e. done_grows G w v g n k p (s.done p e); handed = λ p e. g.handed k p (s.handed p e); settled = λ p e. g.settled k p (s.settled p e) }
says_grows G w v g n r (message.Repl k t nth d u) s = record { early = s.early; write = (g.stay n k).writes t _ s.write; replica = s.replica; other = s.other }
says_grows G w v g n r (message.ReplAck k t) s = record { write = s.write; made = (g.stay r k).writes t s.write s.made; has = has_grows G w v g r n k s.write.digest s.write.version s.write.nth s.has }
says_grows G w v g n r (message.Ask k t d) s = (g.stay n k).begun t d s
says_grows G w v g n r (message.Answer k t o) s = record {
  digest = s.digest;
  begun = (g.stay r k).begun t s.digest s.begun;
  entered = ((g.stay n k).entered s.entered).0;
  fold = AtMost_trans s.fold (g.fold k s.digest);
  entry = ⊎_elim (λ z. inl (subst (λ (f : Versions). AtMost G.by (f s.digest) o) (sym ((g.stay n k).entered s.entered).1) z)) (λ z. inr (g.settled k (partition_of s.digest) z)) s.entry;
}
says_grows G w v g n r _ s = tt

-- ---- a message that is sent

pub record Known (G : Ground) (w : Picture) : Type 0 where
  pub entered : AllEntered G w
  pub own : AllOwn G w
  pub txns : AllTxns w
  pub held : AllHeld G w
  pub inside : AllInside G w
  pub below : (n : ℕ) (k : ClusterKey) → Below G w k (w.stay n k)
  pub says : AllSays G w
  pub cross : AllCross G w

-- all but batches say what is so before the line
said : (G : Ground) (w : Picture) → Known G w → (n r : ℕ) (m : Message) → MaySend G w n r m → ((b : Batch) → m ≡ message.Batch b → Says G w n r m) → Says G w n r m
said G w h n r (message.State k wants row) ok batch = ((h.entered n k).now ok.is_in.view).0
said G w h n r (message.Batch b) ok batch = batch b refl
said G w h n r (message.BatchAck k number) ok batch = record {
  records = ok.batch.records;
  sent = subst (λ (i : ℕ). (w.stay r k).batch n i ≡ Some ok.batch.records) ok.named.1 (subst (λ (j : ClusterKey). (w.stay r j).batch n ok.batch.number ≡ Some ok.batch.records) ok.named.0 (h.says r n (message.Batch ok.batch) ok.came));
  held = λ d u i. AtMost_trans (ok.held d u i) ((h.inside n k ok.is_in.view).held d);
}
said G w h n r (message.Progress k wants done handed settled) ok batch = record { done = ok.done; handed = λ p e. (h.cross n k).handed p (ok.handed p e); settled = λ p e. (h.cross n k).settled p (ok.settled p e) }
said G w h n r (message.Repl k t nth d u) ok batch = let o : WriteOf (w.stay n k).writes t ok.transaction.digest (record { version = u; nth = nth }) = (h.txns n k).applied t ok.transaction _ ok.running ok.applied in
    record { early = o.early; write = subst (λ (c : List ℕ). (w.stay n k).writes t ≡ Some (record { digest = c; version = u; nth = nth; early = o.early })) ok.digest o.here; replica = ok.replica; other = ok.other }
said G w h n r (message.ReplAck k t) ok batch = let o : Wrote G w r n k t ok.nth ok.digest ok.version = h.says r n (message.Repl k t ok.nth ok.digest ok.version) ok.came in
    record { write = record { digest = ok.digest; version = ok.version; nth = ok.nth; early = o.early }; made = o.write; has = record { held = AtMost_trans ok.held ((h.inside n k ok.is_in.view).held ok.digest); counted = ok.counted } }
said G w h n r (message.Ask k t d) ok batch = ((h.txns n k).running t ok.transaction ok.running).2 ∙ ap Some ok.digest
said G w h n r (message.Answer k t o) ok batch = record {
  digest = ok.digest;
  begun = h.says r n (message.Ask k t ok.digest) ok.came;
  entered = ((h.entered n k).now ok.is_in.view).0;
  fold = subst (λ (z : Option Version). AtMost G.by z (w.fold k ok.digest)) (sym ok.held) (AtMost_trans ((h.inside n k ok.is_in.view).held ok.digest) ((h.below n k).held ok.digest));
  entry = ⊎_elim (λ z. inl (subst (λ (y : Option Version). AtMost G.by ((w.stay n k).entry ok.digest) y) (sym ok.held) z)) inr ((h.inside n k ok.is_in.view).entry ok.digest);
}
said G w h n r _ ok batch = tt

-- a batch that is sent is kept by its number
batch_said : (G : Ground) (w : Picture) (n r : ℕ) (b : Batch) → (sends_message n r (Some (message.Batch b)) w.stay n b.key).batch r b.number ≡ Some b.records
batch_said G w n r b = ap (λ (s : Stay). s.batch r b.number)
    (ap (λ (f : ClusterKey → Stay). f b.key) (changed_here numbers w.stay n (at_key (w.stay n) b.key (stay_after_batch r b (w.stay n b.key)))) ∙ changed_here keys (w.stay n) b.key (stay_after_batch r b (w.stay n b.key)))
    ∙ pair_here (w.stay n b.key).batch r b.number (Some b.records)

new_said : (G : Ground) (w : Picture) (i : ℕ) (p : Packet) → Known G w → Grows G.by w (act G (Sends i p) w) → (m : Message) → p.message ≡ Some m → MaySendIf G w p.from p.to p.message → Says G (act G (Sends i p) w) p.from p.to m
new_said G w i p h g (message.Batch b) e ok = subst (λ (o : Option Message). (sends_message p.from p.to o w.stay p.from b.key).batch p.to b.number ≡ Some b.records) (sym e) (batch_said G w p.from p.to b)
new_said G w i p h g m e ok = says_grows G w (act G (Sends i p) w) g p.from p.to m (said G w h p.from p.to m (subst (MaySendIf G w p.from p.to) e ok) (λ b z. absurd (grind arith)))

pub says_kept : (G : Ground) (w : Picture) (e : Effect) → Allowed G w e → Grows G.by w (act G e w) → Known G w → AllSays G (act G e w)
says_kept G w (Sends i p) ok g h n r m s = changed_either numbers (λ (o : Option Packet). o ≡ Some s.packet → Says G (act G (Sends i p) w) n r m) w.packet i (Some p) s.number
    (λ _ e. new (some_same e)) (λ _ e. says_grows G w _ g n r m (h.says n r m (record { number = s.number; packet = s.packet; sent = e; ends = s.ends; message = s.message }))) s.sent
  where
    new : p ≡ s.packet → Says G (act G (Sends i p) w) n r m
    new e = subst (λ (z : ℕ). Says G (act G (Sends i p) w) z r m) (ap (λ (q : Packet). q.from) e ∙ s.ends.0) (subst (λ (z : ℕ). Says G (act G (Sends i p) w) p.from z m) (ap (λ (q : Packet). q.to) e ∙ s.ends.1)
        (new_said G w i p h g m (ap (λ (q : Packet). q.message) e ∙ s.message) ok.1))
says_kept G w Nothing ok g h n r m s = h.says n r m s
says_kept G w _ ok g h n r m s = says_grows G w _ g n r m (h.says n r m (record { number = s.number; packet = s.packet; sent = s.sent; ends = s.ends; message = s.message }))

pub says_start : (G : Ground) → AllSays G start
says_start G n r m s = no_some s.sent

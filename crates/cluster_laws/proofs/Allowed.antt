-- What stands behind each effect of a line that may stand.
use Rattle.std.proofs.Common.{◌≡◌, ℕ, ◌==◌, Bool, true, false, ◌&&◌, not, List, Option, Some, None, is_some, refl, ap, arith}
use Rattle.std.specs.Prelude.{nat_le}
use Rattle.conflict_order.specs.declared.version.Version.{Version}
use Rattle.conflict_order.specs.Contents.{Write}
use Rattle.cluster_types.specs.declared.cluster_key.ClusterKey.{ClusterKey}
use Rattle.cluster_types.specs.declared.copy_state.CopyState.{CopyState}
use Rattle.cluster_types.specs.Distinct.{contains}
use Rattle.wire_messages.specs.declared.message.Batch.{Batch}
use Rattle.wire_messages.specs.declared.message.Message.{Message}
use Rattle.wire_messages.specs.declared.message.Message.TheVariants as message
use Rattle.journal_lines.specs.declared.line.Line.{Line}
use Rattle.journal_lines.specs.declared.line.Line.TheVariants as line
use Rattle.cluster_laws.specs.Ground.{Ground}
use Rattle.cluster_laws.specs.Stay.{Running}
use Rattle.cluster_laws.specs.Picture.{Packet, Picture}
use Rattle.cluster_laws.specs.Effect.{Effect, Nothing, Sets_clock, Enters, Stops, Exchanges, Opens, Answers, Applies, Finishes, Gives_up, Merges, Hands, Settles, Learns, Drops, Sends, Row_came, Batch_acked, Told, Write_came, Write_acked, Answered, is_view_key, effect_if, batch_ack, write_ack, answer_effect, comes, comes_if, arrives, arrives_cut, effect}
use Rattle.cluster_laws.specs.Licences.{WasSent, MayEnter, MayExchange, MayOpen, MayAnswer, MayApply, MayFinish, MayGiveUp, MayMerge, MayHand, MaySettle, MayLearn, MayDrop, MaySendIf, Ok}
use Rattle.cluster_laws.proofs.At.{key_same, number_same, and_left, and_right}

-- a message of the view came to the node
pub record Came (w : Picture) (n : ℕ) (k : ClusterKey) (from : ℕ) (m : Message) : Type 0 where
  pub view : (w.node n).view ≡ Some k
  pub sent : WasSent w from n m

pub record RowCame (w : Picture) (n : ℕ) (k : ClusterKey) (from : ℕ) : Type 0 where
  pub wants : Bool
  pub row : List (ℕ × CopyState)
  pub came : Came w n k from (message.State k wants row)

pub record BatchAcked (w : Picture) (n : ℕ) (k : ClusterKey) (from : ℕ) (b : Batch) : Type 0 where
  pub out : (w.stay n k).out from ≡ Some b
  pub came : Came w n k from (message.BatchAck k b.number)

pub record WasTold (w : Picture) (n : ℕ) (k : ClusterKey) (from : ℕ) (done handed settled : List Bool) : Type 0 where
  pub wants : Bool
  pub came : Came w n k from (message.Progress k wants done handed settled)

pub record WriteCame (w : Picture) (n : ℕ) (k : ClusterKey) (from nth : ℕ) (d : List ℕ) (v : Version) : Type 0 where
  pub number : ℕ
  pub came : Came w n k from (message.Repl k number nth d v)

pub record WriteAcked (w : Picture) (n : ℕ) (k : ClusterKey) (from t : ℕ) (y : Running) : Type 0 where
  pub running : (w.stay n k).running t ≡ Some y
  pub write : Write
  pub applied : y.applied ≡ Some write
  pub awaited : contains y.awaiting from ≡ true
  pub came : Came w n k from (message.ReplAck k t)

pub record WasAnswered (w : Picture) (n : ℕ) (k : ClusterKey) (from t : ℕ) (v : Option Version) (y : Running) : Type 0 where
  pub running : (w.stay n k).running t ≡ Some y
  pub unapplied : y.applied ≡ None
  pub awaited : contains y.awaiting from ≡ true
  pub came : Came w n k from (message.Answer k t v)

abbrev pub Allowed : Ground → Picture → Effect → Type 0
Allowed G w Nothing = Unit {0}
Allowed G w (Sets_clock n time) = Unit {0}
Allowed G w (Enters n k) = MayEnter G w n k
Allowed G w (Stops n) = Unit {0}
Allowed G w (Exchanges n k) = MayExchange G w n k
Allowed G w (Opens n k t d) = MayOpen G w n k t d
Allowed G w (Answers n k t) = (d : List ℕ) × (v : Option Version) × MayAnswer w n k t d v
Allowed G w (Applies n k t d v) = MayApply w n k t d v
Allowed G w (Finishes n k t) = MayFinish w n k t
Allowed G w (Gives_up n k t) = MayGiveUp w n k
Allowed G w (Merges n k d v) = MayMerge G w n k d v
Allowed G w (Hands n k p) = MayHand G w n k p
Allowed G w (Settles n k p) = MaySettle G w n k p
Allowed G w (Learns n k p) = MayLearn G w n k p
Allowed G w (Drops n k p) = MayDrop G w n k p
Allowed G w (Sends i p) = (w.packet i ≡ None) × MaySendIf G w p.from p.to p.message
Allowed G w (Row_came n k from) = RowCame w n k from
Allowed G w (Batch_acked n k from b) = BatchAcked w n k from b
Allowed G w (Told n k from done handed settled) = WasTold w n k from done handed settled
Allowed G w (Write_came n k from nth d v) = WriteCame w n k from nth d v
Allowed G w (Write_acked n k from t y) = WriteAcked w n k from t y
Allowed G w (Answered n k from t v y) = WasAnswered w n k from t v y

view_is : (o : Option ClusterKey) (k : ClusterKey) → is_view_key o k ≡ true → o ≡ Some k
view_is None k e = absurd (grind arith)
view_is (Some j) k e = ap Some (key_same j k e)

allowed_if : (G : Ground) (w : Picture) (e : Effect) (b : Bool) → (b ≡ true → Allowed G w e) → Allowed G w (effect_if e b)
allowed_if G w e true a = a refl
allowed_if G w e false a = tt

is_there : {A : Type 0} (o : Option A) → is_some o ≡ true → (a : A) × (o ≡ Some a)
is_there None e = absurd (grind arith)
is_there (Some a) e = (a, refl)

not_there : {A : Type 0} (o : Option A) → not (is_some o) ≡ true → o ≡ None
not_there None e = refl
not_there (Some a) e = absurd (grind arith)

allowed_batch_ack : (G : Ground) (w : Picture) (n : ℕ) (k : ClusterKey) (from number : ℕ) (o : Option Batch) → (w.stay n k).out from ≡ o → Came w n k from (message.BatchAck k number) → Allowed G w (batch_ack n k from number o)
allowed_batch_ack G w n k from number None e c = tt
allowed_batch_ack G w n k from number (Some b) e c = allowed_if G w _ (b.number == number) (λ i. record { out = e; came = record { view = c.view; sent = rw (number_same b.number number i) c.sent } })

allowed_write_ack : (G : Ground) (w : Picture) (n : ℕ) (k : ClusterKey) (from t : ℕ) (o : Option Running) → (w.stay n k).running t ≡ o → Came w n k from (message.ReplAck k t) → Allowed G w (write_ack n k from t o)
allowed_write_ack G w n k from t None e c = tt
allowed_write_ack G w n k from t (Some y) e c = allowed_if G w (Write_acked n k from t y) (is_some y.applied && contains y.awaiting from)
    (λ i. let u = is_there y.applied (and_left (is_some y.applied) (contains y.awaiting from) i) in
    record { running = e; write = u.0; applied = u.1; awaited = and_right (is_some y.applied) (contains y.awaiting from) i; came = c })

allowed_answer : (G : Ground) (w : Picture) (n : ℕ) (k : ClusterKey) (from t : ℕ) (v : Option Version) (o : Option Running) → (w.stay n k).running t ≡ o → Came w n k from (message.Answer k t v) → Allowed G w (answer_effect n k from t v o)
allowed_answer G w n k from t v None e c = tt
allowed_answer G w n k from t v (Some y) e c = allowed_if G w (Answered n k from t v y) (not (is_some y.applied) && contains y.awaiting from)
    (λ i. record { running = e; unapplied = not_there y.applied (and_left (not (is_some y.applied)) (contains y.awaiting from) i); awaited = and_right (not (is_some y.applied)) (contains y.awaiting from) i; came = c })

came_in : (w : Picture) (n : ℕ) (k : ClusterKey) (from : ℕ) (m : Message) → WasSent w from n m → is_view_key (w.node n).view k ≡ true → Came w n k from m
came_in w n k from m s e = record { view = view_is (w.node n).view k e; sent = s }

allowed_comes : (G : Ground) (w : Picture) (n from : ℕ) (m : Message) → WasSent w from n m → Allowed G w (comes w n from m)
allowed_comes G w n from (message.State k wants row) s = allowed_if G w (Row_came n k from) (is_view_key (w.node n).view k) (λ e. record { wants = wants; row = row; came = came_in w n k from _ s e })
allowed_comes G w n from (message.BatchAck k number) s = allowed_if G w (batch_ack n k from number ((w.stay n k).out from)) (is_view_key (w.node n).view k) (λ e. allowed_batch_ack G w n k from number _ refl (came_in w n k from _ s e))
allowed_comes G w n from (message.Progress k wants done handed settled) s = allowed_if G w (Told n k from done handed settled) (is_view_key (w.node n).view k) (λ e. record { wants = wants; came = came_in w n k from _ s e })
allowed_comes G w n from (message.Repl k t nth d v) s = allowed_if G w (Write_came n k from nth d v) (is_view_key (w.node n).view k) (λ e. record { number = t; came = came_in w n k from _ s e })
allowed_comes G w n from (message.ReplAck k t) s = allowed_if G w (write_ack n k from t ((w.stay n k).running t)) (is_view_key (w.node n).view k) (λ e. allowed_write_ack G w n k from t _ refl (came_in w n k from _ s e))
allowed_comes G w n from (message.Answer k t v) s = allowed_if G w (answer_effect n k from t v ((w.stay n k).running t)) (is_view_key (w.node n).view k) (λ e. allowed_answer G w n k from t v _ refl (came_in w n k from _ s e))
allowed_comes G w n from _ s = tt

allowed_packet : (G : Ground) (w : Picture) (i : ℕ) (p : Packet) → w.packet i ≡ Some p → (o : Option Message) → p.message ≡ o → Allowed G w (comes_if w p.to p.from o)
allowed_packet G w i p e None s = tt
allowed_packet G w i p e (Some m) s = allowed_comes G w p.to p.from m (record { number = i; packet = p; sent = e; ends = (refl, refl); message = s })

allowed_arrives : (G : Ground) (w : Picture) (i : ℕ) (o : Option Packet) → w.packet i ≡ o → Allowed G w (arrives w o)
allowed_arrives G w i None e = tt
allowed_arrives G w i (Some p) e = allowed_packet G w i p e p.message refl

allowed_cut : (G : Ground) (w : Picture) (i size : ℕ) (o : Option Packet) → w.packet i ≡ o → Allowed G w (arrives_cut w size o)
allowed_cut G w i size None e = tt
allowed_cut G w i size (Some p) e = allowed_if G w (comes_if w p.to p.from p.message) (nat_le p.size size) (λ _. allowed_packet G w i p e p.message refl)

pub allowed : (G : Ground) (w : Picture) (l : Line) → Ok G w l → Allowed G w (effect w l)
allowed G w (line.Enter n k members) ok = ok.1.1
allowed G w (line.Exchanged n k) ok = ok.1
allowed G w (line.Opened n k t d action) ok = ok.1
allowed G w (line.Value n k t d v) ok = (d, v, ok.1)
allowed G w (line.Apply n k t d v) ok = ok.1
allowed G w (line.Done n k t) ok = ok.1
allowed G w (line.Aborted n k t) ok = ok.1
allowed G w (line.Doubt n k t) ok = ok.1
allowed G w (line.Merge n k d v) ok = ok
allowed G w (line.Handed n k p) ok = ok.1
allowed G w (line.Settled n k p) ok = ok.1
allowed G w (line.Learn n k p) ok = ok.1
allowed G w (line.Drop n k p) ok = ok.1
allowed G w (line.Sent i a b bytes) ok = ok.1
allowed G w (line.Deliver i a b) ok = allowed_arrives G w i (w.packet i) refl
allowed G w (line.Repeat i a b) ok = allowed_arrives G w i (w.packet i) refl
allowed G w (line.Cut i a b size) ok = allowed_cut G w i size (w.packet i) refl
allowed G w _ ok = tt

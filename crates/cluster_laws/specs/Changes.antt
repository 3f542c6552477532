-- The picture after an effect.
use Rattle.std.specs.Prelude.{ℕ, ◌+◌, ◌==◌, ◌&&◌, ◌||◌, Bool, true, false, not, is_some, if◌then◌else◌, List, [], Option, Some, None, option_map}
use Rattle.conflict_order.specs.declared.policy.Policy.{Policy}
use Rattle.conflict_order.specs.declared.version.Version.{Version}
use Rattle.conflict_order.specs.Join.{join}
use Rattle.conflict_order.specs.Order.{is_newer}
use Rattle.conflict_order.specs.Contents.{is_among}
use Rattle.cluster_types.specs.declared.cluster_key.ClusterKey.{ClusterKey}
use Rattle.cluster_types.specs.Distinct.{without}
use Rattle.cluster_types.specs.Partitions.{partition_of}
use Rattle.cluster_types.specs.Rows.{bit}
use Rattle.cluster_types.specs.Copies.{is_of}
use Rattle.partition_lists.specs.Counts.{with_number, count_of, recounted, spoiled}
use Rattle.wire_messages.specs.declared.message.Batch.{Batch}
use Rattle.wire_messages.specs.declared.message.Message.{Message}
use Rattle.wire_messages.specs.declared.message.Message.TheVariants as message
use Rattle.cluster_laws.specs.Changed.{at_number, at_key, at_digest, at_stay, at_part, at_pair}
use Rattle.cluster_laws.specs.Ground.{Ground, view_master, is_view_replica, other_view_replicas, is_view_empty, view_sends_to, asks}
use Rattle.cluster_laws.specs.Stay.{Versions, Running, Stay, blank}
use Rattle.cluster_laws.specs.Picture.{Seen, Packet, Owed, Picture}
use Rattle.cluster_laws.specs.Effect.{Effect, Nothing, Sets_clock, Enters, Stops, Exchanges, Opens, Answers, Applies, Finishes, Gives_up, Merges, Hands, Settles, Learns, Drops, Sends, Row_came, Batch_acked, Told, Write_came, Write_acked, Answered}

-- ---- versions

-- with one version more at a digest
abbrev pub with_version : Policy → Versions → List ℕ → Version → Versions
with_version by f d v = at_digest f d (join by (f d) (Some v))

-- with all of those versions
abbrev pub with_all : Policy → Versions → Versions → Versions
with_all by f g d = join by (f d) (g d)

-- without the versions of a partition
abbrev pub without_part : Versions → ℕ → Versions
without_part f p d = if is_of p d then None else f d

-- ---- stamps

-- a change of the partition's stamp, where it has one
abbrev pub restamped : Seen → ℕ → (ClusterKey × ℕ → ClusterKey × ℕ) → ℕ → Option (ClusterKey × ℕ)
restamped x p change = at_number x.stamp p (option_map change (x.stamp p))

-- how many of the list master's writes the node's copy has had in the view: its own for the list master, and for
-- another node the numbers that reached it
abbrev pub copy_count : Ground → ClusterKey → ℕ → Stay → ℕ → ℕ
copy_count G k n s p = if view_master G k p == n then s.applies p else count_of (s.numbers p)

-- ---- views

abbrev pub stay_at_entry : ℕ → Versions → Stay
stay_at_entry n content = record blank {
  entered = true;
  entry = content;
  held = content;
  rows = at_number (λ _. false) n true;
}

abbrev pub enters : Ground → ℕ → ClusterKey → Picture → Picture
enters G n k w = record w {
  node = at_number w.node n (record (w.node n) { view = Some k; last = k });
  stay = at_stay w.stay n k (stay_at_entry n (w.node n).content);
  fold = at_key w.fold k (with_all G.by (w.fold k) (w.node n).content);
  base = at_key w.base k (with_all G.by (w.base k) (w.node n).content);
}

abbrev pub stops : ℕ → Picture → Picture
stops n w = record w { node = at_number w.node n (record (w.node n) { view = None }) }

-- every digest that the node holds is pending to those to whom it hands it on
abbrev pub to_hand_on : Ground → ClusterKey → ℕ → Versions → ℕ → List ℕ → Bool
to_hand_on G k n content r d = view_sends_to G k (partition_of d) n r && is_some (content d)

-- a copy of a partition that is empty everywhere is whole, where the node is a replica
abbrev pub whole_where_empty : Ground → ℕ → ClusterKey → Seen → Stay → ℕ → Option (ClusterKey × ℕ)
whole_where_empty G n k x s p =
    if is_view_empty G k p && is_view_replica G k p n
    then Some (k, copy_count G k n s p)
    else x.stamp p

abbrev pub stay_after_exchange : Ground → ℕ → ClusterKey → Versions → Stay → Stay
stay_after_exchange G n k content s = record s {
  exchanged = true;
  pending = to_hand_on G k n content;
}

abbrev pub exchanges : Ground → ℕ → ClusterKey → Picture → Picture
exchanges G n k w = record w {
  node =
      at_number w.node n
      (record (w.node n) { stamp = whole_where_empty G n k (w.node n) (w.stay n k) });
  stay = at_stay w.stay n k (stay_after_exchange G n k (w.node n).content (w.stay n k));
}

-- ---- transactions

-- whom a transaction asks that opens now: nobody where the node knows the partition settled
abbrev pub asks_now : Ground → ClusterKey → ℕ → Stay → ℕ → List ℕ
asks_now G k n s p = if s.settled p || is_view_empty G k p then [] else asks G k p n

abbrev pub running_at_opening : Ground → ClusterKey → ℕ → Versions → Stay → List ℕ → Running
running_at_opening G k n content s d = record {
  digest = d;
  best = content d;
  asked = asks_now G k n s (partition_of d);
  awaiting = asks_now G k n s (partition_of d);
  applied = None;
}

-- the stay with a transaction more
abbrev pub beginning : Ground → ℕ → ClusterKey → ℕ → List ℕ → Versions → Stay → Stay
beginning G n k t d content s = record s {
  opened = s.opened + 1;
  begun = at_number s.begun t (Some d);
  running = at_number s.running t (Some (running_at_opening G k n content s d));
}

abbrev pub opens : Ground → ℕ → ClusterKey → ℕ → List ℕ → Picture → Picture
opens G n k t d w = record w {
  stay = at_stay w.stay n k (beginning G n k t d (w.node n).content (w.stay n k));
}

-- the stay without an open transaction
abbrev pub stay_without_transaction : ℕ → Stay → Stay
stay_without_transaction t s = record s { running = at_number s.running t None }

abbrev pub answers : ℕ → ClusterKey → ℕ → Picture → Picture
answers n k t w = record w { stay = at_stay w.stay n k (stay_without_transaction t (w.stay n k)) }

-- the transaction with its write, which these are to acknowledge
abbrev pub running_with_write : Version → ℕ → List ℕ → Running → Running
running_with_write v nth awaiting y = record y {
  applied = Some (record { version = v; nth = nth });
  awaiting = awaiting;
}

-- the stay after a write
abbrev pub stay_after_write : Ground → ℕ → ClusterKey → ℕ → List ℕ → Version → Bool → Stay → Stay
stay_after_write G n k t d v early s = record s {
  held = with_version G.by s.held d v;
  running =
      at_number s.running t
      (option_map (running_with_write v (s.applies (partition_of d) + 1)
      (other_view_replicas G k (partition_of d) n)) (s.running t));
  writes =
      at_number s.writes t
      (Some (record
      { digest = d; version = v; nth = s.applies (partition_of d) + 1; early = early }));
  applies = at_number s.applies (partition_of d) (s.applies (partition_of d) + 1);
}

-- a write of another than the list master counts as if it had been there before
abbrev pub with_write_of : Ground → ℕ → ClusterKey → List ℕ → Version → (ClusterKey → Versions)
    → ClusterKey → Versions
with_write_of G n k d v base =
    if view_master G k (partition_of d) == n then base
    else at_key base k (with_version G.by (base k) d v)

-- the node after a write of its own, with the stay after it
abbrev pub seen_after_write : Ground → ℕ → ClusterKey → List ℕ → Version → Stay → Seen → Seen
seen_after_write G n k d v s x = record x {
  content = with_version G.by x.content d v;
  stamp =
      restamped x (partition_of d)
      (λ z. recounted k (copy_count G k n s (partition_of d)) (spoiled k z));
}

abbrev pub applies : Ground → ℕ → ClusterKey → ℕ → List ℕ → Version → Picture → Picture
applies G n k t d v w =
    let s : Stay = stay_after_write G n k t d v (not (w.settled k (partition_of d))) (w.stay n k) in
    record w {
      node = at_number w.node n (seen_after_write G n k d v s (w.node n));
      stay = at_stay w.stay n k s;
      fold = at_key w.fold k (with_version G.by (w.fold k) d v);
      base = with_write_of G n k d v w.base;
      applied = with_version G.by w.applied d v;
    }

-- the stay with a write that each other replica has acknowledged
abbrev pub finishing : ℕ → Stay → Stay
finishing t s = record s { running = at_number s.running t None; done = at_number s.done t true }

abbrev pub finishes_write : ℕ → ClusterKey → ℕ → Picture → Picture
finishes_write n k t w = record w { stay = at_stay w.stay n k (finishing t (w.stay n k)) }

-- the stay that is about to end, as a transaction was given up
abbrev pub giving_up : ℕ → Stay → Stay
giving_up t s = record s { running = at_number s.running t None; closing = true }

abbrev pub gives_up : ℕ → ClusterKey → ℕ → Picture → Picture
gives_up n k t w = record w { stay = at_stay w.stay n k (giving_up t (w.stay n k)) }

-- ---- copies

-- the node after a newer version came
abbrev pub seen_after_merge : Ground → ClusterKey → List ℕ → Version → Seen → Seen
seen_after_merge G k d v x = record x {
  content = with_version G.by x.content d v;
  stamp = restamped x (partition_of d) (spoiled k);
}

abbrev pub holding : Ground → List ℕ → Version → Stay → Stay
holding G d v s = record s { held = with_version G.by s.held d v }

abbrev pub merges : Ground → ℕ → ClusterKey → List ℕ → Version → Picture → Picture
merges G n k d v w = record w {
  node = at_number w.node n (seen_after_merge G k d v (w.node n));
  stay = at_stay w.stay n k (holding G d v (w.stay n k));
  owed = None;
}

abbrev pub stay_after_hand_over : ℕ → Stay → Stay
stay_after_hand_over p s = record s {
  handed = at_number s.handed p true;
  own_handed = at_number s.own_handed p true;
}

abbrev pub hands_over : ℕ → ClusterKey → ℕ → Picture → Picture
hands_over n k p w = record w {
  stay = at_stay w.stay n k (stay_after_hand_over p (w.stay n k));
  handed = at_part w.handed k p true;
}

abbrev pub stay_after_settling : ℕ → Stay → Stay
stay_after_settling p s = record s {
  settled = at_number s.settled p true;
  own_settled = at_number s.own_settled p true;
}

abbrev pub settles_partition : ℕ → ClusterKey → ℕ → Picture → Picture
settles_partition n k p w = record w {
  stay = at_stay w.stay n k (stay_after_settling p (w.stay n k));
  settled = at_part w.settled k p true;
}

-- the node with a copy that is whole by the view
abbrev pub seen_after_learning : Ground → ℕ → ClusterKey → ℕ → Stay → Seen → Seen
seen_after_learning G n k p s x = record x {
  stamp = at_number x.stamp p (Some (k, copy_count G k n s p));
}

abbrev pub learns_copy : Ground → ℕ → ClusterKey → ℕ → Picture → Picture
learns_copy G n k p w = record w {
  node = at_number w.node n (seen_after_learning G n k p (w.stay n k) (w.node n));
}

-- the node without a copy
abbrev pub seen_after_drop : ℕ → Seen → Seen
seen_after_drop p x = record x {
  content = without_part x.content p;
  stamp = at_number x.stamp p None;
}

abbrev pub drops_copy : ℕ → ℕ → Picture → Picture
drops_copy n p w = record w { node = at_number w.node n (seen_after_drop p (w.node n)) }

-- ---- messages

-- a batch that was sent is out, and is kept by its number
abbrev pub stay_after_batch : ℕ → Batch → Stay → Stay
stay_after_batch r b s = record s {
  out = at_number s.out r (Some b);
  batches = at_number s.batches r b.number;
  batch = at_pair s.batch r b.number (Some b.records);
}

abbrev pub sends_message : ℕ → ℕ → Option Message → (ℕ → ClusterKey → Stay) → ℕ → ClusterKey → Stay
sends_message n r (Some (message.Batch b)) stay = at_stay stay n b.key
    (stay_after_batch r b (stay n b.key))
sends_message n r _ stay = stay

abbrev pub sends_packet : ℕ → Packet → Picture → Picture
sends_packet i p w = record w {
  packet = at_number w.packet i (Some p);
  stay = sends_message p.from p.to p.message w.stay;
}

abbrev pub stay_with_row : ℕ → Stay → Stay
stay_with_row from s = record s { rows = at_number s.rows from true }

abbrev pub takes_row : ℕ → ClusterKey → ℕ → Picture → Picture
takes_row n k from w = record w { stay = at_stay w.stay n k (stay_with_row from (w.stay n k)) }

-- the batch's digests are no longer pending, and none is out
abbrev pub stay_without_batch : ℕ → Batch → Stay → Stay
stay_without_batch from b s = record s {
  pending = at_number s.pending from (λ d. s.pending from d && not (is_among b.records d));
  out = at_number s.out from None;
}

abbrev pub takes_batch_ack : ℕ → ClusterKey → ℕ → Batch → Picture → Picture
takes_batch_ack n k from b w = record w {
  stay = at_stay w.stay n k (stay_without_batch from b (w.stay n k));
}

-- the sender's done row takes the place of its last one, and the other two are joined
abbrev pub stay_with_bits : ℕ → List Bool → List Bool → List Bool → Stay → Stay
stay_with_bits from done handed settled s = record s {
  told = at_number s.told from (bit done);
  handed = λ p. s.handed p || bit handed p;
  settled = λ p. s.settled p || bit settled p;
}

abbrev pub takes_progress : ℕ → ClusterKey → ℕ → List Bool → List Bool → List Bool → Picture
    → Picture
takes_progress n k from done handed settled w = record w {
  stay = at_stay w.stay n k (stay_with_bits from done handed settled (w.stay n k));
}

-- the numbers with one more, where the list master sent it
abbrev pub heard : Bool → List ℕ → ℕ → List ℕ
heard true numbers nth = with_number numbers nth
heard false numbers nth = numbers

-- the stay after a write came
abbrev pub hearing : Ground → ClusterKey → ℕ → ℕ → ℕ → Stay → Stay
hearing G k from nth p s = record s {
  numbers = at_number s.numbers p (heard (from == view_master G k p) (s.numbers p) nth);
}

-- a stamp of the view's key counts again, where the list master sent the write
abbrev pub recounted_if : Bool → ClusterKey → ℕ → ClusterKey × ℕ → ClusterKey × ℕ
recounted_if true k n z = recounted k n z
recounted_if false k n z = z

abbrev pub seen_after_count : Ground → ℕ → ClusterKey → ℕ → ℕ → Stay → Seen → Seen
seen_after_count G n k from p s x = record x {
  stamp = restamped x p (recounted_if (from == view_master G k p) k (copy_count G k n s p));
}

-- a write came: its merge is owed where the version is newer than what is held
abbrev pub takes_write : Ground → ℕ → ClusterKey → ℕ → ℕ → List ℕ → Version → Picture → Picture
takes_write G n k from nth d v w = record w {
  node =
      at_number w.node n
      (seen_after_count G n k from (partition_of d)
      (hearing G k from nth (partition_of d) (w.stay n k)) (w.node n));
  stay = at_stay w.stay n k (hearing G k from nth (partition_of d) (w.stay n k));
  owed =
      if is_newer G.by v ((w.node n).content d)
      then Some (record { node = n; key = k; digest = d; version = v })
      else None;
}

-- the transaction is as this now
abbrev pub running_as : ℕ → Running → Stay → Stay
running_as t y s = record s { running = at_number s.running t (Some y) }

-- a node's acknowledgement or answer is no longer awaited
abbrev pub running_acknowledged : ℕ → Running → Running
running_acknowledged from y = record y { awaiting = without y.awaiting from }

abbrev pub takes_write_ack : ℕ → ClusterKey → ℕ → ℕ → Running → Picture → Picture
takes_write_ack n k from t y w = record w {
  stay = at_stay w.stay n k (running_as t (running_acknowledged from y) (w.stay n k));
}

abbrev pub running_with_answer : Policy → ℕ → Option Version → Running → Running
running_with_answer by from v y = record y {
  best = join by y.best v;
  awaiting = without y.awaiting from;
}

abbrev pub takes_answer : Ground → ℕ → ClusterKey → ℕ → ℕ → Option Version → Running → Picture
    → Picture
takes_answer G n k from t v y w = record w {
  stay = at_stay w.stay n k (running_as t (running_with_answer G.by from v y) (w.stay n k));
}

-- ---- all effects

abbrev pub act : Ground → Effect → Picture → Picture
act G Nothing w = w
act G (Sets_clock n time) w = record w {
  node = at_number w.node n (record (w.node n) { clock = time });
}
act G (Enters n k) w = enters G n k w
act G (Stops n) w = stops n w
act G (Exchanges n k) w = exchanges G n k w
act G (Opens n k t d) w = opens G n k t d w
act G (Answers n k t) w = answers n k t w
act G (Applies n k t d v) w = applies G n k t d v w
act G (Finishes n k t) w = finishes_write n k t w
act G (Gives_up n k t) w = gives_up n k t w
act G (Merges n k d v) w = merges G n k d v w
act G (Hands n k p) w = hands_over n k p w
act G (Settles n k p) w = settles_partition n k p w
act G (Learns n k p) w = learns_copy G n k p w
act G (Drops n k p) w = drops_copy n p w
act G (Sends i p) w = sends_packet i p w
act G (Row_came n k from) w = takes_row n k from w
act G (Batch_acked n k from b) w = takes_batch_ack n k from b w
act G (Told n k from done handed settled) w = takes_progress n k from done handed settled w
act G (Write_came n k from nth d v) w = takes_write G n k from nth d v w
act G (Write_acked n k from t y) w = takes_write_ack n k from t y w
act G (Answered n k from t v y) w = takes_answer G n k from t v y w

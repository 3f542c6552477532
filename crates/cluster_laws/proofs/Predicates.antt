-- What holds of every picture of a licensed run, as plain predicates.
use Rattle.std.proofs.Common.{◌≡◌, ℕ, Bool, true, false, List, Option, Some, ◌⊎◌}
use Rattle.conflict_order.specs.declared.version.Version.{Version}
use Rattle.conflict_order.specs.Join.{AtMost}
use Rattle.conflict_order.specs.Contents.{Write}
use Rattle.cluster_types.specs.declared.cluster_key.ClusterKey.{ClusterKey}
use Rattle.cluster_types.specs.Partitions.{partition_of}
use Rattle.cluster_types.specs.Rows.{bit}
use Rattle.cluster_types.specs.Distinct.{contains}
use Rattle.wire_messages.specs.declared.message.Message.{Message}
use Rattle.wire_messages.specs.declared.message.Message.TheVariants as message
use Rattle.cluster_laws.specs.Ground.{Ground, is_view_member, view_master, view_acting, is_view_replica, is_view_empty, view_sends_to}
use Rattle.cluster_laws.specs.Stay.{Running, Applied, Stay}
use Rattle.cluster_laws.specs.Picture.{Seen, Picture}
use Rattle.cluster_laws.specs.Licences.{IsAmong, IsDone}

-- ---- what a node holds

-- what a stay has held
pub record Held (G : Ground) (s : Stay) : Type 0 where
  pub entry : (d : List ℕ) → AtMost G.by (s.entry d) (s.held d)
  pub write : (t : ℕ) (e : Applied) → s.writes t ≡ Some e → AtMost G.by (Some e.version) (s.held e.digest)

-- what is held in the view
pub record Inside (G : Ground) (w : Picture) (n : ℕ) (k : ClusterKey) (x : Seen) (s : Stay) : Type 0 where
  pub held : (d : List ℕ) → AtMost G.by (x.content d) (s.held d)
  -- a replica's copy rises
  pub kept : (d : List ℕ) → is_view_replica G k (partition_of d) n ≡ true → AtMost G.by (s.held d) (x.content d)
  pub pended : (r : ℕ) (d : List ℕ) → s.pending r d ≡ true → AtMost G.by (s.entry d) (x.content d)
  -- the content covers what was held on entry and the node's own writes, unless the copy may have been dropped
  pub unexchanged : s.exchanged ≡ false → (d : List ℕ) → AtMost G.by (s.entry d) (x.content d)
  pub entry : (d : List ℕ) → AtMost G.by (s.entry d) (x.content d) ⊎ (w.settled k (partition_of d) ≡ true)
  pub write : (t : ℕ) (e : Applied) → s.writes t ≡ Some e → AtMost G.by (Some e.version) (x.content e.digest) ⊎ (w.settled k (partition_of e.digest) ≡ true)
  -- an outside copy is closed: it has what it had on entry and the node's own writes
  pub outside : (d : List ℕ) (b : Option Version) → is_view_replica G k (partition_of d) n ≡ false → AtMost G.by (s.entry d) b
      → ((t : ℕ) (e : Applied) → s.writes t ≡ Some e → e.digest ≡ d → AtMost G.by (Some e.version) b) → AtMost G.by (x.content d) b

-- ---- what is at most the fold, and was applied

pub record Below (G : Ground) (w : Picture) (k : ClusterKey) (s : Stay) : Type 0 where
  pub held : (d : List ℕ) → AtMost G.by (s.held d) (w.fold k d)
  pub applied : (d : List ℕ) → AtMost G.by (s.held d) (w.applied d)
  pub batch : (r i : ℕ) (es : List (List ℕ × Version)) → s.batch r i ≡ Some es → (d : List ℕ) (u : Version) → IsAmong es d u → AtMost G.by (Some u) (s.held d)
  pub best : (t : ℕ) (y : Running) → s.running t ≡ Some y → AtMost G.by y.best (w.fold k y.digest)

-- ---- what messages say

pub record AckedBatch (G : Ground) (w : Picture) (n r : ℕ) (k : ClusterKey) (number : ℕ) : Type 0 where
  pub records : List (List ℕ × Version)
  pub sent : (w.stay r k).batch n number ≡ Some records
  pub held : (d : List ℕ) (u : Version) → IsAmong records d u → AtMost G.by (Some u) ((w.stay n k).held d)

pub record ToldBits (w : Picture) (n : ℕ) (k : ClusterKey) (done_bits handed_bits settled_bits : List Bool) : Type 0 where
  pub done : (p : ℕ) → bit done_bits p ≡ true → IsDone (w.stay n k) p
  pub handed : (p : ℕ) → bit handed_bits p ≡ true → w.handed k p ≡ true
  pub settled : (p : ℕ) → bit settled_bits p ≡ true → w.settled k p ≡ true

pub record Wrote (G : Ground) (w : Picture) (n r : ℕ) (k : ClusterKey) (t nth : ℕ) (d : List ℕ) (u : Version) : Type 0 where
  pub early : Bool
  pub write : (w.stay n k).writes t ≡ Some (record { digest = d; version = u; nth = nth; early = early })
  pub replica : is_view_replica G k (partition_of d) r ≡ true
  pub other : r ≡ n → ⊥

-- the write is held by the replica, and counts there where the list master made it
pub record HasWrite (G : Ground) (w : Picture) (n r : ℕ) (k : ClusterKey) (d : List ℕ) (u : Version) (nth : ℕ) : Type 0 where
  pub held : AtMost G.by (Some u) ((w.stay r k).held d)
  pub counted : n ≡ view_master G k (partition_of d) → contains ((w.stay r k).numbers (partition_of d)) nth ≡ true

pub record AckedWrite (G : Ground) (w : Picture) (n r : ℕ) (k : ClusterKey) (t : ℕ) : Type 0 where
  pub write : Applied
  pub made : (w.stay r k).writes t ≡ Some write
  pub has : HasWrite G w r n k write.digest write.version write.nth

pub record Replied (G : Ground) (w : Picture) (n r : ℕ) (k : ClusterKey) (t : ℕ) (v : Option Version) : Type 0 where
  pub digest : List ℕ
  pub begun : (w.stay r k).begun t ≡ Some digest
  pub entered : (w.stay n k).entered ≡ true
  pub fold : AtMost G.by v (w.fold k digest)
  pub entry : AtMost G.by ((w.stay n k).entry digest) v ⊎ (w.settled k (partition_of digest) ≡ true)

abbrev pub Says : Ground → Picture → ℕ → ℕ → Message → Type 0
Says G w n r (message.State k wants row) = (w.stay n k).entered ≡ true
Says G w n r (message.Batch b) = (w.stay n b.key).batch r b.number ≡ Some b.records
Says G w n r (message.BatchAck k number) = AckedBatch G w n r k number
Says G w n r (message.Progress k wants done handed settled) = ToldBits w n k done handed settled
Says G w n r (message.Repl k t nth d v) = Wrote G w n r k t nth d v
Says G w n r (message.ReplAck k t) = AckedWrite G w n r k t
Says G w n r (message.Ask k t d) = (w.stay n k).begun t ≡ Some d
Says G w n r (message.Answer k t v) = Replied G w n r k t v
Says G w n r _ = Unit {0}

-- ---- what a stay knows of others

pub record Cross (G : Ground) (w : Picture) (n : ℕ) (k : ClusterKey) (s : Stay) : Type 0 where
  -- what isn't pending any more has arrived
  pub arrived : (r : ℕ) (d : List ℕ) → s.exchanged ≡ true → view_sends_to G k (partition_of d) n r ≡ true → s.pending r d ≡ false → AtMost G.by (s.entry d) ((w.stay r k).held d)
  pub acked : (r t : ℕ) (y : Running) (u : Write) → s.running t ≡ Some y → y.applied ≡ Some u → is_view_replica G k (partition_of y.digest) r ≡ true → (r ≡ n → ⊥) → contains y.awaiting r ≡ false
      → HasWrite G w n r k y.digest u.version u.nth
  pub done : (r t : ℕ) (e : Applied) → s.done t ≡ true → s.writes t ≡ Some e → is_view_replica G k (partition_of e.digest) r ≡ true → (r ≡ n → ⊥) → HasWrite G w n r k e.digest e.version e.nth
  pub handed : (p : ℕ) → s.handed p ≡ true → w.handed k p ≡ true
  pub settled : (p : ℕ) → s.settled p ≡ true → w.settled k p ≡ true
  pub own_settled : (p : ℕ) → s.own_settled p ≡ true → w.settled k p ≡ true
  pub told : (m p : ℕ) → s.told m p ≡ true → IsDone (w.stay m k) p
  pub rows : (m : ℕ) → s.rows m ≡ true → (w.stay m k).entered ≡ true
  pub all_in : s.exchanged ≡ true → (m : ℕ) → is_view_member G k m ≡ true
      → (w.stay m k).entered ≡ true

-- ---- hand-over and settling

-- every member is done
abbrev pub Moved : Ground → Picture → ClusterKey → ℕ → Type 0
Moved G w k p = (m : ℕ) → is_view_member G k m ≡ true → IsDone (w.stay m k) p

-- no transaction of the stay is open on the partition, and all its writes there are done
pub record IsShut (p : ℕ) (s : Stay) : Type 0 where
  pub free : (t : ℕ) (y : Running) → s.running t ≡ Some y → partition_of y.digest ≡ p → ⊥
  pub done : (t : ℕ) (e : Applied) → s.writes t ≡ Some e → partition_of e.digest ≡ p → s.done t ≡ true

-- the writes of the stay that stood before the settling are done
pub record EarlyDone (p : ℕ) (s : Stay) : Type 0 where
  pub done : (t : ℕ) (e : Applied) → s.writes t ≡ Some e → partition_of e.digest ≡ p → e.early ≡ true → s.done t ≡ true

-- what stands where the acting master has handed over
pub record HandedOver (G : Ground) (w : Picture) (k : ClusterKey) (p : ℕ) : Type 0 where
  pub other : view_acting G k p ≡ view_master G k p → ⊥
  pub known : (w.stay (view_acting G k p) k).own_handed p ≡ true
  pub shut : IsShut p (w.stay (view_acting G k p) k)
  pub moved : Moved G w k p

-- what stands where the list master has settled
pub record HasSettled (G : Ground) (w : Picture) (k : ClusterKey) (p : ℕ) : Type 0 where
  pub some : is_view_empty G k p ≡ false
  pub known : (w.stay (view_master G k p) k).settled p ≡ true
  pub after : (view_acting G k p ≡ view_master G k p) ⊎ (w.handed k p ≡ true)
  pub early : EarlyDone p (w.stay (view_master G k p) k)
  pub moved : Moved G w k p

-- who has transactions: the acting master, and the list master once it has settled
abbrev pub Who : Ground → Picture → ℕ → ClusterKey → ℕ → Type 0
Who G w n k p = (n ≡ view_acting G k p) ⊎ ((n ≡ view_master G k p) × (w.settled k p ≡ true))

pub record Writers (G : Ground) (w : Picture) (n : ℕ) (k : ClusterKey) (s : Stay) : Type 0 where
  pub running : (t : ℕ) (y : Running) → s.running t ≡ Some y → Who G w n k (partition_of y.digest)
  pub write : (t : ℕ) (e : Applied) → s.writes t ≡ Some e → Who G w n k (partition_of e.digest)
  -- a write that isn't early is the list master's, after its settling
  pub late : (t : ℕ) (e : Applied) → s.writes t ≡ Some e → e.early ≡ false → (n ≡ view_master G k (partition_of e.digest)) × (w.settled k (partition_of e.digest) ≡ true)

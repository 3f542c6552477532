-- What holds at every line of every licensed run.
use Rattle.std.specs.Prelude.{◌≡◌, ℕ, true, List, Option, Some, take, slice_get, ◌⊎◌}
use Rattle.conflict_order.specs.declared.version.Version.{Version}
use Rattle.conflict_order.specs.Join.{AtMost}
use Rattle.conflict_order.specs.Next.{next}
use Rattle.cluster_types.specs.declared.cluster_key.ClusterKey.{ClusterKey}
use Rattle.cluster_types.specs.Partitions.{partition_of}
use Rattle.wire_messages.specs.declared.message.Batch.{Batch}
use Rattle.wire_messages.specs.declared.message.Message.TheVariants as message
use Rattle.journal_lines.specs.declared.line.Line.{Line}
use Rattle.journal_lines.specs.declared.line.Line.TheVariants as line
use Rattle.cluster_laws.specs.Ground.{Ground, IsGround, view_master, is_view_replica, is_view_empty, same_view_class}
use Rattle.cluster_laws.specs.Stay.{Applied}
use Rattle.cluster_laws.specs.Picture.{Picture, start}
use Rattle.cluster_laws.specs.Licences.{WasSent, IsAmong, Licensed, picture_after_all}

-- the picture after so many lines
abbrev pub picture : Ground → List Line → ℕ → Picture
picture G lines i = picture_after_all G start (take i lines)

-- it holds of the picture at every line of every licensed run
abbrev pub Always : (Ground → Picture → Type 0) → Type 0
Always P =
    (G : Ground) → IsGround G → (lines : List Line) → Licensed G start lines → (i : ℕ)
    → P G (picture G lines i)

-- it holds of every licensed run
abbrev pub OfLicensedRuns : (Ground → List Line → Type 0) → Type 0
OfLicensedRuns P = (G : Ground) → IsGround G → (lines : List Line) → Licensed G start lines
    → P G lines

-- ---- bounds

-- nothing that is held or sent in a view is above its fold or above the join of all that was applied
pub record IsBounded (G : Ground) (w : Picture) : Type 0 where
  pub fold : (n : ℕ) (k : ClusterKey) (d : List ℕ) → (w.node n).view ≡ Some k
      → AtMost G.by ((w.node n).content d) (w.fold k d)
  pub applied : (n : ℕ) (d : List ℕ) → AtMost G.by ((w.node n).content d) (w.applied d)
  pub batch : (n r : ℕ) (b : Batch) (d : List ℕ) (v : Version) → WasSent w n r (message.Batch b)
      → IsAmong b.records d v
      → AtMost G.by (Some v) (w.fold b.key d) × AtMost G.by (Some v) (w.applied d)
  pub write : (n r : ℕ) (k : ClusterKey) (t nth : ℕ) (d : List ℕ) (v : Version)
      → WasSent w n r (message.Repl k t nth d v)
      → AtMost G.by (Some v) (w.fold k d) × AtMost G.by (Some v) (w.applied d)

-- ---- equal copies

-- members of one class entered the view with equal copies
abbrev pub ClassesEnterEqual : Ground → Picture → Type 0
ClassesEnterEqual G w =
    (k : ClusterKey) (p a b : ℕ) (d : List ℕ) → (w.stay a k).entered ≡ true
    → (w.stay b k).entered ≡ true → same_view_class G k p a b ≡ true → partition_of d ≡ p
    → (w.stay a k).entry d ≡ (w.stay b k).entry d

-- ---- no loss

-- the greatest version that was ever applied stands in some store
abbrev pub GreatestIsStored : Ground → Picture → Type 0
GreatestIsStored G w =
    (d : List ℕ) (v : Version) → w.applied d ≡ Some v → (n : ℕ) × ((w.node n).content d ≡ Some v)

-- ---- settled partitions

-- the list master has written that the partition is settled, or it has finished the exchange and all copies were empty
abbrev pub IsSettled : Ground → Picture → ClusterKey → ℕ → Type 0
IsSettled G w k p =
    (w.settled k p ≡ true)
    ⊎ ((is_view_empty G k p ≡ true) × ((w.stay (view_master G k p) k).exchanged ≡ true))

-- each write of the list master is done
abbrev pub HasNoOpenWrite : Ground → Picture → ClusterKey → ℕ → Type 0
HasNoOpenWrite G w k p =
    (t : ℕ) (e : Applied) → (w.stay (view_master G k p) k).writes t ≡ Some e
    → partition_of e.digest ≡ p → (w.stay (view_master G k p) k).done t ≡ true

-- where a partition is settled and no write of its list master is open, each replica that is in the view holds the fold
abbrev pub SettledHoldFold : Ground → Picture → Type 0
SettledHoldFold G w =
    (k : ClusterKey) (p r : ℕ) (d : List ℕ) → IsSettled G w k p → HasNoOpenWrite G w k p
    → is_view_replica G k p r ≡ true → (w.node r).view ≡ Some k → partition_of d ≡ p
    → (w.node r).content d ≡ w.fold k d

-- ---- reads

-- a read answers the fold, and a write makes the next version of it
pub record ReadsAnswerFold (G : Ground) (lines : List Line) : Type 0 where
  pub value : (i n t : ℕ) (k : ClusterKey) (d : List ℕ) (v : Option Version)
      → slice_get lines i ≡ Some (line.Value n k t d v) → v ≡ (picture G lines i).fold k d
  pub apply : (i n t : ℕ) (k : ClusterKey) (d : List ℕ) (v : Version)
      → slice_get lines i ≡ Some (line.Apply n k t d v)
      → v ≡ next ((picture G lines i).fold k d) ((picture G lines i).node n).clock v.body

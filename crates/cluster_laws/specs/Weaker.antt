-- Licences made too weak, each with a run that it allows and that breaks a law.
use Rattle.std.specs.Prelude.{◌≡◌, ℕ, ◌+◌, ◌<◌, ◌==◌, ◌&&◌, ◌||◌, ◌⊎◌, if◌then◌else◌, true, false, List, [], ◌∷◌, ◌++◌, replicate, Option, Some, None}
use Rattle.std.specs.List.{concat}
use Rattle.conflict_order.specs.declared.version.Version.{Version}
use Rattle.conflict_order.specs.declared.policy.Policy.TheVariants.{Time}
use Rattle.conflict_order.specs.Join.{AtMost}
use Rattle.conflict_order.specs.declared.want.Action.TheVariants as action
use Rattle.cluster_types.specs.declared.cluster_key.ClusterKey.{ClusterKey}
use Rattle.cluster_types.specs.declared.copy_state.CopyState.{CopyState}
use Rattle.cluster_types.specs.declared.copy_state.CopyState.TheVariants.{Empty, Whole}
use Rattle.cluster_types.specs.declared.member.Member.{Member}
use Rattle.cluster_types.specs.Partitions.{partition_of}
use Rattle.cluster_types.specs.StateRows.{state_of}
use Rattle.cluster_types.specs.ClusterKeys.{same_key}
use Rattle.wire_messages.specs.declared.message.Batch.{Batch}
use Rattle.wire_messages.specs.declared.message.Message.{Message}
use Rattle.wire_messages.specs.declared.message.Message.TheVariants as message
use Rattle.wire_messages.specs.Decoding.{message_of}
use Rattle.wire_messages.specs.Keys.{key_field}
use Rattle.wire_messages.specs.Numbers.{byte_field, flag_field}
use Rattle.wire_messages.specs.Spelling.{spelling}
use Rattle.journal_lines.specs.declared.line.Line.{Line}
use Rattle.journal_lines.specs.declared.line.Line.TheVariants as line
use Rattle.journal_readings.specs.Examples.{digest, second, key, version, one, two, both}
use Rattle.cluster_laws.specs.Ground.{Ground, IsGround, view_master, view_acting, is_view_replica, is_view_empty}
use Rattle.cluster_laws.specs.Stay.{Running}
use Rattle.cluster_laws.specs.Picture.{Picture, start}
use Rattle.cluster_laws.specs.Licences.{IsIn, WasSent, IsAmong, IsDone, IsFree, Acts, Ok, picture_after, picture_after_all}

-- each line has its licence, or one of these besides
abbrev pub LicensedOr : (Ground → Picture → Line → Type 0) → Ground → Picture → List Line → Type 0
LicensedOr Extra G w [] = Unit {0}
LicensedOr Extra G w (l ∷ ls) = (Ok G w l ⊎ Extra G w l)
    × LicensedOr Extra G (picture_after G w l) ls

-- ---- what is allowed besides

-- a transaction opens on a record on which one is open
pub record OpensBusy (w : Picture) (G : Ground) (n : ℕ) (k : ClusterKey) (t : ℕ) (d : List ℕ)
    : Type 0 where
  pub is_in : IsIn w n k
  pub exchanged : (w.stay n k).exchanged ≡ true
  pub number : t ≡ (w.stay n k).opened + 1
  pub acts : Acts G n k (w.stay n k) (partition_of d)

abbrev pub Busy : Ground → Picture → Line → Type 0
Busy G w (line.Opened n k t d a) = OpensBusy w G n k t d
Busy G w _ = ⊥

-- a version is merged that no message brought
abbrev pub Unbrought : Ground → Picture → Line → Type 0
Unbrought G w (line.Merge n k d v) = IsIn w n k
Unbrought G w _ = ⊥

-- a copy is dropped, settled and handed on, also by a replica
pub record DropsAny (w : Picture) (n : ℕ) (k : ClusterKey) (p : ℕ) : Type 0 where
  pub is_in : IsIn w n k
  pub settled : (w.stay n k).settled p ≡ true
  pub done : IsDone (w.stay n k) p

abbrev pub Replica : Ground → Picture → Line → Type 0
Replica G w (line.Drop n k p) = DropsAny w n k p
Replica G w _ = ⊥

-- ---- one node, by itself

-- node 1 enters all views alone; in the second one it has a copy that was whole in the first, with one write
abbrev pub lone_row : ClusterKey → ℕ → ℕ → CopyState
lone_row k n p = if same_key k (key 2 1) && (p == 4095) then Whole (key 1 1) 1 else Empty

abbrev pub lone : Ground
lone = record { by = Time; factor = 1; members = λ _. one; row = lone_row }

-- a read opens, and a write beside it; the read is answered with what it knew
abbrev pub overtaken : List Line
overtaken =
    line.Enter 1 (key 1 1) one ∷ line.Exchanged 1 (key 1 1)
    ∷ line.Opened 1 (key 1 1) 1 digest action.Get ∷ line.Opened 1 (key 1 1) 2 digest action.Put
    ∷ line.Apply 1 (key 1 1) 2 digest (version 0 1 97) ∷ line.Value 1 (key 1 1) 1 digest None ∷ []

-- a version comes from nowhere
abbrev pub conjured : List Line
conjured = line.Enter 1 (key 1 1) one ∷ line.Merge 1 (key 1 1) digest (version 0 1 97) ∷ []

-- a node writes a record
abbrev pub first_view : List Line
first_view =
    line.Enter 1 (key 1 1) one ∷ line.Exchanged 1 (key 1 1)
    ∷ line.Opened 1 (key 1 1) 1 digest action.Put ∷ line.Apply 1 (key 1 1) 1 digest (version 0 1 97)
    ∷ line.Done 1 (key 1 1) 1 ∷ []

-- it enters another view, and settles the partition
abbrev pub lone_run : List Line
lone_run =
    first_view ++ line.Enter 1 (key 2 1) one ∷ line.Exchanged 1 (key 2 1)
    ∷ line.Settled 1 (key 2 1) 4095 ∷ []

-- and drops its copy
abbrev pub thrown_away : List Line
thrown_away = lone_run ++ line.Drop 1 (key 2 1) 4095 ∷ []

-- ---- two nodes

-- a copy is dropped that was handed on, by no replica, but before the settling
pub record DropsEarly (G : Ground) (w : Picture) (n : ℕ) (k : ClusterKey) (p : ℕ) : Type 0 where
  pub is_in : IsIn w n k
  pub done : IsDone (w.stay n k) p
  pub outside : is_view_replica G k p n ≡ false

abbrev pub Unsettled : Ground → Picture → Line → Type 0
Unsettled G w (line.Drop n k p) = DropsEarly G w n k p
Unsettled G w _ = ⊥

-- a copy is dropped that was handed on, by no replica, with the settled bit of some view
pub record DropsByAny (G : Ground) (w : Picture) (n : ℕ) (k : ClusterKey) (p : ℕ) : Type 0 where
  pub drop : DropsEarly G w n k p
  pub other : ClusterKey
  pub settled : (w.stay n other).settled p ≡ true

abbrev pub Stale : Ground → Picture → Line → Type 0
Stale G w (line.Drop n k p) = DropsByAny G w n k p
Stale G w _ = ⊥

-- node 1 was alone, wrote, and settled; then it meets node 2, which is the only replica
abbrev pub pair_members : ClusterKey → List Member
pair_members k = if same_key k (key 4 2) then both else one

abbrev pub pair_row : ClusterKey → ℕ → ℕ → CopyState
pair_row k n p =
    if (same_key k (key 4 2) || same_key k (key 2 1)) && ((n == 1) && (p == 4095))
    then Whole (key 1 1) 1
    else Empty

abbrev pub pair : Ground
pair = record { by = Time; factor = 1; members = pair_members; row = pair_row }

abbrev pub handed_on : Batch
handed_on = record { key = key 4 2; number = 1; records = (digest, version 0 1 97) ∷ [] }

-- node 1 hands its record on, and writes another version as long as it acts
abbrev pub met_run : List Line
met_run =
    lone_run ++ line.Enter 2 (key 4 2) both ∷ line.Enter 1 (key 4 2) both
    ∷ line.Sent 1 2 1 (spelling (message.State (key 4 2) true [])) ∷ line.Deliver 1 2 1
    ∷ line.Exchanged 1 (key 4 2)
    ∷ line.Sent 2 1 2 (spelling (message.Batch handed_on))
    ∷ line.Merge 2 (key 4 2) digest (version 0 1 97)
    ∷ line.Sent 3 2 1 (spelling (message.BatchAck (key 4 2) 1)) ∷ line.Deliver 3 2 1
    ∷ line.Opened 1 (key 4 2) 1 digest action.Put ∷ line.Apply 1 (key 4 2) 1 digest (version 0 2 98)
    ∷ []

-- and drops its copy
abbrev pub dropped_early : List Line
dropped_early = met_run ++ line.Drop 1 (key 4 2) 4095 ∷ []

-- ---- two sides

-- a question of an earlier transaction is answered as if it were that of this one
pub record AnswersEarlier (w : Picture) (n r : ℕ) (k : ClusterKey) (t : ℕ) (v : Option Version)
    : Type 0 where
  pub is_in : IsIn w n k
  pub earlier : ℕ
  pub before : earlier < t
  pub digest : List ℕ
  pub came : WasSent w r n (message.Ask k earlier digest)
  pub held : v ≡ (w.node n).content digest

abbrev pub IsEarlier : Picture → ℕ → ℕ → Option Message → Type 0
IsEarlier w n r (Some (message.Answer k t v)) = AnswersEarlier w n r k t v
IsEarlier w n r _ = ⊥

abbrev pub Earlier : Ground → Picture → Line → Type 0
Earlier G w (line.Sent i n r bytes) = (w.packet i ≡ None) × IsEarlier w n r (message_of bytes)
Earlier G w _ = ⊥

-- a list master that acts settles when its own records are acknowledged, though those of others may not be
pub record SettlesEarly (G : Ground) (w : Picture) (n : ℕ) (k : ClusterKey) (p : ℕ) : Type 0 where
  pub is_in : IsIn w n k
  pub master : n ≡ view_master G k p
  pub acting : n ≡ view_acting G k p
  pub some : is_view_empty G k p ≡ false
  pub own : IsDone (w.stay n k) p
  pub free : IsFree (w.stay n k) p

abbrev pub Unacknowledged : Ground → Picture → Line → Type 0
Unacknowledged G w (line.Settled n k p) = SettlesEarly G w n k p
Unacknowledged G w _ = ⊥

-- nodes 1 and 2 were alone, node 1 with so many writes and node 2 with one; then they meet, and node 2 acts and is the
-- only replica
abbrev pub sides_members : ClusterKey → List Member
sides_members k = if same_key k (key 4 2) then both else if same_key k (key 1 2) then two else one

abbrev pub side_row : ℕ → ℕ → List (ℕ × CopyState)
side_row n writes = (4095, Whole (key 1 n) writes) ∷ []

abbrev pub sides_row : ℕ → ClusterKey → ℕ → ℕ → CopyState
sides_row writes k n p =
    if same_key k (key 4 2) then state_of (side_row n (if n == 1 then writes else 1)) p else Empty

abbrev pub sides : ℕ → Ground
sides writes = record { by = Time; factor = 1; members = sides_members; row = sides_row writes }

-- a node writes a record in a view of its own
abbrev pub side : ℕ → List Member → List ℕ → Version → List Line
side n members d v =
    line.Enter n (key 1 n) members ∷ line.Exchanged n (key 1 n)
    ∷ line.Opened n (key 1 n) 1 d action.Put ∷ line.Apply n (key 1 n) 1 d v
    ∷ line.Done n (key 1 n) 1 ∷ []

abbrev pub both_sides : List Line
both_sides = side 1 one digest (version 0 1 97) ++ side 2 two second (version 0 1 98)

-- they meet, and node 2 finishes the exchange
abbrev pub meeting : List Line
meeting =
    line.Enter 2 (key 4 2) both ∷ line.Enter 1 (key 4 2) both
    ∷ line.Sent 1 1 2 (spelling (message.State (key 4 2) true (side_row 1 1))) ∷ line.Deliver 1 1 2
    ∷ line.Exchanged 2 (key 4 2) ∷ []

abbrev pub together : List Line
together = both_sides ++ meeting

-- node 2 reads both records, and its question about the one that it has itself comes to node 1
abbrev pub question_lines : List Line
question_lines =
    line.Opened 2 (key 4 2) 1 second action.Get
    ∷ line.Sent 2 2 1 (spelling (message.Ask (key 4 2) 1 second)) ∷ line.Deliver 2 2 1
    ∷ line.Opened 2 (key 4 2) 2 digest action.Get ∷ []

abbrev pub asked_run : List Line
asked_run = together ++ question_lines

-- that node 1 has no such record is taken for the answer about the other one
abbrev pub wrong_answer_lines : List Line
wrong_answer_lines =
    line.Sent 3 1 2 (spelling (message.Answer (key 4 2) 2 None)) ∷ line.Deliver 3 1 2
    ∷ line.Value 2 (key 4 2) 2 digest None ∷ []

abbrev pub mistaken : List Line
mistaken = asked_run ++ wrong_answer_lines

-- node 2 settles the partition without the record of node 1
abbrev pub settled_early : List Line
settled_early = together ++ line.Settled 2 (key 4 2) 4095 ∷ []

-- ---- a batch of two

-- a batch is acknowledged of which one record is held now
pub record AcksPart (G : Ground) (w : Picture) (n r : ℕ) (k : ClusterKey) (number : ℕ)
    : Type 0 where
  pub is_in : IsIn w n k
  pub batch : Batch
  pub named : (batch.key ≡ k) × (batch.number ≡ number)
  pub came : WasSent w r n (message.Batch batch)
  pub digest : List ℕ
  pub version : Version
  pub among : IsAmong batch.records digest version
  pub held : AtMost G.by (Some version) ((w.node n).content digest)

abbrev pub IsPartialAck : Ground → Picture → ℕ → ℕ → Option Message → Type 0
IsPartialAck G w n r (Some (message.BatchAck k number)) = AcksPart G w n r k number
IsPartialAck G w n r _ = ⊥

abbrev pub Incomplete : Ground → Picture → Line → Type 0
Incomplete G w (line.Sent i n r bytes) = (w.packet i ≡ None)
    × IsPartialAck G w n r (message_of bytes)
Incomplete G w _ = ⊥

-- another digest of partition 4095
abbrev pub third : List ℕ
third = 255 ∷ 255 ∷ replicate 17 0 ++ 2 ∷ []

-- node 1 writes a second record in its own view
abbrev pub writing_more : List Line
writing_more =
    line.Opened 1 (key 1 1) 2 third action.Put ∷ line.Apply 1 (key 1 1) 2 third (version 0 1 99)
    ∷ line.Done 1 (key 1 1) 2 ∷ []

abbrev pub laden : List Line
laden = side 1 one digest (version 0 1 97) ++ writing_more

abbrev pub laden_apart : List Line
laden_apart = laden ++ side 2 two second (version 0 1 98)

abbrev pub two_records : Batch
two_records = record {
  key = key 4 2;
  number = 1;
  records = (digest, version 0 1 97) ∷ (third, version 0 1 99) ∷ [];
}

-- they meet, and node 2 merges the first record of node 1's batch
abbrev pub batch_lines : List Line
batch_lines =
    line.Enter 2 (key 4 2) both ∷ line.Enter 1 (key 4 2) both
    ∷ line.Sent 1 1 2 (spelling (message.State (key 4 2) true (side_row 1 2))) ∷ line.Deliver 1 1 2
    ∷ line.Exchanged 2 (key 4 2)
    ∷ line.Sent 2 2 1 (spelling (message.State (key 4 2) false (side_row 2 1))) ∷ line.Deliver 2 2 1
    ∷ line.Exchanged 1 (key 4 2)
    ∷ line.Sent 3 1 2 (spelling (message.Batch two_records))
    ∷ line.Merge 2 (key 4 2) digest (version 0 1 97) ∷ []

abbrev pub batch_run : List Line
batch_run = laden_apart ++ batch_lines

-- rows of bits, as bytes: of all partitions, of none, and of partition 4095
abbrev pub all_bits : List ℕ
all_bits = replicate 512 255

abbrev pub no_bits_bytes : List ℕ
no_bits_bytes = replicate 512 0

abbrev pub last_bit : List ℕ
last_bit = replicate 511 0 ++ 128 ∷ []

-- a Progress with a done and a handed row, as bytes: its kind, the key, that none is wanted back, and the rows; nothing is
-- settled
abbrev pub progress_bytes : List ℕ → List ℕ → List ℕ
progress_bytes done handed =
    concat
    (byte_field 9 ∷ key_field (key 4 2) ∷ flag_field false ∷ done ∷ handed ∷ no_bits_bytes ∷ [])

-- node 2 acknowledges the batch, node 1 says that it is done, and node 2 settles
abbrev pub early_settling_lines : List Line
early_settling_lines =
    line.Sent 4 2 1 (spelling (message.BatchAck (key 4 2) 1)) ∷ line.Deliver 4 2 1
    ∷ line.Sent 5 1 2 (progress_bytes all_bits no_bits_bytes) ∷ line.Deliver 5 1 2
    ∷ line.Settled 2 (key 4 2) 4095 ∷ []

abbrev pub settled_in_part : List Line
settled_in_part = batch_run ++ early_settling_lines

-- ---- a late write

-- an acting master opens a transaction, whether it has handed the partition over or not
pub record OpensLate (G : Ground) (w : Picture) (n : ℕ) (k : ClusterKey) (t : ℕ) (d : List ℕ)
    : Type 0 where
  pub is_in : IsIn w n k
  pub exchanged : (w.stay n k).exchanged ≡ true
  pub number : t ≡ (w.stay n k).opened + 1
  pub acts : n ≡ view_acting G k (partition_of d)
  pub free : (u : ℕ) (y : Running) → (w.stay n k).running u ≡ Some y → y.digest ≡ d → ⊥

abbrev pub Late : Ground → Picture → Line → Type 0
Late G w (line.Opened n k t d a) = OpensLate G w n k t d
Late G w _ = ⊥

-- node 1 was alone, with one write; then it meets node 2, which has no record and is the only replica
abbrev pub handing_row : ClusterKey → ℕ → ℕ → CopyState
handing_row k n p =
    if same_key k (key 4 2) then state_of (if n == 1 then side_row 1 1 else []) p else Empty

abbrev pub handing_ground : Ground
handing_ground = record { by = Time; factor = 1; members = sides_members; row = handing_row }

-- node 1 hands its record on, and then the partition over
abbrev pub moving : List Line
moving =
    line.Enter 2 (key 4 2) both ∷ line.Enter 1 (key 4 2) both
    ∷ line.Sent 1 2 1 (spelling (message.State (key 4 2) true [])) ∷ line.Deliver 1 2 1
    ∷ line.Exchanged 1 (key 4 2)
    ∷ line.Sent 2 1 2 (spelling (message.State (key 4 2) false (side_row 1 1))) ∷ line.Deliver 2 1 2
    ∷ line.Exchanged 2 (key 4 2)
    ∷ line.Sent 3 1 2 (spelling (message.Batch handed_on))
    ∷ line.Merge 2 (key 4 2) digest (version 0 1 97)
    ∷ line.Sent 4 2 1 (spelling (message.BatchAck (key 4 2) 1)) ∷ line.Deliver 4 2 1
    ∷ line.Sent 5 2 1 (progress_bytes all_bits no_bits_bytes) ∷ line.Deliver 5 2 1
    ∷ line.Handed 1 (key 4 2) 4095 ∷ []

abbrev pub handed_over : List Line
handed_over = side 1 one digest (version 0 1 97) ++ moving

-- it writes another version, and node 2 hears of the hand-over and settles
abbrev pub writing_late : List Line
writing_late =
    line.Opened 1 (key 4 2) 1 digest action.Put ∷ line.Apply 1 (key 4 2) 1 digest (version 0 2 98)
    ∷ line.Sent 6 1 2 (progress_bytes no_bits_bytes last_bit) ∷ line.Deliver 6 1 2
    ∷ line.Settled 2 (key 4 2) 4095 ∷ []

abbrev pub written_late : List Line
written_late = handed_over ++ writing_late

-- ---- what they show

-- the run is allowed, and the law doesn't hold of it
pub record Breaks (Extra : Ground → Picture → Line → Type 0) (Law : Ground → List Line → Type 0)
    (G : Ground) (ls : List Line) : Type 0 where
  pub ground : IsGround G
  pub allowed : LicensedOr Extra G start ls
  pub broken : Law G ls → ⊥

-- the law of the picture at the end
abbrev pub AtEnd : (Ground → Picture → Type 0) → Ground → List Line → Type 0
AtEnd P G ls = P G (picture_after_all G start ls)

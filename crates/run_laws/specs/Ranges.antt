-- What a node keeps has its ranges, and numbers are at most the count of lines.
use Rattle.std.specs.Prelude.{◌≡◌, ◌<◌, ◌≤◌, ◌^◌, ℕ, true, List, [], ◌∷◌, Option, Some, None, length, is_some}
use Rattle.std.specs.FinMap as finite
use Rattle.std.specs.List.{AllByRecursion}
use Rattle.std.specs.declared.cmp.Ordering.TheVariants.{Less}
use Rattle.std.specs.Ordering.{nat_cmp}
use Rattle.std.specs.Cmp.Lexicographic.{slice_cmp}
use Rattle.conflict_order.specs.declared.version.Version.{Version}
use Rattle.wire_messages.specs.declared.message.Batch.{Batch}
use Rattle.wire_messages.specs.Keys.{IsKeyField}
use Rattle.wire_messages.specs.Proper.{IsBatch}
use Rattle.wire_messages.specs.Requests.{IsWant}
use Rattle.wire_messages.specs.Rows.{IsStateRowField}
use Rattle.wire_messages.specs.Versions.{IsDigest, IsVersion, IsOptionVersion}
use Rattle.node_rules.specs.declared.member_row.MemberRow.{MemberRow}
use Rattle.node_rules.specs.Batches.{Target, Targets}
use Rattle.node_rules.specs.Copies.{Content, Stamp, Stamps, Store}
use Rattle.node_rules.specs.Facts.{Facts}
use Rattle.node_rules.specs.Stamps.{Writes, applies_at, numbers_at}
use Rattle.node_rules.specs.Transactions.{Transaction, Transactions, Write}
use Rattle.run_laws.specs.Fronts.{Front, world_of, facts_at}
use Rattle.run_laws.specs.Tied.{Each, Among}

-- ---- copies

pub record FitsRecord (d : List ℕ) (v : Version) : Type 0 where
  pub digest : IsDigest d
  pub version : IsVersion v

pub record FitsContent (content : Content) : Type 0 where
  pub each : (d : List ℕ) (v : Version) → finite.get content d ≡ Some v → FitsRecord d v

pub record FitsStamp (s : Stamp) : Type 0 where
  pub key : IsKeyField s.0
  pub count : s.1 < 2 ^ 32

pub record FitsStamps (stamps : Stamps) : Type 0 where
  pub each : (p : ℕ) (s : Stamp) → finite.get stamps p ≡ Some s → FitsStamp s

pub record FitsWrites (lines : ℕ) (w : Writes) : Type 0 where
  pub applies : (p : ℕ) → applies_at w p ≤ lines
  pub numbers : (p : ℕ) → length (numbers_at w p) ≤ lines

-- ---- transactions

pub record FitsWrite (lines : ℕ) (w : Write) : Type 0 where
  pub above : 0 < w.nth
  pub nth : w.nth ≤ lines
  pub version : IsVersion w.version

abbrev pub FitsApplied : ℕ → Option Write → Type 0
FitsApplied lines None = Unit {0}
FitsApplied lines (Some w) = FitsWrite lines w

pub record FitsTransaction (lines : ℕ) (y : Transaction) : Type 0 where
  pub above : 0 < y.number
  pub number : y.number ≤ lines
  pub digest : IsDigest y.digest
  pub want : IsWant y.want
  pub best : IsOptionVersion y.best
  pub applied : FitsApplied lines y.applied

pub record FitsTransactions (lines : ℕ) (ts : Transactions) : Type 0 where
  pub opened : ts.opened ≤ lines
  pub running : (y : Transaction) → Among ts.running y → FitsTransaction lines y

-- ---- batches

-- digests strictly rise
abbrev pub RisesByDigest : List (List ℕ) → Type 0
RisesByDigest [] = Unit {0}
RisesByDigest (d ∷ ds) = AllByRecursion (λ (e : List ℕ). slice_cmp nat_cmp d e ≡ Less) ds
    × RisesByDigest ds

pub record FitsBatch (lines : ℕ) (b : Batch) : Type 0 where
  pub number : b.number ≤ lines
  pub batch : IsBatch b

abbrev pub FitsOut : ℕ → Option Batch → Type 0
FitsOut lines None = Unit {0}
FitsOut lines (Some b) = FitsBatch lines b

-- what is pending rises and is held
pub record FitsTarget (lines : ℕ) (content : Content) (t : Target) : Type 0 where
  pub rises : RisesByDigest t.pending
  pub held : (d : List ℕ) → Among t.pending d → is_some (finite.get content d) ≡ true
  pub batches : t.batches ≤ lines
  pub out : FitsOut lines t.out

abbrev pub FitsTargets : ℕ → Content → Targets → Type 0
FitsTargets lines content ts = (t : Target) → Among ts t → FitsTarget lines content t

-- ---- a node, and all of them

-- the parts of a node's facts
pub record FitsRanges (lines : ℕ) (rows : List MemberRow) (store : Store) (w : Writes)
    (ts : Transactions) (targets : Targets) : Type 0 where
  pub each_row : Each (λ (r : MemberRow). IsStateRowField r.row) rows
  pub content : FitsContent store.content
  pub stamps : FitsStamps store.stamps
  pub writes : FitsWrites lines w
  pub transactions : FitsTransactions lines ts
  pub each_target : FitsTargets lines store.content targets

abbrev pub FitsFacts : ℕ → Facts → Type 0
FitsFacts lines f = FitsRanges lines f.exchange.rows f.store f.writes f.transactions f.batches

pub record Ranged (z : Front) : Type 0 where
  pub nodes : (n : ℕ) → FitsFacts z.lines (facts_at z n)
  pub clocks : (n : ℕ) → (world_of z).clocks n < 2 ^ 64

-- What a node may send has a spelling, since what it knows keeps the ranges of messages.
use Rattle.std.specs.Prelude.{ℕ, ◌<◌, ◌^◌, List, All}
use Rattle.std.specs.FinMap as finite
use Rattle.std.specs.Option.{ForSome}
use Rattle.emigrate.specs.Going.{AreRising}
use Rattle.wire_messages.specs.Keys.{IsKeyField, IsKeyOrNone}
use Rattle.wire_messages.specs.Nodes.{IsId}
use Rattle.wire_messages.specs.Numbers.{IsNumber}
use Rattle.wire_messages.specs.Proper.{IsBatch}
use Rattle.wire_messages.specs.Requests.{IsWant}
use Rattle.wire_messages.specs.Rows.{IsStateRowField}
use Rattle.wire_messages.specs.Versions.{IsDigest, IsVersion, IsOptionVersion}
use Rattle.node_rules.specs.Batches.{Target}
use Rattle.node_rules.specs.Copies.{Stamp, Store}
use Rattle.node_rules.specs.Facts.{Facts}
use Rattle.node_rules.specs.Here.{HasRows}
use Rattle.node_rules.specs.Stamps.{Writes, applies_at, numbers_at}
use Rattle.node_rules.specs.Transactions.{Transaction, Write}
use Rattle.node_steps.specs.declared.resolving.Resolving.{Resolving}

-- a write has a number, and a version that has a spelling
pub record IsWriteField (w : Write) : Type 0 where
  pub version : IsVersion w.version
  pub nth : IsNumber w.nth

-- what an open transaction sends has a spelling
pub record HasSpelling (t : Transaction) : Type 0 where
  pub number : IsNumber t.number
  pub digest : IsDigest t.digest
  pub want : IsWant t.want
  pub best : IsOptionVersion t.best
  pub applied : ForSome t.applied IsWriteField

-- what is sent of a transaction that is resolved has a spelling
pub record IsResolvingField (r : Resolving) : Type 0 where
  pub number : IsNumber r.transaction
  pub digest : IsDigest r.digest
  pub want : IsWant r.want
  pub best : IsOptionVersion r.best
  pub clock : r.clock < 2 ^ 64

-- the stamp of a copy has a spelling
pub record IsStampField (s : Stamp) : Type 0 where
  pub key : IsKeyField s.0
  pub writes : s.1 < 2 ^ 32

-- what is held has a spelling, since batches tell of records, and rows of stamps
pub record IsStoreField (s : Store) : Type 0 where
  pub digests : All IsDigest (finite.keys s.content)
  pub versions : (digest : List ℕ) → ForSome (finite.get s.content digest) IsVersion
  pub stamps : (p : ℕ) → ForSome (finite.get s.stamps p) IsStampField

-- what is handed on to a member has a spelling, since batches tell of it, in rising order of the digests
pub record IsTargetField (t : Target) : Type 0 where
  pub rising : AreRising t.pending
  pub out : ForSome t.out IsBatch

-- how many writes of a view came has a spelling, since stamps tell of it
pub record AreCounted (w : Writes) : Type 0 where
  pub applies : (p : ℕ) → applies_at w p < 2 ^ 32
  pub numbers : (p : ℕ) → All IsNumber (numbers_at w p)

-- what a node of these facts sends has a spelling
pub record HasRanges (f : Facts) : Type 0 where
  pub me : IsId f.me
  pub peers : All IsId f.peers
  pub rack : f.role.rack < 2 ^ 8
  pub promised : IsKeyOrNone f.agreement.promised
  pub proposed : ForSome f.agreement.proposal (λ p. IsKeyField p.key)
  pub view : ForSome f.exchange.view (λ v. IsKeyField v.key)
  pub rows : All (λ r. IsStateRowField r.row) f.exchange.rows
  pub store : IsStoreField f.store
  pub writes : AreCounted f.writes
  pub transactions : All HasSpelling f.transactions.running
  pub batches : All IsTargetField f.batches
  pub bits : HasRows f

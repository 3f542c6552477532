-- The write of a transaction.
use Rattle.std.specs.Prelude.{◌≡◌, ℕ, false, [], Option, Some, None, option_map}
use Rattle.conflict_order.specs.declared.policy.Policy.{Policy}
use Rattle.conflict_order.specs.declared.version.Version.{Version}
use Rattle.conflict_order.specs.declared.version.Body.{Body}
use Rattle.conflict_order.specs.declared.version.Body.TheVariants as body
use Rattle.conflict_order.specs.declared.want.Want.{Want}
use Rattle.conflict_order.specs.declared.want.Want.TheVariants as want
use Rattle.conflict_order.specs.Contents.{Content, joined}
use Rattle.conflict_order.specs.Next.{next}
use Rattle.dup_resolve.specs.declared.txn.Txn.{Txn}

-- it is a put or a delete
abbrev pub IsWrite : Want → Type 0
IsWrite want.Get = ⊥
IsWrite (want.Put bytes) = Unit {0}
IsWrite want.Del = Unit {0}

-- the body that it gives its version; a read gives none, and has a tombstone here
abbrev pub body_of : Want → Body
body_of want.Get = body.Tombstone
body_of (want.Put bytes) = body.Value bytes
body_of want.Del = body.Tombstone

-- the transaction is a write that isn't applied and awaits nobody
pub record IsToWrite (t : Txn) : Type 0 where
  pub write : IsWrite t.want
  pub unapplied : t.applied ≡ false
  pub resolved : t.awaiting ≡ []

-- the version that the transaction's write makes at this time of the clock
abbrev pub version_of : ℕ → Txn → Version
version_of clock t = next t.best clock (body_of t.want)

-- the version that the write of the transaction makes at this time of the clock, where there is one
abbrev pub version_in : ℕ → Option Txn → Option Version
version_in clock t = option_map (version_of clock) t

-- the records once a version came for the transaction's digest
abbrev pub records_with : Policy → Content → Option Txn → Version → Content
records_with by versions None v = versions
records_with by versions (Some t) v = joined by versions t.digest v

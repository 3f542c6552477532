-- The ranges of what scripts, messages and lines name.
use Rattle.std.specs.Prelude.{◌≡◌, ℕ, ◌<◌, ◌≤◌, ◌^◌, List, length, Option, Some, None, All}
use Rattle.cluster_types.specs.Partitions.{partition_count}

abbrev pub IsByte : ℕ → Type 0
IsByte n = n < 2 ^ 8

-- bytes are numbers below 256
abbrev pub AreBytes : List ℕ → Type 0
AreBytes bytes = All (λ b. b < 256) bytes

-- the number of a message, of a call or of a scan, a time, a length or a count
abbrev pub IsLong : ℕ → Type 0
IsLong n = n < 2 ^ 64

-- a node's id: 1 to 65535
pub record IsId (id : ℕ) : Type 0 where
  pub positive : 0 < id
  pub fits : id < 2 ^ 16

abbrev pub IsRack : Option ℕ → Type 0
IsRack None = Unit {0}
IsRack (Some rack) = IsByte rack

abbrev pub IsPartition : ℕ → Type 0
IsPartition p = p < partition_count

-- twenty bytes
pub record IsDigest (digest : List ℕ) : Type 0 where
  pub size : length digest ≡ 20
  pub each : AreBytes digest

-- at most 128 bytes
pub record IsValue (bytes : List ℕ) : Type 0 where
  pub limit : length bytes ≤ 128
  pub each : AreBytes bytes

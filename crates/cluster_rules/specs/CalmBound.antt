-- How many rounds calm may take. The number of partitions is an argument.
use Rattle.std.specs.Prelude.{◌≡◌, ℕ, ◌+◌, ◌<◌, ◌≤◌, ◌⊎◌, Bool, true, false, length, IsTrue}
use Rattle.std.specs.List.{list_any, sum_by}
use Rattle.std.specs.FinMap as finite
use Rattle.journal_lines.specs.declared.line.Line.{Line}
use Rattle.journal_lines.specs.declared.line.Line.TheVariants as line
use Rattle.cluster_rules.specs.Begun.{AreBegun}
use Rattle.cluster_rules.specs.Calm.{is_calm_of}
use Rattle.cluster_rules.specs.Steps.{Played, round, rounds, all_lines}
use Rattle.cluster_rules.specs.World.{World}

abbrev pub is_full_line : Line → Bool
is_full_line (line.Full i) = true
is_full_line _ = false

-- whether a message was lost for want of a place in the round that comes after so many
abbrev pub is_full_round : ℕ → World → ℕ → Bool
is_full_round n w i = list_any is_full_line (all_lines (round n (rounds n i w).world).steps)

-- the records that are held in all stores, those of stopped nodes among them
abbrev pub records_held : World → ℕ
records_held w = sum_by (λ n. finite.len (w.facts n).store.content) w.nodes

-- the transactions that are open
abbrev pub open_transactions : World → ℕ
open_transactions w = sum_by (λ n. length (w.facts n).transactions.running) w.nodes

-- the rounds that calm may take where none has lost a message for want of a place
abbrev pub calm_limit : World → ℕ
calm_limit w = 256 + records_held w + open_transactions w

-- one of the rounds lost a message for want of a place, and the count begins behind it
pub record IsBehindFull (n : ℕ) (w : World) (number from : ℕ) : Type 0 where
  pub place : ℕ
  pub within : place < number
  pub full : IsTrue (is_full_round n w place)
  pub next : from ≡ place + 1

-- so many rounds are no more than calm may take that begins in that world: counted behind the last of them that lost a
-- message for want of a place, or from the first where none did
pub record IsWithinCalm (n : ℕ) (w : World) (number : ℕ) : Type 0 where
  pub from : ℕ
  pub begins : (from ≡ 0) ⊎ IsBehindFull n w number from
  pub placed : (i : ℕ) → from ≤ i → i < number → is_full_round n w i ≡ false
  pub few : number ≤ from + calm_limit w

-- calm is reached in time: whatever rounds are begun, each where the world isn't calm, are no more than calm may take
pub record CalmIsReached (n : ℕ) (w : World) : Type 0 where
  pub bounded : (x : Played) (b : AreBegun n w x) → IsWithinCalm n w b.number

-- the world is calm after no more rounds than calm may take
pub record ComesInTime (n : ℕ) (w : World) : Type 0 where
  pub number : ℕ
  pub within : number ≤ calm_limit w
  pub calm : is_calm_of n (rounds n number w).world ≡ true

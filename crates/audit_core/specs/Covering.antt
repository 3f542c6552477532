-- What nodes are known to hold of one another's records.
use Rattle.std.specs.Prelude.{◌≡◌, ℕ, ◌+◌, ◌*◌, ◌<◌, ◌≤◌, nat_eq, true, Option, Some}
use Rattle.std.specs.HashMap as hash
use Rattle.audit_core.specs.declared.judge.Judge.{Judge}
use Rattle.audit_core.specs.Stored.{IsRecordOf}
use Rattle.audit_state.specs.declared.copies.Cover.{Cover}
use Rattle.audit_state.specs.Histories.{value_after}
use Rattle.audit_state.specs.Places.{placed, is_at_most}
use Rattle.audit_state.specs.Stores.{history_of}

-- a node, a member and a partition as one number
abbrev pub cover_number : ℕ → ℕ → ℕ → ℕ
cover_number n m p = (n * 65536 + m) * 4096 + p

abbrev pub cover_of : Judge → ℕ → ℕ → ℕ → Option Cover
cover_of s n m p = hash.get nat_eq s.covers (cover_number n m p)

-- after so many lines the node held at least what the member held after so many of each record of
-- the partition
abbrev pub Covers : Judge → ℕ → ℕ → ℕ → ℕ → ℕ → Type 0
Covers s n held m of p = (r : ℕ) → IsRecordOf s.records r p
    → is_at_most s.by (placed s.lines.now (value_after (history_of s.stores m r) of))
    (placed s.lines.now (value_after (history_of s.stores n r) held)) ≡ true

pub record IsCover (s : Judge) (i n m p : ℕ) (c : Cover) : Type 0 where
  pub held : c.held ≤ i
  pub of : c.of ≤ i
  pub covers : Covers s n c.held m c.of p

-- nodes and a partition that have a number
pub record HaveNumber (n m p : ℕ) : Type 0 where
  pub node : n < 65536
  pub member : m < 65536
  pub partition : p < 4096

abbrev pub SeesCovers : Judge → ℕ → Type 0
SeesCovers s i =
    (n m p : ℕ) (c : Cover) → HaveNumber n m p → cover_of s n m p ≡ Some c → IsCover s i n m p c

-- Open writes of a view, and what is to be tried of its partitions as they end.
use Rattle.std.specs.Prelude.{◌≡◌, ℕ, ◌+◌, ◌-◌, Bool, true, false, nat_eq, nat_lt, List, [], ◌∷◌, ◌++◌, Option, Some, None, cond, if◌then◌else◌}
use Rattle.audit_state.specs.declared.views.View.{View}
use Rattle.audit_state.specs.declared.views.Write.{Write}
use Rattle.audit_state.specs.declared.writes.Doubts.{Doubts}
use Rattle.audit_state.specs.Keys.{pair_eq}
use Rattle.audit_state.specs.Views.{write_at}
use Rattle.audit_state.specs.Written.{Stand, written_of, stand_of}

-- ---- the stand of a partition

-- the stand of the partition becomes this, and all else of the view is as it was
pub record SetsStand (p : ℕ) (stand : Stand) (old new : View) : Type 0 where
  pub stands : (q : ℕ) → stand_of new q ≡ cond (nat_eq p q) stand (stand_of old q)
  pub written : (q : ℕ) → written_of new q ≡ written_of old q
  pub rest : record new { partitions = old.partitions } ≡ old

-- the list master's `settled` line stands
abbrev pub settled_stand : Stand → Stand
settled_stand s = record {
  settled = true;
  open_writes = s.open_writes;
  untried = s.untried;
  suspects = s.suspects;
}

-- all records are to be tried
abbrev pub untried_stand : Stand → Stand
untried_stand s = record {
  settled = s.settled;
  open_writes = s.open_writes;
  untried = true;
  suspects = s.suspects;
}

-- the record of this number is to be tried too
abbrev pub suspect_stand : ℕ → Stand → Stand
suspect_stand r s = record {
  settled = s.settled;
  open_writes = s.open_writes;
  untried = s.untried;
  suspects = s.suspects ++ r ∷ [];
}

-- one write more is open
abbrev pub opened_stand : Stand → Stand
opened_stand s = record {
  settled = s.settled;
  open_writes = s.open_writes + 1;
  untried = s.untried;
  suspects = s.suspects;
}

-- where no write is open, nothing is to be tried any longer
abbrev pub left_stand : Stand → Stand
left_stand s =
    if nat_lt 0 s.open_writes then s
    else record { settled = s.settled; open_writes = s.open_writes; untried = false; suspects = [] }

-- one write less is open, and where none is left nothing is to be tried any longer
abbrev pub fewer_stand : Stand → Stand
fewer_stand s = record {
  settled = s.settled;
  open_writes = s.open_writes - 1;
  untried = s.untried;
  suspects = s.suspects;
}

abbrev pub ended_stand : Stand → Stand
ended_stand s = left_stand (fewer_stand s)

-- the record of this number is to be tried too
abbrev pub Suspects : ℕ → ℕ → View → View → Type 0
Suspects r p old new = SetsStand p (suspect_stand r (stand_of old p)) old new

-- all records are to be tried
abbrev pub Distrusts : ℕ → View → View → Type 0
Distrusts p old new = SetsStand p (untried_stand (stand_of old p)) old new

-- one write less is open in the partition
abbrev pub EndsWrite : ℕ → View → View → Type 0
EndsWrite p old new = SetsStand p (ended_stand (stand_of old p)) old new

-- the partition is listed as settled, and stands so
pub record SettlesPartition (p : ℕ) (old new : View) : Type 0 where
  pub listed : new.settled.items ≡ old.settled.items ++ p ∷ []
  pub stands : (q : ℕ)
      → stand_of new q ≡ cond (nat_eq p q) (settled_stand (stand_of old p)) (stand_of old q)
  pub written : (q : ℕ) → written_of new q ≡ written_of old q
  pub rest : record new { partitions = old.partitions; settled = old.settled } ≡ old

-- ---- what is to be tried as a write ends

-- these are the doubts of the stand
pub record AreDoubts (s : Stand) (d : Doubts) : Type 0 where
  pub untried : d.untried ≡ s.untried
  pub suspects : d.suspects.items ≡ s.suspects

-- what is to be tried at a stand: its doubts where no write is open, and nothing before
abbrev pub IsLeft : Stand → Option Doubts → Type 0
IsLeft s None = nat_lt 0 s.open_writes ≡ true
IsLeft s (Some d) = (nat_lt 0 s.open_writes ≡ false) × AreDoubts s d

-- what is to be tried as one write less is open
abbrev pub IsToTry : Stand → Option Doubts → Type 0
IsToTry s d = IsLeft (fewer_stand s) d

-- ---- the writes of a transaction

abbrev pub done_in : Option Write → Bool
done_in None = false
done_in (Some x) = x.done

abbrev pub open_in : Option Write → List ℕ
open_in None = []
open_in (Some x) = x.open_in.items

-- whether the node's `done` line of the transaction stands
abbrev pub is_done_write : View → ℕ → ℕ → Bool
is_done_write v n t = done_in (write_at v n t)

-- the partition of each write of the transaction that is open as one of the list master
abbrev pub open_of : View → ℕ → ℕ → List ℕ
open_of v n t = open_in (write_at v n t)

-- a write of the transaction is open in the partition
pub record ListsOpen (n t p : ℕ) (old new : View) : Type 0 where
  pub partitions : (m u : ℕ)
      → open_of new m u ≡ cond (pair_eq (n, t) (m, u)) (open_of old n t ++ p ∷ []) (open_of old m u)
  pub done : (m u : ℕ) → is_done_write new m u ≡ is_done_write old m u
  pub rest : record new { writes = old.writes } ≡ old

-- ... and it is one more that is open there
pub record TakesWrite (n t p : ℕ) (old new : View) : Type 0 where
  pub partitions : (m u : ℕ)
      → open_of new m u ≡ cond (pair_eq (n, t) (m, u)) (open_of old n t ++ p ∷ []) (open_of old m u)
  pub done : (m u : ℕ) → is_done_write new m u ≡ is_done_write old m u
  pub stands : (q : ℕ)
      → stand_of new q ≡ cond (nat_eq p q) (opened_stand (stand_of old p)) (stand_of old q)
  pub written : (q : ℕ) → written_of new q ≡ written_of old q
  pub rest : record new { partitions = old.partitions; writes = old.writes } ≡ old

-- a write comes to the partition, which is open unless its `done` line stands already
pub record OpensWrite (n t p : ℕ) (old new : View) : Type 0 where
  pub passed : is_done_write old n t ≡ true → new ≡ old
  pub taken : is_done_write old n t ≡ false → TakesWrite n t p old new

-- the transaction's `done` line stands, and none of its writes is open any longer
pub record FinishesWrites (n t : ℕ) (old new : View) : Type 0 where
  pub partitions : (m u : ℕ) → open_of new m u ≡ cond (pair_eq (n, t) (m, u)) [] (open_of old m u)
  pub done : (m u : ℕ)
      → is_done_write new m u ≡ cond (pair_eq (n, t) (m, u)) true (is_done_write old m u)
  pub rest : record new { writes = old.writes } ≡ old

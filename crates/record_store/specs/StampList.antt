-- The stamps of a store as a list with a place for each partition.
use Rattle.std.specs.Prelude.{ℕ, suc, List, [], ◌∷◌, Option, Some, None}
use Rattle.std.specs.FinMap as finite
use Rattle.cluster_types.specs.Copies as copies
use Rattle.cluster_types.specs.Copies.{Stamps}
use Rattle.record_store.specs.declared.stamp.Stamp.{Stamp}

-- the key and the number of writes
abbrev pub shown_stamp : Option Stamp → Option copies.Stamp
shown_stamp None = None
shown_stamp (Some s) = Some (s.key, s.writes)

-- the entry of that partition before others
abbrev pub with_stamp_entry : ℕ → Option copies.Stamp → List (ℕ × copies.Stamp)
    → List (ℕ × copies.Stamp)
with_stamp_entry p None es = es
with_stamp_entry p (Some stamp) es = (p, stamp) ∷ es

-- the entries of the stamps from that partition on
abbrev pub entries_from : ℕ → List (Option Stamp) → List (ℕ × copies.Stamp)
entries_from p [] = []
entries_from p (s ∷ stamps) = with_stamp_entry p (shown_stamp s) (entries_from (suc p) stamps)

abbrev pub stamps_of : List (Option Stamp) → Stamps
stamps_of stamps = finite.from_entries (entries_from 0 stamps)

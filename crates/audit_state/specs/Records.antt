-- What is known of the records.
use Rattle.std.specs.Prelude.{◌≡◌, ℕ, ◌+◌, ◌-◌, Bool, true, false, List, Option, Some, None, IsSome, bytes_eq, nat_eq, slice_get, option_map, cond, if◌then◌else◌}
use Rattle.std.specs.HashMap as hash
use Rattle.conflict_order.specs.declared.policy.Policy.{Policy}
use Rattle.journal_lines.specs.declared.line.Line.{Line}
use Rattle.audit_state.specs.declared.records.Record.{Record}
use Rattle.audit_state.specs.declared.records.Records.{Records}
use Rattle.audit_state.specs.Places.{placed_version, placed, is_at_most}

-- the number of the digest's record, and the record of that number
abbrev pub record_number : Records → List ℕ → Option ℕ
record_number rs d = hash.get bytes_eq rs.numbers d

abbrev pub numbered_record : Records → ℕ → Option Record
numbered_record rs r = slice_get rs.known.items r

abbrev pub record_digest : Records → ℕ → Option (List ℕ)
record_digest rs r = option_map (λ x. x.digest) (numbered_record rs r)

-- each record has its number
pub record AreNumberedRecords (rs : Records) : Type 0 where
  pub digests : (d : List ℕ) (r : ℕ) → record_number rs d ≡ Some r → record_digest rs r ≡ Some d
  pub numbers : (d : List ℕ) (r : ℕ) → record_digest rs r ≡ Some d → record_number rs d ≡ Some r

abbrev pub newest_in : Option Record → Option ℕ
newest_in None = None
newest_in (Some x) = x.newest

abbrev pub holders_in : Option Record → ℕ
holders_in None = 0
holders_in (Some x) = x.holders

-- the place of the newest version that was applied of the record of that number
abbrev pub newest_of : Records → ℕ → Option ℕ
newest_of rs r = newest_in (numbered_record rs r)

-- how many nodes hold it
abbrev pub holders_of : Records → ℕ → ℕ
holders_of rs r = holders_in (numbered_record rs r)

-- there is no record
pub record AreNone (rs : Records) : Type 0 where
  pub numbers : (d : List ℕ) → record_number rs d ≡ None
  pub records : (r : ℕ) → numbered_record rs r ≡ None

-- the record of the digest has this number, and is new where there was none
pub record Opens (old new : Records) (d : List ℕ) (r : ℕ) : Type 0 where
  pub number : record_number new d ≡ Some r
  pub there : IsSome (numbered_record new r)
  pub numbers : (e : List ℕ)
      → record_number new e ≡ cond (bytes_eq d e) (Some r) (record_number old e)
  pub digests : (q : ℕ) → record_digest new q ≡ cond (nat_eq r q) (Some d) (record_digest old q)
  pub newest : (q : ℕ) → newest_of new q ≡ newest_of old q
  pub holders : (q : ℕ) → holders_of new q ≡ holders_of old q

-- the same is known of the same records
pub record SameRecords (old new : Records) : Type 0 where
  pub numbers : (d : List ℕ) → record_number new d ≡ record_number old d
  pub records : (r : ℕ) → numbered_record new r ≡ numbered_record old r

-- the same records have the same numbers
pub record KeepsNumbers (old new : Records) : Type 0 where
  pub numbers : (d : List ℕ) → record_number new d ≡ record_number old d
  pub digests : (r : ℕ) → record_digest new r ≡ record_digest old r

-- whether the version at the place is at most the newest
abbrev pub is_at_most_newest : Policy → List Line → ℕ → Option ℕ → Bool
is_at_most_newest by lines place newest = is_at_most by (placed_version lines place)
    (placed lines newest)

-- the newest as the version at the place is applied, and how many hold it then
abbrev pub raised : Policy → List Line → ℕ → Option ℕ → Option ℕ
raised by lines place newest = if is_at_most_newest by lines place newest then newest
    else Some place

abbrev pub raised_holders : Policy → List Line → ℕ → Option ℕ → ℕ → ℕ
raised_holders by lines place newest holders = if is_at_most_newest by lines place newest
    then holders else 0

-- how many hold it as one of them held it or holds it
abbrev pub holder_count : Bool → Bool → ℕ → ℕ
holder_count false true n = n + 1
holder_count true false n = n - 1
holder_count _ _ n = n

-- Ranks as numbers.
use Rattle.std.specs.Prelude.{ℕ, ◌+◌, ◌*◌, ◌%◌, ◌^◌, ◌<◌}
use Rattle.std.specs.Int.{from_bool}
use Rattle.partition_lists.specs.declared.ranks.Candidate.{Candidate}
use Rattle.partition_lists.specs.declared.ranks.Rank.{Rank}

-- a place has 32 bits, and an id 16
abbrev pub FitKey : ℕ → ℕ → Type 0
FitKey place id = (place < 2 ^ 32) × (0 < id) × (id < 2 ^ 16)

abbrev pub CandidateFits : Candidate → Type 0
CandidateFits c = FitKey c.place c.member.id

abbrev pub RankFits : Rank → Type 0
RankFits r = FitKey r.place r.id

-- a rank as a number, which rises with it: its marks, its place and its id, each above the next
abbrev pub key_of : Rank → ℕ
key_of r =
    ((from_bool r.quiesced * 2 + from_bool r.repeats_rack) * 2 ^ 32 + r.place) * 2 ^ 16 + r.id

-- the id that stands in such a number
abbrev pub id_in : ℕ → ℕ
id_in key = key % 2 ^ 16

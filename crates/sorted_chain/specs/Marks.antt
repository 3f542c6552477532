-- What the marks of a list's nodes show.
use Rattle.std.specs.Prelude.{◌≡◌, ◌<◌, ℕ, List, Option, length, map, take}
use Rattle.std.specs.Int.{from_be_bytes, w64}
use Rattle.std.specs.List.{All}
use Rattle.sorted_chain.specs.declared.boxes.Place.{Place}
use Rattle.sorted_chain.specs.declared.marks.Mark.{Mark}

-- the first eight bytes of a key as a number, the first counting most
abbrev pub key_front : List ℕ → ℕ
key_front k = from_be_bytes w64 (take 8 k)

-- as a key is
pub record IsTwentyBytes (k : List ℕ) : Type 0 where
  pub long : length k ≡ 20
  pub bytes : All (λ b. b < 256) k

-- there is a mark for each node, in the order of the nodes: where the node lies, and the front of
-- its key
pub record AreMarks {V : Type 0} (ps : List Place) (ns : List (List ℕ × Option V))
    (ms : List Mark) : Type 0 where
  pub places : map (λ m. m.at) ms ≡ ps
  pub fronts : map (λ m. m.front) ms ≡ map (λ n. key_front n.0) ns
  pub keys : All (λ n. IsTwentyBytes n.0) ns

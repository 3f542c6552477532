-- What a run took from its source, and gave to its sink, where these tell.
use Rattle.std.specs.Prelude.{◌≡◌, ◌≢◌, ℕ, ◌+◌, ◌<◌, ◌≤◌, List, [], ◌++◌, length, drop, Option, Some, IfSome}

-- the source gave these bytes
pub record GaveBytes (all : List ℕ) (left : Option (List ℕ)) (bytes : List ℕ) : Type 0 where
  pub rest : List ℕ
  pub was : all ≡ bytes ++ rest
  pub now : left ≡ Some rest

abbrev pub Gave : Option (List ℕ) → Option (List ℕ) → List ℕ → Type 0
Gave old new bytes = IfSome old (λ all. GaveBytes all new bytes)

-- the source gave no more bytes than so many
pub record GaveFew (limit : ℕ) (all : List ℕ) (left : Option (List ℕ)) : Type 0 where
  pub bytes : List ℕ
  pub gave : GaveBytes all left bytes
  pub few : length bytes ≤ limit

abbrev pub GaveAtMost : ℕ → Option (List ℕ) → Option (List ℕ) → Type 0
GaveAtMost limit old new = IfSome old (λ all. GaveFew limit all new)

-- these bytes were all that the source had left, and it gave them
abbrev pub HadAll : Option (List ℕ) → Option (List ℕ) → List ℕ → Type 0
HadAll old new bytes = IfSome old (λ all. (all ≡ bytes) × (new ≡ Some []))

-- the most bytes that a script has
abbrev pub script_limit : ℕ
script_limit = 16777216

-- the source gave as many bytes as the limit, and one byte more
pub record Overlong (limit : ℕ) (bytes : List ℕ) (left : Option (List ℕ)) : Type 0 where
  pub longer : limit < length bytes
  pub read : left ≡ Some (drop (limit + 1) bytes)

-- the sink took these bytes
abbrev pub WroteBytes : Option (List ℕ) → Option (List ℕ) → List ℕ → Type 0
WroteBytes old new bytes = IfSome old (λ taken. new ≡ Some (taken ++ bytes))

-- the sink took a front of these bytes, and not all of them
pub record TookFront (taken : List ℕ) (new : Option (List ℕ)) (bytes : List ℕ) : Type 0 where
  pub front : List ℕ
  pub rest : List ℕ
  pub whole : front ++ rest ≡ bytes
  pub short : rest ≢ []
  pub now : new ≡ Some (taken ++ front)

abbrev pub WroteFront : Option (List ℕ) → Option (List ℕ) → List ℕ → Type 0
WroteFront old new bytes = IfSome old (λ taken. TookFront taken new bytes)

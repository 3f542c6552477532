-- The entries of a chain: keys with their values, in the order of the keys.
use Rattle.std.specs.Prelude.{ℕ, Bool, List, Option, Some, None, is_some, filter, IsTrue, refl}
use Rattle.std.specs.Coded.{Coded, code_by, coded×, coded_list, coded_ℕ}
use Rattle.std.specs.Borrow.{Bor}
use Rattle.std.specs.Cmp.Lexicographic.{slice_cmp}
use Rattle.std.specs.FinMap.{find, is_sorted}
use Rattle.std.specs.Ordering.{nat_cmp, is_lt}
use Rattle.std.specs.declared.cmp.Ordering.{Ordering}

-- keys go by their bytes, from the first on
abbrev pub key_cmp : List ℕ → List ℕ → Ordering
key_cmp = slice_cmp nat_cmp

-- what a caller sees of a chain
pub record Chain (V : Type 0) : Type 0 where
  -- the keys and their values, in the order of the keys
  pub items : List (List ℕ × V)
  -- for how many new keys there is room already
  pub spare : ℕ

abbrev pub chain_code : {V : Type 0} → Coded V → Coded (Chain V)
chain_code {V} v =
    code_by (List (List ℕ × V) × ℕ) (coded× (coded_list (coded× (coded_list coded_ℕ) v)) coded_ℕ)
    (λ c. (c.items, c.spare)) (λ p. record { items = p.0; spare = p.1 }) (λ _. refl)

-- the keys rise strictly
abbrev pub IsAscending : {V : Type 0} → List (List ℕ × V) → Type 0
IsAscending es = IsTrue (is_sorted key_cmp es)

-- whether the key has an entry
abbrev pub has_key : {V : Type 0} → List ℕ → List (List ℕ × V) → Bool
has_key k es = is_some (find key_cmp k es)

-- all entries, or those above the key
abbrev pub above : {V : Type 0} → Option (List ℕ) → List (List ℕ × V) → List (List ℕ × V)
above None es = es
above (Some k) es = filter (λ e. is_lt (key_cmp k e.0)) es

-- the entry that two references show
abbrev pub shown : {V : Type 0} → Bor (List ℕ) × Bor V → List ℕ × V
shown e = (e.0.now, e.1.now)

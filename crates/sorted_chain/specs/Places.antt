-- Where a key stands among entries, or would stand.
use Rattle.std.specs.Prelude.{◌≡◌, ℕ, ◌<◌, ◌≤◌, List, length, slice_index_or}
use Rattle.std.specs.List.{HoldsAt}
use Rattle.std.specs.declared.cmp.Ordering.TheVariants.{Less, Equal, Greater}
use Rattle.sorted_chain.specs.Chain.{key_cmp}

-- the entry at this place has the key
pub record IsHere {V : Type 0} (k : List ℕ) (es : List (List ℕ × V)) (i : ℕ) : Type 0 where
  pub within : i < length es
  pub same : HoldsAt (λ e. key_cmp e.0 k ≡ Equal) es i

-- the keys before this place are below the key, and those from it on are above
pub record IsGap {V : Type 0} (k : List ℕ) (es : List (List ℕ × V)) (i : ℕ) : Type 0 where
  pub within : i ≤ length es
  pub below : (j : ℕ) (d : List ℕ × V) → j < i → j < length es
      → key_cmp (slice_index_or es j d).0 k ≡ Less
  pub above : (j : ℕ) (d : List ℕ × V) → i ≤ j → j < length es
      → key_cmp (slice_index_or es j d).0 k ≡ Greater

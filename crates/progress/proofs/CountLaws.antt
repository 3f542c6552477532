-- Counts by partition, and the bytes of the rows that they count.
use Rattle.std.proofs.Common.{rules, ◌≡◌, ◌⊎◌, inl, inr, Bool, ℕ, ◌+◌, ◌-◌, ◌*◌, ◌/◌, ◌%◌, ◌^◌, ◌<◌, ◌≤◌, List, eqb, sym, ap, ap₂, subst, ◌∙◌, arith}
use Rattle.std.specs.Prelude.{◌==◌, length, slice_index, slice_range}
use Rattle.std.specs.Int.{bit_at}
use Rattle.std.proofs.lemmas.Bool.{eqb-true, eqb-false, cond_both, cases_lt}
use Rattle.std.proofs.lemmas.List.{places}
use Rattle.std.proofs.lemmas.List.Edits.{get_or-between}
use Rattle.cluster_types.specs.RowBytes.{bits_of, bit_number}
use Rattle.cluster_types.specs.Rows.{bit}
use Rattle.cluster_types.proofs.RowLaws.{bit_within}
use borrow.Rule.Slice.PartMut.{put_mid}

one_of_number : (n : ℕ) → n < 2 → bit_number (n == 1) ≡ n
one_of_number n lt = cond_both (eqb n 1) 1 0 (λ x. x ≡ n) (λ e. sym (eqb-true _ _ e)) (λ e. let ne = eqb-false _ _ e in omega (arith, ne))

-- a bit of a row, as one of its byte
pub one_of_bit : (bytes : List ℕ) (row : List Bool) (i b : ℕ) → bits_of bytes ≡ row → i < 512 → b < 8 → bit_number (bit row (8 * i + b)) ≡ bit_at (slice_index bytes i) b
one_of_bit bytes row i b is small lt =
    let within : 8 * i + b < 4096 = omega (arith, small, lt) in
    let byte : (8 * i + b) / 8 ≡ i = omega (arith, lt) in
    let place : (8 * i + b) % 8 ≡ b = omega (arith, lt) in
    ap (λ r. bit_number (bit r (8 * i + b))) (sym is)
    ∙ ap bit_number (bit_within bytes (8 * i + b) within)
    ∙ one_of_number (slice_index bytes ((8 * i + b) / 8) / 2 ^ ((8 * i + b) % 8) % 2) (omega arith)
    ∙ ap₂ (λ (j k : ℕ). slice_index bytes j / 2 ^ k % 2) byte place

-- the counts of one byte
pub count_of_eight : (known : List ℕ) (i b : ℕ) → b < 8 → slice_index (slice_range known (8 * i) (8 * i + 8)) b ≡ slice_index known (8 * i + b)
count_of_eight known i b lt = get_or-between known (8 * i) (8 * i + 8) b 0 (omega (arith, lt))

-- those counts once eight were put in their place
pub put_below : (known eight : List ℕ) (i p : ℕ) → i < 512 → length known ≡ 4096 → p < 8 * i → slice_index (put_mid (8 * i) (8 * i + 8 - 8 * i) known eight) p ≡ slice_index known p
put_below known eight i p small size lt = search (rules, places)

pub put_here : (known eight : List ℕ) (i b : ℕ) → i < 512 → length known ≡ 4096 → length eight ≡ 8 → b < 8 → slice_index (put_mid (8 * i) (8 * i + 8 - 8 * i) known eight) (8 * i + b) ≡ slice_index eight b
put_here known eight i b small size eights lt = search (rules, places)

pub put_above : (known eight : List ℕ) (i p : ℕ) → i < 512 → length known ≡ 4096 → length eight ≡ 8 → 8 * (i + 1) ≤ p → slice_index (put_mid (8 * i) (8 * i + 8 - 8 * i) known eight) p ≡ slice_index known p
put_above known eight i p small size eights le = search (rules, places)

-- the counts once the first bytes of the rows were gone over, and how they stand behind them
pub record AreRecounted (first known : List ℕ) (before after : List Bool) (i : ℕ) : Type 0 where
  pub done : (p : ℕ) → p < 8 * i → slice_index known p + bit_number (bit before p) ≡ slice_index first p + bit_number (bit after p)
  pub rest : (p : ℕ) → 8 * i ≤ p → slice_index known p ≡ slice_index first p

-- what one byte more makes of them
pub record IsByteCounted (known new : List ℕ) (was is : ℕ) (i : ℕ) : Type 0 where
  pub below : (p : ℕ) → p < 8 * i → slice_index new p ≡ slice_index known p
  pub above : (p : ℕ) → 8 * (i + 1) ≤ p → slice_index new p ≡ slice_index known p
  pub here : (b : ℕ) → b < 8 → slice_index new (8 * i + b) + bit_at was b ≡ slice_index known (8 * i + b) + bit_at is b

module _ (first known new was is : List ℕ) (before after : List Bool) (i : ℕ) where
  here_recounted : bits_of was ≡ before → bits_of is ≡ after → i < 512 → AreRecounted first known before after i → IsByteCounted known new (slice_index was i) (slice_index is i) i
      → (p b : ℕ) → b < 8 → p ≡ 8 * i + b → slice_index new p + bit_number (bit before p) ≡ slice_index first p + bit_number (bit after p)
  here_recounted e f small h k p b lt same =
      subst (λ q. slice_index new q + bit_number (bit before q) ≡ slice_index first q + bit_number (bit after q)) (sym same)
      (let x = one_of_bit was before i b e small lt in
      let y = one_of_bit is after i b f small lt in
      let z = k.here b lt in
      let r = h.rest (8 * i + b) (omega arith) in
      omega (arith, x, y, z, r))

  pub byte_recounted : bits_of was ≡ before → bits_of is ≡ after → i < 512 → AreRecounted first known before after i → IsByteCounted known new (slice_index was i) (slice_index is i) i → AreRecounted first new before after (i + 1)
  byte_recounted e f small h k = record {
    done = λ p lt. at p lt (cases_lt p (8 * i));
    rest = λ p le. k.above p le ∙ h.rest p (omega (arith, le));
  }
    where
      at : (p : ℕ) → p < 8 * (i + 1) → (p < 8 * i) ⊎ (8 * i ≤ p) → slice_index new p + bit_number (bit before p) ≡ slice_index first p + bit_number (bit after p)
      at p lt (inl less) = let x = k.below p less in let y = h.done p less in omega (arith, x, y)
      at p lt (inr le) = here_recounted e f small h k p (p - 8 * i) (omega (arith, lt, le)) (omega (arith, le))

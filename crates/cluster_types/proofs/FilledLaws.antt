-- A list at the front of sixteen places that gains an item.
use Rattle.std.proofs.Common.{◌≡◌, ℕ, ◌+◌, ◌-◌, ◌<◌, ◌≤◌, List, ◌++◌, ◌∷◌, [], length, take, drop, replicate, slice_set, refl, sym, ap, ◌∙◌, arith, suc, length-append, length-drop}
use Rattle.std.proofs.lemmas.List.{drop-set-lt, drop-drop, length-set, take_more_set, drop_at, drop-replicate, length-replicate}
use Rattle.cluster_types.specs.Filled.{IsFilled}

fewer : {A : Type 0} (m : ℕ) (filler : A) → drop 1 (replicate (suc m) filler) ≡ replicate m filler
fewer m filler = refl

pub IsFilled_push : {A : Type 0} (places : List A) (len : ℕ) (filler x : A) → len < 16 → IsFilled places len filler → IsFilled (slice_set places len x) (len + 1) filler
IsFilled_push places len filler x room h = record {
  fits = omega arith;
  size = length-set places len x ∙ h.size;
  rest =
      drop-set-lt (len + 1) places len x (omega arith)
      ∙ sym (drop-drop 1 len places)
      ∙ ap (drop 1) h.rest
      ∙ ap (λ m. drop 1 (replicate m filler)) (let k : 16 - len ≡ suc (16 - (len + 1)) = omega arith in k)
      ∙ fewer (16 - (len + 1)) filler;
}

pub take_push : {A : Type 0} (places : List A) (len : ℕ) (filler x : A) → len < 16 → IsFilled places len filler → take (len + 1) (slice_set places len x) ≡ take len places ++ x ∷ []
take_push places len filler x room h = take_more_set places len x (omega (arith, h.size))

pub IsFilled_front : {A : Type 0} (items : List A) (filler : A) → length items ≤ 16 → IsFilled (items ++ drop (length items) (replicate 16 filler)) (length items) filler
IsFilled_front items filler limit = record {
  fits = limit;
  size = length-append items (drop (length items) (replicate 16 filler)) ∙ (let k : length items + length (drop (length items) (replicate 16 filler)) ≡ 16 = omega (arith, length-drop (length items) (replicate 16 filler), length-replicate 16 filler) in k);
  rest = drop_at items (drop (length items) (replicate 16 filler)) (length items) refl ∙ drop-replicate (length items) 16 filler;
}

-- The boxes of a `Boxes`: one is taken out and put back, and a `&` to them is made. Assumes `Logic`.
use Rattle.std.proofs.Common.{◌≡◌, ℕ, zero, suc, ◌<◌, ◌≤◌, List, [], ◌∷◌, length, set, refl, subst, arith}
use Rattle.std.specs.List.{insert, remove, slice_get}
use Rattle.std.specs.declared.option.Option.TheVariants.{Some}
use base.Logic.{ent, sep, id⊢, via, fst∗, snd∗}
use types.Kit.{‵, ◌⊛◌, ◌$◌, ◌∵◌, !, qed, move, use1, use2, split, fsplit, fjoin, done}
use seplogic.Ra.Ura.{Ura}
use mir.Syntax.{Ty}
use mir.Raw.{raw}
use base.Fraction.{full_share}
use base.Fml.{Lft, Fml, ftrue, ffalse, Incl}
use types.Logic.{Logic, sem}
use denote.RattleType.{RattleType, RowLaws}
use denote.Memory.{lone}
use denote.Param.Laws.{Laws}
use denote.RawPtr.{Ptr, lies_at}
use denote.Sharing.{ShrLaws}
use denote.SharingLaws.{beside_shr_laws, nothing_shr_laws}
use denote.Shares.{Shares-less}
use denote.Struct.Lending.{lent_at, lent_at_shr_laws, Lends-lies, Lends-first, Lends, Lends-both, Lends-nothing}
use Rattle.std.specs.Box.Ownership.{box_owns}
use Rattle.sorted_chain.specs.declared.boxes.Place.{Place}
use Rattle.sorted_chain.specs.Ownership.{boxes_own, boxes_lent}

pub boxes_lent_laws : (R : RattleType) (L : RowLaws R) (ps : List Place) (xs : List R.Denot) → ShrLaws (boxes_lent R ps xs)
boxes_lent_laws R L [] xs = nothing_shr_laws
boxes_lent_laws R L (p ∷ ps) [] = nothing_shr_laws
boxes_lent_laws R L (p ∷ ps) (x ∷ xs) = beside_shr_laws _ _ (lent_at_shr_laws R L p.ptr x) (boxes_lent_laws R L ps xs)

module _ {M : Type 1} {𝓤 : Ura M} (𝓛 : Logic 𝓤) (l : Lft) (R : RattleType) (L : Laws R) (inc : Incl l R.lives) (frees : Ty → Ptr → Fml) where
  pub Lends-boxes : (ps : List Place) (xs : List R.Denot) → Lends 𝓛 (boxes_own R frees ps xs) (boxes_lent R ps xs) l
  Lends-boxes [] [] = Lends-nothing 𝓛 ftrue l
  Lends-boxes [] (x ∷ xs) = Lends-nothing 𝓛 ffalse l
  Lends-boxes (p ∷ ps) [] = Lends-nothing 𝓛 ffalse l
  Lends-boxes (p ∷ ps) (x ∷ xs) =
      Lends-both 𝓛 (box_owns frees R p.ptr x) (boxes_own R frees ps xs) (lent_at R p.ptr x) (boxes_lent R ps xs) l
      (Lends-first 𝓛 (lies_at R full_share p.ptr x) (frees (raw (lone R.mir)) p.ptr) (lent_at R p.ptr x) l
      (Lends-lies 𝓛 R l p.ptr x (Shares-less 𝓛 R R.lives l inc (L.shares 𝓛) x)))
      (Lends-boxes ps xs)

module _ {M : Type 1} {𝓤 : Ura M} (𝓛 : Logic 𝓤) (R : RattleType) (frees : Ty → Ptr → Fml) where
  -- a box is put in as the i-th
  pub box_put : (ps : List Place) (xs : List R.Denot) (i : ℕ) (p : Place) (x : R.Denot) → i ≤ length ps → length ps ≡ length xs
      → ent 𝓤 (sep 𝓤 (sem 𝓛 (box_owns frees R p.ptr x)) (sem 𝓛 (boxes_own R frees ps xs))) (sem 𝓛 (boxes_own R frees (insert ps i p) (insert xs i x)))
  box_put ps xs zero p x h e = id⊢ 𝓤 _
  box_put [] xs (suc i) p x h e = absurd (omega arith)
  box_put (q ∷ ps) [] (suc i) p x h e = absurd (omega arith)
  box_put (q ∷ ps) (y ∷ xs) (suc i) p x h e =
      qed 𝓛 (‵ (box_owns frees R p.ptr x) ∷ ‵ (boxes_own R frees (q ∷ ps) (y ∷ xs)) ∷ []) ∵ move ! (1 ∷ []) $ fsplit ! $ move ! (2 ∷ 1 ∷ []) $
      use2 𝓛 (‵ (boxes_own R frees (insert ps i p) (insert xs i x))) (box_put ps xs i p x (omega arith) (omega arith)) $ move ! (1 ∷ 0 ∷ []) $ fjoin ! $ done !

  -- the i-th box is taken out
  pub box_out_of : (ps : List Place) (xs : List R.Denot) (i : ℕ) (p : Place) (x : R.Denot) → slice_get ps i ≡ Some p → slice_get xs i ≡ Some x
      → ent 𝓤 (sem 𝓛 (boxes_own R frees ps xs)) (sep 𝓤 (sem 𝓛 (box_owns frees R p.ptr x)) (sem 𝓛 (boxes_own R frees (remove ps i) (remove xs i))))
  box_out_of [] xs i p x e f = cc
  box_out_of (q ∷ ps) [] i p x e f = cc
  box_out_of (q ∷ ps) (y ∷ xs) zero p x e f =
      let same : q ≡ p = cc in let like : y ≡ x = cc in
      subst (λ (z : Place × R.Denot). ent 𝓤 (sem 𝓛 (boxes_own R frees (q ∷ ps) (y ∷ xs))) (sep 𝓤 (sem 𝓛 (box_owns frees R z.0.ptr z.1)) (sem 𝓛 (boxes_own R frees ps xs)))) (λ j. (same j, like j)) (id⊢ 𝓤 _)
  box_out_of (q ∷ ps) (y ∷ xs) (suc i) p x e f =
      qed 𝓛 (‵ (boxes_own R frees (q ∷ ps) (y ∷ xs)) ∷ []) ∵ fsplit ! $ move ! (1 ∷ []) $
      use1 𝓛 (‵ (box_owns frees R p.ptr x) ⊛ ‵ (boxes_own R frees (remove ps i) (remove xs i))) (box_out_of ps xs i p x e f) $ split ! $ move ! (2 ∷ 1 ∷ []) $ fjoin ! $ move ! (1 ∷ []) $ done !

  -- the i-th box is put back, with x in it
  pub box_back : (ps : List Place) (xs : List R.Denot) (i : ℕ) (p : Place) (x : R.Denot) → slice_get ps i ≡ Some p → i < length xs
      → ent 𝓤 (sep 𝓤 (sem 𝓛 (box_owns frees R p.ptr x)) (sem 𝓛 (boxes_own R frees (remove ps i) (remove xs i)))) (sem 𝓛 (boxes_own R frees ps (set xs i x)))
  box_back [] xs i p x e h = cc
  box_back (q ∷ ps) [] i p x e h = absurd (omega arith)
  box_back (q ∷ ps) (y ∷ xs) zero p x e h =
      let same : p ≡ q = cc in
      subst (λ (z : Place). ent 𝓤 (sep 𝓤 (sem 𝓛 (box_owns frees R p.ptr x)) (sem 𝓛 (boxes_own R frees ps xs))) (sem 𝓛 (boxes_own R frees (z ∷ ps) (x ∷ xs)))) same (id⊢ 𝓤 _)
  box_back (q ∷ ps) (y ∷ xs) (suc i) p x e h =
      qed 𝓛 (‵ (box_owns frees R p.ptr x) ∷ ‵ (boxes_own R frees (q ∷ remove ps i) (y ∷ remove xs i)) ∷ []) ∵ move ! (1 ∷ []) $ fsplit ! $ move ! (2 ∷ 1 ∷ []) $
      use2 𝓛 (‵ (boxes_own R frees ps (set xs i x))) (box_back ps xs i p x e (omega arith)) $ move ! (1 ∷ 0 ∷ []) $ fjoin ! $ done !

  -- what is lent of the i-th
  pub box_seen : (κ : Lft) (ps : List Place) (xs : List R.Denot) (i : ℕ) (p : Place) (x : R.Denot) → slice_get ps i ≡ Some p → slice_get xs i ≡ Some x
      → ent 𝓤 (sem 𝓛 (boxes_lent R ps xs κ)) (sem 𝓛 (lent_at R p.ptr x κ))
  box_seen κ [] xs i p x e f = cc
  box_seen κ (q ∷ ps) [] i p x e f = cc
  box_seen κ (q ∷ ps) (y ∷ xs) zero p x e f =
      let same : q ≡ p = cc in let like : y ≡ x = cc in
      subst (λ (z : Place × R.Denot). ent 𝓤 (sem 𝓛 (boxes_lent R (q ∷ ps) (y ∷ xs) κ)) (sem 𝓛 (lent_at R z.0.ptr z.1 κ))) (λ j. (same j, like j)) (fst∗ 𝓤 _ (sem 𝓛 (boxes_lent R ps xs κ)))
  box_seen κ (q ∷ ps) (y ∷ xs) (suc i) p x e f = via 𝓤 _ (snd∗ 𝓤 (sem 𝓛 (lent_at R q.ptr y κ)) _) (box_seen κ ps xs i p x e f)

-- a place has an item
pub item_at : {X : Type 0} (ps : List Place) (xs : List X) (i : ℕ) (p : Place) → length ps ≡ length xs → slice_get ps i ≡ Some p → (x : X) × (slice_get xs i ≡ Some x)
item_at [] xs i p e f = cc
item_at (q ∷ ps) [] i p e f = absurd (omega arith)
item_at (q ∷ ps) (y ∷ xs) zero p e f = (y, refl)
item_at (q ∷ ps) (y ∷ xs) (suc i) p e f = item_at ps xs i p (omega arith) f

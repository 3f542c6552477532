-- What `Boxes` owns and lends.
use Rattle.std.specs.Prelude.{List, [], ◌∷◌}
use base.Fml.{Lft, Fml, ftrue, ffalse, fsep}
use mir.Syntax.{Ty}
use denote.RattleType.{RattleType}
use denote.Sharing.{nothing, beside}
use denote.RawPtr.{Ptr}
use denote.Struct.Lending.{lent_at}
use Rattle.std.specs.Box.Ownership.{box_owns}
use Rattle.sorted_chain.specs.declared.boxes.Place.{Place}

module _ (R : RattleType) where
  -- at each place lies a box with its item
  abbrev pub boxes_own : (Ty → Ptr → Fml) → List Place → List R.Denot → Fml
  boxes_own frees [] [] = ftrue
  boxes_own frees [] (x ∷ xs) = ffalse
  boxes_own frees (p ∷ ps) [] = ffalse
  boxes_own frees (p ∷ ps) (x ∷ xs) = fsep (box_owns frees R p.ptr x) (boxes_own frees ps xs)

  -- what a `&` holds of them
  abbrev pub boxes_lent : List Place → List R.Denot → Lft → Fml
  boxes_lent [] xs = nothing
  boxes_lent (p ∷ ps) [] = nothing
  boxes_lent (p ∷ ps) (x ∷ xs) = beside (lent_at R p.ptr x) (boxes_lent ps xs)

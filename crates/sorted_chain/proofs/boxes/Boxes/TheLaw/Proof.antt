-- A `&` to the boxes is made where one to each item is. Assumes `Logic`.
use mathlib.Core.List.{[], ◌++◌}
use base.Fml.{Incl-trans}
use contract.BorrowLft.{meet_⊑_left}
use denote.RattleType.{RattleType}
use denote.RawPtr.{RawPtr}
use denote.Param.Laws.{Laws}
use denote.Param.Shared.{copy_shared}
use denote.Struct.Laws.{field_copy}
use denote.Struct.Lending.{of_Lends}
use Rattle.std.specs.declared.alloc.Allocator.{Ghosts}
use Rattle.std.specs.contracts.marker.PhantomData as marker
use Rattle.sorted_chain.specs.contracts.boxes.Boxes as C
use Rattle.sorted_chain.proofs.boxes.Boxes.TheLaw.Statement.{statement}
use Rattle.sorted_chain.proofs.BoxesLaws.{boxes_lent_laws, Lends-boxes}

pub shares : (R B : RattleType) (g : Ghosts B.Denot) (L : Laws R) (K : Laws B) → statement R B g L K
shares R B g L K = of_Lends (C.struct R B g) (C.the_codes R.Denot B.Denot R.coded B.coded (marker.the_row RawPtr).coded) (C.the_heap R B g) (C.the_lent R B g)
    (λ d p. boxes_lent_laws R L.shr_laws d.places d.items) (copy_shared (marker.the_field RawPtr) (field_copy (marker.the_type RawPtr) tt), tt)
    (λ M 𝓤 𝓛 d p. Lends-boxes 𝓛 (C.the_row R B g).lives R L (Incl-trans (meet_⊑_left (R.lives ++ (B.lives ++ [])) _) (meet_⊑_left R.lives (B.lives ++ []))) (g.dealloc_token d.alloc) d.places d.items)

-- What becomes of the boxes once a `&mut` to an item has ended.
use Rattle.std.specs.Prelude.{ℕ, slice_set}
use mathlib.Core.Path.{sym, ◌∙◌}
use lib.ListN.{length-set}
use base.Fml.{Fml}
use denote.RattleType.{RattleType}
use denote.Ref.{MutBor}
use denote.Follow.{follows}
use Rattle.std.specs.declared.alloc.Allocator.{Ghosts}
use Rattle.sorted_chain.specs.declared.boxes.Boxes.{Boxes}
use Rattle.sorted_chain.specs.contracts.boxes.Boxes.{the_row}

-- the same boxes with w in the i-th
abbrev pub with_item : {X Z : Type 0} → Boxes X Z → ℕ → X → Boxes X Z
with_item b i w = record {
  mark = b.mark;
  alloc = b.alloc;
  places = b.places;
  items = slice_set b.items i w;
  paired = b.paired ∙ sym (length-set b.items i w);
}

-- that item is the last value written through r
abbrev pub boxes_follow_item : (R Z : RattleType) (g : Ghosts Z.Denot)
    → MutBor (Boxes R.Denot Z.Denot) → ℕ → MutBor R.Denot → Fml
boxes_follow_item R Z g b i r =
    follows (the_row R Z g) R b.ghost_name r.ghost_name (with_item b.now i)

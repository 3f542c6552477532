-- How many lines of one kind there are.
use Rattle.std.proofs.Common.{◌≡◌, ℕ, Bool, List, filter, length}
use Rattle.std.specs.Borrow.{Bor}
use Rattle.std.specs.Fn.{Mut, CalledAt}
use Rattle.std.specs.Iterator.{Drains}
use Rattle.std.specs.Iterator.Adapters.{filter_callee, filter_source, filter_steps}
use Rattle.std.specs.Slice.Iter.{iter_rest}
use Rattle.std.specs.declared.iter.Filter.{Filter}
use Rattle.std.specs.declared.slice.Iter.{Iter}
use Rattle.std.proofs.lemmas.Fn.{fronts}
use Rattle.std.proofs.lemmas.Iterator.{YieldsList-from_slice}
use Rattle.std.proofs.lemmas.Iterator.Consumers.{YieldsList-from_filter, count_from_yields_List}
use Rattle.journal_lines.specs.declared.line.Line.{Line}

-- as `filter` and `count` count them
pub counted : {F : Type 0} (g : Mut F (Bor (Bor Line) × Unit {0}) Bool) (is_kind : Line → Bool) (lines : List Line) (s : Filter (Iter Line) F) (r : ℕ) {f : F}
    → iter_rest (filter_source s) ≡ lines → filter_callee s ≡ f → ((x : Bor Line) (b : Bool) (q : F) → CalledAt g f x b q → (q ≡ f) × (b ≡ is_kind x.now))
    → ((xs : List (Bor Line)) × Drains (filter_steps fronts g) s xs × (r ≡ length xs)) → r ≡ length (filter is_kind lines)
counted g is_kind lines s r rest same called ran =
    count_from_yields_List s r ran (YieldsList-from_filter g is_kind (YieldsList-from_slice lines rest) same called)

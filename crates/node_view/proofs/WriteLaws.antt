-- The writes of a partition after one more.
use Rattle.std.proofs.Common.{◌≡◌, ℕ, zero, suc, ◌+◌, ◌<◌, Bool, false, List, [], ◌∷◌, length, get_or, set, Option, Some, None, Result, Ok, Err, IfOk, sym, ap, subst, ◌∙◌, arith}
use Rattle.std.specs.Prelude.{unwrap_or}
use Rattle.std.specs.List.{insert}
use Rattle.node_rules.specs.Stamps.{Writes, count_at, count_of, with_number}
use Rattle.node_rules.specs.Tables.{Table, at, table_with}
use Rattle.write_path.specs.Numbered.{Numbered}
use Rattle.node_view.specs.Writes.{heard_in, rooms_in, HasRoomToHear, IsAscendingTable, IsGapFor, IsTablePlaceOf}
use Rattle.node_view.specs.Writes.HasRoomToHear.{known, new}
use Rattle.node_view.proofs.TableLaws.{at_gap, at_mapped, at_place, at_put, none_mapped, put_gap, put_mapped, put_place}

-- ---- applied writes

pub applied_at : (es : List (ℕ × ℕ)) (p i : ℕ) (x : ℕ × ℕ) (last : ℕ) → IsAscendingTable es → IsTablePlaceOf p es i → x ≡ get_or es i x → unwrap_or (at es p) 0 < last → x.1 < last
applied_at es p i x last h here is few = subst (λ (o : Option ℕ). unwrap_or o 0 < last) (at_place p es i x h here is) few

pub applied_place : (es : List (ℕ × ℕ)) (p i : ℕ) (x : ℕ × ℕ) → IsAscendingTable es → IsTablePlaceOf p es i → x ≡ get_or es i x → set es i (x.0, x.1 + 1) ≡ table_with es p (unwrap_or (at es p) 0 + 1)
applied_place es p i x h here is =
    put_place p (x.1 + 1) es i x h here is ∙ ap (λ (o : Option ℕ). table_with es p (unwrap_or o 0 + 1)) (sym (at_place p es i x h here is))

pub applied_gap : (es us : List (ℕ × ℕ)) (p i : ℕ) → IsGapFor p es i → us ≡ insert es i (p, 1) → us ≡ table_with es p (unwrap_or (at es p) 0 + 1)
applied_gap es us p i gap is =
    is ∙ (put_gap p 1 es i gap ∙ ap (λ (o : Option ℕ). table_with es p (unwrap_or o 0 + 1)) (sym (at_gap p es i gap)))

-- ---- room for a number

-- a set of numbers that has more room has the same numbers
pub heard_kept : (es : List (ℕ × Numbered)) (i : ℕ) (x : ℕ × Numbered) (t : Numbered) → i < length es → x ≡ get_or es i x → t.numbers ≡ x.1.numbers → heard_in (set es i (x.0, t)) ≡ heard_in es
heard_kept [] i x t within is same = absurd (omega arith)
heard_kept (e ∷ es) zero x t within is same =
    ap (λ (n : List ℕ). (x.0, n) ∷ heard_in es) same ∙ ap (λ (y : ℕ × Numbered). (y.0, y.1.numbers) ∷ heard_in es) is
heard_kept (e ∷ es) (suc i) x t within is same =
    ap (λ (rest : Table (List ℕ)). (e.0, e.1.numbers) ∷ rest) (heard_kept es i x t (omega (arith, within)) is same)

pub room_kept : (es : List (ℕ × Numbered)) (p i k : ℕ) (x : ℕ × Numbered) (t first : Numbered) → IsAscendingTable es → IsTablePlaceOf p es i → x ≡ get_or es i x → 0 < t.spare → HasRoomToHear (rooms_in (set es i (x.0, t))) k p first
room_kept es p i k x t first h here is some =
    let there : at (set es i (x.0, t)) p ≡ Some t = ap (λ (us : List (ℕ × Numbered)). at us p) (put_place p t es i x h here is) ∙ at_put p t es in
    known t.spare (at_mapped (λ (n : Numbered). n.spare) (set es i (x.0, t)) p t there) some

pub room_first : {E : Type 0} (es us : List (ℕ × Numbered)) (p i k : ℕ) (r : Result Numbered E) → IsGapFor p es i → us ≡ es → 0 < k
    → IfOk r (λ s. s.numbers ≡ []) → IfOk r (λ s. 0 < s.spare) → IfOk r (HasRoomToHear (rooms_in us) k p)
room_first es us p i k (Ok s) gap is some none room =
    new (none_mapped (λ (n : Numbered). n.spare) us p (ap (λ (ts : List (ℕ × Numbered)). at ts p) is ∙ at_gap p es i gap)) some none room
room_first es us p i k (Err e) gap is some none room = tt

-- ---- numbers

pub room_known : (es : List (ℕ × Numbered)) (p i k : ℕ) (x : ℕ × Numbered) (first : Numbered) → IsAscendingTable es → IsTablePlaceOf p es i → x ≡ get_or es i x → HasRoomToHear (rooms_in es) k p first → 0 < x.1.spare
room_known es p i k x first h here is room = go room (at_mapped (λ (n : Numbered). n.spare) es p x.1 (at_place p es i x h here is))
  where
    go : HasRoomToHear (rooms_in es) k p first → at (rooms_in es) p ≡ Some x.1.spare → 0 < x.1.spare
    go (known n e some) there = let same : n ≡ x.1.spare = cc in omega (arith, some, same)
    go (new e some none spare) there = cc

pub record IsRoomForFirst (k : ℕ) (first : Numbered) : Type 0 where
  pub numbers : 0 < k
  pub none : first.numbers ≡ []
  pub spare : 0 < first.spare

pub room_new : (es : List (ℕ × Numbered)) (p i k : ℕ) (first : Numbered) → IsGapFor p es i → HasRoomToHear (rooms_in es) k p first → IsRoomForFirst k first
room_new es p i k first gap room = go room (none_mapped (λ (n : Numbered). n.spare) es p (at_gap p es i gap))
  where
    go : HasRoomToHear (rooms_in es) k p first → at (rooms_in es) p ≡ None → IsRoomForFirst k first
    go (known n e some) missing = cc
    go (new e some none spare) missing = record { numbers = some; none = none; spare = spare }

pub heard_place : (es : List (ℕ × Numbered)) (p i nth : ℕ) (x : ℕ × Numbered) (t : Numbered) → IsAscendingTable es → IsTablePlaceOf p es i → x ≡ get_or es i x → t.numbers ≡ with_number x.1.numbers nth
    → heard_in (set es i (x.0, t)) ≡ table_with (heard_in es) p (with_number (unwrap_or (at (heard_in es) p) []) nth)
heard_place es p i nth x t h here is more =
    ap heard_in (put_place p t es i x h here is)
    ∙ (put_mapped (λ (n : Numbered). n.numbers) es p t
    ∙ ap (λ (n : List ℕ). table_with (heard_in es) p n) (more ∙ ap (λ (o : Option (List ℕ)). with_number (unwrap_or o []) nth) (sym (at_mapped (λ (n : Numbered). n.numbers) es p x.1 (at_place p es i x h here is)))))

pub heard_gap : (es us : List (ℕ × Numbered)) (p i nth : ℕ) (first t : Numbered) → IsGapFor p es i → us ≡ insert es i (p, t) → first.numbers ≡ [] → t.numbers ≡ with_number first.numbers nth
    → heard_in us ≡ table_with (heard_in es) p (with_number (unwrap_or (at (heard_in es) p) []) nth)
heard_gap es us p i nth first t gap is none more =
    ap heard_in (is ∙ put_gap p t es i gap)
    ∙ (put_mapped (λ (n : Numbered). n.numbers) es p t
    ∙ ap (λ (n : List ℕ). table_with (heard_in es) p n) (more ∙ (ap (λ (ns : List ℕ). with_number ns nth) none ∙ ap (λ (o : Option (List ℕ)). with_number (unwrap_or o []) nth) (sym (none_mapped (λ (n : Numbered). n.numbers) es p (at_gap p es i gap))))))

-- ---- how many of the list master's writes a copy has had

pub counted : (w : Writes) (es : List (ℕ × Numbered)) (p : ℕ) (is_master : Bool) (seen : Numbered) → is_master ≡ false → w.numbers ≡ heard_in es → Some seen ≡ at es p → count_of seen.numbers ≡ count_at w is_master p
counted w es p is_master seen other is there =
    let found : Some seen.numbers ≡ at w.numbers p = sym (ap (λ (t : Table (List ℕ)). at t p) is ∙ at_mapped (λ (n : Numbered). n.numbers) es p seen (sym there)) in
    ap (λ (o : Option (List ℕ)). count_of (unwrap_or o [])) found ∙ ap (λ b. count_at w b p) (sym other)

pub none_counted : (w : Writes) (es : List (ℕ × Numbered)) (p : ℕ) (is_master : Bool) → is_master ≡ false → w.numbers ≡ heard_in es → None ≡ at es p → 0 ≡ count_at w is_master p
none_counted w es p is_master other is missing =
    let found : None ≡ at w.numbers p = sym (ap (λ (t : Table (List ℕ)). at t p) is ∙ none_mapped (λ (n : Numbered). n.numbers) es p (sym missing)) in
    ap (λ (o : Option (List ℕ)). count_of (unwrap_or o [])) found ∙ ap (λ b. count_at w b p) (sym other)

-- Journals in which all went well, and the claims that hold of them.
use Rattle.std.proofs.Common.{◌≡◌, ◌≢◌, ◌==◌, ℕ, ◌<◌, true, false, List, [], ◌∷◌, Some, refl, sym, ap, ◌∙◌, lit<, arith}
use Rattle.std.specs.Prelude.{slice_get, take, AllPairs}
use Rattle.std.proofs.lemmas.List.Elements.{All-nil, All-cons}
use Rattle.std.proofs.lemmas.List.Kept.{AllPairs-cons}
use Rattle.cluster_types.specs.Members.{ids_of}
use Rattle.cluster_types.specs.Distinct.{IsDescending}
use Rattle.journal_lines.specs.declared.line.Line.{Line}
use Rattle.journal_lines.specs.declared.line.Line.TheVariants as line
use Rattle.journal_readings.specs.Claims.{OneMap, ShowsMap, ReadJoin, JoinsView}
use Rattle.journal_readings.specs.Shape.{Shape, follows_header, names_declared, EntersFalling, enters_once, names_entered, follows_entries}
use Rattle.journal_readings.specs.Examples.{both, shown, written_and_read}
use Rattle.journal_readings.proofs.AlongLaws.{each, each_passes, one_map}
use Rattle.journal_readings.proofs.Computing.{computing}

pub read_joins : ReadJoin written_and_read
unfolding computing
read_joins = record { joined = each (JoinsView written_and_read) written_and_read (tt, (tt, (tt, (tt, (tt, (tt, (tt, (tt, (refl, (tt, (tt, (refl, tt)))))))))))) }

pub maps_agree : OneMap shown
unfolding computing
maps_agree = one_map shown (each (λ b l. ShowsMap shown l) shown (tt, (tt, (tt, (tt, (tt, (tt, (tt, (tt, (tt, ((refl, refl), ((refl, refl), tt))))))))))))

-- ---- the shape

pair : (R : ℕ → ℕ → Type 0) (x y : ℕ) → R x y → AllPairs R (x ∷ y ∷ [])
pair R x y h = AllPairs-cons R x (y ∷ []) (All-cons (R x) y [] h (All-nil (R x))) (AllPairs-cons R y [] (All-nil (R y)) (λ i j d below within. absurd (omega arith)))

one_and_two : ◌≢◌ {A = ℕ} 1 2
one_and_two e = differ (ap (λ (n : ℕ). n == 2) e)
  where
    differ : false ≡ true → ⊥
    differ i = cc

falls : IsDescending (ids_of both)
falls = record { falls = pair (λ x y. y < x) 2 1 (lit< tt) }

-- who enters does so with these members
abbrev EntersBoth : List Line → Line → Type 0
EntersBoth before (line.Enter n k ms) = ms ≡ both
EntersBoth before _ = Unit {0}

enters_both : (i : ℕ) (l : Line) → slice_get shown i ≡ Some l → EntersBoth (take i shown) l
enters_both = each EntersBoth shown (tt, (tt, (tt, (tt, (tt, (refl, (refl, (tt, (tt, (tt, (tt, tt)))))))))))

pub has_shape : Shape shown
unfolding computing
has_shape = record {
  header = each_passes follows_header shown refl;
  declared_once = record { differ = pair (λ x y. x ≢ y) 1 2 one_and_two };
  named = each_passes (λ before l. names_declared shown l) shown refl;
  one_list = λ i o n m k ms others e f. enters_both i (line.Enter n k ms) e ∙ sym (enters_both o (line.Enter m k others) f);
  falling = each (λ before l. EntersFalling l) shown (tt, (tt, (tt, (tt, (tt, (falls, (falls, (tt, (tt, (tt, (tt, tt)))))))))));
  entered = each_passes enters_once shown refl;
  in_view = each_passes names_entered shown refl;
  exchanged = each_passes follows_entries shown refl;
}

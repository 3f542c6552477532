-- The member that acts is the first by whose key no other's is above.
use Rattle.std.proofs.Common.{◌≡◌, ℕ, ◌<◌, Bool, true, false, not, cond, List, [], ◌∷◌, length, Option, Some, None, refl, ap, ap₂, ◌∙◌, arith}
use Rattle.std.specs.Prelude.{find, slice_get, slice_index, unwrap_or}
use Rattle.std.specs.Option.{option_or}
use Rattle.cluster_types.specs.declared.cluster_key.ClusterKey.{ClusterKey}
use Rattle.journal_lines.specs.declared.line.Line.{Line}
use Rattle.journal_readings.specs.Maps.{has_key_above, is_newest_whole, acting}
use Rattle.journal_readings.specs.Rows.{row, row_whole_key}
use Rattle.journal_readings.specs.Views.{succession_list}
use Rattle.audit_core.specs.declared.maps.Whole.{Whole}
use Rattle.audit_core.specs.Wholes as known
use Rattle.audit_core.proofs.ShapeLaws.{any_map}

newest_by : (factor : ℕ) (k : ClusterKey) (p : ℕ) (j : List Line) (ids : List ℕ) (o : Option ClusterKey)
    → known.is_newest (known.with_keys (λ n. row_whole_key (row factor k n p j)) ids) o ≡ is_newest_whole factor k p j ids o
newest_by factor k p j ids None = refl
newest_by factor k p j ids (Some l) = ap not (any_map (λ (w : Whole). has_key_above l w.key) (λ (n : ℕ). record { node = n; key = row_whole_key (row factor k n p j) }) ids)

found_by : (f : ℕ → Option ClusterKey) (test : Option ClusterKey → Bool) (ids : List ℕ) → known.whole_node (find (λ (w : Whole). test w.key) (known.with_keys f ids)) ≡ find (λ n. test (f n)) ids
found_by f test [] = refl
found_by f test (n ∷ ids) = go (test (f n)) (found_by f test ids)
  where
    go : (b : Bool) → known.whole_node (find (λ (w : Whole). test w.key) (known.with_keys f ids)) ≡ find (λ n. test (f n)) ids
        → known.whole_node (cond b (Some (record { node = n; key = f n })) (find (λ (w : Whole). test w.key) (known.with_keys f ids))) ≡ cond b (Some n) (find (λ n. test (f n)) ids)
    go true e = refl
    go false e = e

find_same : (f g : ℕ → Bool) (ids : List ℕ) → ((n : ℕ) → f n ≡ g n) → find f ids ≡ find g ids
find_same f g [] h = refl
find_same f g (n ∷ ids) h = ap₂ (λ (b : Bool) (o : Option ℕ). cond b (Some n) o) (h n) (find_same f g ids h)

first_by : (f : ℕ → Option ClusterKey) (ids : List ℕ) (o : Option ℕ) → 0 < length ids → option_or o (known.whole_node (slice_get (known.with_keys f ids) 0)) ≡ Some (unwrap_or o (slice_index ids 0))
first_by f [] o h = absurd (omega (arith, h))
first_by f (n ∷ ids) None h = refl
first_by f (n ∷ ids) (Some x) h = refl

-- of the members of a view's list, with the keys of their rows, it is the acting master
pub acting_so : (factor : ℕ) (k : ClusterKey) (p : ℕ) (j : List Line)
    → 0 < length (succession_list k p j)
    → known.first_newest (known.with_keys (λ n. row_whole_key (row factor k n p j)) (succession_list k p j)) ≡ Some (acting factor k p j)
unfolding acting
acting_so factor k p j h =
    ap (λ (o : Option ℕ). option_or o (known.whole_node (slice_get (known.with_keys (λ n. row_whole_key (row factor k n p j)) (succession_list k p j)) 0)))
    (found_by (λ n. row_whole_key (row factor k n p j)) (known.is_newest (known.with_keys (λ n. row_whole_key (row factor k n p j)) (succession_list k p j))) (succession_list k p j)
    ∙ find_same (λ n. known.is_newest (known.with_keys (λ n. row_whole_key (row factor k n p j)) (succession_list k p j)) (row_whole_key (row factor k n p j))) (λ n. is_newest_whole factor k p j (succession_list k p j) (row_whole_key (row factor k n p j))) (succession_list k p j)
    (λ n. newest_by factor k p j (succession_list k p j) (row_whole_key (row factor k n p j))))
    ∙ first_by (λ n. row_whole_key (row factor k n p j)) (succession_list k p j) (find (λ n. is_newest_whole factor k p j (succession_list k p j) (row_whole_key (row factor k n p j))) (succession_list k p j)) h

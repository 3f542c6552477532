-- A store without records has an empty row, and a clear row has no bit.
use Rattle.std.proofs.Common.{◌≡◌, ℕ, zero, suc, ◌+◌, Bool, true, false, cond, List, [], ◌∷◌, length, Option, None, refl, sym, ap, ap₂, ◌∙◌, arith}
use Rattle.std.specs.Ordering.{nat_cmp}
use Rattle.std.specs.Cmp.Lexicographic.{slice_cmp}
use Rattle.std.proofs.lemmas.Cmp.{nat_list_cmp_total}
use Rattle.std.specs.FinMap as map
use Rattle.std.specs.FinMap.{FinMap, IsAntisymmetric, nat_cmp-IsAntisymmetric, slice_cmp-IsAntisymmetric}
use Rattle.conflict_order.specs.declared.policy.Policy.{Policy}
use Rattle.conflict_order.specs.declared.version.Version.{Version}
use Rattle.cluster_types.specs.Rows.{bit}
use Rattle.cluster_types.specs.Partitions.{partition_count}
use Rattle.node_rules.specs.Bits.{clear_row}
use Rattle.node_rules.specs.Copies.{digests, digests_of, is_of, empty_store, state_with, with_state, row_from}

no_items : {A : Type 0} (xs : List A) → length xs ≡ 0 → xs ≡ []
no_items [] e = refl
no_items (x ∷ xs) e = absurd (omega arith)

no_entries : map.entries (map.empty {X = Version} {R = slice_cmp nat_cmp}) ≡ []
no_entries = no_items _ (sym (map.len-entries map.empty) ∙ map.len-empty (slice_cmp nat_cmp) Version)

pub no_digests : digests map.empty ≡ []
no_digests = ap (λ es. Rattle.std.proofs.Common.map (λ e. e.0) es) no_entries

same : IsAntisymmetric (slice_cmp nat_cmp)
same = slice_cmp-IsAntisymmetric nat_cmp-IsAntisymmetric

either_none : {A : Type 0} (b : Bool) (x y : Option A) → x ≡ None → y ≡ None → cond b x y ≡ None
either_none true x y e h = e
either_none false x y e h = h

kept_empty : (p : List ℕ → Bool) → map.retain_keys (map.empty {X = Version} {R = slice_cmp nat_cmp}) p ≡ map.empty
kept_empty p = map.same_map nat_list_cmp_total same _ _ (λ q.
    map.get-retain_keys map.empty p q (λ x t. ap p (sym (same q x t)))
    ∙ either_none (p q) _ None (map.get-empty (slice_cmp nat_cmp) q) refl
    ∙ sym (map.get-empty (slice_cmp nat_cmp) q))

pub no_digests_of : (p : ℕ) → digests_of {A = Version} map.empty p ≡ []
no_digests_of p = ap (λ m. map.keys m) (kept_empty (is_of p)) ∙ no_digests

pub empty_row : (by : Policy) (n p : ℕ) → row_from (empty_store by) n p ≡ []
unfolding row_from
empty_row by zero p = refl
empty_row by (suc n) p = ap₂ (λ ds row. with_state p (state_with ds (map.get {R = nat_cmp} map.empty p)) row) (no_digests_of p) (empty_row by n (p + 1))

no_bit : (n p : ℕ) → bit (Rattle.std.specs.Prelude.replicate n false) p ≡ false
no_bit zero p = refl
no_bit (suc n) zero = refl
no_bit (suc n) (suc p) = no_bit n p

pub clear_bit : (p : ℕ) → bit clear_row p ≡ false
unfolding clear_row
clear_bit p = no_bit partition_count p

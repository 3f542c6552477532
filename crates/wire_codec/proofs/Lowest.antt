-- The last of falling ids is the lowest one.
use Rattle.std.proofs.Common.{◌≡◌, ℕ, ◌≤◌, List, [], ◌∷◌, ◌++◌, length, get_or, Option, Some, None, Ok, Err, All, Contains, take, drop, ◌&&◌, subst, arith, inl, inr}
use Rattle.std.specs.Prelude.{nat_lt}
use Rattle.std.specs.Int.{w16, from_be_bytes}
use Rattle.std.proofs.lemmas.Bool.{and_parts}
use Rattle.std.proofs.lemmas.Option.{cond_some}
use Rattle.std.proofs.lemmas.List.Elements.{All-append, All-cons, All-nil}
use Rattle.wire_messages.specs.declared.fault.FieldFault.TheVariants.{Short}
use Rattle.wire_messages.specs.Fields.{if_allowed, field}
use Rattle.wire_messages.specs.Numbers.{number_at}
use Rattle.wire_messages.specs.Nodes.{is_below, id_below_at}
use Rattle.wire_messages.proofs.Forms.{chosen, whole_ok}
use Rattle.wire_messages.proofs.ItemForms.{Follows}
use Rattle.wire_messages.proofs.NodeForms.{Below, below_is}

abbrev pub AtMost : Option ℕ → ℕ → Type 0
AtMost None x = ⊥
AtMost (Some b) x = b ≤ x

-- the last id, if there is one, is at most each id
pub record IsLowest (last : Option ℕ) (ids : List ℕ) : Type 0 where
  pub each : All (λ x. AtMost last x) ids

pub none_lowest : IsLowest None []
none_lowest = record { each = All-nil (λ x. AtMost None x) }

lower : (last : Option ℕ) (id x : ℕ) → Follows Below last id → AtMost last x → id ≤ x
lower None id x f m = absurd m
lower (Some b) id x f m = omega (arith, f, m)

pub lowest_more : (last : Option ℕ) (ids : List ℕ) (id : ℕ) → IsLowest last ids → Follows Below last id → IsLowest (Some id) (ids ++ id ∷ [])
lowest_more last ids id h f = record {
  each = All-append (λ x. id ≤ x) ids (id ∷ [])
      (λ k d lt. lower last id (get_or ids k d) f (h.each k d lt))
      (All-cons (λ x. id ≤ x) id [] (omega arith) (All-nil (λ x. id ≤ x)));
}

pub lowest_new : (last : Option ℕ) (ids : List ℕ) (id : ℕ) → IsLowest last ids → Follows Below last id → ¬ (Contains ids id)
lowest_new last ids id h f (k, within, same) = apart last f (h.each k id within)
  where
    apart : (last : Option ℕ) → Follows Below last id → AtMost last (get_or ids k id) → ⊥
    apart None f m = m
    apart (Some b) f m = omega (arith, f, m, same)

pub id_follows : (last : Option ℕ) (bytes : List ℕ) (id : ℕ) (rest : List ℕ) → id_below_at last bytes ≡ Ok (id, rest) → Follows Below last id
unfolding id_below_at number_at field
id_follows last bytes id rest e =
    elim (chosen (nat_lt (length bytes) 2) _ _ _ e) [
      | inl short ↦ absurd (let never : Err Short ≡ Ok (id, rest) = short.1 in cc)
      | inr long ↦
          let n = from_be_bytes w16 (take 2 bytes) in
          let o = whole_ok (length bytes) (if_allowed (λ n. nat_lt 0 n && is_below last n) n) (drop 2 bytes) id rest long.1 in
          let c = cond_some (nat_lt 0 n && is_below last n) n id o.0 in
          subst (Follows Below last) c.1 (below_is last n (and_parts (nat_lt 0 n) (is_below last n) c.0).1)
    ]

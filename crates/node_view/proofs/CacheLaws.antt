-- Lists that are found by their members.
use Rattle.std.proofs.Common.{◌≡◌, ℕ, List, get_or, Some, sym, ap, ◌∙◌}
use Rattle.std.specs.Prelude.{position}
use Rattle.std.proofs.lemmas.List.Quantifiers.{position-Some}
use Rattle.cluster_types.specs.declared.member.Member.{Member}
use Rattle.cluster_types.specs.MembersEqual.{same_members, same_members_decides}

pub found_lists : (kept : List (List Member)) (i : ℕ) (x m : List Member) → Some i ≡ position (λ k. same_members k m) kept → x ≡ get_or kept i x → x ≡ m
found_lists kept i x m found is =
    let found_at = position-Some (λ k. same_members k m) kept i x (sym found) in
    (same_members_decides x m).0 (ap (λ k. same_members k m) is ∙ found_at.1)

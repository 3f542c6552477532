-- Whether two lists of members are the same.
use Rattle.std.specs.Prelude.{◌≡◌, Bool, List}
use Rattle.std.specs.Bool.{Decides}
use Rattle.std.specs.Cmp.{IsEquivalence, decided, unsigned_Decides, booleans_Decides}
use Rattle.std.specs.Cmp.Lexicographic.{pointwise}
use Rattle.std.proofs.Common.{refl}
use Rattle.std.proofs.lemmas.Bool.Decides.{Decides-and, Decides-like}
use Rattle.std.proofs.lemmas.Slice.Eq.{slice_eq-Decides}
use Rattle.cluster_types.specs.declared.member.Member.{Member}
use Rattle.cluster_types.specs.Members.{same_member}

-- whether the lists have the same members with the same roles in the same order
abbrev pub same_members : List Member → List Member → Bool
same_members = pointwise same_member

pub same_member_decides : (a b : Member) → Decides (same_member a b) (a ≡ b)
same_member_decides a b =
    Decides-like (same_member a b)
    (λ h i. record { id = h.0 i; role = record { rack = h.1.0 i; quiesced = h.1.1 i } })
    (λ h. (λ i. (h i).id, (λ i. (h i).role.rack, λ i. (h i).role.quiesced)))
    (Decides-and _ _ (unsigned_Decides a.id b.id) (Decides-and _ _
    (unsigned_Decides a.role.rack b.role.rack)
    (booleans_Decides a.role.quiesced b.role.quiesced)))

-- `==` of members decides whether they are the same
pub same_members_decides : (xs ys : List Member) → Decides (same_members xs ys) (xs ≡ ys)
same_members_decides xs ys = slice_eq-Decides same_member_decides xs ys (same_members xs ys) refl

pub same_members_equiv : IsEquivalence same_members
same_members_equiv = decided same_members same_members_decides

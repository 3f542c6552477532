-- The ids and the roles in a list of members.
use Rattle.std.proofs.Common.{◌≡◌, ◌≢◌, ◌↔◌, ℕ, ◌<◌, ◌≤◌, List, ◌∷◌, [], length, take, get_or, map, true, false, Contains, IsSome, refl, sym, ap, subst, ◌∙◌, arith, zero, suc, inl, inr}
use Rattle.std.proofs.lemmas.Bool.Decides.{eqb_tells}
use Rattle.std.proofs.lemmas.List.{take-map, get_or-map, length-map}
use Rattle.cluster_types.specs.Distinct.{AreDistinct, IsDescending, IsFirstRise}
use Rattle.cluster_types.specs.Members.{AreMembers, ids_of, plain_member, role_of}
use Rattle.cluster_types.specs.declared.member.Member.{Member}
use Rattle.cluster_types.proofs.DistinctLaws.{fresh_next}

pub ids_of_plain : (ids : List ℕ) → ids_of (map plain_member ids) ≡ ids
ids_of_plain [] = refl
ids_of_plain (n ∷ ids) = ap (λ rest. n ∷ rest) (ids_of_plain ids)

-- the id of a member that was read
pub id_read : (members : List Member) (i : ℕ) (m : Member) → i < length members → m ≡ get_or members i m → m.id ≡ get_or (ids_of members) i m.id
id_read members i m within read = ap (λ (k : Member). k.id) read ∙ sym (get_or-map (λ (k : Member). k.id) members i m m.id within)

-- a member's id doesn't stand before its place
pub fresh_member : (members : List Member) (i : ℕ) (m : Member) → i < length members → m ≡ get_or members i m → AreDistinct (ids_of members) → ¬ (Contains (ids_of (take i members)) m.id)
fresh_member members i m within read distinct found =
    fresh_next (ids_of members) i m.id
    (omega (arith, length-map members (λ (k : Member). k.id)))
    (id_read members i m within read)
    distinct
    (subst (λ ids. Contains ids m.id) (sym (take-map (λ (k : Member). k.id) i members)) found)

tail_contains : (x n : ℕ) (xs : List ℕ) → x ≢ n → Contains (x ∷ xs) n → Contains xs n
tail_contains x n xs other (zero, within, same) = absurd (other same)
tail_contains x n xs other (suc k, within, same) = (k, omega (arith, within), same)

role_from_member : (members : List Member) (n : ℕ) → Contains (ids_of members) n → IsSome (role_of members n)
role_from_member [] n (k, within, same) = absurd (omega (arith, within))
role_from_member (m ∷ members) n found =
    elim (eqb_tells m.id n) [
      | inl here ↦ rw here.0 refl
      | inr other ↦ rw other.0 (role_from_member members n (tail_contains m.id n (ids_of members) other.1 found))
    ]

later : {A : Type 0} (x y : A) (xs : List A) → Contains xs y → Contains (x ∷ xs) y
later x y xs (k, within, same) = (suc k, omega (arith, within), same)

member_from_role : (members : List Member) (n : ℕ) → IsSome (role_of members n) → Contains (ids_of members) n
member_from_role [] n h = let wrong : false ≡ true = h in cc
member_from_role (m ∷ members) n h =
    elim (eqb_tells m.id n) [
      | inl here ↦ (0, omega arith, here.1)
      | inr other ↦ later m.id n (ids_of members) (member_from_role members n (rw other.0 at h))
    ]

-- a role is found of a member, and of no other node
pub role_found : (members : List Member) (n : ℕ) → IsSome (role_of members n) ↔ Contains (ids_of members) n
role_found members n = (member_from_role members n, role_from_member members n)

-- as many are too many of the nodes as of the plain members
pub plain_too_many : (ids : List ℕ) (members : List Member) (n : ℕ) (R : Type 0) → members ≡ map plain_member ids → R ↔ ((16 < length members) × (n ≡ length members)) → R ↔ ((16 < length ids) × (n ≡ length ids))
plain_too_many ids members n R same h =
    let count : length members ≡ length ids = ap length same ∙ length-map ids plain_member in
    rw count at h

-- the ids of plain members rise where the nodes do
pub plain_first_rise : (ids : List ℕ) (members : List Member) (place : ℕ) (R : Type 0) → members ≡ map plain_member ids → R ↔ ((length members ≤ 16) × IsFirstRise (ids_of members) place) → R ↔ ((length ids ≤ 16) × IsFirstRise ids place)
plain_first_rise ids members place R same h =
    let count : length members ≡ length ids = ap length same ∙ length-map ids plain_member in
    let named : ids_of members ≡ ids = ap ids_of same ∙ ids_of_plain ids in
    rw named at (rw count at h)

-- nodes in falling order, with plain roles, are members
pub plain_members : (ids : List ℕ) → 0 < length ids → length ids ≤ 16 → IsDescending ids → AreMembers (map plain_member ids)
plain_members ids some limit h = record {
  some = omega (arith, length-map ids plain_member);
  limit = omega (arith, length-map ids plain_member);
  descending = rw (ids_of_plain ids) h;
}

-- Quiesced members stand last, and of the others the first of each rack first.
use Rattle.std.proofs.Common.{◌≡◌, ◌≢◌, ◌==◌, ◌⊎◌, ◌&&◌, ℕ, ◌<◌, ◌≤◌, Bool, true, false, not, List, [], ◌∷◌, Contains, count_by, inl, inr, refl, sym, ap, ◌∙◌, arith}
use Rattle.std.specs.List.{list_any}
use Rattle.std.specs.Ordering.{nat_cmp, bool_cmp, ordering_then, is_lt}
use Rattle.cluster_types.specs.declared.member.Member.{Member}
use Rattle.partition_lists.specs.Ranks.{standing_cmp, is_ahead_in_rack, is_repeat, rank_of, is_smaller}
use Rattle.partition_lists.specs.Hashes.{place}
use Rattle.partition_lists.specs.Lists.{position_of}
use Rattle.partition_lists.specs.Leaving.{SharesRack}
use Rattle.partition_lists.proofs.InOrderLaws.{Has, has_any, truth_of, unequal, counts_one, counts_none}
use Rattle.partition_lists.proofs.LeavingLaws.{has_member, ahead_made}
use Rattle.partition_lists.proofs.RankLaws.{rank_order, standing_connected}

-- a test that passes less often counts no more, and fewer where it fails an item that the other passes
counts_no_more : {K : Type 0} (p q : K → Bool) (xs : List K) → ((x : K) → p x ≡ true → q x ≡ true) → count_by p xs ≤ count_by q xs
counts_no_more p q [] h = omega arith
counts_no_more {K} p q (x ∷ xs) h = elim (truth_of (p x)) [
  | inl passes ↦ omega (arith, counts_one p x xs passes, counts_one q x xs (h x passes), counts_no_more p q xs h)
  | inr fails ↦ elim (truth_of (q x)) [
    | inl more ↦ omega (arith, counts_none p x xs fails, counts_one q x xs more, counts_no_more p q xs h)
    | inr less ↦ omega (arith, counts_none p x xs fails, counts_none q x xs less, counts_no_more p q xs h)
  ]
]

counts_fewer : {K : Type 0} (p q : K → Bool) (xs : List K) (w : K) → ((x : K) → p x ≡ true → q x ≡ true) → Has xs w → p w ≡ false → q w ≡ true → count_by p xs < count_by q xs
counts_fewer p q [] w h found fails passes = absurd found
counts_fewer {K} p q (x ∷ xs) w h found fails passes = elim found [
  | inl here ↦
      omega (arith, counts_none p x xs (ap p here ∙ fails), counts_one q x xs (ap q here ∙ passes), counts_no_more p q xs h)
  | inr later ↦ elim (truth_of (p x)) [
    | inl both ↦ omega (arith, counts_one p x xs both, counts_one q x xs (h x both), counts_fewer p q xs w h later fails passes)
    | inr not_first ↦ elim (truth_of (q x)) [
      | inl more ↦ omega (arith, counts_none p x xs not_first, counts_one q x xs more, counts_fewer p q xs w h later fails passes)
      | inr neither ↦ omega (arith, counts_none p x xs not_first, counts_none q x xs neither, counts_fewer p q xs w h later fails passes)
    ]
  ]
]

-- a member with a smaller rank stands before
stands_before : (members : List Member) (p : ℕ) (a b : Member) → Contains members a → is_smaller (rank_of members p a) (rank_of members p b) ≡ true → position_of members p a < position_of members p b
unfolding position_of
stands_before members p a b listed smaller =
    counts_fewer (λ (other : Member). is_smaller (rank_of members p other) (rank_of members p a)) (λ (other : Member). is_smaller (rank_of members p other) (rank_of members p b)) members a
    (λ other below. rank_order.transitive (rank_of members p other) (rank_of members p a) (rank_of members p b) below smaller)
    (has_member members a listed)
    (rank_order.irreflexive (rank_of members p a))
    smaller

pub quiesced_last : (members : List Member) (p : ℕ) (a b : Member) → Contains members a → a.role.quiesced ≡ false → b.role.quiesced ≡ true → position_of members p a < position_of members p b
quiesced_last members p a b listed active quiesced =
    stands_before members p a b listed (smaller a.role.quiesced b.role.quiesced active quiesced)
  where
    smaller : (x y : Bool) → x ≡ false → y ≡ true
        → is_lt (ordering_then (bool_cmp x y) (ordering_then (bool_cmp (is_repeat members p a) (is_repeat members p b)) (ordering_then (nat_cmp (place a.id p) (place b.id p)) (nat_cmp a.id b.id)))) ≡ true
    smaller true y h k = cc
    smaller false true h k = refl
    smaller false false h k = cc

pub first_of_racks_before : (members : List Member) (p : ℕ) (a b : Member) → Contains members a → a.role.quiesced ≡ false → is_repeat members p a ≡ false → is_repeat members p b ≡ true → position_of members p a < position_of members p b
first_of_racks_before members p a b listed active first repeat =
    stands_before members p a b listed (smaller a.role.quiesced active b.role.quiesced (is_repeat members p a) (is_repeat members p b) first repeat)
  where
    smaller : (x : Bool) → x ≡ false → (y s t : Bool) → s ≡ false → t ≡ true
        → is_lt (ordering_then (bool_cmp x y) (ordering_then (bool_cmp s t) (ordering_then (nat_cmp (place a.id p) (place b.id p)) (nat_cmp a.id b.id)))) ≡ true
    smaller true h y s t k m = cc
    smaller false h true s t k m = refl
    smaller false h false true t k m = cc
    smaller false h false false true k m = refl
    smaller false h false false false k m = cc

repeat_made : (members : List Member) (p : ℕ) (m : Member) → m.role.quiesced ≡ false → m.role.rack ≢ 0 → list_any (λ first. is_ahead_in_rack p first m) members ≡ true → is_repeat members p m ≡ true
repeat_made members p m active racked ahead =
    let any_ahead = list_any (λ first. is_ahead_in_rack p first m) members in
    ap (λ b. not b && (not (m.role.rack == 0) && any_ahead)) active ∙ ap (λ b. not b && any_ahead) (unequal m.role.rack 0 racked) ∙ ahead

-- of two members that share a rack, one isn't the first of it
pub one_is_repeat : (members : List Member) (p : ℕ) (a b : Member) → Contains members a → Contains members b → a.role.quiesced ≡ false → a.role.rack ≢ 0 → SharesRack a b → (is_repeat members p a ≡ true) ⊎ (is_repeat members p b ≡ true)
one_is_repeat members p a b listed_a listed_b active racked h = elim (truth_of (is_lt (standing_cmp p a b))) [
  | inl a_first ↦
      inr (repeat_made members p b h.active (λ none. racked (sym h.same_rack ∙ none)) (has_any (λ first. is_ahead_in_rack p first b) members a (has_member members a listed_a) (ahead_made p a b active (sym h.same_rack) a_first)))
  | inr a_not_first ↦ elim (truth_of (is_lt (standing_cmp p b a))) [
    | inl b_first ↦ inl (repeat_made members p a active racked (has_any (λ first. is_ahead_in_rack p first a) members b (has_member members b listed_b) (ahead_made p b a h.active h.same_rack b_first)))
    | inr b_not_first ↦ absurd (h.differs (sym (standing_connected p a b a_not_first b_not_first)))
  ]
]

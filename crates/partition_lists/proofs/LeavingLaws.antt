-- What becomes of the list of a partition when a member leaves.
use Rattle.std.proofs.Common.{◌≡◌, ◌≢◌, ◌==◌, ◌⊎◌, ◌&&◌, ℕ, Bool, true, false, not, List, [], ◌∷◌, map, filter, Contains, All, inl, inr, refl, sym, ap, subst, ◌∙◌, cond}
use Rattle.std.specs.List.{list_any}
use Rattle.std.specs.Ordering.{is_lt}
use Rattle.std.proofs.lemmas.Bool.Decides.{eqb_tells}
use Rattle.cluster_types.specs.declared.member.Member.{Member}
use Rattle.cluster_types.specs.declared.member.Role.{Role}
use Rattle.cluster_types.specs.Distinct.{AreDistinct, without}
use Rattle.cluster_types.proofs.DistinctLaws.{distinct_without}
use Rattle.cluster_types.specs.Members.{ids_of, plain_role}
use Rattle.cluster_types.proofs.BoolFacts.{same_truth}
use Rattle.partition_lists.specs.declared.ranks.Rank.{Rank}
use Rattle.partition_lists.specs.Hashes.{place}
use Rattle.partition_lists.specs.Ranks.{standing_cmp, is_ahead_in_rack, is_repeat, rank_of, is_smaller}
use Rattle.partition_lists.specs.Lists.{in_order, ranks_of, list}
use Rattle.partition_lists.specs.Leaving.{members_without, HoldsNoRack, SharesRack, IsNextOfRack, IsAloneInRack, AreAllPlain}
use Rattle.partition_lists.proofs.InOrderLaws.{any_has, has_any, Has, DifferBy, truth_of, equal, unequal, each_has, has_at, index_of, filter_has, has_filter, distinct_differ, in_order-filter}
use Rattle.partition_lists.proofs.ListLaws.{map_same, ranks_differ}
use Rattle.partition_lists.proofs.RankLaws.{rank_order, standing_transitive, standing_irreflexive, standing_connected}

-- two items with one number are the same
same_item : {K : Type 0} (key : K → ℕ) (xs : List K) (a b : K) → DifferBy key xs → Has xs a → Has xs b → key a ≡ key b → a ≡ b
same_item key [] a b differ at_a at_b same = absurd at_a
same_item {K} key (x ∷ xs) a b differ at_a at_b same = elim at_a [
  | inl a_here ↦ elim at_b [
    | inl b_here ↦ sym a_here ∙ b_here
    | inr b_later ↦ absurd (each_has (λ y. key y ≢ key x) xs b differ.0 b_later (sym same ∙ sym (ap key a_here)))
  ]
  | inr a_later ↦ elim at_b [
    | inl b_here ↦ absurd (each_has (λ y. key y ≢ key x) xs a differ.0 a_later (same ∙ sym (ap key b_here)))
    | inr b_later ↦ same_item key xs a b differ.1 a_later b_later same
  ]
]

filter-map : {A B : Type 0} (f : A → B) (p : B → Bool) (xs : List A) → filter p (map f xs) ≡ map f (filter (λ x. p (f x)) xs)
filter-map f p [] = refl
filter-map {A} {B} f p (x ∷ xs) = go (p (f x)) (filter-map f p xs)
  where
    go : (b : Bool) → filter p (map f xs) ≡ map f (filter (λ x. p (f x)) xs) → cond b (f x ∷ filter p (map f xs)) (filter p (map f xs)) ≡ map f (cond b (x ∷ filter (λ x. p (f x)) xs) (filter (λ x. p (f x)) xs))
    go true rest = ap (λ ys. f x ∷ ys) rest
    go false rest = rest

filter-all : {A : Type 0} (xs : List A) → filter (λ x. true) xs ≡ xs
filter-all [] = refl
filter-all (x ∷ xs) = ap (λ ys. x ∷ ys) (filter-all xs)

-- a member other than the one that left
stays : (members : List Member) (gone : ℕ) (m : Member) → Has members m → m.id ≢ gone → Has (members_without members gone) m
stays members gone m found other = has_filter (λ (z : Member). not (z.id == gone)) members m found (ap not (unequal m.id gone other))

stayed : (members : List Member) (gone : ℕ) (m : Member) → Has (members_without members gone) m → Has members m × (m.id ≢ gone)
stayed members gone m found =
    let kept = filter_has (λ (z : Member). not (z.id == gone)) members m found in
    (kept.0, λ same. clash (m.id == gone) kept.1 (equal m.id gone same))
  where
    clash : (b : Bool) → not b ≡ true → b ≡ true → ⊥
    clash true h k = cc
    clash false h k = cc

-- each who has the one that left ahead has another ahead too
abbrev OthersAhead : List Member → ℕ → ℕ → Member → Type 0
OthersAhead members p gone m =
    m.role.quiesced ≡ false → m.role.rack ≢ 0 → (first : Member) → Has members first → first.id ≡ gone → is_ahead_in_rack p first m ≡ true
    → (other : Member) × Has members other × (other.id ≢ gone) × (is_ahead_in_rack p other m ≡ true)

ahead_left : (members : List Member) (p gone : ℕ) (m : Member) → OthersAhead members p gone m → m.role.quiesced ≡ false → m.role.rack ≢ 0 → list_any (λ first. is_ahead_in_rack p first m) members ≡ true → list_any (λ first. is_ahead_in_rack p first m) (members_without members gone) ≡ true
ahead_left members p gone m others active racked h =
    let witness = any_has (λ first. is_ahead_in_rack p first m) members h in
    elim (eqb_tells witness.0.id gone) [
      | inl same ↦
          let other = others active racked witness.0 witness.1 same.1 witness.2 in
          has_any (λ first. is_ahead_in_rack p first m) (members_without members gone) other.0 (stays members gone other.0 other.1 other.2) other.3
      | inr differs ↦ has_any (λ first. is_ahead_in_rack p first m) (members_without members gone) witness.0 (stays members gone witness.0 witness.1 differs.1) witness.2
    ]

ahead_before : (members : List Member) (p gone : ℕ) (m : Member) → list_any (λ first. is_ahead_in_rack p first m) (members_without members gone) ≡ true → list_any (λ first. is_ahead_in_rack p first m) members ≡ true
ahead_before members p gone m h =
    let witness = any_has (λ first. is_ahead_in_rack p first m) (members_without members gone) h in
    let before = stayed members gone witness.0 witness.1 in
    has_any (λ first. is_ahead_in_rack p first m) members witness.0 before.0 witness.2

rank_same : (members : List Member) (p gone : ℕ) (m : Member) → OthersAhead members p gone m → rank_of (members_without members gone) p m ≡ rank_of members p m
rank_same members p gone m others = ap (λ (b : Bool). record { quiesced = m.role.quiesced; repeats_rack = b; place = place m.id p; id = m.id }) (go m.role.quiesced refl (m.role.rack == 0) refl)
  where
    some_rack : (m.role.rack == 0) ≡ false → m.role.rack ≢ 0
    some_rack k same = let tested = equal m.role.rack 0 same in cc

    go : (q : Bool) → m.role.quiesced ≡ q → (z : Bool) → (m.role.rack == 0) ≡ z
        → (not q && (not z && list_any (λ first. is_ahead_in_rack p first m) (members_without members gone))) ≡ (not q && (not z && list_any (λ first. is_ahead_in_rack p first m) members))
    go true h z k = refl
    go false h true k = refl
    go false h false k = same_truth _ _ (ahead_before members p gone m) (ahead_left members p gone m others h (some_rack k))

filter-filter : {A : Type 0} (q r : A → Bool) (xs : List A) → filter q (filter r xs) ≡ filter (λ x. r x && q x) xs
filter-filter q r [] = refl
filter-filter {A} q r (x ∷ xs) = go (r x) (q x) refl (filter-filter q r xs)
  where
    go : (b c : Bool) → q x ≡ c → filter q (filter r xs) ≡ filter (λ y. r y && q y) xs → filter q (cond b (x ∷ filter r xs) (filter r xs)) ≡ cond (b && q x) (x ∷ filter (λ y. r y && q y) xs) (filter (λ y. r y && q y) xs)
    go true c h rest = ap (λ ys. cond (q x) (x ∷ ys) ys) rest
    go false c h rest = rest

-- those of a list that a test of ids keeps
list-filter : (members : List Member) (p : ℕ) (q : ℕ → Bool) → AreDistinct (ids_of members) → filter q (list members p) ≡ map (λ r. r.id) (in_order is_smaller (map (rank_of members p) (filter (λ m. q m.id) members)))
unfolding list
list-filter members p q distinct =
    let key = λ (r : Rank). r.id in
    filter-map key q (in_order is_smaller (ranks_of members p))
    ∙ ap (map key) (sym (in_order-filter rank_order key (λ r. q r.id) (ranks_of members p) (ranks_differ members p distinct)))
    ∙ ap (λ ranks. map key (in_order is_smaller ranks)) (filter-map (rank_of members p) (λ r. q r.id) members)

ids-members_without : (members : List Member) (gone : ℕ) → without (ids_of members) gone ≡ ids_of (members_without members gone)
ids-members_without members gone = filter-map (λ (m : Member). m.id) (λ n. not (n == gone)) members

without_distinct : (members : List Member) (gone : ℕ) → AreDistinct (ids_of members) → AreDistinct (ids_of (members_without members gone))
without_distinct members gone distinct = subst AreDistinct (ids-members_without members gone) (distinct_without (ids_of members) gone distinct)

-- of the ids that the test keeps, the list without a member has what the list had, in its order
kept_in_order : (members : List Member) (p gone : ℕ) (q : ℕ → Bool) → AreDistinct (ids_of members) → ((m : Member) → Has members m → m.id ≢ gone → q m.id ≡ true → OthersAhead members p gone m) → filter q (list (members_without members gone) p) ≡ filter q (without (list members p) gone)
kept_in_order members p gone q distinct others =
    let key = λ (r : Rank). r.id in
    let kept = filter (λ (m : Member). q m.id) (members_without members gone) in
    list-filter (members_without members gone) p q (without_distinct members gone distinct)
    ∙ ap (λ ranks. map key (in_order is_smaller ranks)) (map_same (rank_of (members_without members gone) p) (rank_of members p) kept same)
    ∙ ap (λ (ms : List Member). map key (in_order is_smaller (map (rank_of members p) ms))) (filter-filter (λ (m : Member). q m.id) (λ (m : Member). not (m.id == gone)) members)
    ∙ sym (list-filter members p (λ n. not (n == gone) && q n) distinct)
    ∙ sym (filter-filter q (λ n. not (n == gone)) (list members p))
  where
    same : (m : Member) → Has (filter (λ (z : Member). q z.id) (members_without members gone)) m → rank_of (members_without members gone) p m ≡ rank_of members p m
    same m found =
        let passed = filter_has (λ (z : Member). q z.id) (members_without members gone) m found in
        let before = stayed members gone m passed.0 in
        rank_same members p gone m (others m before.0 before.1 passed.1)

-- where none is the next of a rack, the list loses the member alone
only_lost : (members : List Member) (p gone : ℕ) → AreDistinct (ids_of members) → ((m : Member) → Has members m → m.id ≢ gone → OthersAhead members p gone m) → list (members_without members gone) p ≡ without (list members p) gone
only_lost members p gone distinct others =
    sym (filter-all (list (members_without members gone) p))
    ∙ kept_in_order members p gone (λ n. true) distinct (λ m found differs kept. others m found differs)
    ∙ filter-all (without (list members p) gone)

record IsAhead (p : ℕ) (first m : Member) : Type 0 where
  active : first.role.quiesced ≡ false
  same_rack : first.role.rack ≡ m.role.rack
  before : is_lt (standing_cmp p first m) ≡ true

ahead_means : (p : ℕ) (first m : Member) → is_ahead_in_rack p first m ≡ true → IsAhead p first m
ahead_means p first m h = go first.role.quiesced refl (eqb_tells first.role.rack m.role.rack) h
  where
    clash : false ≡ true → ⊥
    clash wrong = cc

    go : (q : Bool) → first.role.quiesced ≡ q → (((first.role.rack == m.role.rack) ≡ true) × (first.role.rack ≡ m.role.rack)) ⊎ (((first.role.rack == m.role.rack) ≡ false) × (first.role.rack ≢ m.role.rack))
        → (not q && ((first.role.rack == m.role.rack) && is_lt (standing_cmp p first m))) ≡ true → IsAhead p first m
    go true active racks k = absurd (clash k)
    go false active (inl same) k = record { active = active; same_rack = same.1; before = sym (ap (λ b. b && is_lt (standing_cmp p first m)) same.0) ∙ k }
    go false active (inr other) k = absurd (clash (sym (ap (λ b. b && is_lt (standing_cmp p first m)) other.0) ∙ k))

pub ahead_made : (p : ℕ) (first m : Member) → first.role.quiesced ≡ false → first.role.rack ≡ m.role.rack → is_lt (standing_cmp p first m) ≡ true → is_ahead_in_rack p first m ≡ true
ahead_made p first m active same before =
    ap (λ b. not b && ((first.role.rack == m.role.rack) && is_lt (standing_cmp p first m))) active
    ∙ ap (λ b. b && is_lt (standing_cmp p first m)) (equal first.role.rack m.role.rack same)
    ∙ before

repeat_means : (members : List Member) (p : ℕ) (m : Member) → is_repeat members p m ≡ true → list_any (λ first. is_ahead_in_rack p first m) members ≡ true
repeat_means members p m h = go m.role.quiesced (m.role.rack == 0) h
  where
    go : (q z : Bool) → (not q && (not z && list_any (λ first. is_ahead_in_rack p first m) members)) ≡ true → list_any (λ first. is_ahead_in_rack p first m) members ≡ true
    go true z k = cc
    go false true k = cc
    go false false k = k

-- a member that another of its rack is ahead of isn't ahead of any that the other isn't ahead of
pub holds_no_rack : (members : List Member) (p : ℕ) (gone : Member) → AreDistinct (ids_of members) → Has members gone → HoldsNoRack members p gone → (m : Member) → OthersAhead members p gone.id m
holds_no_rack members p gone distinct listed idle m active racked first found same ahead = go idle
  where
    is_gone : first ≡ gone
    is_gone = same_item (λ (z : Member). z.id) members first gone (distinct_differ (λ (z : Member). z.id) members distinct) found listed same

    gone_ahead : IsAhead p gone m
    gone_ahead = subst (λ (z : Member). IsAhead p z m) is_gone (ahead_means p first m ahead)

    other_node : (other : Member) → Has members other → is_lt (standing_cmp p other gone) ≡ true → other.id ≢ gone.id
    other_node other found before one =
        let itself = subst (λ (z : Member). is_lt (standing_cmp p z gone) ≡ true) (same_item (λ (z : Member). z.id) members other gone (distinct_differ (λ (z : Member). z.id) members distinct) found listed one) before in
        let never = standing_irreflexive p gone in
        cc

    go : HoldsNoRack members p gone → (other : Member) × Has members other × (other.id ≢ gone.id) × (is_ahead_in_rack p other m ≡ true)
    go (inl quiesced) = absurd (clash gone.role.quiesced quiesced gone_ahead.active)
      where
        clash : (b : Bool) → b ≡ true → b ≡ false → ⊥
        clash true h k = cc
        clash false h k = cc
    go (inr (inl no_rack)) = absurd (racked (sym gone_ahead.same_rack ∙ no_rack))
    go (inr (inr repeat)) =
        let witness = any_has (λ other. is_ahead_in_rack p other gone) members (repeat_means members p gone repeat) in
        let ahead_of_gone = ahead_means p witness.0 gone witness.2 in (
          witness.0,
          witness.1,
          other_node witness.0 witness.1 ahead_of_gone.before,
          ahead_made p witness.0 m ahead_of_gone.active (ahead_of_gone.same_rack ∙ gone_ahead.same_rack) (standing_transitive p witness.0 gone m ahead_of_gone.before gone_ahead.before),
        )

-- a member of the list, by its index
pub has_member : (members : List Member) (m : Member) → Contains members m → Has members m
has_member members m found = subst (Has members) found.2 (has_at members found.0 m found.1)

all_has : {K : Type 0} (P : K → Type 0) (xs : List K) (z : K) → All P xs → Has xs z → P z
all_has P xs z h found = let at = index_of xs z found in subst P (at.2 z) (h at.0 z at.1)

pub leaving_without_rack : (members : List Member) (p : ℕ) (gone : Member) → AreDistinct (ids_of members) → Contains members gone → HoldsNoRack members p gone → list (members_without members gone.id) p ≡ without (list members p) gone.id
leaving_without_rack members p gone distinct listed idle =
    only_lost members p gone.id distinct (λ m found differs. holds_no_rack members p gone distinct (has_member members gone listed) idle m)

-- the next of the rack is ahead of all others that the member is ahead of
next_ahead : (members : List Member) (p : ℕ) (gone next : Member) → AreDistinct (ids_of members) → Contains members gone → IsNextOfRack members p gone next → (m : Member) → Has members m → m.id ≢ gone.id → m.id ≢ next.id → OthersAhead members p gone.id m
next_ahead members p gone next distinct listed h m found differs not_next active racked first at_first same ahead =
    (next, has_member members next h.listed, h.shares.differs, ahead_made p next m h.shares.active (h.shares.same_rack ∙ gone_ahead.same_rack) next_before)
  where
    gone_ahead : IsAhead p gone m
    gone_ahead =
        subst (λ (z : Member). IsAhead p z m)
        (same_item (λ (z : Member). z.id) members first gone (distinct_differ (λ (z : Member). z.id) members distinct) at_first (has_member members gone listed) same)
        (ahead_means p first m ahead)

    shares : SharesRack gone m
    shares = record { differs = differs; active = active; same_rack = sym gone_ahead.same_rack }

    m_not_before : is_lt (standing_cmp p m next) ≡ false
    m_not_before = all_has (λ other. SharesRack gone other → is_lt (standing_cmp p other next) ≡ false) members m h.least found shares

    next_before : is_lt (standing_cmp p next m) ≡ true
    next_before = elim (truth_of (is_lt (standing_cmp p next m))) [
      | inl before ↦ before
      | inr not_before ↦ absurd (not_next (standing_connected p m next m_not_before not_before))
    ]

differs_from_test : (a b : ℕ) → not (a == b) ≡ true → a ≢ b
differs_from_test a b h same = let tested = ap not (equal a b same) in let wrong : true ≡ false = sym h ∙ tested in cc

pub leaving_before_next : (members : List Member) (p : ℕ) (gone next : Member) → AreDistinct (ids_of members) → Contains members gone → IsNextOfRack members p gone next → without (list (members_without members gone.id) p) next.id ≡ without (without (list members p) gone.id) next.id
leaving_before_next members p gone next distinct listed h =
    kept_in_order members p gone.id (λ n. not (n == next.id)) distinct
    (λ m found differs kept. next_ahead members p gone next distinct listed h m found differs (differs_from_test m.id next.id kept))

pub leaving_alone : (members : List Member) (p : ℕ) (gone : Member) → AreDistinct (ids_of members) → Contains members gone → IsAloneInRack members gone → list (members_without members gone.id) p ≡ without (list members p) gone.id
leaving_alone members p gone distinct listed h = only_lost members p gone.id distinct nobody_behind
  where
    nobody_behind : (m : Member) → Has members m → m.id ≢ gone.id → OthersAhead members p gone.id m
    nobody_behind m found differs active racked first at_first same ahead =
        let gone_ahead =
        subst (λ (z : Member). IsAhead p z m)
        (same_item (λ (z : Member). z.id) members first gone (distinct_differ (λ (z : Member). z.id) members distinct) at_first (has_member members gone listed) same)
        (ahead_means p first m ahead) in
        absurd (all_has (λ other. ¬ (SharesRack gone other)) members m h.alone found (record { differs = differs; active = active; same_rack = sym gone_ahead.same_rack }))

pub leaving_plain : (members : List Member) (p gone : ℕ) → AreDistinct (ids_of members) → AreAllPlain members → list (members_without members gone) p ≡ without (list members p) gone
leaving_plain members p gone distinct h =
    only_lost members p gone distinct
    (λ m found differs active racked first at_first same ahead. absurd (racked (ap (λ (r : Role). r.rack) (all_has (λ (z : Member). z.role ≡ plain_role) members m h.plain found))))

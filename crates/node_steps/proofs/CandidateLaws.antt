-- The greatest of the neighbours is the first.
use Rattle.std.proofs.Common.{◌≡◌, ◌≢◌, ◌<◌, ◌==◌, ℕ, Bool, true, false, List, [], ◌∷◌, length, map, All, Contains, refl, sym, ap, subst, ◌∙◌, arith, suc, ◌&&◌, nat_lt, reverse, filter, get_or}
use Rattle.std.proofs.lemmas.List.Elements.{All-head, All-tail, All-contains, Contains-append_right}
use Rattle.cluster_types.specs.Distinct.{IsDescending}
use Rattle.cluster_types.specs.Members.{ids_of}
use Rattle.partition_lists.proofs.InOrderLaws.{equal, from_equal}
use Rattle.std.specs.FinMap.{put}
use Rattle.std.specs.Ordering.{nat_cmp}
use Rattle.std.specs.List.{list_all}
use Rattle.std.specs.Prelude.{nat_le}
use Rattle.std.proofs.lemmas.Bool.Decides.{nat_tests}
use Rattle.std.proofs.lemmas.Map.Made.{Contains-tail}
use Rattle.std.proofs.lemmas.List.Sorted.{Contains-permutation, IsPermutation-map, IsPermutation-reverse}
use Rattle.cluster_types.specs.declared.member.Member.{Member}
use Rattle.cluster_types.specs.declared.member.Role.{Role}
use Rattle.node_rules.specs.Hearing.{Heard, is_greatest, member_of, names, neighbours_of}
use Rattle.node_rules.specs.Tables.{Table, table_with}

pub unlike : (a b : ℕ) → a ≡ b → ¬ ((a == b) ≡ false)
unlike a b same is = clash (sym (equal a b same) ∙ is)
  where
    clash : true ≡ false → ⊥
    clash wrong = cc

-- ---- the neighbours

first_one : (n : ℕ) (ns : List ℕ) → Contains (n ∷ ns) n
first_one n ns = (0, omega arith, refl)

abbrev keys_in : Table Role → List ℕ
keys_in es = map (λ e. e.0) es

-- what is put into a table is there
put_there : (n : ℕ) (role : Role) (es : Table Role) → Contains (keys_in (put nat_cmp n role es)) n
put_there n role [] = first_one n []
put_there n role (e ∷ es) = go (nat_lt n e.0) (n == e.0) refl refl (put_there n role es)
  where
    go : (a b : Bool) → nat_lt n e.0 ≡ a → (n == e.0) ≡ b → Contains (keys_in (put nat_cmp n role es)) n → Contains (keys_in (put nat_cmp n role (e ∷ es))) n
    go true b p q later = rw p (first_one n (keys_in (e ∷ es)))
    go false true p q later = rw (p, q) (subst (λ (m : ℕ). Contains (m ∷ keys_in es) n) (from_equal n e.0 q) (first_one n (keys_in es)))
    go false false p q later = rw (p, q) (Contains-append_right (e.0 ∷ []) (keys_in (put nat_cmp n role es)) n later)

ids_in : (es : Table Role) → ids_of (map member_of es) ≡ keys_in es
ids_in [] = refl
ids_in (e ∷ es) = ap (λ (ns : List ℕ). e.0 ∷ ns) (ids_in es)

-- a node is one of its neighbours
pub itself_among : (me : ℕ) (role : Role) (heard : Table Heard) → Contains (ids_of (neighbours_of me role heard)) me
itself_among me role heard =
    let before : Table Role = map (λ (e : ℕ × Heard). (e.0, e.1.beat.role)) (filter (names me) heard) in
    let ms : List Member = map member_of (table_with before me role) in
    Contains-permutation (ids_of ms) (ids_of (reverse ms)) me (IsPermutation-map (λ (m : Member). m.id) ms (reverse ms) (IsPermutation-reverse ms))
    (subst (λ (ns : List ℕ). Contains ns me) (sym (ids_in (table_with before me role))) (put_there me role before))

-- ---- the greatest

others_below : (me : ℕ) (ms : List Member) → All (λ n. n < me) (ids_of ms) → list_all (λ m. nat_le m.id me) ms ≡ true
others_below me [] h = refl
others_below me (m ∷ ms) h =
    let low : m.id < me = All-head (λ (n : ℕ). n < me) m.id (ids_of ms) h in
    let passes : nat_le m.id me ≡ true = grind (arith, nat_tests) in
    ap (λ (b : Bool). b && list_all (λ (x : Member). nat_le x.id me) ms) passes ∙ others_below me ms (All-tail (λ (n : ℕ). n < me) m.id (ids_of ms) h)

-- of descending members the first is the greatest
first_is_greatest : (me : ℕ) (m : Member) (ms : List Member) → IsDescending (ids_of (m ∷ ms)) → Contains (ids_of (m ∷ ms)) me
    → (m.id == me) ≡ is_greatest me (m ∷ ms)
first_is_greatest me m ms falls among = go (m.id == me) refl
  where
    below : All (λ n. n < m.id) (ids_of ms)
    below k d within = falls.falls 0 (suc k) d (omega arith) (omega (arith, within))

    go : (b : Bool) → (m.id == me) ≡ b → b ≡ (nat_le m.id me && list_all (λ x. nat_le x.id me) ms)
    go true is =
        let same : m.id ≡ me = from_equal m.id me is in
        let passes : nat_le m.id me ≡ true = grind (arith, nat_tests) in
        sym (ap (λ (b : Bool). b && list_all (λ (x : Member). nat_le x.id me) ms) passes ∙ others_below me ms (subst (λ (n : ℕ). All (λ x. x < n) (ids_of ms)) same below))
    go false is =
        let other : m.id ≢ me = λ same. unlike m.id me same is in
        let low : me < m.id = All-contains (λ (n : ℕ). n < m.id) (ids_of ms) me below (Contains-tail m.id (ids_of ms) me other among) in
        let fails : nat_le m.id me ≡ false = grind (arith, nat_tests) in
        sym (ap (λ (b : Bool). b && list_all (λ (x : Member). nat_le x.id me) ms) fails)

pub head_is_greatest : (me : ℕ) (ms : List Member) (m : Member) → 0 < length ms → m ≡ get_or ms 0 m → IsDescending (ids_of ms) → Contains (ids_of ms) me
    → (m.id == me) ≡ is_greatest me ms
head_is_greatest me [] m some is falls among = absurd (omega (arith, some))
head_is_greatest me (n ∷ ms) m some is falls among = ap (λ (x : Member). x.id == me) is ∙ first_is_greatest me n ms falls among

-- The list of a partition: all members, each at its position.
use Rattle.std.proofs.Common.{◌≡◌, ◌≢◌, ◌==◌, ℕ, ◌<◌, Bool, false, List, [], ◌∷◌, length, map, take, get_or, count_by, cond, slice_get, Some, unwrap_or, Contains, IsTrue, ◌↔◌, inl, inr, not, ◌&&◌, ◌||◌, ◌+◌, refl, sym, ap, subst, ◌∙◌, arith, IsPermutation}
use Rattle.std.specs.List.{list_any}
use Rattle.std.specs.Option.{option_map}
use Rattle.std.proofs.lemmas.List.{same_lists, length-map, take-map, get_or-map}
use Rattle.std.proofs.lemmas.List.Sums.{sum_by-cons}
use Rattle.std.proofs.lemmas.List.Sorted.{IsPermutation-map, IsPermutation-sym, Contains-permutation, length_permutation, sum_by-IsPermutation}
use Rattle.std.proofs.lemmas.Option.{slice_get-get_or, slice_get-map, unwrap_or-slice_get}
use Rattle.cluster_types.specs.declared.member.Member.{Member}
use Rattle.cluster_types.specs.Distinct.{AreDistinct}
use Rattle.cluster_types.specs.Members.{ids_of}
use Rattle.cluster_types.proofs.DistinctLaws.{fresh_next}
use Rattle.partition_lists.specs.declared.ranks.Rank.{Rank}
use Rattle.partition_lists.specs.declared.ranks.Candidate.{Candidate}
use Rattle.partition_lists.specs.Hashes.{place}
use Rattle.partition_lists.specs.RankKeys.{id_in}
use Rattle.partition_lists.specs.Ranks.{rank_of, is_smaller}
use Rattle.partition_lists.specs.Candidates.{candidates_of, is_ahead, repeats, rank_in}
use Rattle.partition_lists.specs.Lists.{in_order, ranks_of, list, position_of, IsListOf}
use Rattle.partition_lists.proofs.InOrderLaws.{unequal, equal, from_equal, any_has, has_any, Has, DifferBy, has_at, index_of, has_map, map_has, has_in_order, in_order_has, permutation_in_order, rises_in_order, differ_in_order, differ_distinct, distinct_differ, count_below}
use Rattle.partition_lists.proofs.RankLaws.{rank_order}

list_any-map : {A B : Type 0} (f : A → B) (p : B → Bool) (xs : List A) → list_any p (map f xs) ≡ list_any (λ x. p (f x)) xs
list_any-map f p [] = refl
list_any-map f p (x ∷ xs) = ap (λ b. p (f x) || b) (list_any-map f p xs)

pub map_same : {A B : Type 0} (f g : A → B) (xs : List A) → ((x : A) → Has xs x → f x ≡ g x) → map f xs ≡ map g xs
map_same f g [] h = refl
map_same f g (x ∷ xs) h = λ i. h x (inl refl) i ∷ map_same f g xs (λ y later. h y (inr later)) i

map_map : {A B C : Type 0} (f : A → B) (g : B → C) (xs : List A) → map g (map f xs) ≡ map (λ x. g (f x)) xs
map_map f g [] = refl
map_map f g (x ∷ xs) = ap (λ ys. g (f x) ∷ ys) (map_map f g xs)

count_by-map : {A B : Type 0} (f : A → B) (p : B → Bool) (xs : List A) → count_by p (map f xs) ≡ count_by (λ x. p (f x)) xs
count_by-map f p [] = refl
count_by-map f p (x ∷ xs) =
    sum_by-cons (λ z. cond (p z) 1 0) (f x) (map f xs) ∙ ap (λ n. cond (p (f x)) 1 0 + n) (count_by-map f p xs) ∙ sym (sum_by-cons (λ z. cond (p (f z)) 1 0) x xs)

-- the rank of a member from the places of all
rank_in-candidates : (members : List Member) (p : ℕ) (m : Member) → rank_in (candidates_of members p) (record { member = m; place = place m.id p }) ≡ rank_of members p m
unfolding is_ahead
rank_in-candidates members p m =
    ap (λ (b : Bool). record { quiesced = m.role.quiesced; repeats_rack = not m.role.quiesced && (not (m.role.rack == 0) && b); place = place m.id p; id = m.id })
    (list_any-map (λ (o : Member). record { member = o; place = place o.id p }) _ members)

pub ranks-candidates : (members : List Member) (p : ℕ) → map (rank_in (candidates_of members p)) (candidates_of members p) ≡ ranks_of members p
ranks-candidates members p =
    map_map (λ (m : Member). record { member = m; place = place m.id p }) (rank_in (candidates_of members p)) members
    ∙ map_same _ (rank_of members p) members (λ m found. rank_in-candidates members p m)

pub ids-candidates : (members : List Member) (p : ℕ) → map (λ c. c.member.id) (candidates_of members p) ≡ ids_of members
ids-candidates members p = map_map (λ (m : Member). record { member = m; place = place m.id p }) (λ (c : Candidate). c.member.id) members

pub candidates_distinct : (members : List Member) (p : ℕ) → AreDistinct (ids_of members) → AreDistinct (map (λ c. c.member.id) (candidates_of members p))
candidates_distinct members p h = subst AreDistinct (sym (ids-candidates members p)) h

pub ranked_distinct : (candidates : List Candidate) → AreDistinct (map (λ c. c.member.id) candidates) → AreDistinct (map (λ r. r.id) (map (rank_in candidates) candidates))
ranked_distinct candidates h = subst AreDistinct (sym (map_map (rank_in candidates) (λ (r : Rank). r.id) candidates)) h

pub list-candidates : (members : List Member) (p : ℕ) → list members p ≡ map (λ r. r.id) (in_order is_smaller (map (rank_in (candidates_of members p)) (candidates_of members p)))
unfolding list
list-candidates members p = ap (λ ranks. map (λ (r : Rank). r.id) (in_order is_smaller ranks)) (sym (ranks-candidates members p))

pub ids-ranks : (members : List Member) (p : ℕ) → map (λ r. r.id) (ranks_of members p) ≡ ids_of members
ids-ranks members p = map_map (rank_of members p) (λ (r : Rank). r.id) members

pub ranks_distinct : (members : List Member) (p : ℕ) → AreDistinct (ids_of members) → AreDistinct (map (λ r. r.id) (ranks_of members p))
ranks_distinct members p h = subst AreDistinct (sym (ids-ranks members p)) h

pub ranks_differ : (members : List Member) (p : ℕ) → AreDistinct (ids_of members) → DifferBy (λ (r : Rank). r.id) (ranks_of members p)
ranks_differ members p h = distinct_differ (λ (r : Rank). r.id) (ranks_of members p) (ranks_distinct members p h)

pub list_is : (members : List Member) (p : ℕ) → list members p ≡ map (λ r. r.id) (in_order is_smaller (ranks_of members p))
unfolding list
list_is members p = refl

-- each id stands once in the list
pub list_permutation : (members : List Member) (p : ℕ) → IsPermutation (ids_of members) (list members p)
unfolding list
list_permutation members p =
    subst (λ ids. IsPermutation ids (list members p)) (ids-ranks members p)
    (IsPermutation-map (λ (r : Rank). r.id) (ranks_of members p) (in_order is_smaller (ranks_of members p)) (permutation_in_order is_smaller (ranks_of members p)))

pub list_contains : (members : List Member) (p n : ℕ) → Contains (list members p) n ↔ Contains (ids_of members) n
list_contains members p n =
    let moved = list_permutation members p in
    (Contains-permutation (list members p) (ids_of members) n (IsPermutation-sym (ids_of members) (list members p) moved), Contains-permutation (ids_of members) (list members p) n moved)

pub list_distinct : (members : List Member) (p : ℕ) → AreDistinct (ids_of members) → AreDistinct (list members p)
unfolding list
list_distinct members p h =
    differ_distinct (λ (r : Rank). r.id) (in_order is_smaller (ranks_of members p)) (differ_in_order is_smaller (λ (r : Rank). r.id) (ranks_of members p) (ranks_differ members p h))

pub list_length : (members : List Member) (p : ℕ) → length (list members p) ≡ length members
list_length members p = length_permutation (ids_of members) (list members p) (list_permutation members p) ∙ length-map members (λ (m : Member). m.id)

-- where the rank of a member stands among the ranks in order is its position
position_at : (members : List Member) (p : ℕ) (m : Member) (k : ℕ) (d : Rank) → AreDistinct (ids_of members) → k < length (in_order is_smaller (ranks_of members p)) → get_or (in_order is_smaller (ranks_of members p)) k d ≡ rank_of members p m → position_of members p m ≡ k
unfolding position_of
position_at members p m k d distinct within read =
    let sorted = in_order is_smaller (ranks_of members p) in
    sym (count_by-map (rank_of members p) (λ r. is_smaller r (rank_of members p m)) members)
    ∙ sym (sum_by-IsPermutation (λ r. cond (is_smaller r (rank_of members p m)) 1 0) (ranks_of members p) sorted (permutation_in_order is_smaller (ranks_of members p)))
    ∙ ap (λ (r : Rank). count_by (λ z. is_smaller z r) sorted) (sym read)
    ∙ count_below rank_order sorted k d (rises_in_order rank_order (λ (r : Rank). r.id) (ranks_of members p) (ranks_differ members p distinct)) within

pub placed_at : (members : List Member) (p : ℕ) (m : Member) → AreDistinct (ids_of members) → Has members m → slice_get (list members p) (position_of members p m) ≡ Some m.id
unfolding list
placed_at members p m distinct found =
    let sorted = in_order is_smaller (ranks_of members p) in
    let r = rank_of members p m in
    let at = index_of sorted r (has_in_order is_smaller (ranks_of members p) r (has_map (rank_of members p) members m found)) in
    ap (slice_get (map (λ (z : Rank). z.id) sorted)) (position_at members p m at.0 r distinct at.1 (at.2 r))
    ∙ slice_get-map (λ (z : Rank). z.id) sorted at.0
    ∙ ap (option_map (λ (z : Rank). z.id)) (slice_get-get_or sorted at.0 r at.1 ∙ ap Some (at.2 r))

pub list_IsListOf : (members : List Member) (p : ℕ) → AreDistinct (ids_of members) → IsListOf members p (list members p)
list_IsListOf members p distinct = record {
  size = list_length members p;
  placed = λ k d within. placed_at members p (get_or members k d) distinct (has_at members k d within);
}

nobody : Rank
nobody = record { quiesced = false; repeats_rack = false; place = 0; id = 0 }

-- at each position stands a member
member_at : (members : List Member) (p k : ℕ) → AreDistinct (ids_of members) → k < length members → (m : Member) × Has members m × (position_of members p m ≡ k)
member_at members p k distinct within =
    let sorted = in_order is_smaller (ranks_of members p) in
    let inside : k < length sorted = omega (arith, length_permutation (ranks_of members p) sorted (permutation_in_order is_smaller (ranks_of members p)), length-map members (rank_of members p)) in
    let from = map_has (rank_of members p) members (get_or sorted k nobody) (in_order_has is_smaller (ranks_of members p) (get_or sorted k nobody) (has_at sorted k nobody inside)) in
    (from.0, from.1, position_at members p from.0 k nobody distinct inside (sym from.2))

-- the positions of the members determine the list
pub list_unique : (members : List Member) (p : ℕ) (ids : List ℕ) → AreDistinct (ids_of members) → IsListOf members p ids → ids ≡ list members p
list_unique members p ids distinct h = same_lists ids (list members p) (h.size ∙ sym (list_length members p)) same
  where
    same : (k : ℕ) (d : ℕ) → k < length ids → get_or ids k d ≡ get_or (list members p) k d
    same k d within =
        let from = member_at members p k distinct (omega (arith, within, h.size)) in
        let place_in = index_of members from.0 from.1 in
        let here = subst (λ (m : Member). slice_get ids (position_of members p m) ≡ Some m.id) (place_in.2 from.0) (h.placed place_in.0 from.0 place_in.1) in
        let there = placed_at members p from.0 distinct from.1 in
        sym (unwrap_or-slice_get ids k d)
        ∙ ap (λ j. unwrap_or (slice_get ids j) d) (sym from.2)
        ∙ ap (λ o. unwrap_or o d) (here ∙ sym there)
        ∙ ap (λ j. unwrap_or (slice_get (list members p) j) d) from.2
        ∙ unwrap_or-slice_get (list members p) k d

-- the id in a rank's number isn't that in one before it
pub fresh_id : (keys : List ℕ) (i d : ℕ) → i < length keys → AreDistinct (map id_in keys) → ¬ (Contains (map id_in (take i keys)) (id_in (get_or keys i d)))
fresh_id keys i d within distinct found =
    let id = id_in (get_or keys i d) in
    fresh_next (map id_in keys) i id
    (omega (arith, within, length-map keys id_in))
    (sym (get_or-map id_in keys i d id within))
    distinct
    (subst (λ ids. Contains ids id) (sym (take-map id_in i keys)) found)

-- a member that isn't quiesced and has a rack repeats it where another is ahead
pub active_repeats : (candidates : List Candidate) (c : Candidate) → c.member.role.quiesced ≡ false → c.member.role.rack ≢ 0 → list_any (λ first. is_ahead first c) candidates ≡ repeats candidates c
active_repeats candidates c active racked =
    let ahead = list_any (λ first. is_ahead first c) candidates in
    sym (ap (λ b. not b && (not (c.member.role.rack == 0) && ahead)) active ∙ ap (λ b. not b && ahead) (unequal c.member.role.rack 0 racked))

-- the test whether a node is among the ids
pub any_is_contained : (n : ℕ) (ids : List ℕ) → IsTrue (list_any (λ m. m == n) ids) ↔ Contains ids n
any_is_contained n ids = (there, back)
  where
    there : IsTrue (list_any (λ m. m == n) ids) → Contains ids n
    there h =
        let witness = any_has (λ m. m == n) ids h in
        let at = index_of ids witness.0 witness.1 in
        (at.0, at.1, at.2 n ∙ from_equal witness.0 n witness.2)

    back : Contains ids n → IsTrue (list_any (λ m. m == n) ids)
    back found = has_any (λ m. m == n) ids (get_or ids found.0 n) (has_at ids found.0 n found.1) (equal (get_or ids found.0 n) n found.2)

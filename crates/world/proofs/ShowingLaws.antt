-- What is shown of maps and of lists.
use Rattle.std.proofs.Common.{◌≡◌, ℕ, ◌+◌, ◌-◌, ◌≤◌, List, [], ◌∷◌, ◌++◌, length, map, drop, refl, sym, ap, ap₂, subst, ◌∙◌, arith}
use Rattle.std.specs.List.{range_with_len}
use Rattle.std.proofs.lemmas.List.{append-nil, drop_all, get_or-map, length-map, take_more}
use Rattle.std.proofs.lemmas.List.FromFn.{get_or-range_with_len, length-map-range_with_len, length-range_with_len, take-map-range_with_len}
use Rattle.cluster_types.specs.declared.member.Member.{Member}
use Rattle.cluster_types.specs.Distinct.{AreDistinct, IsDescending}
use Rattle.cluster_types.specs.Members.{AreDistinctMembers, AreMembers, ids_of}
use Rattle.cluster_types.specs.NodeLists.{IsNodeList}
use Rattle.partition_lists.specs.Lists.{list}
use Rattle.partition_lists.proofs.ListLaws.{list_is}
use Rattle.node_rules.specs.Shows.{with_roles}

-- ---- lines of numbers

-- the images of numbers from the first on, with the next one
images_more : {A : Type 0} (g : ℕ → A) (a n : ℕ) (d : A) → map g (range_with_len a (n + 1)) ≡ map g (range_with_len a n) ++ g (a + n) ∷ []
images_more {A} g a n d =
    sym (take-map-range_with_len g a (n + 1) (n + 1) (omega arith))
    ∙ take_more (map g (range_with_len a (n + 1))) n d (omega (arith, length-map-range_with_len g a (n + 1)))
    ∙ ap₂ (λ (ys : List A) y. ys ++ y ∷ []) (take-map-range_with_len g a (n + 1) n (omega arith))
    (get_or-map g (range_with_len a (n + 1)) n 0 d (omega (arith, length-range_with_len a (n + 1))) ∙ ap g (get_or-range_with_len a (n + 1) n 0 (omega arith)))

pub one_more : {A : Type 0} (g : ℕ → A) (first number : ℕ) (told told' : List A) (x : A) → first ≤ number → told ≡ map g (range_with_len first (number - first)) → x ≡ g number → told' ≡ told ++ x ∷ []
    → told' ≡ map g (range_with_len first (number + 1 - first))
one_more {A} g first number told told' x above before is more =
    let sum : first + (number - first) ≡ number = omega (arith, above) in
    let next : (number - first) + 1 ≡ number + 1 - first = omega (arith, above) in
    more ∙ ap₂ (λ (ys : List A) y. ys ++ y ∷ []) before (is ∙ ap g (sym sum)) ∙ sym (images_more g first (number - first) x) ∙ ap (λ n. map g (range_with_len first n)) next

-- ---- members with their roles

pub roles_of_all : (ms : List Member) (ids : List ℕ) → ids_of (with_roles ms ids) ≡ ids
roles_of_all ms [] = refl
roles_of_all ms (n ∷ ids) = ap (λ (ns : List ℕ). n ∷ ns) (roles_of_all ms ids)

pub roles_distinct : (ms : List Member) (ids : List ℕ) → IsNodeList ids → AreDistinctMembers (with_roles ms ids)
roles_distinct ms ids h = record {
  limit = omega (arith, ap length (roles_of_all ms ids), length-map (with_roles ms ids) (λ (m : Member). m.id), h.limit);
  distinct = subst AreDistinct (sym (roles_of_all ms ids)) h.distinct;
}

pub roles_told : (ms told : List Member) (ids : List ℕ) (k : ℕ) → length ids ≤ k → told ++ with_roles ms (drop k ids) ≡ with_roles ms ids → told ≡ with_roles ms ids
roles_told ms told ids k end all =
    sym (append-nil told) ∙ ap (λ (ns : List ℕ). told ++ with_roles ms ns) (sym (drop_all k ids end)) ∙ all

-- there are no members
pub none_placed : (ms : List Member) (p : ℕ) → length ms ≤ 16 → IsDescending (ids_of ms) → (AreMembers ms → ⊥) → [] ≡ with_roles ms (list ms p)
none_placed [] p few falls none = sym (ap (with_roles []) (list_is [] p))
none_placed (m ∷ ms) p few falls none = absurd (none (record { some = omega arith; limit = few; descending = falls }))

-- Groups with bars between them.
use Rattle.std.proofs.Common.{◌≡◌, ℕ, ◌<◌, ◌≤◌, ◌==◌, Bool, true, false, cond, nat_lt, nat_le, ◌&&◌, List, [], ◌∷◌, ◌++◌, length, map, Some, None, refl, sym, ap, ◌∙◌, subst, arith, append_assoc}
use Rattle.std.specs.Prelude.{All, codes}
use Rattle.std.specs.List.{slice_split, onto_first, concat, list_all, join_with_byte}
use Rattle.std.specs.Option.{option_map, option_and_then}
use Rattle.std.specs.Cmp.Lexicographic.{same_text}
use Rattle.std.proofs.lemmas.Bool.{eqb-false, and_parts, and_from, lt-ltb, ltb-true, le-leb, leb-true}
use Rattle.std.proofs.lemmas.List.{append-nil}
use Rattle.std.proofs.lemmas.List.Concat.{flat_map-cons}
use Rattle.std.proofs.lemmas.List.Elements.{All-nil, All-cons, All-head, All-tail, All-weaker}
use Rattle.std.proofs.lemmas.List.Splits.{slice_split_at, slice_split_none}
use Rattle.std.proofs.lemmas.List.Sums.{AllPass-from_list_all, list_all-from_AllPass}
use Rattle.std.proofs.lemmas.Option.{cond_some, same_Some, option_and_then_some}
use Rattle.cluster_types.specs.Groups.{AreGroups}
use Rattle.cluster_types.specs.NodeLists.{IsNodeList}
use Rattle.cluster_types.specs.Texts.{node_text}
use Rattle.wire_messages.specs.Nodes.{IsId}
use Rattle.journal_lines.specs.Proper.{AreIdGroups}
use Rattle.journal_reader.specs.Fields.{all_of, parsed_node, is_bar, parsed_group, each_group_of, are_distinct_ids, are_groups, parsed_groups, if_allowed}
use Rattle.journal_text.specs.LineFields.{between_bars, ids_fields, groups_fields}
use Rattle.journal_text.specs.Values.{ids_text, more_groups_text, groups_text}
use Rattle.journal_reader.proofs.Readers.{ReadsAll, AreClean, map_some}
use Rattle.journal_reader.proofs.KeyFields.{IsVisible, node_field}
use Rattle.journal_reader.proofs.ByteFields.{word_clean}
use Rattle.journal_reader.proofs.VersionFields.{no_word}
use Rattle.journal_reader.proofs.MemberFields.{each_again, each_written}
use Rattle.journal_reader.proofs.PairLaws.{distinct_from_test, test_of_distinct, first_distinct}

-- ---- bars

no_bar : (n : ℕ) → IsId n → is_bar (node_text n) ≡ false
no_bar n i =
    let fits = i.fits in
    ap is_bar (sym (append-nil (node_text n))) ∙ no_word n [] (codes "|") (omega arith) (omega arith)

no_bars : (ids : List ℕ) → All IsId ids → All (λ field. is_bar field ≡ false) (ids_fields ids)
no_bars [] g = All-nil (λ field. is_bar field ≡ false)
no_bars (n ∷ ids) g = All-cons (λ field. is_bar field ≡ false) (node_text n) (ids_fields ids) (no_bar n (All-head IsId n ids g)) (no_bars ids (All-tail IsId n ids g))

split_bars : (ids : List ℕ) (groups : List (List ℕ)) → All (All IsId) (ids ∷ groups) → slice_split is_bar (groups_fields (ids ∷ groups)) ≡ map ids_fields (ids ∷ groups)
split_bars ids [] g = slice_split_none is_bar (ids_fields ids) (no_bars ids (All-head (All IsId) ids [] g))
split_bars ids (next ∷ groups) g =
    slice_split_at is_bar (ids_fields ids) (codes "|") (groups_fields (next ∷ groups)) (no_bars ids (All-head (All IsId) ids (next ∷ groups) g)) refl
    ∙ ap (λ parts. ids_fields ids ∷ parts) (split_bars next groups (All-tail (All IsId) ids (next ∷ groups) g))

abbrev pub AreParts : List (List (List ℕ)) → Type 0
AreParts [] = ⊥
AreParts (part ∷ parts) = Unit {0}

onto_parts : (field : List ℕ) (parts : List (List (List ℕ))) → AreParts (onto_first field parts)
onto_parts field [] = tt
onto_parts field (part ∷ parts) = tt

pub split_parts : (fields : List (List ℕ)) → AreParts (slice_split is_bar fields)
split_parts [] = tt
split_parts (field ∷ fields) =
    elim (is_bar field) as (λ t. AreParts (cond t ([] ∷ slice_split is_bar fields) (onto_first field (slice_split is_bar fields)))) [ true ↦ tt | false ↦ onto_parts field (slice_split is_bar fields) ]

bar_then : (parts : List (List (List ℕ))) → AreParts parts → between_bars ([] ∷ parts) ≡ codes "|" ∷ between_bars parts
bar_then [] full = absurd full
bar_then (part ∷ parts) full = refl

onto_bars : (field : List ℕ) (parts : List (List (List ℕ))) → between_bars (onto_first field parts) ≡ field ∷ between_bars parts
onto_bars field [] = refl
onto_bars field (part ∷ []) = refl
onto_bars field (part ∷ next ∷ parts) = refl

bars_by : (field : List ℕ) (fields : List (List ℕ)) (t : Bool) → is_bar field ≡ t → between_bars (slice_split is_bar fields) ≡ fields
    → between_bars (cond t ([] ∷ slice_split is_bar fields) (onto_first field (slice_split is_bar fields))) ≡ field ∷ fields
bars_by field fields true is more =
    bar_then (slice_split is_bar fields) (split_parts fields) ∙ ap (λ rest. codes "|" ∷ rest) more ∙ ap (λ f. f ∷ fields) (sym (same_text _ _ (sym is)))
bars_by field fields false is more = onto_bars field (slice_split is_bar fields) ∙ ap (λ rest. field ∷ rest) more

bars_back : (fields : List (List ℕ)) → between_bars (slice_split is_bar fields) ≡ fields
bars_back [] = refl
bars_back (field ∷ fields) = bars_by field fields (is_bar field) refl (bars_back fields)

-- ---- each group

record IsGroup (ids : List ℕ) : Type 0 where
  fit : All IsId ids
  distinct : are_distinct_ids ids ≡ true

group_again : (ids : List ℕ) → IsGroup ids → parsed_group (ids_fields ids) ≡ Some ids
unfolding parsed_group
group_again ids g =
    ap (option_and_then (if_allowed are_distinct_ids)) (each_again node_field ids g.fit).0 ∙ ap (λ t. cond t (Some ids) None) g.distinct

group_written : (fields : List (List ℕ)) (ids : List ℕ) → parsed_group fields ≡ Some ids → (ids_fields ids ≡ fields) × IsGroup ids
unfolding parsed_group
group_written fields ids e =
    option_and_then_some (if_allowed are_distinct_ids) (all_of parsed_node fields) ids e
    (λ xs is allowed.
    let c = cond_some (are_distinct_ids xs) xs ids allowed in
    let w = each_written node_field fields xs is in
    subst (λ ys. (ids_fields ys ≡ fields) × IsGroup ys) c.1 (w.0, record { fit = w.1; distinct = c.0 }))

groups_again_each : (groups : List (List ℕ)) → All IsGroup groups → each_group_of (map ids_fields groups) ≡ Some groups
unfolding each_group_of
groups_again_each [] g = refl
groups_again_each (ids ∷ groups) g =
    ap (option_and_then (λ xs. option_map (λ gs. xs ∷ gs) (each_group_of (map ids_fields groups)))) (group_again ids (All-head IsGroup ids groups g))
    ∙ ap (option_map (λ gs. ids ∷ gs)) (groups_again_each groups (All-tail IsGroup ids groups g))

groups_written_each : (parts : List (List (List ℕ))) (groups : List (List ℕ)) → each_group_of parts ≡ Some groups → (map ids_fields groups ≡ parts) × All IsGroup groups
unfolding each_group_of
groups_written_each [] groups e = subst (λ (gs : List (List ℕ)). (map ids_fields gs ≡ []) × All IsGroup gs) (same_Some [] groups e) (refl, All-nil IsGroup)
groups_written_each (part ∷ parts) groups e =
    option_and_then_some (λ xs. option_map (λ gs. xs ∷ gs) (each_group_of parts)) (parsed_group part) groups e (λ ids is rest.
    let m = map_some (λ gs. ids ∷ gs) (each_group_of parts) groups rest in
    let first = group_written part ids is in
    let more = groups_written_each parts m.0 m.1 in
    subst (λ (gs : List (List ℕ)). (map ids_fields gs ≡ part ∷ parts) × All IsGroup gs) m.2
    ((λ i. first.0 i ∷ more.0 i), All-cons IsGroup ids m.0 first.1 more.1))

-- ---- all groups

each_is_group : (groups : List (List ℕ)) → All (All IsId) groups → are_distinct_ids (concat groups) ≡ true → All IsGroup groups
each_is_group [] g e = All-nil IsGroup
each_is_group (ids ∷ groups) g e =
    let parts = first_distinct ids (concat groups) e in
    All-cons IsGroup ids groups (record { fit = All-head (All IsId) ids groups g; distinct = parts.0 }) (each_is_group groups (All-tail (All IsId) ids groups g) parts.1)

test_of_groups : (groups : List (List ℕ)) → AreGroups groups → are_groups groups ≡ true
unfolding are_groups
test_of_groups groups h =
    and_from _ _ (and_from _ _ (and_from _ _ (lt-ltb _ _ h.some) (le-leb _ _ h.limit))
    (list_all-from_AllPass (λ ids. nat_lt 0 (length ids)) groups (All-weaker (λ ids. 0 < length ids) (λ ids. nat_lt 0 (length ids) ≡ true) (λ ids lt. lt-ltb _ _ lt) groups h.none_empty)))
    (test_of_distinct (concat groups) (record { limit = h.ids_limit; distinct = h.distinct }))

pub groups_from_test : (groups : List (List ℕ)) → are_groups groups ≡ true → AreGroups groups
unfolding are_groups
groups_from_test groups e =
    let parts = and_parts _ _ e in
    let three = and_parts _ _ parts.0 in
    let range = and_parts _ _ three.0 in
    let list = distinct_from_test (concat groups) parts.1 in
    record {
      some = ltb-true _ _ range.0;
      limit = leb-true _ _ range.1;
      ids_limit = list.limit;
      none_empty = All-weaker (λ ids. nat_lt 0 (length ids) ≡ true) (λ ids. 0 < length ids) (λ ids lt. ltb-true _ _ lt) groups (AllPass-from_list_all (λ ids. nat_lt 0 (length ids)) groups three.1);
      distinct = list.distinct;
    }

split_groups : (groups : List (List ℕ)) → 0 < length groups → All (All IsId) groups → slice_split is_bar (groups_fields groups) ≡ map ids_fields groups
split_groups [] some g = absurd (omega (arith, some))
split_groups (ids ∷ groups) some g = split_bars ids groups g

groups_again : (groups : List (List ℕ)) → AreIdGroups groups → parsed_groups (groups_fields groups) ≡ Some groups
unfolding parsed_groups
groups_again groups g =
    let list : IsNodeList (concat groups) = record { limit = g.divide.ids_limit; distinct = g.divide.distinct } in
    ap (λ parts. option_and_then (if_allowed are_groups) (each_group_of parts)) (split_groups groups g.divide.some g.fit)
    ∙ ap (option_and_then (if_allowed are_groups)) (groups_again_each groups (each_is_group groups g.fit (test_of_distinct (concat groups) list)))
    ∙ ap (λ t. cond t (Some groups) None) (test_of_groups groups g.divide)

groups_written : (fields : List (List ℕ)) (groups : List (List ℕ)) → parsed_groups fields ≡ Some groups → (groups_fields groups ≡ fields) × AreIdGroups groups
unfolding parsed_groups
groups_written fields groups e =
    option_and_then_some (if_allowed are_groups) (each_group_of (slice_split is_bar fields)) groups e (λ gs is allowed.
    let c = cond_some (are_groups gs) gs groups allowed in
    let w = groups_written_each (slice_split is_bar fields) gs is in
    subst (λ (hs : List (List ℕ)). (groups_fields hs ≡ fields) × AreIdGroups hs) c.1
    (ap between_bars w.0 ∙ bars_back fields, record { divide = groups_from_test gs c.0; fit = All-weaker IsGroup (All IsId) (λ ids i. i.fit) gs w.1 }))

ids_clean : (ids : List ℕ) (more : List (List ℕ)) → All IsId ids → AreClean IsVisible more → AreClean IsVisible (ids_fields ids ++ more)
ids_clean [] more g clean = clean
ids_clean (n ∷ ids) more g clean = (node_field.clean n (All-head IsId n ids g), ids_clean ids more (All-tail IsId n ids g) clean)

groups_clean : (groups : List (List ℕ)) → All (All IsId) groups → AreClean IsVisible (groups_fields groups)
groups_clean [] g = tt
groups_clean (ids ∷ []) g = subst (AreClean IsVisible) (append-nil (ids_fields ids)) (ids_clean ids [] (All-head (All IsId) ids [] g) tt)
groups_clean (ids ∷ next ∷ groups) g =
    ids_clean ids (codes "|" ∷ groups_fields (next ∷ groups)) (All-head (All IsId) ids (next ∷ groups) g)
    (word_clean (codes "|") refl, groups_clean (next ∷ groups) (All-tail (All IsId) ids (next ∷ groups) g))

pub groups_rest : ReadsAll IsVisible AreIdGroups groups_fields parsed_groups
groups_rest = record { again = groups_again; written = groups_written; clean = λ gs g. groups_clean gs g.fit }

-- ---- their text

abbrev spaced : List (List ℕ) → List ℕ
spaced [] = []
spaced (field ∷ fields) = 32 ∷ field ++ spaced fields

spaced_join : (word : List ℕ) (fields : List (List ℕ)) → word ++ spaced fields ≡ join_with_byte 32 (word ∷ fields)
spaced_join word [] = append-nil word
spaced_join word (field ∷ fields) = ap (λ t. word ++ 32 ∷ t) (spaced_join field fields)

spaced_append : (xs ys : List (List ℕ)) → spaced (xs ++ ys) ≡ spaced xs ++ spaced ys
spaced_append [] ys = refl
spaced_append (x ∷ xs) ys = ap (λ t. 32 ∷ x ++ t) (spaced_append xs ys) ∙ ap (λ t. 32 ∷ t) (sym (append_assoc x (spaced xs) (spaced ys)))

ids_spaced : (ids : List ℕ) → ids_text ids ≡ spaced (ids_fields ids)
ids_spaced [] = refl
ids_spaced (n ∷ ids) = flat_map-cons (λ m. codes " " ++ node_text m) n ids ∙ ap (λ t. 32 ∷ node_text n ++ t) (ids_spaced ids)

groups_spaced : (ids : List ℕ) (groups : List (List ℕ)) → ids_text ids ++ more_groups_text groups ≡ spaced (groups_fields (ids ∷ groups))
groups_spaced ids [] = append-nil (ids_text ids) ∙ ids_spaced ids
groups_spaced ids (next ∷ groups) =
    ap (λ t. ids_text ids ++ t) (flat_map-cons (λ xs. codes " |" ++ ids_text xs) next groups)
    ∙ ap (λ t. ids_text ids ++ 32 ∷ 124 ∷ t) (groups_spaced next groups)
    ∙ ap (λ t. t ++ 32 ∷ 124 ∷ spaced (groups_fields (next ∷ groups))) (ids_spaced ids)
    ∙ sym (spaced_append (ids_fields ids) (codes "|" ∷ groups_fields (next ∷ groups)))

pub groups_join : (groups : List (List ℕ)) → codes "groups" ++ groups_text groups ≡ join_with_byte 32 (codes "groups" ∷ groups_fields groups)
groups_join [] = refl
groups_join (ids ∷ groups) = ap (λ t. codes "groups" ++ t) (groups_spaced ids groups) ∙ spaced_join (codes "groups") (groups_fields (ids ∷ groups))

-- the test, as the code makes it
pub tested : (groups : List (List ℕ)) (ids : List ℕ) (b : Bool) → (length groups == 0) ≡ false → length groups ≤ 16 → list_all (λ g. nat_lt 0 (length g)) groups ≡ true
    → ids ≡ concat groups → b ≡ are_distinct_ids ids → b ≡ are_groups groups
unfolding are_groups
tested groups ids b some limit each same e =
    let other = eqb-false _ _ some in
    let first : (nat_lt 0 (length groups) && nat_le (length groups) 16 && list_all (λ g. nat_lt 0 (length g)) groups) ≡ true =
    and_from _ _ (and_from _ _ (lt-ltb _ _ (omega arith)) (le-leb _ _ limit)) each in
    e ∙ ap are_distinct_ids same ∙ sym (ap (λ t. t && are_distinct_ids (concat groups)) first)

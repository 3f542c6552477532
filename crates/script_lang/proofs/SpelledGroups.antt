-- Groups that are written can be read back.
use Rattle.std.proofs.Common.{◌≡◌, ℕ, ◌<◌, true, false, ◌&&◌, List, [], ◌∷◌, ◌++◌, map, length, Ok, refl, sym, ap, ◌∙◌, arith, length-append}
use Rattle.std.specs.Prelude.{All, Contains, codes}
use Rattle.std.specs.List.{concat, list_all}
use Rattle.std.specs.Fmt.{decimal}
use Rattle.std.specs.Str.Parse.{AllDigits}
use Rattle.std.proofs.lemmas.Bool.{eq-eqb, ne_eqb, lt-ltb, and_from}
use Rattle.std.proofs.lemmas.List.{append-nil, length-map}
use Rattle.std.proofs.lemmas.List.Elements.{All-nil, All-cons, All-append, All-head, All-tail, All-map, All-weaker}
use Rattle.std.proofs.lemmas.Str.Parse.{digit_from_value}
use Rattle.std.proofs.lemmas.Fmt.{decimal_is_IsNumeral}
use Rattle.cluster_types.specs.Groups.{AreGroups}
use Rattle.script_lang.specs.declared.before.Before.{Before}
use Rattle.script_lang.specs.declared.fault.Cause.TheVariants.{BadGroups}
use Rattle.script_lang.specs.declared.script.Command.TheVariants.{Groups}
use Rattle.script_lang.specs.Forms.{are_whole, group_ids, groups, is_bar}
use Rattle.script_lang.specs.Outcomes.{and_then, map_ok, ok_if}
use Rattle.script_lang.specs.Proper.{HaveNodes, IsId}
use Rattle.script_lang.specs.Spelling.{group_fields}
use Rattle.script_lang.proofs.Grouped.{distinct_test, is_some}
use Rattle.script_lang.proofs.Groups.{at_bar, at_id, onto}
use Rattle.script_lang.proofs.Ids.{declared_back, node_fits}
use Rattle.script_lang.proofs.Written.{AreClean, IsClean, number_is_clean, word_is_clean}

-- an id that is declared
record IsDeclared (before : Before) (id : ℕ) : Type 0 where
  node : IsId id
  among : Contains before.nodes id

-- ---- fields

first_of : (P : ℕ → Type 0) (xs ys : List ℕ) → All P (xs ++ ys) → All P xs
first_of P [] ys h = All-nil P
first_of P (x ∷ xs) ys h = All-cons P x xs (All-head P x (xs ++ ys) h) (first_of P xs ys (All-tail P x (xs ++ ys) h))

last_of : (P : ℕ → Type 0) (xs ys : List ℕ) → All P (xs ++ ys) → All P ys
last_of P [] ys h = h
last_of P (x ∷ xs) ys h = last_of P xs ys (All-tail P x (xs ++ ys) h)

no_bar : (ds : List ℕ) → AllDigits 10 ds → is_bar ds ≡ false
no_bar [] h = refl
no_bar (d ∷ []) h = let range = digit_from_value d h.0 in ap (λ t. t && true) (ne_eqb d 124 (λ e. omega (arith, range.1, e)))
no_bar (d ∷ c ∷ ds) h = let range = digit_from_value d h.0 in ap (λ t. t && false) (ne_eqb d 124 (λ e. omega (arith, range.1, e)))

id_is_no_bar : (before : Before) (id : ℕ) → IsDeclared before id → is_bar (decimal id) ≡ false
id_is_no_bar before id d = no_bar (decimal id) (decimal_is_IsNumeral id (node_fits id d.node)).0.1

ids_clean : (before : Before) (ids : List ℕ) → All (IsDeclared before) ids → All IsClean (map decimal ids)
ids_clean before ids all =
    All-map IsClean decimal ids (All-weaker (IsDeclared before) (λ id. IsClean (decimal id)) (λ id d. number_is_clean id (node_fits id d.node)) ids all)

fields_clean : (before : Before) (gs : List (List ℕ)) → All (IsDeclared before) (concat gs) → All IsClean (group_fields gs)
fields_clean before [] all = All-nil IsClean
fields_clean before (ids ∷ []) all = ids_clean before ids (first_of (IsDeclared before) ids [] all)
fields_clean before (ids ∷ next ∷ gs) all =
    All-append IsClean (map decimal ids) (codes "|" ∷ group_fields (next ∷ gs)) (ids_clean before ids (first_of (IsDeclared before) ids (concat (next ∷ gs)) all))
    (All-cons IsClean (codes "|") (group_fields (next ∷ gs)) (word_is_clean (codes "|") refl refl) (fields_clean before (next ∷ gs) (last_of (IsDeclared before) ids (concat (next ∷ gs)) all)))

all_clean : (first : List ℕ) (fields : List (List ℕ)) → IsClean first → All IsClean fields → AreClean (first ∷ fields)
all_clean first [] c all = c
all_clean first (field ∷ fields) c all = (c, all_clean field fields (All-head IsClean field fields all) (All-tail IsClean field fields all))

-- ---- ids

ids_back : (before : Before) (ids : List ℕ) (fields : List (List ℕ)) (gs : List (List ℕ)) → All (IsDeclared before) ids
    → group_ids before fields ≡ Ok ([] ∷ gs) → group_ids before (map decimal ids ++ fields) ≡ Ok (ids ∷ gs)
ids_back before [] fields gs all e = e
ids_back before (id ∷ ids) fields gs all e =
    let d = All-head (IsDeclared before) id ids all in
    at_id before (decimal id) (map decimal ids ++ fields) (id_is_no_bar before id d)
    ∙ ap (λ r. and_then r (λ x. map_ok (onto x) (group_ids before (map decimal ids ++ fields)))) (declared_back before id d.node d.among)
    ∙ ap (map_ok (onto id)) (ids_back before ids fields gs (All-tail (IsDeclared before) id ids all) e)

ids_of_fields : (before : Before) (gs : List (List ℕ)) → 0 < length gs → All (IsDeclared before) (concat gs) → group_ids before (group_fields gs) ≡ Ok gs
ids_of_fields before [] some all = absurd (omega arith)
ids_of_fields before (ids ∷ []) some all =
    ap (group_ids before) (sym (append-nil (map decimal ids))) ∙ ids_back before ids [] [] (first_of (IsDeclared before) ids [] all) refl
ids_of_fields before (ids ∷ next ∷ gs) some all =
    ids_back before ids (codes "|" ∷ group_fields (next ∷ gs)) (next ∷ gs) (first_of (IsDeclared before) ids (concat (next ∷ gs)) all)
    (at_bar before (codes "|") (group_fields (next ∷ gs)) refl
    ∙ ap (map_ok (λ xs. [] ∷ xs)) (ids_of_fields before (next ∷ gs) (omega arith) (last_of (IsDeclared before) ids (concat (next ∷ gs)) all)))

-- ---- the command

filled : (gs : List (List ℕ)) → All (λ ids. 0 < length ids) gs → list_all is_some gs ≡ true
filled [] all = refl
filled (ids ∷ gs) all =
    and_from _ _ (lt-ltb _ _ (All-head (λ (x : List ℕ). 0 < length x) ids gs all)) (filled gs (All-tail (λ (x : List ℕ). 0 < length x) ids gs all))

some_fields : (gs : List (List ℕ)) → 0 < length gs → All (λ ids. 0 < length ids) gs → 0 < length (group_fields gs)
some_fields [] some all = absurd (omega arith)
some_fields (ids ∷ []) some all =
    let first : 0 < length ids = All-head (λ (x : List ℕ). 0 < length x) ids [] all in
    omega (arith, first, length-map ids decimal)
some_fields (ids ∷ next ∷ gs) some all = omega (arith, length-append (map decimal ids) (codes "|" ∷ group_fields (next ∷ gs)))

made : (before : Before) (fields gs : List (List ℕ)) → 0 < length fields → group_ids before fields ≡ Ok gs → are_whole before.nodes gs ≡ true → groups before fields ≡ Ok (Groups gs)
made before [] gs some read whole = absurd (omega arith)
made before (field ∷ fields) gs some read whole =
    ap (λ r. and_then r (λ lists. ok_if (are_whole before.nodes lists) (Groups lists) BadGroups)) read ∙ ap (λ t. ok_if t (Groups gs) BadGroups) whole

all_declared : (before : Before) (ids : List ℕ) → ((n : ℕ) → Contains before.nodes n → IsId n) → All (Contains before.nodes) ids → All (IsDeclared before) ids
all_declared before ids nodes all = All-weaker (Contains before.nodes) (IsDeclared before) (λ id among. record { node = nodes id among; among = among }) ids all

pub groups_clean : (before : Before) (gs : List (List ℕ)) → ((n : ℕ) → Contains before.nodes n → IsId n) → HaveNodes gs before.nodes → AreClean (codes "groups" ∷ group_fields gs)
groups_clean before gs nodes h =
    all_clean (codes "groups") (group_fields gs) (word_is_clean (codes "groups") refl refl) (fields_clean before gs (all_declared before (concat gs) nodes h.among))

pub groups_back : (before : Before) (gs : List (List ℕ)) → ((n : ℕ) → Contains before.nodes n → IsId n) → AreGroups gs → HaveNodes gs before.nodes → groups before (group_fields gs) ≡ Ok (Groups gs)
groups_back before gs nodes g h =
    made before (group_fields gs) gs (some_fields gs g.some g.none_empty)
    (ids_of_fields before gs g.some (all_declared before (concat gs) nodes h.among))
    (and_from _ _ (and_from _ _ (eq-eqb _ _ h.count) (distinct_test (concat gs) g.distinct)) (filled gs g.none_empty))

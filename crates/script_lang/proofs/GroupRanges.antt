-- What groups that were read keep.
use Rattle.std.proofs.Common.{◌≡◌, ◌≢◌, ℕ, ◌<◌, ◌≤◌, true, not, suc, zero, List, [], ◌∷◌, length, get_or, Ok, sym, ap, ◌∙◌, arith, subst}
use Rattle.std.specs.Prelude.{All, Contains}
use Rattle.std.specs.List.{slice_split, concat}
use Rattle.std.proofs.lemmas.Bool.{and_parts, eqb-true}
use Rattle.std.proofs.lemmas.List.Elements.{All-nil, All-cons, All-append}
use Rattle.std.proofs.lemmas.List.{get_or_default}
use Rattle.cluster_types.specs.Distinct.{AreDistinct}
use Rattle.cluster_types.specs.Groups.{AreGroups}
use Rattle.script_lang.specs.declared.before.Before.{Before}
use Rattle.script_lang.specs.declared.fault.Cause.TheVariants.{BadGroups}
use Rattle.script_lang.specs.declared.script.Command.{Command}
use Rattle.script_lang.specs.declared.script.Command.TheVariants.{Groups}
use Rattle.script_lang.specs.Forms.{each, is_bar, group_ids, groups, are_distinct, are_whole}
use Rattle.script_lang.specs.Outcomes.{map_ok, ok_if}
use Rattle.script_lang.specs.Proper.{HaveNodes}
use Rattle.script_lang.specs.Values.{declared_node, is_one_of}
use Rattle.script_lang.proofs.Groups.{from_map, from_then, full_groups}
use Rattle.script_lang.proofs.Grouped.{few_groups, some_filled}
use Rattle.script_lang.proofs.Ranges.{if_ok, declared_is, contained}

-- ids that were read are declared
ids_among : (before : Before) (fields : List (List ℕ)) (ids : List ℕ) → each (declared_node before) fields ≡ Ok ids → All (Contains before.nodes) ids
ids_among before [] ids e = let m : [] ≡ ids = cc in subst (All (Contains before.nodes)) m (All-nil (Contains before.nodes))
ids_among before (field ∷ fields) ids e =
    let t = from_then (declared_node before field) (λ y. map_ok (λ ys. y ∷ ys) (each (declared_node before) fields)) ids e in
    let m = from_map (λ ys. t.0 ∷ ys) (each (declared_node before) fields) ids t.2 in
    subst (All (Contains before.nodes)) (sym m.2)
    (All-cons (Contains before.nodes) t.0 m.0 (declared_is before field t.0 t.1).1 (ids_among before fields m.0 m.1))

all_among : (before : Before) (parts : List (List (List ℕ))) (lists : List (List ℕ)) → each (each (declared_node before)) parts ≡ Ok lists → All (Contains before.nodes) (concat lists)
all_among before [] lists e = let m : [] ≡ lists = cc in subst (λ (x : List (List ℕ)). All (Contains before.nodes) (concat x)) m (All-nil (Contains before.nodes))
all_among before (part ∷ parts) lists e =
    let t = from_then (each (declared_node before) part) (λ y. map_ok (λ ys. y ∷ ys) (each (each (declared_node before)) parts)) lists e in
    let m = from_map (λ ys. t.0 ∷ ys) (each (each (declared_node before)) parts) lists t.2 in
    subst (λ (x : List (List ℕ)). All (Contains before.nodes) (concat x)) (sym m.2)
    (All-append (Contains before.nodes) t.0 (concat m.0) (ids_among before part t.0 t.1) (all_among before parts m.0 m.1))

-- ids that pass the test are distinct
not_at : (id : ℕ) (ids : List ℕ) → not (is_one_of id ids) ≡ true → (k d : ℕ) → k < length ids → id ≡ get_or ids k d → ⊥
not_at id ids fresh k d below same =
    let found : Contains ids id = (k, below, get_or_default ids k id d below ∙ sym same) in
    let t : is_one_of id ids ≡ true = contained id ids found in
    let f : not true ≡ true = ap not (sym t) ∙ fresh in
    cc

distinct_at : (id : ℕ) (ids : List ℕ) → not (is_one_of id ids) ≡ true → AreDistinct ids → (i j d : ℕ) → i < j → j < suc (length ids) → get_or (id ∷ ids) i d ≢ get_or (id ∷ ids) j d
distinct_at id ids fresh h i zero d lower within = absurd (omega arith)
distinct_at id ids fresh h zero (suc j) d lower within = λ same. not_at id ids fresh j d (omega arith) same
distinct_at id ids fresh h (suc i) (suc j) d lower within = h.differ i j d (omega arith) (omega arith)

distinct_cons : (id : ℕ) (ids : List ℕ) → not (is_one_of id ids) ≡ true → AreDistinct ids → AreDistinct (id ∷ ids)
distinct_cons id ids fresh h = record { differ = distinct_at id ids fresh h }

pub distinct_by_test : (ids : List ℕ) → are_distinct ids ≡ true → AreDistinct ids
distinct_by_test [] e = record { differ = λ i j d lower within. absurd (omega arith) }
distinct_by_test (id ∷ ids) e =
    let parts = and_parts (not (is_one_of id ids)) (are_distinct ids) e in
    distinct_cons id ids parts.0 (distinct_by_test ids parts.1)

pub groups_kept : (before : Before) (fields : List (List ℕ)) (c : Command) → length before.nodes ≤ 16 → groups before fields ≡ Ok c
    → (lists : List (List ℕ)) × (c ≡ Groups lists) × AreGroups lists × HaveNodes lists before.nodes
groups_kept before [] c few e = cc
groups_kept before (field ∷ fields) c few e =
    let t = from_then (group_ids before (field ∷ fields)) (λ lists. ok_if (are_whole before.nodes lists) (Groups lists) BadGroups) c e in
    let told = if_ok (are_whole before.nodes t.0) (Groups t.0) c BadGroups t.2 in
    let parts = and_parts _ _ told.0 in
    let first = and_parts _ _ parts.0 in
    let count : length (concat t.0) ≡ length before.nodes = eqb-true _ _ first.0 in
    let few_lists : length t.0 ≤ length (concat t.0) = few_groups t.0 parts.1 in (
      t.0,
      sym told.1,
      record {
        some = full_groups before (field ∷ fields) t.0 t.1;
        limit = omega (arith, count, few_lists, few);
        ids_limit = omega (arith, count, few);
        none_empty = some_filled t.0 parts.1;
        distinct = distinct_by_test (concat t.0) first.1;
      },
      record { among = all_among before (slice_split is_bar (field ∷ fields)) t.0 t.1; count = count },
    )

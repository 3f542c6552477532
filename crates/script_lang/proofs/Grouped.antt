-- Groups that were read, and whether they are whole.
use Rattle.std.proofs.Common.{◌≡◌, ℕ, ◌+◌, ◌<◌, ◌≤◌, Bool, true, false, cond, not, ◌&&◌, ◌||◌, nat_lt, suc, List, [], ◌∷◌, ◌++◌, length, get_or, ◌⊎◌, inl, inr, eq-eqb, Ok, Err, refl, sym, ap, ◌∙◌, arith, subst, ◌==◌, append_assoc, length-append}
use Rattle.std.specs.Prelude.{Contains, All}
use Rattle.std.specs.List.{list_all, concat}
use Rattle.std.proofs.lemmas.List.{append-nil, get_or-append-add}
use Rattle.std.proofs.lemmas.List.Elements.{All-nil, All-cons}
use Rattle.std.proofs.lemmas.List.Folds.{concat-append, list_all-append}
use Rattle.std.proofs.lemmas.Bool.{eqb-true, ne_eqb, lt-ltb, ltb-true, and_parts, and_from}
use Rattle.cluster_types.specs.Distinct.{AreDistinct}
use Rattle.cluster_types.specs.Groups.{AreGroups}
use Rattle.script_lang.specs.declared.before.Before.{Before}
use Rattle.script_lang.specs.declared.fault.Cause.{Cause}
use Rattle.script_lang.specs.declared.script.Command.TheVariants.{Groups}
use Rattle.script_lang.specs.declared.fault.Cause.TheVariants.{BadGroups}
use Rattle.script_lang.specs.Outcomes.{and_then, ok_if}
use Rattle.script_lang.specs.Forms.{is_bar, group_ids, groups, are_distinct, are_whole}
use Rattle.script_lang.specs.Reading.{GroupsIds}
use Rattle.script_lang.specs.Values.{declared_node, is_one_of}
use Rattle.script_lang.proofs.Groups.{can_read, joined, Continues, from_map, after_id, at_bar, at_end}

abbrev pub is_some : List ℕ → Bool
is_some ids = nat_lt 0 (length ids)

and_false : (t : Bool) → (t && false) ≡ false
and_false true = refl
and_false false = refl

-- ---- groups of which one is empty

some_empty : (closed groups : List (List ℕ)) → list_all is_some (closed ++ [] ∷ groups) ≡ false
some_empty closed groups = list_all-append is_some closed ([] ∷ groups) ∙ and_false (list_all is_some closed)

pub whole_empty : (nodes : List ℕ) (closed groups : List (List ℕ)) → are_whole nodes (closed ++ [] ∷ groups) ≡ false
whole_empty nodes closed groups =
    ap (λ t. length (concat (closed ++ [] ∷ groups)) == length nodes && are_distinct (concat (closed ++ [] ∷ groups)) && t) (some_empty closed groups)
    ∙ and_false _

-- ---- the ids

-- the ids of all groups begin with those so far
pub ids_of_joined : (closed : List (List ℕ)) (last : List ℕ) (groups : List (List ℕ)) → (more : List ℕ) × (concat (joined closed last groups) ≡ (concat closed ++ last) ++ more)
ids_of_joined closed last [] = ([], concat-append closed (last ∷ []) ∙ sym (append_assoc (concat closed) last []))
ids_of_joined closed last (ids ∷ groups) =
    (ids ++ concat groups, concat-append closed ((last ++ ids) ∷ groups) ∙ simp append_assoc)

or_true : (t : Bool) → (t || true) ≡ true
or_true true = refl
or_true false = refl

same_test : (n : ℕ) → (n == n) ≡ true
same_test n = eq-eqb n n refl

among_middle : (ids : List ℕ) (id : ℕ) (more : List ℕ) → is_one_of id ((ids ++ id ∷ []) ++ more) ≡ true
among_middle [] id more = ap (λ t. t || is_one_of id more) (same_test id)
among_middle (x ∷ ids) id more = ap (λ t. (x == id) || t) (among_middle ids id more) ∙ or_true (x == id)

repeated_by : (x id : ℕ) (ids more : List ℕ) (t : Bool) → (x == id) ≡ t → (t || is_one_of id ids) ≡ true
    → (is_one_of id ids ≡ true → are_distinct ((ids ++ id ∷ []) ++ more) ≡ false)
    → (not (is_one_of x ((ids ++ id ∷ []) ++ more)) && are_distinct ((ids ++ id ∷ []) ++ more)) ≡ false
repeated_by x id ids more true e some rest =
    let same : x ≡ id = eqb-true _ _ e in
    ap (λ y. not (is_one_of y ((ids ++ id ∷ []) ++ more)) && are_distinct ((ids ++ id ∷ []) ++ more)) same
    ∙ ap (λ t. not t && are_distinct ((ids ++ id ∷ []) ++ more)) (among_middle ids id more)
repeated_by x id ids more false e some rest =
    ap (λ t. not (is_one_of x ((ids ++ id ∷ []) ++ more)) && t) (rest some) ∙ and_false (not (is_one_of x ((ids ++ id ∷ []) ++ more)))

pub repeated_id : (ids : List ℕ) (id : ℕ) (more : List ℕ) → is_one_of id ids ≡ true → are_distinct ((ids ++ id ∷ []) ++ more) ≡ false
repeated_id [] id more e = cc
repeated_id (x ∷ ids) id more e = repeated_by x id ids more (x == id) refl e (λ k. repeated_id ids id more k)

-- ---- ids that are distinct

not_among_by : (x y : ℕ) (ids : List ℕ) → (x ≡ y → ⊥) → is_one_of x ids ≡ false → ((y == x) || is_one_of x ids) ≡ false
not_among_by x y ids differ rest = ap (λ t. t || is_one_of x ids) (ne_eqb y x (λ e. differ (sym e))) ∙ rest

not_among : (x : ℕ) (ids : List ℕ) → ((k : ℕ) → k < length ids → x ≡ get_or ids k x → ⊥) → is_one_of x ids ≡ false
not_among x [] fresh = refl
not_among x (y ∷ ids) fresh = not_among_by x y ids (λ e. fresh 0 (omega arith) e) (not_among x ids (λ k below e. fresh (suc k) (omega (arith, below)) e))

first_fresh : (x : ℕ) (ids : List ℕ) → AreDistinct (x ∷ ids) → is_one_of x ids ≡ false
first_fresh x ids h = not_among x ids (λ k below e. h.differ 0 (suc k) x (omega arith) (omega (arith, below)) e)

rest_distinct : (x : ℕ) (ids : List ℕ) → AreDistinct (x ∷ ids) → AreDistinct ids
rest_distinct x ids h = record { differ = λ i j d lower within. h.differ (suc i) (suc j) d (omega (arith, lower)) (omega (arith, within)) }

pub distinct_test : (ids : List ℕ) → AreDistinct ids → are_distinct ids ≡ true
distinct_test [] h = refl
distinct_test (x ∷ ids) h =
    and_from _ _ (ap not (first_fresh x ids h)) (distinct_test ids (rest_distinct x ids h))

-- ---- as the code cites them

bad : (nodes : List ℕ) (all : List (List ℕ)) → are_whole nodes all ≡ false → ok_if (are_whole nodes all) all BadGroups ≡ Err BadGroups
bad nodes all e = ap (λ t. cond t (Ok all) (Err BadGroups)) e

-- a bar behind no id
pub bad_bar : (nodes : List ℕ) (before : Before) (all closed : List (List ℕ)) (last field : List ℕ) (fields : List (List ℕ)) → is_bar field ≡ true → last ≡ []
    → Continues before all closed last (field ∷ fields) → ok_if (are_whole nodes all) all BadGroups ≡ Err BadGroups
bad_bar nodes before all closed last field fields bar none c =
    let m = from_map (λ gs. [] ∷ gs) (group_ids before fields) c.groups (sym (at_bar before field fields bar) ∙ c.read) in
    let is : all ≡ closed ++ [] ∷ m.0 = c.whole ∙ ap (joined closed last) m.2 ∙ ap (λ x. closed ++ (x ++ []) ∷ m.0) none in
    bad nodes all (ap (are_whole nodes) is ∙ whole_empty nodes closed m.0)

-- nothing behind the last bar
pub bad_end : (nodes : List ℕ) (before : Before) (all closed : List (List ℕ)) (last : List ℕ) → last ≡ []
    → Continues before all closed last [] → ok_if (are_whole nodes all) all BadGroups ≡ Err BadGroups
bad_end nodes before all closed last none c =
    bad nodes all (ap (are_whole nodes) (at_end before all closed last c ∙ ap (λ x. closed ++ x ∷ []) none) ∙ whole_empty nodes closed [])

ids_at_end : (closed : List (List ℕ)) (last : List ℕ) → concat (closed ++ last ∷ []) ≡ concat closed ++ last
ids_at_end closed last = concat-append closed (last ∷ []) ∙ ap (λ x. concat closed ++ x) (append-nil last)

-- fewer or more ids than nodes
pub bad_count : (nodes : List ℕ) (before : Before) (all closed : List (List ℕ)) (last seen : List ℕ) → seen ≡ concat closed ++ last → (length seen ≡ length nodes → ⊥)
    → Continues before all closed last [] → ok_if (are_whole nodes all) all BadGroups ≡ Err BadGroups
bad_count nodes before all closed last seen s differ c =
    let ids : concat all ≡ seen = ap concat (at_end before all closed last c) ∙ ids_at_end closed last ∙ sym s in
    let no : (length (concat all) == length nodes) ≡ false = ap (λ x. length x == length nodes) ids ∙ ne_eqb _ _ differ in
    bad nodes all (ap (λ t. t && are_distinct (concat all) && list_all is_some all) no)

-- an id that stood before, or one more than there are nodes
pub bad_id : (nodes : List ℕ) (before : Before) (all closed : List (List ℕ)) (last field seen : List ℕ) (fields : List (List ℕ)) (id : ℕ) → is_bar field ≡ false
    → Ok id ≡ declared_node before field → seen ≡ concat closed ++ last → (is_one_of id seen ≡ true) ⊎ (length nodes ≤ length seen)
    → Continues before all closed last (field ∷ fields) → ok_if (are_whole nodes all) all BadGroups ≡ Err BadGroups
bad_id nodes before all closed last field seen fields id bar read s why c =
    let d = after_id before all closed last field fields id bar read c in
    let more = ids_of_joined closed (last ++ id ∷ []) d.groups in
    let ids : concat all ≡ (seen ++ id ∷ []) ++ more.0 =
    ap concat d.whole ∙ more.1 ∙ ap (λ x. x ++ more.0) (sym (append_assoc (concat closed) last (id ∷ []))) ∙ ap (λ x. (x ++ id ∷ []) ++ more.0) (sym s) in
    elim why [
      | inl stood ↦ bad nodes all (ap (λ t. (length (concat all) == length nodes) && t && list_all is_some all) (ap are_distinct ids ∙ repeated_id seen id more.0 stood)
          ∙ ap (λ t. t && list_all is_some all) (and_false (length (concat all) == length nodes)))
      | inr many ↦
          let size : length (concat all) ≡ length seen + 1 + length more.0 = ap length ids ∙ length-append (seen ++ id ∷ []) more.0 ∙ ap (λ n. n + length more.0) (length-append seen (id ∷ [])) in
          bad nodes all (ap (λ t. t && are_distinct (concat all) && list_all is_some all) (ne_eqb _ _ (λ e. omega (arith, size, many, e))))
    ]

pub bar_seen : (closed : List (List ℕ)) (last seen : List ℕ) → seen ≡ concat closed ++ last → seen ≡ concat (closed ++ last ∷ []) ++ []
bar_seen closed last seen s = s ∙ sym (ids_at_end closed last) ∙ sym (append-nil (concat (closed ++ last ∷ [])))

pub bar_filled : (closed : List (List ℕ)) (last : List ℕ) → list_all is_some closed ≡ true → is_some last ≡ true → list_all is_some (closed ++ last ∷ []) ≡ true
bar_filled closed last all some = list_all-append is_some closed (last ∷ []) ∙ and_from _ _ all (and_from _ _ some refl)

pub good_end : (nodes : List ℕ) (before : Before) (all closed : List (List ℕ)) (last seen : List ℕ) → seen ≡ concat closed ++ last → length seen ≡ length nodes
    → AreDistinct seen → list_all is_some closed ≡ true → is_some last ≡ true → Continues before all closed last [] → ok_if (are_whole nodes all) all BadGroups ≡ Ok (closed ++ last ∷ [])
good_end nodes before all closed last seen s count distinct filled some c =
    let is = at_end before all closed last c in
    let ids : concat (closed ++ last ∷ []) ≡ seen = ids_at_end closed last ∙ sym s in
    let whole : are_whole nodes (closed ++ last ∷ []) ≡ true =
    and_from _ _ (and_from _ _ (eq-eqb _ _ (ap length ids ∙ count)) (ap are_distinct ids ∙ distinct_test seen distinct)) (bar_filled closed last filled some) in
    ap (λ x. ok_if (are_whole nodes x) x BadGroups) is ∙ ap (λ t. cond t (Ok (closed ++ last ∷ [])) (Err BadGroups)) whole

pub few_groups : (groups : List (List ℕ)) → list_all is_some groups ≡ true → length groups ≤ length (concat groups)
few_groups [] all = omega arith
few_groups (ids ∷ groups) all =
    let parts = and_parts (is_some ids) (list_all is_some groups) all in
    let first : 0 < length ids = ltb-true 0 (length ids) parts.0 in
    let rest : length groups ≤ length (concat groups) = few_groups groups parts.1 in
    let size : length (ids ++ concat groups) ≡ length ids + length (concat groups) = length-append ids (concat groups) in
    omega (arith, first, rest, size)

pub some_filled : (groups : List (List ℕ)) → list_all is_some groups ≡ true → All (λ ids. 0 < length ids) groups
some_filled [] all = All-nil (λ (ids : List ℕ). 0 < length ids)
some_filled (ids ∷ groups) all = let parts = and_parts (is_some ids) (list_all is_some groups) all in
    All-cons (λ (x : List ℕ). 0 < length x) ids groups (ltb-true 0 (length ids) parts.0) (some_filled groups parts.1)

pub are_groups : (closed : List (List ℕ)) (last seen : List ℕ) → seen ≡ concat closed ++ last → AreDistinct seen → length seen ≤ 16
    → list_all is_some closed ≡ true → is_some last ≡ true → AreGroups (closed ++ last ∷ [])
are_groups closed last seen s distinct limit filled some =
    let ids : concat (closed ++ last ∷ []) ≡ seen = ids_at_end closed last ∙ sym s in
    let all = bar_filled closed last filled some in
    let few = few_groups (closed ++ last ∷ []) all in
    let size : length (concat (closed ++ last ∷ [])) ≡ length seen = ap length ids in
    record {
      some = omega (arith, length-append closed (last ∷ []));
      limit = omega (arith, few, size, limit);
      ids_limit = omega (arith, size, limit);
      none_empty = some_filled (closed ++ last ∷ []) all;
      distinct = subst AreDistinct (sym ids) distinct;
    }

-- each closed group has an id and so has the one that is closed next, so there is a place for it
pub room_for : (closed : List (List ℕ)) (last seen : List ℕ) → seen ≡ concat closed ++ last → length seen ≤ 16
    → list_all is_some closed ≡ true → is_some last ≡ true → length closed < 16
room_for closed last seen s limit filled some =
    let few : length closed ≤ length (concat closed) = few_groups closed filled in
    let first : 0 < length last = ltb-true 0 (length last) some in
    let size : length seen ≡ length (concat closed) + length last = ap length s ∙ length-append (concat closed) last in
    omega (arith, few, first, size, limit)

-- ids that a test for none refused
pub is_some_by : (ids : List ℕ) (t : Bool) → t ≡ false → (ids ≡ [] → t ≡ true) → is_some ids ≡ true
is_some_by [] t e none = let k = none refl in cc
is_some_by (x ∷ ids) t e none = lt-ltb 0 (suc (length ids)) (omega arith)

pub contains_behind : (before ids : List ℕ) (id : ℕ) → Contains ids id → Contains (before ++ ids) id
contains_behind before ids id (k, below, same) =
    (length before + k, omega (arith, length-append before ids, below), get_or-append-add before ids k id ∙ same)

-- ---- the command

moved : (t : Bool) (lists : List (List ℕ)) (cause : Cause) → ok_if t lists BadGroups ≡ Err cause → ok_if t (Groups lists) BadGroups ≡ Err cause
moved true lists cause e = cc
moved false lists cause e = let same : BadGroups ≡ cause = cc in ap Err same

moved_ok : (t : Bool) (lists gs : List (List ℕ)) → ok_if t lists BadGroups ≡ Ok gs → ok_if t (Groups lists) BadGroups ≡ Ok (Groups gs)
moved_ok true lists gs e = let same : lists ≡ gs = cc in ap (λ x. Ok (Groups x)) same
moved_ok false lists gs e = cc

all_read : (before : Before) (fields : List (List ℕ)) (u : Unit {0}) → Ok u ≡ can_read before fields → (lists : List (List ℕ)) × (group_ids before fields ≡ Ok lists)
all_read before fields u e = let m = from_map (λ _. tt {0}) (group_ids before fields) u (sym e) in (m.0, m.1)

some_fields : (before : Before) (first : List ℕ) (fields all : List (List ℕ)) (lists : List (List ℕ)) → all ≡ first ∷ fields → group_ids before all ≡ Ok lists
    → groups before all ≡ ok_if (are_whole before.nodes lists) (Groups lists) BadGroups
some_fields before first fields all lists e read =
    ap (groups before) e ∙ ap (λ r. and_then r (λ ls. ok_if (are_whole before.nodes ls) (Groups ls) BadGroups)) (ap (group_ids before) (sym e) ∙ read)

pub groups_refused : (before : Before) (first : List ℕ) (fields all : List (List ℕ)) (cause : Cause) (u : Unit {0}) → all ≡ first ∷ fields → Ok u ≡ can_read before all
    → GroupsIds before.nodes (Err cause) (group_ids before all) → groups before all ≡ Err cause
groups_refused before first fields all cause u e ok told =
    let r = all_read before all u ok in
    some_fields before first fields all r.0 e r.1 ∙ moved (are_whole before.nodes r.0) r.0 cause (told r.0 r.1)

pub groups_made : (before : Before) (first : List ℕ) (fields all : List (List ℕ)) (gs : List (List ℕ)) (u : Unit {0}) → all ≡ first ∷ fields → Ok u ≡ can_read before all
    → GroupsIds before.nodes (Ok gs) (group_ids before all) → groups before all ≡ Ok (Groups gs)
groups_made before first fields all gs u e ok told =
    let r = all_read before all u ok in
    some_fields before first fields all r.0 e r.1 ∙ moved_ok (are_whole before.nodes r.0) r.0 gs (told r.0 r.1)

-- The ids behind `groups`.
use Rattle.std.proofs.Common.{◌≡◌, ℕ, ◌<◌, Bool, true, false, cond, List, [], ◌∷◌, ◌++◌, length, Result, Ok, Err, refl, sym, ap, ◌∙◌, arith, subst, append_assoc}
use Rattle.std.proofs.lemmas.List.{append-nil}
use Rattle.std.specs.List.{slice_split, onto_first}
use Rattle.script_lang.specs.declared.before.Before.{Before}
use Rattle.script_lang.specs.declared.fault.Cause.{Cause}
use Rattle.script_lang.specs.Forms.{each, is_bar, group_ids}
use Rattle.script_lang.specs.Outcomes.{and_then, map_ok}
use Rattle.script_lang.specs.Values.{declared_node}

-- an id in front of the first group
abbrev pub onto : ℕ → List (List ℕ) → List (List ℕ)
onto id [] = (id ∷ []) ∷ []
onto id (ids ∷ groups) = (id ∷ ids) ∷ groups

regroup : (r : Result ℕ Cause) (q : Result (List ℕ) Cause) (t : Result (List (List ℕ)) Cause)
    → and_then (and_then r (λ y. map_ok (λ ys. y ∷ ys) q)) (λ g. map_ok (λ gs. g ∷ gs) t)
    ≡ and_then r (λ id. map_ok (onto id) (and_then q (λ g. map_ok (λ gs. g ∷ gs) t)))
regroup (Ok id) (Ok ids) (Ok groups) = refl
regroup (Ok id) (Ok ids) (Err cause) = refl
regroup (Ok id) (Err cause) t = refl
regroup (Err cause) q t = refl

alone : (r : Result ℕ Cause) → and_then (and_then r (λ y. map_ok (λ ys. y ∷ ys) (Ok []))) (λ g. map_ok (λ gs. g ∷ gs) (Ok [])) ≡ and_then r (λ id. map_ok (onto id) (Ok []))
alone (Ok id) = refl
alone (Err cause) = refl

onto_parts : (read : List ℕ → Result ℕ Cause) (field : List ℕ) (parts : List (List (List ℕ)))
    → each (each read) (onto_first field parts) ≡ and_then (read field) (λ id. map_ok (onto id) (each (each read) parts))
onto_parts read field [] = alone (read field)
onto_parts read field (part ∷ parts) = regroup (read field) (each read part) (each (each read) parts)

pub at_bar : (before : Before) (field : List ℕ) (fields : List (List ℕ)) → is_bar field ≡ true
    → group_ids before (field ∷ fields) ≡ map_ok (λ groups. [] ∷ groups) (group_ids before fields)
at_bar before field fields bar =
    ap (λ t. each (each (declared_node before)) (cond t ([] ∷ slice_split is_bar fields) (onto_first field (slice_split is_bar fields)))) bar

pub at_id : (before : Before) (field : List ℕ) (fields : List (List ℕ)) → is_bar field ≡ false
    → group_ids before (field ∷ fields) ≡ and_then (declared_node before field) (λ id. map_ok (onto id) (group_ids before fields))
at_id before field fields bar =
    ap (λ t. each (each (declared_node before)) (cond t ([] ∷ slice_split is_bar fields) (onto_first field (slice_split is_bar fields)))) bar
    ∙ onto_parts (declared_node before) field (slice_split is_bar fields)

-- ---- that all can be read

abbrev pub can_read : Before → List (List ℕ) → Result (Unit {0}) Cause
can_read before fields = map_ok {B = Unit {0}} (λ _. tt {0}) (group_ids before fields)

bare : {A B : Type 0} (f : A → B) (r : Result A Cause) → map_ok {B = Unit {0}} (λ _. tt {0}) (map_ok f r) ≡ map_ok {B = Unit {0}} (λ _. tt {0}) r
bare f (Ok x) = refl
bare f (Err cause) = refl

pub check_bar : (before : Before) (all : Result (Unit {0}) Cause) (field : List ℕ) (fields : List (List ℕ)) → is_bar field ≡ true → can_read before (field ∷ fields) ≡ all → can_read before fields ≡ all
check_bar before all field fields bar e = sym (ap (map_ok {B = Unit {0}} (λ _. tt {0})) (at_bar before field fields bar) ∙ bare _ (group_ids before fields)) ∙ e

pub check_id : (before : Before) (all : Result (Unit {0}) Cause) (field : List ℕ) (fields : List (List ℕ)) (id : ℕ) → is_bar field ≡ false → Ok id ≡ declared_node before field
    → can_read before (field ∷ fields) ≡ all → can_read before fields ≡ all
check_id before all field fields id bar read e =
    sym (ap (map_ok {B = Unit {0}} (λ _. tt {0})) (at_id before field fields bar ∙ ap (λ r. and_then r (λ id. map_ok (onto id) (group_ids before fields))) (sym read)) ∙ bare _ (group_ids before fields)) ∙ e

pub check_bad : (before : Before) (all : Result (Unit {0}) Cause) (field : List ℕ) (fields : List (List ℕ)) (cause : Cause) → is_bar field ≡ false → Err cause ≡ declared_node before field
    → can_read before (field ∷ fields) ≡ all → Err cause ≡ all
check_bad before all field fields cause bar read e =
    sym (ap (map_ok {B = Unit {0}} (λ _. tt {0})) (at_id before field fields bar ∙ ap (λ r. and_then r (λ id. map_ok (onto id) (group_ids before fields))) (sym read))) ∙ e

-- ---- the groups so far

-- the groups that are closed, and the one that is last with what is read of it next
abbrev pub joined : List (List ℕ) → List ℕ → List (List ℕ) → List (List ℕ)
joined closed last [] = closed ++ last ∷ []
joined closed last (ids ∷ groups) = closed ++ (last ++ ids) ∷ groups

-- the fields that are left give groups that, joined to those so far, are all of them
pub record Continues (before : Before) (all : List (List ℕ)) (closed : List (List ℕ)) (last : List ℕ) (fields : List (List ℕ)) : Type 0 where
  pub groups : List (List ℕ)
  pub read : group_ids before fields ≡ Ok groups
  pub whole : all ≡ joined closed last groups

pub ok_inside : {A : Type 0} (x y : A) (r : Result A Cause) → r ≡ Ok x → r ≡ Ok y → x ≡ y
ok_inside x y r p q = cc

pub from_map : {A B : Type 0} (f : A → B) (r : Result A Cause) (y : B) → map_ok f r ≡ Ok y → (x : A) × (r ≡ Ok x) × (y ≡ f x)
from_map f (Ok x) y e = (x, refl, sym (ok_inside (f x) y (Ok (f x)) refl e))
from_map f (Err cause) y e = cc

pub from_then : {A B : Type 0} (r : Result A Cause) (next : A → Result B Cause) (y : B) → and_then r next ≡ Ok y → (x : A) × (r ≡ Ok x) × (next x ≡ Ok y)
from_then (Ok x) next y e = (x, refl, e)
from_then (Err cause) next y e = cc

-- groups that were read are at least one
abbrev IsFull : List (List ℕ) → Type 0
IsFull [] = ⊥
IsFull (ids ∷ groups) = Unit {0}

full_onto : (id : ℕ) (groups : List (List ℕ)) → IsFull (onto id groups)
full_onto id [] = tt
full_onto id (ids ∷ groups) = tt

full_by : (before : Before) (field : List ℕ) (fields groups : List (List ℕ)) (t : Bool) → is_bar field ≡ t → group_ids before (field ∷ fields) ≡ Ok groups → IsFull groups
full_by before field fields groups true bar e =
    let m = from_map (λ gs. [] ∷ gs) (group_ids before fields) groups (sym (at_bar before field fields bar) ∙ e) in
    subst IsFull (sym m.2) tt
full_by before field fields groups false bar e =
    let t = from_then (declared_node before field) (λ id. map_ok (onto id) (group_ids before fields)) groups (sym (at_id before field fields bar) ∙ e) in
    let m = from_map (onto t.0) (group_ids before fields) groups t.2 in
    subst IsFull (sym m.2) (full_onto t.0 m.0)

full : (before : Before) (fields groups : List (List ℕ)) → group_ids before fields ≡ Ok groups → IsFull groups
full before [] groups e = subst IsFull (ok_inside ([] ∷ []) groups (group_ids before []) refl e) tt
full before (field ∷ fields) groups e = full_by before field fields groups (is_bar field) refl e

start_by : (all : List (List ℕ)) → IsFull all → all ≡ joined [] [] all
start_by [] f = absurd f
start_by (ids ∷ groups) f = refl

pub at_start : (before : Before) (fields all : List (List ℕ)) → group_ids before fields ≡ Ok all → Continues before all [] [] fields
at_start before fields all e = record { groups = all; read = e; whole = start_by all (full before fields all e) }

bar_join : (closed : List (List ℕ)) (last : List ℕ) (groups : List (List ℕ)) → IsFull groups → joined closed last ([] ∷ groups) ≡ joined (closed ++ last ∷ []) [] groups
bar_join closed last [] f = absurd f
bar_join closed last (ids ∷ groups) f =
    ap (λ x. closed ++ x ∷ (ids ∷ groups)) (append-nil last) ∙ sym (append_assoc closed (last ∷ []) (ids ∷ groups))

pub after_bar : (before : Before) (all closed : List (List ℕ)) (last field : List ℕ) (fields : List (List ℕ)) → is_bar field ≡ true
    → Continues before all closed last (field ∷ fields) → Continues before all (closed ++ last ∷ []) [] fields
after_bar before all closed last field fields bar c =
    let m = from_map (λ gs. [] ∷ gs) (group_ids before fields) c.groups (sym (at_bar before field fields bar) ∙ c.read) in
    record { groups = m.0; read = m.1; whole = c.whole ∙ ap (joined closed last) m.2 ∙ bar_join closed last m.0 (full before fields m.0 m.1) }

id_join : (closed : List (List ℕ)) (last : List ℕ) (id : ℕ) (groups : List (List ℕ)) → joined closed last (onto id groups) ≡ joined closed (last ++ id ∷ []) groups
id_join closed last id [] = refl
id_join closed last id (ids ∷ groups) = ap (λ x. closed ++ x ∷ groups) (sym (append_assoc last (id ∷ []) ids))

pub after_id : (before : Before) (all closed : List (List ℕ)) (last field : List ℕ) (fields : List (List ℕ)) (id : ℕ) → is_bar field ≡ false → Ok id ≡ declared_node before field
    → Continues before all closed last (field ∷ fields) → Continues before all closed (last ++ id ∷ []) fields
after_id before all closed last field fields id bar read c =
    let t = from_then (declared_node before field) (λ id. map_ok (onto id) (group_ids before fields)) c.groups (sym (at_id before field fields bar) ∙ c.read) in
    let same : t.0 ≡ id = ok_inside t.0 id (declared_node before field) t.1 (sym read) in
    let m = from_map (onto t.0) (group_ids before fields) c.groups t.2 in
    record { groups = m.0; read = m.1; whole = c.whole ∙ ap (joined closed last) (m.2 ∙ ap (λ x. onto x m.0) same) ∙ id_join closed last id m.0 }

clash : {A : Type 0} (x : A) (cause : Cause) (r : Result A Cause) → r ≡ Ok x → r ≡ Err cause → ⊥
clash x cause r p q = cc

-- a field that isn't read stops all
pub not_read : (before : Before) (all closed : List (List ℕ)) (last field : List ℕ) (fields : List (List ℕ)) (cause : Cause) → is_bar field ≡ false → Err cause ≡ declared_node before field
    → Continues before all closed last (field ∷ fields) → ⊥
not_read before all closed last field fields cause bar read c =
    let t = from_then (declared_node before field) (λ id. map_ok (onto id) (group_ids before fields)) c.groups (sym (at_id before field fields bar) ∙ c.read) in
    clash t.0 cause (declared_node before field) t.1 (sym read)

pub at_end : (before : Before) (all closed : List (List ℕ)) (last : List ℕ) → Continues before all closed last [] → all ≡ closed ++ last ∷ []
at_end before all closed last c =
    let is : c.groups ≡ [] ∷ [] = ok_inside c.groups ([] ∷ []) (group_ids before []) c.read refl in
    c.whole ∙ ap (joined closed last) is ∙ ap (λ x. closed ++ x ∷ []) (append-nil last)

some_by : (groups : List (List ℕ)) → IsFull groups → 0 < length groups
some_by [] f = absurd f
some_by (ids ∷ groups) f = omega arith

pub full_groups : (before : Before) (fields groups : List (List ℕ)) → group_ids before fields ≡ Ok groups → 0 < length groups
full_groups before fields groups e = some_by groups (full before fields groups e)

-- Loops that read one field after another.
use Rattle.std.proofs.Common.{◌≡◌, ℕ, ◌+◌, ◌≤◌, Bool, true, false, cond, ◌<◌, List, [], ◌∷◌, ◌++◌, length, ◌==◌, take, get_or, Option, Some, None, refl, sym, ap, ◌∙◌, arith, append_assoc}
use Rattle.std.specs.List.{slice_split, onto_first, concat}
use Rattle.std.specs.Option.{option_map, option_and_then}
use Rattle.std.proofs.lemmas.Bool.{false≢true}
use Rattle.std.proofs.lemmas.List.{append-nil, take_more}
use Rattle.std.proofs.lemmas.List.Folds.{concat-append}
use Rattle.journal_reader.specs.Fields.{at_end, all_of, parsed_node, is_bar, parsed_group, each_group_of, are_distinct_ids, if_allowed}
use Rattle.journal_reader.proofs.GroupFields.{AreParts, split_parts}

-- what was read before, in front of what is read
abbrev pub onto : {A : Type 0} → List A → Option (List A) → Option (List A)
onto done o = option_map (λ xs. done ++ xs) o

pub onto_none : {A : Type 0} (o : Option (List A)) → onto [] o ≡ o
onto_none None = refl
onto_none (Some xs) = refl

onto_more : {A : Type 0} (done : List A) (x : A) (o : Option (List A)) → onto done (option_map (λ xs. x ∷ xs) o) ≡ onto (done ++ x ∷ []) o
onto_more done x None = refl
onto_more done x (Some xs) = ap Some (sym (append_assoc done (x ∷ []) xs))

pub each_good : {A : Type 0} (read : List ℕ → Option A) (done : List A) (x : A) (field : List ℕ) (old new : List (List ℕ)) (all : Option (List A))
    → old ≡ field ∷ new → Some x ≡ read field → onto done (all_of read old) ≡ all → onto (done ++ x ∷ []) (all_of read new) ≡ all
unfolding all_of
each_good read done x field old new all e is so_far =
    sym (onto_more done x (all_of read new))
    ∙ ap (λ o. onto done (option_and_then (λ y. option_map (λ ys. y ∷ ys) (all_of read new)) o)) is
    ∙ ap (λ fs. onto done (all_of read fs)) (sym e) ∙ so_far

pub each_bad : {A : Type 0} (read : List ℕ → Option A) (done : List A) (field : List ℕ) (old new : List (List ℕ)) (all : Option (List A))
    → old ≡ field ∷ new → None ≡ read field → onto done (all_of read old) ≡ all → None ≡ all
unfolding all_of
each_bad read done field old new all e is so_far =
    ap (λ o. onto done (option_and_then (λ y. option_map (λ ys. y ∷ ys) (all_of read new)) o)) is
    ∙ ap (λ fs. onto done (all_of read fs)) (sym e) ∙ so_far

pub each_end : {A : Type 0} (read : List ℕ → Option A) (done : List A) (old : List (List ℕ)) (all : Option (List A))
    → old ≡ [] → onto done (all_of read old) ≡ all → Some done ≡ all
unfolding all_of
each_end read done old all e so_far = ap Some (sym (append-nil done)) ∙ ap (λ fs. onto done (all_of read fs)) (sym e) ∙ so_far

pub shorter : (old new : List (List ℕ)) (field : List ℕ) → old ≡ field ∷ new → length new + 1 ≤ length old
shorter old new field e = let same = ap length e in omega (arith, same)

-- ---- groups

-- the group that begins with these ids and goes on with the fields of the part
abbrev open_group : List ℕ → List (List ℕ) → Option (List ℕ)
open_group ids part = option_and_then (if_allowed are_distinct_ids) (onto ids (all_of parsed_node part))

-- whole groups, and a group of which these ids are read, before the parts that are left
abbrev pub groups_left : List (List ℕ) → List ℕ → List (List (List ℕ)) → Option (List (List ℕ))
groups_left done ids [] = None
groups_left done ids (part ∷ parts) = onto done (option_and_then (λ g. option_map (λ gs. g ∷ gs) (each_group_of parts)) (open_group ids part))

none_open : (part : List (List ℕ)) → open_group [] part ≡ parsed_group part
unfolding parsed_group
none_open part = ap (option_and_then (if_allowed are_distinct_ids)) (onto_none (all_of parsed_node part))

groups_at : (done : List (List ℕ)) (parts : List (List (List ℕ))) → AreParts parts → groups_left done [] parts ≡ onto done (each_group_of parts)
unfolding each_group_of
groups_at done [] full = absurd full
groups_at done (part ∷ parts) full = ap (λ o. onto done (option_and_then (λ g. option_map (λ gs. g ∷ gs) (each_group_of parts)) o)) (none_open part)

pub groups_init : (fields : List (List ℕ)) → groups_left [] [] (slice_split is_bar fields) ≡ each_group_of (slice_split is_bar fields)
groups_init fields = groups_at [] (slice_split is_bar fields) (split_parts fields) ∙ onto_none (each_group_of (slice_split is_bar fields))

closed : (ids : List ℕ) → open_group ids [] ≡ if_allowed are_distinct_ids ids
unfolding all_of
closed ids = ap (if_allowed are_distinct_ids) (append-nil ids)

split_bar : (field : List ℕ) (fields : List (List ℕ)) → is_bar field ≡ true → slice_split is_bar (field ∷ fields) ≡ [] ∷ slice_split is_bar fields
split_bar field fields is = ap (λ t. cond t ([] ∷ slice_split is_bar fields) (onto_first field (slice_split is_bar fields))) is

split_id : (field : List ℕ) (fields : List (List ℕ)) → is_bar field ≡ false → slice_split is_bar (field ∷ fields) ≡ onto_first field (slice_split is_bar fields)
split_id field fields is = ap (λ t. cond t ([] ∷ slice_split is_bar fields) (onto_first field (slice_split is_bar fields))) is

-- a group that ends
close_with : (done : List (List ℕ)) (ids : List ℕ) (parts : List (List (List ℕ))) (t : Bool) → are_distinct_ids ids ≡ t
    → groups_left done ids ([] ∷ parts) ≡ cond t (onto (done ++ ids ∷ []) (each_group_of parts)) None
close_with done ids parts true is =
    ap (λ o. onto done (option_and_then (λ g. option_map (λ gs. g ∷ gs) (each_group_of parts)) o)) (closed ids ∙ ap (λ t. cond t (Some ids) None) is)
    ∙ onto_more done ids (each_group_of parts)
close_with done ids parts false is =
    ap (λ o. onto done (option_and_then (λ g. option_map (λ gs. g ∷ gs) (each_group_of parts)) o)) (closed ids ∙ ap (λ t. cond t (Some ids) None) is)

pub group_ends : (done : List (List ℕ)) (ids : List ℕ) (field : List ℕ) (old new : List (List ℕ)) (all : Option (List (List ℕ)))
    → old ≡ field ∷ new → is_bar field ≡ true → are_distinct_ids ids ≡ true → groups_left done ids (slice_split is_bar old) ≡ all
    → groups_left (done ++ ids ∷ []) [] (slice_split is_bar new) ≡ all
group_ends done ids field old new all e bar distinct so_far =
    groups_at (done ++ ids ∷ []) (slice_split is_bar new) (split_parts new)
    ∙ sym (close_with done ids (slice_split is_bar new) true distinct)
    ∙ ap (groups_left done ids) (sym (ap (slice_split is_bar) e ∙ split_bar field new bar)) ∙ so_far

pub group_ends_badly : (done : List (List ℕ)) (ids : List ℕ) (field : List ℕ) (old new : List (List ℕ)) (all : Option (List (List ℕ)))
    → old ≡ field ∷ new → is_bar field ≡ true → are_distinct_ids ids ≡ false → groups_left done ids (slice_split is_bar old) ≡ all → None ≡ all
group_ends_badly done ids field old new all e bar distinct so_far =
    sym (close_with done ids (slice_split is_bar new) false distinct)
    ∙ ap (groups_left done ids) (sym (ap (slice_split is_bar) e ∙ split_bar field new bar)) ∙ so_far

open_more : (done : List (List ℕ)) (ids : List ℕ) (n : ℕ) (field : List ℕ) (parts : List (List (List ℕ))) → AreParts parts → Some n ≡ parsed_node field
    → groups_left (done) (ids ++ n ∷ []) parts ≡ groups_left done ids (onto_first field parts)
unfolding all_of
open_more done ids n field [] full is = absurd full
open_more done ids n field (part ∷ parts) full is =
    ap (λ o. onto done (option_and_then (λ g. option_map (λ gs. g ∷ gs) (each_group_of parts)) (option_and_then (if_allowed are_distinct_ids) o)))
    (sym (onto_more ids n (all_of parsed_node part)) ∙ ap (λ o. onto ids (option_and_then (λ y. option_map (λ ys. y ∷ ys) (all_of parsed_node part)) o)) is)

open_none : (done : List (List ℕ)) (ids : List ℕ) (field : List ℕ) (parts : List (List (List ℕ))) → AreParts parts → None ≡ parsed_node field
    → None ≡ groups_left done ids (onto_first field parts)
unfolding all_of
open_none done ids field [] full is = absurd full
open_none done ids field (part ∷ parts) full is =
    ap (λ o. onto done (option_and_then (λ g. option_map (λ gs. g ∷ gs) (each_group_of parts)) (option_and_then (if_allowed are_distinct_ids) (onto ids (option_and_then (λ y. option_map (λ ys. y ∷ ys) (all_of parsed_node part)) o))))) is

pub id_good : (done : List (List ℕ)) (ids : List ℕ) (n : ℕ) (field : List ℕ) (old new : List (List ℕ)) (all : Option (List (List ℕ)))
    → old ≡ field ∷ new → is_bar field ≡ false → Some n ≡ parsed_node field → groups_left done ids (slice_split is_bar old) ≡ all
    → groups_left done (ids ++ n ∷ []) (slice_split is_bar new) ≡ all
id_good done ids n field old new all e bar is so_far =
    open_more done ids n field (slice_split is_bar new) (split_parts new) is
    ∙ ap (groups_left done ids) (sym (ap (slice_split is_bar) e ∙ split_id field new bar)) ∙ so_far

pub id_bad : (done : List (List ℕ)) (ids : List ℕ) (field : List ℕ) (old new : List (List ℕ)) (all : Option (List (List ℕ)))
    → old ≡ field ∷ new → is_bar field ≡ false → None ≡ parsed_node field → groups_left done ids (slice_split is_bar old) ≡ all → None ≡ all
id_bad done ids field old new all e bar is so_far =
    open_none done ids field (slice_split is_bar new) (split_parts new) is
    ∙ ap (groups_left done ids) (sym (ap (slice_split is_bar) e ∙ split_id field new bar)) ∙ so_far

pub last_good : (done : List (List ℕ)) (ids : List ℕ) (old : List (List ℕ)) (all : Option (List (List ℕ)))
    → old ≡ [] → are_distinct_ids ids ≡ true → groups_left done ids (slice_split is_bar old) ≡ all → Some (done ++ ids ∷ []) ≡ all
unfolding each_group_of
last_good done ids old all e distinct so_far =
    ap Some (sym (append-nil (done ++ ids ∷ []))) ∙ sym (close_with done ids [] true distinct) ∙ ap (λ fs. groups_left done ids (slice_split is_bar fs)) (sym e) ∙ so_far

pub last_bad : (done : List (List ℕ)) (ids : List ℕ) (old : List (List ℕ)) (all : Option (List (List ℕ)))
    → old ≡ [] → are_distinct_ids ids ≡ false → groups_left done ids (slice_split is_bar old) ≡ all → None ≡ all
last_bad done ids old all e distinct so_far =
    sym (close_with done ids [] false distinct) ∙ ap (λ fs. groups_left done ids (slice_split is_bar fs)) (sym e) ∙ so_far

-- ---- ids of all groups

pub concat_more : (groups : List (List ℕ)) (i : ℕ) (group : List ℕ) → i < length groups → group ≡ get_or groups i group
    → concat (take (i + 1) groups) ≡ concat (take i groups) ++ group
concat_more groups i group within is =
    ap concat (take_more groups i group within)
    ∙ concat-append (take i groups) (get_or groups i group ∷ [])
    ∙ ap (λ t. concat (take i groups) ++ t) (append-nil (get_or groups i group) ∙ sym is)

pub not_ended : {A : Type 0} (x : A) (fields : List (List ℕ)) → false ≡ (length fields == 0) → None ≡ at_end x fields
unfolding at_end
not_ended x [] e = absurd (false≢true e)
not_ended x (field ∷ fields) e = refl

-- Generated scripts, step by step.
use Rattle.std.proofs.Common.{◌≡◌, ℕ, zero, suc, ◌+◌, ◌-◌, ◌*◌, ◌/◌, ◌%◌, ◌<◌, ◌≤◌, ◌^◌, ◌==◌, cond, Bool, true, false, nat_lt, List, ◌++◌, length, sym, ap, ◌∙◌, arith, append_assoc, length-append}
use Rattle.std.specs.Prelude.{codes}
use Rattle.std.specs.Fmt.{decimal}
use Rattle.std.proofs.lemmas.Fmt.{length-decimal-le}
use Rattle.std.proofs.lemmas.List.{append-nil}
use Rattle.cluster_top.specs.Generating.{delete_lines, drawn_of, generated, get_lines, drawn_key, text_line, next_state, drawn_node, opening_lines, parted, put_lines, restart_lines, split_lines, split_rest, step_lines, steps_from}

-- one step more is done
pub step_taken : (done new all : List ℕ) (j s after r : ℕ) → j < 400 → done ++ steps_from (400 - j) j s ≡ all → after ≡ next_state s → r ≡ drawn_of after → new ≡ done ++ step_lines j r
    → new ++ steps_from (400 - (j + 1)) (j + 1) after ≡ all
unfolding steps_from
step_taken done new all j s after r below left drawn value made =
    let more : 400 - j ≡ suc (400 - (j + 1)) = omega (arith, below) in
    ap (λ xs. xs ++ steps_from (400 - (j + 1)) (j + 1) after) made
    ∙ append_assoc done (step_lines j r) (steps_from (400 - (j + 1)) (j + 1) after)
    ∙ ap (λ x. done ++ (step_lines j x ++ steps_from (400 - (j + 1)) (j + 1) after)) value
    ∙ ap (λ t. done ++ (step_lines j (drawn_of t) ++ steps_from (400 - (j + 1)) (j + 1) t)) drawn
    ∙ ap (λ n. done ++ steps_from n j s) (sym more)
    ∙ left

-- all steps are done, and the last line
pub all_written : (done script : List ℕ) (j s n : ℕ) → 400 ≤ j → done ++ steps_from (400 - j) j s ≡ opening_lines ++ steps_from 400 0 n → script ≡ done ++ text_line (codes "calm") → script ≡ generated n
unfolding steps_from
all_written done script j s n past left last =
    let none : 400 - j ≡ 0 = omega (arith, past) in
    let all : done ≡ opening_lines ++ steps_from 400 0 n = sym (append-nil done) ∙ ap (λ k. done ++ steps_from k j s) (sym none) ∙ left in
    last ∙ ap (λ xs. xs ++ text_line (codes "calm")) all ∙ append_assoc opening_lines (steps_from 400 0 n) (text_line (codes "calm"))

-- ---- their length

decimal_short : (n : ℕ) → n < 2 ^ 64 → length (decimal n) ≤ 20
decimal_short n fits = let wide : n < 10 ^ 20 = omega (arith, fits) in length-decimal-le 20 n (omega arith) wide fits

node_short : (r : ℕ) → length (decimal (drawn_node r)) ≤ 20
node_short r = decimal_short (drawn_node r) (omega arith)

key_short : (r : ℕ) → length (drawn_key r) ≤ 23
key_short r = let k : length (decimal ((r / 2 ^ 8) % 200)) ≤ 20 = decimal_short ((r / 2 ^ 8) % 200) (omega arith) in omega (arith, k)

put_short : (j r : ℕ) → j < 2 ^ 64 → length (put_lines j r) ≤ 400
put_short j r fits =
    let n = node_short r in
    let k = key_short r in
    let t : length (decimal ((r / 2 ^ 40) % 1000)) ≤ 20 = decimal_short ((r / 2 ^ 40) % 1000) (omega arith) in
    let v = decimal_short j fits in
    simp length-append (omega (arith, n, k, t, v))

delete_short : (r : ℕ) → length (delete_lines r) ≤ 400
delete_short r = let k = key_short r in simp length-append (omega (arith, k))

get_short : (r : ℕ) → length (get_lines r) ≤ 400
get_short r = let k = key_short r in simp length-append (omega (arith, k))

restart_short : (r : ℕ) → length (restart_lines r) ≤ 400
restart_short r = let n = node_short r in simp length-append (omega (arith, n))

parted_by : (a b c : Bool) → length (cond a (text_line (codes "groups 1 | 2 3 4 5")) (cond b (text_line (codes "groups 1 2 | 3 4 5")) (cond c (text_line (codes "groups 1 2 3 | 4 5")) (text_line (codes "groups 1 2 3 4 | 5"))))) ≤ 30
parted_by true b c = omega arith
parted_by false true c = omega arith
parted_by false false true = omega arith
parted_by false false false = omega arith

parted_short : (last : ℕ) → length (parted last) ≤ 30
parted_short last = parted_by (last == 1) (last == 2) (last == 3)

rest_short : length split_rest ≤ 370
unfolding split_rest
rest_short = omega arith

split_short : (r : ℕ) → length (split_lines r) ≤ 400
split_short r =
    let p = parted_short (1 + (r / 2 ^ 16) % 4) in
    omega (arith, p, rest_short, length-append (parted (1 + (r / 2 ^ 16) % 4)) split_rest)

either : (a : Bool) (x y : List ℕ) → length x ≤ 400 → length y ≤ 400 → length (cond a x y) ≤ 400
either true x y p q = p
either false x y p q = q

step_short : (j r : ℕ) → j < 2 ^ 64 → length (step_lines j r) ≤ 400
step_short j r fits =
    either (nat_lt (r % 16) 8) _ _ (put_short j r fits)
    (either (nat_lt (r % 16) 10) _ _ (delete_short r)
    (either (nat_lt (r % 16) 13) _ _ (get_short r)
    (either (r % 16 == 13) _ _ (omega arith)
    (either (r % 16 == 14) _ _ (restart_short r) (split_short r)))))

steps_short : (n j s : ℕ) → n + j < 2 ^ 64 → length (steps_from n j s) ≤ n * 400
unfolding steps_from
steps_short zero j s fits = omega arith
steps_short (suc n) j s fits =
    let first = step_short j (drawn_of (next_state s)) (omega (arith, fits)) in
    let others = steps_short n (j + 1) (next_state s) (omega (arith, fits)) in
    let size = length-append (step_lines j (drawn_of (next_state s))) (steps_from n (j + 1) (next_state s)) in
    omega (arith, first, others, size)

pub generated_short : (n : ℕ) → length (generated n) < 2 ^ 60
generated_short n =
    let steps = steps_short 400 0 n (omega arith) in
    let size = length-append (steps_from 400 0 n) (text_line (codes "calm")) in
    omega (arith, steps, size, length-append opening_lines (steps_from 400 0 n ++ text_line (codes "calm")))

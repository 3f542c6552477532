-- The numbers of ranks rise as the ranks do.
use Rattle.std.proofs.Common.{◌≡◌, ℕ, ◌+◌, ◌*◌, ◌^◌, ◌<◌, nat_lt, Bool, true, false, cond, List, [], ◌∷◌, map, refl, sym, ap, subst, ◌∙◌, arith}
use Rattle.std.specs.Prelude.{All}
use Rattle.std.specs.Cmp.{nat_cmp_is}
use Rattle.std.specs.Int.{from_bool}
use Rattle.std.specs.declared.cmp.Ordering.{Ordering}
use Rattle.std.specs.declared.cmp.Ordering.TheVariants.{Less, Equal, Greater}
use Rattle.std.specs.Ordering.{bool_cmp, is_lt, nat_cmp, ordering_then}
use Rattle.std.proofs.lemmas.List.Elements.{All-cons, All-head, All-nil, All-tail}
use Rattle.std.proofs.lemmas.Nat.{mod-mul-add}
use Rattle.partition_lists.specs.Candidates.{rank_in}
use Rattle.partition_lists.specs.Lists.{in_order, put_in_order}
use Rattle.partition_lists.specs.RankKeys.{CandidateFits, RankFits, id_in, key_of}
use Rattle.partition_lists.specs.Ranks.{is_smaller}
use Rattle.partition_lists.specs.declared.ranks.Candidate.{Candidate}
use Rattle.partition_lists.specs.declared.ranks.Rank.{Rank}
use Rattle.partition_lists.proofs.InOrderLaws.{Each, each_in_order}
use Rattle.partition_lists.proofs.NumberLaws.{Stand, below_is, lt_false, lt_true, stand}

pub marks_small : (q r : Bool) → from_bool q * 2 + from_bool r < 4
marks_small false false = omega arith
marks_small false true = omega arith
marks_small true false = omega arith
marks_small true true = omega arith

-- numbers that are added to the same one stand as they did
cmp_after : (n x y : ℕ) → nat_cmp (n + x) (n + y) ≡ nat_cmp x y
cmp_after n x y = at (stand x y)
  where
    at : Stand x y → nat_cmp (n + x) (n + y) ≡ nat_cmp x y
    at (Stand.Below h) = sym (nat_cmp_is (n + x) (n + y) Less (omega (arith, h))) ∙ nat_cmp_is x y Less h
    at (Stand.Same h) = sym (nat_cmp_is (n + x) (n + y) Equal (omega (arith, h))) ∙ nat_cmp_is x y Equal h
    at (Stand.Above h) = sym (nat_cmp_is (n + x) (n + y) Greater (omega (arith, h))) ∙ nat_cmp_is x y Greater h

cmp_below : (m n p q : ℕ) → m < n → p < 2 ^ 32 → nat_cmp (m * 2 ^ 32 + p) (n * 2 ^ 32 + q) ≡ Less
cmp_below m n p q h fits = sym (nat_cmp_is (m * 2 ^ 32 + p) (n * 2 ^ 32 + q) Less (omega (arith, h, fits)))

cmp_above : (m n p q : ℕ) → n < m → q < 2 ^ 32 → nat_cmp (m * 2 ^ 32 + p) (n * 2 ^ 32 + q) ≡ Greater
cmp_above m n p q h fits = sym (nat_cmp_is (m * 2 ^ 32 + p) (n * 2 ^ 32 + q) Greater (omega (arith, h, fits)))

-- marks and a place in one number
marked_cmp : (q r s t : Bool) (x y : ℕ) → x < 2 ^ 32 → y < 2 ^ 32
    → nat_cmp ((from_bool q * 2 + from_bool r) * 2 ^ 32 + x) ((from_bool s * 2 + from_bool t) * 2 ^ 32 + y)
    ≡ ordering_then (bool_cmp q s) (ordering_then (bool_cmp r t) (nat_cmp x y))
marked_cmp false false false false x y h k = cmp_after (0 * 2 ^ 32) x y
marked_cmp false true false true x y h k = cmp_after (1 * 2 ^ 32) x y
marked_cmp true false true false x y h k = cmp_after (2 * 2 ^ 32) x y
marked_cmp true true true true x y h k = cmp_after (3 * 2 ^ 32) x y
marked_cmp false false false true x y h k = cmp_below 0 1 x y (omega arith) h
marked_cmp false false true false x y h k = cmp_below 0 2 x y (omega arith) h
marked_cmp false false true true x y h k = cmp_below 0 3 x y (omega arith) h
marked_cmp false true true false x y h k = cmp_below 1 2 x y (omega arith) h
marked_cmp false true true true x y h k = cmp_below 1 3 x y (omega arith) h
marked_cmp true false true true x y h k = cmp_below 2 3 x y (omega arith) h
marked_cmp false true false false x y h k = cmp_above 1 0 x y (omega arith) k
marked_cmp true false false false x y h k = cmp_above 2 0 x y (omega arith) k
marked_cmp true true false false x y h k = cmp_above 3 0 x y (omega arith) k
marked_cmp true false false true x y h k = cmp_above 2 1 x y (omega arith) k
marked_cmp true true false true x y h k = cmp_above 3 1 x y (omega arith) k
marked_cmp true true true false x y h k = cmp_above 3 2 x y (omega arith) k

-- a number and an id below it in one number
id_last : (m n i j : ℕ) → i < 2 ^ 16 → j < 2 ^ 16 → nat_lt (m * 2 ^ 16 + i) (n * 2 ^ 16 + j) ≡ is_lt (ordering_then (nat_cmp m n) (nat_cmp i j))
id_last m n i j h k = at (stand m n)
  where
    at : Stand m n → nat_lt (m * 2 ^ 16 + i) (n * 2 ^ 16 + j) ≡ is_lt (ordering_then (nat_cmp m n) (nat_cmp i j))
    at (Stand.Below lower) =
        lt_true (m * 2 ^ 16 + i) (n * 2 ^ 16 + j) (omega (arith, lower, h, k))
        ∙ ap (λ o. is_lt (ordering_then o (nat_cmp i j))) (nat_cmp_is m n Less lower)
    at (Stand.Same same) =
        ap (λ x. nat_lt (m * 2 ^ 16 + i) (x * 2 ^ 16 + j)) (sym same)
        ∙ sym (below_is (m * 2 ^ 16 + i) (m * 2 ^ 16 + j))
        ∙ ap is_lt (cmp_after (m * 2 ^ 16) i j)
        ∙ ap (λ o. is_lt (ordering_then o (nat_cmp i j))) (nat_cmp_is m n Equal same)
    at (Stand.Above higher) =
        lt_false (m * 2 ^ 16 + i) (n * 2 ^ 16 + j) (omega (arith, higher, h, k))
        ∙ ap (λ o. is_lt (ordering_then o (nat_cmp i j))) (nat_cmp_is m n Greater higher)

regroup : (a b c d : Ordering) → ordering_then (ordering_then a (ordering_then b c)) d ≡ ordering_then a (ordering_then b (ordering_then c d))
regroup Less b c d = refl
regroup Greater b c d = refl
regroup Equal Less c d = refl
regroup Equal Greater c d = refl
regroup Equal Equal c d = refl

-- one rank is below another where its number is
keys_rise : (a b : Rank) → RankFits a → RankFits b → nat_lt (key_of a) (key_of b) ≡ is_smaller a b
keys_rise a b h k =
    id_last ((from_bool a.quiesced * 2 + from_bool a.repeats_rack) * 2 ^ 32 + a.place) ((from_bool b.quiesced * 2 + from_bool b.repeats_rack) * 2 ^ 32 + b.place) a.id b.id h.2 k.2
    ∙ ap (λ o. is_lt (ordering_then o (nat_cmp a.id b.id))) (marked_cmp a.quiesced a.repeats_rack b.quiesced b.repeats_rack a.place b.place h.0 k.0)
    ∙ ap is_lt (regroup (bool_cmp a.quiesced b.quiesced) (bool_cmp a.repeats_rack b.repeats_rack) (nat_cmp a.place b.place) (nat_cmp a.id b.id))

put_key : (x : Rank) (ys : List Rank) → RankFits x → Each RankFits ys → put_in_order nat_lt (key_of x) (map key_of ys) ≡ map key_of (put_in_order is_smaller x ys)
put_key x [] h k = refl
put_key x (y ∷ ys) h k =
    ap (λ b. cond b (key_of y ∷ put_in_order nat_lt (key_of x) (map key_of ys)) (key_of x ∷ key_of y ∷ map key_of ys)) (keys_rise y x k.0 h)
    ∙ go (is_smaller y x) (put_key x ys h k.1)
  where
    go : (b : Bool)
        → put_in_order nat_lt (key_of x) (map key_of ys) ≡ map key_of (put_in_order is_smaller x ys)
        → cond b (key_of y ∷ put_in_order nat_lt (key_of x) (map key_of ys)) (key_of x ∷ key_of y ∷ map key_of ys) ≡ map key_of (cond b (y ∷ put_in_order is_smaller x ys) (x ∷ y ∷ ys))
    go true rest = ap (λ keys. key_of y ∷ keys) rest
    go false rest = refl

-- the numbers in rising order are those of the ranks in rising order
pub keys_in_order : (ranks : List Rank) → Each RankFits ranks → in_order nat_lt (map key_of ranks) ≡ map key_of (in_order is_smaller ranks)
keys_in_order [] h = refl
keys_in_order (x ∷ ranks) h =
    ap (put_in_order nat_lt (key_of x)) (keys_in_order ranks h.1)
    ∙ put_key x (in_order is_smaller ranks) h.0 (each_in_order is_smaller RankFits ranks h.1)

id_of_key : (r : Rank) → RankFits r → id_in (key_of r) ≡ r.id
id_of_key r h = mod-mul-add ((from_bool r.quiesced * 2 + from_bool r.repeats_rack) * 2 ^ 32 + r.place) (2 ^ 16) r.id h.2

pub ids_of_keys : (ranks : List Rank) → Each RankFits ranks → map id_in (map key_of ranks) ≡ map (λ r. r.id) ranks
ids_of_keys [] h = refl
ids_of_keys (r ∷ ranks) h = λ i. id_of_key r h.0 i ∷ ids_of_keys ranks h.1 i

pub keys_name_nodes : (ranks : List Rank) → Each RankFits ranks → All (λ key. 0 < id_in key) (map key_of ranks)
keys_name_nodes [] h = All-nil (λ key. 0 < id_in key)
keys_name_nodes (r ∷ ranks) h =
    All-cons (λ key. 0 < id_in key) (key_of r) (map key_of ranks) (subst (λ n. 0 < n) (sym (id_of_key r h.0)) h.0.1) (keys_name_nodes ranks h.1)

pub ranks_fit : (candidates xs : List Candidate) → All CandidateFits xs → Each RankFits (map (rank_in candidates) xs)
ranks_fit candidates [] h = tt
ranks_fit candidates (x ∷ xs) h = (All-head CandidateFits x xs h, ranks_fit candidates xs (All-tail CandidateFits x xs h))

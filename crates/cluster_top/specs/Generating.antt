-- The script that a number stands for.
use Rattle.std.specs.Prelude.{ℕ, zero, suc, ◌+◌, ◌*◌, ◌/◌, ◌%◌, ◌^◌, ◌==◌, nat_lt, bit_xor, if◌then◌else◌, List, [], ◌∷◌, ◌++◌, codes}
use Rattle.std.specs.Fmt.{decimal}
use Rattle.std.specs.List.{repeat}

-- ---- splitmix64

-- the state after one more draw
abbrev pub next_state : ℕ → ℕ
next_state s = (s + 11400714819323198485) % 2 ^ 64

-- the bits of the number with those of its upper part, xored
abbrev pub shifted : ℕ → ℕ → ℕ
shifted by z = bit_xor z (z / 2 ^ by)

abbrev pub scrambled : ℕ → ℕ → ℕ → ℕ
scrambled by factor z = (shifted by z * factor) % 2 ^ 64

-- the number that the state gives
abbrev pub drawn_of : ℕ → ℕ
drawn_of s = shifted 31 (scrambled 27 10723151780598845931 (scrambled 30 13787848793156543929 s))

-- ---- lines

-- a text and a line feed
abbrev pub text_line : List ℕ → List ℕ
text_line text = text ++ 10 ∷ []

-- a new table of the client, from node 1
abbrev pub table_lines : List ℕ
table_lines = text_line (codes "ask 1") ++ text_line (codes "flow") ++ text_line (codes "flow")

abbrev pub opening_lines : List ℕ
opening_lines =
    text_line (codes "factor 2") ++ text_line (codes "node 1") ++ text_line (codes "node 2")
    ++ text_line (codes "node 3") ++ text_line (codes "node 4") ++ text_line (codes "node 5")
    ++ text_line (codes "calm") ++ table_lines

-- the node and the key that the drawn number names
abbrev pub drawn_node : ℕ → ℕ
drawn_node r = 1 + (r / 2 ^ 32) % 5

abbrev pub drawn_key : ℕ → List ℕ
drawn_key r = codes "u/k" ++ decimal ((r / 2 ^ 8) % 200)

abbrev pub put_lines : ℕ → ℕ → List ℕ
put_lines j r =
    text_line
    (codes "clock " ++ decimal (drawn_node r) ++ codes " " ++ decimal ((r / 2 ^ 40) % 1000))
    ++ text_line (codes "cput " ++ drawn_key r ++ codes " v" ++ decimal j)
    ++ text_line (codes "round")

abbrev pub delete_lines : ℕ → List ℕ
delete_lines r = text_line (codes "cdel " ++ drawn_key r) ++ text_line (codes "round")

abbrev pub get_lines : ℕ → List ℕ
get_lines r = text_line (codes "cget " ++ drawn_key r)

abbrev pub restart_lines : ℕ → List ℕ
restart_lines r =
    text_line (codes "stop " ++ decimal (drawn_node r)) ++ text_line (codes "round")
    ++ text_line (codes "start " ++ decimal (drawn_node r))

-- the five nodes in two groups, of which the first ends with that node
abbrev pub parted : ℕ → List ℕ
parted last =
    if last == 1 then text_line (codes "groups 1 | 2 3 4 5")
    else if last == 2 then text_line (codes "groups 1 2 | 3 4 5")
    else if last == 3 then text_line (codes "groups 1 2 3 | 4 5")
    else text_line (codes "groups 1 2 3 4 | 5")

-- twelve rounds, and then one group that comes to calm, with a new table after each
unfoldable pub split_rest : List ℕ
split_rest =
    repeat 12 (text_line (codes "round")) ++ table_lines ++ text_line (codes "groups 1 2 3 4 5")
    ++ text_line (codes "calm") ++ table_lines

-- two groups, and then one again
abbrev pub split_lines : ℕ → List ℕ
split_lines r = parted (1 + (r / 2 ^ 16) % 4) ++ split_rest

-- the lines of step j where that number was drawn
abbrev pub step_lines : ℕ → ℕ → List ℕ
step_lines j r =
    if nat_lt (r % 16) 8 then put_lines j r
    else if nat_lt (r % 16) 10 then delete_lines r
    else if nat_lt (r % 16) 13 then get_lines r
    else if r % 16 == 13 then text_line (codes "round")
    else if r % 16 == 14 then restart_lines r
    else split_lines r

-- so many steps from step j on, from that state
unfoldable pub steps_from : ℕ → ℕ → ℕ → List ℕ
steps_from zero j s = []
steps_from (suc n) j s =
    step_lines j (drawn_of (next_state s)) ++ steps_from n (j + 1) (next_state s)

-- the script that the number stands for
abbrev pub generated : ℕ → List ℕ
generated n = opening_lines ++ steps_from 400 0 n ++ text_line (codes "calm")

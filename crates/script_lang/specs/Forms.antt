-- What the fields behind a word say: the form of each line. The fields are read from the left, and the first bad one counts.
use Rattle.std.specs.Prelude.{ℕ, ◌==◌, Bool, true, not, ◌&&◌, ◌||◌, nat_lt, if◌then◌else◌, List, [], ◌∷◌, length, Option, Some, None, Result, Ok, Err, codes}
use Rattle.std.specs.List.{slice_split, list_all, concat}
use Rattle.std.specs.Str.{bytes_eq}
use Rattle.script_lang.specs.declared.before.Before.{Before}
use Rattle.script_lang.specs.declared.fault.Cause.{Cause}
use Rattle.script_lang.specs.declared.fault.Cause.TheVariants.{MissingField, BadGroups, VersionLate}
use Rattle.script_lang.specs.declared.script.HeaderLine.{HeaderLine}
use Rattle.script_lang.specs.declared.script.HeaderLine.TheVariants as header
use Rattle.script_lang.specs.declared.script.Command.{Command}
use Rattle.script_lang.specs.declared.script.Command.TheVariants as command
use Rattle.script_lang.specs.declared.words.HeaderWord.{HeaderWord}
use Rattle.script_lang.specs.declared.words.HeaderWord.TheVariants as header_word
use Rattle.script_lang.specs.declared.words.CommandWord.{CommandWord}
use Rattle.script_lang.specs.declared.words.CommandWord.TheVariants as word
use Rattle.script_lang.specs.Counts as count
use Rattle.script_lang.specs.Outcomes.{and_then, map_ok, ok_if}
use Rattle.script_lang.specs.Values as value

-- ---- header lines

-- `script V`; the version may change only while no line stands that rests on it
abbrev pub script : Before → List (List ℕ) → Result HeaderLine Cause
script before fields =
    and_then (count.one fields) (λ field. and_then (value.version field) (λ version.
    ok_if (not before.is_settled || version == before.version) (header.Script version) VersionLate))

-- `factor F`
abbrev pub factor : List (List ℕ) → Result HeaderLine Cause
factor fields =
    and_then (count.one fields) (λ field. map_ok (λ n. header.Factor n) (value.factor field))

abbrev pub optional_rack : Option (List ℕ) → Result (Option ℕ) Cause
optional_rack None = Ok None
optional_rack (Some field) = map_ok Some (value.rack field)

-- `node N`
abbrev pub plain_node : Before → List (List ℕ) → Result HeaderLine Cause
plain_node before fields =
    and_then (count.one fields)
    (λ field. map_ok (λ id. header.Node id None) (value.new_node before field))

-- `node N` or `node N R`
abbrev pub racked_node : Before → List (List ℕ) → Result HeaderLine Cause
racked_node before fields =
    and_then (count.one_or_two fields) (λ parts. and_then (value.new_node before parts.0) (λ id.
    map_ok (λ rack. header.Node id rack) (optional_rack parts.1)))

-- the second form is version 2's
abbrev pub node : Before → List (List ℕ) → Result HeaderLine Cause
node before fields =
    if before.version == 2 then racked_node before fields else plain_node before fields

-- `policy NAME`
abbrev pub policy : List (List ℕ) → Result HeaderLine Cause
policy fields =
    and_then (count.one fields) (λ field. map_ok (λ by. header.Policy by) (value.policy field))

abbrev pub header_line : Before → HeaderWord → List (List ℕ) → Result HeaderLine Cause
header_line before header_word.Script fields = script before fields
header_line before header_word.Factor fields = factor fields
header_line before header_word.Node fields = node before fields
header_line before header_word.Policy fields = policy fields

-- ---- fields that several forms have

-- `N`
abbrev pub at_node : Before → List (List ℕ) → Result ℕ Cause
at_node before fields = and_then (count.one fields) (λ field. value.declared_node before field)

-- `N KEY`
abbrev pub node_and_key : Before → List (List ℕ) → Result (ℕ × List ℕ) Cause
node_and_key before fields =
    and_then (count.two fields) (λ parts. and_then (value.declared_node before parts.0) (λ id.
    map_ok (λ digest. (id, digest)) (value.digest parts.1)))

-- `N KEY VALUE`
abbrev pub node_key_and_value : Before → List (List ℕ) → Result (ℕ × List ℕ × List ℕ) Cause
node_key_and_value before fields =
    and_then (count.three fields) (λ parts. and_then (value.declared_node before parts.0) (λ id.
    and_then (value.digest parts.1)
    (λ digest. map_ok (λ bytes. (id, digest, bytes)) (value.value parts.2))))

-- `KEY`
abbrev pub key : List (List ℕ) → Result (List ℕ) Cause
key fields = and_then (count.one fields) value.digest

-- `KEY VALUE`
abbrev pub key_and_value : List (List ℕ) → Result (List ℕ × List ℕ) Cause
key_and_value fields =
    and_then (count.two fields) (λ parts. and_then (value.digest parts.0) (λ digest.
    map_ok (λ bytes. (digest, bytes)) (value.value parts.1)))

-- a number of a message, call or scan
abbrev pub number : List (List ℕ) → Result ℕ Cause
number fields = and_then (count.one fields) value.number

-- `P`
abbrev pub partition : List (List ℕ) → Result ℕ Cause
partition fields = and_then (count.one fields) value.partition

-- ---- commands

-- `clock N T`
abbrev pub clock : Before → List (List ℕ) → Result Command Cause
clock before fields =
    and_then (count.two fields) (λ parts. and_then (value.declared_node before parts.0) (λ id.
    map_ok (λ time. command.Clock id time) (value.number parts.1)))

-- `cut I LEN`
abbrev pub cut : List (List ℕ) → Result Command Cause
cut fields =
    and_then (count.two fields) (λ parts. and_then (value.number parts.0) (λ message.
    map_ok (λ size. command.Cut message size) (value.number parts.1)))

-- `map N FROM TO`
abbrev pub map : Before → List (List ℕ) → Result Command Cause
map before fields =
    and_then (count.three fields) (λ parts. and_then (value.declared_node before parts.0) (λ id.
    and_then (value.partition parts.1)
    (λ from. map_ok (λ to. command.Map id from to) (value.partition_from from parts.2))))

-- ---- groups

-- what the reader makes of each, from the first on
abbrev pub each : {A B : Type 0} → (A → Result B Cause) → List A → Result (List B) Cause
each read [] = Ok []
each read (x ∷ xs) = and_then (read x) (λ y. map_ok (λ ys. y ∷ ys) (each read xs))

-- a bar stands between two groups
abbrev pub is_bar : List ℕ → Bool
is_bar field = bytes_eq field (codes "|")

abbrev pub are_distinct : List ℕ → Bool
are_distinct [] = true
are_distinct (id ∷ ids) = not (value.is_one_of id ids) && are_distinct ids

-- the groups, whose ids are declared, have every declared node just once, and none is empty: they have as many ids as nodes
-- are declared, and no id stands twice
abbrev pub are_whole : List ℕ → List (List ℕ) → Bool
are_whole nodes groups =
    length (concat groups) == length nodes && are_distinct (concat groups)
    && list_all (λ ids. nat_lt 0 (length ids)) groups

-- the ids of each group, all of them declared
abbrev pub group_ids : Before → List (List ℕ) → Result (List (List ℕ)) Cause
group_ids before fields = each (each (value.declared_node before)) (slice_split is_bar fields)

-- `groups`, then ids with bars between the groups
abbrev pub groups : Before → List (List ℕ) → Result Command Cause
groups before [] = Err MissingField
groups before (field ∷ fields) =
    and_then (group_ids before (field ∷ fields))
    (λ lists. ok_if (are_whole before.nodes lists) (command.Groups lists) BadGroups)

-- ---- the command of each word

abbrev pub command_line : Before → CommandWord → List (List ℕ) → Result Command Cause
command_line before word.Tick fields = map_ok (λ id. command.Tick id) (at_node before fields)
command_line before word.Stop fields = map_ok (λ id. command.Stop id) (at_node before fields)
command_line before word.Start fields = map_ok (λ id. command.Start id) (at_node before fields)
command_line before word.Ask fields = map_ok (λ id. command.Ask id) (at_node before fields)
command_line before word.Quiesce fields = map_ok (λ id. command.Quiesce id) (at_node before fields)
command_line before word.Unquiesce fields =
    map_ok (λ id. command.Unquiesce id) (at_node before fields)
command_line before word.ProxyAgain fields =
    map_ok (λ id. command.ProxyAgain id) (at_node before fields)
command_line before word.Get fields = map_ok (λ p. command.Get p.0 p.1) (node_and_key before fields)
command_line before word.Del fields = map_ok (λ p. command.Del p.0 p.1) (node_and_key before fields)
command_line before word.Show fields =
    map_ok (λ p. command.Show p.0 p.1) (node_and_key before fields)
command_line before word.ProxyGet fields =
    map_ok (λ p. command.ProxyGet p.0 p.1) (node_and_key before fields)
command_line before word.ProxyDel fields =
    map_ok (λ p. command.ProxyDel p.0 p.1) (node_and_key before fields)
command_line before word.Put fields =
    map_ok (λ p. command.Put p.0 p.1 p.2) (node_key_and_value before fields)
command_line before word.ProxyPut fields =
    map_ok (λ p. command.ProxyPut p.0 p.1 p.2) (node_key_and_value before fields)
command_line before word.ClientGet fields = map_ok (λ digest. command.ClientGet digest) (key fields)
command_line before word.ClientDel fields = map_ok (λ digest. command.ClientDel digest) (key fields)
command_line before word.CallGet fields = map_ok (λ digest. command.CallGet digest) (key fields)
command_line before word.CallDel fields = map_ok (λ digest. command.CallDel digest) (key fields)
command_line before word.Hash fields = map_ok (λ digest. command.Hash digest) (key fields)
command_line before word.ClientPut fields =
    map_ok (λ p. command.ClientPut p.0 p.1) (key_and_value fields)
command_line before word.CallPut fields =
    map_ok (λ p. command.CallPut p.0 p.1) (key_and_value fields)
command_line before word.Deliver fields = map_ok (λ n. command.Deliver n) (number fields)
command_line before word.Repeat fields = map_ok (λ n. command.Repeat n) (number fields)
command_line before word.Lose fields = map_ok (λ n. command.Lose n) (number fields)
command_line before word.CallAgain fields = map_ok (λ n. command.CallAgain n) (number fields)
command_line before word.ScanNext fields = map_ok (λ n. command.ScanNext n) (number fields)
command_line before word.Place fields = map_ok (λ p. command.Place p) (partition fields)
command_line before word.Scan fields = map_ok (λ p. command.Scan p) (partition fields)
command_line before word.Flow fields = map_ok (λ _. command.Flow) (count.no_fields fields)
command_line before word.Round fields = map_ok (λ _. command.Round) (count.no_fields fields)
command_line before word.Calm fields = map_ok (λ _. command.Calm) (count.no_fields fields)
command_line before word.Clock fields = clock before fields
command_line before word.Cut fields = cut fields
command_line before word.Map fields = map before fields
command_line before word.Groups fields = groups before fields

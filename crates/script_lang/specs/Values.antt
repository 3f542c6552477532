-- What a field says, read by itself or after the lines before it.
use Rattle.std.specs.Prelude.{ℕ, ◌==◌, ◌^◌, nat_lt, nat_le, Bool, ◌&&◌, if◌then◌else◌, List, [], ◌∷◌, length, Result, Ok, Err, codes}
use Rattle.std.specs.List.{list_all, list_any, before_first, after_first}
use Rattle.std.specs.Str.{bytes_eq}
use Rattle.std.specs.Str.Parse.{digits_value}
use Rattle.hex.specs.Hex.{decode_sized}
use Rattle.cluster_types.specs.Partitions.{partition_count}
use Rattle.conflict_order.specs.declared.policy.Policy.{Policy}
use Rattle.conflict_order.specs.declared.policy.Policy.TheVariants.{Time, Generation}
use Rattle.cluster_types.specs.Distinct.{contains}
use Rattle.digest_ripemd.specs.Digests.{digest_of}
use Rattle.script_lang.specs.declared.before.Before.{Before}
use Rattle.script_lang.specs.declared.fault.Cause.{Cause}
use Rattle.script_lang.specs.declared.fault.Cause.TheVariants.{BadNumber, BadFactor, BadPolicy, UnknownNode, RepeatedNode, TooManyNodes, BadDigest, TooLongValue}
use Rattle.script_lang.specs.Outcomes.{and_then, ok_if, or_cause}

-- ---- numbers

abbrev pub is_digit : ℕ → Bool
is_digit b = nat_le 48 b && nat_le b 57

-- 1 to 20 decimal digits with a value below 2^64
abbrev pub is_number : List ℕ → Bool
is_number text =
    nat_lt 0 (length text) && nat_le (length text) 20 && list_all is_digit text
    && nat_lt (digits_value 10 text) (2 ^ 64)

abbrev pub number : List ℕ → Result ℕ Cause
number text = ok_if (is_number text) (digits_value 10 text) BadNumber

-- a number from the first limit to the second
abbrev pub number_within : ℕ → ℕ → List ℕ → Result ℕ Cause
number_within low high text =
    and_then (number text) (λ n. ok_if (nat_le low n && nat_le n high) n BadNumber)

-- a version of the language: 1 or 2
abbrev pub version : List ℕ → Result ℕ Cause
version text = number_within 1 2 text

-- a rack: 0 to 255
abbrev pub rack : List ℕ → Result ℕ Cause
rack text = number_within 0 255 text

-- a partition: 0 to 4095
abbrev pub partition : List ℕ → Result ℕ Cause
partition text = and_then (number text) (λ n. ok_if (nat_lt n partition_count) n BadNumber)

-- a partition that isn't below the other
abbrev pub partition_from : ℕ → List ℕ → Result ℕ Cause
partition_from from text = and_then (partition text) (λ n. ok_if (nat_le from n) n BadNumber)

-- a replication factor: a number from 1 to 4
abbrev pub factor : List ℕ → Result ℕ Cause
factor text = and_then (number text) (λ n. ok_if (nat_le 1 n && nat_le n 4) n BadFactor)

-- ---- nodes

-- a node's id: 1 to 65535
abbrev pub node : List ℕ → Result ℕ Cause
node text = number_within 1 65535 text

abbrev pub is_one_of : ℕ → List ℕ → Bool
is_one_of id ids = contains ids id

-- a node that is declared
abbrev pub declared_node : Before → List ℕ → Result ℕ Cause
declared_node before text =
    and_then (node text) (λ id. ok_if (is_one_of id before.nodes) id UnknownNode)

-- a node that isn't declared yet, where fewer than sixteen are
abbrev pub new_node : Before → List ℕ → Result ℕ Cause
new_node before text =
    and_then (node text) (λ id. if is_one_of id before.nodes then Err RepeatedNode
    else ok_if (nat_lt (length before.nodes) 16) id TooManyNodes)

-- ---- keys, values and policies

-- a digest: forty hexadecimal digits of either case
abbrev pub written_digest : List ℕ → Result (List ℕ) Cause
written_digest digits = or_cause BadDigest (decode_sized digits 20)

abbrev pub is_slash : ℕ → Bool
is_slash b = b == 47

-- the digest of a key by name: the name of its set stands before the first slash and the key behind it; without a slash
-- the set's name is empty
abbrev pub named_digest : List ℕ → List ℕ
named_digest text =
    if list_any is_slash text
    then digest_of (before_first is_slash text) (after_first is_slash text)
    else digest_of [] text

-- a key as its digest: behind `#` the digest itself, and otherwise a key by name
abbrev pub digest : List ℕ → Result (List ℕ) Cause
digest [] = Ok (named_digest [])
digest (b ∷ bytes) = if b == 35 then written_digest bytes else Ok (named_digest (b ∷ bytes))

-- a value: the bytes of the field, at most 128
abbrev pub value : List ℕ → Result (List ℕ) Cause
value text = ok_if (nat_le (length text) 128) text TooLongValue

abbrev pub policy : List ℕ → Result Policy Cause
policy text =
    if bytes_eq text (codes "time") then Ok Time
    else if bytes_eq text (codes "generation") then Ok Generation
    else Err BadPolicy

-- Ids, numbers and keys.
use Rattle.std.proofs.Common.{◌≡◌, ℕ, ◌<◌, ◌≤◌, ◌^◌, ◌⊎◌, inl, inr, List, [], ◌∷◌, refl, sym, arith, append_assoc}
use Rattle.std.specs.Prelude.{codes}
use Rattle.std.specs.Fmt.{decimal}
use Rattle.std.specs.List.{join_with_byte}
use Rattle.std.proofs.lemmas.Bool.{cases_eq}
use Rattle.cluster_types.specs.declared.cluster_key.ClusterKey.{ClusterKey}
use Rattle.cluster_types.specs.Texts.{key_text, node_text, partition_text}
use Rattle.wire_messages.specs.Keys.{IsKeyField}
use Rattle.wire_messages.specs.Nodes.{IsId}
use Rattle.wire_messages.specs.Numbers.{IsNumber}
use Rattle.journal_lines.specs.Proper.{IsByte, IsLong, IsEndpoint, IsPartition}
use Rattle.journal_reader.specs.Fields.{Reader, parts_of, with_field, at_end, number_in, script_version_of, parsed_factor, parsed_node, endpoint_of, parsed_partition, rack_of, long_of, number_of, parsed_count, parsed_key}
use Rattle.journal_reader.proofs.Readers.{Reads, Back, Only, ended_back, field_back, ended_only, field_only, reads_all, reads_as, reads_wider, reads_parts, reads_same}
use Rattle.journal_reader.proofs.NumberFields.{IsDigit, InRange, reads_number, other_than_digit}

-- a byte that may stand in a field
pub record IsVisible (b : ℕ) : Type 0 where
  pub above : 32 < b

pub digit_is_visible : (b : ℕ) → IsDigit b → IsVisible b
digit_is_visible b d = let low = d.low in record { above = omega arith }

visible_number : (least most : ℕ) → most < 2 ^ 64 → Reads IsVisible (InRange least most) decimal (number_in least most)
visible_number least most wide = reads_wider digit_is_visible (reads_number least most wide)

pub node_digits : Reads IsDigit IsId node_text parsed_node
node_digits = reads_as (reads_number 1 65535 (omega arith))
    (λ n g. let low = g.low in let high = g.high in record { positive = omega arith; fits = omega arith })
    (λ n i. let some = i.positive in let fits = i.fits in record { low = omega arith; high = omega arith })

pub node_field : Reads IsVisible IsId node_text parsed_node
node_field = reads_wider digit_is_visible node_digits

pub number_digits : Reads IsDigit IsNumber decimal number_of
number_digits = reads_as (reads_number 1 4294967295 (omega arith))
    (λ n g. let low = g.low in let high = g.high in record { positive = omega arith; fits = omega arith })
    (λ n i. let some = i.positive in let fits = i.fits in record { low = omega arith; high = omega arith })

pub number_field : Reads IsVisible IsNumber decimal number_of
number_field = reads_wider digit_is_visible number_digits

pub long_digits : Reads IsDigit IsLong decimal long_of
long_digits = reads_as (reads_number 0 18446744073709551615 (omega arith))
    (λ n g. let high = g.high in omega arith)
    (λ n i. record { low = omega arith; high = omega arith })

pub long_field : Reads IsVisible IsLong decimal long_of
long_field = reads_wider digit_is_visible long_digits

pub endpoint_field : Reads IsVisible IsEndpoint decimal endpoint_of
endpoint_field = reads_as (visible_number 0 65535 (omega arith))
    (λ n g. let high = g.high in omega arith)
    (λ n i. record { low = omega arith; high = omega arith })

pub partition_field : Reads IsVisible IsPartition partition_text parsed_partition
partition_field = reads_as (visible_number 0 4095 (omega arith))
    (λ n g. let high = g.high in omega arith)
    (λ n i. record { low = omega arith; high = omega arith })

pub rack_digits : Reads IsDigit IsByte decimal rack_of
rack_digits = reads_as (reads_number 0 255 (omega arith))
    (λ n g. let high = g.high in omega arith)
    (λ n i. record { low = omega arith; high = omega arith })

pub rack_field : Reads IsVisible IsByte decimal rack_of
rack_field = reads_wider digit_is_visible rack_digits

abbrev pub IsCount : ℕ → Type 0
IsCount n = n < 2 ^ 32

pub count_field : Reads IsVisible IsCount decimal parsed_count
count_field = reads_as (visible_number 0 4294967295 (omega arith))
    (λ n g. let high = g.high in omega arith)
    (λ n i. record { low = omega arith; high = omega arith })

abbrev pub IsFactor : ℕ → Type 0
IsFactor n = (1 ≤ n) × (n ≤ 4)

pub factor_field : Reads IsVisible IsFactor decimal parsed_factor
factor_field = reads_as (visible_number 1 4 (omega arith))
    (λ n g. (g.low, g.high))
    (λ n i. record { low = i.0; high = i.1 })

abbrev pub IsScriptVersion : ℕ → Type 0
IsScriptVersion n = (n ≡ 1) ⊎ (n ≡ 2)

one_or_two : (n : ℕ) → InRange 1 2 n → IsScriptVersion n
one_or_two n g =
    let low = g.low in
    let high = g.high in
    elim (cases_eq n 1) [ inl one ↦ inl one | inr other ↦ inr (omega arith) ]

in_one_two : (n : ℕ) → IsScriptVersion n → InRange 1 2 n
in_one_two n (inl e) = record { low = omega arith; high = omega arith }
in_one_two n (inr e) = record { low = omega arith; high = omega arith }

pub script_version_field : Reads IsVisible IsScriptVersion decimal script_version_of
script_version_field = reads_as (visible_number 1 2 (omega arith)) one_or_two in_one_two

-- ---- keys

round_digits : Reads IsDigit (InRange 1 281474976710655) decimal (number_in 1 281474976710655)
round_digits = reads_number 1 281474976710655 (omega arith)

principal_digits : Reads IsDigit (InRange 1 65535) decimal (number_in 1 65535)
principal_digits = reads_number 1 65535 (omega arith)

abbrev key_parts : ClusterKey → List (List ℕ)
key_parts k = decimal k.round ∷ decimal k.principal ∷ []

made : ℕ → ℕ → ClusterKey
made r p = record { round = r; principal = p }

abbrev key_in : Reader ClusterKey
key_in = with_field (number_in 1 281474976710655) (λ round. with_field (number_in 1 65535) (λ principal. at_end (record { round = round; principal = principal })))

key_back : (k : ClusterKey) → IsKeyField k → Back IsDigit key_in (key_parts k) k
key_back k g =
    let some = g.view.above_none in
    let below = g.view.below_limit in
    let led = g.view.led in
    let fits = g.fits in
    field_back _ round_digits k.round (record { low = omega arith; high = omega arith })
    (field_back _ principal_digits k.principal (record { low = omega arith; high = omega arith })
    (ended_back IsDigit k))

key_good : (r p : ℕ) → InRange 1 281474976710655 r → InRange 1 65535 p → IsKeyField (record { round = r; principal = p })
key_good r p g h =
    let rl = g.low in
    let rh = g.high in
    let pl = h.low in
    let ph = h.high in
    record { view = record { above_none = omega arith; below_limit = omega arith; led = omega arith }; fits = omega arith }

key_only : Only key_in (λ fields k. (key_parts k ≡ fields) × IsKeyField k)
key_only = field_only round_digits (λ r g. field_only principal_digits (λ p h. ended_only _ (refl, key_good r p g h)))

key_join : (k : ClusterKey) → join_with_byte 46 (key_parts k) ≡ key_text k
key_join k = sym (append_assoc (decimal k.round) (codes ".") (decimal k.principal))

key_read : (text : List ℕ) → parsed_key text ≡ key_in (parts_of 46 text)
unfolding parsed_key
key_read text = refl

pub key_field : Reads IsVisible IsKeyField key_text parsed_key
key_field = reads_same key_text parsed_key key_join key_read
    (reads_parts 46 (other_than_digit 46 (omega arith)) digit_is_visible (record { above = omega arith }) (λ k g. tt) (reads_all key_back key_only))

-- Ids that are written can be read back.
use Rattle.std.proofs.Common.{◌≡◌, ℕ, ◌<◌, ◌≤◌, ◌^◌, ◌&&◌, nat_le, Ok, ap, ◌∙◌, arith}
use Rattle.std.specs.Prelude.{Contains}
use Rattle.std.specs.Fmt.{decimal}
use Rattle.std.proofs.lemmas.Bool.{le-leb, and_from}
use Rattle.script_lang.specs.declared.before.Before.{Before}
use Rattle.script_lang.specs.declared.fault.Cause.TheVariants.{BadNumber, UnknownNode}
use Rattle.script_lang.specs.Outcomes.{and_then, ok_if}
use Rattle.script_lang.specs.Proper.{IsId}
use Rattle.script_lang.specs.Values as value
use Rattle.script_lang.proofs.Ranges.{contained}
use Rattle.script_lang.proofs.Written.{number_back}

pub within_back : (low high n : ℕ) → low ≤ n → n ≤ high → n < 2 ^ 64 → value.number_within low high (decimal n) ≡ Ok n
within_back low high n above below fits =
    ap (λ r. and_then r (λ k. ok_if (nat_le low k && nat_le k high) k BadNumber)) (number_back n fits)
    ∙ ap (λ t. ok_if t n BadNumber) (and_from _ _ (le-leb _ _ above) (le-leb _ _ below))

pub node_back : (n : ℕ) → IsId n → value.node (decimal n) ≡ Ok n
node_back n i = let p = i.positive in let f = i.fits in within_back 1 65535 n (omega arith) (omega arith) (omega arith)

pub node_fits : (n : ℕ) → IsId n → n < 2 ^ 64
node_fits n i = let f = i.fits in omega arith

pub declared_back : (before : Before) (n : ℕ) → IsId n → Contains before.nodes n → value.declared_node before (decimal n) ≡ Ok n
declared_back before n i c =
    ap (λ r. and_then r (λ id. ok_if (value.is_one_of id before.nodes) id UnknownNode)) (node_back n i)
    ∙ ap (λ t. ok_if t n UnknownNode) (contained n before.nodes c)

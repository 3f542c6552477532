-- Numbers after `--generate`, as `parse` reads them.
use Rattle.std.proofs.Common.{ℕ, ◌&&◌, List, length, Err}
use Rattle.std.specs.List.{list_all}
use Rattle.std.specs.Prelude.{nat_lt, nat_le}
use Rattle.std.specs.Str.Parse.{ParsesUnsigned}
use Rattle.std.proofs.lemmas.Bool.{and_parts, ltb-true}
use Rattle.script_lang.specs.Values.{is_digit}
use Rattle.script_lang.proofs.Digits.{IsChecked, all_digits, plain}
use Rattle.cluster_top.specs.Words.{SpellsNumber}

-- what is refused is no number
pub is_no_number : (text : List ℕ) (n : ℕ) → IsChecked text → ParsesUnsigned {E = Unit {0}} 64 10 text (Err tt) → SpellsNumber text n → ⊥
is_no_number text n ok refused h =
    let most = and_parts (nat_lt 0 (length text) && nat_le (length text) 20 && list_all is_digit text) _ h.digits in
    let some = and_parts (nat_lt 0 (length text) && nat_le (length text) 20) (list_all is_digit text) most.0 in
    plain text (Err tt) ok refused (all_digits text some.1, ltb-true _ _ (and_parts (nat_lt 0 (length text)) _ some.0).0, ltb-true _ _ most.1)

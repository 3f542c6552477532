-- Rows of bits of one length are the same where each bit is.
use Rattle.std.proofs.Common.{◌≡◌, ℕ, zero, suc, ◌||◌, Bool, false, List, [], length, replicate, refl, sym, ◌∙◌}
use Rattle.std.proofs.lemmas.List.{ext_get_or, length-replicate}
use Rattle.cluster_types.specs.Partitions.{partition_count}
use Rattle.cluster_types.specs.Rows.{bit, IsClear}
use Rattle.cluster_types.proofs.OrRows.{or_bit, or_length}
use Rattle.node_rules.specs.Bits.{clear_row, or_rows}

same_rows : (a b : List Bool) → length a ≡ length b → ((p : ℕ) → bit a p ≡ bit b p) → a ≡ b
same_rows a b size each = ext_get_or false a b size (λ i within. each i)

-- a row that has each bit that either has
pub or_is : (a b row : List Bool) → length a ≡ partition_count → length b ≡ partition_count → length row ≡ partition_count
    → ((p : ℕ) → bit row p ≡ (bit a p || bit b p)) → row ≡ or_rows a b
or_is a b row la lb lr each = same_rows row (or_rows a b) (lr ∙ sym la ∙ sym (or_length a b (la ∙ sym lb))) (λ p. each p ∙ sym (or_bit a b p))

clear_length : length clear_row ≡ partition_count
unfolding clear_row
clear_length = length-replicate partition_count false

none_set : (n p : ℕ) → bit (replicate n false) p ≡ false
none_set zero p = refl
none_set (suc n) zero = refl
none_set (suc n) (suc p) = none_set n p

pub clear_is_clear : IsClear clear_row
unfolding clear_row
clear_is_clear = record { clear = none_set partition_count }

-- a row in which no bit is set
pub clear_is : (row : List Bool) → length row ≡ partition_count → IsClear row → row ≡ clear_row
clear_is row size clear = same_rows row clear_row (size ∙ sym clear_length) (λ p. clear.clear p ∙ sym (clear_is_clear.clear p))

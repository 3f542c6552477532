-- Hand-over, settling, learning and dropping, partition by partition, whose list is an argument.
use Rattle.std.specs.Prelude.{ℕ, zero, suc, ◌+◌, Bool, List, [], ◌++◌, None, if◌then◌else◌}
use Rattle.journal_lines.specs.declared.line.Line.{Line}
use Rattle.journal_lines.specs.declared.line.Line.TheVariants as line
use Rattle.node_rules.specs.Bits as bits
use Rattle.node_rules.specs.Facts.{Facts, view_key, list_at}
use Rattle.node_rules.specs.Notes.{noted}
use Rattle.node_rules.specs.Standing.{is_acting, is_master, is_all_empty, are_all_done, is_to_learn, is_to_drop}
use Rattle.node_rules.specs.Transactions.{is_busy}
use Rattle.node_rules.specs.Tables.{only_if}

-- whether the node hands the partition over: it is the acting master by the rows and not the list
-- master, hasn't handed it over, is done at it and knows every other member done, and has no
-- transaction open on it
abbrev pub may_hand : Facts → List ℕ → ℕ → Bool
may_hand f l p =
    bits.bits_may_hand f.bits p (is_acting f l p) (is_master f l) (are_all_done f p)
    (is_busy f.transactions p)

-- whether the node settles the partition: it is the list master, some copy wasn't empty, the bit
-- isn't set, it has no transaction open on it, and either the partition was handed over to it, or it
-- is itself the acting master by the rows, is done and knows every other member done
abbrev pub may_settle : Facts → List ℕ → ℕ → Bool
may_settle f l p =
    bits.bits_may_settle f.bits p (is_acting f l p) (is_master f l) (is_all_empty f p)
    (are_all_done f p) (is_busy f.transactions p)

-- the line `handed`, where it is due
abbrev pub hand : Facts → List ℕ → ℕ → List Line
hand f l p = only_if (line.Handed f.me (view_key f) p) (may_hand f l p)

-- the line `settled`, where it is due
abbrev pub settle : Facts → List ℕ → ℕ → List Line
settle f l p = only_if (line.Settled f.me (view_key f) p) (may_settle f l p)

-- the line `learn`, where it is due
abbrev pub learn : Facts → List ℕ → ℕ → List Line
learn f l p = only_if (line.Learn f.me (view_key f) p) (is_to_learn f l p)

-- the line `drop`, where it is due
abbrev pub drop : Facts → List ℕ → ℕ → List Line
drop f l p = only_if (line.Drop f.me (view_key f) p) (is_to_drop f l p)

-- lines, and then those that are due of the facts with them
abbrev pub lines_then : (Facts → List Line) → (Facts → List Line) → Facts → List Line
lines_then first second f = first f ++ second (noted None f (first f))

-- the four at one partition, each of the facts with the lines of those before it
abbrev pub settling_at : List ℕ → ℕ → Facts → List Line
settling_at l p =
    lines_then (λ f. hand f l p)
    (lines_then (λ f. settle f l p) (lines_then (λ f. learn f l p) (λ f. drop f l p)))

-- so many partitions, from one on
unfoldable pub settling_from : ℕ → ℕ → Facts → List Line
settling_from zero p f = []
settling_from (suc n) p f =
    settling_at (list_at f p) p f
    ++ settling_from n (p + 1) (noted None f (settling_at (list_at f p) p f))

-- the partitions from 0 on, once the exchange is finished
abbrev pub settling_due : ℕ → Facts → List Line
settling_due n f = if f.exchange.exchanged then settling_from n 0 f else []

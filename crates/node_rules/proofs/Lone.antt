-- What happens to a node that is alone.
use Rattle.std.proofs.Common.{◌≡◌, ℕ, zero, suc, ◌+◌, true, not, ◌&&◌, ◌||◌, List, [], ◌∷◌, ◌++◌, Option, Some, None, refl, ap, ap₂, ◌∙◌, if◌then◌else◌}
use Rattle.std.specs.Ordering.{nat_cmp}
use Rattle.std.specs.Cmp.Lexicographic.{slice_cmp}
use Rattle.std.specs.FinMap as finite
use Rattle.std.proofs.lemmas.Cmp.{nat_list_cmp_total}
use Rattle.conflict_order.specs.declared.policy.Policy.TheVariants.{Time}
use Rattle.conflict_order.specs.declared.version.Version.{Version}
use Rattle.conflict_order.specs.declared.version.Body.TheVariants.{Value}
use Rattle.conflict_order.specs.declared.want.Want.TheVariants as want
use Rattle.conflict_order.specs.declared.want.Action.TheVariants as action
use Rattle.conflict_order.specs.Join.{kept}
use Rattle.conflict_order.specs.Next.{next}
use Rattle.cluster_types.specs.Partitions.{partition_count}
use Rattle.cluster_types.specs.Rows.{bit}
use Rattle.partition_lists.specs.Lists.{list}
use Rattle.journal_lines.specs.declared.line.Line.{Line}
use Rattle.journal_lines.specs.declared.line.Line.TheVariants as line
use Rattle.node_rules.specs.Bits.{clear_row}
use Rattle.node_rules.specs.Copies.{Row, joined, row_from, empty_store, holds_of}
use Rattle.node_rules.specs.Effects.{Effects, nothing, lines_only, followed_by, sends_only, to_each}
use Rattle.node_rules.specs.Examples.{key, lone, itself, ticked_twice, in_its_view, zeros, hi, first_hi, having_hi}
use Rattle.node_rules.specs.Facts.{Facts, list_at}
use Rattle.node_rules.specs.Notes.{note, noted, entered}
use Rattle.node_rules.specs.Requests.{due_request}
use Rattle.node_rules.specs.Settling.{hand, settle, learn, drop, lines_then, settling_at, settling_from}
use Rattle.node_rules.specs.Standing.{knows_settled, knows_all_settled, is_own_replica, is_done, others}
use Rattle.node_rules.specs.Steps.{facts_after, after_tick}
use Rattle.node_rules.specs.Tick.{Part, parts_in_order, rows, transactions, batches, settlings, progress, due_tick, progress_message}
use Rattle.node_rules.proofs.Empty.{empty_row, clear_bit}
use Rattle.node_rules.specs.Tables.{only_if}

-- ---- where nothing is due

no_lines : (first second : Facts → List Line) (f : Facts) → first f ≡ [] → second f ≡ [] → lines_then first second f ≡ []
no_lines first second f a b = ap (λ ls. ls ++ second (noted None f ls)) a ∙ b

none_at : (l : List ℕ) (p : ℕ) (f : Facts) → hand f l p ≡ [] → settle f l p ≡ [] → learn f l p ≡ [] → drop f l p ≡ [] → settling_at l p f ≡ []
none_at l p f a b c d =
    no_lines (λ g. hand g l p) (lines_then (λ g. settle g l p) (lines_then (λ g. learn g l p) (λ g. drop g l p))) f a
    (no_lines (λ g. settle g l p) (lines_then (λ g. learn g l p) (λ g. drop g l p)) f b (no_lines (λ g. learn g l p) (λ g. drop g l p) f c d))

none_from : (f : Facts) → ((p : ℕ) → settling_at (list_at f p) p f ≡ []) → (n p : ℕ) → settling_from n p f ≡ []
unfolding settling_from
none_from f each zero p = refl
none_from f each (suc n) p = ap (λ ls. ls ++ settling_from n (p + 1) (noted None f ls)) (each p) ∙ none_from f each n (p + 1)

all_from : (f : Facts) → ((p : ℕ) → knows_settled f p ≡ true) → (n p : ℕ) → knows_all_settled f n p ≡ true
unfolding knows_all_settled
all_from f each zero p = refl
all_from f each (suc n) p = ap₂ (λ a b. a && b) (each p) (all_from f each n (p + 1))

nothing_more : (part : Part) (parts : List Part) (f : Facts) → part f ≡ nothing → parts_in_order parts f ≡ nothing → parts_in_order (part ∷ parts) f ≡ nothing
nothing_more part parts f a b = ap (λ e. followed_by e (parts_in_order parts (noted None f e.lines))) a ∙ b

-- ---- the node in its view

-- the node after its third tick, with that row
abbrev with_own_row : Row → Facts
with_own_row row = note None (entered (noted None ticked_twice (line.Tick 1 ∷ line.Promise 1 (key 1 1) ∷ [])) (key 1 1) itself row) (line.Exchanged 1 (key 1 1))

abbrev pub alone : Facts
alone = with_own_row []

abbrev its_row : Row
its_row = row_from (empty_store Time) partition_count 0

its_row_is_empty : its_row ≡ []
its_row_is_empty = empty_row Time partition_count 0

only_one : (p : ℕ) → list_at alone p ≡ 1 ∷ []
unfolding list
only_one p = refl

none_due : (p : ℕ) → settling_at (1 ∷ []) p alone ≡ []
none_due p =
    none_at (1 ∷ []) p alone refl refl
    (ap (λ b. only_if (line.Learn 1 (key 1 1) p) (b && (is_own_replica alone (1 ∷ []) && not (bit alone.bits.learnt p)))) (clear_bit p))
    (ap (λ b. only_if (line.Drop 1 (key 1 1) p) (b && (is_done alone p && (not (is_own_replica alone (1 ∷ [])) && holds_of alone.store.content p)))) (clear_bit p))

none_due_at : (p : ℕ) → settling_at (list_at alone p) p alone ≡ []
none_due_at p = ap (λ l. settling_at l p alone) (only_one p) ∙ none_due p

is_settled : (p : ℕ) → knows_settled alone p ≡ true
is_settled p = ap (λ b. b || true) (clear_bit p)

no_progress : progress partition_count alone ≡ nothing
no_progress = ap (λ b. (if true && not b then sends_only (to_each (others alone) (progress_message partition_count alone true)) else nothing)) (all_from alone is_settled partition_count 0)

-- what a tick does after the view is entered, part by part
abbrev from_progress : List Part
from_progress = progress partition_count ∷ []

abbrev from_settling : List Part
from_settling = settlings partition_count ∷ from_progress

abbrev from_batches : List Part
from_batches = batches ∷ from_settling

abbrev from_transactions : List Part
from_transactions = transactions ∷ from_batches

abbrev from_rows : List Part
from_rows = rows ∷ from_transactions

rest : parts_in_order from_rows alone ≡ nothing
rest =
    nothing_more rows from_transactions alone refl
    (nothing_more transactions from_batches alone refl
    (nothing_more batches from_settling alone refl
    (nothing_more (settlings partition_count) from_progress alone (ap lines_only (none_from alone none_due_at partition_count 0))
    (nothing_more (progress partition_count) [] alone no_progress refl))))

abbrev entering_lines : List Line
entering_lines = line.Promise 1 (key 1 1) ∷ line.Enter 1 (key 1 1) itself ∷ line.Exchanged 1 (key 1 1) ∷ []

-- the third tick, where what follows the view's entry does that
abbrev with_rest : Effects → Effects
with_rest e = followed_by (lines_only (line.Tick 1 ∷ [])) (followed_by nothing (followed_by (lines_only entering_lines) e))

abbrev rest_with_row : Row → Effects
rest_with_row row = parts_in_order from_rows (with_own_row row)

pub first_tick : due_tick lone ≡ lines_only (line.Tick 1 ∷ [])
first_tick = refl

pub second_tick : due_tick (after_tick lone) ≡ lines_only (line.Tick 1 ∷ [])
second_tick = refl

third_with_row : due_tick ticked_twice ≡ with_rest (rest_with_row its_row)
third_with_row = refl

pub third_tick : due_tick ticked_twice ≡ lines_only (line.Tick 1 ∷ entering_lines)
third_tick = third_with_row ∙ ap (λ row. with_rest (rest_with_row row)) its_row_is_empty ∙ ap with_rest rest

pub entered_view : in_its_view ≡ alone
entered_view = ap (λ e. facts_after None ticked_twice e) third_tick
    ∙ ap with_own_row its_row_is_empty

-- ---- a put and a get

abbrev put_of : Option Version → Effects
put_of best = lines_only (line.Opened 1 (key 1 1) 1 zeros action.Put ∷ line.Apply 1 (key 1 1) 1 zeros (next best 0 (Value hi)) ∷ line.Done 1 (key 1 1) 1 ∷ [])

alone_puts : due_request alone 0 zeros (want.Put hi) ≡ put_of (finite.get alone.store.content zeros)
unfolding list clear_row
alone_puts = refl

first_version : next None 0 (Value hi) ≡ first_hi
unfolding next
first_version = refl

pub holds_nothing : finite.get alone.store.content zeros ≡ None
holds_nothing = finite.get-empty (slice_cmp nat_cmp) zeros

abbrev put_lines : List Line
put_lines = line.Opened 1 (key 1 1) 1 zeros action.Put ∷ line.Apply 1 (key 1 1) 1 zeros first_hi ∷ line.Done 1 (key 1 1) 1 ∷ []

put_alone : due_request alone 0 zeros (want.Put hi) ≡ lines_only put_lines
put_alone = alone_puts ∙ ap put_of holds_nothing ∙ ap (λ v. lines_only (line.Opened 1 (key 1 1) 1 zeros action.Put ∷ line.Apply 1 (key 1 1) 1 zeros v ∷ line.Done 1 (key 1 1) 1 ∷ [])) first_version

pub puts : due_request in_its_view 0 zeros (want.Put hi) ≡ lines_only put_lines
puts = ap (λ f. due_request f 0 zeros (want.Put hi)) entered_view ∙ put_alone

-- the node after the put
abbrev pub with_hi : Facts
with_hi = noted (Some (want.Put hi)) alone put_lines

pub after_put : having_hi ≡ with_hi
after_put =
    ap (λ f. facts_after (Some (want.Put hi)) f (due_request f 0 zeros (want.Put hi))) entered_view
    ∙ ap (λ e. facts_after (Some (want.Put hi)) alone e) put_alone

abbrev get_of : Option Version → Effects
get_of best = lines_only (line.Opened 1 (key 1 1) 2 zeros action.Get ∷ line.Value 1 (key 1 1) 2 zeros best ∷ [])

get_with_hi : due_request with_hi 0 zeros want.Get ≡ get_of (finite.get (joined Time finite.empty zeros first_hi) zeros)
unfolding list clear_row
get_with_hi = refl

kept_first : kept Time None first_hi ≡ first_hi
unfolding kept
kept_first = refl

pub holds_hi : finite.get (joined Time finite.empty zeros first_hi) zeros ≡ Some first_hi
holds_hi =
    finite.get-insert nat_list_cmp_total finite.empty zeros _ zeros
    ∙ ap (λ held. Some (kept Time held first_hi)) holds_nothing
    ∙ ap (λ v. Some v) kept_first

pub gets : due_request having_hi 0 zeros want.Get ≡ get_of (Some first_hi)
gets = ap (λ f. due_request f 0 zeros want.Get) after_put ∙ get_with_hi ∙ ap get_of holds_hi

-- What is told of many partitions at once is a test of each.
use Rattle.std.proofs.Common.{◌≡◌, ℕ, zero, suc, ◌+◌, Bool, ◌&&◌, ◌||◌, not, ◌∷◌, refl, ap}
use Rattle.cluster_types.specs.declared.cluster_key.ClusterKey.{ClusterKey}
use Rattle.node_rules.specs.Batches.{done_row}
use Rattle.node_rules.specs.Copies.{Stamps}
use Rattle.node_rules.specs.Facts.{Facts, list_at}
use Rattle.node_rules.specs.Notes.{stamped_at, count_in}
use Rattle.node_rules.specs.Stamps.{stamped_by}
use Rattle.node_rules.specs.Standing.{knows_settled, knows_all_settled, has_nothing_to_learn_or_drop, is_to_learn, is_to_drop, is_done, has_moved, is_all_empty, is_own_replica}
use Rattle.node_rules.specs.Tables.{all_from, bits_from}
use Rattle.node_rules.specs.Tick.{done_from}
use Rattle.node_rules.specs.ViewNotes.{stamped_from}
use Rattle.node_rules.specs.ClientMessages.{moved_from}

pub settled_by : (f : Facts) (n p : ℕ) → knows_all_settled f n p ≡ all_from (knows_settled f) n p
unfolding knows_all_settled all_from
settled_by f zero p = refl
settled_by f (suc n) p = ap (λ b. knows_settled f p && b) (settled_by f n (p + 1))

abbrev rests_at : Facts → ℕ → Bool
rests_at f q = not (is_to_learn f (list_at f q) q || is_to_drop f (list_at f q) q)

pub rest_by : (f : Facts) (n p : ℕ) → has_nothing_to_learn_or_drop f n p ≡ all_from (rests_at f) n p
unfolding has_nothing_to_learn_or_drop all_from
rest_by f zero p = refl
rest_by f (suc n) p = ap (λ b. rests_at f p && b) (rest_by f n (p + 1))

pub done_by : (f : Facts) (n p : ℕ) → done_from f n p ≡ done_row f.exchange.exchanged f.batches n p
unfolding done_from bits_from
done_by f zero p = refl
done_by f (suc n) p = ap (λ bs. is_done f p ∷ bs) (done_by f n (p + 1))

pub moved_by : (f : Facts) (n p : ℕ) → moved_from f n p ≡ bits_from (has_moved f) n p
unfolding moved_from bits_from
moved_by f zero p = refl
moved_by f (suc n) p = ap (λ bs. has_moved f p ∷ bs) (moved_by f n (p + 1))

pub stamps_by : (f : Facts) (key : ClusterKey) (stamps : Stamps) (n p : ℕ)
    → stamped_from f key stamps n p ≡ stamped_by (λ q. is_all_empty f q && is_own_replica f (list_at f q)) (λ q. count_in f (list_at f q) q) key stamps n p
unfolding stamped_from stamped_by
stamps_by f key stamps zero p = refl
stamps_by f key stamps (suc n) p = stamps_by f key (stamped_at f key (list_at f p) p stamps) n (p + 1)

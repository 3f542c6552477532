-- Targets whose pending digests or batches change.
use Rattle.std.proofs.Common.{◌≡◌, ◌==◌, ◌<◌, ◌&&◌, ◌||◌, ℕ, zero, suc, ◌+◌, Bool, true, false, not, List, [], ◌∷◌, Some, length, map, refl, ap, ap₂}
use Rattle.std.specs.List.{list_any}
use Rattle.cluster_types.specs.Partitions.{partition_count}
use Rattle.cluster_types.specs.Rows.{bit}
use Rattle.wire_messages.specs.declared.message.Batch.{Batch}
use Rattle.emigrate.proofs.TargetLaws.{acked_node}
use Rattle.node_rules.specs.Batches.{Target, Targets, acking, acked_out, change_target, done_row, is_pending, sending}
use Rattle.node_rules.specs.Copies.{is_of}
use Rattle.node_rules.specs.Tables.{bits_from, changed_if}
use Rattle.node_view.proofs.RowLaws.{row_of_bits}

one_node : (change : Target → Target) → ((t : Target) → (change t).node ≡ t.node) → (t : Target) (b : Bool) → (changed_if change t b).node ≡ t.node
one_node change same t true = same t
one_node change same t false = refl

pub nodes_changing : (change : Target → Target) → ((t : Target) → (change t).node ≡ t.node) → (n : ℕ) (ts : Targets) → map (λ (t : Target). t.node) (change_target ts n change) ≡ map (λ (t : Target). t.node) ts
nodes_changing change same n [] = refl
nodes_changing change same n (t ∷ ts) = ap₂ (λ (x : ℕ) (xs : List ℕ). x ∷ xs) (one_node change same t (t.node == n)) (nodes_changing change same n ts)

-- an acknowledgement and a batch leave the nodes
pub nodes_acking : (ts : Targets) (from number : ℕ) → map (λ (t : Target). t.node) (acking ts from number) ≡ map (λ (t : Target). t.node) ts
nodes_acking ts from number = nodes_changing (λ t. acked_out t number t.out) (λ t. acked_node t number t.out) from ts

pub nodes_sending : (ts : Targets) (to : ℕ) (b : Batch) → map (λ (t : Target). t.node) (sending ts to b) ≡ map (λ (t : Target). t.node) ts
nodes_sending ts to b = nodes_changing (λ t. record t { out = Some b; batches = b.number }) (λ t. refl) to ts

-- a batch that goes out leaves what is pending
one_pending : (p : ℕ) (b : Batch) (t : Target) (c : Bool) → list_any (is_of p) (changed_if (λ (u : Target). record u { out = Some b; batches = b.number }) t c).pending ≡ list_any (is_of p) t.pending
one_pending p b t true = refl
one_pending p b t false = refl

pub pending_sending : (ts : Targets) (to : ℕ) (b : Batch) (p : ℕ) → is_pending (sending ts to b) p ≡ is_pending ts p
pending_sending [] to b p = refl
pending_sending (t ∷ ts) to b p = ap₂ (λ (x y : Bool). x || y) (one_pending p b t (t.node == to)) (pending_sending ts to b p)

bits_alike : (f g : ℕ → Bool) → ((p : ℕ) → f p ≡ g p) → (n p : ℕ) → bits_from f n p ≡ bits_from g n p
unfolding bits_from
bits_alike f g same zero p = refl
bits_alike f g same (suc n) p = ap₂ (λ (b : Bool) (bs : List Bool). b ∷ bs) (same p) (bits_alike f g same n (p + 1))

pub done_sending : (x : Bool) (ts : Targets) (to : ℕ) (b : Batch) (n p : ℕ) → done_row x (sending ts to b) n p ≡ done_row x ts n p
done_sending x ts to b n p = bits_alike (λ q. x && not (is_pending (sending ts to b) q)) (λ q. x && not (is_pending ts q)) (λ q. ap (λ (c : Bool). x && not c) (pending_sending ts to b q)) n p

-- the row of what is done
pub done_is : (row : List Bool) (ts : Targets) → length row ≡ partition_count → ((p : ℕ) → p < partition_count → bit row p ≡ not (is_pending ts p)) → row ≡ done_row true ts partition_count 0
done_is row ts size at = row_of_bits row (λ q. true && not (is_pending ts q)) partition_count size at

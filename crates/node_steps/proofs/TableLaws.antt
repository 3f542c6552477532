-- Tables for the client.
use Rattle.std.proofs.Common.{◌≡◌, ◌<◌, ◌≤◌, ◌+◌, ℕ, zero, suc, Bool, true, false, List, [], ◌∷◌, Option, Some, None, All, IsSome, length, get_or, refl, sym, ap, ap₂, subst, ◌∙◌, arith, if◌then◌else◌}
use Rattle.std.specs.Option.{ForSome}
use Rattle.cluster_types.specs.Partitions.{partition_count}
use Rattle.cluster_types.specs.Rows.{bit}
use Rattle.wire_messages.specs.Keys.{IsKeyField}
use Rattle.wire_messages.specs.Nodes.{IsId}
use Rattle.wire_messages.specs.Proper.{IsMapTable}
use Rattle.wire_messages.specs.Spelling.{spelling}
use Rattle.wire_messages.specs.declared.message.MapTable.{MapTable}
use Rattle.wire_messages.specs.declared.message.Message.TheVariants as message
use Rattle.node_rules.specs.Effects.{nothing, sends_only, to_one}
use Rattle.node_rules.specs.Exchange.{View, exchange_key}
use Rattle.node_rules.specs.Facts.{Facts, list_at, view_key}
use Rattle.node_rules.specs.Messages.{client, due_map_ask, map_table}
use Rattle.node_rules.specs.Standing.{has_moved, named}
use Rattle.node_rules.specs.ClientMessages.{named_from, moved_from}
use Rattle.node_view.specs.Views.{IsInView, Viewed}
use Rattle.node_steps.specs.Spelled.{spelled, with_sends}

-- ---- by index

first : (p : ℕ) → p + 0 ≡ p
first p = omega arith

shifted : (p k : ℕ) → p + suc k ≡ (p + 1) + k
shifted p k = omega arith

-- the ids of so many partitions, from one on
ids_named : (f : Facts) (n p : ℕ) (ids : List ℕ) → length ids ≡ n → ((k : ℕ) → k < n → get_or ids k 0 ≡ named f (list_at f (p + k)) (p + k)) → ids ≡ named_from f n p
unfolding named_from
ids_named f zero p [] size at = refl
ids_named f zero p (x ∷ ids) size at = absurd (omega (arith, size))
ids_named f (suc n) p [] size at = absurd (omega (arith, size))
ids_named f (suc n) p (x ∷ ids) size at =
    ap₂ (λ (y : ℕ) (ys : List ℕ). y ∷ ys)
    (at 0 (omega arith) ∙ ap (λ (q : ℕ). named f (list_at f q) q) (first p))
    (ids_named f n (p + 1) ids (omega (arith, size)) (λ k within. at (suc k) (omega (arith, within)) ∙ ap (λ (q : ℕ). named f (list_at f q) q) (shifted p k)))

-- and which of them have come to their list masters
bits_moved : (f : Facts) (n p : ℕ) (row : List Bool) → length row ≡ n → ((k : ℕ) → k < n → bit row k ≡ has_moved f (p + k)) → row ≡ moved_from f n p
unfolding moved_from
bits_moved f zero p [] size at = refl
bits_moved f zero p (x ∷ row) size at = absurd (omega (arith, size))
bits_moved f (suc n) p [] size at = absurd (omega (arith, size))
bits_moved f (suc n) p (x ∷ row) size at =
    ap₂ (λ (y : Bool) (ys : List Bool). y ∷ ys)
    (at 0 (omega arith) ∙ ap (has_moved f) (first p))
    (bits_moved f n (p + 1) row (omega (arith, size)) (λ k within. at (suc k) (omega (arith, within)) ∙ ap (has_moved f) (shifted p k)))

-- ---- partition after partition

-- whom the client is to ask for the first partitions, and which of them have come to their list masters
pub record AreTold (v : Viewed) (n : ℕ) (ids : List ℕ) (moved : List Bool) : Type 0 where
  pub ids_size : length ids ≡ partition_count
  pub row_size : length moved ≡ partition_count
  pub ids_of : (f : Facts) → IsInView f v → (k : ℕ) → k < n → get_or ids k 0 ≡ named f (list_at f k) k
  pub moved_of : (f : Facts) → IsInView f v → (k : ℕ) → k < n → bit moved k ≡ has_moved f k
  pub rest : (k : ℕ) → n ≤ k → bit moved k ≡ false

-- the table of all partitions
pub all_told : (v : Viewed) (f : Facts) (ids : List ℕ) (moved : List Bool) → AreTold v partition_count ids moved → IsInView f v
    → (ids ≡ named_from f partition_count 0) × (moved ≡ moved_from f partition_count 0)
all_told v f ids moved h own = (
  ids_named f partition_count 0 ids h.ids_size (λ k within. h.ids_of f own k within ∙ ap (λ (q : ℕ). named f (list_at f q) q) (plain k)),
  bits_moved f partition_count 0 moved h.row_size (λ k within. h.moved_of f own k within ∙ ap (has_moved f) (plain k)),
)
  where
    plain : (k : ℕ) → k ≡ 0 + k
    plain k = omega arith

-- ---- what is told

moved_length : (f : Facts) (n p : ℕ) → length (moved_from f n p) ≡ n
unfolding moved_from
moved_length f zero p = refl
moved_length f (suc n) p = ap suc (moved_length f n (p + 1))

-- the table has a spelling
pub table_proper : (f : Facts) (t : MapTable) → t ≡ map_table f → IsKeyField (view_key f) → length t.ids ≡ partition_count → All IsId t.ids → IsMapTable t
table_proper f t is key size ids = record {
  key = subst (λ (x : MapTable). IsKeyField x.key) (sym is) key;
  size = size;
  ids = ids;
  moved = record { size = ap (λ (x : MapTable). length x.moved) is ∙ moved_length f partition_count 0 };
}

pub told_table : (f : Facts) (t : MapTable) → t ≡ map_table f → f.exchange.exchanged ≡ true → with_sends (spelled nothing) ((client, spelling (message.MapTable t)) ∷ []) ≡ spelled (due_map_ask f)
told_table f t is over =
    ap (λ (x : MapTable). with_sends (spelled nothing) ((client, spelling (message.MapTable x)) ∷ [])) is
    ∙ ap (λ (b : Bool). spelled (if b then sends_only (to_one client (message.MapTable (map_table f))) else nothing)) (sym over)

pub told_no_table : (f : Facts) → f.exchange.exchanged ≡ false → spelled nothing ≡ spelled (due_map_ask f)
told_no_table f before = ap (λ (b : Bool). spelled (if b then sends_only (to_one client (message.MapTable (map_table f))) else nothing)) (sym before)

-- a node that is in a view knows a key that has a spelling
pub key_in_view : (o : Option View) → IsSome o → ForSome o (λ v. IsKeyField v.key) → IsKeyField (exchange_key o)
key_in_view None some fit = cc
key_in_view (Some v) some fit = fit v refl

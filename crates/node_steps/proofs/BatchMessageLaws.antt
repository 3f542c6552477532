-- A batch of records of another node.
use Rattle.std.proofs.Common.{◌≡◌, ℕ, Bool, true, false, ◌++◌, ◌+◌, List, [], ◌∷◌, Some, take, refl, sym, ap, subst, ◌∙◌}
use Rattle.std.specs.Prelude.{IsSome, map, if◌then◌else◌}
use Rattle.std.specs.List.{slice_get}
use Rattle.std.proofs.lemmas.List.{map_more}
use Rattle.std.proofs.lemmas.Option.{get_or_from_slice_get, slice_get_within}
use Rattle.conflict_order.specs.declared.policy.Policy.{Policy}
use Rattle.cluster_types.specs.declared.cluster_key.ClusterKey.{ClusterKey}
use Rattle.journal_lines.specs.declared.line.Line.{Line}
use Rattle.wire_messages.specs.declared.message.Batch.{Batch}
use Rattle.wire_messages.specs.declared.message.Message.TheVariants as message
use Rattle.wire_messages.specs.Proper.{IsBatch}
use Rattle.node_rules.specs.Copies.{Content, joined}
use Rattle.node_rules.specs.Effects as rules
use Rattle.node_rules.specs.Effects.{to_one, lines_and_sends}
use Rattle.node_rules.specs.Facts.{Facts, view_key}
use Rattle.node_rules.specs.Merging.{Record, is_newer_than_held, newer_records, store_merged_all}
use Rattle.node_rules.specs.Messages as due
use Rattle.node_rules.specs.Messages.{merge_line}
use Rattle.node_rules.specs.Notes.{in_view}
use Rattle.node_rules.specs.Steps.{after_message}
use Rattle.node_rules.proofs.Merged.{merges_lines}
use Rattle.node_rules.proofs.PartLaws.{batch_is}
use Rattle.node_rules.specs.Tables.{only_if}
use Rattle.immigrate.specs.declared.merging.Merged.{Merged}
use Rattle.node_view.specs.declared.view_step.ViewStep.TheVariants as step
use Rattle.node_view.specs.Plans as view
use Rattle.node_steps.specs.Fits.{FitsView}
use Rattle.node_steps.specs.Ranges.{HasRanges}
use Rattle.node_steps.proofs.AckLaws.{view_key_is}
use Rattle.node_steps.proofs.StepRanges.{merged_ranges}
use Rattle.node_rules.specs.BatchMessages.{merging_all}
use Rattle.node_rules.specs.StaleMessages.{stale}

-- the line of one record more
pub line_more : (line_of : Record → Line) (rs : List Record) (i : ℕ) (r : Record) → Some r ≡ slice_get rs i → map line_of (take i rs) ++ line_of r ∷ [] ≡ map line_of (take (i + 1) rs)
line_more line_of rs i r is =
    sym (map_more line_of rs i r (slice_get_within rs i r (sym is)) ∙ ap (λ (x : Record). map line_of (take i rs) ++ line_of x ∷ []) (get_or_from_slice_get rs i r r (sym is)))

-- those that are newer are so without the others
pub newer_again : (by : Policy) (c : Content) (rs : List Record) → newer_records by c (newer_records by c rs) ≡ newer_records by c rs
newer_again by c [] = refl
newer_again by c (r ∷ rs) = go (is_newer_than_held by c r) refl (newer_again by (if is_newer_than_held by c r then joined by c r.0 r.1 else c) rs)
  where
    first : (b : Bool) (xs : List Record) → is_newer_than_held by c r ≡ b → newer_records by c (r ∷ xs) ≡ only_if r b ++ newer_records by (if b then joined by c r.0 r.1 else c) xs
    first b xs e = ap
        (λ (x : Bool). only_if r x ++ newer_records by (if x then joined by c r.0 r.1 else c) xs) e

    go : (b : Bool) → is_newer_than_held by c r ≡ b
        → newer_records by (if b then joined by c r.0 r.1 else c) (newer_records by (if b then joined by c r.0 r.1 else c) rs) ≡ newer_records by (if b then joined by c r.0 r.1 else c) rs
        → newer_records by c (only_if r b ++ newer_records by (if b then joined by c r.0 r.1 else c) rs) ≡ only_if r b ++ newer_records by (if b then joined by c r.0 r.1 else c) rs
    go true e ih = first true (newer_records by (if true then joined by c r.0 r.1 else c) rs) e ∙ ap (λ (xs : List Record). r ∷ xs) ih
    go false e ih = ih

-- what is told of a batch in the view
pub batch_told : (f : Facts) (from : ℕ) (b : Batch) → in_view f b.key ≡ true
    → due.due_batch f from b ≡ record { lines = map (merge_line f.me b.key) (newer_records f.store.by f.store.content b.records); sends = to_one from (message.BatchAck b.key b.number) }
batch_told f from b of_view =
    ap (λ (v : Bool). (if v then lines_and_sends (merging_all f b.records) (to_one from (message.BatchAck b.key b.number)) else stale f)) of_view
    ∙ ap (λ (ls : List Line). let e : rules.Effects = record { lines = ls; sends = to_one from (message.BatchAck b.key b.number) } in e)
    (merges_lines f b.records ∙ ap (λ (k : ClusterKey). map (merge_line f.me k) (newer_records f.store.by f.store.content b.records)) (view_key_is f b.key of_view))

pub batch_after : (f : Facts) (from : ℕ) (b : Batch) → in_view f b.key ≡ true
    → after_message f 0 from (message.Batch b) ≡ record f { store = store_merged_all f.store (view_key f) (newer_records f.store.by f.store.content b.records) }
batch_after f from b of_view =
    batch_is f 0 from b
    ∙ ap (λ (v : Bool). (if v then record f { store = store_merged_all f.store (view_key f) (newer_records f.store.by f.store.content b.records) } else f)) of_view

pub batch_fits : (f : Facts) (b : Batch) (m : Merged) → IsSome f.exchange.view → m.newer ≡ newer_records f.store.by f.store.content b.records → FitsView f (step.Merged m)
batch_fits f b m in_one e = record {
  step = record { newer = ap (newer_records f.store.by f.store.content) e ∙ newer_again f.store.by f.store.content b.records ∙ sym e };
  in_one = in_one;
}

pub batch_ranges : (f : Facts) (b : Batch) (m : Merged) → IsBatch b → m.newer ≡ newer_records f.store.by f.store.content b.records → HasRanges f → HasRanges (view.view_taken f (step.Merged m))
batch_ranges f b m fit e h =
    subst (λ (rs : List Record). HasRanges (record f { store = store_merged_all f.store (view_key f) rs })) (sym e) (merged_ranges f (view_key f) b fit h)

-- What a batch merges is what is newer in it than what is held.
use Rattle.std.proofs.Common.{◌≡◌, Bool, true, false, List, [], ◌∷◌, ◌++◌, None, map, refl, ap, if◌then◌else◌}
use Rattle.node_rules.specs.Facts.{Facts, view_key}
use Rattle.node_rules.specs.Merging.{Record, is_newer_than_held, newer_records, joined_all, store_merged_all}
use Rattle.node_rules.specs.Messages.{merging_all, merge_line}
use Rattle.node_rules.specs.Notes.{note, noted}
use Rattle.node_rules.specs.Tables.{only_if}
use Rattle.node_rules.specs.Copies.{joined}

-- the facts of which a batch's lines are due
record Merges (f : Facts) (rs : List Record) : Type 0 where
  lines : merging_all f rs ≡ map (merge_line f.me (view_key f)) (newer_records f.store.by f.store.content rs)
  content : (noted None f (merging_all f rs)).store.content ≡ joined_all f.store.by f.store.content (newer_records f.store.by f.store.content rs)
  facts : noted None f (merging_all f rs) ≡ record f { store = store_merged_all f.store (view_key f) (newer_records f.store.by f.store.content rs) }

-- the facts with the record where the test holds
abbrev with_record : Facts → Record → Bool → Facts
with_record f r b = noted None f (only_if (merge_line f.me (view_key f) r) b)

record MergesFirst (f : Facts) (r : Record) (rs : List Record) (b : Bool) : Type 0 where
  lines : (only_if (merge_line f.me (view_key f) r) b ++ merging_all (with_record f r b) rs)
      ≡ map (merge_line f.me (view_key f)) (only_if r b ++ newer_records f.store.by (if b then joined f.store.by f.store.content r.0 r.1 else f.store.content) rs)
  content : (noted None f (only_if (merge_line f.me (view_key f) r) b ++ merging_all (with_record f r b) rs)).store.content
      ≡ joined_all f.store.by f.store.content (only_if r b ++ newer_records f.store.by (if b then joined f.store.by f.store.content r.0 r.1 else f.store.content) rs)
  facts : noted None f (only_if (merge_line f.me (view_key f) r) b ++ merging_all (with_record f r b) rs)
      ≡ record f { store = store_merged_all f.store (view_key f) (only_if r b ++ newer_records f.store.by (if b then joined f.store.by f.store.content r.0 r.1 else f.store.content) rs) }

first : (f : Facts) (r : Record) (rs : List Record) → ((g : Facts) → Merges g rs) → (b : Bool) → MergesFirst f r rs b
first f r rs rest true =
    let h = rest (note None f (merge_line f.me (view_key f) r)) in
    record { lines = ap (λ ls. merge_line f.me (view_key f) r ∷ ls) h.lines; content = h.content; facts = h.facts }
first f r rs rest false = let h = rest f in record { lines = h.lines; content = h.content; facts = h.facts }

merges_all : (f : Facts) (rs : List Record) → Merges f rs
merges_all f [] = record { lines = refl; content = refl; facts = refl }
merges_all f (r ∷ rs) =
    let h = first f r rs (λ g. merges_all g rs) (is_newer_than_held f.store.by f.store.content r) in
    record { lines = h.lines; content = h.content; facts = h.facts }

pub merges_lines : (f : Facts) (rs : List Record) → merging_all f rs ≡ map (merge_line f.me (view_key f)) (newer_records f.store.by f.store.content rs)
merges_lines f rs = (merges_all f rs).lines

pub merges_content : (f : Facts) (rs : List Record)
    → (noted None f (merging_all f rs)).store.content ≡ joined_all f.store.by f.store.content (newer_records f.store.by f.store.content rs)
merges_content f rs = (merges_all f rs).content

pub merges_facts : (f : Facts) (rs : List Record)
    → noted None f (merging_all f rs) ≡ record f { store = store_merged_all f.store (view_key f) (newer_records f.store.by f.store.content rs) }
merges_facts f rs = (merges_all f rs).facts

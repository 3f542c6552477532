-- Who holds the newest version of a record.
use Rattle.std.specs.Prelude.{◌≡◌, ℕ, Bool, not, ◌&&◌, ◌||◌, nat_lt, List, Option, is_some}
use Rattle.std.specs.List.{count_by}
use Rattle.conflict_order.specs.declared.policy.Policy.{Policy}
use Rattle.conflict_order.specs.declared.version.Version.{Version}
use Rattle.audit_core.specs.declared.judge.Judge.{Judge}
use Rattle.audit_state.specs.Histories.{value_now}
use Rattle.audit_state.specs.Places.{placed, is_at_most}
use Rattle.audit_state.specs.Records.{newest_of, holders_of}
use Rattle.audit_state.specs.Stores.{history_of}

-- the place of the version that the node holds of the record of this number
abbrev pub content_now : Judge → ℕ → ℕ → Option ℕ
content_now s n r = value_now (history_of s.stores n r)

-- whether who holds this holds the newest version, if there is one
abbrev pub holds_top : Policy → Option Version → Option Version → Bool
holds_top by top held = is_some top && is_at_most by top held

-- whether it holds the newest version of the record that was applied
abbrev pub holds_newest : Judge → ℕ → ℕ → Bool
holds_newest s n r =
    holds_top s.by (placed s.lines.now (newest_of s.records r))
    (placed s.lines.now (content_now s n r))

-- whether another node holds it, where this one does
abbrev pub is_held_elsewhere : Judge → ℕ → ℕ → Bool
is_held_elsewhere s n r = not (holds_newest s n r) || nat_lt 1 (holders_of s.records r)

-- of each record it is known how many of these nodes hold its newest version
abbrev pub AreHoldersCounted : Judge → List ℕ → Type 0
AreHoldersCounted s ns = (r : ℕ) → holders_of s.records r ≡ count_by (λ n. holds_newest s n r) ns

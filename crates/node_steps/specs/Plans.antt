-- What a planned step makes of the facts.
use Rattle.std.specs.Prelude.{ℕ, Bool, true, if◌then◌else◌, List, Option, Some, None, option_map}
use Rattle.wire_messages.specs.declared.message.Batch.{Batch}
use Rattle.node_rules.specs.Agreement.{Agreement, seeing}
use Rattle.node_rules.specs.ByParts.{exchanged_if, sending_all}
use Rattle.node_rules.specs.Copies.{Row}
use Rattle.node_rules.specs.Facts.{Facts, view_key}
use Rattle.node_rules.specs.Hearing as hearing
use Rattle.node_rules.specs.Hearing.{beat_heard, without_quiet}
use Rattle.node_rules.specs.Messages.{finishes}
use Rattle.node_rules.specs.Notes.{closed, row_came, stopped}
use Rattle.node_rules.specs.Transactions as rules
use Rattle.node_view.specs.Plans as view
use Rattle.node_view.specs.Plans.{settled_by, with_stamps}
use Rattle.node_view.specs.Views.{Viewed, with_view}
use Rattle.node_steps.specs.declared.planned.Planned.{Planned}
use Rattle.node_steps.specs.declared.planned.Planned.TheVariants as planned
use Rattle.node_steps.specs.declared.planned.Ticked.{Ticked}

-- ---- choices

-- the first, and without it the second
abbrev pub either : {X : Type 0} → Option X → Option X → Option X
either (Some x) o = Some x
either None o = o

-- ---- views

-- the view was entered, if there is one
abbrev pub with_entered : Facts → Option Viewed → Facts
with_entered f None = f
with_entered f (Some v) =
    with_stamps (with_view (record f { hearing = without_quiet f.hearing }) (Some v))
    v.exchange.exchanged

-- the agreement went on, and the view was entered, if there is one
abbrev pub agreed : Facts → Agreement → Option Viewed → Facts
agreed f a entered = with_entered (record f { agreement = a }) entered

-- a row came from a member whose row may be there; with the last one the exchange is finished
abbrev pub after_row : Facts → ℕ → Row → Facts
after_row f from row =
    exchanged_if (row_came f from row true) (view_key f) (finishes f (row_came f from row true))

-- these batches were sent
abbrev pub with_sent : Facts → List (ℕ × Batch) → Facts
with_sent f sent = record f { batches = sending_all f.batches sent }

-- what is heard is a tick older
abbrev pub with_aged_hearing : Facts → Facts
with_aged_hearing f = record f { hearing = hearing.ticked f.me f.role f.hearing }

-- a tick
abbrev pub tick_taken : Facts → Ticked → Facts
tick_taken f t =
    with_sent (settled_by
    (agreed (with_aged_hearing f) t.agree.agreement (option_map (λ v. v.value) t.entered))
    t.settlings.items) t.batches.items

-- ---- acknowledgements of writes

-- an acknowledgement came that was awaited: with the last one the transaction is closed
abbrev pub after_ack : Facts → ℕ → ℕ → Bool → Facts
after_ack f from number is_last =
    if is_last then closed f number
    else record f { transactions = rules.acknowledging f.transactions from number }

-- ---- all steps

-- the facts after the step
abbrev pub taken : Facts → Planned → Facts
taken f planned.Nothing = f
taken f (planned.Tick t) = tick_taken f t.value
taken f (planned.Agreed agree entered) =
    agreed f agree.value.agreement (option_map (λ v. v.value) entered)
taken f (planned.Heard from beat) = record f {
  hearing = beat_heard f.hearing from beat;
  agreement = seeing f.agreement beat.promised;
}
taken f (planned.View s) = view.view_taken f s.value
taken f planned.Stopped = stopped f

-- the facts after the step that is planned, where one is
abbrev pub next_of : Facts → Option Planned → Option Facts
next_of f None = None
next_of f (Some p) = Some (taken f p)

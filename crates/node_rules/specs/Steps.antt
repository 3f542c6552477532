-- The facts of a node after a step.
use Rattle.std.specs.Prelude.{ℕ, List, Option, Some, None}
use Rattle.conflict_order.specs.declared.want.Want.{Want}
use Rattle.cluster_types.specs.Partitions.{partition_count}
use Rattle.wire_messages.specs.declared.message.Message.{Message}
use Rattle.node_rules.specs.Effects.{Effects}
use Rattle.node_rules.specs.Facts.{Facts}
use Rattle.node_rules.specs.Messages.{due_message_of}
use Rattle.node_rules.specs.Notes.{noted, all_sent, reached}
use Rattle.node_rules.specs.Requests.{due_request, due_stop, due_start}
use Rattle.node_rules.specs.Tick.{due_tick}

-- the facts with the lines and then with the messages of a step, where this want is in hand
abbrev pub facts_after : Option Want → Facts → Effects → Facts
facts_after q f e = all_sent (noted q f e.lines) e.sends

-- the facts after a tick
abbrev pub after_tick : Facts → Facts
after_tick f = facts_after None f (due_tick f)

-- the facts after a message with so many partitions, which itself comes first
abbrev pub after_message_of : ℕ → Facts → ℕ → ℕ → Message → Facts
after_message_of n f clock from m = facts_after None (reached f from m)
    (due_message_of n f clock from m)

-- the facts after a message
abbrev pub after_message : Facts → ℕ → ℕ → Message → Facts
after_message f clock from m = after_message_of partition_count f clock from m

-- the facts after a request
abbrev pub after_request : Facts → ℕ → List ℕ → Want → Facts
after_request f clock digest w = facts_after (Some w) f (due_request f clock digest w)

-- the facts after a stop
abbrev pub after_stop : Facts → Facts
after_stop f = facts_after None f (due_stop f)

-- the facts after a start
abbrev pub after_start : Facts → Facts
after_start f = facts_after None f (due_start f)

-- the facts, and those after the step that was planned last, where it isn't yet taken or given up
pub record Planning : Type 0 where
  pub now : Facts
  pub next : Option Facts

-- nothing is planned
abbrev pub unplanned : Facts → Planning
unplanned f = record { now = f; next = None }

-- a step is planned, after which the facts are these
abbrev pub planning : Facts → Facts → Planning
planning f after = record { now = f; next = Some after }

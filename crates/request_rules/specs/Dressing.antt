-- What a step of a node adds for requests that came or went as messages, behind what it does without them.
use Rattle.std.specs.Prelude.{◌++◌, Option}
use Rattle.node_rules.specs.Effects.{Effects}
use Rattle.node_rules.specs.Facts.{Facts, view_key}
use Rattle.request_rules.specs.declared.taken.Asker.{Asker}
use Rattle.request_rules.specs.Passing.{with_given_up}
use Rattle.request_rules.specs.Requests.{NodeRequests}
use Rattle.request_rules.specs.TakenUp.{owed}

-- a step of the node with this asker in hand: the lines of what it gives up as it leaves its view, and behind its other
-- messages the replies that its lines owe, in the view in which the step began
abbrev pub with_requests : NodeRequests → Facts → Option Asker → Effects → Effects
with_requests r f a e = record {
  lines = with_given_up r.passed.waiting (view_key f) f.me e.lines;
  sends = e.sends ++ owed (view_key f) a r.taken e.lines;
}

-- The effects of a step of a node with what requests add to them, as they are told.
use Rattle.std.specs.Prelude.{ℕ, ◌++◌, Option}
use Rattle.cluster_types.specs.declared.cluster_key.ClusterKey.{ClusterKey}
use Rattle.node_steps.specs.Spelled.{spelled_sends}
use Rattle.node_steps.specs.declared.effects.Effects.{Effects}
use Rattle.request_rules.specs.declared.taken.Asker.{Asker}
use Rattle.request_rules.specs.Passing.{with_given_up}
use Rattle.request_rules.specs.Requests.{NodeRequests}
use Rattle.request_rules.specs.TakenUp.{owed}

-- a step of the node of that id, which began in the view of that key, with this asker in hand: what the node gives up
-- stands right before the line at which it leaves its view, and the replies that the lines owe behind the other messages
abbrev pub dressed : NodeRequests → ℕ → ClusterKey → Option Asker → Effects → Effects
dressed r me key a e = record {
  lines = with_given_up r.passed.waiting key me e.lines;
  sends = e.sends ++ spelled_sends (owed key a r.taken e.lines);
}

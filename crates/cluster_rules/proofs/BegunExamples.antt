-- Runs that were begun, of scripts that are known.
use Rattle.std.proofs.Common.{None, List, [], ◌∷◌, ◌++◌, refl, sym, inl, inr}
use Rattle.cluster_types.specs.Partitions.{partition_count}
use Rattle.journal_lines.specs.declared.line.Line.TheVariants as line
use Rattle.cluster_rules.specs.declared.event.Event.TheVariants as event
use Rattle.cluster_rules.specs.Begun.{BegunRun}
use Rattle.cluster_rules.specs.Steps.{Step}
use Rattle.cluster_rules.specs.WorldExamples.{one_node, entering_lines, put_lines, get_lines, calm_twice}
use Rattle.cluster_rules.proofs.BegunLaws.{front_of_run}
use Rattle.cluster_rules.proofs.OneCalm as calm
use Rattle.cluster_rules.proofs.OneNode as node
use Rattle.cluster_rules.proofs.OneNode.{step_of, tick}

abbrev ticks : List Step
ticks = step_of tick (line.Tick 1 ∷ []) ∷ step_of tick (line.Tick 1 ∷ []) ∷ []

-- the put comes next after three ticks
pub put_next : BegunRun one_node (line.Node 1 None ∷ line.Tick 1 ∷ line.Tick 1 ∷ entering_lines) put_lines
unfolding node.runs
put_next =
    front_of_run partition_count one_node _ node.runs (ticks ++ step_of tick entering_lines ∷ []) (step_of node.put put_lines)
    (record { others = step_of node.get get_lines ∷ []; in_order = refl })

-- the tick of calm's third round, in which the node enters its view; that the world is calm behind it plays no part
pub tick_next : BegunRun calm_twice (line.Node 1 None ∷ line.Tick 1 ∷ line.Tick 1 ∷ []) entering_lines
tick_next = record {
  taken = ticks;
  step = step_of tick entering_lines;
  begun = inl (record {
    whole = calm.three;
    plays = inr (record { number = 3; uneasy = calm.uneasy; played = sym calm.after_three });
    front = record { others = []; in_order = refl };
  });
  written = refl;
  following = refl;
}

-- the event that ends the first calm
pub calm_next : BegunRun calm_twice (line.Node 1 None ∷ line.Tick 1 ∷ line.Tick 1 ∷ entering_lines) (line.Calm 3 ∷ [])
unfolding calm.runs
calm_next =
    front_of_run partition_count calm_twice _ calm.runs (ticks ++ step_of tick entering_lines ∷ []) (step_of (event.Calmed 3) (line.Calm 3 ∷ []))
    (record { others = _; in_order = refl })

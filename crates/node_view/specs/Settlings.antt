-- How a node stands to a partition, and what a tick does about it, as the code keeps them.
use Rattle.std.specs.Prelude.{ℕ, ◌&&◌, ◌||◌, Bool, not, List, ◌++◌, flat_map}
use Rattle.cluster_types.specs.declared.cluster_key.ClusterKey.{ClusterKey}
use Rattle.journal_lines.specs.declared.line.Line.{Line}
use Rattle.journal_lines.specs.declared.line.Line.TheVariants as line
use Rattle.node_rules.specs.Here as rules
use Rattle.node_rules.specs.Here.{hands, settles, learns, drops}
use Rattle.node_rules.specs.Tables.{only_if}
use Rattle.node_view.specs.declared.here.Here.{Here}
use Rattle.node_view.specs.declared.here.Settling.{Settling}

-- how the node stands to the partition
abbrev pub here_of : Here → rules.Here
here_of h = record {
  acting = h.acting;
  master = h.master;
  replica = h.replica;
  handed = h.handed;
  own_handed = h.own_handed;
  settled = h.settled;
  learnt = h.learnt;
  done = h.done;
  all_done = h.all_done;
  busy = h.busy;
  empty = h.empty;
  holds = h.holds;
}

-- whether the node has the partition and isn't to keep it
abbrev pub keeps : rules.Here → Bool
keeps h = h.acting && (not h.master && not h.own_handed)

-- whether the partition, once it is settled, leaves the node nothing to do
abbrev pub has_done_its_share : rules.Here → Bool
has_done_its_share h = not (keeps h) && ((h.learnt || not h.replica) && (h.replica || not h.holds))

-- whether the node has something to learn or to drop of a partition that was settled before
abbrev pub is_to_learn_or_drop : rules.Here → Bool
is_to_learn_or_drop h =
    h.settled && ((h.replica && not h.learnt) || (h.done && (not h.replica && h.holds)))

-- what a tick does about a partition to which the node stands so
abbrev pub settling_of : ℕ → rules.Here → Settling
settling_of p h = record {
  partition = p;
  hands = hands h;
  settles = settles h;
  learns = learns h;
  drops = drops h;
}

-- the lines of that
abbrev pub lines_of_settling : ℕ → ClusterKey → Settling → List Line
lines_of_settling me key s =
    only_if (line.Handed me key s.partition) s.hands
    ++ (only_if (line.Settled me key s.partition) s.settles
    ++ (only_if (line.Learn me key s.partition) s.learns
    ++ only_if (line.Drop me key s.partition) s.drops))

-- the lines of what a tick does about partitions
abbrev pub settling_lines : ℕ → ClusterKey → List Settling → List Line
settling_lines me key ss = flat_map (lines_of_settling me key) ss

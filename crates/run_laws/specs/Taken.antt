-- Steps that are taken: allowed, of a header and events that keep their ranges, and not too many.
use Rattle.std.specs.Prelude.{◌<◌, ◌^◌, ℕ, false, List, [], length, None, All, unwrap_or}
use Rattle.cluster_types.specs.Groups.{AreGroups}
use Rattle.cluster_types.specs.NodeLists.{IsNodeList}
use Rattle.cluster_types.specs.Partitions.{partition_count}
use Rattle.cluster_types.specs.StateRows.{state_of}
use Rattle.script_lang.specs.Proper.{IsProperHeaderLine}
use Rattle.wire_messages.specs.Nodes.{IsId}
use Rattle.wire_messages.specs.Versions.{IsDigest, IsValue}
use Rattle.cluster_rules.specs.declared.event.Event.{Event}
use Rattle.cluster_rules.specs.declared.event.Event.TheVariants as event
use Rattle.cluster_rules.specs.Allowed.{AreAllowed}
use Rattle.cluster_rules.specs.Opening.{Header, declared_factor, declared_nodes, declared_policy}
use Rattle.cluster_rules.specs.Steps.{Step, all_marks, all_lines}
use Rattle.cluster_rules.specs.World.{opened}
use Rattle.cluster_laws.specs.Ground.{Ground}
use Rattle.key_laws.specs.Traced.{untouched}
use Rattle.run_laws.specs.Fronts.{Front, front_after_all}

-- what the event brings keeps its ranges: a clock's time is below 2^64, groups have no node twice, the id of a node that
-- ticks is one, and digests and values are such as a message can carry
abbrev pub IsProperEvent : Event → Type 0
IsProperEvent (event.Clock n time) = time < 2 ^ 64
IsProperEvent (event.Groups groups) = AreGroups groups
IsProperEvent (event.Tick n) = IsId n
IsProperEvent (event.Put n d v) = IsDigest d × IsValue v
IsProperEvent (event.Get n d) = IsDigest d
IsProperEvent (event.Del n d) = IsDigest d
IsProperEvent (event.ClientPut d v) = IsDigest d × IsValue v
IsProperEvent (event.ClientGet d) = IsDigest d
IsProperEvent (event.ClientDel d) = IsDigest d
IsProperEvent _ = Unit {0}

-- fewer lines than a number in a message can count
abbrev pub line_bound : ℕ
line_bound = 2 ^ 32

pub record Taken (h : Header) (ss : List Step) : Type 0 where
  -- the header's lines keep their ranges, and declare at most sixteen nodes, none twice
  pub header : All IsProperHeaderLine h
  pub declared : IsNodeList (declared_nodes h)
  -- each event may come where it comes, and has just the lines that are due of it
  pub allowed : AreAllowed partition_count (opened h) ss
  pub ranges : All (λ (s : Step). IsProperEvent s.event) ss
  pub short : length (all_lines ss) < line_bound

-- before the first step
abbrev pub first : Header → Front
first h = record {
  chronicle = record { traced = untouched (opened h); rows = λ n k. [] };
  owed = None;
  closing = λ n. false;
  lines = 0;
}

-- the ground of steps: what their history says at its end
abbrev pub ground_of : Header → List Step → Ground
ground_of h ss = record {
  by = declared_policy h;
  factor = declared_factor h;
  members = λ k. unwrap_or ((front_after_all (first h) (all_marks ss)).chronicle.traced.lists k) [];
  row = λ k n p. state_of ((front_after_all (first h) (all_marks ss)).chronicle.rows n k) p;
}

-- Which events may come in a world, and steps that are allowed. The number of partitions is an argument.
use Rattle.std.specs.Prelude.{◌≡◌, ℕ, ◌&&◌, Bool, true, List, [], ◌∷◌, Option, Some, None, IsTrue}
use Rattle.std.specs.List.{list_all, concat}
use Rattle.script_lang.specs.declared.script.Command.{Command}
use Rattle.script_lang.specs.declared.script.Command.TheVariants as command
use Rattle.cluster_rules.specs.declared.event.Event.{Event}
use Rattle.cluster_rules.specs.declared.event.Event.TheVariants as event
use Rattle.cluster_rules.specs.Calm.{is_calm_of}
use Rattle.cluster_rules.specs.DueEvents.{due_of}
use Rattle.journal_readings.specs.Lines.{has_node}
use Rattle.cluster_rules.specs.Marks.{after_all}
use Rattle.cluster_rules.specs.Steps.{Step, marks_of}
use Rattle.cluster_rules.specs.World.{World}

-- ---- events

-- the nodes that the event names
abbrev pub event_nodes : Event → List ℕ
event_nodes (event.Clock n time) = n ∷ []
event_nodes (event.Groups groups) = concat groups
event_nodes (event.Tick n) = n ∷ []
event_nodes (event.Stop n) = n ∷ []
event_nodes (event.Start n) = n ∷ []
event_nodes (event.Put n d v) = n ∷ []
event_nodes (event.Get n d) = n ∷ []
event_nodes (event.Del n d) = n ∷ []
event_nodes (event.Ask n) = n ∷ []
event_nodes (event.Map n from to) = n ∷ []
event_nodes (event.Show n d) = n ∷ []
event_nodes (event.Quiesce n) = n ∷ []
event_nodes (event.Unquiesce n) = n ∷ []
event_nodes (event.ProxyGet n d) = n ∷ []
event_nodes (event.ProxyPut n d v) = n ∷ []
event_nodes (event.ProxyDel n d) = n ∷ []
event_nodes (event.ProxyAgain n) = n ∷ []
event_nodes _ = []

-- whether groups name each of these nodes; other events needn't name any
abbrev pub groups_all : List ℕ → Event → Bool
groups_all nodes (event.Groups groups) = list_all (has_node (concat groups)) nodes
groups_all nodes _ = true

-- whether the event names declared nodes alone, and groups each of them
abbrev pub names_known : List ℕ → Event → Bool
names_known nodes e = list_all (has_node nodes) (event_nodes e) && groups_all nodes e

-- whether the world is calm where the event ends its rounds
abbrev pub ends_calm : ℕ → World → Event → Bool
ends_calm n w (event.Calmed rounds) = is_calm_of n w
ends_calm n w _ = true

-- whether the event may come: it names declared nodes alone, groups name each of them, and rounds end only where the
-- world is calm
abbrev pub may_come : ℕ → World → Event → Bool
may_come n w e = names_known w.nodes e && ends_calm n w e

-- ---- steps

-- the event may come, and the step has just the lines that are due of it
pub record IsAllowed (n : ℕ) (w : World) (s : Step) : Type 0 where
  pub comes : IsTrue (may_come n w s.event)
  pub due : s.lines ≡ due_of n w s.event

-- each step is allowed in the world after those before it
abbrev pub AreAllowed : ℕ → World → List Step → Type 0
AreAllowed n w [] = Unit {0}
AreAllowed n w (s ∷ ss) = IsAllowed n w s × AreAllowed n (after_all w (marks_of s)) ss

-- ---- commands

-- the event that the command is; none of a flow, a round and calm, which are several
abbrev pub event_of : Command → Option Event
event_of (command.Clock n time) = Some (event.Clock n time)
event_of (command.Groups groups) = Some (event.Groups groups)
event_of (command.Tick n) = Some (event.Tick n)
event_of (command.Stop n) = Some (event.Stop n)
event_of (command.Start n) = Some (event.Start n)
event_of (command.Put n d v) = Some (event.Put n d v)
event_of (command.Get n d) = Some (event.Get n d)
event_of (command.Del n d) = Some (event.Del n d)
event_of (command.ClientPut d v) = Some (event.ClientPut d v)
event_of (command.ClientGet d) = Some (event.ClientGet d)
event_of (command.ClientDel d) = Some (event.ClientDel d)
event_of (command.Ask n) = Some (event.Ask n)
event_of (command.Deliver i) = Some (event.Deliver i)
event_of (command.Repeat i) = Some (event.Repeat i)
event_of (command.Lose i) = Some (event.Lose i)
event_of (command.Cut i size) = Some (event.Cut i size)
event_of (command.Map n from to) = Some (event.Map n from to)
event_of (command.Place p) = Some (event.Place p)
event_of (command.Hash d) = Some (event.Hash d)
event_of (command.Show n d) = Some (event.Show n d)
event_of (command.Quiesce n) = Some (event.Quiesce n)
event_of (command.Unquiesce n) = Some (event.Unquiesce n)
event_of (command.ProxyGet n d) = Some (event.ProxyGet n d)
event_of (command.ProxyPut n d v) = Some (event.ProxyPut n d v)
event_of (command.ProxyDel n d) = Some (event.ProxyDel n d)
event_of (command.ProxyAgain n) = Some (event.ProxyAgain n)
event_of (command.CallGet d) = Some (event.CallGet d)
event_of (command.CallPut d v) = Some (event.CallPut d v)
event_of (command.CallDel d) = Some (event.CallDel d)
event_of (command.CallAgain q) = Some (event.CallAgain q)
event_of (command.Scan p) = Some (event.Scan p)
event_of (command.ScanNext s) = Some (event.ScanNext s)
event_of _ = None

abbrev pub is_known : List ℕ → Option Event → Bool
is_known nodes None = true
is_known nodes (Some e) = names_known nodes e

-- whether the command names declared nodes alone, and groups each of them
abbrev pub is_playable : List ℕ → Command → Bool
is_playable nodes c = is_known nodes (event_of c)

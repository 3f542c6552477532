-- What a world is to its callers: its header and its steps.
use Rattle.std.specs.Prelude.{◌≡◌, ℕ, nat_lt, Bool, true, false, List, [], ◌∷◌, ◌++◌, slice_get, Some, Result, IsTrue, OnOk, OnErr, IsErrOf}
use Rattle.conflict_order.specs.declared.want.Want.{Want}
use Rattle.conflict_order.specs.declared.want.Want.TheVariants as want
use Rattle.cluster_types.specs.Partitions.{partition_count}
use Rattle.partition_lists.specs.Lists.{in_order}
use Rattle.journal_lines.specs.declared.line.Line.{Line}
use Rattle.journal_lines.specs.declared.line.Line.TheVariants as line
use Rattle.journal_text.specs.Journals.{IsWithin}
use Rattle.cluster_rules.specs.declared.event.Event.{Event}
use Rattle.cluster_rules.specs.declared.event.Event.TheVariants as event
use Rattle.cluster_rules.specs.Allowed.{may_come}
use Rattle.cluster_rules.specs.DueEvents.{due}
use Rattle.cluster_rules.specs.Marks.{after_all}
use Rattle.cluster_rules.specs.Opening.{Header, declared_nodes, header_lines}
use Rattle.cluster_rules.specs.Steps.{Step, all_lines, all_marks, play_all}
use Rattle.cluster_rules.specs.World as worlds
use Rattle.cluster_rules.specs.World.{opened}
use Rattle.world.specs.declared.fault.StepFault.{StepFault}
use Rattle.world.specs.declared.fault.StepFault.TheVariants.{RunTooLong}

-- a header, and the steps since
pub record RunSoFar : Type 0 where
  pub header : Header
  pub steps : List Step

-- no step yet
abbrev pub run_begun : Header → RunSoFar
run_begun h = record { header = h; steps = [] }

-- the world after the steps
unfoldable pub standing : RunSoFar → worlds.World
standing r = after_all (opened r.header) (all_marks r.steps)

-- the lines so far
unfoldable pub run_lines : RunSoFar → List Line
run_lines r = header_lines r.header ++ all_lines r.steps

-- the lines that the event adds
unfoldable pub next_lines : RunSoFar → Event → List Line
next_lines r e = due (standing r) e

-- the run with one more step: the event with just the lines that are due of it
unfoldable pub stepped : RunSoFar → Event → RunSoFar
stepped r e = record r { steps = r.steps ++ record { event = e; lines = next_lines r e } ∷ [] }

-- the run of the events, each with the lines that are due of it
unfoldable pub run_of_events : Header → List Event → RunSoFar
run_of_events h es = record { header = h; steps = (play_all partition_count es (opened h)).steps }

-- the event may come after the run's steps
abbrev pub MayCome : RunSoFar → Event → Type 0
MayCome r e = IsTrue (may_come partition_count (standing r) e)

-- that node stands at that place among the declared ones, in rising order
abbrev pub StandsAt : RunSoFar → ℕ → ℕ → Type 0
StandsAt r place n = slice_get (in_order nat_lt (declared_nodes r.header)) place ≡ Some n

-- ---- events of one kind

-- a request at a node
abbrev pub requesting : ℕ → List ℕ → Want → Event
requesting n d want.Get = event.Get n d
requesting n d (want.Put v) = event.Put n d v
requesting n d want.Del = event.Del n d

-- a request of the client
abbrev pub client_requesting : List ℕ → Want → Event
client_requesting d want.Get = event.ClientGet d
client_requesting d (want.Put v) = event.ClientPut d v
client_requesting d want.Del = event.ClientDel d

-- a node is marked as one that is about to leave, or the mark is taken away
abbrev pub marking : ℕ → Bool → Event
marking n true = event.Quiesce n
marking n false = event.Unquiesce n

-- the line of a mark
abbrev pub mark_line : ℕ → Bool → Line
mark_line n true = line.Quiesce n
mark_line n false = line.Unquiesce n

-- ---- a step

-- the step of the event is taken, or the run is as it was; RunTooLong says that its lines don't fit
pub record TakesStep (old new : RunSoFar) (e : Event) (result : Result (Unit {0}) StepFault)
    : Type 0 where
  pub ok : OnOk result (new ≡ stepped old e)
  pub within : OnOk result (IsWithin (run_lines old ++ next_lines old e))
  pub too_long : IsErrOf result RunTooLong → ¬ IsWithin (run_lines old ++ next_lines old e)
  pub err : OnErr result (new ≡ old)

-- The laws of flows and rounds, and of the calm that they come to.
use Rattle.std.specs.Prelude.{◌≡◌, ◌⊎◌, ℕ, ◌+◌, ◌<◌, ◌≤◌, suc, List, ◌++◌, None, true, false, length, map}
use Rattle.cluster_types.specs.declared.member.Member.{Member}
use Rattle.cluster_types.specs.Partitions.{partition_count}
use Rattle.journal_lines.specs.declared.line.Line.{Line}
use Rattle.script_lang.specs.declared.script.Script.{Script}
use Rattle.script_lang.specs.Proper.{IsProper}
use Rattle.journal_readings.specs.Lines.{has_node}
use Rattle.node_rules.specs.Standing.{is_done}
use Rattle.cluster_rules.specs.declared.event.Event.TheVariants as event
use Rattle.cluster_rules.specs.Begun.{AreBegun}
use Rattle.cluster_rules.specs.Calm.{is_calm}
use Rattle.cluster_rules.specs.CalmBound.{ComesInTime, IsBehindFull, IsWithinCalm, calm_limit, is_full_round, open_transactions, records_held}
use Rattle.cluster_rules.specs.FrontRuns.{FrontRun}
use Rattle.cluster_rules.specs.Opening.{Header}
use Rattle.cluster_rules.specs.Runs.{Calms}
use Rattle.cluster_rules.specs.Steps.{Played, Step, all_lines, flow, play_all, rounds}
use Rattle.cluster_rules.specs.World.{World}
use Rattle.run_laws.specs.Taken.{Taken, line_bound}
use Rattle.run_laws.specs.Worlds.{world_after}
use Rattle.calm_laws.specs.Calming.{Settling}
use Rattle.calm_laws.specs.Exchanges.{Exchanged}
use Rattle.calm_laws.specs.Flows.{Clear, Flowed, Foreign, Fresh, HeardAs, InOrder, Named, Near, Once, Plain, Ticked, look, world_at}
use Rattle.calm_laws.specs.Footing.{Footing}
use Rattle.calm_laws.specs.Ground.{Agreed, Basis, Provisions}
use Rattle.calm_laws.specs.Handing.{AtMostPending, NothingOut}
use Rattle.calm_laws.specs.Schedules.{Schedule}
use Rattle.calm_laws.specs.Transacting.{NoneOpen}

-- ---- flows and ticks

-- in a flow in which no message lacks a place each node makes what it makes of what comes to it, and what it sends
-- comes next
abbrev pub FlowsGo : Type 0
FlowsGo =
    (n : ℕ) (w : World) → Named w → InOrder w → Clear n w (map event.Deliver w.network.flying)
    → Flowed n w (flow n w).world

-- the same of ticks: what was in flight comes in the next flow, and then what they sent
abbrev pub TicksGo : Type 0
TicksGo =
    (n : ℕ) (w : World) (ns : List ℕ) → Named w → InOrder w → Once ns
    → Clear n w (map event.Tick ns) → Ticked n w (play_all n (map event.Tick ns) w).world ns

-- ---- hearing

-- from the second round on an up node has the beat of that round of each up node near to it, and the beat names the
-- hearer
abbrev pub NearAreHeard : Type 0
NearAreHeard =
    (n : ℕ) (ns : List ℕ) (w : World) (most : ℕ) → Plain n ns w most → (a m : ℕ) → Near ns w a m
    → Near ns w m a → (k : ℕ) → suc (suc k) ≤ most
    → HeardAs (Fresh ((world_at n w (suc k)).facts a).role m)
    ((world_at n w (suc (suc k))).facts m).hearing.heard a

-- from the eleventh round on it hears nobody that isn't up or is apart from it
abbrev pub OthersAreForgotten : Type 0
OthersAreForgotten =
    (n : ℕ) (ns : List ℕ) (w : World) (most : ℕ) → Plain n ns w most → (a m : ℕ)
    → has_node ns m ≡ true → Foreign ns w a m → (k : ℕ) → 10 ≤ k → suc k ≤ most
    → look ((world_at n w (suc k)).facts m).hearing.heard a ≡ None

-- ---- agreement, exchange and handing on

-- a group is in one view of just it from the fifteenth round on
abbrev pub GroupsAgree : Type 0
GroupsAgree =
    (n : ℕ) (ns gs : List ℕ) (g : ℕ) (set : List Member) (w : World) (most : ℕ)
    → Basis n ns gs g set w most → 15 ≤ most → Agreed n gs g set w most

-- it is so of each group that has agreed, and has what the phases behind agreement stand on
abbrev pub OfAgreed : ((n : ℕ) (gs : List ℕ) (w : World) (most : ℕ) → Type 0) → Type 0
OfAgreed P =
    (n : ℕ) (ns gs : List ℕ) (g : ℕ) (set : List Member) (w : World) (most : ℕ)
    → Basis n ns gs g set w most → (a : Agreed n gs g set w most) → Provisions n gs w most a.key
    → P n gs w most

-- all of it have finished the exchange at the end of the sixteenth round and of each later one
abbrev pub ExchangeEnds : (n : ℕ) (gs : List ℕ) (w : World) (most : ℕ) → Type 0
ExchangeEnds n gs w most = (j : ℕ) → 16 + j ≤ most → Exchanged gs (world_at n w (16 + j))

-- and no transaction is open at them
abbrev pub TransactionsEnd : (n : ℕ) (gs : List ℕ) (w : World) (most : ℕ) → Type 0
TransactionsEnd n gs w most = (j : ℕ) → 16 + j ≤ most → NoneOpen gs (world_at n w (16 + j))

-- no batch is out at the end of the seventeenth round and of each later one
abbrev pub BatchesArrive : (n : ℕ) (gs : List ℕ) (w : World) (most : ℕ) → Type 0
BatchesArrive n gs w most =
    (j : ℕ) → suc (16 + j) ≤ most → NothingOut gs (world_at n w (suc (16 + j)))

-- nothing is pending after as many rounds more as were the most digests that were pending to one node
abbrev pub PendingEnds : (n : ℕ) (gs : List ℕ) (w : World) (most : ℕ) → Type 0
PendingEnds n gs w most =
    (p : ℕ) → 17 + p ≤ most
    → AtMostPending p gs (world_at n w 17) → AtMostPending 0 gs (world_at n w (17 + p))

-- then each node is done at each partition
abbrev pub AllAreDone : (n : ℕ) (gs : List ℕ) (w : World) (most : ℕ) → Type 0
AllAreDone n gs w most =
    (q : ℕ) → 17 + q ≤ most → AtMostPending q gs (world_at n w 17) → (m : ℕ) → has_node gs m ≡ true
    → (p : ℕ) → is_done ((world_at n w (17 + q)).facts m) p ≡ true

-- ---- settling, and calm

-- all of it know each partition settled three rounds after nothing is pending any more
abbrev pub GroupsSettle : Type 0
GroupsSettle =
    (ns gs : List ℕ) (g : ℕ) (set : List Member) (w : World) (most : ℕ)
    → Basis partition_count ns gs g set w most → (a : Agreed partition_count gs g set w most)
    → Provisions partition_count gs w most a.key → (q : ℕ) → 20 + q ≤ most
    → AtMostPending q gs (world_at partition_count w 17)
    → Footing partition_count gs set w (17 + q) (20 + q)
    → Settling partition_count gs (world_at partition_count w (20 + q))

-- a schedule of calm comes to calm after 21 rounds and as many more as were the most digests that were pending to one
-- node
abbrev pub SchedulesCalm : Type 0
SchedulesCalm =
    (ns : List ℕ) (w : World) (most q : ℕ) → 21 + q ≤ most → Schedule ns w most q
    → is_calm (world_at partition_count w (21 + q)) ≡ true

-- no more rounds of calm than that are begun, from whichever round on that they are counted
abbrev pub FewAreBegun : Type 0
FewAreBegun =
    (ns : List ℕ) (w : World) (q : ℕ) (x : Played) (b : AreBegun partition_count w x)
    (from rest : ℕ)
    → from + rest ≡ b.number → Schedule ns (world_at partition_count w from) rest q → rest ≤ 21 + q

-- and they are within what calm may take, where so many rounds are
abbrev pub BegunAreWithin : Type 0
BegunAreWithin =
    (ns : List ℕ) (w : World) (q : ℕ) (x : Played) (b : AreBegun partition_count w x)
    (from rest : ℕ)
    → from + rest ≡ b.number → (from ≡ 0) ⊎ IsBehindFull partition_count w b.number from
    → Schedule ns (world_at partition_count w from) rest q → 21 + q ≤ calm_limit w
    → IsWithinCalm partition_count w b.number

-- ---- runs

-- a run may go on so after those taken steps: a number is left for one line more
pub record MayComeIn (h : Header) (ss more : List Step) : Type 0 where
  pub taken : Taken h ss
  pub room : length (all_lines (ss ++ more)) + 1 < line_bound

-- so many rounds are enough: 21, and one for each record that is held and for each transaction that is open
abbrev pub enough : World → ℕ
enough w = 21 + (records_held w + open_transactions w)

-- none of so many rounds loses a message for want of a place
abbrev pub NoneIsFull : World → ℕ → Type 0
NoneIsFull w number = (k : ℕ) → k < number → is_full_round partition_count w k ≡ false

-- so many rounds of calm that begin in that world are in time: whatever was lost, they are no more than calm may take, and
-- where nothing was, no more than are enough
pub record AreInTime (w : World) (number : ℕ) : Type 0 where
  pub within : IsWithinCalm partition_count w number
  pub few : NoneIsFull w number → number ≤ enough w

-- rounds of calm that are begun in a run are in time
abbrev pub BegunAreInTime : Type 0
BegunAreInTime =
    (h : Header) (ss : List Step) (x : Played) (b : AreBegun partition_count (world_after h ss) x)
    → MayComeIn h ss x.steps → AreInTime (world_after h ss) b.number

-- so are those of a calm that is played whole
abbrev pub WholeAreInTime : Type 0
WholeAreInTime =
    (h : Header) (ss : List Step) (x : Played) (c : Calms partition_count (world_after h ss) x)
    → MayComeIn h ss x.steps → AreInTime (world_after h ss) c.number

-- wherever among these steps rounds of calm are begun, they are in time
abbrev pub CalmsInTime : Header → List Step → Type 0
CalmsInTime h taken =
    (ss others : List Step) (x : Played) (b : AreBegun partition_count (world_after h ss) x)
    → taken ≡ ss ++ (x.steps ++ others) → AreInTime (world_after h ss) b.number

-- it is so in as much of a proper script's run as a journal has
abbrev pub ScriptsCalmInTime : Type 0
ScriptsCalmInTime =
    (s : Script) → IsProper s → (lines : List Line) (r : FrontRun s lines)
    → length lines + 1 < line_bound → CalmsInTime s.header r.taken

-- whatever steps a run has taken, the world is calm after enough rounds more of which none loses a message for want of
-- a place
abbrev pub CalmComes : Type 0
CalmComes =
    (h : Header) (ss : List Step)
    → MayComeIn h ss (rounds partition_count (enough (world_after h ss)) (world_after h ss)).steps
    → NoneIsFull (world_after h ss) (enough (world_after h ss))
    → ComesInTime partition_count (world_after h ss)

-- What a world keeps through a call.
use Rattle.std.proofs.Common.{◌≡◌, ◌≢◌, ℕ, ◌+◌, ◌≤◌, ◌<◌, Bool, true, false, get_or, List, [], ◌∷◌, ◌++◌, AllPairs, length, map, Option, Result, Ok, Err, OnOk, OnErr, refl, sym, ap, subst, ◌∙◌, arith}
use Rattle.std.specs.Result.{IsErr, IsErrAnd}
use Rattle.std.specs.Prelude.{IsErrOf, nat_lt, Contains, slice_get, option_map, Some, None}
use Rattle.std.proofs.lemmas.Option.{get_or_from_slice_get, slice_get-map, slice_get_within}
use Rattle.partition_lists.specs.Lists.{in_order}
use Rattle.journal_lines.specs.declared.line.Line.{Line}
use Rattle.journal_text.specs.Journals.{IsWithin}
use Rattle.net_script.specs.Network as nets
use Rattle.node_rules.specs.Facts.{Facts}
use Rattle.node_rules.specs.Steps.{Planning}
use Rattle.cluster_rules.specs.declared.event.Event.{Event}
use Rattle.cluster_rules.specs.Allowed.{event_nodes}
use Rattle.cluster_rules.specs.NodeSteps.{after_step}
use Rattle.cluster_rules.specs.Opening.{declared_nodes}
use Rattle.cluster_rules.specs.World as worlds
use Rattle.run_laws.specs.Taken.{IsProperEvent}
use Rattle.world.specs.declared.fault.StepFault.{StepFault}
use Rattle.world.specs.declared.fault.StepFault.TheVariants as fault
use Rattle.world.specs.declared.ledger.Ledger.{Ledger}
use Rattle.world.specs.declared.world.World.TheInside.{Inside}
use Rattle.world.specs.Fits.{FitsRun}
use Rattle.world.specs.Kept.{Keeps, run_of}
use Rattle.world.specs.Arriving.{OnlyLands}
use Rattle.world.specs.Ledgers.{IsSameLedger, Wrote}
use Rattle.world.specs.Sent.{landing_from}
use Rattle.world.specs.Stands.{Stands}
use Rattle.world.specs.Steps.{RunSoFar, MayCome, StandsAt, TakesStep, next_lines, run_of_events, standing}
use Rattle.world.proofs.EventLaws.{TellsOnly, stands_landed}
use Rattle.world.proofs.NetLaws.{same_network}
use Rattle.world.proofs.KnownLaws.{names_declared}
use Rattle.world.proofs.Places.{image_at, place_within}
use Rattle.world.proofs.RunFacts.{known}
use Rattle.world.proofs.RunLaws.{fits_more, fits_same, standing_after}
use Rattle.world.proofs.StepLaws.{ids_are, ids_differ, takes, takes_nothing}

-- the network is the same
pub still : (net : nets.NetworkState) → nets.IsSameNetwork net net
still net = record { flying = refl; sent = refl; groups = refl }

-- ---- the parts of a world that is seen as that run

pub stands_of : (w : Inside) (now : RunSoFar) → run_of w ≡ now → Keeps w → Stands (standing now) w.ids w.nodes.items w.clocks.items w.net w.client
stands_of w now seen k = subst (λ (r : RunSoFar). Stands (standing r) w.ids w.nodes.items w.clocks.items w.net w.client) seen k.stands

pub fits_of : (w : Inside) (now : RunSoFar) → run_of w ≡ now → Keeps w → FitsRun now w.net.sent w.ledger.journal.lines
fits_of w now seen k = subst
    (λ (r : RunSoFar). FitsRun r w.net.sent w.ledger.journal.lines) seen k.fits

pub distinct_of : (w : Inside) (now : RunSoFar) → run_of w ≡ now → Keeps w → AllPairs (λ x y. x ≢ y) w.ids
distinct_of w now seen k = ids_differ now w.ids w.nodes.items w.clocks.items w.net w.client w.net.sent w.ledger.journal.lines (stands_of w now seen k) (fits_of w now seen k)

pub ids_of_world : (w : Inside) (now : RunSoFar) → run_of w ≡ now → Keeps w → w.ids ≡ in_order nat_lt (declared_nodes now.header)
ids_of_world w now seen k = ids_are now w.ids w.nodes.items w.clocks.items w.net w.client (stands_of w now seen k)

-- the id at a place
pub id_at : (w : Inside) (now : RunSoFar) (place n : ℕ) → run_of w ≡ now → Keeps w → StandsAt now place n → slice_get w.ids place ≡ Some n
id_at w now place n seen k at = ap (λ (ids : List ℕ). slice_get ids place) (ids_of_world w now seen k) ∙ at

-- the node at a place has the facts of its id
pub node_at : (w : Inside) (now : RunSoFar) (place n : ℕ) (node : Planning) → run_of w ≡ now → Keeps w → StandsAt now place n → node ≡ get_or w.nodes.items place node → node.now ≡ (standing now).facts n
node_at w now place n node seen k at read =
    image_at (λ (x : Planning). x.now) (standing now).facts w.nodes.items w.ids place node n (stands_of w now seen k).facts read (id_at w now place n seen k at)

-- ---- a step that was taken

pub keeps_after : (w v : Inside) (now : RunSoFar) (e : Event) (ms : List Line) → run_of w ≡ now → Keeps w → v.header.items ≡ w.header.items → ms ≡ next_lines now e → MayCome now e → IsProperEvent e
    → Wrote w.ledger v.ledger ms e → IsWithin (w.ledger.journal.lines ++ ms) → v.net.sent ≤ w.net.sent + length ms
    → Stands (after_step (standing now) e) v.ids v.nodes.items v.clocks.items v.net v.client → Keeps v
keeps_after w v now e ms seen k same made comes proper wrote within few after =
    let made' : ms ≡ next_lines (run_of w) e = subst (λ (r : RunSoFar). ms ≡ next_lines r e) (sym seen) made in
    let comes' : MayCome (run_of w) e = subst (λ (r : RunSoFar). MayCome r e) (sym seen) comes in
    let after' : Stands (after_step (standing (run_of w)) e) v.ids v.nodes.items v.clocks.items v.net v.client = subst (λ (r : RunSoFar). Stands (after_step (standing r) e) v.ids v.nodes.items v.clocks.items v.net v.client) (sym seen) after in
    record {
      stands = subst (λ (h : Rattle.cluster_rules.specs.Opening.Header). Stands (standing (run_of_events h v.ledger.events.items)) v.ids v.nodes.items v.clocks.items v.net v.client) (sym same)
          (subst (λ (x : worlds.World). Stands x v.ids v.nodes.items v.clocks.items v.net v.client) (sym (standing_after w.header.items w.ledger.events.items v.ledger.events.items e wrote.events)) after');
      fits = subst (λ (h : Rattle.cluster_rules.specs.Opening.Header). FitsRun (run_of_events h v.ledger.events.items) v.net.sent v.ledger.journal.lines) (sym same)
          (fits_more w.header.items w.ledger.events.items v.ledger.events.items e w.net.sent v.net.sent w.ledger.journal.lines v.ledger.journal.lines ms k.fits wrote.events wrote.lines made' comes' proper (subst IsWithin (sym wrote.lines) within) few);
    }

-- ---- a step that wasn't

pub keeps_same : (w v : Inside) → Keeps w → v.header.items ≡ w.header.items → v.ids ≡ w.ids → map (λ (x : Planning). x.now) v.nodes.items ≡ map (λ (x : Planning). x.now) w.nodes.items
    → v.clocks.items ≡ w.clocks.items → nets.IsSameNetwork w.net v.net → v.client ≡ w.client → IsSameLedger w.ledger v.ledger → Keeps v
keeps_same w v k header ids nodes clocks net entries ledger =
    let runs : run_of v ≡ run_of w = Rattle.std.proofs.Common.ap₂ run_of_events header ledger.events in
    record {
      stands = subst (λ (r : RunSoFar). Stands (standing r) v.ids v.nodes.items v.clocks.items v.net v.client) (sym runs) (record {
        declared = ids ∙ k.stands.declared;
        facts = nodes ∙ k.stands.facts ∙ ap (λ (ns : List ℕ). map (standing (run_of w)).facts ns) (sym ids);
        times = clocks ∙ k.stands.times ∙ ap (λ (ns : List ℕ). map (standing (run_of w)).clocks ns) (sym ids);
        network = same_network w.net v.net (standing (run_of w)).network net k.stands.network;
        tables = subst (λ es. Rattle.client_map.specs.Entries.Holds (standing (run_of w)).tables es) (sym entries) k.stands.tables;
      });
      fits = subst (λ (h : Rattle.cluster_rules.specs.Opening.Header). FitsRun (run_of_events h v.ledger.events.items) v.net.sent v.ledger.journal.lines) (sym header)
          (fits_same w.header.items w.ledger.events.items v.ledger.events.items w.net.sent v.net.sent w.ledger.journal.lines v.ledger.journal.lines k.fits ledger.events net.sent ledger.lines);
    }

-- ---- a step that was taken or wasn't

-- the event's lines alone were written, and a message may have left
pub stands_over : (w : Inside) (now : RunSoFar) (e : Event) (landing : Option ℕ) (net : nets.NetworkState) → run_of w ≡ now → Keeps w → OnlyLands now e landing → nets.IsSameNetwork (landing_from w.net landing) net
    → Stands (after_step (standing now) e) w.ids w.nodes.items w.clocks.items net w.client
stands_over w now e landing net seen k only same =
    stands_landed now e landing w.ids w.nodes.items w.clocks.items w.net net w.client only (stands_of w now seen k) same

pub landing_few : (net new : nets.NetworkState) (landing : Option ℕ) (ms : List Line) → nets.IsSameNetwork (landing_from net landing) new → new.sent ≤ net.sent + length ms
landing_few net new None ms same = omega (arith, same.sent)
landing_few net new (Some i) ms same = omega (arith, same.sent)

pub keeps_told : (w : Inside) (now : RunSoFar) (new : Ledger) (e : Event) (ms : List Line) (r : Result (Unit {0}) StepFault)
    → run_of w ≡ now → Keeps w → ms ≡ next_lines now e → MayCome now e → IsProperEvent e → OnlyLands now e None
    → OnOk r (Wrote w.ledger new ms e) → OnOk r (IsWithin (w.ledger.journal.lines ++ ms)) → OnErr r (IsSameLedger w.ledger new)
    → Keeps (record w { ledger = new })
keeps_told w now new e ms (Ok u) seen k made comes proper only wrote within same =
    keeps_after w (record w { ledger = new }) now e ms seen k refl made comes proper wrote within (omega arith) (stands_over w now e None w.net seen k only (still w.net))
keeps_told w now new e ms (Err x) seen k made comes proper only wrote within same =
    keeps_same w (record w { ledger = new }) k refl refl refl refl (still w.net) refl same

-- ---- what a caller sees

pub step_taken : (w : Inside) (now : RunSoFar) (new : Ledger) (e : Event) (ms : List Line) (r : Result (Unit {0}) StepFault) → run_of w ≡ now → Keeps w → ms ≡ next_lines now e
    → OnOk r (Wrote w.ledger new ms e) → OnOk r (IsWithin (w.ledger.journal.lines ++ ms)) → (IsErrOf r fault.RunTooLong → ¬ IsWithin (w.ledger.journal.lines ++ ms)) → OnErr r (IsSameLedger w.ledger new)
    → TakesStep now (run_of_events w.header.items new.events.items) e r
step_taken w now new e ms r seen k made wrote within long same =
    takes now w.header.items w.ledger new e w.net.sent ms r (sym seen) k.fits (subst (λ (x : RunSoFar). ms ≡ next_lines x e) (sym seen) made) wrote within long same

-- it failed with what a callee answered, handed on
pub step_failed : (w : Inside) (now : RunSoFar) (new : Ledger) (e : Event) (ms : List Line) (r r' : Result (Unit {0}) StepFault) (x : StepFault) → run_of w ≡ now → Keeps w → ms ≡ next_lines now e
    → r ≡ Err x → IsErr r' × IsErrAnd r' (λ y. y ≡ x) → OnOk r (Wrote w.ledger new ms e) → OnOk r (IsWithin (w.ledger.journal.lines ++ ms)) → (IsErrOf r fault.RunTooLong → ¬ IsWithin (w.ledger.journal.lines ++ ms)) → OnErr r (IsSameLedger w.ledger new)
    → TakesStep now (run_of_events w.header.items new.events.items) e r'
step_failed w now new e ms r (Ok u) x seen k made was handed wrote within long same = cc handed.0
step_failed w now new e ms r (Err y) x seen k made was handed wrote within long same =
    subst (λ (z : Result (Unit {0}) StepFault). TakesStep now (run_of_events w.header.items new.events.items) e z) (was ∙ ap Err (sym handed.1)) (step_taken w now new e ms r seen k made wrote within long same)

-- memory was refused before the journal was asked
pub step_refused : (w : Inside) (now : RunSoFar) (new : Ledger) (e : Event) (r : Result (Unit {0}) StepFault) → run_of w ≡ now → IsSameLedger w.ledger new → IsErr r × IsErrAnd r (λ y. y ≡ fault.NoMemory) → TakesStep now (run_of_events w.header.items new.events.items) e r
step_refused w now new e (Ok u) seen same none = cc none.0
step_refused w now new e (Err y) seen same none = takes_nothing now w.header.items w.ledger.events.items new.events.items e y (sym seen) same.events none.1

-- ---- a step of which lines are told, and nothing else

pub step_tells : (w : Inside) (now : RunSoFar) (new : Ledger) (e : Event) (ms : List Line) (r : Result (Unit {0}) StepFault) → run_of w ≡ now → Keeps w → TellsOnly now e ms
    → OnOk r (Wrote w.ledger new ms e) → OnOk r (IsWithin (w.ledger.journal.lines ++ ms)) → (IsErrOf r fault.RunTooLong → ¬ IsWithin (w.ledger.journal.lines ++ ms)) → OnErr r (IsSameLedger w.ledger new)
    → TakesStep now (run_of_events w.header.items new.events.items) e r
step_tells w now new e ms r seen k tells wrote within long same = step_taken w now new e ms r seen k tells.due wrote within long same

pub keeps_tells : (w : Inside) (now : RunSoFar) (new : Ledger) (e : Event) (ms : List Line) (r : Result (Unit {0}) StepFault) → run_of w ≡ now → Keeps w → TellsOnly now e ms → MayCome now e
    → OnOk r (Wrote w.ledger new ms e) → OnOk r (IsWithin (w.ledger.journal.lines ++ ms)) → OnErr r (IsSameLedger w.ledger new)
    → Keeps (record w { ledger = new })
keeps_tells w now new e ms r seen k tells comes wrote within same = keeps_told w now new e ms r seen k tells.due comes tells.proper tells.only wrote within same

-- ---- the node and the clock at a place

pub node_within : (w : Inside) (now : RunSoFar) (place n : ℕ) → run_of w ≡ now → Keeps w → StandsAt now place n → place < length w.nodes.items
node_within w now place n seen k at =
    place_within (λ (x : Planning). x.now) (standing now).facts w.nodes.items w.ids place n (stands_of w now seen k).facts (id_at w now place n seen k at)

time_at : (w : Inside) (now : RunSoFar) (place n : ℕ) → run_of w ≡ now → Keeps w → StandsAt now place n → slice_get w.clocks.items place ≡ Some ((standing now).clocks n)
time_at w now place n seen k at =
    ap (λ (ts : List ℕ). slice_get ts place) (stands_of w now seen k).times
    ∙ slice_get-map (standing now).clocks w.ids place
    ∙ ap (option_map (standing now).clocks) (id_at w now place n seen k at)

pub clock_within : (w : Inside) (now : RunSoFar) (place n : ℕ) → run_of w ≡ now → Keeps w → StandsAt now place n → place < length w.clocks.items
clock_within w now place n seen k at = slice_get_within w.clocks.items place ((standing now).clocks n) (time_at w now place n seen k at)

pub clock_at : (w : Inside) (now : RunSoFar) (place n d : ℕ) → run_of w ≡ now → Keeps w → StandsAt now place n → get_or w.clocks.items place d ≡ (standing now).clocks n
clock_at w now place n d seen k at = get_or_from_slice_get w.clocks.items place ((standing now).clocks n) d (time_at w now place n seen k at)

-- a number that isn't declared is down
pub not_up : (w : Inside) (now : RunSoFar) (n : ℕ) → run_of w ≡ now → Keeps w → ¬ (Contains (declared_nodes now.header) n) → worlds.is_up (standing now) n ≡ false
not_up w now n seen k unknown = go (worlds.is_up (standing now) n) refl
  where
    go : (b : Bool) → worlds.is_up (standing now) n ≡ b → b ≡ false
    go true up = absurd (unknown ((known now (fits_of w now seen k).taken).up n up))
    go false up = refl

pub its_own : (w : Inside) (now : RunSoFar) (n : ℕ) → run_of w ≡ now → Keeps w → ((standing now).facts n).me ≡ n
its_own w now n seen k = (known now (fits_of w now seen k).taken).me n

-- the place of a node that an event names
pub named_declared : (now : RunSoFar) (e e' : Event) (n : ℕ) → e ≡ e' → event_nodes e' ≡ n ∷ [] → MayCome now e → Contains (declared_nodes now.header) n
named_declared now e e' n is named comes = names_declared now e' n named (subst (MayCome now) is comes)

-- the step was taken
pub step_done : (w : Inside) (now : RunSoFar) (new : Ledger) (e : Event) (ms : List Line) → run_of w ≡ now → Keeps w → ms ≡ next_lines now e → Wrote w.ledger new ms e → IsWithin (w.ledger.journal.lines ++ ms)
    → TakesStep now (run_of_events w.header.items new.events.items) e (Ok tt)
step_done w now new e ms seen k made wrote within = step_taken w now new e ms (Ok tt) seen k made wrote within (λ is x. cc) tt

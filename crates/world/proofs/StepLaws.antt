-- A step that is taken, and one that isn't.
use Rattle.std.proofs.Common.{◌≡◌, ◌≢◌, ℕ, ◌+◌, ◌≤◌, List, ◌++◌, AllPairs, length, Option, Result, Ok, Err, OnOk, OnErr, refl, sym, ap, subst, ◌∙◌}
use Rattle.std.specs.Prelude.{IsErrOf, nat_lt}
use Rattle.std.specs.Result.{IsErr, IsErrAnd}
use Rattle.partition_lists.specs.Lists.{in_order}
use Rattle.client_map.specs.declared.client_map.Entry.{Entry}
use Rattle.journal_lines.specs.declared.line.Line.{Line}
use Rattle.journal_text.specs.Journals.{IsWithin}
use Rattle.net_script.specs.Network as nets
use Rattle.node_rules.specs.Steps.{Planning}
use Rattle.cluster_rules.specs.declared.event.Event.{Event}
use Rattle.cluster_rules.specs.NodeSteps.{after_step}
use Rattle.cluster_rules.specs.Opening.{Header, declared_nodes}
use Rattle.run_laws.specs.Taken.{IsProperEvent}
use Rattle.world.specs.declared.fault.StepFault.{StepFault}
use Rattle.world.specs.declared.fault.StepFault.TheVariants as fault
use Rattle.world.specs.declared.ledger.Ledger.{Ledger}
use Rattle.world.specs.Fits.{FitsRun}
use Rattle.world.specs.Ledgers.{IsSameLedger, Wrote}
use Rattle.world.specs.Stands.{Stands}
use Rattle.world.specs.Steps.{RunSoFar, MayCome, TakesStep, next_lines, run_of_events, standing}
use Rattle.world.proofs.KnownLaws.{ids_distinct, same_nodes}
use Rattle.world.proofs.RunLaws.{fits_more, fits_same, run_after, standing_after, would_have}

-- the step's result, where its lines are those that are due
pub takes : (now : RunSoFar) (h : Header) (old new : Ledger) (e : Event) (sent : ℕ) (ms : List Line) (r : Result (Unit {0}) StepFault)
    → now ≡ run_of_events h old.events.items → FitsRun (run_of_events h old.events.items) sent old.journal.lines → ms ≡ next_lines (run_of_events h old.events.items) e
    → OnOk r (Wrote old new ms e) → OnOk r (IsWithin (old.journal.lines ++ ms)) → (IsErrOf r fault.RunTooLong → ¬ IsWithin (old.journal.lines ++ ms)) → OnErr r (IsSameLedger old new)
    → TakesStep now (run_of_events h new.events.items) e r
takes now h old new e sent ms (Ok u) seen fits made wrote within long same = record {
  ok = run_after now h old.events.items new.events.items e seen wrote.events;
  within = subst IsWithin (would_have now h old.events.items e sent old.journal.lines ms seen fits made) within;
  too_long = λ is w. cc;
  err = tt;
}
takes now h old new e sent ms (Err x) seen fits made wrote within long same = record {
  ok = tt;
  within = tt;
  too_long = λ is w. long is (subst IsWithin (sym (would_have now h old.events.items e sent old.journal.lines ms seen fits made)) w);
  err = ap (run_of_events h) same.events ∙ sym seen;
}

-- memory was refused before the journal was asked
pub takes_nothing : (now : RunSoFar) (h : Header) (es es' : List Event) (e : Event) (x : StepFault) → now ≡ run_of_events h es → es' ≡ es → x ≡ fault.NoMemory → TakesStep now (run_of_events h es') e (Err x)
takes_nothing now h es es' e x seen kept none = record {
  ok = tt;
  within = tt;
  too_long = λ is w. cc;
  err = ap (run_of_events h) kept ∙ sym seen;
}

-- the same of a world that wasn't opened
pub takes_none : (now : RunSoFar) (e : Event) (r : Result (Unit {0}) StepFault) → IsErr r × IsErrAnd r (λ y. y ≡ fault.NoMemory) → TakesStep now now e r
takes_none now e (Ok u) none = cc none.0
takes_none now e (Err x) none = takes_so x none.1
  where
    takes_so : (x : StepFault) → x ≡ fault.NoMemory → TakesStep now now e (Err x)
    takes_so x is = record { ok = tt; within = tt; too_long = λ long w. cc; err = refl }

-- ---- what stands in a world

pub ids_are : (r : RunSoFar) (ids : List ℕ) (nodes : List Planning) (clocks : List ℕ) (net : nets.NetworkState) (entries : List (Option Entry)) → Stands (standing r) ids nodes clocks net entries → ids ≡ in_order nat_lt (declared_nodes r.header)
ids_are r ids nodes clocks net entries h = h.declared ∙ ap (in_order nat_lt) (same_nodes r)

pub ids_differ : (r : RunSoFar) (ids : List ℕ) (nodes : List Planning) (clocks : List ℕ) (net : nets.NetworkState) (entries : List (Option Entry)) (sent : ℕ) (ls : List Line) → Stands (standing r) ids nodes clocks net entries → FitsRun r sent ls → AllPairs (λ x y. x ≢ y) ids
ids_differ r ids nodes clocks net entries sent ls h fits = subst (λ (ns : List ℕ). AllPairs (λ x y. x ≢ y) ns) (sym (ids_are r ids nodes clocks net entries h)) (ids_distinct (declared_nodes r.header) fits.taken.declared.distinct).differ

-- What a world keeps.
use Rattle.world.specs.Fits.{FitsRun}
use Rattle.world.specs.Stands.{Stands}
use Rattle.world.specs.Steps.{RunSoFar, standing, run_of_events}
use Rattle.world.specs.declared.world.World.TheInside.{Inside}

abbrev pub run_of : Inside → RunSoFar
run_of w = run_of_events w.header.items w.ledger.events.items

-- the parts stand as the world does after the run's steps, and the journal fits
pub record Keeps (w : Inside) : Type 0 where
  pub stands : Stands (standing (run_of w)) w.ids w.nodes.items w.clocks.items w.net w.client
  pub fits : FitsRun (run_of w) w.net.sent w.ledger.journal.lines

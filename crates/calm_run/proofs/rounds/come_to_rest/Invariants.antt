use Rattle.std.proofs.Common.{◌≤◌, ◌-◌, length}
use Rattle.journal_text.specs.Journals.{line_limit}
use Rattle.world.specs.Steps.{run_lines}
use Rattle.calm_run.proofs.RoundLaws.{AreRounds}
use Rattle.calm_run.proofs.rounds.come_to_rest.Given as goal

-- each round so far wrote a line
abbrev pub invariant-loop-world : goal.invariant-loop-world
invariant-loop-world l = record {
  rounds : AreRounds l.initial.world l.world l.rounds;
  few : l.rounds ≤ length (run_lines l.world);
}

-- the lines that the journal has room for
abbrev pub decreases-loop-world : goal.decreases-loop-world
decreases-loop-world l = line_limit - length (run_lines l.world)

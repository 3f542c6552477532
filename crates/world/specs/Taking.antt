-- What an endpoint's step writes.
use Rattle.std.specs.Prelude.{List, ◌++◌, length}
use Rattle.journal_lines.specs.declared.line.Line.{Line}
use Rattle.net_script.specs.Network as nets
use Rattle.world.specs.declared.taking.EndStep.{EndStep}
use Rattle.world.specs.Sent.{landing_from, posted_lines}

-- its own lines, and then those of its messages
abbrev pub end_step_lines : EndStep → nets.NetworkState → List Line
end_step_lines s net =
    s.effects.lines
    ++ posted_lines s.from net.sent (length (landing_from net s.landing).flying) s.effects.sends

-- the step with all of these lines
abbrev pub with_all_lines : EndStep → nets.NetworkState → EndStep
with_all_lines s net = record s { effects = record s.effects { lines = end_step_lines s net } }

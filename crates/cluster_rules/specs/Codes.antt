-- The codes of what steps are made of. A model whose value is a list of steps finds its code by
-- `hlevel step_codes`.
use Rattle.std.specs.Coded.{Coded, codes}
use Rattle.journal_lines.specs.declared.line.Line.{Line}
use Rattle.journal_lines.specs.contracts.line.Line as line
use Rattle.cluster_rules.specs.declared.event.Event.{Event}
use Rattle.cluster_rules.specs.contracts.event.Event as event

-- the code of a line
abbrev pub line_code : Coded Line
line_code = line.the_row.coded

-- the code of an event
abbrev pub event_code : Coded Event
event_code = event.the_row.coded

-- the codes of both
pub ruleset step_codes = (codes, line_code, event_code)
